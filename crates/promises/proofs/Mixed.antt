-- Demand 3 is kept: steps on different products commute, and `touched` compares all that a step on an entry can alter. Assumes nothing.
use native.Mathlib.Omega.{arith}
use Rattle.steps.proofs.Acts.{refused-same}
use Rattle.steps.proofs.Touches.{touches}
use Rattle.touched.proofs.Told.{told}
use Rattle.jobs.proofs.Jobs.{jobs-mixed}
use Rattle.jobs.proofs.Touched.{touched-named}
use Rattle.promises.specs.Demands.{Demand3}

pub demand3 : Demand3
demand3 = record {
  mixed = λ c b jobs apart m h. jobs-mixed jobs apart m h c b;
  goes_on = λ c s m h. let e = refused-same c s (omega arith) in (rw e, rw e);
  touched = told;
  touches = touches;
  touched-named = λ c j m b t. touched-named m c j b t;
}
