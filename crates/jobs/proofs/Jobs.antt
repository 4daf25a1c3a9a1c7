-- Demand 3, proved: steps on different products commute, so a mix of jobs on different products is a reordering by steps that commute.
-- Assumes nothing.
use mathlib.Core.Path.{◌≡◌}
use mathlib.Core.List.{List}
use Prim.Native.Nat.{ℕ}
use Rattle.bits.specs.Bits.{Bytes}
use Rattle.mixing.specs.Mix.{Mix, Job, lists, Separate}
use Rattle.mixing.specs.Alike.{steps_of, Alike}
use Rattle.mixing.proofs.Jobs.{mixed, alone, same-steps}
use Rattle.steps.specs.Step.{Step, owner}
use Rattle.jobs.specs.Demand.{card_steps, Serves}
use Rattle.jobs.proofs.Commute.{commute}

-- THE THEOREM. On any image of bytes, whatever the jobs, if each is on its product and no two on the same, every mix of their steps that
-- keeps each job's own order serves them.
pub jobs-mixed : (jobs : List (Job Step)) → Separate owner jobs → (m : List Step) → Mix (lists jobs) m → (c : List ℕ) → Bytes c → Serves c jobs m
jobs-mixed jobs sep m h c b = record {
  ends = λ order r. (mixed card_steps owner Bytes commute jobs order sep r m h c b).ends;
  answers = λ order r p. (mixed card_steps owner Bytes commute jobs order sep r m h c b).answers p;
  alone = alone card_steps owner Bytes commute jobs sep m h c b;
}

-- The form that a validator uses: two lists of steps that have, for each product, the same steps in the same order end alike and answer alike.
pub steps_alike : (l m : List Step) → ((p : ℕ) → steps_of owner p l ≡ steps_of owner p m) → (c : List ℕ) → Bytes c → Alike owner card_steps c l m
steps_alike l m h c b = same-steps card_steps owner Bytes commute l m h c b
