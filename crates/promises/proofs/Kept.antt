-- The page is kept: each demand is proved in a file of its own. Assumes nothing.
use Rattle.promises.specs.Demands.{Demand1, Demand2, Demand3}
use Rattle.promises.proofs.Refused.{demand1}
use Rattle.promises.proofs.Taken.{demand2}
use Rattle.promises.proofs.Mixed.{demand3}

pub kept : Demand1 × Demand2 × Demand3
kept = (demand1, demand2, demand3)
