-- An annex: what the pass over the chains answers. No published contract cites it. Assumes nothing.
use Rattle.std.specs.Prelude.{cond, ℕ, zero, suc, ◌/◌, ◌%◌, eqb, Option, Some, None, Result, Ok, Err}
use Rattle.image.specs.declared.Chain.{Chain}
use Rattle.rules.specs.Answer.{says}
use Rattle.rules.specs.Reasons.{number}
use Rattle.rules.specs.declared.Answer.{Answer}
use Rattle.rules.specs.declared.Refusal.{Refusal}
use Rattle.verdict.specs.declared.Outcome.{Outcome}
use Rattle.verdict.specs.declared.Outcome.TheVariants.{Broken, Shares}
use Rattle.verdict.specs.declared.Outcome.TheVariants as outcome
use Rattle.verdict.specs.declared.Told.{Told}

-- where a chain is not sound, a number and an entry; else of one entry the last sector and the number of sectors
pub data Passed : Type 0 where
  Unsound : Answer → Passed
  Sound : ℕ → ℕ → Passed

-- the lowest broken, else entry k shares
abbrev pub unsound_of : ℕ → ℕ → Answer
unsound_of (suc j) k = says 10 (suc j)
unsound_of zero k = says 11 k

-- the lowest broken, the lowest that shares, and of one entry the last sector and the number of sectors
abbrev pub passed_of : ℕ → ℕ → ℕ → ℕ → Passed
passed_of (suc j) k l n = Unsound (says 10 (suc j))
passed_of zero (suc k) l n = Unsound (says 11 (suc k))
passed_of zero zero l n = Sound l n

-- the chain that the one number says which is kept of an entry, if there is one
abbrev pub chain_told : ℕ → Option Chain
chain_told t = cond (eqb (t % 256) 0) None (Some (record { last = t % 256; count = t / 256 }))

-- what the pass ends with
abbrev pub ended : Outcome → Passed
ended (outcome.Sound t) = Sound (t.0 % 256) (t.0 / 256)
ended (Broken j) = Unsound (says 10 j)
ended (Shares k) = Unsound (says 11 k)

-- and what is made of it
abbrev pub passed : Result Told Refusal → Passed
passed (Ok t) = Sound (t.0 % 256) (t.0 / 256)
passed (Err r) = Unsound (says (number r.reason) r.entry)
