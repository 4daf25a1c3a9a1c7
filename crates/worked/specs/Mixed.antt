-- An annex: jobs may mix kinds (document 02, T-02): two jobs on one card, one on a ticket of TYP 23 and one on an area ticket of revision 3: as demand 3 says it,
-- and two mixes of their steps with every answer and the image at the end. Assumes nothing.
use Rattle.std.specs.Prelude.{◌≡◌, List, [], ◌∷◌, ℕ}
use Rattle.bits.specs.Bits.{Bytes}
use Rattle.rules.specs.Answer.{says}
use Rattle.mixing.specs.Run.{end, log}
use Rattle.mixing.specs.Mix.{Mix, Job, lists, Separate, entries_of}
use Rattle.reads.specs.Ticket.{read_ticket}
use Rattle.steps.specs.Step.{Step, write, write_all, owner}
use Rattle.jobs.specs.Demand.{card_steps}
use Rattle.worked.specs.Cards.{mixed_card}
use Rattle.worked.specs.Area.{at600, at1439, wide}

-- the card before any step, and after them all
abbrev pub before : List ℕ
before = mixed_card 0x42 0x58 at600 0

abbrev pub after : List ℕ
after = mixed_card 0x45 0x9F at1439 250

-- the job on entry 1: its ExpiryTime, field 9; a field 23, which TYP 23 has not
abbrev pub ends_1 : Step
ends_1 = write 1 9 1439

abbrev pub refused_1 : Step
refused_1 = write 1 23 250

-- the job on entry 2: its ExpiryTime, field 7; the record of another kind; its AmountPaid, field 23
abbrev pub ends_2 : Step
ends_2 = write 2 7 1439

abbrev pub refused_2 : Step
refused_2 = write_all 2 23 2 (wide 22)

abbrev pub paid_2 : Step
paid_2 = write 2 23 250

abbrev pub both : List (Job Step)
both = record { product = 1; steps = ends_1 ∷ refused_1 ∷ [] } ∷ record { product = 2; steps = ends_2 ∷ refused_2 ∷ paid_2 ∷ [] } ∷ []

-- one job after the other, and step by step
abbrev pub in_turn : List Step
in_turn = ends_1 ∷ refused_1 ∷ ends_2 ∷ refused_2 ∷ paid_2 ∷ []

abbrev pub by_steps : List Step
by_steps = ends_2 ∷ ends_1 ∷ refused_2 ∷ paid_2 ∷ refused_1 ∷ []

pub record Mixed : Type 0 where
  -- what demand 3 asks of a card, of jobs and of a mix of them
  pub card : Bytes before
  pub apart : Separate owner both
  pub mixes : Mix (lists both) in_turn × Mix (lists both) by_steps
  pub in-turn : log card_steps before in_turn ≡ (ends_1, says 0 0) ∷ (refused_1, says 25 1) ∷ (ends_2, says 0 0) ∷ (refused_2, says 22 2) ∷ (paid_2, says 0 0) ∷ []
  pub by-steps : log card_steps before by_steps ≡ (ends_2, says 0 0) ∷ (ends_1, says 0 0) ∷ (refused_2, says 22 2) ∷ (paid_2, says 0 0) ∷ (refused_1, says 25 1) ∷ []
  pub same : (end card_steps before in_turn ≡ after) × (end card_steps before by_steps ≡ after)
  -- both are read then by their own lists: the entries' EXP are 10,000 and 1
  pub ends : ((read_ticket after 1 64).end ≡ 14401439) × ((read_ticket after 2 32).end ≡ 2879)
  -- and whatever the mix
  pub every : (m : List Step) → Mix (lists both) m → (end card_steps before m ≡ after)
      × (entries_of owner 1 (log card_steps before m) ≡ (ends_1, says 0 0) ∷ (refused_1, says 25 1) ∷ [])
      × (entries_of owner 2 (log card_steps before m) ≡ (ends_2, says 0 0) ∷ (refused_2, says 22 2) ∷ (paid_2, says 0 0) ∷ [])
