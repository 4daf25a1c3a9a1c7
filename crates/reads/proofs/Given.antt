-- What a refusal holds: its number is not 0, so every value is 0; a ticket has no values and no part after them. Assumes nothing.
use mathlib.Core.Path.{◌≡◌, refl}
use mathlib.Core.Logic.{◌≢◌}
use mathlib.Core.List.{List, []}
use Prim.Native.Nat.{ℕ, zero, suc}
use native.Mathlib.Omega.{arith}
use lib.ListN.{replicate}
use Rattle.rules.specs.First.{first}
use Rattle.rules.proofs.AnswerLaws.{refused-stays}
use Rattle.rules.specs.Lowest.{lowest}
use Rattle.image.specs.Image.{e#}
use Rattle.image.specs.Rules.{rules}
use Rattle.image.specs.Verdict.{broken_at, shares_at, judged, verdict}
use Rattle.reads.specs.Asked.{or_zero, or_zeros}
use Rattle.reads.specs.Ticket.{read_ticket, fill_of, rest, rest_at}

pub value-refused : (n v : ℕ) → n ≢ 0 → or_zero n v ≡ 0
value-refused zero v h = absurd (h refl)
value-refused (suc n) v h = refl

pub values-refused : (n k : ℕ) (vs : List ℕ) → n ≢ 0 → or_zeros n k vs ≡ replicate k 0
values-refused n k vs h = refused-stays n vs (replicate k 0) h

-- an image that is not refused names no entry
pub none_named : (c : List ℕ) → (verdict c).number ≡ 0 → (verdict c).entry ≡ 0
unfolding verdict
none_named c z = go (first (rules c)) (lowest (e# c) (broken_at c)) (lowest (e# c) (shares_at c)) z
  where
    go : (n j k : ℕ) → (judged n j k).number ≡ 0 → (judged n j k).entry ≡ 0
    go (suc n) j k z = refl
    go zero (suc j) k z = absurd (omega arith)
    go zero zero (suc k) z = absurd (omega arith)
    go zero zero zero z = refl

-- ---- a ticket: no values, and in memory zeros for them

module _ (c : List ℕ) (j room : ℕ) where
  pub ticket-refused : (read_ticket c j room).number ≢ 0
      → ((read_ticket c j room).typ ≡ 0) × ((read_ticket c j room).header ≡ replicate 3 0) × ((read_ticket c j room).values ≡ []) × ((read_ticket c j room).end ≡ 0)
      × ((read_ticket c j room).mark ≡ 0) × ((read_ticket c j room).sectors ≡ 0)
  unfolding read_ticket
  ticket-refused h =
      (value-refused _ _ h, values-refused _ 3 _ h, refused-stays _ _ [] h, value-refused _ _ h, value-refused _ _ h, value-refused _ _ h)

  pub fill-refused : (fill_of c j room).number ≢ 0 → ((fill_of c j room).from ≡ 0) × ((fill_of c j room).end ≡ 0)
  unfolding fill_of
  fill-refused h = (value-refused _ _ h, value-refused _ _ h)

  pub rest_refused : (read_ticket c j room).number ≢ 0 → (rest c j room ≡ []) × (rest_at c j room ≡ 0)
  unfolding read_ticket rest rest_at
  rest_refused h = (refused-stays _ _ [] h, value-refused _ _ h)
