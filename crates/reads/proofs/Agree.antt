-- The two calls that read a ticket agree, for both are refused by the same rules; and a blocked product is read like any other, for no rule of a
-- read looks at the mark. Assumes nothing.
use mathlib.Core.Path.{◌≡◌, refl}
use mathlib.Core.Logic.{◌↔◌, ◌≢◌}
use mathlib.Core.List.{List, []}
use Prim.Native.Nat.{ℕ, zero, suc}
use native.Mathlib.Omega.{arith}
use Rattle.image.specs.Image.{mark}
use Rattle.image.specs.Product.{product_at}
use Rattle.image.specs.Obeys.{Obeys, IsProduct, Gives, taken}
use Rattle.rules.specs.Claim.{Kept}
use Rattle.reads.specs.Values.{ticket_rules}
use Rattle.reads.specs.Ticket.{read_ticket, fill_of, rest}
use Rattle.reads.proofs.Given.{rest_refused}
use Rattle.reads.proofs.Exactly.{ticket_exactly}

module _ (c : List ℕ) (j room : ℕ) where
  -- the same number and the same entry
  pub same-refusal : ((fill_of c j room).number ≡ (read_ticket c j room).number) × ((fill_of c j room).entry ≡ (read_ticket c j room).entry)
  unfolding fill_of read_ticket
  same-refusal = (refl, refl)

  pub fill-exactly : (n e : ℕ) → (((fill_of c j room).number ≡ n) × ((fill_of c j room).entry ≡ e)) ↔ Gives c j (ticket_rules room) n e
  unfolding fill_of
  fill-exactly n e = ticket_exactly c j room n e

  -- a part that is not empty says that the first call is taken; an empty one says nothing, for a dataset may end where the fixed fields do
  pub part-taken : rest c j room ≢ [] → (read_ticket c j room).number ≡ 0
  part-taken h = go (read_ticket c j room).number refl
    where
      go : (n : ℕ) → (read_ticket c j room).number ≡ n → (read_ticket c j room).number ≡ 0
      go zero z = z
      go (suc n) z = absurd (h (rest_refused c j room (λ y. omega arith)).0)

  -- a blocked product is read
  pub blocked-read : Obeys c → IsProduct c j → mark c j ≡ 2 → Kept (ticket_rules room (product_at c j))
      → ((read_ticket c j room).number ≡ 0) × ((read_ticket c j room).mark ≡ 2)
  unfolding read_ticket
  blocked-read o v m k = let z = ((ticket_exactly c j room 0 0).1 (taken o v k)).0 in rw (z, m) (refl, refl)
