-- A read of one product gives a number exactly when document 01 says so: its own rules are a list, and the first that does not hold decides. Assumes nothing.
use mathlib.Core.Path.{◌≡◌}
use mathlib.Core.Logic.{◌↔◌}
use mathlib.Core.List.{List, []}
use Prim.Native.Nat.{ℕ}
use Rattle.image.specs.Obeys.{Gives}
use Rattle.image.specs.Product.{product_at}
use Rattle.image.proofs.Asked.{asked-exactly}
use Rattle.reads.specs.Values.{ticket_rules}
use Rattle.reads.specs.Entry.{entry_refusal}
use Rattle.reads.specs.Ticket.{ticket_refusal}
use Rattle.reads.proofs.Passed.{rules_numbered}

-- a ticket read: 20, 21, 22, 23
pub ticket_exactly : (c : List ℕ) (j room n e : ℕ)
    → (((ticket_refusal c j room).number ≡ n) × ((ticket_refusal c j room).entry ≡ e)) ↔ Gives c j (ticket_rules room) n e
unfolding ticket_refusal
ticket_exactly c j room = asked-exactly c j (ticket_rules room) (rules_numbered room (product_at c j))

-- a read of an entry or of its chain: 20
pub entry_exactly : (c : List ℕ) (j n e : ℕ) → (((entry_refusal c j).number ≡ n) × ((entry_refusal c j).entry ≡ e)) ↔ Gives c j (λ p. []) n e
entry_exactly c j = asked-exactly c j (λ p. []) tt
