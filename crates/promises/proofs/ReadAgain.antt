-- What a write stored is what the next read gives, of the same kind: a write leaves all that a read's checks look at. Assumes nothing.
use mathlib.Core.Path.{◌≡◌, refl, sym, ap, ◌∙◌}
use mathlib.Core.List.{List, ◌++◌}
use Prim.Native.Nat.{ℕ, ◌-◌, ◌≤◌}
use lib.ListN.{length, get_or, set}
use Rattle.bits.specs.Bits.{Bytes}
use Rattle.rules.specs.Claim.{Rule, Kept}
use Rattle.fields.specs.Lists.{list_of}
use Rattle.fields.specs.Fields.{fields, fit_rules}
use Rattle.ticket.specs.Kind.{set_rules}
use Rattle.image.specs.Image.{product, mark}
use Rattle.image.specs.Product.{Product, product_at}
use Rattle.image.specs.Obeys.{taken}
use Rattle.image.proofs.Exact.{facts-obeys}
use Rattle.reads.specs.Ticket.{read_ticket}
use Rattle.reads.specs.Values.{ticket_rules, kind_at}
use Rattle.reads.proofs.Exactly.{ticket_exactly}
use Rattle.reads.proofs.Values.{ticket_read}
use Rattle.steps.specs.Step.{Step, write, write_all, owner, product_rules, step_rules}
use Rattle.steps.specs.Steps.{answer, next}
use Rattle.steps.proofs.Acts.{Taken, zero-taken, new_mark, record_kind}
use Rattle.steps.proofs.Keeps.{stays, product-kept-there, mark-own, product-same}
use Rattle.steps.proofs.Written.{record-read, field-read}

-- a product that a write was taken on keeps the rules of a read
of_kind : (p : Product) (room : ℕ) (rs : List Rule) → Kept (product_rules p ++ rs) → p.size ≤ room → Kept (ticket_rules room p)
of_kind p room rs k h = (h, (k.0, (k.1.0, (k.1.1.0, tt))))

-- the third value of the header is the revision
revision-read : (c : List ℕ) (j room : ℕ) → (read_ticket c j room).number ≡ 0 → get_or (read_ticket c j room).header 2 0 ≡ (product_at c j).revision
unfolding product_at fields
revision-read c j room z = ap (λ (l : List ℕ). get_or l 2 0) (ticket_read c j room z).1

-- after a write that was taken the read is taken, of the kind that the product had, and gives the fields that the product then has
read_again : (c : List ℕ) (room : ℕ) → Bytes c → (s : Step) (t : Taken c s) → new_mark c s ≡ mark c (owner s) → Kept (ticket_rules room (product_at c (owner s)))
    → {vs : List ℕ} → fields (product (next c s) (owner s)) (list_of (kind_at c (owner s)).layout) ≡ vs
    → ((read_ticket (next c s) (owner s) room).number ≡ 0) × ((read_ticket (next c s) (owner s) room).typ ≡ (product_at c (owner s)).typ)
    × (get_or (read_ticket (next c s) (owner s) room).header 2 0 ≡ (product_at c (owner s)).revision) × ((read_ticket (next c s) (owner s) room).values ≡ vs)
unfolding read_ticket
read_again c room b s t w k e =
    let d = next c s in
    let j = owner s in
    let z = ((ticket_exactly d j room 0 0).1 (taken (facts-obeys d (stays c b s t)) (product-kept-there c b s t t.present) (rw looks-same k))).0 in
    let r = ticket_read d j room z in (
      z,
      r.0 ∙ ap (λ (p : Product). p.typ) looks-same,
      revision-read d j room z ∙ ap (λ (p : Product). p.revision) looks-same,
      r.2 ∙ rw looks-same e,
    )
  where
    looks-same : product_at (next c s) (owner s) ≡ product_at c (owner s)
    looks-same = product-same c b s t (owner s) t.present (mark-own c b s t ∙ w)

-- After a record write that was taken, a read with a buffer that holds the product gives number 0, and the record's TYP, revision and values.
pub record-read-again : (c : List ℕ) (j t r : ℕ) (vs : List ℕ) (room : ℕ) → Bytes c → (answer c (write_all j t r vs)).number ≡ 0 → length (product c j) ≤ room
    → ((read_ticket (next c (write_all j t r vs)) j room).number ≡ 0) × ((read_ticket (next c (write_all j t r vs)) j room).typ ≡ t)
    × (get_or (read_ticket (next c (write_all j t r vs)) j room).header 2 0 ≡ r) × ((read_ticket (next c (write_all j t r vs)) j room).values ≡ vs)
unfolding step_rules product_at
record-read-again c j t r vs room b z h =
    let s : Step = write_all j t r vs in
    let x = zero-taken c s z in
    let k = record_kind c j t r vs x in
    let a = read_again c room b s x refl (of_kind (product_at c j) room (fit_rules (kind_at c j).layout vs) x.kept.1.1.1 h) (record-read c b j t r vs x) in
    (a.0, a.1 ∙ sym k.0, a.2 ∙ sym k.1, a.3)

-- After a field write that was taken it gives number 0, the field's new value and the others as they were.
pub field-read-again : (c : List ℕ) (j n v room : ℕ) → Bytes c → (answer c (write j n v)).number ≡ 0 → length (product c j) ≤ room
    → ((read_ticket (next c (write j n v)) j room).number ≡ 0)
    × ((read_ticket (next c (write j n v)) j room).values ≡ set (fields (product c j) (list_of (kind_at c j).layout)) (n - 1) v)
unfolding step_rules product_at
field-read-again c j n v room b z h =
    let s : Step = write j n v in
    let x = zero-taken c s z in
    let a = read_again c room b s x refl (of_kind (product_at c j) room (set_rules (kind_at c j).layout n v) x.kept.1 h) (field-read c b j n v x) in
    (a.0, a.3)
