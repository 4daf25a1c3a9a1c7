-- The checks 21 to 23, each made once those before it have passed, give the number of the first rule that is not kept. Assumes nothing.
use mathlib.Core.Path.{◌≡◌, refl, sym, ap, ◌∙◌}
use mathlib.Core.Logic.{◌≢◌}
use mathlib.Core.Bool.{Bool, true, false}
use mathlib.Core.List.{List}
use Prim.Native.Nat.{ℕ, zero, suc}
use lib.ListN.{length}
use lib.Dec.{leb}
use Rattle.rules.specs.First.{if_kept, first}
use Rattle.rules.proofs.ClaimLaws.{or_else}
use Rattle.ticket.specs.Kind.{form_in, kind_rules}
use Rattle.ticket.specs.declared.kinds.Kind.{Kind}
use Rattle.image.specs.Image.{sectors, mark, product}
use Rattle.image.specs.Product.{Product, product_at}
use Rattle.image.specs.Seen.{named}
use Rattle.image.specs.Verdict.{is_product, verdict}
use Rattle.image.specs.Found as image
use Rattle.image.specs.Found.{Not}
use Rattle.verdict.specs.Products.{Known, Unknown, kind_in}
use Rattle.verdict.proofs.KindLaws.{kind-known, kind-unknown}
use Rattle.reads.specs.Ticket.{ticket_refusal}
use Rattle.reads.specs.Values.{ticket_rules}
use Rattle.readticket.specs.Checks.{Taken, Refused, stated_in, sound_in, judged_with, judged_in}
use Rattle.readticket.specs.declared.checks.Stated.{Stated}
use Rattle.image.proofs.Asked.{asked-there}
use Rattle.reads.proofs.Known.{found-not}

-- 21: lent buffer shorter than the product
abbrev room_number : Bool → ℕ
room_number true = 0
room_number false = 21

-- the first rule that is not kept has the number of the first check that is not passed
in_order : (room : ℕ) (p : Product) → first (ticket_rules room p) ≡ or_else (room_number (leb p.size room)) (first (kind_rules p.typ p.revision p.blocks p.size))
unfolding first
in_order room p = go (leb p.size room) (first (kind_rules p.typ p.revision p.blocks p.size))
  where
    go : (b : Bool) (n : ℕ) → if_kept b n 21 ≡ or_else (room_number b) n
    go true n = refl
    go false n = refl

module _ (c : List ℕ) (j room : ℕ) where
  -- nothing is found: the image's own number, or 20
  pub at-product : {n e : ℕ} → image.found_of c j ≡ Not n e → Refused n e ≡ judged_in c j room
  unfolding judged_in ticket_refusal
  at-product {n} {e} q =
      let s = found-not c j q (ticket_rules room) in
      rw (s.number_is, s.entry-is) (go n s.some)
    where
      go : (n : ℕ) → (n ≡ 0 → ⊥) → Refused n e ≡ judged_with n e (form_in (product_at c j).typ (product_at c j).revision) (sound_in c j)
      go zero h = absurd (h refl)
      go (suc n) h = refl

  refused-at : {n : ℕ} → ticket_refusal c j room ≡ named (suc n) j → Refused (suc n) j ≡ judged_in c j room
  unfolding judged_in
  refused-at q = rw q

  abbrev of : Product
  of = product_at c j

  module _ (z : (verdict c).number ≡ 0) (t : is_product c j ≡ true) where
    numbered : ticket_refusal c j room ≡ named (or_else (room_number (leb (length (product c j)) room)) (first (kind_rules of.typ of.revision of.blocks of.size))) j
    unfolding ticket_refusal product_at
    numbered =
        asked-there c j (ticket_rules room) z t
        ∙ ap (λ (n : ℕ). named n j) (in_order room (product_at c j))

    pub at_room : leb (length (product c j)) room ≡ false → Refused 21 j ≡ judged_in c j room
    at_room q = refused-at (rw q at numbered)

    module _ (fits : leb (length (product c j)) room ≡ true) where
      pub at_kind : {n e : ℕ} → Unknown n e ≡ kind_in of j → Refused n e ≡ judged_in c j room
      at_kind {n} q =
          let k = kind-unknown of j (sym q) in
          rw k.2 (go n k.0 k.1)
        where
          go : (m : ℕ) → m ≡ first (kind_rules of.typ of.revision of.blocks of.size) → m ≢ 0 → Refused m j ≡ judged_in c j room
          go zero e h = absurd (h refl)
          go (suc m) e h = refused-at (rw (fits, ← e) at numbered)

      pub at-end : {k : Kind} {s : Stated} {n m : ℕ} → Known k ≡ kind_in of j → s ≡ stated_in c j → n ≡ length (sectors c j) → m ≡ mark c j → Taken k s n m ≡ judged_in c j room
      unfolding judged_in
      at-end q d e r =
          let k = kind-known of j (sym q) in
          let n = rw (fits, k.0) at numbered in
          rw (n, k.1, d, e, r)
