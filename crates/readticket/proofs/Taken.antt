-- What is known where the checks have taken a ticket read, for then none of 1 to 23 holds; and where they have refused it. Assumes nothing.
use mathlib.Core.Path.{◌≡◌, refl, sym, ap, ◌∙◌}
use mathlib.Core.List.{List}
use Rattle.std.specs.Prelude.{Option, Some, None}
use Prim.Native.Nat.{ℕ, zero, suc, ◌≤◌}
use native.Mathlib.Omega.{arith}
use lib.ListN.{length}
use Rattle.chains.specs.Ended.{mark_number}
use Rattle.image.specs.Image.{sectors, mark, product}
use Rattle.image.specs.Product.{product_at}
use Rattle.image.specs.Check.{shape_of}
use Rattle.image.specs.Verdict.{verdict}
use Rattle.ticket.specs.Kind.{form_in}
use Rattle.ticket.specs.declared.kinds.Kind.{Kind}
use Rattle.ticket.proofs.Listed.{other-form-unlisted}
use Rattle.reads.specs.Ticket.{ticket_refusal}
use Rattle.reads.proofs.Known.{Known, Barred, known_at}
use Rattle.reads.proofs.Passed.{passed, passed_entry}
use Rattle.readticket.specs.Checks.{Taken, Refused, stated_in, sound_in, judged_with, judged_in}
use Rattle.readticket.specs.declared.checks.Sound.{Sound}

module _ (c : List ℕ) (j room : ℕ) where
  -- what is known where `judge` has taken the read
  pub record Taking (f : Sound) : Type 0 where
    pub number_zero : (ticket_refusal c j room).number ≡ 0
    pub entry_zero : (ticket_refusal c j room).entry ≡ 0
    pub form-is : form_in (product_at c j).typ (product_at c j).revision ≡ Some f.kind
    pub stated-is : f.stated ≡ stated_in c j
    pub sectors-is : f.sectors ≡ length (sectors c j)
    pub mark-is : mark_number f.mark ≡ mark c j
    pub accepted : (verdict c).number ≡ 0
    pub known : Known c (shape_of c) j
    pub room-enough : length (product c j) ≤ room

  pub judged-taken : (f : Sound) → judged_in c j room ≡ Taken f.kind f.stated f.sectors (mark_number f.mark) → Taking f
  unfolding judged_in product_at
  judged-taken f q = go (ticket_refusal c j room).number refl (form_in (product_at c j).typ (product_at c j).revision) refl q
    where
      go : (n : ℕ) → (ticket_refusal c j room).number ≡ n → (g : Option Kind) → form_in (product_at c j).typ (product_at c j).revision ≡ g
          → judged_with n (ticket_refusal c j room).entry g (sound_in c j) ≡ Taken f.kind f.stated f.sectors (mark_number f.mark) → Taking f
      go (suc n) z g i w = absurd (let y : ◌≡◌ {A = ℕ} 0 1 = cc in omega arith)
      go zero z None i w = absurd (let y : ◌≡◌ {A = ℕ} 0 1 = cc in omega arith)
      go zero z (Some t) i w =
          let p = passed c j room z in
          let k = p.rules_kept in
          let u : t ≡ f.kind = cc in
          let d : stated_in c j ≡ f.stated = cc in
          let s : length (sectors c j) ≡ f.sectors = cc in
          let m : mark c j ≡ mark_number f.mark = cc in
          record {
            number_zero = z;
            entry_zero = passed_entry c j room z;
            form-is = i ∙ ap Some u;
            stated-is = sym d;
            sectors-is = sym s;
            mark-is = sym m;
            accepted = p.accepted;
            known = known_at c j p.accepted p.is_there;
            room-enough = k.0;
          }

  pub judged-refused : {n e : ℕ} → judged_in c j room ≡ Refused n e → Barred (ticket_refusal c j room) n e
  unfolding judged_in product_at
  judged-refused {n} {e} q = go (ticket_refusal c j room).number refl (form_in (product_at c j).typ (product_at c j).revision) refl q
    where
      go : (m : ℕ) → (ticket_refusal c j room).number ≡ m → (g : Option Kind) → form_in (product_at c j).typ (product_at c j).revision ≡ g
          → judged_with m (ticket_refusal c j room).entry g (sound_in c j) ≡ Refused n e → Barred (ticket_refusal c j room) n e
      go zero z (Some t) i w = absurd (let y : ◌≡◌ {A = ℕ} 0 1 = cc in omega arith)
      go zero z None i w = absurd (other-form-unlisted _ _ i (passed c j room z).rules_kept.1.0)
      go (suc m) z g i w =
          let i : suc m ≡ n = cc in
          let k : (ticket_refusal c j room).entry ≡ e = cc in
          record { number_is = z ∙ i; entry-is = k; some = λ y. omega arith }
