-- The flags say which entries are touched: between two accepted images of one shape, entry j is flagged exactly where it is. Assumes nothing.
use mathlib.Core.Path.{◌≡◌, refl, sym, ap, ap₂, ◌∙◌}
use mathlib.Core.Logic.{◌↔◌, ⊎_elim}
use mathlib.Core.Bool.{Bool, true, false, ◌&&◌, true≢false}
use mathlib.Core.List.{List}
use Prim.Native.Nat.{ℕ, ◌*◌, ◌≤◌}
use native.Mathlib.Decide.{ℕ_discrete}
use native.Mathlib.Omega.{arith}
use lib.Dec.{eqb}
use lib.ListN.{length, get_or}
use borrow.Author.Tests.{eqb-true, eqb-false, eq-eqb}
use Rattle.rules.proofs.ClaimLaws.{and-true}
use Rattle.image.specs.Image.{e#, sectors, mark, product}
use Rattle.image.specs.Verdict.{is_product}
use Rattle.image.specs.Obeys.{IsProduct}
use Rattle.image.specs.declared.Shape.{Shape}
use Rattle.image.proofs.Exact.{test-product, product_test}
use Rattle.image.proofs.First.{product-size}
use Rattle.steps.specs.Touched.{forty, Touched, entry, chain, marked, byte}
use Rattle.steps.specs.Flags.{alike, same_product, unless_empty, kept, flag_of}
use Rattle.steps.proofs.Touches.{differ}
use Rattle.touched.specs.Together.{Both}
use Rattle.touched.proofs.Alike.{alike_so, so-alike}

module _ {c d : List ℕ} {g : Shape} (b : Both c d g) (j : ℕ) (low : 1 ≤ j) (high : j ≤ e# c) where
  touched-not : Touched c d j → kept c d j ≡ true → ⊥
  unfolding kept
  touched-not t e = go t
    where
      x : (eqb (forty c j) (forty d j) ≡ true) × (unless_empty (is_product c j) (same_product c d j) ≡ true)
      x = and-true (eqb (forty c j) (forty d j)) (unless_empty (is_product c j) (same_product c d j)) e

      y : IsProduct c j → same_product c d j ≡ true
      y v = rw (product_test c j v) at x.1

      z : IsProduct c j → (sectors c j ≡ sectors d j) × (mark c j ≡ mark d j) × (product c j ≡ product d j)
      z v =
          let p = and-true (alike (sectors c j) (sectors d j)) (eqb (mark c j) (mark d j) && alike (product c j) (product d j)) (y v) in
          let q = and-true (eqb (mark c j) (mark d j)) (alike (product c j) (product d j)) p.1 in
          (alike_so _ _ p.0, eqb-true _ _ q.0, alike_so _ _ q.1)

      go : Touched c d j → ⊥
      go (entry l h k) = k (sym (eqb-true _ _ x.0))
      go (chain v k) = k (sym (z v).0)
      go (marked v k) = k (sym (z v).1)
      go (byte i v k) = k (ap (λ (l : List ℕ). get_or l i 0) (sym (z v).2))

  flagged : kept c d j ≡ false → Touched c d j
  unfolding kept
  flagged e = elim (ℕ_discrete (forty d j) (forty c j)) [
    | no h ↦ entry low high h
    | yes h ↦ go (is_product c j) refl (rw (eq-eqb (forty c j) (forty d j) (sym h)) at e) h
  ]
    where
      inner : IsProduct c j → IsProduct d j → same_product c d j ≡ false → Touched c d j
      inner v w f = third (alike (sectors c j) (sectors d j)) refl (eqb (mark c j) (mark d j)) refl (alike (product c j) (product d j)) refl f
        where
          third : (s : Bool) → alike (sectors c j) (sectors d j) ≡ s → (m : Bool) → eqb (mark c j) (mark d j) ≡ m → (p : Bool) → alike (product c j) (product d j) ≡ p
              → (s && (m && p)) ≡ false → Touched c d j
          third false x m y p z f = chain v (λ q. true≢false (sym (so-alike (sectors c j)) ∙ ap (alike (sectors c j)) (sym q) ∙ x))
          third true x false y p z f = marked v (λ q. eqb-false _ _ y (sym q))
          third true x true y false z f =
              let s = alike_so (sectors c j) (sectors d j) x in
              let n : length (product d j) ≡ length (product c j) =
              product-size d b.obeys_after w ∙ ap₂ (λ (l : List ℕ) (k : ℕ). length l * k) (sym s) (sym b.shape_after.size_is ∙ b.shape.size_is) ∙ sym (product-size c b.obeys v) in
              ⊎_elim (λ (q : product d j ≡ product c j). absurd (true≢false (sym (so-alike (product c j)) ∙ ap (alike (product c j)) (sym q) ∙ z)))
              (λ r. byte r.0 v r.1) (differ (product d j) (product c j) n)
          third true x true y true z f = absurd (true≢false f)

      go : (p : Bool) → is_product c j ≡ p → unless_empty p (same_product c d j) ≡ false → forty d j ≡ forty c j → Touched c d j
      go false x f h = absurd (true≢false f)
      go true x f h =
          let v = test-product c j x in
          inner v (record { low = low; high = omega (arith, b.shape.entries-is, b.shape_after.entries-is); full = λ k. v.full (sym h ∙ k) }) f

  pub flag-exactly : (flag_of (kept c d j) ≡ 1) ↔ Touched c d j
  flag-exactly = ((λ e. flagged (one (kept c d j) e)), λ t. ap flag_of (false_of (kept c d j) (touched-not t)))
    where
      one : (k : Bool) → flag_of k ≡ 1 → k ≡ false
      one true e = absurd (omega arith)
      one false e = refl

      false_of : (k : Bool) → (k ≡ true → ⊥) → k ≡ false
      false_of true h = absurd (h refl)
      false_of false h = refl
