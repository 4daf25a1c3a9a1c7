-- What a call on one product finds, from the verdict and the last sector of its entry's chain: that is 0 exactly where the entry is no product of an
-- accepted image. And what is known of a product that is found. Assumes nothing.
use mathlib.Core.Path.{◌≡◌, refl, sym, ◌∙◌}
use mathlib.Core.Logic.{◌≢◌}
use mathlib.Core.Bool.{Bool, true, false}
use mathlib.Core.List.{List}
use Prim.Native.Nat.{ℕ, zero, suc, ◌≤◌}
use native.Mathlib.Omega.{arith}
use lib.ListN.{length}
use Rattle.chains.specs.Chain.{Sector, last_of}
use Rattle.chains.specs.Packed.{mark_said}
use Rattle.chains.proofs.ProductLaws.{told, last_some}
use Rattle.image.specs.Image.{S, e#, element, chain, sectors, mark}
use Rattle.image.specs.Verdict.{is_product, verdict}
use Rattle.image.specs.Facts.{Facts, Present}
use Rattle.image.specs.Bounds.{Bounds}
use Rattle.image.specs.Seen.{seen, seen_by}
use Rattle.image.specs.Product.{product_at}
use Rattle.image.specs.Found.{Found, There, Not, found_in, found_of, last_at, count_at}
use Rattle.image.proofs.Exact.{test-product, tested, accepts, facts_bounds}

-- entry j of the accepted image c is a product, whose chain ends in sector l after n sectors; the element of l has its mark
pub record Finds (c : List ℕ) (j l n : ℕ) : Type 0 where
  pub accepted : (verdict c).number ≡ 0
  pub is_there : is_product c j ≡ true
  pub present : Present c j
  pub in_bounds : Bounds c
  pub sector : Sector (S c) l
  pub last-is : l ≡ last_of (sectors c j)
  pub count-is : n ≡ length (sectors c j)
  pub mark-is : mark_said (S c) l (element c l) ≡ mark c j

module _ (c : List ℕ) (j : ℕ) where
  -- an entry that is not from 1 to e# is no product
  pub outside : (1 ≤ j → j ≤ e# c → ⊥) → is_product c j ≡ false
  outside h = go (is_product c j) refl
    where
      go : (b : Bool) → is_product c j ≡ b → b ≡ false
      go true e = let p = test-product c j e in absurd (h p.low p.high)
      go false e = refl

  -- ---- what is found

  -- the image is refused
  pub found-refused : {n e : ℕ} → n ≢ 0 → verdict c ≡ record { number = n; entry = e } → Not n e ≡ found_of c j
  unfolding found_of seen
  found-refused {n} {e} h q = rw q (go n h)
    where
      go : (n : ℕ) → n ≢ 0 → Not n e ≡ found_in (seen_by n e (is_product c j) (product_at c j)) c j
      go zero h = absurd (h refl)
      go (suc n) h = refl

  module _ (z : (verdict c).number ≡ 0) where
    obeys : Facts c
    obeys = (accepts c).0 z

    -- it is accepted, and the entry is no product: every product of an accepted image has a chain
    pub found-missing : 0 ≡ last_at c j → Not 20 j ≡ found_of c j
    unfolding found_of seen
    found-missing q = rw z (go (is_product c j) refl)
      where
        go : (b : Bool) → is_product c j ≡ b → Not 20 j ≡ found_in (seen_by 0 (verdict c).entry b (product_at c j)) c j
        go false e = refl
        go true e = absurd (last_some (tested c obeys.entries.1) (element c) obeys.chained (test-product c j e) (sym q))

    -- it is there
    pub found-there : {l n : ℕ} → l ≢ 0 → l ≡ last_at c j → n ≡ count_at c j → There l n ≡ found_of c j
    unfolding found_of seen chain sectors
    found-there h p q =
        let t = told (tested c obeys.entries.1) (element c) j (λ x. h (p ∙ x)) in
        rw (p ∙ t.last-is, q ∙ t.count-is, z, t.is-product)

    known : is_product c j ≡ true → Finds c j (last_of (sectors c j)) (length (sectors c j))
    unfolding chain sectors mark
    known e =
        let v = test-product c j e in
        let t = told (tested c obeys.entries.1) (element c) j (last_some (tested c obeys.entries.1) (element c) obeys.chained v) in
        record {
          accepted = z;
          is_there = e;
          present = record { obeys = obeys; is-product = v };
          in_bounds = facts_bounds c obeys;
          sector = rw (← t.last-is) t.sector;
          last-is = refl;
          count-is = refl;
          mark-is = rw (← t.last-is) t.mark-is;
        }

  pub finds_at : (verdict c).number ≡ 0 → is_product c j ≡ true → {l n : ℕ} → l ≡ last_of (sectors c j) → n ≡ length (sectors c j) → Finds c j l n
  finds_at z e p q = rw (p, q) (known z e)

  pub finds : {r : Found} {l n : ℕ} → r ≡ found_of c j → r ≡ There l n → Finds c j l n
  unfolding found_of seen
  finds {l = l} {n = n} f e = go (verdict c).number refl (is_product c j) refl (sym f ∙ e)
    where
      go : (v : ℕ) → (verdict c).number ≡ v → (b : Bool) → is_product c j ≡ b → found_in (seen_by v (verdict c).entry b (product_at c j)) c j ≡ There l n → Finds c j l n
      go (suc v) z b t q = absurd (let y : ◌≡◌ {A = ℕ} 0 1 = cc in omega arith)
      go zero z false t q = absurd (let y : ◌≡◌ {A = ℕ} 0 1 = cc in omega arith)
      go zero z true t q =
          let a : last_of (sectors c j) ≡ l = cc in
          let b : length (sectors c j) ≡ n = cc in
          rw (← a, ← b) (known z t)
