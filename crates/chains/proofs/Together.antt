-- Chains that share no sector have at most S - 3 sectors together: joined, their sectors are distinct numbers from 1 to S - 3.
-- Assumes nothing.
use mathlib.Core.Path.{◌≡◌, refl}
use mathlib.Core.Logic.{◌⊎◌, inl, inr, ⊎_elim}
use mathlib.Core.Bool.{Bool, true, false}
use mathlib.Core.List.{List, [], ◌∷◌, ◌++◌}
use Prim.Native.Nat.{ℕ, zero, suc, ◌-◌, ◌≤◌}
use native.Mathlib.Omega.{arith}
use lib.ListN.{length}
use Rattle.chains.specs.Chain.{In, Common, Distinct, Chain, Shares}
use Rattle.chains.specs.Walk.{Walk, found, broken, walk}
use Rattle.chains.specs.Products.{sectors_of, chain_at, if_product, all_sectors}
use Rattle.chains.proofs.Laws.{found-chain, chain-sectors}
use Rattle.chains.proofs.Distinct.{few}
use Rattle.chains.proofs.ProductLaws.{Tested}

in-append : (x : ℕ) (xs ys : List ℕ) → In x (xs ++ ys) → In x xs ⊎ In x ys
in-append x [] ys h = inr h
in-append x (y ∷ xs) ys (inl e) = inl (inl e)
in-append x (y ∷ xs) ys (inr h) = ⊎_elim (λ a. inl (inr a)) (λ b. inr b) (in-append x xs ys h)

distinct_append : (xs ys : List ℕ) → Distinct xs → Distinct ys → (Common xs ys → ⊥) → Distinct (xs ++ ys)
distinct_append [] ys a b h = b
distinct_append (x ∷ xs) ys a b h =
    ((λ i. ⊎_elim a.0 (λ j. h (x, inl refl, j)) (in-append x xs ys i)), distinct_append xs ys a.1 b (λ c. h (c.0, inr c.1, c.2)))

module _ {P : ℕ → Type 0} {p : ℕ → Bool} {S : ℕ} (t : Tested P p S) (f : ℕ → ℕ) where
  -- the chain of product j passes sector x
  record Passes (j x : ℕ) : Type 0 where
    is-product : P j
    sectors : List ℕ
    mark : ℕ
    chain : Chain f S j sectors mark
    inside : In x sectors

  one : (j x : ℕ) → In x (if_product (p j) (sectors_of (chain_at f S j))) → Passes j x
  one j x h = go (p j) refl (walk f S j (S - 3)) refl h
    where
      go : (b : Bool) → p j ≡ b → (w : Walk) → walk f S j (S - 3) ≡ w → In x (if_product b (sectors_of w)) → Passes j x
      go true e (found ss m) q h = let v = t.so j e in record { is-product = v; sectors = ss; mark = m; chain = (found-chain f S (t.sector j v)).0 q; inside = h }
      go true e (broken d) q h = absurd h
      go false e w q h = absurd h

  passed : (n x : ℕ) → In x (all_sectors p f S n) → (j : ℕ) × (j ≤ n) × Passes j x
  unfolding all_sectors
  passed zero x h = absurd h
  passed (suc n) x h =
      ⊎_elim (λ a. let r = passed n x a in (r.0, omega (arith, r.1), r.2)) (λ b. (suc n, omega arith, one (suc n) x b))
      (in-append x (all_sectors p f S n) (if_product (p (suc n)) (sectors_of (chain_at f S (suc n)))) h)

  once : (j : ℕ) → Distinct (if_product (p j) (sectors_of (chain_at f S j)))
  once j = go (p j) refl (walk f S j (S - 3)) refl
    where
      go : (b : Bool) → p j ≡ b → (w : Walk) → walk f S j (S - 3) ≡ w → Distinct (if_product b (sectors_of w))
      go true e (found ss m) q = ((found-chain f S (t.sector j (t.so j e))).0 q).once
      go true e (broken d) q = tt
      go false e w q = tt

  -- none of the products 1, .., n shares a sector with a lower one
  module _ (n : ℕ) (clean : (k : ℕ) → k ≤ n → Shares P f S k → ⊥) where
    pub together-once : Distinct (all_sectors p f S n)
    unfolding all_sectors
    together-once = upto n (omega arith)
      where
        upto : (m : ℕ) → m ≤ n → Distinct (all_sectors p f S m)
        upto zero l = tt
        upto (suc m) l =
            distinct_append (all_sectors p f S m) (if_product (p (suc m)) (sectors_of (chain_at f S (suc m)))) (upto m (omega arith)) (once (suc m))
            (λ c. let r = passed m c.0 c.1 in let a = r.2 in let b = one (suc m) c.0 c.2 in
            clean (suc m) l
            (record {
              lower = r.0;
              below = omega (arith, r.1);
              product_lower = a.is-product;
              product_k = b.is-product;
              sectors = a.sectors;
              mark = a.mark;
              sectors_k = b.sectors;
              mark_k = b.mark;
              chain = a.chain;
              chain_k = b.chain;
              common = (c.0, a.inside, b.inside);
            }))

    pub together-few : length (all_sectors p f S n) ≤ S - 3
    together-few =
        few (S - 3) (all_sectors p f S n) together-once
        (λ x h. let r = (passed n x h).2 in let s = chain-sectors f S (t.sector _ r.is-product) r.chain x r.inside in (s.low, s.high))
