-- A list of distinct numbers from 1 to n has at most n of them.
-- Assumes nothing.
use mathlib.Core.Path.{◌≡◌, refl, sym, subst, ap}
use mathlib.Core.Logic.{◌≢◌, inl, inr}
use mathlib.Core.List.{List, [], ◌∷◌}
use mathlib.Core.Bool.{Bool, true, false}
use Prim.Native.Nat.{ℕ, zero, suc, ◌≤◌}
use native.Mathlib.Omega.{arith}
use lib.ListN.{length}
use lib.Dec.{eqb}
use borrow.Author.Tests.{eqb-true, eqb-false}
use Rattle.chains.specs.Chain.{In, Distinct}

-- the list without n
abbrev keep : Bool → ℕ → List ℕ → List ℕ
keep true x xs = xs
keep false x xs = x ∷ xs

abbrev drop_all : ℕ → List ℕ → List ℕ
drop_all n [] = []
drop_all n (x ∷ xs) = keep (eqb x n) x (drop_all n xs)

in-drop : (n x : ℕ) (xs : List ℕ) → In x (drop_all n xs) → In x xs × (x ≢ n)
in-drop n x [] h = absurd h
in-drop n x (y ∷ ys) h = go (eqb y n) refl (in-drop n x ys) h
  where
    go : (b : Bool) → eqb y n ≡ b → (In x (drop_all n ys) → In x ys × (x ≢ n)) → In x (keep b y (drop_all n ys)) → In x (y ∷ ys) × (x ≢ n)
    go true e ih h = (inr (ih h).0, (ih h).1)
    go false e ih (inl p) = (inl p, λ q. eqb-false y n e (subst (λ (k : ℕ). k ≡ n) p q))
    go false e ih (inr p) = (inr (ih p).0, (ih p).1)

distinct-drop : (n : ℕ) (xs : List ℕ) → Distinct xs → Distinct (drop_all n xs)
distinct-drop n [] d = tt
distinct-drop n (y ∷ ys) d = go (eqb y n) (distinct-drop n ys d.1)
  where
    go : (b : Bool) → Distinct (drop_all n ys) → Distinct (keep b y (drop_all n ys))
    go true ih = ih
    go false ih = ((λ i. d.0 (in-drop n y ys i).0), ih)

-- where n is not in the list, nothing is dropped
drop-none : (n : ℕ) (xs : List ℕ) → (In n xs → ⊥) → drop_all n xs ≡ xs
drop-none n [] h = refl
drop-none n (y ∷ ys) h = go (eqb y n) refl (drop-none n ys (λ i. h (inr i)))
  where
    go : (b : Bool) → eqb y n ≡ b → drop_all n ys ≡ ys → keep b y (drop_all n ys) ≡ y ∷ ys
    go true e ih = absurd (h (inl (sym (eqb-true y n e))))
    go false e ih = ap {B = List ℕ} (λ l. y ∷ l) ih

-- at most one is dropped
length-drop-all : (n : ℕ) (xs : List ℕ) → Distinct xs → length xs ≤ suc (length (drop_all n xs))
length-drop-all n [] d = omega arith
length-drop-all n (y ∷ ys) d = go (eqb y n) refl (length-drop-all n ys d.1)
  where
    go : (b : Bool) → eqb y n ≡ b → length ys ≤ suc (length (drop_all n ys)) → suc (length ys) ≤ suc (length (keep b y (drop_all n ys)))
    go true e ih =
        let same : drop_all n ys ≡ ys = drop-none n ys (λ i. d.0 (subst (λ (k : ℕ). In k ys) (sym (eqb-true y n e)) i)) in
        omega (arith, ap length same)
    go false e ih = omega arith

pub few : (n : ℕ) (xs : List ℕ) → Distinct xs → ((x : ℕ) → In x xs → (1 ≤ x) × (x ≤ n)) → length xs ≤ n
few zero [] d h = omega arith
few zero (x ∷ xs) d h = absurd (let l = h x (inl refl) in omega arith)
few (suc n) xs d h =
    omega (
      arith,
      length-drop-all (suc n) xs d,
      few n (drop_all (suc n) xs) (distinct-drop (suc n) xs d)
          (λ x i. let a = in-drop (suc n) x xs i in let l = h x a.0 in let q = a.1 in omega arith),
    )
