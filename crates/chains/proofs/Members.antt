-- The test of being in a list is right. Assumes nothing.
use mathlib.Core.Path.{◌≡◌, refl}
use mathlib.Core.Logic.{◌⊎◌, inl, inr, ⊎_elim}
use mathlib.Core.Bool.{Bool, true, false, ◌||◌, false≢true}
use mathlib.Core.List.{List, [], ◌∷◌}
use Prim.Native.Nat.{ℕ}
use lib.Dec.{eqb}
use borrow.Author.Tests.{eqb-true, eq-eqb}
use Rattle.chains.specs.Chain.{In}
use Rattle.chains.specs.Walk.{member}

pub or-true : (a b : Bool) → (a || b) ≡ true → (a ≡ true) ⊎ (b ≡ true)
or-true true b e = inl e
or-true false b e = inr e

pub true-or : (a : Bool) → (a || true) ≡ true
true-or true = refl
true-or false = refl

pub member_in : (x : ℕ) (ys : List ℕ) → member x ys ≡ true → In x ys
unfolding member
member_in x [] e = absurd (false≢true e)
member_in x (y ∷ ys) e = ⊎_elim (λ a. inl (eqb-true x y a)) (λ a. inr (member_in x ys a)) (or-true (eqb x y) (member x ys) e)

pub in-member : (x : ℕ) (ys : List ℕ) → In x ys → member x ys ≡ true
unfolding member
in-member x [] h = absurd h
in-member x (y ∷ ys) (inl e) = rw (eq-eqb x y e)
in-member x (y ∷ ys) (inr h) = rw (in-member x ys h, true-or)

pub not-member : (x : ℕ) (ys : List ℕ) → (In x ys → ⊥) → member x ys ≡ false
not-member x ys h = go (member x ys) refl
  where
    go : (b : Bool) → member x ys ≡ b → b ≡ false
    go true e = absurd (h (member_in x ys e))
    go false e = refl

pub member-not : (x : ℕ) (ys : List ℕ) → member x ys ≡ false → In x ys → ⊥
member-not x ys e h = let z = in-member x ys h in false≢true (rw e at z)

pub in-or-not : (x : ℕ) (ys : List ℕ) → In x ys ⊎ (In x ys → ⊥)
in-or-not x ys = go (member x ys) refl
  where
    go : (b : Bool) → member x ys ≡ b → In x ys ⊎ (In x ys → ⊥)
    go true e = inl (member_in x ys e)
    go false e = inr (member-not x ys e)
