-- What an accepted image is worth to the calls that follow a check: it obeys, its numbers are in bounds, and the shape is its own.
-- Assumes nothing.
use mathlib.Core.Path.{◌≡◌, refl, ◌∙◌}
use mathlib.Core.List.{List}
use Prim.Native.Nat.{ℕ, zero, suc}
use native.Mathlib.Omega.{arith}
use Rattle.image.specs.Bounds.{Bounds}
use Rattle.image.specs.Facts.{Facts}
use Rattle.image.specs.Verdict.{verdict}
use Rattle.image.specs.Check.{shape_of, checked_by, check_of}
use Rattle.image.specs.Shape.{Shaped}
use Rattle.image.specs.declared.Shape.{Shape}
use Rattle.image.specs.Answer.{Accepted, Refused}
use Rattle.image.proofs.Exact as exact
use Rattle.image.proofs.Exact.{accepts}
use Rattle.image.proofs.Shapes.{shaped}

pub facts_bounds : (c : List ℕ) → Facts c → Bounds c
facts_bounds = exact.facts_bounds

-- what is known where a check has accepted with the shape g
pub record Open (c : List ℕ) (g : Shape) : Type 0 where
  pub obeys : Facts c
  pub number_zero : (verdict c).number ≡ 0
  pub shape_is : g ≡ shape_of c
  pub shape : Shaped c g

pub opened : (c : List ℕ) → (verdict c).number ≡ 0 → Open c (shape_of c)
opened c z =
    let o = (accepts c).0 z in
    record { obeys = o; number_zero = z; shape_is = refl; shape = shaped c (facts_bounds c o) }

pub accepted_open : (c : List ℕ) (g : Shape) → check_of c ≡ Accepted g → Open c g
unfolding check_of
accepted_open c g e = go (verdict c).number refl e
  where
    go : (n : ℕ) → (verdict c).number ≡ n → checked_by n (verdict c).entry (shape_of c) ≡ Accepted g → Open c g
    go zero z q = let s : g ≡ shape_of c = cc in rw s (opened c z)
    go (suc n) z q = absurd (let w : ◌≡◌ {A = ℕ} 0 1 = cc in omega arith)

-- what is known where it has refused
pub record Shut (c : List ℕ) (n e : ℕ) : Type 0 where
  pub number_is : (verdict c).number ≡ n
  pub entry-is : (verdict c).entry ≡ e
  pub some : (n ≡ 0) → ⊥

pub refused_shut : (c : List ℕ) (n e : ℕ) → check_of c ≡ Refused n e → Shut c n e
unfolding check_of
refused_shut c n e q = go (verdict c).number refl q
  where
    go : (m : ℕ) → (verdict c).number ≡ m → checked_by m (verdict c).entry (shape_of c) ≡ Refused n e → Shut c n e
    go zero z w = absurd (let y : ◌≡◌ {A = ℕ} 0 1 = cc in omega arith)
    go (suc m) z w =
        let i : suc m ≡ n = cc in
        let j : (verdict c).entry ≡ e = cc in
        record { number_is = z ∙ i; entry-is = j; some = λ y. omega arith }
