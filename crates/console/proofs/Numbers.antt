-- Numbers of a line, from a place on. Assumes nothing.
use mathlib.Core.Path.{◌≡◌, refl, ap, ◌∙◌}
use mathlib.Core.List.{List, ◌∷◌}
use Prim.Native.Nat.{ℕ, zero, suc, ◌+◌, ◌-◌, ◌≤◌}
use native.Mathlib.Omega.{arith}
use lib.ListN.{length, get_or, take, drop}
use lib.Seq.{drop-cons}
use Rattle.console.specs.Commands.{numbers_from}

-- a part of the list
part : (k f : ℕ) (ns : List ℕ) → f + k ≤ length ns → take k (drop f ns) ≡ numbers_from k f ns
unfolding numbers_from
part zero f ns h = refl
part (suc k) f ns h =
    let e : suc f ≡ f + 1 = omega arith in
    rw (drop-cons ns f 0 (omega arith), e) (ap (λ (l : List ℕ). get_or ns f 0 ∷ l) (part k (f + 1) ns (omega arith)))

pub part_from : (k f : ℕ) (ns v : List ℕ) → f + k ≤ length ns → v ≡ take (f + k - f) (drop f ns) → v ≡ numbers_from k f ns
part_from k f ns v h e = let z : f + k - f ≡ k = omega arith in e ∙ rw z (part k f ns h)

-- the first k of n numbers
pub first_of : (k n f : ℕ) (ns : List ℕ) → k ≤ n → take k (numbers_from n f ns) ≡ numbers_from k f ns
unfolding numbers_from
first_of zero n f ns h = refl
first_of (suc k) zero f ns h = absurd (omega arith)
first_of (suc k) (suc n) f ns h = ap (λ (l : List ℕ). get_or ns f 0 ∷ l) (first_of k n (f + 1) ns (omega arith))
