-- The digits of two numbers side by side: those of the number that has one as its high digits and the other as its low ones. Assumes nothing.
use mathlib.Core.Path.{◌≡◌, refl, ap, ◌∙◌}
use mathlib.Core.List.{◌++◌}
use Prim.Native.Nat.{ℕ, zero, suc, ◌+◌, ◌*◌, ◌/◌, ◌%◌, ◌^◌, ◌≤◌, ◌<◌}
use native.Mathlib.Omega.{arith}
use lib.ListN.{length, get_or}
use lib.Pow.{pow-add, shr_lt, shr-shr}
use Rattle.rules.specs.Claim.{Means}
use Rattle.rules.proofs.ClaimLaws.{holds_means, means-holds}
use Rattle.digits.specs.Digits.{decimal, digits_of}
use Rattle.digits.proofs.Nibbles.{fewer}

-- ---- the digits of a number, as a list

pub length_digits : (n v : ℕ) → length (digits_of n v) ≡ n
unfolding digits_of
length_digits zero v = refl
length_digits (suc n) v = ap suc (length_digits n (v / 16))

pub get_or_digits : (n v k : ℕ) → k < n → get_or (digits_of n v) k 0 ≡ v / 2 ^ (4 * k) % 16
unfolding digits_of
get_or_digits zero v k h = absurd (omega arith)
get_or_digits (suc n) v zero h = omega arith
get_or_digits (suc n) v (suc k) h =
    let e : 4 * suc k ≡ 4 + 4 * k = omega arith in
    rw (e, ← shr-shr v 4 (4 * k)) (get_or_digits n (v / 16) k (omega arith))

-- ---- side by side

sixteen-more : (m : ℕ) → 2 ^ (4 * suc m) ≡ 16 * 2 ^ (4 * m)
sixteen-more m = let e : 4 * suc m ≡ 4 + 4 * m = omega arith in rw e (pow-add 2 4 (4 * m))

module _ (m a b : ℕ) where
  low_digit : (a * 2 ^ (4 * suc m) + b) % 16 ≡ b % 16
  low_digit = rw (sixteen-more m) (omega arith)

  high-digits : (a * 2 ^ (4 * suc m) + b) / 16 ≡ a * 2 ^ (4 * m) + b / 16
  high-digits = rw (sixteen-more m) (omega arith)

  fewer-bits : b < 2 ^ (4 * suc m) → b / 16 < 2 ^ (4 * m)
  fewer-bits h = let e : 4 * suc m ≡ 4 * m + 4 = omega arith in shr_lt (4 * m) 4 (rw e at h)

pub digits_join : (m n a b : ℕ) → b < 2 ^ (4 * m) → digits_of (m + n) (a * 2 ^ (4 * m) + b) ≡ digits_of m b ++ digits_of n a
unfolding digits_of
digits_join zero n a b h =
    let e : a * 1 + b ≡ a = omega arith in
    let f : 0 + n ≡ n = omega arith in
    rw (e, f) refl
digits_join (suc m) n a b h =
    let e : suc m + n ≡ suc (m + n) = omega arith in
    rw (e, low_digit m a b, high-digits m a b, digits_join m n a (b / 16) (fewer-bits m a b h)) refl

-- a number of at most n digits as a word of sixteen
pub widened : (n v : ℕ) → n ≤ 16 → v < 2 ^ (4 * n) → Means (decimal n v) → Means (decimal 16 v)
widened n v l h m = holds_means (decimal 16 v) (fewer n v l h ∙ means-holds (decimal n v) m)
