-- A word of bytes is added up by one remainder: 256 is 1 more than 255, so that modulo 255 it is the sum of its bytes. Each byte holds two digits, the
-- second of them from an even place on the right. Assumes nothing.
use mathlib.Core.Path.{◌≡◌, refl, sym, ap, ◌∙◌}
use mathlib.Core.List.{List, ◌++◌}
use Prim.Native.Nat.{ℕ, zero, suc, ◌+◌, ◌*◌, ◌/◌, ◌%◌, ◌^◌, ◌≤◌, ◌<◌}
use native.Mathlib.Omega.{arith}
use lib.Bits.{bit_and, and_block, and_mask, and_shr, and_mod, and_zero_r}
use lib.Pow.{shr_lt, shr-shr, split}
use Rattle.rules.specs.Claim.{Means, every, ◌≡?◌}
use Rattle.rules.specs.First.{all}
use Rattle.rules.proofs.ClaimLaws.{holds_means}
use Rattle.digits.specs.Digits.{decimal, digits_of, doubled, luhn}
use Rattle.digits.specs.Words.{digit_bytes, added, pairs}

-- n bytes, each of them m
unfoldable pub each : ℕ → ℕ → ℕ
each zero m = 0
each (suc n) m = m + 256 * each n m

one_more : (n x : ℕ) → x < 2 ^ (8 * suc n) → x / 256 < 2 ^ (8 * n)
one_more n x h = let e : 8 * suc n ≡ 8 * n + 8 = omega arith in shr_lt (8 * n) 8 (rw e at h)

lowest : (n x : ℕ) → Means (digit_bytes (suc n) x) → x % 256 ≤ 9
lowest n x m = let z : x / 1 % 256 ≤ 9 = m 0 (omega arith) in omega arith

others : (n x : ℕ) → Means (digit_bytes (suc n) x) → Means (digit_bytes n (x / 256))
others n x m i h =
    let e : 8 * suc i ≡ 8 + 8 * i = omega arith in
    let z : x / 2 ^ (8 + 8 * i) % 256 ≤ 9 = rw e at (m (suc i) (omega arith)) in
    rw (shr-shr x 8 (8 * i)) z

pub bounded : (n x : ℕ) → x < 2 ^ (8 * n) → Means (digit_bytes n x) → x ≤ each n 9
unfolding each
bounded zero x h m = omega arith
bounded (suc n) x h m =
    let l = lowest n x m in
    let r = bounded n (x / 256) (one_more n x h) (others n x m) in
    omega arith

and_byte : (v m r : ℕ) → m < 256 → bit_and v (m + 256 * r) ≡ bit_and (v % 256) m + 256 * bit_and (v / 256) r
and_byte v m r h =
    let s : v / 2 ^ 8 * 2 ^ 8 + v % 2 ^ 8 ≡ v = split v 8 in
    let t : r * 2 ^ 8 + m ≡ m + 256 * r = omega arith in
    let b = and_block 8 (v / 256) r (v % 256) m (omega arith) h in
    ap (λ (x : ℕ). bit_and x (m + 256 * r)) (sym s) ∙ ap (bit_and (v / 2 ^ 8 * 2 ^ 8 + v % 2 ^ 8)) (sym t) ∙ b ∙ omega arith

-- ---- `added`: 1 in each byte of which the double is above 9

abbrev pub above : ℕ → ℕ → ℕ
above n y = bit_and ((y + each n 3) / 2 ^ 3) (each n 1)

above_more : (n y : ℕ) → y % 256 ≤ 9 → above (suc n) y ≡ (y % 256 + 3) / 8 + 256 * above n (y / 256)
unfolding each
above_more n y l =
    let z : ℕ = (y + (3 + 256 * each n 3)) / 8 in
    let low : z % 256 % 2 ≡ (y % 256 + 3) / 8 = omega arith in
    let high : z / 256 ≡ (y / 256 + each n 3) / 8 = omega arith in
    and_byte z 1 (each n 1) (omega arith) ∙ rw (and_mask (z % 256) 1, low, high)

pub added_is : (n x y : ℕ) → x < 2 ^ (8 * n) → y < 2 ^ (8 * n) → Means (digit_bytes n y) → added n x y + 9 * above n y ≡ x + 2 * y
unfolding added each
added_is zero x y hx hy m = let z : bit_and ((y + 0) / 8) 0 ≡ 0 = and_zero_r ((y + 0) / 8) in omega arith
added_is (suc n) x y hx hy m =
    let l = lowest n y m in
    let r = added_is n (x / 256) (y / 256) (one_more n x hx) (one_more n y hy) (others n y m) in
    let a = above_more n y l in
    omega arith

-- ---- `pairs`

and-more : (n v : ℕ) → bit_and v (each (suc n) 15) ≡ v % 16 + 256 * bit_and (v / 256) (each n 15)
unfolding each
and-more n v = and_byte v 15 (each n 15) (omega arith) ∙ rw (and_mask (v % 256) 4) (omega arith)

pub pairs_is : (n v : ℕ) → added n (bit_and v (each n 15)) (bit_and (v / 16) (each n 15)) ≡ pairs n v
unfolding added pairs
pairs_is zero v = refl
pairs_is (suc n) v =
    let x : ℕ = bit_and v (each (suc n) 15) in
    let y : ℕ = bit_and (v / 16) (each (suc n) 15) in
    let ex = and-more n v in
    let ey = and-more n (v / 16) in
    let x0 : x % 256 ≡ v % 16 = omega arith in
    let x1 : x / 256 ≡ bit_and (v / 256) (each n 15) = omega arith in
    let y0 : y % 256 ≡ v / 16 % 16 = omega arith in
    let swap : v / 16 / 256 ≡ v / 256 / 16 = omega arith in
    let y1 : y / 256 ≡ bit_and (v / 256 / 16) (each n 15) = rw (← swap) (omega arith) in
    rw (x0, x1, y0, y1, pairs_is n (v / 256)) refl

-- the bytes of a word of which each second digit is taken
fifteens : (i : ℕ) → i < 8 → each 8 15 / 2 ^ (8 * i) % 256 ≡ 15
unfolding each all
fifteens = holds_means (every 8 λ i. each 8 15 / 2 ^ (8 * i) % 256 ≡? 15) refl

digit-byte : (v i : ℕ) → i < 8 → bit_and v (each 8 15) / 2 ^ (8 * i) % 256 ≡ v / 2 ^ (8 * i) % 16
digit-byte v i h =
    rw (and_shr v (each 8 15) (8 * i)) (and_mod (v / 2 ^ (8 * i)) (each 8 15 / 2 ^ (8 * i)) 8)
    ∙ ap (bit_and (v / 2 ^ (8 * i) % 256)) (fifteens i h) ∙ and_mask (v / 2 ^ (8 * i) % 256) 4 ∙ omega arith

module _ (v : ℕ) (m : Means (decimal 16 v)) where
  pub seconds : Means (digit_bytes 8 (bit_and v (each 8 15)))
  seconds i h =
      let e : 4 * (2 * i) ≡ 8 * i = omega arith in
      rw (digit-byte v i h, ← e) (m (2 * i) (omega arith))

  pub firsts : Means (digit_bytes 8 (bit_and (v / 16) (each 8 15)))
  firsts i h =
      let e : 4 * (1 + 2 * i) ≡ 4 + 8 * i = omega arith in
      rw (digit-byte (v / 16) i h, shr-shr v 4 (8 * i), ← e) (m (1 + 2 * i) (omega arith))

-- ---- the sum

twice : (n : ℕ) → 2 * suc n ≡ suc (suc (2 * n))
twice n = omega arith

-- the digits two by two
luhn-more : (n v : ℕ) → luhn (digits_of (2 * suc n) v) ≡ v % 16 + doubled (v / 16 % 16) + luhn (digits_of (2 * n) (v / 256))
unfolding luhn digits_of
luhn-more n v = let e : v / 16 / 16 ≡ v / 256 = omega arith in rw (twice n, ← e) refl

pub luhn-append : (n v : ℕ) (ds : List ℕ) → luhn (digits_of (2 * n) v ++ ds) ≡ luhn (digits_of (2 * n) v) + luhn ds
unfolding luhn digits_of
luhn-append zero v ds = omega arith
luhn-append (suc n) v ds =
    let r : luhn (digits_of (2 * n) (v / 16 / 16) ++ ds) ≡ luhn (digits_of (2 * n) (v / 16 / 16)) + luhn ds = luhn-append n (v / 16 / 16) ds in
    rw (twice n) (omega arith)

luhn-zero : (n : ℕ) → luhn (digits_of (2 * n) 0) ≡ 0
unfolding luhn digits_of
luhn-zero zero = refl
luhn-zero (suc n) = luhn-more n 0 ∙ omega (arith, luhn-zero n)

-- zeros before a number count nothing
pub luhn-short : (m n v : ℕ) → v < 2 ^ (8 * m) → luhn (digits_of (2 * (m + n)) v) ≡ luhn (digits_of (2 * m) v)
unfolding luhn digits_of
luhn-short zero n v h =
    let e : v ≡ 0 = omega arith in
    let f : 0 + n ≡ n = omega arith in
    rw (e, f) (luhn-zero n)
luhn-short (suc m) n v h =
    let e : suc m + n ≡ suc (m + n) = omega arith in
    rw e (luhn-more (m + n) v ∙ rw (luhn-short m n (v / 256) (one_more m v h)) (sym (luhn-more m v)))

pub modulo : (n v : ℕ) → pairs n v % 255 ≡ luhn (digits_of (2 * n) v) % 255
unfolding pairs luhn digits_of
modulo zero v = refl
modulo (suc n) v =
    let r = modulo n (v / 256) in
    let e = luhn-more n v in
    omega arith

digits_others : (n v : ℕ) → Means (decimal (2 * suc n) v) → Means (decimal (2 * n) (v / 256))
digits_others n v m i h =
    let e : 4 * (2 + i) ≡ 8 + 4 * i = omega arith in
    let z : v / 2 ^ (8 + 4 * i) % 16 ≤ 9 = rw e at (m (2 + i) (omega arith)) in
    rw (shr-shr v 8 (4 * i)) z

module _ (n v : ℕ) (m : Means (decimal (2 * suc n) v)) where
  pair-most : v % 16 + doubled (v / 16 % 16) ≤ 18
  pair-most =
      let a : v / 1 % 16 ≤ 9 = m 0 (omega arith) in
      let b : v / 16 % 16 ≤ 9 = m 1 (omega arith) in
      omega arith

pub luhn-most : (n v : ℕ) → Means (decimal (2 * n) v) → luhn (digits_of (2 * n) v) ≤ 18 * n
unfolding luhn digits_of
luhn-most zero v m = omega arith
luhn-most (suc n) v m =
    let r = luhn-most n (v / 256) (digits_others n v m) in
    let e = luhn-more n v in
    let p = pair-most n v m in
    omega arith

pub pairs-most : (n v : ℕ) → Means (decimal (2 * n) v) → pairs n v ≤ each n 18
unfolding pairs each
pairs-most zero v m = omega arith
pairs-most (suc n) v m =
    let r = pairs-most n (v / 256) (digits_others n v m) in
    let p = pair-most n v m in
    omega arith
