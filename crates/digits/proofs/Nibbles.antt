-- Digits of four bits are tested a word at a time: a digit is above 9 exactly where its bit 8 stands with its bit 4 or its bit 2, and the word
-- shifted by one bit, and by two, has these at the place of bit 8. Assumes nothing.
use mathlib.Core.Path.{◌≡◌, refl, sym, ap, ◌∙◌}
use mathlib.Core.Bool.{Bool, true, false, ◌&&◌, and-true, and-false}
use Prim.Native.Nat.{ℕ, zero, suc, ◌+◌, ◌-◌, ◌*◌, ◌/◌, ◌%◌, ◌^◌, ◌≤◌, ◌<◌}
use native.Mathlib.Nat.{add-mul, mul_right_comm, add-mul-div_right, div-lt_iff_lt-mul, mul-lt-mul_of_pos_right, mod-add-div', mod-lt, mod-eq_of_lt, lt_of_le_of_lt, lt_of_lt_of_le, le_trans, mul_comm}
use native.Mathlib.Omega.{arith}
use lib.Dec.{eqb, leb}
use lib.Pow.{pow_pos, pow_mono, mod-pow-add, mod-mod-pow, field}
use lib.Bits.{bit_and, bit_or, and_shr, or_shr, and_mod, or_mod, and_le_l}
use borrow.Author.Tests.{eq-eqb, ne_eqb}
use Rattle.rules.specs.Claim.{Claim, ◌≡?◌, every}
use Rattle.rules.specs.First.{all, holds, if_kept}
use Rattle.rules.proofs.ClaimLaws.{holds_means}
use Rattle.digits.specs.Digits.{decimal}

abbrev digit : ℕ → ℕ → ℕ
digit v k = v / 2 ^ (4 * k) % 16

-- bit 8 of each of sixteen digits
abbrev eights : ℕ
eights = 0x8888888888888888

-- those that stand with the digit's bit 4 or its bit 2
abbrev above : ℕ → ℕ
above v = bit_and (bit_and v (bit_or (v * 2 ^ 1 % 2 ^ 64) (v * 2 ^ 2 % 2 ^ 64))) eights

-- ---- one digit

-- the same of a digit a alone, where c and d come in from the digit below
abbrev above_one : ℕ → ℕ → ℕ → ℕ
above_one a c d = bit_and (bit_and a (bit_or ((c + a * 2) % 16) ((d + a * 4) % 16))) 8

abbrev each : Claim
each = every 16 λ a. every 2 λ c. every 4 λ d. above_one a c d ≡? if_kept (leb a 9) 0 8

one-digit : (a c d : ℕ) → a < 16 → c < 2 → d < 4 → above_one a c d ≡ if_kept (leb a 9) 0 8
unfolding all
one-digit a c d ha hc hd = holds_means each refl a ha c hc d hd

eight : (k : ℕ) → k < 16 → digit eights k ≡ 8
unfolding all
eight = holds_means (every 16 λ k. digit eights k ≡? 8) refl

-- a word of 64 bits has the sixteen digits that it was cut from
cut_digit : (x k : ℕ) → k < 16 → digit (x % 2 ^ 64) k ≡ digit x k
cut_digit x k h =
    let j : ℕ = 60 - 4 * k in
    let e : j + 4 + 4 * k ≡ 64 = omega arith in
    let f : x % 2 ^ 64 / 2 ^ (4 * k) ≡ x / 2 ^ (4 * k) % 2 ^ (j + 4) = rw e at (field x (j + 4) (4 * k)) in
    rw f (mod-mod-pow (x / 2 ^ (4 * k)) j 4)

and-digit : (a b k : ℕ) → digit (bit_and a b) k ≡ bit_and (digit a k) (digit b k)
and-digit a b k = rw (and_shr a b (4 * k)) (and_mod (a / 2 ^ (4 * k)) (b / 2 ^ (4 * k)) 4)

or-digit : (a b k : ℕ) → digit (bit_or a b) k ≡ bit_or (digit a k) (digit b k)
or-digit a b k = rw (or_shr a b (4 * k)) (or_mod (a / 2 ^ (4 * k)) (b / 2 ^ (4 * k)) 4)

-- s times v, of which p is the place looked at: what comes in from below is less than s
module _ (v s p : ℕ) (h : 0 < p) where
  abbrev carry : ℕ
  carry = v % p * s / p

  carried : v * s / p ≡ carry + v / p * s
  carried =
      ap (λ (x : ℕ). x * s / p) (sym (mod-add-div' v p))
      ∙ ap (λ (x : ℕ). x / p) (add-mul (v % p) (v / p * p) s ∙ ap (λ (x : ℕ). v % p * s + x) (mul_right_comm (v / p) p s))
      ∙ add-mul-div_right (v % p * s) (v / p * s) h

  carry-lt : 0 < s → carry < s
  carry-lt hs = (div-lt_iff_lt-mul h).1 (rw (mul_comm s p) (mul-lt-mul_of_pos_right (mod-lt v h) hs))

above-digit : (v k : ℕ) → k < 16 → digit (above v) k ≡ if_kept (leb (digit v k) 9) 0 8
above-digit v k h =
    let p = 2 ^ (4 * k) in
    let z = pow_pos (4 * k) in
    let c = carry v 2 p z in
    let d = carry v 4 p z in
    let twice : digit (v * 2) k ≡ (c + digit v k * 2) % 16 = rw (carried v 2 p z) (omega arith) in
    let fourfold : digit (v * 4) k ≡ (d + digit v k * 4) % 16 = rw (carried v 4 p z) (omega arith) in
    let u = bit_or (v * 2 ^ 1 % 2 ^ 64) (v * 2 ^ 2 % 2 ^ 64) in
    rw (and-digit (bit_and v u) eights k, and-digit v u k, or-digit (v * 2 ^ 1 % 2 ^ 64) (v * 2 ^ 2 % 2 ^ 64) k, eight k h, cut_digit (v * 2) k h, cut_digit (v * 4) k h, twice, fourfold)
    (one-digit (digit v k) c d (omega arith) (carry-lt v 2 p z (omega arith)) (carry-lt v 4 p z (omega arith)))

-- ---- the word

-- with one digit more, a number is 0 where that digit is and the lower ones are
more : (b : Bool) (p r : ℕ) → 0 < p → eqb (if_kept b 0 8 * p + r) 0 ≡ (eqb r 0 && b)
more true p r h = let e : 0 * p + r ≡ r = omega arith in rw e (sym (and-true (eqb r 0)))
more false p r h = ne_eqb (8 * p + r) 0 (λ e. omega arith) ∙ sym (and-false (eqb r 0))

low_digits : (n v : ℕ) → n ≤ 16 → eqb (above v % 2 ^ (4 * n)) 0 ≡ holds (decimal n v)
unfolding all
low_digits zero v h = eq-eqb (above v % 1) 0 (omega arith)
low_digits (suc n) v h =
    let p = 2 ^ (4 * n) in
    let e : 4 * suc n ≡ 4 + 4 * n = omega arith in
    let one = above-digit v n (omega arith) in
    let both = more (leb (digit v n) 9) p (above v % p) (pow_pos (4 * n)) in
    rw (e, mod-pow-add (above v) 4 (4 * n), one, both, low_digits n v (omega arith)) refl

-- v has at most n digits
pub word : (n v : ℕ) → n ≤ 16 → v < 2 ^ (4 * n) → eqb (above v) 0 ≡ holds (decimal n v)
word n v l h =
    let u = bit_or (v * 2 ^ 1 % 2 ^ 64) (v * 2 ^ 2 % 2 ^ 64) in
    let b : above v < 2 ^ (4 * n) = lt_of_le_of_lt (le_trans (and_le_l (bit_and v u) eights) (and_le_l v u)) h in
    ap (λ (x : ℕ). eqb x 0) (sym (mod-eq_of_lt b)) ∙ low_digits n v l

-- the digits above those are 0, and decimal
pub fewer : (n v : ℕ) → n ≤ 16 → v < 2 ^ (4 * n) → holds (decimal 16 v) ≡ holds (decimal n v)
fewer n v l h = sym (word 16 v (omega arith) (lt_of_lt_of_le h (pow_mono {j = 64} (omega arith)))) ∙ word n v l h
