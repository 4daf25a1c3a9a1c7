-- `digits::ends_right` meets its contract: nine bytes add up to less than 255. Assumes nothing.
use mathlib.Core.Path.{◌≡◌, ap}
use native.Mathlib.Omega.{arith}
use Prim.Native.Nat.{ℕ, ◌+◌, ◌%◌, ◌≤◌, ◌<◌}
use lib.Dec.{eqb}
use Rattle.rules.specs.Claim.{Means}
use Rattle.digits.specs.Digits.{decimal, digits_of, luhn}
use Rattle.digits.specs.Words.{pairs}
use Rattle.digits.proofs.Bytewise.{each, luhn-short, luhn-most, modulo, pairs-most}
use Rattle.digits.proofs.ends_right.Goals as goal

word-most : (v : ℕ) → Means (decimal 16 v) → pairs 8 v ≤ 0x1212_1212_1212_1212
unfolding each
word-most v m = pairs-most 8 v m

module _ (high low : ℕ) (h : high < 256) (mh : Means (decimal 16 high)) (ml : Means (decimal 16 low)) where
  two_digits : luhn (digits_of 16 high) ≤ 18
  two_digits =
      let e : luhn (digits_of 16 high) ≡ luhn (digits_of 2 high) = luhn-short 1 7 high h in
      let m : luhn (digits_of 2 high) ≤ 18 = luhn-most 1 high (λ i l. mh i (omega arith)) in
      omega arith

  summed : {p q : ℕ} → p ≡ pairs 8 low → q ≡ pairs 8 high → (p + q) % 255 ≡ luhn (digits_of 16 low) + luhn (digits_of 16 high)
  summed ep eq =
      let a : pairs 8 low % 255 ≡ luhn (digits_of 16 low) % 255 = modulo 8 low in
      let b : pairs 8 high % 255 ≡ luhn (digits_of 16 high) % 255 = modulo 8 high in
      let l : luhn (digits_of 16 low) ≤ 144 = luhn-most 8 low ml in
      let t = two_digits in
      omega arith

pub overflow_add-result : goal.overflow_add-result
overflow_add-result c =
    omega (arith, c.pairs.ensures, c.pairs-2.ensures, word-most c.args.low c.requires.2, word-most c.args.high c.requires.1)

pub returns : goal.returns
returns c =
    ap (λ (x : ℕ). eqb (x % 10) 0) (summed c.args.high c.args.low c.requires.0 c.requires.1 c.requires.2 c.pairs.ensures c.pairs-2.ensures)
