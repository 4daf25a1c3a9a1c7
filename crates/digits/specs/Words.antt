-- An annex: digits by words of bytes, two digits to a byte, as the machine adds them. No published contract cites it. Assumes nothing.
use Rattle.std.specs.Prelude.{ℕ, zero, suc, ◌+◌, ◌*◌, ◌/◌, ◌%◌, ◌^◌}
use Rattle.rules.specs.Claim.{Claim, ◌≤?◌, every}
use Rattle.digits.specs.Digits.{doubled}

abbrev pub digit_bytes : ℕ → ℕ → Claim  -- each of the n bytes of which x is made is a decimal digit
digit_bytes n x = every n λ i. x / 2 ^ (8 * i) % 256 ≤? 9

unfoldable pub added : ℕ → ℕ → ℕ → ℕ  -- n bytes: a digit of x, and one of y doubled
added zero x y = 0
added (suc n) x y = x % 256 + doubled (y % 256) + 256 * added n (x / 256) (y / 256)

unfoldable pub pairs : ℕ → ℕ → ℕ  -- n bytes: the byte's second digit, and its first one doubled
pairs zero v = 0
pairs (suc n) v = v % 16 + doubled (v / 16 % 16) + 256 * pairs n (v / 256)
