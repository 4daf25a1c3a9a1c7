-- Decimal numbers as text. Assumes nothing.
use Rattle.std.specs.Prelude.{ℕ, zero, suc, ◌+◌, ◌-◌, ◌*◌, ◌/◌, ◌^◌, Bool, true, cond, ◌&&◌, List, [], ◌∷◌, Option, Some, None, leb, ltb}
use Rattle.io.specs.Digits.{last_digits}

-- whether a byte is one of `0` to `9`
abbrev pub is_digit : ℕ → Bool
is_digit b = leb 48 b && leb b 57

abbrev pub all_digits : List ℕ → Bool
all_digits [] = true
all_digits (b ∷ w) = is_digit b && all_digits w

-- the number that the digits w make after the number n, the most significant first
abbrev pub after : ℕ → List ℕ → ℕ
after n [] = n
after n (b ∷ w) = after (n * 10 + (b - 48)) w

-- the digits w after the number n: a number below 2^64, or none
abbrev pub number_after : ℕ → List ℕ → Option ℕ
number_after n w = cond (all_digits w && ltb (after n w) (2 ^ 64)) (Some (after n w)) None

-- a word as a number: digits, at least one, and below 2^64
abbrev pub number_of : List ℕ → Option ℕ
number_of [] = None
number_of (b ∷ w) = number_after 0 (b ∷ w)

-- how many decimal digits n has, counted up to f + 1
abbrev pub places : ℕ → ℕ → ℕ
places zero n = 1
places (suc f) n = cond (ltb n 10) 1 (suc (places f (n / 10)))

-- the digits of n, which is below 2^64 and so has at most twenty, with no zeros before them
unfoldable pub spelled : ℕ → List ℕ
spelled n = last_digits 10 (places 19 n) n
