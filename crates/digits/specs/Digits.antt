-- Digits of four bits each (004, 4.1.4: BCD), and the check digit of ISO/IEC 7812-1 that ends a number (4.1.4.4). Assumes nothing.
use Rattle.std.specs.Prelude.{ℕ, zero, suc, ◌+◌, ◌*◌, ◌/◌, ◌%◌, ◌^◌, List, [], ◌∷◌}
use Rattle.rules.specs.Claim.{Claim, ◌≤?◌, every}

abbrev pub decimal : ℕ → ℕ → Claim  -- none of the n digits, of four bits each, of which v is made is above 9
decimal n v = every n λ i. v / 2 ^ (4 * i) % 16 ≤? 9

unfoldable pub digits_of : ℕ → ℕ → List ℕ  -- these digits, from the right: the last first
digits_of zero v = []
digits_of (suc n) v = v % 16 ∷ digits_of n (v / 16)

-- ---- ISO/IEC 7812-1: from the right, every second digit is doubled, the last not; with the right check digit as the last the sum is a multiple of ten

abbrev pub doubled : ℕ → ℕ  -- twice the digit d; the digits of that number are added
doubled d = 2 * d / 10 + 2 * d % 10

unfoldable pub luhn : List ℕ → ℕ  -- the sum over a number's digits, from the right
luhn [] = 0
luhn (d ∷ []) = d
luhn (d ∷ e ∷ ds) = d + doubled e + luhn ds
