-- Numbers that end in their check digit, computed by the definition: 7992739871 has 3, 4992739871 has 6, 633597 0000 1234567 has 1 and 633597 1234 1234567
-- has 7. Assumes nothing.
use mathlib.Core.Path.{◌≡◌, refl}
use mathlib.Core.List.{◌∷◌, []}
use Rattle.digits.specs.Digits.{digits_of, luhn}

seventy : (luhn (digits_of 11 0x79927398713) ≡ 70) × (luhn (digits_of 11 0x49927398716) ≡ 70)
unfolding luhn digits_of
seventy = (refl, refl)

shells : (luhn (digits_of 18 0x633597000012345671) ≡ 60) × (luhn (digits_of 18 0x633597123412345677) ≡ 80)
unfolding luhn digits_of
shells = (refl, refl)

-- from the right: the last digit comes first
from-right : digits_of 3 0x123 ≡ 3 ∷ 2 ∷ 1 ∷ []
unfolding digits_of
from-right = refl
