-- Bytes as two hexadecimal digits, in lower case. Assumes nothing.
use Rattle.std.specs.Prelude.{ℕ, ◌+◌, ◌-◌, ◌*◌, ◌/◌, ◌%◌, Bool, true, false, cond, ◌&&◌, ◌||◌, List, [], ◌∷◌, Option, Some, None, unwrap_or, length, leb, ltb}
use Rattle.io.specs.Digits.{hex_digit_ascii}
use Rattle.text.specs.Words.{same, bytes_of, none}

-- what `0` to `9` and `a` to `f` mean; 16 for any other byte
abbrev pub meant : ℕ → ℕ
meant b =
    cond (leb 48 b && leb b 57) (b - 48)
    (cond (leb 97 b && leb b 102) (b - 87)
    16)

-- the byte of two digits that mean x and y
abbrev pub pair_with : ℕ → ℕ → Option ℕ
pair_with x y = cond (ltb x 16 && ltb y 16) (Some (16 * x + y)) None

abbrev pub pair_of : ℕ → ℕ → Option ℕ
pair_of a b = pair_with (meant a) (meant b)

-- the two digits of a byte
abbrev pub spelled_byte : ℕ → List ℕ
spelled_byte b = hex_digit_ascii (b / 16) ∷ hex_digit_ascii (b % 16) ∷ []

-- ---- a word of such digits

abbrev pub is_byte : Option ℕ → Bool
is_byte (Some x) = true
is_byte None = false

-- whether a word is digits, two to a byte
abbrev pub in_pairs : List ℕ → Bool
in_pairs [] = true
in_pairs (a ∷ []) = false
in_pairs (a ∷ b ∷ w) = is_byte (pair_of a b) && in_pairs w

abbrev pub some : List ℕ → Bool
some [] = false
some (b ∷ w) = true

-- whether a word means bytes: a dash means none, and else there is at least one
abbrev pub is_hex : List ℕ → Bool
is_hex w = same w (bytes_of "-") || (some w && in_pairs w)

-- the byte that two digits mean, and 0 where they mean none
abbrev pub byte_or0 : Option ℕ → ℕ
byte_or0 o = unwrap_or o 0

-- the bytes that a word means, each of two digits
abbrev pub bytes_in : List ℕ → List ℕ
bytes_in [] = []
bytes_in (a ∷ []) = []
bytes_in (a ∷ b ∷ w) = byte_or0 (pair_of a b) ∷ bytes_in w

-- how many they are
abbrev pub hex_count : List ℕ → ℕ
hex_count w = cond (is_hex w) (length (bytes_in w)) none
