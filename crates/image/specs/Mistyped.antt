-- A card whose ISRN was mistyped (request T-03): the eighteen digits of IIN, OID, ISSN and CHD stand side by side from byte 6 of the image on
-- (document 01, "Shell record"; 004, 4.1, Table 1). Assumes nothing.
use Rattle.std.specs.Prelude.{ℕ, ◌+◌, ◌*◌, List}
use Rattle.bits.specs.Bits.{field, store}
use Rattle.crc.specs.Crc.{crc}
use Rattle.image.specs.Image.{dataset, before_SECR}

abbrev pub digit_at : List ℕ → ℕ → ℕ  -- digit i of the eighteen, from the left: 0 to 17
digit_at c i = field c (48 + 4 * i) 4

abbrev pub with_digit : List ℕ → ℕ → ℕ → List ℕ  -- the digit d there
with_digit c i d = store c (48 + 4 * i) 4 d

abbrev pub with_SECR : List ℕ → List ℕ  -- SECR made right again
with_SECR c = store c (8 * (2 + dataset c)) 16 (crc (before_SECR c))

abbrev pub mistyped : List ℕ → ℕ → ℕ → List ℕ  -- one digit is another
mistyped c i d = with_SECR (with_digit c i d)

abbrev pub exchanged : List ℕ → ℕ → List ℕ  -- digit i and the next one have changed places
exchanged c i = with_SECR (with_digit (with_digit c i (digit_at c (1 + i))) (1 + i) (digit_at c i))
