-- An annex: 64 clocks that leave 64 bits and not sixteen. After 48 clocks more they are the register (crc `Many.carried_law`): until then data that
-- follows is added to them as to the register. Assumes nothing.
use Rattle.std.specs.Prelude.{ℕ, ◌*◌, ◌/◌, ◌%◌, ◌^◌}
use Rattle.std.specs.Int.Bits.{bit_xor}

-- a shift to the left in 64 bits, and to the right
abbrev pub left : ℕ → ℕ → ℕ
left k x = x * 2 ^ k % 2 ^ 64

abbrev pub right : ℕ → ℕ → ℕ
right k x = x / 2 ^ k

-- x with its shifts to the left by a; by a and b
abbrev pub once : ℕ → ℕ → ℕ
once a x = bit_xor x (left a x)

abbrev pub twice : ℕ → ℕ → ℕ → ℕ
twice a b x = bit_xor (once a x) (left b x)

-- z with its shifts to the right
abbrev pub spread : ℕ → ℕ
spread z = bit_xor (bit_xor z (right 20 z)) (right 48 z)

-- divided by the fourth power of the polynomial, and what is beyond 64 bits of that times the fourth power
abbrev pub carried : ℕ → ℕ
carried x = spread (twice 16 44 (once 32 x))
