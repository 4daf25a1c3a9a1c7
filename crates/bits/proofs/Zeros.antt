-- Bytes that are all zero, and bits that are all zero: the number that they carry is 0, and only they carry it. Assumes nothing.
use mathlib.Core.Path.{◌≡◌, refl, sym, ◌∙◌}
use Prim.Native.Nat.{ℕ, zero, suc, ◌+◌, ◌-◌, ◌/◌, ◌%◌, ◌^◌, ◌<◌}
use mathlib.Core.List.{List}
use native.Mathlib.Nat.{zero-div}
use native.Mathlib.Omega.{arith}
use lib.ListN.{get_or, replicate}
use Rattle.bits.specs.Bits.{Bytes, digit, bit, number, field}
use Rattle.bits.proofs.Laws.{digit-field}

get_or_zeros : (n k : ℕ) → ◌≡◌ {A = ℕ} (get_or (replicate n 0) k 0) 0
get_or_zeros zero k = refl
get_or_zeros (suc n) zero = refl
get_or_zeros (suc n) (suc k) = get_or_zeros n k

pub bytes_zeros : (n : ℕ) → Bytes (replicate n 0)
bytes_zeros n k = omega (arith, get_or_zeros n k)

digit-zero : (w j : ℕ) → digit 0 w j ≡ 0
unfolding digit
digit-zero w j = rw (zero-div (2 ^ (w - suc j)))

pub bit_zeros : (n i : ℕ) → bit (replicate n 0) i ≡ 0
unfolding bit
bit_zeros n i = rw (get_or_zeros n (i / 8)) (digit-zero 8 (i % 8))

pub field_of_zeros : (l : List ℕ) (p w : ℕ) → ((j : ℕ) → j < w → bit l (p + j) ≡ 0) → field l p w ≡ 0
unfolding field number
field_of_zeros l p zero h = refl
field_of_zeros l p (suc w) h = omega (arith, field_of_zeros l p w (λ j k. h j (omega arith)), h w (omega arith))

pub zeros_of-field : (l : List ℕ) (p w : ℕ) → field l p w ≡ 0 → (j : ℕ) → j < w → bit l (p + j) ≡ 0
zeros_of-field l p w e j h = sym (digit-field l p w j h) ∙ rw e (digit-zero w j)
