-- A number is zero exactly where each of its bits is. Assumes nothing.
use mathlib.Core.Path.{◌≡◌, sym, ap, ◌∙◌}
use mathlib.Core.Logic.{◌↔◌}
use mathlib.Core.List.{List}
use Prim.Native.Nat.{ℕ, suc, ◌+◌, ◌-◌, ◌^◌, ◌≤◌, ◌<◌}
use native.Mathlib.Nat.{zero-div, zero-mod}
use native.Mathlib.Omega.{arith}
use Rattle.bits.specs.Bits.{digit, bit, number, field}
use Rattle.bits.proofs.Laws.{digit-field, number_digits}
use Rattle.image.specs.Facts.{Zeros}

digit-zero : (w j : ℕ) → digit 0 w j ≡ 0
unfolding digit
digit-zero w j = rw (zero-div (2 ^ (w - suc j)))

pub zeros-field : (l : List ℕ) (p w : ℕ) → (field l p w ≡ 0) ↔ Zeros l p (p + w)
unfolding field
zeros-field l p w = (there, back)
  where
    there : field l p w ≡ 0 → (i : ℕ) → p ≤ i → i < p + w → bit l i ≡ 0
    there e i a b =
        let q : p + (i - p) ≡ i = omega arith in
        ap (bit l) (sym q) ∙ sym (digit-field l p w (i - p) (omega arith)) ∙ ap (λ (v : ℕ). digit v w (i - p)) e ∙ digit-zero w (i - p)

    back : ((i : ℕ) → p ≤ i → i < p + w → bit l i ≡ 0) → number (bit l) p w ≡ 0
    back h = number_digits (bit l) p w 0 (λ j b. h (p + j) (omega arith) (omega arith) ∙ sym (digit-zero w j)) ∙ zero-mod (2 ^ w)
