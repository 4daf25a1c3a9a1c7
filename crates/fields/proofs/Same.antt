-- A list that meets end to end reads only the bits between its start and its end, so bytes with the same bits there have the same values.
-- Assumes nothing.
use mathlib.Core.Path.{◌≡◌, refl, ap, ap₂, ◌∙◌}
use mathlib.Core.List.{List, [], ◌∷◌}
use Prim.Native.Nat.{ℕ, ◌+◌, ◌*◌, ◌≤◌, ◌<◌}
use native.Mathlib.Omega.{arith}
use lib.Dec.{T}
use lib.ListN.{take}
use Rattle.bits.specs.Bits.{bit}
use Rattle.bits.proofs.Laws.{field_cong, bit-part}
use Rattle.fields.specs.declared.Span.{Span}
use Rattle.fields.specs.Ends.{end_to_end}
use Rattle.fields.specs.Fields.{fields}
use Rattle.fields.proofs.Joined.{head_of, tail_of, ends}

pub fields-same : (a : ℕ) (ps : List Span) (e : ℕ) → T (end_to_end a ps e) → (l m : List ℕ) → ((i : ℕ) → a ≤ i → i < e → bit l i ≡ bit m i)
    → fields l ps ≡ fields m ps
unfolding fields
fields-same a [] e t l m h = refl
fields-same a (p ∷ ps) e t l m h =
    let s = head_of a p ps e t in
    let u = tail_of a p ps e t in
    let r = ends (a + p.1) ps e u in
    ap₂ (λ (x : ℕ) (xs : List ℕ). x ∷ xs)
    (field_cong l m p.0 p.0 p.1 (λ j k. h (p.0 + j) (omega arith) (omega arith)))
    (fields-same (a + p.1) ps e u l m (λ i x y. h i (omega arith) y))

-- the first n bytes have the values of a list that ends in them
pub fields_front : (a : ℕ) (ps : List Span) (e : ℕ) → T (end_to_end a ps e) → (l : List ℕ) (n : ℕ) → e ≤ 8 * n → fields (take n l) ps ≡ fields l ps
fields_front a ps e t l n h = fields-same a ps e t (take n l) l (λ i x y. bit-part l 0 n i (omega arith) ∙ ap (bit l) (omega arith))
