-- The laws of any list that meets end to end: what is stored is read, what is read is stored back, a field stored leaves the others,
-- and nothing outside the list changes. Assumes nothing.
use mathlib.Core.Path.{◌≡◌, refl, sym, ap, ap₂, ◌∙◌}
use mathlib.Core.Logic.{◌⊎◌, inl, inr, ⊎_elim}
use mathlib.Core.List.{List, [], ◌∷◌}
use Prim.Native.Nat.{ℕ, zero, suc, ◌+◌, ◌-◌, ◌*◌, ◌^◌, ◌≤◌, ◌<◌}
use native.Mathlib.Nat.{le_of_suc-le-suc, not-suc-le-zero}
use native.Mathlib.Omega.{arith}
use lib.Dec.{T}
use lib.ListN.{length, get_or, set, length-set}
use lib.Seq.{ext_get_or, get_or-set_same, get_or-set_other}
use lib.Pow.{pow_pos}
use Rattle.rules.specs.Claim.{Means}
use Rattle.bits.specs.Bits.{Bytes, bit, field, store}
use Rattle.bits.proofs.Laws.{lt-or-le, bit_past, ext, digit-field, field_lt, field-store, field-store-apart, store-field, length-store, bytes-store, bit-store_in, bit-store_out}
use Rattle.fields.specs.declared.Span.{Span}
use Rattle.fields.specs.Ends.{end_to_end}
use Rattle.fields.specs.Lists.{nth}
use Rattle.fields.specs.Fields.{fields, stores, limit_of, fit}
use Rattle.fields.proofs.Joined.{head_of, tail_of, nil_of, ends, within, ordered}

-- ---- one at a time

pub length_fields : (l : List ℕ) (ps : List Span) → length (fields l ps) ≡ length ps
unfolding fields
length_fields l [] = refl
length_fields l (p ∷ ps) = ap suc (length_fields l ps)

pub get_or-fields : (l : List ℕ) (ps : List Span) (i : ℕ) → i < length ps
    → get_or (fields l ps) i 0 ≡ field l (nth ps i).0 (nth ps i).1
unfolding fields
get_or-fields l [] i h = absurd (not-suc-le-zero h)
get_or-fields l (p ∷ ps) zero h = refl
get_or-fields l (p ∷ ps) (suc i) h = get_or-fields l ps i (le_of_suc-le-suc h)

-- a value is within its limit exactly if it has the place's width
pub fits : (p : Span) (v : ℕ) → v ≤ limit_of p → v < 2 ^ p.1
fits p v h = omega (arith, pow_pos p.1)

pub fits_back : (p : Span) (v : ℕ) → v < 2 ^ p.1 → v ≤ limit_of p
fits_back p v h = omega arith

pub length-stores : (l : List ℕ) (ps : List Span) (vs : List ℕ) → length (stores l ps vs) ≡ length l
unfolding stores
length-stores l [] vs = refl
length-stores l (p ∷ ps) [] = refl
length-stores l (p ∷ ps) (v ∷ vs) = length-stores (store l p.0 p.1 v) ps vs ∙ length-store l p.0 p.1 v

pub bytes-stores : (l : List ℕ) (ps : List Span) (vs : List ℕ) → Bytes l → Bytes (stores l ps vs)
unfolding stores
bytes-stores l [] vs b = b
bytes-stores l (p ∷ ps) [] b = b
bytes-stores l (p ∷ ps) (v ∷ vs) b = bytes-stores (store l p.0 p.1 v) ps vs (bytes-store l p.0 p.1 v)

-- ---- over any list that meets end to end

-- no bit outside the list changes
pub bit-stores_out : (a : ℕ) (ps : List Span) (e : ℕ) → T (end_to_end a ps e) → (l vs : List ℕ) (i : ℕ) → (i < a) ⊎ (e ≤ i)
    → bit (stores l ps vs) i ≡ bit l i
unfolding stores
bit-stores_out a [] e t l vs i o = refl
bit-stores_out a (p ∷ ps) e t l [] i o = refl
bit-stores_out a (p ∷ ps) e t l (v ∷ vs) i o =
    let q = head_of a p ps e t in
    let r = ends (a + p.1) ps e (tail_of a p ps e t) in
    bit-stores_out (a + p.1) ps e (tail_of a p ps e t) (store l p.0 p.1 v) vs i (⊎_elim (λ h. inl (omega arith)) (λ h. inr h) o)
    ∙ bit-store_out l p.0 p.1 v i (⊎_elim (λ h. inl (omega arith)) (λ h. inr (omega arith)) o)

-- a field before the list stays
pub field-before : (a : ℕ) (ps : List Span) (e : ℕ) → T (end_to_end a ps e) → (l vs : List ℕ) (q u : ℕ) → q + u ≤ a
    → field (stores l ps vs) q u ≡ field l q u
unfolding stores
field-before a [] e t l vs q u h = refl
field-before a (p ∷ ps) e t l [] q u h = refl
field-before a (p ∷ ps) e t l (v ∷ vs) q u h =
    let s = head_of a p ps e t in
    field-before (a + p.1) ps e (tail_of a p ps e t) (store l p.0 p.1 v) vs q u (omega arith)
    ∙ field-store-apart l p.0 p.1 v q u (inr (omega arith))

fit-tail : (p : Span) (ps : List Span) (v : ℕ) (vs : List ℕ) → Means (fit (p ∷ ps) (v ∷ vs)) → Means (fit ps vs)
fit-tail p ps v vs f = (omega (arith, f.0), λ i h. f.1 (suc i) (omega arith))

-- what is stored is read
pub fields-stores : (a : ℕ) (ps : List Span) (e : ℕ) → T (end_to_end a ps e) → (l vs : List ℕ) → e ≤ 8 * length l → Means (fit ps vs)
    → fields (stores l ps vs) ps ≡ vs
unfolding fields stores
fields-stores a [] e t l [] h f = refl
fields-stores a [] e t l (v ∷ vs) h f = absurd (omega (arith, f.0))
fields-stores a (p ∷ ps) e t l [] h f = absurd (omega (arith, f.0))
fields-stores a (p ∷ ps) e t l (v ∷ vs) h f =
    let m = store l p.0 p.1 v in
    let n = length-store l p.0 p.1 v in
    let s = head_of a p ps e t in
    let u = tail_of a p ps e t in
    let r = ends (a + p.1) ps e u in
    ap₂ (λ (x : ℕ) (xs : List ℕ). x ∷ xs)
    (field-before (a + p.1) ps e u m vs p.0 p.1 (omega arith)
    ∙ field-store l p.0 p.1 v (omega arith) (fits p v (f.1 0 (omega arith))))
    (fields-stores (a + p.1) ps e u m vs (omega arith) (fit-tail p ps v vs f))

-- what is read is stored back
pub stores-fields : (l : List ℕ) (ps : List Span) → Bytes l → stores l ps (fields l ps) ≡ l
unfolding fields stores
stores-fields l [] b = refl
stores-fields l (p ∷ ps) b =
    ap (λ (z : List ℕ). stores z ps (fields l ps)) (store-field l p.0 p.1 b) ∙ stores-fields l ps b

-- what is read of l, stored into m that has l's bits outside the list, is l
pub stores_onto : (a : ℕ) (ps : List Span) (e : ℕ) → T (end_to_end a ps e) → (m l : List ℕ) → Bytes m → Bytes l → length m ≡ length l
    → e ≤ 8 * length l → ((i : ℕ) → (i < a) ⊎ (e ≤ i) → bit m i ≡ bit l i) → stores m ps (fields l ps) ≡ l
unfolding fields stores
stores_onto a [] e t m l bm bl n h o =
    let s = nil_of a e t in
    ext m l bm bl n (λ i k. o i (⊎_elim (λ u. inl u) (λ u. inr (omega arith)) (lt-or-le i a)))
stores_onto a (p ∷ ps) e t m l bm bl n h o =
    let s = head_of a p ps e t in
    let u = tail_of a p ps e t in
    let r = ends (a + p.1) ps e u in
    let x : ℕ = field l p.0 p.1 in
    stores_onto (a + p.1) ps e u (store m p.0 p.1 x) l (bytes-store m p.0 p.1 x) bl (length-store m p.0 p.1 x ∙ n) h
    (λ i z. ⊎_elim
    (λ y. ⊎_elim
    (λ w. bit-store_out m p.0 p.1 x i (inl (omega arith)) ∙ o i (inl w))
    (λ w. let q : i ≡ p.0 + (i - p.0) = omega arith in
    rw q (bit-store_in m p.0 p.1 x (i - p.0) (omega arith) (omega arith) ∙ digit-field l p.0 p.1 (i - p.0) (omega arith)))
    (lt-or-le i a))
    (λ y. bit-store_out m p.0 p.1 x i (inr (omega arith)) ∙ o i (inr y)) z)

-- the field j once the field i is stored
pub others-kept : (a : ℕ) (ps : List Span) (e : ℕ) → T (end_to_end a ps e) → (l : List ℕ) (v i j : ℕ) → i < length ps → j < length ps → (j ≡ i → ⊥)
    → field (store l (nth ps i).0 (nth ps i).1 v) (nth ps j).0 (nth ps j).1 ≡ field l (nth ps j).0 (nth ps j).1
others-kept a ps e t l v i j h k ne =
    field-store-apart l (nth ps i).0 (nth ps i).1 v (nth ps j).0 (nth ps j).1
    (⊎_elim (λ z. inr (ordered a ps e t j i z h)) (λ z. inl (ordered a ps e t i j (omega arith) k)) (lt-or-le j i))

-- a field stored is a value set
pub fields-store : (a : ℕ) (ps : List Span) (e : ℕ) → T (end_to_end a ps e) → (l : List ℕ) (v i : ℕ) → i < length ps → e ≤ 8 * length l
    → v ≤ limit_of (nth ps i) → fields (store l (nth ps i).0 (nth ps i).1 v) ps ≡ set (fields l ps) i v
fields-store a ps e t l v i h r g =
    let m = store l (nth ps i).0 (nth ps i).1 v in
    let nl = length_fields l ps in
    ext_get_or 0 (fields m ps) (set (fields l ps) i v) (length_fields m ps ∙ sym (length-set (fields l ps) i v ∙ nl))
    (λ j k. let b : j < length ps = omega (arith, length_fields m ps) in
    get_or-fields m ps j b
    ∙ ⊎_elim
    (λ z. others-kept a ps e t l v i j h b (λ q. omega arith) ∙ sym (get_or-set_other (fields l ps) i j v 0 (λ q. omega arith) ∙ get_or-fields l ps j b))
    (λ z. ⊎_elim
    (λ y. others-kept a ps e t l v i j h b (λ q. omega arith) ∙ sym (get_or-set_other (fields l ps) i j v 0 (λ q. omega arith) ∙ get_or-fields l ps j b))
    (λ y. let q : j ≡ i = omega arith in
    rw q (field-store l (nth ps i).0 (nth ps i).1 v (omega (arith, (within a ps e t i h).1)) (fits (nth ps i) v g)
    ∙ sym (get_or-set_same (fields l ps) i v 0 (omega arith))))
    (lt-or-le i j)) (lt-or-le j i))

-- what is read fits
pub fit-fields : (l : List ℕ) (ps : List Span) → Means (fit ps (fields l ps))
fit-fields l ps = (length_fields l ps, λ i h. rw (get_or-fields l ps i h) (fits_back (nth ps i) _ (field_lt l (nth ps i).0 (nth ps i).1)))

-- a list that is all of the bytes
pub stores-whole : (ps : List Span) (m l : List ℕ) → T (end_to_end 0 ps (8 * length l)) → Bytes m → Bytes l → length m ≡ length l → stores m ps (fields l ps) ≡ l
stores-whole ps m l t bm bl n =
    stores_onto 0 ps (8 * length l) t m l bm bl n (omega arith)
    (λ i o. ⊎_elim (λ h. absurd (not-suc-le-zero h)) (λ h. bit_past m i (omega arith) ∙ sym (bit_past l i h)) o)
