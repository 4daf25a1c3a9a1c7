-- Places stored within a region leave every bit outside it, and what is stored in two regions apart may change places: each store is so. Assumes nothing.
use mathlib.Core.Path.{◌≡◌, refl, sym, ap, ◌∙◌}
use mathlib.Core.Logic.{inl, inr, ⊎_elim}
use mathlib.Core.List.{List, [], ◌∷◌}
use Prim.Native.Nat.{ℕ, ◌+◌, ◌*◌, ◌≤◌}
use native.Mathlib.Omega.{arith}
use lib.Dec.{T}
use lib.ListN.{length, take, drop, length-take, length-drop}
use Rattle.bits.specs.Bits.{Bytes, bit, field, store, Outside}
use Rattle.bits.proofs.Laws.{Apart, ext, field_cong, bit-part, bit-store_out, store_comm, bytes_take, bytes_drop}
use Rattle.fields.specs.declared.Span.{Span}
use Rattle.fields.specs.Ends.{end_to_end}
use Rattle.fields.specs.Fields.{stores, shifted}
use Rattle.fields.proofs.Joined.{head_of, tail_of, ends}
use Rattle.fields.proofs.Laws.{length-stores, bytes-stores}

-- every place lies in the n bits from bit a on
abbrev pub Inside : ℕ → ℕ → List Span → Type 0
Inside a n [] = Unit {0}
Inside a n (p ∷ ps) = ((a ≤ p.0) × (p.0 + p.1 ≤ a + n)) × Inside a n ps

-- places that meet end to end lie between their ends
pub joined-inside : (a : ℕ) (ps : List Span) (e : ℕ) → T (end_to_end a ps e) → (b n : ℕ) → b ≤ a → e ≤ b + n → Inside b n ps
joined-inside a [] e t b n h k = tt
joined-inside a (p ∷ ps) e t b n h k =
    let s = head_of a p ps e t in
    let u = tail_of a p ps e t in
    let r = ends (a + p.1) ps e u in
    ((omega arith, omega arith), joined-inside (a + p.1) ps e u b n (omega arith) k)

pub shifted-inside : (b a n : ℕ) (ps : List Span) → Inside a n ps → Inside (b + a) n (shifted b ps)
unfolding shifted
shifted-inside b a n [] h = tt
shifted-inside b a n (p ∷ ps) h = ((omega (arith, h.0), omega (arith, h.0)), shifted-inside b a n ps h.1)

pub inside-stores_out : (a n : ℕ) (l : List ℕ) (ps : List Span) (vs : List ℕ) (i : ℕ) → Inside a n ps → Outside a n i
    → bit (stores l ps vs) i ≡ bit l i
unfolding stores
inside-stores_out a n l [] vs i h o = refl
inside-stores_out a n l (p ∷ ps) [] i h o = refl
inside-stores_out a n l (p ∷ ps) (v ∷ vs) i h o =
    inside-stores_out a n (store l p.0 p.1 v) ps vs i h.1 o
    ∙ bit-store_out l p.0 p.1 v i (⊎_elim (λ z. inl (omega (arith, h.0))) (λ z. inr (omega (arith, h.0))) o)

-- ---- two regions apart

apart_in : (a n p w q u : ℕ) → Apart a n q u → a ≤ p → p + w ≤ a + n → Apart p w q u
apart_in a n p w q u (inl h) k l = inl (omega arith)
apart_in a n p w q u (inr h) k l = inr (omega arith)

store-stores : (a n : ℕ) (l : List ℕ) (ps : List Span) (vs : List ℕ) (q u x : ℕ) → Inside a n ps → Apart a n q u
    → store (stores l ps vs) q u x ≡ stores (store l q u x) ps vs
unfolding stores
store-stores a n l [] vs q u x h o = refl
store-stores a n l (p ∷ ps) [] q u x h o = refl
store-stores a n l (p ∷ ps) (v ∷ vs) q u x h o =
    store-stores a n (store l p.0 p.1 v) ps vs q u x h.1 o
    ∙ ap (λ (z : List ℕ). stores z ps vs) (store_comm l p.0 p.1 v q u x (apart_in a n p.0 p.1 q u o h.0.0 h.0.1))

apart-within : (a n b m q u : ℕ) → Apart a n b m → b ≤ q → q + u ≤ b + m → Apart a n q u
apart-within a n b m q u (inl h) k l = inl (omega arith)
apart-within a n b m q u (inr h) k l = inr (omega arith)

pub stores_comm : (a n b m : ℕ) (l : List ℕ) (ps : List Span) (vs : List ℕ) (qs : List Span) (ws : List ℕ)
    → Inside a n ps → Inside b m qs → Apart a n b m → stores (stores l ps vs) qs ws ≡ stores (stores l qs ws) ps vs
unfolding stores
stores_comm a n b m l ps vs [] ws h k o = refl
stores_comm a n b m l ps vs (q ∷ qs) [] h k o = refl
stores_comm a n b m l ps vs (q ∷ qs) (w ∷ ws) h k o =
    ap (λ (z : List ℕ). stores z qs ws) (store-stores a n l ps vs q.0 q.1 w h (apart-within a n b m q.0 q.1 o k.0.0 k.0.1))
    ∙ stores_comm a n b m (store l q.0 q.1 w) ps vs qs ws h k.1 o

-- ---- what differs in one region alone

-- d is c but for the n bits from bit a on
pub record Only (c d : List ℕ) (a n : ℕ) : Type 0 where
  pub bytes_c : Bytes c
  pub bytes_d : Bytes d
  pub same_length : length d ≡ length c
  pub outside : (i : ℕ) → Outside a n i → bit d i ≡ bit c i

pub only_stores : (c : List ℕ) (a n : ℕ) (ps : List Span) (vs : List ℕ) → Bytes c → Inside a n ps → Only c (stores c ps vs) a n
only_stores c a n ps vs b h = record {
  bytes_c = b;
  bytes_d = bytes-stores c ps vs b;
  same_length = length-stores c ps vs;
  outside = λ i o. inside-stores_out a n c ps vs i h o;
}

module _ {c d : List ℕ} {a n : ℕ} (o : Only c d a n) where
  pub only-field : (p w : ℕ) → Apart a n p w → field d p w ≡ field c p w
  only-field p w k =
      field_cong d c p p w (λ j h. o.outside (p + j) (⊎_elim (λ z. inr (omega arith)) (λ z. inl (omega arith)) k))

  -- bytes that the region does not reach
  pub only_part : (k m : ℕ) → Apart a n (8 * k) (8 * m) → take m (drop k d) ≡ take m (drop k c)
  only_part k m h =
      ext (take m (drop k d)) (take m (drop k c)) (bytes_take m (drop k d) (bytes_drop k d o.bytes_d)) (bytes_take m (drop k c) (bytes_drop k c o.bytes_c))
      (simp (length-take, length-drop, o.same_length))
      (λ i l. let e = length-take m (drop k d) in bit-part d k m i (omega arith)
      ∙ o.outside (8 * k + i) (⊎_elim (λ z. inr (omega (arith, length-take m (drop k d)))) (λ z. inl (omega (arith, length-take m (drop k d)))) h)
      ∙ sym (bit-part c k m i (omega arith)))
