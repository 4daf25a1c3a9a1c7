-- Values that fit, stored one after the other at places that meet, are their one number stored over all of these places: what is read there is that
-- number, and no other bit changes. Assumes nothing.
use mathlib.Core.Path.{◌≡◌, refl, sym, ap, ap₂, ◌∙◌}
use mathlib.Core.Logic.{inl, inr, ⊎_elim}
use mathlib.Core.List.{List, [], ◌∷◌}
use Prim.Native.Nat.{ℕ, zero, suc, ◌+◌, ◌*◌, ◌%◌, ◌^◌, ◌≤◌, ◌<◌}
use native.Mathlib.Nat.{add-zero, add-suc, le_of_suc-le-suc, le_trans, lt_of_lt_of_le, mod-eq_of_lt, not-suc-le-zero}
use native.Mathlib.Numerals.{add-one}
use native.Mathlib.Omega.{arith}
use lib.Arith.{digits_lt}
use lib.Dec.{T}
use lib.ListN.{length, get_or, take}
use lib.Pow.{pow-add, pow_mono}
use Rattle.rules.specs.Claim.{Means}
use Rattle.bits.specs.Bits.{Bytes, field, store}
use Rattle.bits.proofs.Laws.{lt-or-le, digit-field, bit-store_out, field-add, field-store, field-store-apart, field-zero, store-field, store_is, length-store, bytes-store}
use Rattle.fields.specs.declared.Span.{Span}
use Rattle.fields.specs.Ends.{end_to_end}
use Rattle.fields.specs.Lists.{nth}
use Rattle.fields.specs.Fields.{stores, fit}
use Rattle.fields.specs.Together.{wide, together}
use Rattle.fields.proofs.Joined.{head_of, tail_of, within}
use Rattle.fields.proofs.Laws.{fits, length-stores, bytes-stores}

-- two neighbours
pub store-joined : (l : List ℕ) (p w u x v : ℕ) → p + w + u ≤ 8 * length l → x < 2 ^ w → v < 2 ^ u
    → store (store l p w x) (p + w) u v ≡ store l p (w + u) (x * 2 ^ u + v)
store-joined l p w u x v h hx hv =
    store_is l m p (w + u) (field m p (w + u)) (bytes-store a (p + w) u v) (length-store a (p + w) u v ∙ n)
    (λ j k i. sym (digit-field m p (w + u) j k))
    (λ i o k. bit-store_out a (p + w) u v i (⊎_elim (λ z. inl (omega arith)) (λ z. inr (omega arith)) o)
    ∙ bit-store_out l p w x i (⊎_elim (λ z. inl z) (λ z. inr (omega arith)) o))
    ∙ ap (store l p (w + u)) is
  where
    a : List ℕ
    a = store l p w x

    m : List ℕ
    m = store a (p + w) u v

    n : length a ≡ length l
    n = length-store l p w x

    is : field m p (w + u) ≡ x * 2 ^ u + v
    is =
        field-add m p w u
        ∙ ap₂ (λ (y z : ℕ). y * 2 ^ u + z)
        (field-store-apart a (p + w) u v p w (inr (omega arith)) ∙ field-store l p w x (omega arith) hx)
        (field-store a (p + w) u v (omega (arith, n)) hv)

-- each place starts where the one before ends
meets : (a : ℕ) (ps : List Span) (e : ℕ) → T (end_to_end a ps e) → (i : ℕ) → suc i < length ps → (nth ps (suc i)).0 ≡ (nth ps i).0 + (nth ps i).1
meets a [] e t i h = absurd (not-suc-le-zero h)
meets a (p ∷ []) e t i h = absurd (omega arith)
meets a (p ∷ q ∷ ps) e t zero h = omega (arith, head_of a p (q ∷ ps) e t, head_of (a + p.1) q ps e (tail_of a p (q ∷ ps) e t))
meets a (p ∷ q ∷ ps) e t (suc i) h = meets (a + p.1) (q ∷ ps) e (tail_of a p (q ∷ ps) e t) i (le_of_suc-le-suc h)

-- the first k + 1 values stored: the first k, and one more
stores-next : (l : List ℕ) (ps : List Span) (vs : List ℕ) (k : ℕ) → k < length ps → k < length vs
    → stores l (take (suc k) ps) (take (suc k) vs) ≡ store (stores l (take k ps) (take k vs)) (nth ps k).0 (nth ps k).1 (get_or vs k 0)
unfolding stores
stores-next l [] vs k h i = absurd (not-suc-le-zero h)
stores-next l (p ∷ ps) [] k h i = absurd (not-suc-le-zero i)
stores-next l (p ∷ ps) (v ∷ vs) zero h i = refl
stores-next l (p ∷ ps) (v ∷ vs) (suc k) h i = stores-next (store l p.0 p.1 v) ps vs k (le_of_suc-le-suc h) (le_of_suc-le-suc i)

wide_mono : (ps : List Span) (i k n : ℕ) → k ≤ n → wide ps i k ≤ wide ps i n
unfolding wide
wide_mono ps i zero n h = omega arith
wide_mono ps i (suc k) zero h = absurd (not-suc-le-zero h)
wide_mono ps i (suc k) (suc n) h =
    ⊎_elim (λ (l : k < n). omega (arith, wide_mono ps i (suc k) n l)) (λ (l : n ≤ k). same (omega arith)) (lt-or-le k n)
  where
    same : k ≡ n → wide ps i (suc k) ≤ wide ps i (suc n)
    same q = rw q (omega arith)

module _ (a : ℕ) (ps : List Span) (e : ℕ) (t : T (end_to_end a ps e)) where
  pub place_of : (i n : ℕ) → i + n < length ps → (nth ps (i + n)).0 ≡ (nth ps i).0 + wide ps i n
  unfolding wide
  place_of i zero h = rw (add-zero i) (omega arith)
  place_of i (suc n) h =
      rw (add-suc i n) (omega (arith, place_of i n (omega arith), meets a ps e t (i + n) (omega arith)))

  module _ (vs : List ℕ) (f : Means (fit ps vs)) where
    value-lt : (i : ℕ) → i < length ps → get_or vs i 0 < 2 ^ (nth ps i).1
    value-lt i h = fits (nth ps i) (get_or vs i 0) (f.1 i h)

    pub together-lt : (i n : ℕ) → i + n ≤ length ps → together ps vs i n < 2 ^ wide ps i n
    unfolding wide together
    together-lt i zero h = omega arith
    together-lt i (suc n) h =
        rw (pow-add 2 (wide ps i n) (nth ps (i + n)).1) (digits_lt (together-lt i n (omega arith)) (value-lt (i + n) (omega arith)))

    -- one value more: of at most 56 bits in all, nothing wraps
    pub together-more : (i k n x : ℕ) → i + n ≤ length ps → k < n → wide ps i n ≤ 56 → x ≡ together ps vs i k
        → (x * 2 ^ (nth ps (i + k)).1 % 2 ^ 64 + get_or vs (i + k) 0 < 2 ^ 64)
        × (x * 2 ^ (nth ps (i + k)).1 % 2 ^ 64 + get_or vs (i + k) 0 ≡ together ps vs i (k + 1))
    unfolding wide together
    together-more i k n x h l w e =
        let b : together ps vs i (suc k) < 2 ^ 56 = lt_of_lt_of_le (together-lt i (suc k) (omega arith)) (pow_mono (le_trans (wide_mono ps i (suc k) n l) w)) in
        let z : x * 2 ^ (nth ps (i + k)).1 % 2 ^ 64 ≡ x * 2 ^ (nth ps (i + k)).1 = mod-eq_of_lt (rw e (omega arith)) in
        (rw (z, e) (omega arith), rw (add-one k, z, e))

    -- the first i + n values stored: the first i, and the one number of the others
    pub stores-together : (l : List ℕ) → Bytes l → e ≤ 8 * length l → (i n : ℕ) → i + n ≤ length ps
        → stores l (take (i + n) ps) (take (i + n) vs) ≡ store (stores l (take i ps) (take i vs)) (nth ps i).0 (wide ps i n) (together ps vs i n)
    unfolding wide together
    stores-together l b r i zero h =
        let m = stores l (take i ps) (take i vs) in
        rw add-zero (sym (ap (store m (nth ps i).0 0) (sym (field-zero m (nth ps i).0)) ∙ store-field m (nth ps i).0 0 (bytes-stores l (take i ps) (take i vs) b)))
    stores-together l b r i (suc n) h =
        let m = stores l (take i ps) (take i vs) in
        let k : i + n < length ps = omega arith in
        let w = within a ps e t (i + n) k in
        let q = place_of i n k in
        rw (add-suc i n)
        (stores-next l ps vs (i + n) k (omega (arith, f.0))
        ∙ ap₂ (λ (z : List ℕ) (p : ℕ). store z p (nth ps (i + n)).1 (get_or vs (i + n) 0)) (stores-together l b r i n (omega arith)) q
        ∙ store-joined m (nth ps i).0 (wide ps i n) (nth ps (i + n)).1 (together ps vs i n) (get_or vs (i + n) 0)
        (omega (arith, w.1, length-stores l (take i ps) (take i vs))) (together-lt i n (omega arith)) (value-lt (i + n) k))
