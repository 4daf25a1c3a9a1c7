-- A list stored into a part of the bytes is the list, counted from the part's first bit, stored into all of them: each store is so. Assumes nothing.
use mathlib.Core.Path.{◌≡◌, refl, sym, ap, ◌∙◌}
use mathlib.Core.List.{List, [], ◌∷◌, ◌++◌}
use Prim.Native.Nat.{ℕ, ◌+◌, ◌*◌, ◌≤◌}
use native.Mathlib.Omega.{arith}
use lib.Dec.{T}
use lib.ListN.{length, take, drop, length-drop, take-append-drop}
use lib.Seq.{take_at, drop_at, length-take-le}
use Rattle.rules.specs.Claim.{Means}
use Rattle.bits.specs.Bits.{Bytes, store}
use Rattle.bits.proofs.Laws.{length-store, bytes-store, store-part, store-append-left}
use Rattle.fields.specs.declared.Span.{Span}
use Rattle.fields.specs.Ends.{end_to_end}
use Rattle.fields.specs.Fields.{stores, shifted, fit}
use Rattle.fields.proofs.Laws.{length-stores, bytes-stores, fields-stores, stores-fields}
use Rattle.fields.proofs.Only.{Inside}

-- the n bytes of l from byte a on
abbrev pub part : List ℕ → ℕ → ℕ → List ℕ
part l a n = take n (drop a l)

-- l with those bytes replaced by the bytes m
abbrev pub around : List ℕ → ℕ → ℕ → List ℕ → List ℕ
around l a n m = take a l ++ (m ++ drop n (drop a l))

pub around-part : (l : List ℕ) (a n : ℕ) → around l a n (part l a n) ≡ l
around-part l a n = rw (take-append-drop n (drop a l)) (take-append-drop a l)

module _ (l : List ℕ) (a n : ℕ) (m : List ℕ) (h : a + n ≤ length l) (e : length m ≡ n) where
  la : length (take a l) ≡ a
  la = length-take-le a l (omega arith)

  around-take : take a (around l a n m) ≡ take a l
  around-take = take_at (take a l) _ a la

  around-drop : drop a (around l a n m) ≡ m ++ drop n (drop a l)
  around-drop = drop_at (take a l) _ a la

  pub part-around : part (around l a n m) a n ≡ m
  part-around = rw around-drop (take_at m _ n e)

  pub around-around : (k : List ℕ) → around (around l a n m) a n k ≡ around l a n k
  around-around k = rw (around-take, around-drop, drop_at m (drop n (drop a l)) n e)

pub stores-part : (l : List ℕ) (a n : ℕ) (ps : List Span) (vs : List ℕ) → Bytes l → a + n ≤ length l → Inside 0 (8 * n) ps
    → around l a n (stores (part l a n) ps vs) ≡ stores l (shifted (8 * a) ps) vs
unfolding stores shifted
stores-part l a n [] vs b h k = around-part l a n
stores-part l a n (p ∷ ps) [] b h k = around-part l a n
stores-part l a n (p ∷ ps) (v ∷ vs) b h k =
    let m = store (part l a n) p.0 p.1 v in
    let e : length m ≡ n = length-store (part l a n) p.0 p.1 v ∙ length-take-le n (drop a l) (omega (arith, length-drop a l)) in
    let q : around l a n m ≡ store l (8 * a + p.0) p.1 v = store-part l a n p.0 p.1 v b h (omega (arith, k.0)) in
    let ih = stores-part (store l (8 * a + p.0) p.1 v) a n ps vs (bytes-store l (8 * a + p.0) p.1 v) (omega (arith, length-store l (8 * a + p.0) p.1 v)) k.1 in
    sym (around-around l a n m h e (stores m ps vs))
    ∙ ap (λ (z : List ℕ). around (around l a n m) a n (stores z ps vs)) (sym (part-around l a n m h e))
    ∙ ap (λ (z : List ℕ). around z a n (stores (part z a n) ps vs)) q
    ∙ ih

-- and of the part, once the list is stored into all
pub part-stores : (l : List ℕ) (a n : ℕ) (ps : List Span) (vs : List ℕ) → Bytes l → a + n ≤ length l → Inside 0 (8 * n) ps
    → part (stores l (shifted (8 * a) ps) vs) a n ≡ stores (part l a n) ps vs
part-stores l a n ps vs b h k =
    rw (← stores-part l a n ps vs b h k)
    (part-around l a n (stores (part l a n) ps vs) h (length-stores (part l a n) ps vs ∙ length-take-le n (drop a l) (omega (arith, length-drop a l))))

-- values that are stored already are stored again to no effect
pub stores-again : (a : ℕ) (ps : List Span) (e : ℕ) → T (end_to_end a ps e) → (l vs : List ℕ) → Bytes l → e ≤ 8 * length l → Means (fit ps vs)
    → stores (stores l ps vs) ps vs ≡ stores l ps vs
stores-again a ps e t l vs b h f =
    ap (λ (z : List ℕ). stores (stores l ps vs) ps z) (sym (fields-stores a ps e t l vs h f)) ∙ stores-fields (stores l ps vs) ps (bytes-stores l ps vs b)

-- a list that ends within the first of two joined parts is stored into it alone
pub stores-left : (x y : List ℕ) (ps : List Span) (vs : List ℕ) → Bytes y → Inside 0 (8 * length x) ps → stores x ps vs ++ y ≡ stores (x ++ y) ps vs
unfolding stores
stores-left x y [] vs b k = refl
stores-left x y (p ∷ ps) [] b k = refl
stores-left x y (p ∷ ps) (v ∷ vs) b k =
    let e = length-store x p.0 p.1 v in
    stores-left (store x p.0 p.1 v) y ps vs b (rw e k.1)
    ∙ ap (λ (z : List ℕ). stores z ps vs) (store-append-left x y p.0 p.1 v b (omega (arith, k.0)))
