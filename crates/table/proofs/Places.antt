-- The places of a table's elements meet end to end, so that every law of such lists is one of the table. Assumes nothing.
use mathlib.Core.Path.{◌≡◌, refl, ap, ◌∙◌}
use mathlib.Core.Bool.{Bool, true, false, ◌&&◌}
use mathlib.Core.List.{List, ◌∷◌}
use Prim.Native.Nat.{ℕ, zero, suc, ◌+◌, ◌-◌, ◌*◌, ◌≤◌, ◌<◌}
use native.Mathlib.Nat.{add-zero, mul-zero, mul-suc, mul-le-mul_left}
use native.Mathlib.Numerals.{add-one}
use native.Mathlib.Omega.{arith}
use lib.Dec.{T, eqb, eqb_refl}
use lib.ListN.{length, get_or, drop}
use lib.Seq.{drop-cons}
use Rattle.bits.specs.Bits.{field, store}
use Rattle.fields.specs.declared.Span.{Span}
use Rattle.fields.specs.Lists.{span, nth}
use Rattle.fields.specs.Ends.{end_to_end}
use Rattle.fields.specs.Fields.{fields, stores}
use Rattle.fields.proofs.Laws.{get_or-fields}
use Rattle.table.specs.Table.{places}

both : (a b : Bool) → T a → T b → T (a && b)
both true b t u = u
both false b t u = t

pub length-places : (p a n : ℕ) → length (places p a n) ≡ n
unfolding places
length-places p a zero = refl
length-places p a (suc n) = ap suc (length-places p (a + p) n)

pub nth-places : (p a n i : ℕ) → i < n → nth (places p a n) i ≡ span (a + p * i) p
unfolding places
nth-places p a zero i h = absurd (omega arith)
nth-places p a (suc n) zero h = rw (mul-zero p, add-zero a)
nth-places p a (suc n) (suc i) h =
    let e : a + p + p * i ≡ a + p * suc i = omega (arith, mul-suc p i) in
    nth-places p (a + p) n i (omega arith) ∙ ap (λ (x : ℕ). span x p) e

pub places-joined : (p a n : ℕ) → T (end_to_end a (places p a n) (a + p * n))
unfolding places
places-joined p a zero = rw (mul-zero p, add-zero a) (eqb_refl a)
places-joined p a (suc n) =
    let e : a + p * suc n ≡ a + p + p * n = omega (arith, mul-suc p n) in
    rw e (both (eqb a a) (end_to_end (a + p) (places p (a + p) n) (a + p + p * n)) (eqb_refl a) (places-joined p (a + p) n))

pub room : (p i n : ℕ) → i < n → p * i + p ≤ p * n
room p i n h = omega (arith, mul-le-mul_left {m = suc i} {n = n} p h, mul-suc p i)

pub element-is : (p n i : ℕ) (l : List ℕ) → i < n → get_or (fields l (places p 0 n)) i 0 ≡ field l (p * i) p
element-is p n i l h =
    let e : 0 + p * i ≡ p * i = omega arith in
    get_or-fields l (places p 0 n) i (omega (arith, length-places p 0 n))
    ∙ ap (λ (s : Span). field l s.0 s.1) (nth-places p 0 n i h)
    ∙ ap (λ (x : ℕ). field l x p) e

-- ---- one turn of the packing

pub pack-more : (p : ℕ) (s es : List ℕ) (i : ℕ) → i < length es
    → stores s (places p (p * i) (length es - i)) (drop i es)
    ≡ stores (store s (p * i) p (get_or es i 0)) (places p (p * (i + 1)) (length es - (i + 1))) (drop (i + 1) es)
unfolding places stores
pack-more p s es i h =
    let a : length es - i ≡ suc (length es - (i + 1)) = omega arith in
    let b : p * (i + 1) ≡ p * i + p = rw (add-one i) (omega (arith, mul-suc p i)) in
    let d : drop i es ≡ get_or es i 0 ∷ drop (i + 1) es = rw (add-one i) (drop-cons es i 0 h) in
    rw (a, b, d)

pub pack-end : (p a : ℕ) (s es : List ℕ) (i : ℕ) → length es ≤ i → stores s (places p a (length es - i)) (drop i es) ≡ s
unfolding places stores
pack-end p a s es i h = let z : length es - i ≡ 0 = omega arith in rw z
