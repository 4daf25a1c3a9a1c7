-- A line's words one by one: the first ends at the first blank, and the others are the words of what stands after it. Assumes nothing.
use mathlib.Core.Path.{◌≡◌, refl, ap}
use mathlib.Core.Bool.{Bool, true, false, cond, ◌&&◌}
use mathlib.Core.List.{List, [], ◌∷◌}
use Prim.Native.Nat.{ℕ, suc, ◌+◌, ◌-◌, ◌≤◌, ◌<◌}
use native.Mathlib.Omega.{arith}
use native.Mathlib.Numerals.{add-one}
use native.Mathlib.Decide.{dec_lt}
use lib.ListN.{length, take, drop, length-drop}
use lib.Seq.{drop-drop}
use lib.Dec.{eqb, ltb, leb-suc-suc}
use borrow.Author.Tests.{lt-ltb, le-ltb, eqb-true}
use Rattle.std.specs.Str.{bytes_eq}
use Rattle.text.specs.Bytes.{index_of, index_after}
use Rattle.text.specs.Words.{longer, words, rest_of, word_end, same}

-- the words of the line l after one that ends at byte e
abbrev pub words_after : List ℕ → ℕ → List (List ℕ)
words_after l e = cond (ltb e (length l)) (words (drop (e + 1) l)) []

longer_of : (b : ℕ) (ws : List (List ℕ)) (w : List ℕ) (vs : List (List ℕ)) → ws ≡ w ∷ vs → longer b ws ≡ (b ∷ w) ∷ vs
longer_of b ws w vs e = rw e

shifted : (b : ℕ) (l : List ℕ) (k : ℕ) → words_after (b ∷ l) (suc k) ≡ words_after l k
shifted b l k = rw (add-one, add-one, leb-suc-suc)

cut_by : (t : Bool) (b : ℕ) (l : List ℕ) → eqb b 32 ≡ t → words l ≡ take (index_of 32 l) l ∷ words_after l (index_of 32 l)
    → words (b ∷ l) ≡ take (index_after t (index_of 32 l)) (b ∷ l) ∷ words_after (b ∷ l) (index_after t (index_of 32 l))
unfolding index_after
cut_by true b l e h = rw (e, lt-ltb 0 (length (b ∷ l)) (omega arith))
cut_by false b l e h = rw (e, shifted b l (index_of 32 l)) (longer_of b (words l) (take (index_of 32 l) l) (words_after l (index_of 32 l)) h)

pub cut : (l : List ℕ) → words l ≡ take (index_of 32 l) l ∷ words_after l (index_of 32 l)
unfolding index_of
cut [] = refl
cut (b ∷ l) = cut_by (eqb b 32) b l refl (cut l)

further : (l : List ℕ) (p k : ℕ) → words_after (drop p l) k ≡ words_after l (p + k)
further l p k =
    let d = length-drop p l in
    let q : p + (k + 1) ≡ p + k + 1 = omega arith in
    elim (dec_lt (p + k) (length l)) [
      | yes h ↦ rw (lt-ltb (p + k) (length l) h, lt-ltb k (length (drop p l)) (omega arith), drop-drop, q)
      | no h ↦ rw (le-ltb (p + k) (length l) (omega arith), le-ltb k (length (drop p l)) (omega arith))
    ]

-- the words from byte p on: the one up to its end, and those after it
pub cut_at : (l : List ℕ) (p : ℕ) → words (drop p l) ≡ take (word_end l p - p) (drop p l) ∷ words_after l (word_end l p)
cut_at l p =
    let k = index_of 32 (drop p l) in
    let e : p + k - p ≡ k = omega arith in
    rw (e, ← further l p k) (cut (drop p l))

pub rest-after : (l : List ℕ) → rest_of (words l) ≡ words_after l (word_end l 0)
rest-after l = ap rest_of (cut_at l 0)

pub after_one : (l : List ℕ) (p : ℕ) → p < length l → words_after l p ≡ take (word_end l (p + 1) - (p + 1)) (drop (p + 1) l) ∷ words_after l (word_end l (p + 1))
after_one l p h = rw (lt-ltb p (length l) h) (cut_at l (p + 1))

pub after-end : (l : List ℕ) (p : ℕ) → length l ≤ p → words_after l p ≡ []
after-end l p h = rw (le-ltb p (length l) h)

-- ---- words that are the same

both : (a b : ℕ) (v w : List ℕ) (t : Bool) → eqb a b ≡ t → (t && same v w) ≡ true → (same v w ≡ true → v ≡ w) → a ∷ v ≡ b ∷ w
both a b v w true e s h = rw (eqb-true a b e, h s)
both a b v w false e s h = let z : ◌≡◌ {A = Bool} false true = s in cc

pub same_alike : (v w : List ℕ) → same v w ≡ true → v ≡ w
same_alike [] [] e = refl
same_alike [] (b ∷ w) e = cc
same_alike (a ∷ v) [] e = cc
same_alike (a ∷ v) (b ∷ w) e = both a b v w (eqb a b) refl e (same_alike v w)

-- the library's test of bytes
pub same_is : (v w : List ℕ) → same v w ≡ bytes_eq v w
same_is [] [] = refl
same_is [] (b ∷ w) = refl
same_is (a ∷ v) [] = refl
same_is (a ∷ v) (b ∷ w) = rw (same_is v w)
