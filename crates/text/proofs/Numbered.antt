-- The numbers of a line, word by word: those read so far are at the front of the list, and what is left of the line gives the others. Assumes nothing.
use mathlib.Core.Path.{◌≡◌, refl, sym, ap, ◌∙◌}
use mathlib.Core.List.{List, [], ◌∷◌, ◌++◌, append-nil, append_assoc}
use Prim.Native.Nat.{ℕ, ◌+◌, ◌-◌, ◌≤◌, ◌<◌}
use native.Mathlib.Omega.{arith}
use native.Mathlib.Numerals.{add-one}
use lib.ListN.{length, take, drop, set, length-set, take-append-drop}
use lib.Seq.{take_at, take_all, take-suc-set, drop-set-lt, drop-drop, length-take-le}
use borrow.Author.Tests.{eq-eqb, ne_eqb}
use Rattle.std.specs.Prelude.{Some, None}
use Rattle.text.specs.Numbers.{number_of}
use Rattle.text.specs.Words.{words, rest_of, word_end, numbers_in, numbers_of, count_of, fronted, none}
use Rattle.text.proofs.Split.{words_after, rest-after, after_one, after-end}

-- the word from byte p up to byte e
abbrev pub part : List ℕ → ℕ → ℕ → List ℕ
part l p e = take (e - p) (drop p l)

-- what is known before each word: `count` numbers have been read, and the words after byte `at` are left
pub record Reading (l b₀ b : List ℕ) (at count : ℕ) : Type 0 where
  pub counted : count ≤ length b
  pub room : length b ≡ length b₀
  pub read : numbers_in (rest_of (words l)) ≡ take count b ++ numbers_in (words_after l at)
  pub left : length (rest_of (words l)) ≡ count + length (words_after l at)
  pub old : drop count b ≡ drop count b₀

pub begun : (l b : List ℕ) (at : ℕ) → at ≡ word_end l 0 → Reading l b b at 0
begun l b at q =
    record {
      counted = omega arith;
      room = refl;
      read = rw q (ap numbers_in (rest-after l));
      left = let e : length (rest_of (words l)) ≡ length (words_after l at) = rw q (ap length (rest-after l)) in omega arith;
      old = refl;
    }

-- the list after the numbers read, where they are all
kept : (ns b b₀ : List ℕ) (count : ℕ) → ns ≡ take count b → count ≤ length b → drop count b ≡ drop count b₀ → b ≡ fronted ns b₀
kept ns b b₀ count e h d = sym (rw (e, length-take-le count b h, ← d) (take-append-drop count b))

sized : (ns b : List ℕ) (count : ℕ) → ns ≡ take count b → count ≤ length b → length ns ≡ count
sized ns b count e h = rw e (length-take-le count b h)

module _ (l b₀ b : List ℕ) (at count : ℕ) (k : Reading l b₀ b at count) where
  fit : count ≤ length b
  fit = let r = k.room in let q = k.counted in omega arith

  short : numbers_of (length b₀) l ≡ take count b → count < length (rest_of (words l)) → (none ≡ count_of (length b₀) l) × (b ≡ fronted (numbers_of (length b₀) l) b₀)
  unfolding count_of
  short e h =
      let s = sized (numbers_of (length b₀) l) b count e fit in
      let z : length (numbers_of (length b₀) l) ≡ length (rest_of (words l)) → ⊥ = λ t. omega arith in
      (rw (ne_eqb _ _ z), kept (numbers_of (length b₀) l) b b₀ count e fit k.old)

  -- no room for the next number
  pub full : count ≡ length b₀ → at < length l → (none ≡ count_of (length b₀) l) × (b ≡ fronted (numbers_of (length b₀) l) b₀)
  unfolding numbers_of
  full q h =
      let s : length (take count b) ≡ length b₀ = length-take-le count b fit ∙ q in
      let e : take (length b₀) (numbers_in (rest_of (words l))) ≡ take count b = rw k.read (take_at (take count b) _ (length b₀) s) in
      let m = ap length (after_one l at h) in
      let f = k.left in
      short e (omega arith)

  -- a word that is no number
  pub strange : (e : ℕ) → e ≡ word_end l (at + 1) → at < length l → number_of (part l (at + 1) e) ≡ None → (none ≡ count_of (length b₀) l) × (b ≡ fronted (numbers_of (length b₀) l) b₀)
  unfolding numbers_of
  strange e u h t =
      let v : numbers_in (words_after l at) ≡ [] = rw (after_one l at h, ← u, t) in
      let s = length-take-le count b fit in
      let i = k.counted in
      let w : take (length b₀) (numbers_in (rest_of (words l))) ≡ take count b = rw (k.read, v, append-nil (take count b)) (take_all (length b₀) (take count b) (omega arith)) in
      let m = ap length (after_one l at h) in
      let f = k.left in
      short w (omega arith)

  -- the end of the line
  pub whole : length l ≤ at → (count ≡ count_of (length b₀) l) × (b ≡ fronted (numbers_of (length b₀) l) b₀)
  unfolding numbers_of count_of
  whole h =
      let a = after-end l at h in
      let s = length-take-le count b fit in
      let i = k.counted in
      let e : take (length b₀) (numbers_in (rest_of (words l))) ≡ take count b = rw (k.read, a, append-nil (take count b)) (take_all (length b₀) (take count b) (omega arith)) in
      let f : length (rest_of (words l)) ≡ count + 0 = rw a at k.left in
      let g : length (numbers_of (length b₀) l) ≡ length (rest_of (words l)) = sized (numbers_of (length b₀) l) b count e fit ∙ omega arith in
      (rw (eq-eqb _ _ g) (sym (sized (numbers_of (length b₀) l) b count e fit)), kept (numbers_of (length b₀) l) b b₀ count e fit k.old)

  -- a word that is a number
  pub one_more : (e n : ℕ) → e ≡ word_end l (at + 1) → at < length l → (count ≡ length b₀ → ⊥) → number_of (part l (at + 1) e) ≡ Some n → Reading l b₀ (set b count n) e (count + 1)
  one_more e n u h f t =
      let v : numbers_in (words_after l at) ≡ n ∷ numbers_in (words_after l e) = rw (after_one l at h, ← u, t) in
      let m : length (words_after l at) ≡ 1 + length (words_after l e) = rw (after_one l at h, ← u) (omega arith) in
      let i = k.counted in
      let r = k.room in
      let left = k.left in
      let inside : count < length b = omega arith in
      let d : drop 1 (drop count b) ≡ drop 1 (drop count b₀) = ap (drop 1) k.old in
      record {
        counted = rw length-set (omega arith);
        room = rw length-set r;
        read = k.read ∙ (rw (v, add-one count, take-suc-set b count n inside, append_assoc));
        left = omega arith;
        old = rw (drop-set-lt (count + 1) b count n (omega arith)) (sym (drop-drop 1 count b) ∙ (d ∙ drop-drop 1 count b₀));
      }
