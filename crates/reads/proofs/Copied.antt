-- A list is copied to the front of another element by element: after i of them the first i are the new ones and the others are the old.
-- Assumes nothing.
use mathlib.Core.Path.{◌≡◌, sym, ◌∙◌}
use mathlib.Core.List.{List, [], ◌∷◌, ◌++◌, append_assoc, append-nil}
use Prim.Native.Nat.{ℕ, suc, ◌+◌, ◌≤◌, ◌<◌}
use native.Mathlib.Numerals.{add-one}
use native.Mathlib.Omega.{arith}
use lib.ListN.{length, get_or, take, drop, set}
use lib.Seq.{length-take-le, drop-cons, drop-length, take-suc, set_at, take-length}
use Rattle.reads.specs.Asked.{over}

-- b with its first i elements replaced by those of l
abbrev pub copied : List ℕ → List ℕ → ℕ → List ℕ
copied l b i = take i l ++ drop i b

module _ (l b : List ℕ) (i : ℕ) where
  pub copy_more : i < length l → i < length b → set (copied l b i) i (get_or l i 0) ≡ copied l b (i + 1)
  copy_more h g =
      let k : i ≤ length l = omega arith in
      rw (drop-cons b i 0 g, set_at (take i l) (get_or b i 0) (drop (suc i) b) (get_or l i 0) i (length-take-le i l k), add-one i, take-suc l i 0 h)
      (sym (append_assoc (take i l) (get_or l i 0 ∷ []) (drop (suc i) b)))

  pub copy-end : i ≡ length l → copied l b i ≡ over l b
  copy-end e = rw (e, take-length l)

  -- so of a list of its length nothing is left
  pub copy-whole : i ≡ length l → length b ≡ length l → copied l b i ≡ l
  copy-whole e f = copy-end e ∙ rw (← f, drop-length b, append-nil l)
