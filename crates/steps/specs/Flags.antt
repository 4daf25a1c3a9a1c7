-- An annex: a flag for each entry, 1 where it is touched, as the call finds them. Assumes nothing.
use Rattle.std.specs.Prelude.{Bool, true, false, ◌&&◌, List, [], ◌∷◌, ◌++◌, ℕ, zero, suc, eqb, length}
use Rattle.image.specs.Image.{e#, sectors, mark, product}
use Rattle.rules.specs.First.{first}
use Rattle.rules.specs.Answer.{if_done}
use Rattle.rules.specs.declared.Answer.{Answer}
use Rattle.image.specs.Verdict.{is_product, verdict}
use Rattle.steps.specs.Touched.{forty, compare_rules}

-- whether two lists are the same
unfoldable pub alike : List ℕ → List ℕ → Bool
alike [] [] = true
alike [] (y ∷ ys) = false
alike (x ∷ xs) [] = false
alike (x ∷ xs) (y ∷ ys) = eqb x y && alike xs ys

abbrev pub same_product : List ℕ → List ℕ → ℕ → Bool
same_product c d j = alike (sectors c j) (sectors d j) && (eqb (mark c j) (mark d j) && alike (product c j) (product d j))

abbrev pub unless_empty : Bool → Bool → Bool
unless_empty true b = b
unless_empty false b = true

-- whether entry j is as it was
unfoldable pub kept : List ℕ → List ℕ → ℕ → Bool
kept c d j = eqb (forty c j) (forty d j) && unless_empty (is_product c j) (same_product c d j)

abbrev pub flag_of : Bool → ℕ
flag_of true = 0
flag_of false = 1

-- the flags of the entries 1, .., n
unfoldable pub flags_to : List ℕ → List ℕ → ℕ → List ℕ
flags_to c d zero = []
flags_to c d (suc n) = flags_to c d n ++ (flag_of (kept c d (suc n)) ∷ [])

-- the first image's own refusal, the second's, then those; entry 0 for these two
abbrev pub or_refusal : Answer → Answer → Answer
or_refusal v w = unless_number v.number v w
  where
    unless_number : ℕ → Answer → Answer → Answer
    unless_number zero v w = w
    unless_number (suc n) v w = v

unfoldable pub touched_answer : List ℕ → List ℕ → ℕ → Answer
touched_answer c d n = or_refusal (verdict c) (or_refusal (verdict d) (record { number = first (compare_rules c d n); entry = 0 }))

-- the flags after the call, f before it: refused, as they were
unfoldable pub touched_flags : List ℕ → List ℕ → List ℕ → List ℕ
touched_flags c d f = if_done (touched_answer c d (length f)).number (flags_to c d (e# c)) f
