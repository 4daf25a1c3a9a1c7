-- A text that fits is written and the place moves past it; one that does not leaves all as it was. Assumes nothing.
use mathlib.Core.Path.{◌≡◌}
use mathlib.Core.List.{List, ◌++◌}
use Prim.Native.Nat.{ℕ, ◌+◌, ◌-◌, ◌≤◌, ◌<◌}
use native.Mathlib.Omega.{arith}
use lib.ListN.{length, take, drop}
use lib.Seq.{drop-drop}
use borrow.Rule.Slice.PartMut.{put_mid}
use borrow.Author.Tests.{le-leb, lt-leb}
use Rattle.text.specs.Written.{written, next}

pub no_room : (l : List ℕ) (p : ℕ) (t : List ℕ) → length l < p + length t → (p ≡ next l p t) × (l ≡ written l p t)
unfolding written next
no_room l p t h = (rw (lt-leb (p + length t) (length l) h), rw (lt-leb (p + length t) (length l) h))

pub room : (l : List ℕ) (p : ℕ) (t : List ℕ) → p + length t ≤ length l → (p + length t ≡ next l p t) × (take p l ++ (t ++ drop (p + length t) l) ≡ written l p t)
unfolding written next
room l p t h = (rw (le-leb (p + length t) (length l) h), rw (le-leb (p + length t) (length l) h))

-- what a copy of the text into its part of the buffer leaves
pub placed : (l t m : List ℕ) (p : ℕ) → p + length t ≤ length l → m ≡ t → put_mid p (p + length t - p) l m ≡ written l p t
placed l t m p h e =
    let k : p + length t - p ≡ length t = omega arith in
    rw (e, k, drop-drop (length t) p l) (room l p t h).1
