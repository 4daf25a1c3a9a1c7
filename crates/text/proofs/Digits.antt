-- What the next byte does to a number that is being read: a number that is too large stays so.
-- Assumes nothing.
use mathlib.Core.Path.{◌≡◌, refl}
use mathlib.Core.Bool.{and-false}
use mathlib.Core.List.{List, [], ◌∷◌}
use Prim.Native.Nat.{ℕ, ◌+◌, ◌-◌, ◌*◌, ◌^◌, ◌≤◌, ◌<◌}
use native.Mathlib.Omega.{arith}
use native.Mathlib.Numerals.{add-one}
use lib.ListN.{length, get_or, drop}
use lib.Seq.{drop-cons}
use borrow.Author.Tests.{le-ltb}
use Rattle.std.specs.Prelude.{None}
use Rattle.text.specs.Numbers.{after, number_after, number_of}

pub grows : (w : List ℕ) (n : ℕ) → n ≤ after n w
grows [] n = omega arith
grows (b ∷ w) n = let h = grows w (n * 10 + (b - 48)) in omega arith

-- a word with a first byte is read from 0 on
pub begun : (w : List ℕ) → (length w ≡ 0 → ⊥) → number_of w ≡ number_after 0 w
begun [] h = absurd (h refl)
begun (b ∷ w) h = refl

pub at_byte : (w : List ℕ) (i n : ℕ) → i < length w → number_after n (drop i w) ≡ number_after n (get_or w i 0 ∷ drop (i + 1) w)
at_byte w i n h = rw (add-one, drop-cons w i 0)

pub too_large : (n b : ℕ) (w : List ℕ) → 2 ^ 64 ≤ n * 10 + (b - 48) → number_after n (b ∷ w) ≡ None
too_large n b w h =
    let g : 2 ^ 64 ≤ after (n * 10 + (b - 48)) w = omega (arith, grows w (n * 10 + (b - 48))) in
    rw (le-ltb (after (n * 10 + (b - 48)) w) (2 ^ 64) g, and-false)
