-- A turn by its cases: the bytes that are held stand at the front, and a read puts its bytes after them. Assumes nothing.
use mathlib.Core.Path.{◌≡◌, refl, ◌∙◌}
use mathlib.Core.Bool.{Bool, true, false, not}
use mathlib.Core.List.{List}
use Prim.Native.Nat.{ℕ, suc, ◌+◌, ◌-◌, ◌≤◌, ◌<◌, min}
use native.Mathlib.Numerals.{add-one}
use native.Mathlib.Omega.{arith}
use lib.ListN.{length, take, drop, get_or, set, length-append, length-drop}
use lib.Seq.{length-take-le, take-length, take_at, get_or-append-add, get_or-drop, paste-suc}
use lib.Dec.{ltb}
use Rattle.text.specs.Bytes.{index_of, slice}
use borrow.Author.Tests.{lt-ltb, le-ltb, eq-eqb, ne_eqb}
use borrow.Rule.Slice.PartMut.{put_mid}
use Rattle.std.specs.Prelude.{IfSome}
use Rattle.std.specs.Bool.{then_some}
use Rattle.text.specs.declared.feed.Span.{Span}
use Rattle.text.specs.declared.feed.Feed.{Feed}
use Rattle.text.specs.Lines.{span, moved, last_line, no_line, after_read, filled_of, at_of, end_of, too_long, turn_of, sure_of, Begins, Turn, Reading}

-- ---- the bytes moved

pub moved_none : (p : ℕ) (b : List ℕ) → b ≡ moved p 0 b
unfolding moved
moved_none p b = refl

module _ (p i : ℕ) (b : List ℕ) (h : p + i < length b) where
  front_length : length (take i (drop p b)) ≡ i
  front_length = length-take-le i (drop p b) (omega (arith, length-drop p b))

  -- the byte that is moved next stands where it stood
  still : get_or (moved p i b) (p + i) 0 ≡ get_or (drop p b) i 0
  unfolding moved
  still =
      let e : p + i ≡ length (take i (drop p b)) + p = omega (arith, front_length) in
      let k : i + p ≡ p + i = omega arith in
      rw (e, get_or-append-add (take i (drop p b)) (drop i b) p 0, get_or-drop i b p 0, get_or-drop p b i 0, k)

  put : set (moved p i b) i (get_or (drop p b) i 0) ≡ moved p (i + 1) b
  unfolding moved
  put =
      let z : 0 + i ≡ i = omega arith in
      let y : 0 + suc i ≡ suc i = omega arith in
      rw add-one (rw (z, y) at (paste-suc b 0 (drop p b) i 0 (omega arith) (omega (arith, length-drop p b))))

  pub moved-one : set (moved p i b) i (get_or (moved p i b) (p + i) 0) ≡ moved p (i + 1) b
  moved-one = rw still put

module _ (p n : ℕ) (b : List ℕ) (h : p + n ≤ length b) where
  held-length : length (take n (drop p b)) ≡ n
  held-length = length-take-le n (drop p b) (omega (arith, length-drop p b))

  pub moved_length : length (moved p n b) ≡ length b
  unfolding moved
  moved_length = omega (arith, length-append (take n (drop p b)) (drop n b), held-length, length-drop n b)

  moved_front : take n (moved p n b) ≡ take n (drop p b)
  unfolding moved
  moved_front = take_at (take n (drop p b)) (drop n b) n held-length

-- ---- a read

given_fits : (g : Bool) (l : Span) (n : ℕ) → l.start ≤ l.end → l.end ≤ n → IfSome (then_some g l) (λ k. (k.start ≤ k.end) × (k.end ≤ n))
given_fits true l n h e = (h, e)
given_fits false l n h e = tt

-- what a part of the buffer holds afterwards does not change what stands before it
pub before-part : (p k : ℕ) (b m : List ℕ) → p ≤ length b → take p (put_mid p k b m) ≡ take p b
before-part p k b m h = take_at (take p b) _ p (length-take-le p b h)

module _ (b : List ℕ) (held : ℕ) (passing : Bool) (a : List ℕ) (kept : take held a ≡ take held b) where
  pub read-ends : held ≤ length b → Reading b held passing a (last_line held)
  unfolding after_read
  read-ends h = record { gives = rw (le-ltb held 0 (omega arith)); sure = kept; fits = omega arith; placed = given_fits (ltb 0 held) (span 0 held) (length b) (omega arith) h }

  pub read-adds : (n : ℕ) → 0 < n → held + n ≤ length b → Reading b held passing a (no_line (held + n) passing)
  unfolding after_read
  read-adds n h k = record { gives = rw (lt-ltb held (held + n) (omega arith)); sure = kept; fits = k; placed = tt }

-- ---- a turn

module _ (b : List ℕ) (f : Feed) (filled at end : ℕ) (e : filled ≡ min f.filled (length b)) (g : at ≡ min f.at filled) (k : end ≡ at + index_of 10 (slice at filled b)) where
  at-is : at ≡ at_of b f
  at-is = rw e at g

  end_is : end ≡ end_of b f
  unfolding end_of
  end_is = rw (at-is, e) at k

  pub turn-whole : end < filled → Turn b f b (record { line = then_some (not f.passing) (span at end); at = end + 1; filled = filled; passing = false; ended = false })
  unfolding turn_of sure_of
  turn-whole h =
      let t : ltb (end_of b f) (filled_of b f) ≡ true = lt-ltb (end_of b f) (filled_of b f) (omega (arith, end_is)) in
      record { gives = rw t (cc (at-is, end_is)); sure = rw t (take-length b); fits = omega arith; placed = given_fits (not f.passing) (span at end) (length b) (omega arith) (omega arith) }

  module _ (h : filled ≤ end) where
    no_end : ltb (end_of b f) (filled_of b f) ≡ false
    no_end = le-ltb (end_of b f) (filled_of b f) (omega (arith, end_is))

    pub turn-passed : (a : List ℕ) (r : Feed) → f.passing ≡ true → Reading b 0 true a r → Turn b f a r
    unfolding turn_of sure_of
    turn-passed a r p q = record { gives = rw (no_end, p) q.gives; sure = rw (no_end, p); fits = q.fits; placed = q.placed }

    module _ (p : f.passing ≡ false) where
      held-is : filled - at ≡ filled_of b f - at_of b f
      held-is = omega (arith, at-is)

      sure-is : sure_of b f ≡ take (filled - at) (drop at b)
      unfolding sure_of
      sure-is = rw (no_end, p, ← held-is, ← at-is)

      fit : at + (filled - at) ≤ length b
      fit = omega arith

      begins : (a : List ℕ) → take (filled - at) a ≡ take (filled - at) (drop at b) → Begins (sure_of b f) a
      begins a x = rw (sure-is, held-length at (filled - at) b fit) x

      pub turn-full : filled - at ≡ length b → Turn b f (moved at (filled - at) b) too_long
      unfolding turn_of
      turn-full full = record {
        gives = rw (no_end, p, eq-eqb (filled_of b f - at_of b f) (length b) (omega (arith, held-is)));
        sure = begins (moved at (filled - at) b) (moved_front at (filled - at) b fit);
        fits = omega arith;
        placed = (omega arith, omega arith);
      }

      pub turn-read : (a : List ℕ) (r : Feed) → (filled - at ≡ length b → ⊥) → Reading (moved at (filled - at) b) (filled - at) false a r → Turn b f a r
      unfolding turn_of
      turn-read a r free q =
          let n : length (moved at (filled - at) b) ≡ length b = moved_length at (filled - at) b fit in
          record {
            gives = rw (no_end, p, ne_eqb (filled_of b f - at_of b f) (length b) (λ x. free (held-is ∙ x)), ← held-is) q.gives;
            sure = begins a (q.sure ∙ moved_front at (filled - at) b fit);
            fits = rw n at q.fits;
            placed = rw n at q.placed;
          }
