-- The lines of an input that is read into a buffer, a part at a time. Assumes nothing.
use Rattle.std.specs.Prelude.{ℕ, ◌+◌, ◌-◌, ◌≤◌, min, ◌≡◌, Bool, true, false, cond, not, List, ◌++◌, Some, None, IfSome, length, take, drop, eqb, ltb}
use Rattle.std.specs.Bool.{then_some}
use Rattle.text.specs.Bytes.{index_of, slice}
use Rattle.text.specs.declared.feed.Span.{Span}
use Rattle.text.specs.declared.feed.Feed.{Feed}

-- before the first turn
abbrev pub at_first : Feed
at_first = record { line = None; at = 0; filled = 0; passing = false; ended = false }

-- the bytes from s up to e
abbrev pub span : ℕ → ℕ → Span
span s e = record { start = s; end = e }

-- the line that stands there in the buffer b
abbrev pub line_of : List ℕ → Span → List ℕ
line_of b l = take (l.end - l.start) (drop l.start b)

-- the buffer b with the n bytes from byte p on moved to its front
unfoldable pub moved : ℕ → ℕ → List ℕ → List ℕ
moved p n b = take n (drop p b) ++ drop n b

-- ---- a read, after the bytes held, that leaves m bytes in all

-- the bytes held are the last line, and the input has ended
abbrev pub last_line : ℕ → Feed
last_line held = record { line = then_some (ltb 0 held) (span 0 held); at = 0; filled = 0; passing = false; ended = true }

-- no line yet: the m bytes are looked at in the next turn
abbrev pub no_line : ℕ → Bool → Feed
no_line m passing = record { line = None; at = 0; filled = m; passing = passing; ended = false }

-- a read that adds no byte is the end of the input
unfoldable pub after_read : ℕ → Bool → ℕ → Feed
after_read held passing m = cond (ltb held m) (no_line m passing) (last_line held)

-- ---- a turn

-- the bytes of the buffer b that are still to be looked at stand from `at_of` to `filled_of`, and their first line end at `end_of` (`filled_of`, where none is)
abbrev pub filled_of : List ℕ → Feed → ℕ
filled_of b f = min f.filled (length b)

abbrev pub at_of : List ℕ → Feed → ℕ
at_of b f = min f.at (filled_of b f)

unfoldable pub end_of : List ℕ → Feed → ℕ
end_of b f = at_of b f + index_of 10 (slice (at_of b f) (filled_of b f) b)

-- the line up to the line end; the next turn looks from after it on. What ends a line that is passed over is not given
abbrev pub whole_line : List ℕ → Feed → Feed
whole_line b f = record { line = then_some (not f.passing) (span (at_of b f) (end_of b f)); at = end_of b f + 1; filled = filled_of b f; passing = false; ended = false }

-- a line too long for the buffer is given as an empty one, and its rest is passed over
abbrev pub too_long : Feed
too_long = record { line = Some (span 0 0); at = 0; filled = 0; passing = true; ended = false }

-- how many bytes are held where there is no line end: none of a line that is passed over
abbrev pub held_of : List ℕ → Feed → ℕ
held_of b f = cond f.passing 0 (filled_of b f - at_of b f)

-- what a turn gives, where a read, if there is one, leaves m bytes in all
unfoldable pub turn_of : List ℕ → Feed → ℕ → Feed
turn_of b f m =
    cond (ltb (end_of b f) (filled_of b f)) (whole_line b f)
    (cond f.passing (after_read 0 true m)
    (cond (eqb (held_of b f) (length b)) too_long (after_read (held_of b f) false m)))

-- the bytes that are sure after a turn: with a line end the buffer as it was, else the bytes held, at its front
unfoldable pub sure_of : List ℕ → Feed → List ℕ
sure_of b f = cond (ltb (end_of b f) (filled_of b f)) b (take (held_of b f) (drop (at_of b f) b))

-- a buffer that begins with the bytes s
abbrev pub Begins : List ℕ → List ℕ → Type 0
Begins s b = take (length s) b ≡ s

-- a turn over the buffer b that gives r and leaves the buffer a: only how many bytes were read, and which, is not said
pub record Turn (b : List ℕ) (f : Feed) (a : List ℕ) (r : Feed) : Type 0 where
  pub gives : r ≡ turn_of b f r.filled
  pub sure : Begins (sure_of b f) a
  pub fits : r.filled ≤ length b
  pub placed : IfSome r.line (λ l. (l.start ≤ l.end) × (l.end ≤ length b))

-- a read after the bytes held
pub record Reading (b : List ℕ) (held : ℕ) (passing : Bool) (a : List ℕ) (r : Feed) : Type 0 where
  pub gives : r ≡ after_read held passing r.filled
  pub sure : take held a ≡ take held b
  pub fits : r.filled ≤ length b
  pub placed : IfSome r.line (λ l. (l.start ≤ l.end) × (l.end ≤ length b))
