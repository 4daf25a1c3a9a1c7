-- What a command, a line and an input leave: the image, the kept image, how long they are, and the buffer that commands lend. Assumes nothing.
use Rattle.std.specs.Prelude.{ℕ, suc, ◌-◌, ◌^◌, ◌≡◌, ◌⊎◌, Bool, true, false, List, ◌++◌, Option, Some, None, take, drop, replicate}
use Rattle.steps.specs.Steps.{next}
use Rattle.text.specs.Words.{numbers_of, fronted, word_end, after_blank}
use Rattle.text.specs.declared.feed.Span.{Span}
use Rattle.text.specs.declared.feed.Feed.{Feed}
use Rattle.text.specs.Lines.{at_first, line_of, Turn}
use Rattle.console.specs.declared.Bench.{Bench}
use Rattle.console.specs.declared.commands.Command.{Command}
use Rattle.console.specs.declared.commands.Command.TheVariants.{Unknown, Look, Lend, Change, Reckon, Encode, Make, Decode, File}
use Rattle.console.specs.Commands.{command_of_line}
use Rattle.console.specs.Changes.{step_of}
use Rattle.console.specs.Lends.{Lent}
use Rattle.console.specs.Makes.{State, sizes_of, size_in, image_made, kept_made, state_made}

-- what a program holds: the buffers of the image and of the kept image, each with its image at the front, and their sizes
pub record Held : Type 0 where
  pub image : List ℕ
  pub kept : List ℕ
  pub sizes : State

abbrev pub held : List ℕ → List ℕ → State → Held
held b k s = record { image = b; kept = k; sizes = s }

abbrev pub bench_held : Bench → Held
bench_held p = held p.image.bytes p.kept.bytes (sizes_of p)

-- ---- a command, with the numbers ns of its line and the bytes l after its word

-- a step changes the image, and the test program's own commands make another; no other command changes what is held
abbrev pub after_command : Command → List ℕ → List ℕ → Held → Held
after_command (Change k) ns l h = held (next (take (size_in h.image h.sizes) h.image) (step_of k ns) ++ drop (size_in h.image h.sizes) h.image) h.kept h.sizes
after_command (Make k) ns l h = held (image_made k l h.image h.sizes) (kept_made k h.image h.kept h.sizes) (state_made k h.image h.kept h.sizes)
after_command (Look k) ns l h = h
after_command (Lend k) ns l h = h
after_command (Reckon k) ns l h = h
after_command (Encode k) ns l h = h
after_command (Decode k) ns l h = h
after_command (File k) ns l h = h
after_command Unknown ns l h = h

-- the lent buffer is e before a command and d after it
abbrev pub LentBy : Command → Held → List ℕ → List ℕ → Type 0
LentBy (Lend k) h e d = Lent k (take (size_in h.image h.sizes) h.image) e d
LentBy (Change k) h e d = d ≡ e
LentBy (Make k) h e d = d ≡ e
LentBy (Look k) h e d = d ≡ e
LentBy (Reckon k) h e d = d ≡ e
LentBy (Encode k) h e d = d ≡ e
LentBy (Decode k) h e d = d ≡ e
LentBy (File k) h e d = d ≡ e
LentBy Unknown h e d = d ≡ e

-- ---- a line

-- the command of a line, of the test program or of the desk
abbrev pub command_for : List ℕ → Held → Command
command_for l h = command_of_line h.sizes.all l

-- what a line leaves: there is room for 302 numbers, and what follows its first word and a blank goes to the command as it stands
unfoldable pub after_line : List ℕ → Held → Held
after_line l h = after_command (command_for l h) (fronted (numbers_of 302 l) (replicate 302 0)) (drop (after_blank l (word_end l 0)) l) h

unfoldable pub LentByLine : List ℕ → Held → List ℕ → List ℕ → Type 0
LentByLine l h e d = LentBy (command_for l h) h e d

-- ---- an input, read into a buffer turn by turn

-- what a turn leaves that left the buffer b: the line that it gives is answered, if it gives one
abbrev pub after_given : List ℕ → Option Span → Held → Held
after_given b None h = h
after_given b (Some l) h = after_line (line_of b l) h

abbrev pub after_turn : List ℕ → Feed → Held → Held
after_turn b f h = after_given b f.line h

-- n turns, none after the input has ended, lead from the buffer b, the turn f and what is held, h, to others
pub data Turns (b : List ℕ) (f : Feed) (h : Held) : ℕ → List ℕ → Feed → Held → Type 0 where
  none : Turns b f h 0 b f h
  more : {n : ℕ} {a d : List ℕ} {g r : Feed} {k : Held} → Turns b f h n a g k → g.ended ≡ false → Turn a g d r → Turns b f h (suc n) d r (after_turn d r k)

-- every line of the input is answered once, in turn, up to its end (or 2^64 - 1 turns): the buffer becomes a and what is held g. What was read `Turn` does not say
pub record Answered (b : List ℕ) (h : Held) (a : List ℕ) (g : Held) : Type 0 where
  pub count : ℕ
  pub last : Feed
  pub turns : Turns b at_first h count a last g
  pub whole : (last.ended ≡ true) ⊎ (count ≡ 2 ^ 64 - 1)

-- the buffer of an image of n bytes is b before a program answers its input, and d after it; nothing is kept at first
pub record Ran (all : Bool) (n : ℕ) (b d : List ℕ) : Type 0 where
  pub input : List ℕ
  pub kept-first : List ℕ
  pub kept_last : List ℕ
  pub sizes : State
  pub answered : Answered (replicate 262144 0) (held b kept-first (record { image = n; kept = 0; all = all })) input (held d kept_last sizes)
