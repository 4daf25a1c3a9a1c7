-- What each command leaves of what a program holds, and what lines leave. Assumes nothing.
use mathlib.Core.Path.{◌≡◌, refl, ap, subst, ◌∙◌}
use mathlib.Core.Logic.{inl, inr}
use mathlib.Core.Bool.{Bool, true, false}
use mathlib.Core.List.{List}
use Prim.Native.Nat.{ℕ, suc, ◌+◌, ◌-◌}
use native.Mathlib.Omega.{arith}
use native.Mathlib.Numerals.{add-one}
use lib.ListN.{length, take, drop, replicate, length-drop}
use lib.Seq.{take_all}
use borrow.Rule.Slice.PartMut.{mid_of}
use Rattle.text.specs.Words.{numbers_of, fronted, word_end, after_blank}
use Rattle.console.specs.Makes.{State}
use Rattle.console.specs.declared.commands.Command.{Command}
use Rattle.console.specs.Commands.{command_of_line}
use Rattle.text.specs.declared.feed.Feed.{Feed}
use Rattle.text.specs.Lines.{at_first, Turn}
use Rattle.console.specs.Obeys.{Held, held, after_command, LentBy, after_line, LentByLine, after_turn, Turns, none, more, Answered, Ran}

-- a line asks for its command, with its numbers and what follows its first word and a blank
pub of_line : (a : Command) (ns l x b k : List ℕ) (s r : State) (b' k' e d : List ℕ) (p i : ℕ) → p ≡ word_end l 0 → i ≡ after_blank l p → a ≡ command_of_line s.all l → ns ≡ fronted (numbers_of 302 l) (replicate 302 0) → x ≡ mid_of i (length l - i) l → (held b' k' r ≡ after_command a ns x (held b k s)) × LentBy a (held b k s) e d → (held b' k' r ≡ after_line l (held b k s)) × LentByLine l (held b k s) e d
unfolding after_line LentByLine
of_line a ns l x b k s r b' k' e d p i kp ki ka kn kx h =
    let t : take (length l - i) (drop i l) ≡ drop i l = take_all (length l - i) (drop i l) (simp length-drop (omega arith)) in
    let y : x ≡ drop (after_blank l (word_end l 0)) l = kx ∙ t ∙ ap (λ j. drop j l) (ki ∙ ap (after_blank l) kp) in
    rw (← ka, ← kn, ← y) h

-- ---- an input

-- after so many turns of the input b, which goes on
pub record Reached (b : List ℕ) (h : Held) (a : List ℕ) (f : Feed) (g : Held) (count : ℕ) : Type 0 where
  pub turns : Turns b at_first h count a f g
  pub goes_on : f.ended ≡ false

pub begun : (b : List ℕ) (h : Held) (f : Feed) → f ≡ at_first → Reached b h b f h 0
begun b h f e = rw e (record { turns = none; goes_on = refl })

module _ (b : List ℕ) (h : Held) (a : List ℕ) (f : Feed) (k : Held) (count : ℕ) (o : Reached b h a f k count) where
  turned : (d : List ℕ) (r : Feed) (g : Held) → Turn a f d r → g ≡ after_turn d r k → Turns b at_first h (suc count) d r g
  turned d r g t e = rw e (more o.turns o.goes_on t)

  -- one turn more
  pub further : (d : List ℕ) (r : Feed) (g : Held) → Turn a f d r → g ≡ after_turn d r k → r.ended ≡ false → Reached b h d r g (count + 1)
  further d r g t e u = rw (add-one count) (record { turns = turned d r g t e; goes_on = u })

  -- the last turn
  pub over : (d : List ℕ) (r : Feed) (g : Held) → Turn a f d r → g ≡ after_turn d r k → r.ended ≡ true → Answered b h d g
  over d r g t e u = record { count = suc count; last = r; turns = turned d r g t e; whole = inl u }

  -- no turn is left
  pub spent : count ≡ 18446744073709551615 → Answered b h a k
  spent e = record { count = count; last = f; turns = o.turns; whole = inr e }

pub ran : (all : Bool) (n : ℕ) (b d x input k k' : List ℕ) (s : State) → x ≡ replicate 262144 0 → Answered x (held b k (record { image = n; kept = 0; all = all })) input (held d k' s) → Ran all n b d
ran all n b d x input k k' s e h =
    record {
      input = input;
      kept-first = k;
      kept_last = k';
      sizes = s;
      answered = subst (λ (y : List ℕ). Answered y (held b k (record { image = n; kept = 0; all = all })) input (held d k' s)) e h;
    }
