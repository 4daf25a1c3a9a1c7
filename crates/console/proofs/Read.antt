-- The command of a line is that of its first word and its numbers: the list that holds these has zeros after them. Assumes nothing.
use mathlib.Core.Path.{◌≡◌, refl, sym, ap, ◌∙◌}
use mathlib.Core.Bool.{Bool}
use mathlib.Core.List.{List, [], ◌∷◌, ◌++◌}
use Prim.Native.Nat.{ℕ, zero, suc, ◌+◌, ◌-◌}
use native.Mathlib.Omega.{arith}
use lib.ListN.{length, get_or, take, drop, replicate}
use lib.Seq.{get_or-drop}
use Rattle.text.specs.Words.{words, word_end, first_of, numbers_of, count_of, fronted}
use Rattle.text.proofs.Split.{cut_at}
use Rattle.console.specs.declared.commands.Command.{Command}
use Rattle.console.specs.Commands.{command_of, command_of_line}

zeros : (k i : ℕ) → ◌≡◌ {A = ℕ} (get_or (replicate k 0) i 0) 0
zeros zero i = refl
zeros (suc k) zero = refl
zeros (suc k) (suc i) = zeros k i

padded : (ns z : List ℕ) → ((i : ℕ) → get_or z i 0 ≡ 0) → (i : ℕ) → get_or (ns ++ z) i 0 ≡ get_or ns i 0
padded [] z h i = h i
padded (n ∷ ns) z h zero = refl
padded (n ∷ ns) z h (suc i) = padded ns z h i

at : (ns d : List ℕ) (k i : ℕ) → d ≡ fronted ns (replicate k 0) → get_or d i 0 ≡ get_or ns i 0
at ns d k i e = rw e (padded ns (drop (length ns) (replicate k 0)) (λ j. get_or-drop (length ns) (replicate k 0) j 0 ∙ zeros k (length ns + j)) i)

pub of_line : (all : Bool) (l d : List ℕ) (e n : ℕ) (r : Command) → e ≡ word_end l 0 → n ≡ count_of 302 l → d ≡ fronted (numbers_of 302 l) (replicate 302 0)
    → r ≡ command_of all (take e l) n (get_or d 0 0) (get_or d 1 0) (get_or d 2 0) → r ≡ command_of_line all l
unfolding command_of_line
of_line all l d e n r q p u h =
    let ns = numbers_of 302 l in
    let z : e ≡ e - 0 = omega arith in
    let v : take (e - 0) l ≡ first_of (words l) = rw q (sym (ap first_of (cut_at l 0))) in
    let w : take e l ≡ first_of (words l) = ap (λ (j : ℕ). take j l) z ∙ v in
    h ∙ (rw (w, p, at ns d 302 0 u, at ns d 302 1 u, at ns d 302 2 u))
