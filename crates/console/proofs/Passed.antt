-- A list of commands of which none is the line's. Assumes nothing.
use mathlib.Core.Path.{◌≡◌, refl}
use mathlib.Core.Bool.{false, ◌&&◌}
use mathlib.Core.List.{List, [], ◌∷◌, ◌++◌}
use Prim.Native.Nat.{ℕ}
use Rattle.text.specs.Words.{same, takes, bytes_of}
use Rattle.console.specs.Commands.{Listed, command_in}

abbrev pub Passed : List Listed → List ℕ → ℕ → Type 0
Passed [] w n = Unit {0}
Passed (e ∷ es) w n = ((same w (bytes_of e.word) && takes (bytes_of e.numbers) n) ≡ false) × Passed es w n

pub passed_by : (es fs : List Listed) (w : List ℕ) (n a b c : ℕ) → Passed es w n → command_in (es ++ fs) w n a b c ≡ command_in fs w n a b c
passed_by [] fs w n a b c h = refl
passed_by (e ∷ es) fs w n a b c h = rw h.0 (passed_by es fs w n a b c h.1)
