-- The step that a command asks for. Assumes nothing.
use Rattle.std.specs.Prelude.{ℕ, List}
use Rattle.steps.specs.Step.{Step, write, write_all, set_mark}
use Rattle.console.specs.Commands.{values_of, numbers_from}
use Rattle.console.specs.declared.commands.Change.{Change}
use Rattle.console.specs.declared.commands.Change.TheVariants.{Field, Record, Mark}

-- with the numbers ns of the line: a record's values are those after the entry, the TYP and the revision, as many as its kind has
abbrev pub step_of : Change → List ℕ → Step
step_of (Field j n v) ns = write j n v
step_of (Record j t r) ns = write_all j t r (numbers_from (values_of t r) 3 ns)
step_of (Mark j m) ns = set_mark j m
