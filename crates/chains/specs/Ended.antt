-- An annex: the numbers of what the walks and a chain's end say. Assumes nothing.
use Rattle.std.specs.Prelude.{ℕ, ◌+◌, Option, Some, None}
use Rattle.chains.specs.Walk as Walk
use Rattle.chains.specs.Walk.{end, to, bad}
use Rattle.chains.specs.declared.packed.End.{End}
use Rattle.chains.specs.declared.packed.Link.{Link}
use Rattle.chains.specs.declared.packed.Link.TheVariants.{Next, Last, Broken}
use Rattle.chains.specs.declared.packed.Mark.{Mark}
use Rattle.chains.specs.declared.packed.Mark.TheVariants.{Fresh, Used, Blocked}

-- the last sector, and 256 for each sector that was allowed where it was met, the last included; 0 where the chain is broken
abbrev pub end_told : Option End → ℕ
end_told None = 0
end_told (Some e) = e.last + e.allowed

-- what is told of an element: not which mark a last one has, nor why one is bad
abbrev pub link_told : Walk.Link → Link
link_told (end m) = Last
link_told (to x) = Next x
link_told (bad w) = Broken

-- one more than the elements still allowed; 0 where the chain is broken
abbrev pub left_said : Option ℕ → ℕ
left_said None = 0
left_said (Some n) = n + 1

abbrev pub mark_number : Mark → ℕ
mark_number Fresh = 0
mark_number Used = 1
mark_number Blocked = 2
