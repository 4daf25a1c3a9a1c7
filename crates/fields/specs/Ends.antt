-- An annex: where each list of places starts, and the test that its fields meet end to end. Assumes nothing.
use Rattle.std.specs.Prelude.{ℕ, ◌+◌, Bool, ◌&&◌, List, [], ◌∷◌, eqb}
use Rattle.fields.specs.declared.Span.{Span}
use Rattle.fields.specs.declared.Layout.{Layout}
use Rattle.fields.specs.declared.Layout.TheVariants.{Image, Shell, Entry, Head, Tail, Header, Typ23, Typ22r1, Typ22r2, Typ22r3, Unlisted}

-- the bit where the list starts
abbrev pub start_of : Layout → ℕ
start_of Image = 0
start_of Shell = 0
start_of Entry = 0
start_of Head = 0
start_of Tail = 0
start_of Header = 0
start_of Typ23 = 16
start_of Typ22r1 = 16
start_of Typ22r2 = 16
start_of Typ22r3 = 16
start_of Unlisted = 16

-- each field starts where the one before ends, from bit a to bit e
abbrev pub end_to_end : ℕ → List Span → ℕ → Bool
end_to_end a [] e = eqb a e
end_to_end a (p ∷ ps) e = eqb p.0 a && end_to_end (a + p.1) ps e
