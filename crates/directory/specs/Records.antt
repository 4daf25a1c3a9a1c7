-- An annex: what the encoders and decoders of an entry and of the directory's two ends answer (document 01, "Directory sector" and "Encoding what was
-- read"): each record is one list of fields that is all of its bytes. Assumes nothing.
use Rattle.std.specs.Prelude.{ℕ, List}
use Rattle.fields.specs.declared.Layout.TheVariants as layout
use Rattle.fields.specs.Fields.{fields}
use Rattle.fields.specs.Packed.{pack_number, packed}
use Rattle.fields.specs.Lists as lists
use Rattle.directory.specs.declared.Entry.{Entry}
use Rattle.directory.specs.declared.EntryBytes.{EntryBytes}
use Rattle.directory.specs.declared.Head.{Head}
use Rattle.directory.specs.declared.HeadBytes.{HeadBytes}
use Rattle.directory.specs.declared.Tail.{Tail}
use Rattle.directory.specs.declared.TailBytes.{TailBytes}

-- seven values give five bytes; 26 if one is too wide
abbrev pub entry_bytes : List ℕ → EntryBytes
entry_bytes vs = record { number = pack_number layout.Entry vs; entry = 0; bytes = packed layout.Entry 5 vs }

abbrev pub entry_in : List ℕ → Entry
entry_in b = record { values = fields b lists.entry }

-- the three leading values give two bytes
abbrev pub head_bytes : List ℕ → HeadBytes
head_bytes vs = record { number = pack_number layout.Head vs; entry = 0; bytes = packed layout.Head 2 vs }

abbrev pub head_in : List ℕ → Head
head_in b = record { values = fields b lists.head }

-- DIRS#, KID, INS# and ISAMID give six
abbrev pub tail_bytes : List ℕ → TailBytes
tail_bytes vs = record { number = pack_number layout.Tail vs; entry = 0; bytes = packed layout.Tail 6 vs }

abbrev pub tail_in : List ℕ → Tail
tail_in b = record { values = fields b lists.tail }
