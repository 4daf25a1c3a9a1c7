-- An annex: a record in memory, which has room for the values of the longest list: a call gives zeros after its kind's own, and looks at none of them.
-- Assumes nothing.
use Rattle.std.specs.Prelude.{ℕ, ◌-◌, List, ◌++◌, length, get_or, take, replicate}
use Rattle.fields.specs.Padded.{most_bytes, held}
use Rattle.ticket.specs.Kind.{Row, kind_of, count_of}
use Rattle.ticket.specs.Ticket.{record_of}
use Rattle.ticket.specs.declared.kinds.Fields.{Fields}
use Rattle.ticket.specs.declared.Record.{Record}
use Rattle.ticket.specs.declared.Changed.{Changed}
use Rattle.ticket.specs.declared.Encoded.{Encoded}
use Rattle.ticket.specs.declared.Decoded.{Decoded}

-- the values that a kind has, of those in memory; and the record of them
abbrev pub own_of : ℕ → ℕ → List ℕ → List ℕ
own_of t r vs = take (count_of (kind_of t r).layout) vs

abbrev pub own : Record → Record
own t = record_of t.typ t.revision (own_of t.typ t.revision t.values)

-- a record, and what the calls answer, in memory
abbrev pub held_record : Record → Record
held_record t = record_of t.typ t.revision (held t.values)

abbrev pub held_changed : Changed → Changed
held_changed r = record { number = r.number; entry = r.entry; next = held_record r.next }

abbrev pub held_decoded : Decoded → Decoded
held_decoded r = record { number = r.number; entry = r.entry; next = held_record r.next }

abbrev pub held_encoded : Encoded → Encoded
held_encoded r = record { number = r.number; entry = r.entry; count = r.count; bytes = r.bytes ++ replicate (most_bytes - length r.bytes) 0 }

-- values in memory, and the one that is ExpiryTime
abbrev pub timed_by : Row → List ℕ → Fields
timed_by k vs = record { values = vs; time = get_or vs (k.expiry - 1) 0 }
