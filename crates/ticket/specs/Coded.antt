-- An annex: what C is told of a result: its number, and its value, or zeros where it is refused. Assumes nothing.
use Rattle.std.specs.Prelude.{ℕ, List, replicate, Result}
use Rattle.std.specs.Result.{result_unwrap_or}
use Rattle.rules.specs.declared.Reason.{Reason}
use Rattle.rules.specs.Reasons.{said}
use Rattle.fields.specs.Padded.{most, most_bytes}
use Rattle.ticket.specs.Ticket.{record_of}
use Rattle.ticket.specs.declared.Record.{Record}
use Rattle.ticket.specs.declared.Value.{Value}
use Rattle.ticket.specs.declared.Encoding.{Encoding}
use Rattle.ticket.specs.declared.Encoded.{Encoded}
use Rattle.ticket.specs.declared.Decoded.{Decoded}
use Rattle.ticket.specs.declared.HeaderBytes.{HeaderBytes}

abbrev pub valued : Result ℕ Reason → Value
valued r = record { number = said r; entry = 0; value = result_unwrap_or r 0 }

abbrev pub no_bytes : Encoding
no_bytes = record { count = 0; bytes = replicate most_bytes 0 }

abbrev pub encoding : Result Encoding Reason → Encoded
encoding r = record { number = said r; entry = 0; count = (result_unwrap_or r no_bytes).count; bytes = (result_unwrap_or r no_bytes).bytes }

abbrev pub no_record : Record
no_record = record_of 0 0 (replicate most 0)

abbrev pub decoding : Result Record Reason → Decoded
decoding r = record { number = said r; entry = 0; next = result_unwrap_or r no_record }

abbrev pub coded_header : Result (List ℕ) Reason → HeaderBytes
coded_header r = record { number = said r; entry = 0; bytes = result_unwrap_or r (replicate 2 0) }
