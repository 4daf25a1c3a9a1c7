-- An annex: what C is told of an encoder's result: its number, and its bytes, or zeros where it is refused. Assumes nothing.
use Rattle.std.specs.Prelude.{ℕ, List, Result, replicate}
use Rattle.std.specs.Result.{result_unwrap_or}
use Rattle.rules.specs.declared.Reason.{Reason}
use Rattle.rules.specs.Reasons.{said}
use Rattle.directory.specs.declared.EntryBytes.{EntryBytes}
use Rattle.directory.specs.declared.HeadBytes.{HeadBytes}
use Rattle.directory.specs.declared.TailBytes.{TailBytes}

abbrev pub coded_entry : Result (List ℕ) Reason → EntryBytes
coded_entry r = record { number = said r; entry = 0; bytes = result_unwrap_or r (replicate 5 0) }

abbrev pub coded_head : Result (List ℕ) Reason → HeadBytes
coded_head r = record { number = said r; entry = 0; bytes = result_unwrap_or r (replicate 2 0) }

abbrev pub coded_tail : Result (List ℕ) Reason → TailBytes
coded_tail r = record { number = said r; entry = 0; bytes = result_unwrap_or r (replicate 6 0) }
