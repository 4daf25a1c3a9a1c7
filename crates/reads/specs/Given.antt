-- An annex: what C's structs say of the answer of a read: its number and its entry, 0 and 0 where it is not refused; and what is read, zeros where it is refused.
-- Assumes nothing.
use Rattle.std.specs.Prelude.{ℕ, List, Result, replicate}
use Rattle.std.specs.Result.{result_unwrap_or}
use Rattle.chains.specs.Ended.{mark_number}
use Rattle.chains.specs.declared.packed.Mark.TheVariants.{Fresh}
use Rattle.rules.specs.Refusals.{answered}
use Rattle.rules.specs.declared.Refusal.{Refusal}
use Rattle.table.specs.declared.Table.{Table}
use Rattle.reads.specs.declared.ChainSectors.{ChainSectors}
use Rattle.reads.specs.declared.Ticket.{Ticket}
use Rattle.reads.specs.declared.Extent.{Extent}
use Rattle.reads.specs.declared.ShellRead.{ShellRead}
use Rattle.reads.specs.declared.DirectoryRead.{DirectoryRead}
use Rattle.reads.specs.declared.TableRead.{TableRead}
use Rattle.reads.specs.declared.EntryRead.{EntryRead}
use Rattle.reads.specs.declared.ChainRead.{ChainRead}
use Rattle.reads.specs.declared.TicketRead.{TicketRead}
use Rattle.reads.specs.declared.Filled.{Filled}

abbrev pub shell_given : Result (List ℕ) Refusal → ShellRead
shell_given r = record { number = (answered r).number; entry = (answered r).entry; values = result_unwrap_or r (replicate 16 0) }

abbrev pub directory_given : Result (List ℕ) Refusal → DirectoryRead
directory_given r = record { number = (answered r).number; entry = (answered r).entry; values = result_unwrap_or r (replicate 7 0) }

abbrev pub entry_given : Result (List ℕ) Refusal → EntryRead
entry_given r = record { number = (answered r).number; entry = (answered r).entry; values = result_unwrap_or r (replicate 7 0) }

abbrev pub no_elements : Table
no_elements = record { count = 0; elements = replicate 252 0 }

abbrev pub table_given : Result Table Refusal → TableRead
table_given r = record { number = (answered r).number; entry = (answered r).entry; count = (result_unwrap_or r no_elements).count; elements = (result_unwrap_or r no_elements).elements }

abbrev pub no_sectors : ChainSectors
no_sectors = record { mark = Fresh; count = 0; sectors = replicate 252 0 }

abbrev pub chain_given : Result ChainSectors Refusal → ChainRead
chain_given r = record {
  number = (answered r).number;
  entry = (answered r).entry;
  mark = mark_number (result_unwrap_or r no_sectors).mark;
  count = (result_unwrap_or r no_sectors).count;
  sectors = (result_unwrap_or r no_sectors).sectors;
}

abbrev pub no_ticket : Ticket
no_ticket = record { typ = 0; header = replicate 3 0; values = replicate 25 0; end = 0; mark = Fresh; sectors = 0 }

abbrev pub ticket_given : Result Ticket Refusal → TicketRead
ticket_given r = record {
  number = (answered r).number;
  entry = (answered r).entry;
  typ = (result_unwrap_or r no_ticket).typ;
  header = (result_unwrap_or r no_ticket).header;
  values = (result_unwrap_or r no_ticket).values;
  end = (result_unwrap_or r no_ticket).end;
  mark = mark_number (result_unwrap_or r no_ticket).mark;
  sectors = (result_unwrap_or r no_ticket).sectors;
}

abbrev pub filled_given : Result Extent Refusal → Filled
filled_given r = record {
  number = (answered r).number;
  entry = (answered r).entry;
  from = (result_unwrap_or r (record { from = 0; end = 0 })).from;
  end = (result_unwrap_or r (record { from = 0; end = 0 })).end;
}
