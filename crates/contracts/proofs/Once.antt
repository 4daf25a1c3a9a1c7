-- No published call asks anything first, and none leaves a choice: each contract is an equation, so that two results, and two states of a lent buffer, that
-- meet it are equal. `rest` hands back a part of a lent buffer: of that part the bytes and the place. Assumes nothing.
use mathlib.Core.Path.{◌≡◌, sym, ap₂, ◌∙◌}
use borrow.Fn.Kinds.{Dens, res_t, ended_of}
use contract.Lifetimes.{Lfts}
use denote.Triple.Clauses.{AtExit}
use Rattle.contracts.proofs.Fixed.{Once, Lent}
use Rattle.contracts.proofs.Told.{done_one, checked_one, shell_one, directory_one, table_one, entry_one, chain_one, ticket_one, filled_one}
use Rattle.std.specs.Prelude.{Result}
use Rattle.rules.specs.declared.Reason.{Reason}
use Rattle.rules.proofs.ReasonLaws as reason
use Rattle.ticket.specs.declared.Record.{Record}
use Rattle.directory.proofs.Once as directory
use Rattle.table.proofs.Once as table
use Rattle.ticket.proofs.Once as ticket
use Rattle.dates.proofs.Once as dates
use Rattle.verdict.proofs.check.Reads as check
use Rattle.verdict.proofs.check.Kinds as check-kinds
use Rattle.readcard.proofs.read_shell.Reads as read-shell
use Rattle.readcard.proofs.read_shell.Kinds as read-shell-kinds
use Rattle.readcard.proofs.read_directory.Reads as read-directory
use Rattle.readcard.proofs.read_directory.Kinds as read-directory-kinds
use Rattle.readcard.proofs.read_table.Reads as read_table
use Rattle.readcard.proofs.read_table.Kinds as read-table-kinds
use Rattle.readcard.proofs.read_entry.Reads as read-entry
use Rattle.readcard.proofs.read_entry.Kinds as read-entry-kinds
use Rattle.readcard.proofs.read_chain.Reads as read-chain
use Rattle.readcard.proofs.read_chain.Kinds as read-chain-kinds
use Rattle.readticket.proofs.read_ticket.Reads as read-ticket
use Rattle.readticket.proofs.read_ticket.Kinds as read-ticket-kinds
use Rattle.readticket.proofs.fill.Reads as fill
use Rattle.readticket.proofs.fill.Kinds as fill-kinds
use Rattle.readticket.proofs.rest.Reads as rest
use Rattle.readticket.proofs.rest.Kinds as rest-kinds
use Rattle.writes.proofs.write_field.Reads as write-field
use Rattle.writes.proofs.write_field.Kinds as write-field-kinds
use Rattle.writes.proofs.write_record.Reads as write-record
use Rattle.writes.proofs.write_record.Kinds as write-record-kinds
use Rattle.marks.proofs.mark.Reads as mark
use Rattle.marks.proofs.mark.Kinds as mark-kinds
use Rattle.touched.proofs.touched.Reads as touched
use Rattle.touched.proofs.touched.Kinds as touched-kinds
use Rattle.ticket.proofs.Record.set.Reads as record_set
use Rattle.ticket.proofs.Record.set.Kinds as record-set-kinds
use Rattle.ticket.proofs.Record.get.Reads as record_value
use Rattle.ticket.proofs.Record.get.Kinds as record-value-kinds
use Rattle.shell.proofs.encode.Reads as encode_shell
use Rattle.shell.proofs.encode.Kinds as encode-shell-kinds
use Rattle.shell.proofs.decode.Reads as decode-shell
use Rattle.shell.proofs.decode.Kinds as decode-shell-kinds
use Rattle.directory.proofs.encode_entry.Reads as encode_entry
use Rattle.directory.proofs.encode_entry.Kinds as encode-entry-kinds
use Rattle.directory.proofs.decode_entry.Reads as decode-entry
use Rattle.directory.proofs.decode_entry.Kinds as decode-entry-kinds
use Rattle.directory.proofs.encode_head.Reads as encode_head
use Rattle.directory.proofs.encode_head.Kinds as encode-head-kinds
use Rattle.directory.proofs.decode_head.Reads as decode-head
use Rattle.directory.proofs.decode_head.Kinds as decode-head-kinds
use Rattle.directory.proofs.encode_tail.Reads as encode_tail
use Rattle.directory.proofs.encode_tail.Kinds as encode-tail-kinds
use Rattle.directory.proofs.decode_tail.Reads as decode-tail
use Rattle.directory.proofs.decode_tail.Kinds as decode-tail-kinds
use Rattle.table.proofs.encode_table.Reads as encode_table
use Rattle.table.proofs.encode_table.Kinds as encode-table-kinds
use Rattle.table.proofs.decode_table.Reads as decode_table
use Rattle.table.proofs.decode_table.Kinds as decode-table-kinds
use Rattle.ticket.proofs.encode_header.Reads as encode_header
use Rattle.ticket.proofs.encode_header.Kinds as encode-header-kinds
use Rattle.ticket.proofs.decode_header.Reads as decode-header
use Rattle.ticket.proofs.decode_header.Kinds as decode-header-kinds
use Rattle.ticket.proofs.encode.Reads as encode_ticket
use Rattle.ticket.proofs.encode.Kinds as encode-ticket-kinds
use Rattle.ticket.proofs.decode.Reads as decode_ticket
use Rattle.ticket.proofs.decode.Kinds as decode-ticket-kinds
use Rattle.dates.proofs.date.Reads as date
use Rattle.dates.proofs.date.Kinds as date-kinds
use Rattle.dates.proofs.stamp.Reads as stamp
use Rattle.dates.proofs.stamp.Kinds as stamp-kinds

pub check-once : Once 1 check-kinds.ps check-kinds.r check.Pre check.Post
check-once = record { asks_nothing = λ κs a. tt; one_answer = λ κs a z z' e e' p q. checked_one (p ∙ sym q) }

pub read-shell-once : Once 1 read-shell-kinds.ps read-shell-kinds.r read-shell.Pre read-shell.Post
read-shell-once = record { asks_nothing = λ κs a. tt; one_answer = λ κs a z z' e e' p q. shell_one (p ∙ sym q) }

pub read-directory-once : Once 1 read-directory-kinds.ps read-directory-kinds.r read-directory.Pre read-directory.Post
read-directory-once = record { asks_nothing = λ κs a. tt; one_answer = λ κs a z z' e e' p q. directory_one (p ∙ sym q) }

pub read_table-once : Once 1 read-table-kinds.ps read-table-kinds.r read_table.Pre read_table.Post
read_table-once = record { asks_nothing = λ κs a. tt; one_answer = λ κs a z z' e e' p q. table_one (p ∙ sym q) }

pub read-entry-once : Once 1 read-entry-kinds.ps read-entry-kinds.r read-entry.Pre read-entry.Post
read-entry-once = record { asks_nothing = λ κs a. tt; one_answer = λ κs a z z' e e' p q. entry_one (p ∙ sym q) }

pub read-chain-once : Once 1 read-chain-kinds.ps read-chain-kinds.r read-chain.Pre read-chain.Post
read-chain-once = record { asks_nothing = λ κs a. tt; one_answer = λ κs a z z' e e' p q. chain_one (p ∙ sym q) }

pub read-ticket-once : Once 2 read-ticket-kinds.ps read-ticket-kinds.r read-ticket.Pre read-ticket.Post
read-ticket-once = record { asks_nothing = λ κs a. tt; one_answer = λ κs a z z' e e' p q. ticket_one (p.0 ∙ sym q.0) }

pub read-ticket_lent : Lent 2 read-ticket-kinds.ps read-ticket-kinds.r read-ticket.Post (λ κs e. e.1.1.0.now)
read-ticket_lent κs a z z' e e' p q = p.1 ∙ sym q.1

pub fill-once : Once 2 fill-kinds.ps fill-kinds.r fill.Pre fill.Post
fill-once = record { asks_nothing = λ κs a. tt; one_answer = λ κs a z z' e e' p q. filled_one (p.0 ∙ sym q.0) }

pub fill_lent : Lent 2 fill-kinds.ps fill-kinds.r fill.Post (λ κs e. e.1.1.0.now)
fill_lent κs a z z' e e' p q = p.1 ∙ sym q.1

pub rest-once : (κs : Lfts 2) (a : Dens κs rest-kinds.ps) (z z' : (res_t rest-kinds.r κs).Denot) (e e' : AtExit (ended_of 2 rest-kinds.ps rest-kinds.r) κs)
    → rest.Post κs a z e → rest.Post κs a z' e' → (z.now ≡ z'.now) × (z.ref_ptr.0 ≡ z'.ref_ptr.0) × (z.ref_ptr.1 ≡ z'.ref_ptr.1)
rest-once κs a z z' e e' p q = (p.0 ∙ sym q.0, p.1.0 ∙ sym q.1.0, p.1.1 ∙ sym q.1.1)

pub rest_free : (κs : Lfts 2) (a : Dens κs rest-kinds.ps) → rest.Pre κs a
rest_free κs a = tt

pub write-field-once : Once 1 write-field-kinds.ps write-field-kinds.r write-field.Pre write-field.Post
write-field-once = record { asks_nothing = λ κs a. tt; one_answer = λ κs a z z' e e' p q. done_one (p.0 ∙ sym q.0) }

pub write-field_lent : Lent 1 write-field-kinds.ps write-field-kinds.r write-field.Post (λ κs e. e.0.now)
write-field_lent κs a z z' e e' p q = p.1 ∙ sym q.1

pub write_record-once : Once 2 write-record-kinds.ps write-record-kinds.r write-record.Pre write-record.Post
write_record-once = record { asks_nothing = λ κs a. tt; one_answer = λ κs a z z' e e' p q. done_one (p.0 ∙ sym q.0) }

pub write_record_lent : Lent 2 write-record-kinds.ps write-record-kinds.r write-record.Post (λ κs e. e.0.now)
write_record_lent κs a z z' e e' p q = p.1 ∙ sym q.1

pub mark-once : Once 1 mark-kinds.ps mark-kinds.r mark.Pre mark.Post
mark-once = record { asks_nothing = λ κs a. tt; one_answer = λ κs a z z' e e' p q. done_one (p.0 ∙ sym q.0) }

pub mark_lent : Lent 1 mark-kinds.ps mark-kinds.r mark.Post (λ κs e. e.0.now)
mark_lent κs a z z' e e' p q = p.1 ∙ sym q.1

pub touched-once : Once 3 touched-kinds.ps touched-kinds.r touched.Pre touched.Post
touched-once = record { asks_nothing = λ κs a. tt; one_answer = λ κs a z z' e e' p q. done_one (p.0 ∙ sym q.0) }

pub touched_lent : Lent 3 touched-kinds.ps touched-kinds.r touched.Post (λ κs e. e.1.1.0.now)
touched_lent κs a z z' e e' p q = p.1 ∙ sym q.1

pub record-set-once : Once 0 record-set-kinds.ps record-set-kinds.r record_set.Pre record_set.Post
record-set-once = record {
  asks_nothing = λ κs a. tt;
  one_answer = λ κs a z z' e e' p q.
      let h = ticket.changed_once (p ∙ sym q) in
      ap₂ (λ (r : Result (Unit {0}) Reason) (t : Record). (r, t)) h.0 h.1;
}

pub record_value-once : Once 1 record-value-kinds.ps record-value-kinds.r record_value.Pre record_value.Post
record_value-once = record { asks_nothing = λ κs a. tt; one_answer = λ κs a z z' e e' p q. ticket.valued_once (p ∙ sym q) }

pub encode-shell-once : Once 1 encode-shell-kinds.ps encode-shell-kinds.r encode_shell.Pre encode_shell.Post
encode-shell-once = record { asks_nothing = λ κs a. tt; one_answer = λ κs a z z' e e' p q. reason.done_one (p.0 ∙ sym q.0) }

pub encode-shell_lent : Lent 1 encode-shell-kinds.ps encode-shell-kinds.r encode_shell.Post (λ κs e. e.1.0.now)
encode-shell_lent κs a z z' e e' p q = p.1 ∙ sym q.1

pub decode-shell-once : Once 0 decode-shell-kinds.ps decode-shell-kinds.r decode-shell.Pre decode-shell.Post
decode-shell-once = record { asks_nothing = λ κs a. tt; one_answer = λ κs a z z' e e' p q. p ∙ sym q }

pub encode-entry-once : Once 0 encode-entry-kinds.ps encode-entry-kinds.r encode_entry.Pre encode_entry.Post
encode-entry-once = record { asks_nothing = λ κs a. tt; one_answer = λ κs a z z' e e' p q. directory.entry_once (p ∙ sym q) }

pub decode-entry-once : Once 0 decode-entry-kinds.ps decode-entry-kinds.r decode-entry.Pre decode-entry.Post
decode-entry-once = record { asks_nothing = λ κs a. tt; one_answer = λ κs a z z' e e' p q. p ∙ sym q }

pub encode-head-once : Once 0 encode-head-kinds.ps encode-head-kinds.r encode_head.Pre encode_head.Post
encode-head-once = record { asks_nothing = λ κs a. tt; one_answer = λ κs a z z' e e' p q. directory.head_once (p ∙ sym q) }

pub decode-head-once : Once 0 decode-head-kinds.ps decode-head-kinds.r decode-head.Pre decode-head.Post
decode-head-once = record { asks_nothing = λ κs a. tt; one_answer = λ κs a z z' e e' p q. p ∙ sym q }

pub encode-tail-once : Once 0 encode-tail-kinds.ps encode-tail-kinds.r encode_tail.Pre encode_tail.Post
encode-tail-once = record { asks_nothing = λ κs a. tt; one_answer = λ κs a z z' e e' p q. directory.tail_once (p ∙ sym q) }

pub decode-tail-once : Once 0 decode-tail-kinds.ps decode-tail-kinds.r decode-tail.Pre decode-tail.Post
decode-tail-once = record { asks_nothing = λ κs a. tt; one_answer = λ κs a z z' e e' p q. p ∙ sym q }

pub encode_table-once : Once 2 encode-table-kinds.ps encode-table-kinds.r encode_table.Pre encode_table.Post
encode_table-once = record { asks_nothing = λ κs a. tt; one_answer = λ κs a z z' e e' p q. reason.done_one (p.0 ∙ sym q.0) }

pub encode_table_lent : Lent 2 encode-table-kinds.ps encode-table-kinds.r encode_table.Post (λ κs e. e.1.1.0.now)
encode_table_lent κs a z z' e e' p q = p.1 ∙ sym q.1

pub decode_table-once : Once 1 decode-table-kinds.ps decode-table-kinds.r decode_table.Pre decode_table.Post
decode_table-once = record { asks_nothing = λ κs a. tt; one_answer = λ κs a z z' e e' p q. table.table_once (p ∙ sym q) }

pub encode-header-once : Once 0 encode-header-kinds.ps encode-header-kinds.r encode_header.Pre encode_header.Post
encode-header-once = record { asks_nothing = λ κs a. tt; one_answer = λ κs a z z' e e' p q. ticket.header_once (p ∙ sym q) }

pub decode-header-once : Once 0 decode-header-kinds.ps decode-header-kinds.r decode-header.Pre decode-header.Post
decode-header-once = record { asks_nothing = λ κs a. tt; one_answer = λ κs a z z' e e' p q. p ∙ sym q }

pub encode-ticket-once : Once 0 encode-ticket-kinds.ps encode-ticket-kinds.r encode_ticket.Pre encode_ticket.Post
encode-ticket-once = record { asks_nothing = λ κs a. tt; one_answer = λ κs a z z' e e' p q. ticket.encoding_once (p ∙ sym q) }

pub decode-ticket-once : Once 0 decode-ticket-kinds.ps decode-ticket-kinds.r decode_ticket.Pre decode_ticket.Post
decode-ticket-once = record { asks_nothing = λ κs a. tt; one_answer = λ κs a z z' e e' p q. ticket.decoding_once (p ∙ sym q) }

pub date-once : Once 0 date-kinds.ps date-kinds.r date.Pre date.Post
date-once = record { asks_nothing = λ κs a. tt; one_answer = λ κs a z z' e e' p q. dates.date_once (p ∙ sym q) }

pub stamp-once : Once 0 stamp-kinds.ps stamp-kinds.r stamp.Pre stamp.Post
stamp-once = record { asks_nothing = λ κs a. tt; one_answer = λ κs a z z' e e' p q. dates.stamp_once (p ∙ sym q) }
