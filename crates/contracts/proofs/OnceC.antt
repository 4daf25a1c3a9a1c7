-- The same of the functions for C. Assumes nothing.
use mathlib.Core.Path.{sym, ◌∙◌}
use Rattle.contracts.proofs.Fixed.{Once, Lent}
use Rattle.capi.proofs.card_check.Reads as card-check
use Rattle.capi.proofs.card_check.Kinds as card-check-kinds
use Rattle.capi.proofs.card_read_shell.Reads as card-read-shell
use Rattle.capi.proofs.card_read_shell.Kinds as card-read-shell-kinds
use Rattle.capi.proofs.card_read_directory.Reads as card-read-directory
use Rattle.capi.proofs.card_read_directory.Kinds as card-read-directory-kinds
use Rattle.capi.proofs.card_read_table.Reads as card-read-table
use Rattle.capi.proofs.card_read_table.Kinds as card-read-table-kinds
use Rattle.capi.proofs.card_read_entry.Reads as card-read-entry
use Rattle.capi.proofs.card_read_entry.Kinds as card-read-entry-kinds
use Rattle.capi.proofs.card_read_chain.Reads as card-read-chain
use Rattle.capi.proofs.card_read_chain.Kinds as card-read-chain-kinds
use Rattle.capi.proofs.card_read_ticket.Reads as card-read-ticket
use Rattle.capi.proofs.card_read_ticket.Kinds as card-read-ticket-kinds
use Rattle.capi.proofs.card_fill.Reads as card-fill
use Rattle.capi.proofs.card_fill.Kinds as card-fill-kinds
use Rattle.capi.proofs.card_write_field.Reads as card-write-field
use Rattle.capi.proofs.card_write_field.Kinds as card-write-field-kinds
use Rattle.capi.proofs.card_write_record.Reads as card-write-record
use Rattle.capi.proofs.card_write_record.Kinds as card-write-record-kinds
use Rattle.capi.proofs.card_mark.Reads as card-mark
use Rattle.capi.proofs.card_mark.Kinds as card-mark-kinds
use Rattle.capi.proofs.card_touched.Reads as card-touched
use Rattle.capi.proofs.card_touched.Kinds as card-touched-kinds
use Rattle.capi.proofs.card_record_set.Reads as card-record-set
use Rattle.capi.proofs.card_record_set.Kinds as card-record-set-kinds
use Rattle.capi.proofs.card_record_value.Reads as card-record-value
use Rattle.capi.proofs.card_record_value.Kinds as card-record-value-kinds
use Rattle.capi.proofs.card_encode_shell.Reads as card-encode-shell
use Rattle.capi.proofs.card_encode_shell.Kinds as card-encode-shell-kinds
use Rattle.capi.proofs.card_decode_shell.Reads as card-decode-shell
use Rattle.capi.proofs.card_decode_shell.Kinds as card-decode-shell-kinds
use Rattle.capi.proofs.card_encode_entry.Reads as card-encode-entry
use Rattle.capi.proofs.card_encode_entry.Kinds as card-encode-entry-kinds
use Rattle.capi.proofs.card_decode_entry.Reads as card-decode-entry
use Rattle.capi.proofs.card_decode_entry.Kinds as card-decode-entry-kinds
use Rattle.capi.proofs.card_encode_head.Reads as card-encode-head
use Rattle.capi.proofs.card_encode_head.Kinds as card-encode-head-kinds
use Rattle.capi.proofs.card_decode_head.Reads as card-decode-head
use Rattle.capi.proofs.card_decode_head.Kinds as card-decode-head-kinds
use Rattle.capi.proofs.card_encode_tail.Reads as card-encode-tail
use Rattle.capi.proofs.card_encode_tail.Kinds as card-encode-tail-kinds
use Rattle.capi.proofs.card_decode_tail.Reads as card-decode-tail
use Rattle.capi.proofs.card_decode_tail.Kinds as card-decode-tail-kinds
use Rattle.capi.proofs.card_encode_table.Reads as card-encode-table
use Rattle.capi.proofs.card_encode_table.Kinds as card-encode-table-kinds
use Rattle.capi.proofs.card_decode_table.Reads as card-decode-table
use Rattle.capi.proofs.card_decode_table.Kinds as card-decode-table-kinds
use Rattle.capi.proofs.card_encode_header.Reads as card-encode-header
use Rattle.capi.proofs.card_encode_header.Kinds as card-encode-header-kinds
use Rattle.capi.proofs.card_decode_header.Reads as card-decode-header
use Rattle.capi.proofs.card_decode_header.Kinds as card-decode-header-kinds
use Rattle.capi.proofs.card_encode_ticket.Reads as card-encode-ticket
use Rattle.capi.proofs.card_encode_ticket.Kinds as card-encode-ticket-kinds
use Rattle.capi.proofs.card_decode_ticket.Reads as card-decode-ticket
use Rattle.capi.proofs.card_decode_ticket.Kinds as card-decode-ticket-kinds
use Rattle.capi.proofs.card_date_of.Reads as card-date-of
use Rattle.capi.proofs.card_date_of.Kinds as card-date-of-kinds
use Rattle.capi.proofs.card_stamp_of.Reads as card-stamp-of
use Rattle.capi.proofs.card_stamp_of.Kinds as card-stamp-of-kinds

pub card-check-once : Once 1 card-check-kinds.ps card-check-kinds.r card-check.Pre card-check.Post
card-check-once = record { asks_nothing = λ κs a. tt; one_answer = λ κs a z z' e e' p q. p ∙ sym q }

pub card-read-shell-once : Once 1 card-read-shell-kinds.ps card-read-shell-kinds.r card-read-shell.Pre card-read-shell.Post
card-read-shell-once = record { asks_nothing = λ κs a. tt; one_answer = λ κs a z z' e e' p q. p ∙ sym q }

pub card-read-directory-once : Once 1 card-read-directory-kinds.ps card-read-directory-kinds.r card-read-directory.Pre card-read-directory.Post
card-read-directory-once = record { asks_nothing = λ κs a. tt; one_answer = λ κs a z z' e e' p q. p ∙ sym q }

pub card-read_table-once : Once 1 card-read-table-kinds.ps card-read-table-kinds.r card-read-table.Pre card-read-table.Post
card-read_table-once = record { asks_nothing = λ κs a. tt; one_answer = λ κs a z z' e e' p q. p ∙ sym q }

pub card-read-entry-once : Once 1 card-read-entry-kinds.ps card-read-entry-kinds.r card-read-entry.Pre card-read-entry.Post
card-read-entry-once = record { asks_nothing = λ κs a. tt; one_answer = λ κs a z z' e e' p q. p ∙ sym q }

pub card-read-chain-once : Once 1 card-read-chain-kinds.ps card-read-chain-kinds.r card-read-chain.Pre card-read-chain.Post
card-read-chain-once = record { asks_nothing = λ κs a. tt; one_answer = λ κs a z z' e e' p q. p ∙ sym q }

pub card-read-ticket-once : Once 2 card-read-ticket-kinds.ps card-read-ticket-kinds.r card-read-ticket.Pre card-read-ticket.Post
card-read-ticket-once = record { asks_nothing = λ κs a. tt; one_answer = λ κs a z z' e e' p q. p.0 ∙ sym q.0 }

pub card-read-ticket_lent : Lent 2 card-read-ticket-kinds.ps card-read-ticket-kinds.r card-read-ticket.Post (λ κs e. e.1.1.0.now)
card-read-ticket_lent κs a z z' e e' p q = p.1 ∙ sym q.1

pub card-fill-once : Once 2 card-fill-kinds.ps card-fill-kinds.r card-fill.Pre card-fill.Post
card-fill-once = record { asks_nothing = λ κs a. tt; one_answer = λ κs a z z' e e' p q. p.0 ∙ sym q.0 }

pub card-fill_lent : Lent 2 card-fill-kinds.ps card-fill-kinds.r card-fill.Post (λ κs e. e.1.1.0.now)
card-fill_lent κs a z z' e e' p q = p.1 ∙ sym q.1

pub card-write-field-once : Once 1 card-write-field-kinds.ps card-write-field-kinds.r card-write-field.Pre card-write-field.Post
card-write-field-once = record { asks_nothing = λ κs a. tt; one_answer = λ κs a z z' e e' p q. p.0 ∙ sym q.0 }

pub card-write-field_lent : Lent 1 card-write-field-kinds.ps card-write-field-kinds.r card-write-field.Post (λ κs e. e.0.now)
card-write-field_lent κs a z z' e e' p q = p.1 ∙ sym q.1

pub card-write_record-once : Once 2 card-write-record-kinds.ps card-write-record-kinds.r card-write-record.Pre card-write-record.Post
card-write_record-once = record { asks_nothing = λ κs a. tt; one_answer = λ κs a z z' e e' p q. p.0 ∙ sym q.0 }

pub card-write_record_lent : Lent 2 card-write-record-kinds.ps card-write-record-kinds.r card-write-record.Post (λ κs e. e.0.now)
card-write_record_lent κs a z z' e e' p q = p.1 ∙ sym q.1

pub card-mark-once : Once 1 card-mark-kinds.ps card-mark-kinds.r card-mark.Pre card-mark.Post
card-mark-once = record { asks_nothing = λ κs a. tt; one_answer = λ κs a z z' e e' p q. p.0 ∙ sym q.0 }

pub card-mark_lent : Lent 1 card-mark-kinds.ps card-mark-kinds.r card-mark.Post (λ κs e. e.0.now)
card-mark_lent κs a z z' e e' p q = p.1 ∙ sym q.1

pub card-touched-once : Once 3 card-touched-kinds.ps card-touched-kinds.r card-touched.Pre card-touched.Post
card-touched-once = record { asks_nothing = λ κs a. tt; one_answer = λ κs a z z' e e' p q. p.0 ∙ sym q.0 }

pub card-touched_lent : Lent 3 card-touched-kinds.ps card-touched-kinds.r card-touched.Post (λ κs e. e.1.1.0.now)
card-touched_lent κs a z z' e e' p q = p.1 ∙ sym q.1

pub card_record-set-once : Once 1 card-record-set-kinds.ps card-record-set-kinds.r card-record-set.Pre card-record-set.Post
card_record-set-once = record { asks_nothing = λ κs a. tt; one_answer = λ κs a z z' e e' p q. p ∙ sym q }

pub card_record_value-once : Once 1 card-record-value-kinds.ps card-record-value-kinds.r card-record-value.Pre card-record-value.Post
card_record_value-once = record { asks_nothing = λ κs a. tt; one_answer = λ κs a z z' e e' p q. p ∙ sym q }

pub card_encode-shell-once : Once 2 card-encode-shell-kinds.ps card-encode-shell-kinds.r card-encode-shell.Pre card-encode-shell.Post
card_encode-shell-once = record { asks_nothing = λ κs a. tt; one_answer = λ κs a z z' e e' p q. p.0 ∙ sym q.0 }

pub card_encode-shell_lent : Lent 2 card-encode-shell-kinds.ps card-encode-shell-kinds.r card-encode-shell.Post (λ κs e. e.1.0.now)
card_encode-shell_lent κs a z z' e e' p q = p.1 ∙ sym q.1

pub card_decode-shell-once : Once 1 card-decode-shell-kinds.ps card-decode-shell-kinds.r card-decode-shell.Pre card-decode-shell.Post
card_decode-shell-once = record { asks_nothing = λ κs a. tt; one_answer = λ κs a z z' e e' p q. p ∙ sym q }

pub card_encode-entry-once : Once 1 card-encode-entry-kinds.ps card-encode-entry-kinds.r card-encode-entry.Pre card-encode-entry.Post
card_encode-entry-once = record { asks_nothing = λ κs a. tt; one_answer = λ κs a z z' e e' p q. p ∙ sym q }

pub card_decode-entry-once : Once 1 card-decode-entry-kinds.ps card-decode-entry-kinds.r card-decode-entry.Pre card-decode-entry.Post
card_decode-entry-once = record { asks_nothing = λ κs a. tt; one_answer = λ κs a z z' e e' p q. p ∙ sym q }

pub card_encode-head-once : Once 1 card-encode-head-kinds.ps card-encode-head-kinds.r card-encode-head.Pre card-encode-head.Post
card_encode-head-once = record { asks_nothing = λ κs a. tt; one_answer = λ κs a z z' e e' p q. p ∙ sym q }

pub card_decode-head-once : Once 1 card-decode-head-kinds.ps card-decode-head-kinds.r card-decode-head.Pre card-decode-head.Post
card_decode-head-once = record { asks_nothing = λ κs a. tt; one_answer = λ κs a z z' e e' p q. p ∙ sym q }

pub card_encode-tail-once : Once 1 card-encode-tail-kinds.ps card-encode-tail-kinds.r card-encode-tail.Pre card-encode-tail.Post
card_encode-tail-once = record { asks_nothing = λ κs a. tt; one_answer = λ κs a z z' e e' p q. p ∙ sym q }

pub card_decode-tail-once : Once 1 card-decode-tail-kinds.ps card-decode-tail-kinds.r card-decode-tail.Pre card-decode-tail.Post
card_decode-tail-once = record { asks_nothing = λ κs a. tt; one_answer = λ κs a z z' e e' p q. p ∙ sym q }

pub card_encode_table-once : Once 2 card-encode-table-kinds.ps card-encode-table-kinds.r card-encode-table.Pre card-encode-table.Post
card_encode_table-once = record { asks_nothing = λ κs a. tt; one_answer = λ κs a z z' e e' p q. p.0 ∙ sym q.0 }

pub card_encode_table_lent : Lent 2 card-encode-table-kinds.ps card-encode-table-kinds.r card-encode-table.Post (λ κs e. e.1.1.0.now)
card_encode_table_lent κs a z z' e e' p q = p.1 ∙ sym q.1

pub card_decode_table-once : Once 1 card-decode-table-kinds.ps card-decode-table-kinds.r card-decode-table.Pre card-decode-table.Post
card_decode_table-once = record { asks_nothing = λ κs a. tt; one_answer = λ κs a z z' e e' p q. p ∙ sym q }

pub card_encode-header-once : Once 1 card-encode-header-kinds.ps card-encode-header-kinds.r card-encode-header.Pre card-encode-header.Post
card_encode-header-once = record { asks_nothing = λ κs a. tt; one_answer = λ κs a z z' e e' p q. p ∙ sym q }

pub card_decode-header-once : Once 1 card-decode-header-kinds.ps card-decode-header-kinds.r card-decode-header.Pre card-decode-header.Post
card_decode-header-once = record { asks_nothing = λ κs a. tt; one_answer = λ κs a z z' e e' p q. p ∙ sym q }

pub card_encode-ticket-once : Once 1 card-encode-ticket-kinds.ps card-encode-ticket-kinds.r card-encode-ticket.Pre card-encode-ticket.Post
card_encode-ticket-once = record { asks_nothing = λ κs a. tt; one_answer = λ κs a z z' e e' p q. p ∙ sym q }

pub card_decode-ticket-once : Once 1 card-decode-ticket-kinds.ps card-decode-ticket-kinds.r card-decode-ticket.Pre card-decode-ticket.Post
card_decode-ticket-once = record { asks_nothing = λ κs a. tt; one_answer = λ κs a z z' e e' p q. p ∙ sym q }

pub card-date_of-once : Once 0 card-date-of-kinds.ps card-date-of-kinds.r card-date-of.Pre card-date-of.Post
card-date_of-once = record { asks_nothing = λ κs a. tt; one_answer = λ κs a z z' e e' p q. p ∙ sym q }

pub card_stamp_of-once : Once 0 card-stamp-of-kinds.ps card-stamp-of-kinds.r card-stamp-of.Pre card-stamp-of.Post
card_stamp_of-once = record { asks_nothing = λ κs a. tt; one_answer = λ κs a z z' e e' p q. p ∙ sym q }
