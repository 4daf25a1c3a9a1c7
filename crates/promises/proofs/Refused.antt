-- Demand 1 is kept: each call's number is that of the first of its rules that is not kept, and where it is not 0 the definition gives zeros and the
-- old bytes. Assumes nothing.
use mathlib.Core.Path.{refl}
use native.Mathlib.Omega.{arith}
use lib.ListN.{length}
use Rattle.rules.proofs.AnswerLaws.{refused-stays}
use Rattle.fields.specs.declared.Layout.TheVariants.{Entry, Head, Tail, Header}
use Rattle.fields.proofs.Whole.{pack_exactly, packed_zeros}
use Rattle.dates.proofs.Exactly.{date_exactly, undated_zeros, twenty-nine, no-entry, unstamped-zero}
use Rattle.shell.proofs.Round as shell
use Rattle.table.proofs.Round as table
use Rattle.ticket.proofs.Round as ticket
use Rattle.ticket.proofs.Steps.{set_exactly, refused_keeps, value-exactly, value-zero}
use Rattle.image.specs.Check.{check_of}
use Rattle.image.proofs.Exact.{exact}
use Rattle.image.proofs.Answers.{check_exactly, refused_zeros}
use Rattle.reads.specs.Card.{read_shell, read_directory, read_table}
use Rattle.reads.specs.Entry.{read_entry, read_chain}
use Rattle.reads.specs.Ticket.{read_ticket, buffer_after}
use Rattle.reads.proofs.Exactly.{entry_exactly, ticket_exactly}
use Rattle.reads.proofs.Given.{value-refused, values-refused, ticket-refused, fill-refused, rest_refused}
use Rattle.reads.proofs.Agree.{fill-exactly}
use Rattle.steps.proofs.Exactly.{answer_exactly}
use Rattle.steps.proofs.Acts.{refused-same}
use Rattle.touched.proofs.Exactly.{touched-exactly, flags_stay}
use Rattle.promises.specs.Demands.{Demand1}
use Rattle.promises.proofs.Memory.{in_memory, of_memory}

pub demand1 : Demand1
unfolding read_shell read_directory read_table read_entry read_chain read_ticket buffer_after
demand1 = record {
  check = λ c. (check_exactly c, refused_zeros (check_of c));
  read-shell = λ c. (exact c, values-refused _ 16 _);
  read-directory = λ c. (exact c, values-refused _ 7 _);
  read-table = λ c. (exact c, λ h. (value-refused _ _ h, values-refused _ 252 _ h));
  read-entry = λ c j. (entry_exactly c j, values-refused _ 7 _);
  read-chain = λ c j. (entry_exactly c j, λ h. (value-refused _ _ h, value-refused _ _ h, values-refused _ 252 _ h));
  read-ticket = λ c j room. (ticket_exactly c j room, ticket-refused c j room);
  fill = λ c j room. (fill-exactly c j room, fill-refused c j room);
  buffer = λ c j b. refused-stays _ _ b;
  rest_refused = rest_refused;
  step = λ c s. (answer_exactly c s, λ h. refused-same c s (omega arith));
  touched = λ c d f. (touched-exactly c d (length f), flags_stay c d f);
  held_zeros = in_memory;
  held-ticket = λ r. refl;
  held-changed = λ r. refl;
  held-decoded = λ r. refl;
  held-encoded = λ r. refl;
  own_values = of_memory;
  own_bytes = ticket.decoded-front;
  record_set = λ t n v. (set_exactly t n v, refused_keeps t n v);
  record_value = λ t n. (value-exactly t n, value-zero t n);
  encode_shell = λ vs l. (shell.encode_exactly vs (length l), refused-stays _ _ l);
  encode_entry = λ vs. (pack_exactly Entry vs, packed_zeros Entry 5 vs);
  encode_head = λ vs. (pack_exactly Head vs, packed_zeros Head 2 vs);
  encode_tail = λ vs. (pack_exactly Tail vs, packed_zeros Tail 6 vs);
  encode_header = λ vs. (pack_exactly Header vs, packed_zeros Header 2 vs);
  encode_ticket = λ t. (ticket.encode_exactly t, λ h. let e = ticket.refused_none t h in (e.1, e.0));
  decode_ticket = λ t r b. (ticket.decode-exactly t r b, ticket.decoded-none t r b);
  encode_table = λ s es l. (table.encode_exactly s es (length l), refused-stays _ _ l);
  decode_table = λ s b. (table.decode-exactly s b, table.undecoded-zeros s b);
  date-of = λ s. (date_exactly s, undated_zeros s);
  stamp-of = λ y m d. (twenty-nine y m d, no-entry y m d, unstamped-zero y m d);
}
