-- Demand 2 is kept: each sentence is a law of the crate that it is about, and here they stand together, field by field of the page. Assumes nothing.
use mathlib.Core.Path.{refl, sym, ap, ◌∙◌}
use mathlib.Core.List.{List, ◌++◌}
use Prim.Native.Nat.{ℕ}
use native.Mathlib.Omega.{arith}
use lib.ListN.{length}
use Rattle.bits.proofs.Laws.{field_lt, digit-field, field-store, store-field}
use Rattle.promises.proofs.Meeting.{read_again, kinds-meet}
use Rattle.crc.proofs.Examples.{example_1, example_2, example_3, check_value}
use Rattle.dates.specs.declared.Stamped.{Stamped}
use Rattle.dates.proofs.Stamps as stamps
use Rattle.dates.proofs.Undo.{stamp-again}
use Rattle.dates.proofs.Exactly.{stamp-dated}
use Rattle.chains.proofs.PsiLaws.{psi-is, psi_one}
use Rattle.shell.specs.declared.Shell.{Shell}
use Rattle.shell.proofs.Round as shell
use Rattle.shell.proofs.Words.{chd-once}
use Rattle.directory.proofs.Round as directory
use Rattle.std.proofs.lemmas.List.{drop-replicate}
use Rattle.table.proofs.Round as table
use Rattle.ticket.specs.Kind.{form_in}
use Rattle.ticket.proofs.HeaderRound as header
use Rattle.ticket.proofs.Listed.{kinds_are}
use Rattle.ticket.proofs.Round as ticket
use Rattle.ticket.proofs.Steps.{taken_next, taken_value}
use Rattle.image.specs.Image.{sectors}
use Rattle.image.proofs.Exact.{accepted-exactly, obeys_facts}
use Rattle.image.specs.Mistyped.{mistyped, exchanged}
use Rattle.image.proofs.Answers.{check_exactly, check-says, accepted-values}
use Rattle.image.proofs.Mistyped.{length-isrn, isrn-at, mistyped-refused, exchanged-refused}
use Rattle.image.proofs.Limits.{size_limits}
use Rattle.image.proofs.Stays.{chain_of, chain_only}
use Rattle.image.proofs.First.{product-size}
use Rattle.reads.proofs.Values as values
use Rattle.reads.proofs.Encoded as encoded
use Rattle.reads.proofs.Agree.{same-refusal, part-taken}
use Rattle.steps.specs.Step.{set_mark}
use Rattle.steps.proofs.Acts.{zero-taken, next-is}
use Rattle.steps.proofs.Frame.{frame, record_outside, length-next, after_table}
use Rattle.steps.proofs.Keeps.{all-stays, mark-own}
use Rattle.steps.proofs.Written as written
use Rattle.worked.specs.Cards.{small_card, largest}
use Rattle.worked.specs.Told.{used}
use Rattle.worked.specs.Night.{latest}
use Rattle.worked.proofs.Sizes.{smallest-obeys, largest-obeys}
use Rattle.worked.proofs.Area.{rest_empty-card, each_kind}
use Rattle.worked.proofs.Told.{used-steps}
use Rattle.worked.proofs.Night.{latest-end}
use Rattle.promises.specs.Demands.{Demand2}
use Rattle.promises.proofs.Encoded as whole
use Rattle.promises.proofs.ReadAgain.{record-read-again, field-read-again}

pub demand2 : Demand2
unfolding form_in
demand2 = record {
  accepted = λ c. let e = (check-says c).0 in ((λ z. (accepted-exactly c).0 (sym e ∙ z)), λ o. e ∙ (accepted-exactly c).1 o);
  sizes = λ c o. size_limits c (obeys_facts c o);
  psi = λ s h k. let q = psi-is s (omega arith) k in (q, λ p e. psi_one s p _ e q);
  check_digit = λ c o. (obeys_facts c o).check_digit;
  isrn_read = λ c. (length-isrn c, isrn-at c);
  check_digit_once = λ vs h. chd-once vs (omega arith);
  digit_mistyped = λ c i d b o h t n. (check_exactly (mistyped c i d) 12 0).1 (mistyped-refused c i d b o h t n);
  digits_exchanged = λ c i b o h n up down. (check_exactly (exchanged c i) 12 0).1 (exchanged-refused c i b o h n up down);
  check_read = accepted-values;
  shell_read = values.shell_read;
  directory_read = values.directory_read;
  table_read = λ c o. (values.table-count c o, values.table-length c o, values.table-value c o, values.table-after c o);
  entry_read = values.entry_read;
  chain_is = λ c j o v. let f = obeys_facts c o in (chain_of c f v, (λ ss m d. chain_only c f v d), product-size c f v);
  chain_read = λ c j z.
      let r = values.chain_read c j z in
      (r.0, r.1, r.2 ∙ ap (λ (l : List ℕ). sectors c j ++ l) (drop-replicate {X = ℕ} (length (sectors c j)) 252 0));
  ticket_read = values.ticket_read;
  kinds = kinds_are;
  kind_lists = (refl, refl, refl, refl);
  kind_fields = (refl, refl, refl, refl, refl, refl, refl, refl);
  ticket-end = let x = latest-end in (values.end_read, (latest, x.0, x.1));
  buffer-read = values.buffer-read;
  fill_read = values.fill_read;
  rest_read = λ c j room z. let r = values.rest_read c j room z in (r.0, r.1, values.rest-length c j room z);
  rest_agrees = λ c j room. let e = same-refusal c j room in (e.0, e.1, part-taken c j room);
  rest_empty = rest_empty-card;
  shell_decoded = λ b. refl;
  directory_decoded = λ b. (refl, refl, refl);
  header_decoded = λ b. refl;
  record_decoded = ticket.decoded-is;
  table_decoded = table.decoded;
  date_read = stamps.taken;
  shell_same = λ c l b o. whole.shell-encoded c b o l;
  head_same = encoded.head-encoded;
  tail_same = encoded.tail-encoded;
  table_same = λ c l b o. whole.table-encoded c b o l;
  entry_same = encoded.entry-encoded;
  header_same = encoded.header-encoded;
  ticket_same = encoded.ticket-encoded;
  date_same = λ s h. let e = stamp-again s h in (ap (λ (x : Stamped). x.number) e, ap (λ (x : Stamped). x.stamp) e);
  shell_written = λ vs l z. (shell.encoded vs l z, ap (λ (s : Shell). s.values) (shell.decode-encode vs l z));
  entry_written = λ vs z. (rw z, directory.entry_back vs ((directory.entry_exactly vs).0.0 z));
  head_written = λ vs z. (rw z, directory.head_back vs ((directory.head_exactly vs).0.0 z));
  tail_written = λ vs z. (rw z, directory.tail_back vs ((directory.tail_exactly vs).0.0 z));
  header_written = λ vs z. (rw z, header.header_back vs ((header.header_exactly vs).0.0 z));
  ticket_written = λ t z. (whole.ticket-count t z, ticket.taken-bytes t z, ticket.decode-encode t z);
  table_written = λ s es l z. (table.encoded s es l z, table.table-back s es l z);
  stamp_written = stamp-dated;
  value_set = taken_next;
  value_read = taken_value;
  record_again = record-read-again;
  field_again = field-read-again;
  stored = λ c s z. next-is c s (zero-taken c s z);
  again = λ c s b z. let t = zero-taken c s z in (written.again-taken c s b t, written.again c s b t);
  mark-again = λ c j m b z. mark-own c b (set_mark j m) (zero-taken c (set_mark j m) z);
  mark_already = λ c j m b o v l h e. (written.mark-accepted c j m (obeys_facts c o) v (l, h) e, written.mark-again c j m b e);
  frame = λ c s b. (length-next c s, frame c s b);
  record-frame = record_outside;
  stays = all-stays;
  seals = λ c s b o i h k. after_table c s b i h;
  some_sizes = let x = smallest-obeys in let y = largest-obeys in ((small_card 0 0, x.0, x.1, x.2), (largest, y.0, y.1, y.2));
  some_steps = let x = used-steps in (used, x.0, x.1, x.2, x.3, x.4, x.5, x.6);
  some_kinds = each_kind;
  crc_published = (example_1, example_2, example_3, check_value);
  list_once = read_again;
  lists_meet = kinds-meet;
  field_once = λ l p w. (field_lt l p w, digit-field l p w, store-field l p w, field-store l p w);
}
