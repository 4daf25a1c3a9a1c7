-- The page to sign: the three demands, sentence by sentence in the request's order and words, each a statement over the definitions that README lists.
-- A published call's contract says that its answer and each lent byte are what the definition named here gives: `check_of`, `read_ticket`, `answer`, `next` ..
-- `Kept.kept` proves the page, and contracts `Once` that each contract leaves no choice. An image or buffer is a list of bytes (`Bytes`). Assumes nothing.
use Rattle.std.specs.Prelude.{◌≡◌, ◌↔◌, ◌≢◌, ◌⊎◌, List, [], ◌∷◌, ◌++◌, ℕ, ◌+◌, ◌-◌, ◌*◌, ◌%◌, ◌^◌, ◌≤◌, ◌<◌, length, get_or, set, take, drop, replicate}
use Rattle.rules.specs.Claim.{Means, ◌≤?◌, rule, Answers}
use Rattle.bits.specs.Bits.{Bytes, digit, bit, field, store, Outside}
use Rattle.fields.specs.Lists as lists
use Rattle.fields.specs.Lists.{list_of, bit_after}
use Rattle.fields.specs.Fields.{fields, stores, fit, fit_rules}
use Rattle.fields.specs.Padded.{held}
use Rattle.fields.specs.declared.Span.{Span}
use Rattle.fields.specs.declared.Layout.TheVariants.{Entry, Head, Tail, Header}
use Rattle.crc.specs.Crc.{crc}
use Rattle.digits.specs.Digits.{luhn}
use Rattle.dates.specs.Calendar.{date, stamp_date, dated, date_of, stamp_of}
use Rattle.dates.specs.Impossible.{Unstamped}
use Rattle.chains.specs.Chain.{In, Chain, last_of}
use Rattle.chains.specs.Psi.{Ψ, IsPsi}
use Rattle.shell.specs.Shell as shell
use Rattle.shell.specs.Encode as shell-call
use Rattle.directory.specs.Records.{entry_bytes, entry_in, head_bytes, head_in, tail_bytes, tail_in}
use Rattle.table.specs.Table as table
use Rattle.table.specs.Coded as table-call
use Rattle.ticket.specs.Kind.{row_of, kind_of, count_of, rest_of, listed, field_rule, set_rules}
use Rattle.ticket.specs.declared.kinds.Kind.{Kind}
use Rattle.ticket.specs.Ticket as ticket
use Rattle.ticket.specs.Ticket.{set_of, value_of, header_bytes, header_in}
use Rattle.ticket.specs.Memory.{own_of, own, held_changed, held_decoded, held_encoded}
use Rattle.ticket.specs.declared.Changed.{Changed}
use Rattle.ticket.specs.declared.Decoded.{Decoded}
use Rattle.ticket.specs.declared.Encoded.{Encoded}
use Rattle.ticket.specs.declared.Record.{Record}
use Rattle.image.specs.Image.{copy, shell_values, isrn, dataset, B, S, e#, SCTL, sector_at, directory_at, entry_at, table_at, element, sectors, mark, product}
use Rattle.image.specs.Product.{element_at, product_at}
use Rattle.image.specs.Obeys.{IsProduct, Obeys, Says, Gives}
use Rattle.image.specs.Answer.{number_of, entry_of, values_of}
use Rattle.image.specs.Check.{check_of}
use Rattle.image.specs.Mistyped.{digit_at, mistyped, exchanged}
use Rattle.reads.specs.Values.{directory_values, entry_values, ticket_rules, kind_at, ticket_end, extent}
use Rattle.reads.specs.Card.{read_shell, read_directory, read_table}
use Rattle.reads.specs.Entry.{read_entry, read_chain}
use Rattle.reads.specs.Ticket.{read_ticket, held_ticket, buffer_after, fill_of, rest, rest_at}
use Rattle.reads.specs.declared.TicketRead.{TicketRead}
use Rattle.steps.specs.Step.{Step, write, write_all, set_mark, owner, step_rules, target, new_values}
use Rattle.steps.specs.Steps.{answer, next}
use Rattle.steps.specs.Touched.{Touched, Compares}
use Rattle.steps.specs.Flags.{touched_answer, touched_flags}
use Rattle.mixing.specs.Run.{end, log}
use Rattle.mixing.specs.Mix as jobs
use Rattle.mixing.specs.Mix.{Mix, Job, Separate}
use Rattle.jobs.specs.Demand.{card_steps, Serves}
use Rattle.jobs.specs.Named.{Named}

-- G holds of the number n with the entry e, and of no other pair
abbrev pub Exactly : ℕ → ℕ → (ℕ → ℕ → Type 0) → Type 0
Exactly n e G = (m f : ℕ) → ((n ≡ m) × (e ≡ f)) ↔ G m f

-- each place starts where the one before ends, from bit a to bit e
abbrev pub Meets : ℕ → List Span → ℕ → Type 0
Meets a [] e = a ≡ e
Meets a (p ∷ ps) e = (p.0 ≡ a) × Meets (a + p.1) ps e

-- "Every call ends, on every image and every argument": the language's. "And does its own checking": no call asks anything first (contracts `Once`).
pub record Demand1 : Type 0 where
  -- "A refusal gives its number and the entry concerned", "and the image and any buffer lent with it keep all their old bytes"; zeros else ("Numbers given back")
  pub check : (c : List ℕ) → Exactly (number_of (check_of c)) (entry_of (check_of c)) (Says c) × (number_of (check_of c) ≢ 0 → values_of (check_of c) ≡ replicate 9 0)
  pub read-shell : (c : List ℕ) → Exactly (read_shell c).number (read_shell c).entry (Says c) × ((read_shell c).number ≢ 0 → (read_shell c).values ≡ replicate 16 0)
  pub read-directory : (c : List ℕ)
      → Exactly (read_directory c).number (read_directory c).entry (Says c) × ((read_directory c).number ≢ 0 → (read_directory c).values ≡ replicate 7 0)
  pub read-table : (c : List ℕ)
      → Exactly (read_table c).number (read_table c).entry (Says c) × ((read_table c).number ≢ 0 → ((read_table c).count ≡ 0) × ((read_table c).elements ≡ replicate 252 0))
  pub read-entry : (c : List ℕ) (j : ℕ)
      → Exactly (read_entry c j).number (read_entry c j).entry (Gives c j (λ p. [])) × ((read_entry c j).number ≢ 0 → (read_entry c j).values ≡ replicate 7 0)
  pub read-chain : (c : List ℕ) (j : ℕ) → Exactly (read_chain c j).number (read_chain c j).entry (Gives c j (λ p. []))
      × ((read_chain c j).number ≢ 0 → ((read_chain c j).mark ≡ 0) × ((read_chain c j).count ≡ 0) × ((read_chain c j).sectors ≡ replicate 252 0))
  pub read-ticket : (c : List ℕ) (j room : ℕ) → Exactly (read_ticket c j room).number (read_ticket c j room).entry (Gives c j (ticket_rules room))
      × ((read_ticket c j room).number ≢ 0 → ((read_ticket c j room).typ ≡ 0) × ((read_ticket c j room).header ≡ replicate 3 0) × ((read_ticket c j room).values ≡ [])
      × ((read_ticket c j room).end ≡ 0) × ((read_ticket c j room).mark ≡ 0) × ((read_ticket c j room).sectors ≡ 0))
  pub fill : (c : List ℕ) (j room : ℕ) → Exactly (fill_of c j room).number (fill_of c j room).entry (Gives c j (ticket_rules room))
      × ((fill_of c j room).number ≢ 0 → ((fill_of c j room).from ≡ 0) × ((fill_of c j room).end ≡ 0))
  -- the buffer b after read_ticket or fill; what is lent to be read alone no call can write
  pub buffer : (c : List ℕ) (j : ℕ) (b : List ℕ) → (read_ticket c j (length b)).number ≢ 0 → buffer_after c j b ≡ b
  -- the one exception: `rest` hands back a part of the buffer, here none; of the other bytes its contract can't speak, and `fill`, which it calls first, does
  pub rest_refused : (c : List ℕ) (j room : ℕ) → (read_ticket c j room).number ≢ 0 → (rest c j room ≡ []) × (rest_at c j room ≡ 0)
  -- a field write, a record write, a mark
  pub step : (c : List ℕ) (s : Step)
      → Exactly (answer c s).number (answer c s).entry (Gives c (owner s) (λ p. step_rules p s)) × ((answer c s).number ≢ 0 → next c s ≡ c)
  pub touched : (c d f : List ℕ) → Exactly (touched_answer c d (length f)).number (touched_answer c d (length f)).entry (Compares c d (length f))
      × ((touched_answer c d (length f)).number ≢ 0 → touched_flags c d f ≡ f)
  -- "A record names its kind and revision and holds just that list's values": in memory zeros follow them in every answer (`held`) ..
  pub held_zeros : (vs : List ℕ) → length vs ≤ 25 → (length (held vs) ≡ 25) × (take (length vs) (held vs) ≡ vs) × ((i : ℕ) → length vs ≤ i → get_or (held vs) i 0 ≡ 0)
  pub held-ticket : (r : TicketRead) → held_ticket r ≡ record {
    number = r.number;
    entry = r.entry;
    typ = r.typ;
    header = r.header;
    values = held r.values;
    end = r.end;
    mark = r.mark;
    sectors = r.sectors;
  }
  pub held-changed : (r : Changed) → held_changed r ≡ record {
    number = r.number;
    entry = r.entry;
    next = record { typ = r.next.typ; revision = r.next.revision; values = held r.next.values };
  }
  pub held-decoded : (r : Decoded) → held_decoded r ≡ record {
    number = r.number;
    entry = r.entry;
    next = record { typ = r.next.typ; revision = r.next.revision; values = held r.next.values };
  }
  pub held-encoded : (r : Encoded) → held_encoded r ≡ record { number = r.number; entry = r.entry; count = r.count; bytes = r.bytes ++ replicate (27 - length r.bytes) 0 }
  -- .. and what follows them in an argument is not looked at (`own`, `own_of`; of bytes that are decoded, those after the fields)
  pub own_values : (t r : ℕ) (vs xs : List ℕ) → length vs ≡ count_of (kind_of t r).layout → (own_of t r (vs ++ xs) ≡ vs)
      × (own (record { typ = t; revision = r; values = vs ++ xs }) ≡ record { typ = t; revision = r; values = vs })
  pub own_bytes : (t r : ℕ) (b xs : List ℕ) → rest_of (kind_of t r).layout - 2 ≤ length b → ticket.decode_of t r (b ++ xs) ≡ ticket.decode_of t r b
  -- refused, a record step gives back the record it took; the decoders of other arrays than a ticket's give no number and can't refuse
  pub record_set : (t : Record) (n v : ℕ)
      → Exactly (set_of t n v).number (set_of t n v).entry (Answers (rule 22 (listed (kind_of t.typ t.revision).layout) ∷ set_rules (kind_of t.typ t.revision).layout n v)) × ((set_of t n v).number ≢ 0 → (set_of t n v).next ≡ t)
  pub record_value : (t : Record) (n : ℕ)
      → Exactly (value_of t n).number (value_of t n).entry (Answers (rule 22 (listed (kind_of t.typ t.revision).layout) ∷ field_rule (kind_of t.typ t.revision).layout n ∷ [])) × ((value_of t n).number ≢ 0 → (value_of t n).value ≡ 0)
  pub encode_shell : (vs l : List ℕ) → Exactly (shell-call.encode_number vs (length l)) 0 (Answers (shell.encode_rules vs (length l)))
      × (shell-call.encode_number vs (length l) ≢ 0 → shell-call.encode_in vs l ≡ l)
  pub encode_entry : (vs : List ℕ)
      → Exactly (entry_bytes vs).number (entry_bytes vs).entry (Answers (fit_rules Entry vs)) × ((entry_bytes vs).number ≢ 0 → (entry_bytes vs).bytes ≡ replicate 5 0)
  pub encode_head : (vs : List ℕ)
      → Exactly (head_bytes vs).number (head_bytes vs).entry (Answers (fit_rules Head vs)) × ((head_bytes vs).number ≢ 0 → (head_bytes vs).bytes ≡ replicate 2 0)
  pub encode_tail : (vs : List ℕ)
      → Exactly (tail_bytes vs).number (tail_bytes vs).entry (Answers (fit_rules Tail vs)) × ((tail_bytes vs).number ≢ 0 → (tail_bytes vs).bytes ≡ replicate 6 0)
  pub encode_header : (vs : List ℕ)
      → Exactly (header_bytes vs).number (header_bytes vs).entry (Answers (fit_rules Header vs)) × ((header_bytes vs).number ≢ 0 → (header_bytes vs).bytes ≡ replicate 2 0)
  pub encode_ticket : (t : Record) → Exactly (ticket.encode_of t).number (ticket.encode_of t).entry (Answers (rule 22 (listed (kind_of t.typ t.revision).layout) ∷ fit_rules (kind_of t.typ t.revision).layout t.values))
      × ((ticket.encode_of t).number ≢ 0 → ((ticket.encode_of t).count ≡ 0) × ((ticket.encode_of t).bytes ≡ []))
  pub decode_ticket : (t r : ℕ) (b : List ℕ)
      → Exactly (ticket.decode_of t r b).number (ticket.decode_of t r b).entry (Answers (rule 22 (listed (kind_of t r).layout) ∷ []))
      × ((ticket.decode_of t r b).number ≢ 0 → (ticket.decode_of t r b).next ≡ record { typ = 0; revision = 0; values = [] })
  pub encode_table : (s : ℕ) (es l : List ℕ) → Exactly (table-call.encode_number s es (length l)) 0 (Answers (table.encode_rules s es (length l)))
      × (table-call.encode_number s es (length l) ≢ 0 → table-call.encode_in s es l ≡ l)
  pub decode_table : (s : ℕ) (b : List ℕ) → Exactly (table-call.decode_of s b).number (table-call.decode_of s b).entry (Answers (table.decode_rules s (length b)))
      × ((table-call.decode_of s b).number ≢ 0 → ((table-call.decode_of s b).count ≡ 0) × ((table-call.decode_of s b).elements ≡ replicate 252 0))
  pub date-of : (s : ℕ) → Exactly (date_of s).number (date_of s).entry (Answers (rule 30 (s ≤? 16383) ∷ []))
      × ((date_of s).number ≢ 0 → ((date_of s).year ≡ 0) × ((date_of s).month ≡ 0) × ((date_of s).day ≡ 0))
  pub stamp-of : (y m d : ℕ) → (((stamp_of y m d).number ≡ 29) ↔ Unstamped (date y m d)) × ((stamp_of y m d).entry ≡ 0)
      × ((stamp_of y m d).number ≢ 0 → ((stamp_of y m d).number ≡ 29) × ((stamp_of y m d).stamp ≡ 0))

pub record Demand2 : Type 0 where
  -- "A card image is accepted exactly when it obeys the rules of ITSO TS 1000 parts 1, 2 and 5 as document 01 sets them out."
  pub accepted : (c : List ℕ) → (number_of (check_of c) ≡ 0) ↔ Obeys c
  pub sizes : (c : List ℕ) → Obeys c → (132 ≤ length c) × (length c ≤ 60439)
  pub psi : (s : ℕ) → 4 ≤ s → s ≤ 255 → IsPsi s (Ψ s) × ((p : ℕ) → IsPsi s p → p ≡ Ψ s)
  -- T-03: "The eighteen-digit reference ends in CHD, which is the Luhn digit .. over the IIN, the operator number and the serial number"; where its digits stand
  pub check_digit : (c : List ℕ) → Obeys c → luhn (isrn c) % 10 ≡ 0
  pub isrn_read : (c : List ℕ) → (length (isrn c) ≡ 18) × ((i : ℕ) → i < 18 → get_or (isrn c) (17 - i) 0 ≡ digit_at c i)
  -- among sixteen values, whatever the others are, one digit as CHD, value 6, is right
  pub check_digit_once : (vs : List ℕ) → length vs ≡ 16
      → (d : ℕ) × (d ≤ 9) × (luhn (shell.ISRN (set vs 6 d)) % 10 ≡ 0) × ((e : ℕ) → e ≤ 9 → luhn (shell.ISRN (set vs 6 e)) % 10 ≡ 0 → e ≡ d)
  -- "Three batches came back with a mistyped shell number": with one digit another, or two neighbours exchanged but for 0 and 9, and SECR made right again, it is 12
  pub digit_mistyped : (c : List ℕ) (i d : ℕ) → Bytes c → Obeys c → i < 18 → d ≤ 9 → d ≢ digit_at c i
      → (number_of (check_of (mistyped c i d)) ≡ 12) × (entry_of (check_of (mistyped c i d)) ≡ 0)
  pub digits_exchanged : (c : List ℕ) (i : ℕ) → Bytes c → Obeys c → i < 17 → digit_at c i ≢ digit_at c (1 + i)
      → ((digit_at c i ≡ 0) × (digit_at c (1 + i) ≡ 9) → ⊥) → ((digit_at c i ≡ 9) × (digit_at c (1 + i) ≡ 0) → ⊥)
      → (number_of (check_of (exchanged c i)) ≡ 12) × (entry_of (check_of (exchanged c i)) ≡ 0)
  -- "Each field of shell, directory and ticket is read as the value its bits carry there."
  pub check_read : (c : List ℕ) → Obeys c
      → values_of (check_of c) ≡ copy c ∷ dataset c ∷ B c ∷ S c ∷ e# c ∷ SCTL c ∷ Ψ (S c) ∷ directory_at c ∷ table_at c ∷ []
  pub shell_read : (c : List ℕ) → Obeys c → (read_shell c).values ≡ fields (drop 4 c) lists.shell
  pub directory_read : (c : List ℕ) → Obeys c → (read_directory c).values ≡ directory_values c
  pub table_read : (c : List ℕ) → Obeys c → ((read_table c).count ≡ S c - 3) × (length (read_table c).elements ≡ 252)
      × ((i : ℕ) → i < S c - 3 → get_or (read_table c).elements i 0 ≡ element c (1 + i)) × ((i : ℕ) → S c - 3 ≤ i → get_or (read_table c).elements i 0 ≡ 0)
  pub entry_read : (c : List ℕ) (j : ℕ) → (read_entry c j).number ≡ 0 → (read_entry c j).values ≡ entry_values c j
  -- a product's sectors are those of its chain, of which there is one, so that their count is the chain's length
  pub chain_is : (c : List ℕ) (j : ℕ) → Obeys c → IsProduct c j → Chain (element c) (S c) j (sectors c j) (mark c j)
      × ((ss : List ℕ) (m : ℕ) → Chain (element c) (S c) j ss m → (ss ≡ sectors c j) × (m ≡ mark c j)) × (length (product c j) ≡ length (sectors c j) * B c)
  pub chain_read : (c : List ℕ) (j : ℕ) → (read_chain c j).number ≡ 0 → ((read_chain c j).mark ≡ mark c j) × ((read_chain c j).count ≡ length (sectors c j))
      × ((read_chain c j).sectors ≡ sectors c j ++ replicate (252 - length (sectors c j)) 0)
  pub ticket_read : (c : List ℕ) (j room : ℕ) → (read_ticket c j room).number ≡ 0
      → ((read_ticket c j room).typ ≡ (product_at c j).typ) × ((read_ticket c j room).header ≡ fields (product c j) lists.head)
      × ((read_ticket c j room).values ≡ fields (product c j) (list_of (kind_at c j).layout))
      × ((read_ticket c j room).end ≡ ticket_end c j) × ((read_ticket c j room).mark ≡ mark c j) × ((read_ticket c j room).sectors ≡ length (sectors c j))
  -- the kinds on the lists, T-02: "TYP 22 format revisions 1, 2 and 3", and TYP 23 format revision 2; "each with its own list of field places and widths"
  pub kinds : (t r : ℕ) → Means (listed (kind_of t r).layout) ↔ (((t ≡ 23) × (r ≡ 2)) ⊎ ((t ≡ 22) × (1 ≤ r) × (r ≤ 3)))
  pub kind_lists : (list_of (kind_of 23 2).layout ≡ lists.typ23) × (list_of (kind_of 22 1).layout ≡ lists.typ22r1)
      × (list_of (kind_of 22 2).layout ≡ lists.typ22r2) × (list_of (kind_of 22 3).layout ≡ lists.typ22r3)
  -- and of each kind the numbers of ExpiryTime and RemoveDate among its fields
  pub kind_fields : ((kind_of 23 2).expiry ≡ 9) × ((kind_of 22 1).expiry ≡ 7) × ((kind_of 22 2).expiry ≡ 7) × ((kind_of 22 3).expiry ≡ 7)
      × ((kind_of 23 2).remove ≡ 1) × ((kind_of 22 1).remove ≡ 1) × ((kind_of 22 2).remove ≡ 1) × ((kind_of 22 3).remove ≡ 1)
  -- the end of a ticket, T-01: "now at most 23,595,007", and there is a card whose ticket ends then
  pub ticket-end : ((c : List ℕ) (j room : ℕ) → (read_ticket c j room).end ≤ 23595007) × ((c : List ℕ) × Bytes c × ((read_ticket c 1 (length (product c 1))).end ≡ 23595007))
  pub buffer-read : (c : List ℕ) (j : ℕ) (b : List ℕ) → (read_ticket c j (length b)).number ≡ 0 → buffer_after c j b ≡ product c j ++ drop (length (product c j)) b
  pub fill_read : (c : List ℕ) (j room : ℕ) → (fill_of c j room).number ≡ 0 → ((fill_of c j room).from ≡ rest_of (kind_at c j).layout) × ((fill_of c j room).end ≡ extent c j)
  pub rest_read : (c : List ℕ) (j room : ℕ) → (read_ticket c j room).number ≡ 0
      → (rest c j room ≡ take (extent c j - rest_of (kind_at c j).layout) (drop (rest_of (kind_at c j).layout) (product c j)))
      × (rest_at c j room ≡ rest_of (kind_at c j).layout) × (length (rest c j room) ≡ extent c j - rest_of (kind_at c j).layout)
  -- "an empty part alone no longer means" a refusal: the two calls agree by number, and there is a card where the part is empty though the read is taken
  pub rest_agrees : (c : List ℕ) (j room : ℕ) → ((fill_of c j room).number ≡ (read_ticket c j room).number) × ((fill_of c j room).entry ≡ (read_ticket c j room).entry)
      × (rest c j room ≢ [] → (read_ticket c j room).number ≡ 0)
  pub rest_empty : (c : List ℕ) × Bytes c × ((read_ticket c 1 (length (product c 1))).number ≡ 0) × (rest c 1 (length (product c 1)) ≡ [])
  -- the decoders, and the dates
  pub shell_decoded : (b : List ℕ) → (shell-call.decode_of b).values ≡ fields b lists.shell
  pub directory_decoded : (b : List ℕ) → ((entry_in b).values ≡ fields b lists.entry) × ((head_in b).values ≡ fields b lists.head) × ((tail_in b).values ≡ fields b lists.tail)
  pub header_decoded : (b : List ℕ) → (header_in b).values ≡ fields b lists.head
  pub record_decoded : (t r : ℕ) (b : List ℕ) → (ticket.decode_of t r b).number ≡ 0 → (ticket.decode_of t r b).next ≡ record { typ = t; revision = r; values = fields (0 ∷ 0 ∷ b) (list_of (kind_of t r).layout) }
  pub table_decoded : (s : ℕ) (b : List ℕ) → (table-call.decode_of s b).number ≡ 0 → ((table-call.decode_of s b).count ≡ s - 3)
      × ((table-call.decode_of s b).elements ≡ fields b (table.element_places s) ++ replicate (252 - (s - 3)) 0)
  pub date_read : (s : ℕ) → s ≤ 16383 → date_of s ≡ dated 0 (stamp_date s)
  -- "What was read encodes to the same bits."
  pub shell_same : (c l : List ℕ) → Bytes c → Obeys c → dataset c ≤ length l → (shell-call.encode_number (read_shell c).values (length l) ≡ 0)
      × (shell-call.encode_in (read_shell c).values l ≡ take (dataset c) (drop 4 c) ++ drop (dataset c) l)
  pub head_same : (c : List ℕ) → Bytes c → Obeys c
      → head_bytes (take 3 (read_directory c).values) ≡ record { number = 0; entry = 0; bytes = take 2 (drop (directory_at c) c) }
  pub tail_same : (c : List ℕ) → Bytes c → Obeys c
      → tail_bytes (drop 3 (read_directory c).values) ≡ record { number = 0; entry = 0; bytes = take 6 (drop (table_at c + SCTL c) c) }
  pub table_same : (c l : List ℕ) → Bytes c → Obeys c → length l ≡ SCTL c
      → (table-call.encode_number (S c) (take (S c - 3) (read_table c).elements) (length l) ≡ 0)
      × (table-call.encode_in (S c) (take (S c - 3) (read_table c).elements) l ≡ take (SCTL c) (drop (table_at c) c))
  pub entry_same : (c : List ℕ) (j : ℕ) → Bytes c → (read_entry c j).number ≡ 0
      → entry_bytes (read_entry c j).values ≡ record { number = 0; entry = 0; bytes = take 5 (drop (entry_at c j) c) }
  pub header_same : (c : List ℕ) (j room : ℕ) → Bytes c → (read_ticket c j room).number ≡ 0
      → header_bytes (read_ticket c j room).header ≡ record { number = 0; entry = 0; bytes = take 2 (product c j) }
  pub ticket_same : (c : List ℕ) (j room : ℕ) → Bytes c → (read_ticket c j room).number ≡ 0
      → ticket.encode_of (record { typ = (read_ticket c j room).typ; revision = get_or (read_ticket c j room).header 2 0; values = (read_ticket c j room).values })
      ≡ record { number = 0; entry = 0; count = rest_of (kind_at c j).layout - 2; bytes = take (rest_of (kind_at c j).layout - 2) (drop 2 (product c j)) }
  pub date_same : (s : ℕ) → s ≤ 16383
      → ((stamp_of (date_of s).year (date_of s).month (date_of s).day).number ≡ 0) × ((stamp_of (date_of s).year (date_of s).month (date_of s).day).stamp ≡ s)
  -- what an encoder writes, and document 01: "Decoding what these wrote .. gives the values back"
  pub shell_written : (vs l : List ℕ) → shell-call.encode_number vs (length l) ≡ 0
      → (shell-call.encode_in vs l ≡ shell.encoded_shell vs ++ drop (shell.dataset_of vs) l) × ((shell-call.decode_of (take 20 (shell-call.encode_in vs l))).values ≡ vs)
  pub entry_written : (vs : List ℕ) → (entry_bytes vs).number ≡ 0
      → ((entry_bytes vs).bytes ≡ stores (replicate 5 0) lists.entry vs) × ((entry_in (entry_bytes vs).bytes).values ≡ vs)
  pub head_written : (vs : List ℕ) → (head_bytes vs).number ≡ 0
      → ((head_bytes vs).bytes ≡ stores (replicate 2 0) lists.head vs) × ((head_in (head_bytes vs).bytes).values ≡ vs)
  pub tail_written : (vs : List ℕ) → (tail_bytes vs).number ≡ 0
      → ((tail_bytes vs).bytes ≡ stores (replicate 6 0) lists.tail vs) × ((tail_in (tail_bytes vs).bytes).values ≡ vs)
  pub header_written : (vs : List ℕ) → (header_bytes vs).number ≡ 0
      → ((header_bytes vs).bytes ≡ stores (replicate 2 0) lists.head vs) × ((header_in (header_bytes vs).bytes).values ≡ vs)
  pub ticket_written : (t : Record) → (ticket.encode_of t).number ≡ 0
      → ((ticket.encode_of t).count ≡ rest_of (kind_of t.typ t.revision).layout - 2)
      × ((ticket.encode_of t).bytes ≡ drop 2 (stores (replicate (rest_of (kind_of t.typ t.revision).layout) 0) (list_of (kind_of t.typ t.revision).layout) t.values))
      × (ticket.decode_of t.typ t.revision (ticket.encode_of t).bytes ≡ record { number = 0; entry = 0; next = t })
  pub table_written : (s : ℕ) (es l : List ℕ) → table-call.encode_number s es (length l) ≡ 0
      → (table-call.encode_in s es l ≡ stores (replicate (length l) 0) (table.element_places s) es)
      × (table-call.decode_of s (table-call.encode_in s es l) ≡ record { number = 0; entry = 0; count = s - 3; elements = es ++ replicate (252 - (s - 3)) 0 })
  pub stamp_written : (y m d : ℕ) → (stamp_of y m d).number ≡ 0 → ((stamp_of y m d).stamp ≤ 16383) × (stamp_date (stamp_of y m d).stamp ≡ date y m d)
  pub value_set : (t : Record) (n v : ℕ) → (set_of t n v).number ≡ 0 → (set_of t n v).next ≡ record { typ = t.typ; revision = t.revision; values = set t.values (n - 1) v }
  pub value_read : (t : Record) (n : ℕ) → (value_of t n).number ≡ 0 → (value_of t n).value ≡ get_or t.values (n - 1) 0
  -- "A ticket record that fits its fields, once a write of it has been taken, is read again as it was, given a buffer that holds its product."
  pub record_again : (c : List ℕ) (j t r : ℕ) (vs : List ℕ) (room : ℕ) → Bytes c → (answer c (write_all j t r vs)).number ≡ 0 → length (product c j) ≤ room
      → ((read_ticket (next c (write_all j t r vs)) j room).number ≡ 0) × ((read_ticket (next c (write_all j t r vs)) j room).typ ≡ t)
      × (get_or (read_ticket (next c (write_all j t r vs)) j room).header 2 0 ≡ r) × ((read_ticket (next c (write_all j t r vs)) j room).values ≡ vs)
  -- and a field write likewise: the new value there, the others as they were
  pub field_again : (c : List ℕ) (j n v room : ℕ) → Bytes c → (answer c (write j n v)).number ≡ 0 → length (product c j) ≤ room
      → ((read_ticket (next c (write j n v)) j room).number ≡ 0)
      × ((read_ticket (next c (write j n v)) j room).values ≡ set (fields (product c j) (list_of (kind_at c j).layout)) (n - 1) v)
  -- what a taken step stores; that the same step again is taken and changes nothing; the mark that is read then
  pub stored : (c : List ℕ) (s : Step) → (answer c s).number ≡ 0
      → next c s ≡ stores c (target (product_at c (owner s)) s) (new_values (product_at c (owner s)) s)
  pub again : (c : List ℕ) (s : Step) → Bytes c → (answer c s).number ≡ 0 → ((answer (next c s) s).number ≡ 0) × (next (next c s) s ≡ next c s)
  pub mark-again : (c : List ℕ) (j m : ℕ) → Bytes c → (answer c (set_mark j m)).number ≡ 0 → mark (next c (set_mark j m)) j ≡ m
  pub mark_already : (c : List ℕ) (j m : ℕ) → Bytes c → Obeys c → IsProduct c j → 1 ≤ m → m ≤ 2 → mark c j ≡ m
      → ((answer c (set_mark j m)).number ≡ 0) × (next c (set_mark j m) ≡ c)
  -- "No step alters a bit outside its ticket's chain and that chain's own last table element."
  pub frame : (c : List ℕ) (s : Step) → Bytes c → (length (next c s) ≡ length c)
      × ((i : ℕ) → ((k : ℕ) → In k (sectors c (owner s)) → Outside (8 * sector_at c k) (8 * B c) i)
      → Outside (element_at c (last_of (sectors c (owner s)))) (Ψ (S c)) i → bit (next c s) i ≡ bit c i)
  -- and a record write none outside its list, bits 16 of the product up to the list's end
  pub record-frame : (c : List ℕ) (j t r : ℕ) (vs : List ℕ) → Bytes c
      → (i : ℕ) → Outside (8 * sector_at c j + 16) (bit_after (kind_at c j).layout - 16) i → bit (next c (write_all j t r vs)) i ≡ bit c i
  -- so the image stays acceptable, with its shell and its products, each with its sectors; every other product keeps its bytes and its mark
  pub stays : (c : List ℕ) (s : Step) → Bytes c → Obeys c → Obeys (next c s) × (shell_values (next c s) ≡ shell_values c)
      × ((j : ℕ) → IsProduct c j ↔ IsProduct (next c s) j) × ((j : ℕ) → IsProduct c j → sectors (next c s) j ≡ sectors c j)
      × ((j : ℕ) → IsProduct c j → owner s ≢ j → (product (next c s) j ≡ product c j) × (mark (next c s) j ≡ mark c j))
  -- "Seals belong to the security module and stay opaque here": from DIRS# to the end of the directory sector no step alters a bit
  pub seals : (c : List ℕ) (s : Step) → Bytes c → Obeys c
      → (i : ℕ) → 8 * (table_at c + SCTL c) ≤ i → i < 8 * (directory_at c + B c) → bit (next c s) i ≡ bit c i
  -- document 01, "How tight": "a library that refuses everything", "one that does nothing": there are cards that are accepted, read, written and marked
  pub some_sizes : ((c : List ℕ) × Bytes c × Obeys c × (length c ≡ 132)) × ((c : List ℕ) × Bytes c × Obeys c × (length c ≡ 60439))
  pub some_steps : (c : List ℕ) × Bytes c × ((read_ticket c 1 (length (product c 1))).number ≡ 0) × ((answer c (write 1 17 250)).number ≡ 0) × (next c (write 1 17 250) ≢ c)
      × ((answer c (set_mark 1 2)).number ≡ 0) × (next c (set_mark 1 2) ≢ c) × ((answer c (write_all 1 23 2 (replicate (count_of (kind_of 23 2).layout) 0))).number ≡ 0)
  -- and of each kind: a card whose ticket is read, and written as a record
  pub some_kinds : (k : Kind) → (c : List ℕ) × Bytes c × ((read_ticket c 1 (length (product c 1))).number ≡ 0) × ((read_ticket c 1 (length (product c 1))).typ ≡ (row_of k).typ)
      × ((answer c (write_all 1 (row_of k).typ (row_of k).revision (replicate (count_of (row_of k).layout) 0))).number ≡ 0)
  -- "Published CRC values" (Annex A's three, and ISO 13239's check value); "an independent second program" is tests/second
  pub crc_published : (crc (0 ∷ 0 ∷ 0 ∷ []) ≡ 0xC6CC) × (crc (0x0F ∷ 0xAA ∷ 0xFF ∷ []) ≡ 0xD1FC) × (crc (0x0A ∷ 0x12 ∷ 0x34 ∷ 0x56 ∷ []) ≡ 0xF62C)
      × (crc (0x31 ∷ 0x32 ∷ 0x33 ∷ 0x34 ∷ 0x35 ∷ 0x36 ∷ 0x37 ∷ 0x38 ∷ 0x39 ∷ []) ≡ 0x906E)
  -- T-02: "That a field read is the field written is proved once over any such list, and each list brings only its own test that fields meet end to end"
  pub list_once : (a : ℕ) (ps : List Span) (e : ℕ) → Meets a ps e → (l vs : List ℕ) → e ≤ 8 * length l → Means (fit ps vs) → fields (stores l ps vs) ps ≡ vs
  pub lists_meet : (k : Kind) → Meets 16 (list_of (row_of k).layout) (bit_after (row_of k).layout)
  -- "Field reading is proved once over place and width"
  pub field_once : (l : List ℕ) (p w : ℕ) → (field l p w < 2 ^ w) × ((j : ℕ) → j < w → digit (field l p w) w j ≡ bit l (p + j)) × (Bytes l → store l p w (field l p w) ≡ l)
      × ((v : ℕ) → p + w ≤ 8 * length l → v < 2 ^ w → field (store l p w v) p w ≡ v)

pub record Demand3 : Type 0 where
  -- "Take any number of jobs, each a list of field writes, record writes and marks on one product, no two jobs on the same product. Mix their steps in any order .."
  pub mixed : (c : List ℕ) → Bytes c → (js : List (Job Step)) → Separate owner js → (m : List Step) → Mix (jobs.lists js) m → Serves c js m
  -- "Refused steps count, and a job goes on after one": a refused step has its answer in the log, and the steps after it find the image as it was
  pub goes_on : (c : List ℕ) (s : Step) (m : List Step) → (answer c s).number ≢ 0
      → (log card_steps c (s ∷ m) ≡ (s, answer c s) ∷ log card_steps c m) × (end card_steps c (s ∷ m) ≡ end card_steps c m)
  -- "I could not tell the operator which tickets we had touched": flag j - 1 is 1 exactly where entry j's bits, sectors, mark or bytes differ; steps touch those they name
  pub touched : (c d f : List ℕ) → (touched_answer c d (length f)).number ≡ 0 → (length (touched_flags c d f) ≡ e# c)
      × ((j : ℕ) → 1 ≤ j → j ≤ e# c → (get_or (touched_flags c d f) (j - 1) 0 ≤ 1) × ((get_or (touched_flags c d f) (j - 1) 0 ≡ 1) ↔ Touched c d j))
  pub touches : (c : List ℕ) (s : Step) → Bytes c → next c s ≢ c → Touched c (next c s) (owner s)
  pub touched-named : (c : List ℕ) (j : ℕ) (m : List Step) → Bytes c → Touched c (end card_steps c m) j → Named j c m
