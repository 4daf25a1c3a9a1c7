-- An annex: night tickets (document 02, T-01): two tickets that end on the day after their expiry date, read, written and read again, over the definitions that
-- the contracts cite. Assumes nothing.
use Rattle.std.specs.Prelude.{◌≡◌, List, [], ◌∷◌, ℕ}
use Rattle.rules.specs.Answer.{says}
use Rattle.ticket.specs.Ticket.{record_of, encode_of, encoded, set_of, changed}
use Rattle.ticket.specs.declared.Record.{Record}
use Rattle.reads.specs.Ticket.{read_ticket}
use Rattle.reads.specs.declared.TicketRead.{TicketRead}
use Rattle.steps.specs.Step.{write, write_all}
use Rattle.steps.specs.Steps.{answer, next}
use Rattle.worked.specs.Cards.{night_card}
use Rattle.worked.specs.Pinned.{among, ticket_bytes}

-- EXP 0, day 16,384, and ExpiryTime 2,047: the latest end there is; and EXP 1, ExpiryTime 1,440: midnight at the end of that day
abbrev pub latest : List ℕ
latest = night_card 0 0x07 0xFF 0

abbrev pub midnight : List ℕ
midnight = night_card 1 0x05 0xA0 0

-- a ticket of which ExpiryTime is `time`, AmountPaid `paid` and the others 0; its record, with nothing paid; and what is read of it
abbrev pub night_values : ℕ → ℕ → List ℕ
night_values time paid = among 22 8 (time ∷ 0 ∷ 0 ∷ 0 ∷ 0 ∷ 0 ∷ 0 ∷ 0 ∷ paid ∷ [])

abbrev pub night_record : ℕ → Record
night_record time = record_of 23 2 (night_values time 0)

abbrev pub night_ticket : ℕ → ℕ → ℕ → TicketRead
night_ticket time paid end = record { number = 0; entry = 0; typ = 23; header = 8 ∷ 0 ∷ 2 ∷ []; values = night_values time paid; end = end; mark = 1; sectors = 1 }

pub record Night : Type 0 where
  pub latest_read : read_ticket latest 1 32 ≡ night_ticket 2047 0 23595007
  pub midnight_read : read_ticket midnight 1 32 ≡ night_ticket 1440 0 2880
  -- another field written; read again
  pub latest_paid : (answer latest (write 1 17 250) ≡ says 0 0) × (read_ticket (next latest (write 1 17 250)) 1 32 ≡ night_ticket 2047 250 23595007)
  pub midnight_paid : (answer midnight (write 1 17 250) ≡ says 0 0) × (read_ticket (next midnight (write 1 17 250)) 1 32 ≡ night_ticket 1440 250 2880)
  -- ExpiryTime written, as a field and in a record; read again
  pub latest_written : (answer latest (write 1 9 1440) ≡ says 0 0) × (read_ticket (next latest (write 1 9 1440)) 1 32 ≡ night_ticket 1440 0 23594400)
  pub midnight_written : (answer midnight (write_all 1 23 2 (night_values 2047 0)) ≡ says 0 0) × (read_ticket (next midnight (write_all 1 23 2 (night_values 2047 0))) 1 32 ≡ night_ticket 2047 0 3487)
  -- both encoded, and set in a record apart from an image
  pub records_encoded : (encode_of (night_record 2047) ≡ encoded 0 (ticket_bytes 27 9 (0x07 ∷ 0xFF ∷ []))) × (encode_of (night_record 1440) ≡ encoded 0 (ticket_bytes 27 9 (0x05 ∷ 0xA0 ∷ [])))
  pub records_set : (set_of (night_record 0) 9 2047 ≡ changed 0 (night_record 2047)) × (set_of (night_record 0) 9 1440 ≡ changed 0 (night_record 1440))
  -- 2,048 is too wide: each of the four gives 26
  pub too_wide : (answer latest (write 1 9 2048) ≡ says 26 1) × (answer midnight (write_all 1 23 2 (night_values 2048 0)) ≡ says 26 1)
      × ((encode_of (night_record 2048)).number ≡ 26) × ((set_of (night_record 0) 9 2048).number ≡ 26)
