-- Both sides of every line compute to the same; a read after a step is the read of the card that the step made. Assumes nothing.
use mathlib.Core.Path.{◌≡◌, refl, ap, ◌∙◌}
use lib.ListN.{length}
use Rattle.bits.specs.Bits.{Bytes}
use Rattle.bits.proofs.Laws.{below, below-bytes}
use Rattle.image.specs.Image.{product}
use Rattle.rules.specs.Answer.{says}
use Rattle.fields.specs.Packed.{pack_number}
use Rattle.ticket.specs.Ticket.{set_number, encode_number}
use Rattle.reads.specs.Ticket.{read_ticket}
use Rattle.steps.specs.Step.{write, write_all}
use Rattle.steps.specs.Steps.{answer, next}
use Rattle.worked.specs.Cards.{shell_start, one_ticket, night_card}
use Rattle.worked.specs.Night.{latest, midnight, night_values, night_ticket, Night}
use Rattle.worked.proofs.Cards.{look, act}

-- the card that each step makes
paid : (next latest (write 1 17 250) ≡ night_card 0 0x07 0xFF 250) × (next midnight (write 1 17 250) ≡ night_card 1 0x05 0xA0 250)
unfolding act night_card one_ticket shell_start
paid = (refl, refl)

written : (next latest (write 1 9 1440) ≡ night_card 0 0x05 0xA0 0) × (next midnight (write_all 1 23 2 (night_values 2047 0)) ≡ night_card 1 0x07 0xFF 0)
unfolding act night_card one_ticket shell_start
written = (refl, refl)

-- what is read of each
reads : (read_ticket latest 1 32 ≡ night_ticket 2047 0 23595007) × (read_ticket midnight 1 32 ≡ night_ticket 1440 0 2880)
    × (read_ticket (night_card 0 0x07 0xFF 250) 1 32 ≡ night_ticket 2047 250 23595007) × (read_ticket (night_card 1 0x05 0xA0 250) 1 32 ≡ night_ticket 1440 250 2880)
    × (read_ticket (night_card 0 0x05 0xA0 0) 1 32 ≡ night_ticket 1440 0 23594400) × (read_ticket (night_card 1 0x07 0xFF 0) 1 32 ≡ night_ticket 2047 0 3487)
unfolding look night_card one_ticket shell_start
reads = (refl, refl, refl, refl, refl, refl)

-- and what each step is answered
answers : (answer latest (write 1 17 250) ≡ says 0 0) × (answer midnight (write 1 17 250) ≡ says 0 0)
    × (answer latest (write 1 9 1440) ≡ says 0 0) × (answer midnight (write_all 1 23 2 (night_values 2047 0)) ≡ says 0 0)
    × (answer latest (write 1 9 2048) ≡ says 26 1) × (answer midnight (write_all 1 23 2 (night_values 2048 0)) ≡ says 26 1)
unfolding act night_card one_ticket shell_start
answers = (refl, refl, refl, refl, refl, refl)

pub night : Night
unfolding act encode_number pack_number set_number
night = record {
  latest_read = reads.0;
  midnight_read = reads.1;
  latest_paid = (answers.0, ap (λ c. read_ticket c 1 32) paid.0 ∙ reads.2);
  midnight_paid = (answers.1, ap (λ c. read_ticket c 1 32) paid.1 ∙ reads.3);
  latest_written = (answers.2, ap (λ c. read_ticket c 1 32) written.0 ∙ reads.4);
  midnight_written = (answers.3, ap (λ c. read_ticket c 1 32) written.1 ∙ reads.5);
  records_encoded = (refl, refl);
  records_set = (refl, refl);
  too_wide = (answers.4, answers.5, refl, refl);
}

-- ---- the latest end there is, for the page

latest-bytes : Bytes latest
unfolding below night_card one_ticket shell_start
latest-bytes = below-bytes latest tt

latest_long : length (product latest 1) ≡ 32
unfolding look night_card one_ticket shell_start
latest_long = refl

pub latest-end : Bytes latest × ((read_ticket latest 1 (length (product latest 1))).end ≡ 23595007)
latest-end = (latest-bytes, rw (latest_long, reads.0))
