-- Both sides of every line compute to the same; a read after a step is the read of the card that the step made. Assumes nothing.
use mathlib.Core.Path.{◌≡◌, refl, sym, ap, ◌∙◌}
use mathlib.Core.Logic.{◌≢◌}
use mathlib.Core.List.{List}
use Prim.Native.Nat.{ℕ}
use native.Mathlib.Omega.{arith}
use lib.ListN.{length, get_or, replicate}
use Rattle.bits.specs.Bits.{Bytes}
use Rattle.bits.proofs.Laws.{below, below-bytes}
use Rattle.image.specs.Image.{mark, product}
use Rattle.rules.specs.Answer.{says}
use Rattle.image.specs.Verdict.{verdict}
use Rattle.reads.specs.Ticket.{read_ticket, rest}
use Rattle.steps.specs.Step.{write, write_all, set_mark}
use Rattle.steps.specs.Steps.{answer, next}
use Rattle.worked.specs.Cards.{shell_start, shell_sector, directory, copies, two_tickets, ticket_card}
use Rattle.worked.specs.Told.{used, written, blocked, ticket, Told}
use Rattle.worked.proofs.Cards.{look, act}

-- the two steps, each from the card as the one before left it
written_is : written ≡ ticket_card 0x45 0x9F 0x80
unfolding act ticket_card two_tickets shell_start
written_is = refl

block_written : next (ticket_card 0x45 0x9F 0x80) (set_mark 1 2) ≡ ticket_card 0x45 0x9F 0x00
unfolding act ticket_card two_tickets shell_start
block_written = refl

blocked-is : blocked ≡ ticket_card 0x45 0x9F 0x00
blocked-is = ap (λ c. next c (set_mark 1 2)) written_is ∙ block_written

-- a write is refused then, and changes nothing
write-blocked : next (ticket_card 0x45 0x9F 0x00) (write 1 9 600) ≡ ticket_card 0x45 0x9F 0x00
unfolding act ticket_card two_tickets shell_start
write-blocked = refl

-- what is read of each card
reads : (read_ticket used 1 64 ≡ ticket 600 14400600 1) × (read_ticket (ticket_card 0x45 0x9F 0x80) 1 64 ≡ ticket 1439 14401439 1)
    × (read_ticket (ticket_card 0x45 0x9F 0x00) 1 64 ≡ ticket 1439 14401439 2)
unfolding look ticket_card two_tickets shell_start
reads = (refl, refl, refl)

-- and what a step is answered
answers : (answer used (write 1 9 1439) ≡ says 0 0) × (answer (ticket_card 0x45 0x9F 0x80) (set_mark 1 2) ≡ says 0 0)
    × (answer (ticket_card 0x45 0x9F 0x00) (write 1 9 600) ≡ says 27 1)
unfolding act ticket_card two_tickets shell_start
answers = (refl, refl, refl)

block-B : (answer (copies 1 0xF0) (set_mark 1 2) ≡ says 0 0) × (next (copies 1 0xF0) (set_mark 1 2) ≡ copies 1 0xE0)
unfolding act copies shell_sector shell_start directory
block-B = (refl, refl)

stays : (verdict (ticket_card 0x45 0x9F 0x00) ≡ says 0 0) × (product (ticket_card 0x45 0x9F 0x00) 2 ≡ product used 2) × (mark (ticket_card 0x45 0x9F 0x00) 2 ≡ 0)
unfolding look ticket_card two_tickets shell_start
stays = (refl, refl, refl)

pub told : Told
unfolding look rest copies ticket_card two_tickets shell_sector shell_start directory
told = record {
  copy_B = refl;
  copy_A = refl;
  chain_1 = (refl, refl);
  chain_2 = (refl, refl);
  block-B = block-B;
  accepted = (refl, refl);
  read = reads.0;
  read_rest = refl;
  write_taken = (answers.0, written_is);
  read_again = ap (λ c. read_ticket c 1 64) written_is ∙ reads.1;
  block_taken = (ap (λ c. answer c (set_mark 1 2)) written_is ∙ answers.1, blocked-is);
  read_blocked = ap (λ c. read_ticket c 1 64) blocked-is ∙ reads.2;
  write_refused = (ap (λ c. answer c (write 1 9 600)) blocked-is ∙ answers.2, ap (λ c. next c (write 1 9 600)) blocked-is ∙ (write-blocked ∙ sym blocked-is));
  still = (ap verdict blocked-is ∙ stays.0, ap (λ c. product c 2) blocked-is ∙ stays.1, ap (λ c. mark c 2) blocked-is ∙ stays.2);
}

-- ---- the card in use, for a library that refuses everything and one that does nothing: it is read, written and marked, and a write and a mark alter it

used-bytes : Bytes used
unfolding below ticket_card two_tickets shell_start
used-bytes = below-bytes used tt

used-read : (read_ticket used 1 (length (product used 1))).number ≡ 0
unfolding look ticket_card two_tickets shell_start
used-read = refl

pub used-typ : (read_ticket used 1 (length (product used 1))).typ ≡ 23
unfolding look ticket_card two_tickets shell_start
used-typ = refl

used-answers : ((answer used (write 1 17 250)).number ≡ 0) × ((answer used (set_mark 1 2)).number ≡ 0) × ((answer used (write_all 1 23 2 (replicate 22 0))).number ≡ 0)
unfolding act ticket_card two_tickets shell_start
used-answers = (refl, refl, refl)

-- the last byte of the field, and the table's second
used-stored : (get_or (next used (write 1 17 250)) 55 0 ≡ 250) × (get_or (next used (set_mark 1 2)) 145 0 ≡ 0)
unfolding act ticket_card two_tickets shell_start
used-stored = (refl, refl)

used-before : (get_or used 55 0 ≡ 160) × (get_or used 145 0 ≡ 128)
unfolding ticket_card two_tickets shell_start
used-before = (refl, refl)

pub used-steps : Bytes used × ((read_ticket used 1 (length (product used 1))).number ≡ 0) × ((answer used (write 1 17 250)).number ≡ 0) × (next used (write 1 17 250) ≢ used)
    × ((answer used (set_mark 1 2)).number ≡ 0) × (next used (set_mark 1 2) ≢ used) × ((answer used (write_all 1 23 2 (replicate 22 0))).number ≡ 0)
used-steps = (
  used-bytes,
  used-read,
  used-answers.0,
  (λ e. omega (arith, used-stored.0, used-before.0, ap (λ (l : List ℕ). get_or l 55 0) e)),
  used-answers.1,
  (λ e. omega (arith, used-stored.1, used-before.1, ap (λ (l : List ℕ). get_or l 145 0) e)),
  used-answers.2,
)
