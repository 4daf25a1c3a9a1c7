-- An annex: a card with copy B in force; and a ticket of two sectors, read, written, read again, blocked, read again: each over the definitions that the contracts
-- cite. Assumes nothing.
use Rattle.std.specs.Prelude.{◌≡◌, List, [], ◌∷◌, ℕ, replicate}
use Rattle.image.specs.Image.{sectors, mark, product}
use Rattle.rules.specs.Answer.{says}
use Rattle.image.specs.Verdict.{verdict}
use Rattle.reads.specs.Ticket.{read_ticket, rest}
use Rattle.reads.specs.declared.TicketRead.{TicketRead}
use Rattle.steps.specs.Step.{write, set_mark}
use Rattle.steps.specs.Steps.{answer, next}
use Rattle.worked.specs.Cards.{copies, ticket_card}

-- the card with the ticket in use, its ExpiryTime 600; once that is 1,439; and once it is blocked
abbrev pub used : List ℕ
used = ticket_card 0x42 0x58 0x80

abbrev pub written : List ℕ
written = next used (write 1 9 1439)

abbrev pub blocked : List ℕ
blocked = next written (set_mark 1 2)

-- what is read where ExpiryTime is `time`: taken, TYP 23, the header, the twenty-two values, the end (the entry's EXP is 10,000), the mark, two sectors
abbrev pub ticket : ℕ → ℕ → ℕ → TicketRead
ticket time end mark =
    record {
      number = 0;
      entry = 0;
      typ = 23;
      header = 16 ∷ 0 ∷ 2 ∷ [];
      values = 30 ∷ 513 ∷ 5 ∷ 1 ∷ 15 ∷ 2 ∷ 9999 ∷ 8 ∷ time ∷ 10 ∷ 3 ∷ 2 ∷ 1 ∷ 4 ∷ 9 ∷ 6 ∷ 100000 ∷ 3 ∷ 2000 ∷ 123456789 ∷ 21 ∷ 4660 ∷ [];
      end = end;
      mark = mark;
      sectors = 2;
    }

pub record Told : Type 0 where
  -- copy B in force, 32 F0 and zeros: accepted, chain 1, 3 used and chain 2 fresh; by copy A, 33 F0 and zeros, it is number 11, entry 2
  pub copy_B : verdict (copies 1 0xF0) ≡ says 0 0
  pub copy_A : verdict (copies 0 0xF0) ≡ says 11 2
  pub chain_1 : (sectors (copies 1 0xF0) 1 ≡ 1 ∷ 3 ∷ []) × (mark (copies 1 0xF0) 1 ≡ 1)
  pub chain_2 : (sectors (copies 1 0xF0) 2 ≡ 2 ∷ []) × (mark (copies 1 0xF0) 2 ≡ 0)
  -- blocking entry 1 stores in copy B alone
  pub block-B : (answer (copies 1 0xF0) (set_mark 1 2) ≡ says 0 0) × (next (copies 1 0xF0) (set_mark 1 2) ≡ copies 1 0xE0)
  -- the ticket of entry 1, in sectors 1 and 3, and its bytes from 29 on
  pub accepted : (verdict used ≡ says 0 0) × (sectors used 1 ≡ 1 ∷ 3 ∷ [])
  pub read : read_ticket used 1 64 ≡ ticket 600 14400600 1
  pub read_rest : rest used 1 64 ≡ 0xAA ∷ 0xBB ∷ 0xCC ∷ replicate 32 0x33
  -- a field write taken; read again
  pub write_taken : (answer used (write 1 9 1439) ≡ says 0 0) × (written ≡ ticket_card 0x45 0x9F 0x80)
  pub read_again : read_ticket written 1 64 ≡ ticket 1439 14401439 1
  -- blocked; read again, and not written any more
  pub block_taken : (answer written (set_mark 1 2) ≡ says 0 0) × (blocked ≡ ticket_card 0x45 0x9F 0x00)
  pub read_blocked : read_ticket blocked 1 64 ≡ ticket 1439 14401439 2
  pub write_refused : (answer blocked (write 1 9 600) ≡ says 27 1) × (next blocked (write 1 9 600) ≡ blocked)
  -- the card is still accepted, and entry 2 is as it was
  pub still : (verdict blocked ≡ says 0 0) × (product blocked 2 ≡ product used 2) × (mark blocked 2 ≡ 0)
