-- An annex: Document 01, "Examples by hand": those marked P, in its order, over the definitions that the contracts cite. Assumes nothing.
use Rattle.std.specs.Prelude.{◌≡◌, [], ◌∷◌, ℕ, ◌-◌}
use Rattle.dates.specs.Calendar.{date, dated, date_of, stamped, stamp_of}
use Rattle.directory.specs.Records.{entry_bytes}
use Rattle.ticket.specs.Ticket.{header_bytes, record_of, encode_of, encoded}
use Rattle.ticket.specs.declared.Record.{Record}
use Rattle.image.specs.Image.{sectors, mark}
use Rattle.rules.specs.Answer.{says}
use Rattle.image.specs.Verdict.{verdict}
use Rattle.steps.specs.Step.{set_mark}
use Rattle.steps.specs.Steps.{answer, next}
use Rattle.worked.specs.Cards.{card}
use Rattle.worked.specs.Pinned.{among, ticket_bytes}

-- the ticket whose fields n and n + 1 hold a and b, and the other twenty 0
abbrev pub holding : ℕ → ℕ → ℕ → Record
holding n a b = record_of 23 2 (among 22 (n - 1) (a ∷ b ∷ []))

pub record Worked : Type 0 where
  -- entry EF 0, OID 1, TYP 23, PTYP 1, VGP 0, IINL 0, EXP 1 is 00 06 E1 00 01
  pub entry : entry_bytes (0 ∷ 1 ∷ 23 ∷ 1 ∷ 0 ∷ 0 ∷ 1 ∷ []) ≡ record { number = 0; entry = 0; bytes = 0x00 ∷ 0x06 ∷ 0xE1 ∷ 0x00 ∷ 0x01 ∷ [] }
  -- header length 8, map 0, revision 2 is 20 02
  pub header : header_bytes (8 ∷ 0 ∷ 2 ∷ []) ≡ record { number = 0; entry = 0; bytes = 0x20 ∷ 0x02 ∷ [] }
  -- ValidityCode 0, ExpiryTime 1,439 is 05 9F
  pub last_minute : encode_of (holding 8 0 1439) ≡ encoded 0 (ticket_bytes 27 9 (0x05 ∷ 0x9F ∷ []))
  -- ValidityCode 31, ExpiryTime 0 is F8 00
  pub validity : encode_of (holding 8 31 0) ≡ encoded 0 (ticket_bytes 27 9 (0xF8 ∷ 0x00 ∷ []))
  -- payment 3, VAT 2,000 is 37 D0
  pub payment : encode_of (holding 18 3 2000) ≡ encoded 0 (ticket_bytes 27 20 (0x37 ∷ 0xD0 ∷ []))
  -- stamps 1, 16,383 and 0 are 2 January 1997, 9 and 10 November 2041
  pub stamp_1 : date_of 1 ≡ dated 0 (date 1997 1 2)
  pub stamp_16383 : date_of 16383 ≡ dated 0 (date 2041 11 9)
  pub stamp_0 : date_of 0 ≡ dated 0 (date 2041 11 10)
  -- 29 February 2000 is 1,154
  pub leap-day : stamp_of 2000 2 29 ≡ stamped 0 1154
  -- table 32 F0 00 00 00 00 00 has chain 1, 3 used and chain 2 fresh
  pub accepted : verdict (card 0x32 0xF0) ≡ says 0 0
  pub used : (sectors (card 0x32 0xF0) 1 ≡ 1 ∷ 3 ∷ []) × (mark (card 0x32 0xF0) 1 ≡ 1)
  pub fresh : (sectors (card 0x32 0xF0) 2 ≡ 2 ∷ []) × (mark (card 0x32 0xF0) 2 ≡ 0)
  -- blocking entry 1 makes it 32 E0 and zeros
  pub blocking : (answer (card 0x32 0xF0) (set_mark 1 2) ≡ says 0 0) × (next (card 0x32 0xF0) (set_mark 1 2) ≡ card 0x32 0xE0)
  -- 33 F0 and zeros is number 11, entry 2
  pub shared : verdict (card 0x33 0xF0) ≡ says 11 2
  -- 32 10 and zeros is number 10, entry 1
  pub broken : verdict (card 0x32 0x10) ≡ says 10 1
