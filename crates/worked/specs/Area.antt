-- An annex: area tickets (document 02, T-02): a ticket of each of the three revisions of TYP 22, read, written and read again, what is refused of each, and what
-- the revisions do differently; each over the definitions that the contracts cite. Assumes nothing.
use Rattle.std.specs.Prelude.{◌≡◌, List, [], ◌∷◌, ◌++◌, ℕ, ◌-◌, length, drop, replicate}
use Rattle.bits.specs.Bits.{field}
use Rattle.ticket.specs.Ticket.{record_of, encode_of, encoded, set_of, changed}
use Rattle.ticket.specs.declared.Record.{Record}
use Rattle.image.specs.Image.{product}
use Rattle.image.specs.Verdict.{verdict}
use Rattle.rules.specs.Answer.{says}
use Rattle.reads.specs.Ticket.{read_ticket, rest, rest_at}
use Rattle.reads.specs.declared.TicketRead.{TicketRead}
use Rattle.steps.specs.Step.{write, write_all, set_mark}
use Rattle.steps.specs.Steps.{answer, next}
use Rattle.worked.specs.Cards.{one_ticket, area_sector}

-- a ticket of TYP 22: its revision, how many fields it has, its bytes from 13 on that are fields, those after them, and the values of its fields from 12 on
pub record Sample : Type 0 where
  pub revision : ℕ
  pub count : ℕ
  pub own : List ℕ
  pub after : List ℕ
  pub values : List ℕ

abbrev pub first : Sample
first =
    record {
      revision = 1;
      count = 22;
      own = 0x12 ∷ 0x34 ∷ 0x56 ∷ 0x15 ∷ 0x7F ∷ 0x02 ∷ 0x01 ∷ 0x04 ∷ 0x96 ∷ 0x27 ∷ 0x10 ∷ 0x37 ∷ 0xD0 ∷ [];
      after = 0xAA ∷ 0xBB ∷ 0xCC ∷ 0xDD ∷ 0xEE ∷ 0xFF ∷ [];
      values = 1193046 ∷ 21 ∷ 127 ∷ 2 ∷ 1 ∷ 4 ∷ 9 ∷ 6 ∷ 10000 ∷ 3 ∷ 2000 ∷ [];
    }

abbrev pub second : Sample
second =
    record {
      revision = 2;
      count = 22;
      own = 0x12 ∷ 0x34 ∷ 0x56 ∷ 0x15 ∷ 0x7F ∷ 0x02 ∷ 0x01 ∷ 0x04 ∷ 0x96 ∷ 0x00 ∷ 0x01 ∷ 0x86 ∷ 0xA0 ∷ 0x37 ∷ 0xD0 ∷ [];
      after = 0xAA ∷ 0xBB ∷ 0xCC ∷ 0xDD ∷ [];
      values = 1193046 ∷ 21 ∷ 127 ∷ 2 ∷ 1 ∷ 4 ∷ 9 ∷ 6 ∷ 100000 ∷ 3 ∷ 2000 ∷ [];
    }

abbrev pub third : Sample
third =
    record {
      revision = 3;
      count = 25;
      own = 0xA7 ∷ 0x0F ∷ 0x51 ∷ 0x77 ∷ 0x15 ∷ 0x7F ∷ 0x02 ∷ 0x01 ∷ 0x04 ∷ 0x96 ∷ 0x00 ∷ 0x01 ∷ 0x86 ∷ 0xA0 ∷ 0x37 ∷ 0xD0 ∷ [];
      after = 0xAA ∷ 0xBB ∷ 0xCC ∷ [];
      values = 2 ∷ 9999 ∷ 10 ∷ 375 ∷ 21 ∷ 127 ∷ 2 ∷ 1 ∷ 4 ∷ 9 ∷ 6 ∷ 100000 ∷ 3 ∷ 2000 ∷ [];
    }

-- a card of EXP 100 with that ticket: l is 4 × IPELength, r the revision, x the bytes 9 to 11, where ExpiryTime stands
abbrev pub area_card : ℕ → ℕ → List ℕ → Sample → List ℕ
area_card l r x s = one_ticket 0xC1 100 (area_sector l r x (s.own ++ s.after))

-- ExpiryTime 600, and 1,439
abbrev pub at600 : List ℕ
at600 = 0x3D ∷ 0x2C ∷ 0x4C ∷ []

abbrev pub at1439 : List ℕ
at1439 = 0x3E ∷ 0xCF ∷ 0xCC ∷ []

abbrev pub area : Sample → List ℕ
area s = area_card 0x20 s.revision at600 s

abbrev pub later : Sample → List ℕ
later s = area_card 0x20 s.revision at1439 s

-- every field 0; and an IPELength of 7 in place of 8, and of 6
abbrev pub blank : Sample → List ℕ
blank s = one_ticket 0xC1 100 (0x20 ∷ s.revision ∷ replicate (30 - length s.after) 0 ++ s.after)

abbrev pub shorter : Sample → List ℕ
shorter s = area_card 0x1C s.revision at600 s

abbrev pub shortest : Sample → List ℕ
shortest s = area_card 0x18 s.revision at600 s

-- the values where ExpiryTime is `time`, their record, and what is read of them: taken, TYP 22, the header, the values, the end, the mark, one sector
abbrev pub area_values : Sample → ℕ → List ℕ
area_values s time = 30 ∷ 513 ∷ 261 ∷ 1 ∷ 15 ∷ 9999 ∷ time ∷ 1 ∷ 12 ∷ 3 ∷ 8 ∷ s.values

abbrev pub area_record : Sample → ℕ → Record
area_record s time = record_of 22 s.revision (area_values s time)

abbrev pub area_ticket : Sample → ℕ → ℕ → ℕ → TicketRead
area_ticket s blocks time end =
    record { number = 0; entry = 0; typ = 22; header = blocks ∷ 0 ∷ s.revision ∷ []; values = area_values s time; end = end; mark = 1; sectors = 1 }

-- what is read of a ticket refused with n
abbrev pub refused_ticket : ℕ → TicketRead
refused_ticket n = record { number = n; entry = 1; typ = 0; header = 0 ∷ 0 ∷ 0 ∷ []; values = []; end = 0; mark = 0; sectors = 0 }

-- n values that no field holds
abbrev pub wide : ℕ → List ℕ
wide n = replicate n 4294967296

pub record AreaTicket (s : Sample) : Type 0 where
  pub accepted : verdict (area s) ≡ says 0 0
  -- its end is by its own ExpiryTime, from bit 78 on; from bit 77 on, TYP 23's place, there stands 1,324
  pub read : read_ticket (area s) 1 32 ≡ area_ticket s 8 600 144600
  pub places : (field (product (area s) 1) 78 11 ≡ 600) × (field (product (area s) 1) 77 11 ≡ 1324)
  -- the bytes after its fields
  pub read_rest : rest (area s) 1 32 ≡ s.after
  -- ExpiryTime written; read again
  pub write_taken : (answer (area s) (write 1 7 1439) ≡ says 0 0) × (next (area s) (write 1 7 1439) ≡ later s)
  pub read_again : read_ticket (next (area s) (write 1 7 1439)) 1 32 ≡ area_ticket s 8 1439 145439
  -- a record of its kind written over zeros; read again
  pub record_taken : (answer (blank s) (write_all 1 22 s.revision (area_values s 600)) ≡ says 0 0)
      × (next (blank s) (write_all 1 22 s.revision (area_values s 600)) ≡ area s)
  pub record_again : read_ticket (next (blank s) (write_all 1 22 s.revision (area_values s 600))) 1 32 ≡ area_ticket s 8 600 144600
  -- its record apart from an image: encoded, and ExpiryTime set in it
  pub record_encoded : encode_of (area_record s 600) ≡ encoded 0 (drop 2 (area_sector 0x20 s.revision at600 s.own))
  pub record_set : set_of (area_record s 600) 7 1439 ≡ changed 0 (area_record s 1439)
  -- a record with values too wide is 26; one of another kind is 22 before that
  pub too_wide : answer (area s) (write_all 1 22 s.revision (wide s.count)) ≡ says 26 1
  pub other_kind : answer (area s) (write_all 1 23 2 (wide 22)) ≡ says 22 1
  -- and before 23: IPELength 6 is less than any kind has
  pub short : (read_ticket (shortest s) 1 32 ≡ refused_ticket 23) × (answer (shortest s) (write_all 1 22 s.revision (wide s.count)) ≡ says 23 1)
      × (answer (shortest s) (write_all 1 23 2 (wide 22)) ≡ says 22 1)

pub record Area : Type 0 where
  pub revision_1 : AreaTicket first
  pub revision_2 : AreaTicket second
  pub revision_3 : AreaTicket third
  -- a record of another revision is 22 likewise, before 23 and 26; 20 and 27 come before it
  pub others_1 : (answer (shortest first) (write_all 1 22 2 (wide 22)) ≡ says 22 1) × (answer (shortest first) (write_all 1 22 3 (wide 25)) ≡ says 22 1)
  pub others_2 : (answer (shortest second) (write_all 1 22 1 (wide 22)) ≡ says 22 1) × (answer (shortest second) (write_all 1 22 3 (wide 25)) ≡ says 22 1)
  pub others_3 : (answer (shortest third) (write_all 1 22 1 (wide 22)) ≡ says 22 1) × (answer (shortest third) (write_all 1 22 2 (wide 22)) ≡ says 22 1)
  pub before_22 : (answer (area third) (write_all 2 23 2 (wide 22)) ≡ says 20 2) × (answer (next (area third) (set_mark 1 2)) (write_all 1 23 2 (wide 22)) ≡ says 27 1)
  -- field 23 is revision 3's alone, AmountPaid, and 26 is none's
  pub numbers : (answer (area first) (write 1 23 250) ≡ says 25 1) × (answer (area second) (write 1 23 250) ≡ says 25 1)
      × (answer (area third) (write 1 23 250) ≡ says 0 0) × (answer (area third) (write 1 26 250) ≡ says 25 1)
  -- IPELength 7, 28 bytes: two are handed back of revision 1, none of revision 2, which is taken too, and revision 3 is 23
  pub two_bytes : (read_ticket (shorter first) 1 32 ≡ area_ticket first 7 600 144600) × (rest (shorter first) 1 32 ≡ 0xAA ∷ 0xBB ∷ [])
  pub empty_part : (read_ticket (shorter second) 1 32 ≡ area_ticket second 7 600 144600) × (rest (shorter second) 1 32 ≡ [])
  pub too_short : (read_ticket (shorter third) 1 32 ≡ refused_ticket 23) × (rest (shorter third) 1 32 ≡ [])
  -- where in the buffer the part starts: the empty one too
  pub parts : (rest_at (shorter first) 1 32 ≡ 26) × (rest_at (shorter second) 1 32 ≡ 28) × (rest_at (area third) 1 32 ≡ 29)
  -- revision 4 is not listed: 22, whatever is asked
  pub unlisted : (read_ticket (area_card 0x20 4 at600 third) 1 32 ≡ refused_ticket 22) × (answer (area_card 0x20 4 at600 third) (write 1 7 600) ≡ says 22 1)
      × (answer (area_card 0x20 4 at600 third) (write_all 1 22 4 (area_values third 600)) ≡ says 22 1)
  pub unlisted_record : (encode_of (record_of 22 4 (area_values third 600)) ≡ encoded 22 [])
      × (set_of (record_of 22 4 (area_values third 600)) 7 1439 ≡ changed 22 (record_of 22 4 (area_values third 600)))
  -- the same bytes under TYP 23: its ExpiryTime is the 1,324
  pub as_typ_23 : (read_ticket (one_ticket 0xE1 100 (area_sector 0x20 2 at600 (second.own ++ second.after))) 1 32).end ≡ 145324
