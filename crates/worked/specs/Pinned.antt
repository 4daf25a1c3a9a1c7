-- An annex: every field stands where the papers' tables put it: a record with that field all ones and the others 0 is these bytes, and is read so from them. The
-- numbers here are those of the tables (docs/TABLES.md): the field's own, its width, the byte where it starts, and what stands there. Assumes nothing.
use Rattle.std.specs.Prelude.{◌≡◌, List, [], ◌∷◌, ◌++◌, ℕ, ◌-◌, ◌^◌, replicate}
use Rattle.std.proofs.Math.ListN as list
use Rattle.fields.specs.declared.Span.{Span}
use Rattle.fields.specs.Lists as lists
use Rattle.fields.specs.Fields.{fields, stores}
use Rattle.directory.specs.Records.{entry_bytes, entry_in, head_bytes, head_in, tail_bytes, tail_in}
use Rattle.ticket.specs.Ticket.{header_bytes, header_in, record_of, encode_of, encoded, decode_of}

-- n numbers: xs from number k on, counted from 0, and the others 0
abbrev pub among : ℕ → ℕ → List ℕ → List ℕ
among n k xs = replicate k 0 ++ (xs ++ replicate (n - k - list.length xs) 0)

-- n values: that of field i, counted from 1, is w ones, and the others 0
abbrev pub lone : ℕ → ℕ → ℕ → List ℕ
lone n i w = among n (i - 1) ((2 ^ w - 1) ∷ [])

-- stored by a list of n places into zeros, and read by it
abbrev pub Stands : List Span → ℕ → ℕ → ℕ → List ℕ → Type 0
Stands ps n i w b = (stores (replicate (list.length b) 0) ps (lone n i w) ≡ b) × (fields b ps ≡ lone n i w)

abbrev pub InImage : ℕ → ℕ → List ℕ → Type 0
InImage i w b = Stands lists.image 3 i w b

-- of twenty bytes, those from byte k on
abbrev pub InShell : ℕ → ℕ → ℕ → List ℕ → Type 0
InShell i w k b = Stands lists.shell 16 i w (among 20 k b)

-- as the encoder answers, and the decoder
abbrev pub InHead : ℕ → ℕ → List ℕ → Type 0
InHead i w b = (head_bytes (lone 3 i w) ≡ record { number = 0; entry = 0; bytes = b }) × ((head_in b).values ≡ lone 3 i w)

abbrev pub EntryIs : List ℕ → List ℕ → Type 0
EntryIs vs b = (entry_bytes vs ≡ record { number = 0; entry = 0; bytes = b }) × ((entry_in b).values ≡ vs)

abbrev pub InEntry : ℕ → ℕ → List ℕ → Type 0
InEntry i w b = EntryIs (lone 7 i w) b

abbrev pub InTail : ℕ → ℕ → List ℕ → Type 0
InTail i w b = (tail_bytes (lone 4 i w) ≡ record { number = 0; entry = 0; bytes = b }) × ((tail_in b).values ≡ lone 4 i w)

abbrev pub InHeader : ℕ → ℕ → List ℕ → Type 0
InHeader i w b = (header_bytes (lone 3 i w) ≡ record { number = 0; entry = 0; bytes = b }) × ((header_in b).values ≡ lone 3 i w)

-- m bytes of a ticket, from its byte 2 on: b from byte k on, and the others 0
abbrev pub ticket_bytes : ℕ → ℕ → List ℕ → List ℕ
ticket_bytes m k b = among m (k - 2) b

-- TYP t, revision r: n values in m bytes
abbrev pub InTicket : ℕ → ℕ → ℕ → ℕ → ℕ → ℕ → ℕ → List ℕ → Type 0
InTicket t r n m i w k b = (encode_of (record_of t r (lone n i w)) ≡ encoded 0 (ticket_bytes m k b)) × ((decode_of t r (ticket_bytes m k b)).next ≡ record_of t r (lone n i w))

abbrev pub InTyp23 : ℕ → ℕ → ℕ → List ℕ → Type 0
InTyp23 i w k b = InTicket 23 2 22 27 i w k b

abbrev pub InArea1 : ℕ → ℕ → ℕ → List ℕ → Type 0
InArea1 i w k b = InTicket 22 1 22 24 i w k b

abbrev pub InArea2 : ℕ → ℕ → ℕ → List ℕ → Type 0
InArea2 i w k b = InTicket 22 2 22 26 i w k b

abbrev pub InArea3 : ℕ → ℕ → ℕ → List ℕ → Type 0
InArea3 i w k b = InTicket 22 3 25 27 i w k b

-- document 01, "The image"
pub record ImageFields : Type 0 where
  pub length : InImage 1 16 (0xFF ∷ 0xFF ∷ 0x00 ∷ 0x00 ∷ [])
  pub version : InImage 2 8 (0x00 ∷ 0x00 ∷ 0xFF ∷ 0x00 ∷ [])
  pub copy : InImage 3 8 (0x00 ∷ 0x00 ∷ 0x00 ∷ 0xFF ∷ [])

-- 004, 4.1, Table 1
pub record ShellFields : Type 0 where
  pub ShellLength : InShell 1 6 0 (0xFC ∷ [])
  pub ShellBitMap : InShell 2 6 0 (0x03 ∷ 0xF0 ∷ [])
  pub ShellFormatRevision : InShell 3 4 1 (0x0F ∷ [])
  pub IIN : InShell 4 24 2 (0xFF ∷ 0xFF ∷ 0xFF ∷ [])
  pub OID : InShell 5 16 5 (0xFF ∷ 0xFF ∷ [])
  pub ISSN : InShell 6 28 7 (0xFF ∷ 0xFF ∷ 0xFF ∷ 0xF0 ∷ [])
  pub CHD : InShell 7 4 10 (0x0F ∷ [])
  pub FVC : InShell 8 8 11 (0xFF ∷ [])
  pub KSC : InShell 9 8 12 (0xFF ∷ [])
  pub KVC : InShell 10 8 13 (0xFF ∷ [])
  pub reserved : InShell 11 2 14 (0xC0 ∷ [])
  pub EXP : InShell 12 14 14 (0x3F ∷ 0xFF ∷ [])
  pub B : InShell 13 8 16 (0xFF ∷ [])
  pub S : InShell 14 8 17 (0xFF ∷ [])
  pub e# : InShell 15 8 18 (0xFF ∷ [])
  pub SCTL : InShell 16 8 19 (0xFF ∷ [])

-- 004, 5.1, Table 5
pub record HeadFields : Type 0 where
  pub DIRLength : InHead 1 6 (0xFC ∷ 0x00 ∷ [])
  pub DIRBitMap : InHead 2 6 (0x03 ∷ 0xF0 ∷ [])
  pub DIRFormatRevision : InHead 3 4 (0x00 ∷ 0x0F ∷ [])

-- 004, 6.1.1, Table 9
pub record EntryFields : Type 0 where
  pub EF : InEntry 1 1 (0x80 ∷ 0x00 ∷ 0x00 ∷ 0x00 ∷ 0x00 ∷ [])
  pub OID : InEntry 2 13 (0x7F ∷ 0xFC ∷ 0x00 ∷ 0x00 ∷ 0x00 ∷ [])
  pub TYP : InEntry 3 5 (0x00 ∷ 0x03 ∷ 0xE0 ∷ 0x00 ∷ 0x00 ∷ [])
  pub PTYP : InEntry 4 5 (0x00 ∷ 0x00 ∷ 0x1F ∷ 0x00 ∷ 0x00 ∷ [])
  pub VGP : InEntry 5 1 (0x00 ∷ 0x00 ∷ 0x00 ∷ 0x80 ∷ 0x00 ∷ [])
  pub IINL : InEntry 6 1 (0x00 ∷ 0x00 ∷ 0x00 ∷ 0x40 ∷ 0x00 ∷ [])
  pub EXP : InEntry 7 14 (0x00 ∷ 0x00 ∷ 0x00 ∷ 0x3F ∷ 0xFF ∷ [])

-- 004, Tables 5 and 8
pub record TailFields : Type 0 where
  pub DIRS# : InTail 1 8 (0xFF ∷ 0x00 ∷ 0x00 ∷ 0x00 ∷ 0x00 ∷ 0x00 ∷ [])
  pub KID : InTail 2 4 (0x00 ∷ 0xF0 ∷ 0x00 ∷ 0x00 ∷ 0x00 ∷ 0x00 ∷ [])
  pub INS# : InTail 3 4 (0x00 ∷ 0x0F ∷ 0x00 ∷ 0x00 ∷ 0x00 ∷ 0x00 ∷ [])
  pub ISAMID : InTail 4 32 (0x00 ∷ 0x00 ∷ 0xFF ∷ 0xFF ∷ 0xFF ∷ 0xFF ∷ [])

-- 004, 6.2, Table 10; 000, Table 31a
pub record HeaderFields : Type 0 where
  pub IPELength : InHeader 1 6 (0xFC ∷ 0x00 ∷ [])
  pub IPEBitMap : InHeader 2 6 (0x03 ∷ 0xF0 ∷ [])
  pub IPEFormatRevision : InHeader 3 4 (0x00 ∷ 0x0F ∷ [])

-- TYP 23 revision 2 (000, Table 31a)
pub record TicketFields : Type 0 where
  pub RemoveDate : InTyp23 1 8 2 (0xFF ∷ [])
  pub ProductRetailer : InTyp23 2 16 3 (0xFF ∷ 0xFF ∷ [])
  pub TYP23Flags : InTyp23 3 8 5 (0xFF ∷ [])
  pub RFU_4 : InTyp23 4 2 6 (0xC0 ∷ [])
  pub PassbackTime : InTyp23 5 6 6 (0x3F ∷ [])
  pub RFU_6 : InTyp23 6 2 7 (0xC0 ∷ [])
  pub IssueDate : InTyp23 7 14 7 (0x3F ∷ 0xFF ∷ [])
  pub ValidityCode : InTyp23 8 5 9 (0xF8 ∷ [])
  pub ExpiryTime : InTyp23 9 11 9 (0x07 ∷ 0xFF ∷ [])
  pub RFU_10 : InTyp23 10 5 11 (0xF8 ∷ [])
  pub Class : InTyp23 11 3 11 (0x07 ∷ [])
  pub PartySizeAdult : InTyp23 12 8 12 (0xFF ∷ [])
  pub PartySizeChild : InTyp23 13 8 13 (0xFF ∷ [])
  pub PartySizeConcession : InTyp23 14 8 14 (0xFF ∷ [])
  pub RFU_15 : InTyp23 15 4 15 (0xF0 ∷ [])
  pub AmountPaidCurrencyCode : InTyp23 16 4 15 (0x0F ∷ [])
  pub AmountPaid : InTyp23 17 32 16 (0xFF ∷ 0xFF ∷ 0xFF ∷ 0xFF ∷ [])
  pub MethodOfPayment : InTyp23 18 4 20 (0xF0 ∷ [])
  pub VATSalesTax : InTyp23 19 12 20 (0x0F ∷ 0xFF ∷ [])
  pub PhotocardNumber : InTyp23 20 32 22 (0xFF ∷ 0xFF ∷ 0xFF ∷ 0xFF ∷ [])
  pub PromotionCode : InTyp23 21 8 26 (0xFF ∷ [])
  pub CPICC : InTyp23 22 16 27 (0xFF ∷ 0xFF ∷ [])

-- TYP 22 revision 1 (000, Table 27)
pub record Area1Fields : Type 0 where
  pub RemoveDate : InArea1 1 8 2 (0xFF ∷ [])
  pub ProductRetailer : InArea1 2 16 3 (0xFF ∷ 0xFF ∷ [])
  pub TYP22Flags : InArea1 3 16 5 (0xFF ∷ 0xFF ∷ [])
  pub RFU_4 : InArea1 4 2 7 (0xC0 ∷ [])
  pub PassbackTime : InArea1 5 6 7 (0x3F ∷ [])
  pub IssueDate : InArea1 6 14 8 (0xFF ∷ 0xFC ∷ [])
  pub ExpiryTime : InArea1 7 11 9 (0x03 ∷ 0xFF ∷ 0x80 ∷ [])
  pub RFU_8 : InArea1 8 1 11 (0x40 ∷ [])
  pub AutoRenewQuantity1 : InArea1 9 6 11 (0x3F ∷ [])
  pub Class : InArea1 10 3 12 (0xE0 ∷ [])
  pub ValidityCode : InArea1 11 5 12 (0x1F ∷ [])
  pub ValidityStartDTS : InArea1 12 24 13 (0xFF ∷ 0xFF ∷ 0xFF ∷ [])
  pub PromotionCode : InArea1 13 8 16 (0xFF ∷ [])
  pub ValidOnDayCode : InArea1 14 8 17 (0xFF ∷ [])
  pub PartySizeAdult : InArea1 15 8 18 (0xFF ∷ [])
  pub PartySizeChild : InArea1 16 8 19 (0xFF ∷ [])
  pub PartySizeConcession : InArea1 17 8 20 (0xFF ∷ [])
  pub RFU_18 : InArea1 18 4 21 (0xF0 ∷ [])
  pub AmountPaidCurrencyCode : InArea1 19 4 21 (0x0F ∷ [])
  pub AmountPaid : InArea1 20 16 22 (0xFF ∷ 0xFF ∷ [])
  pub MethodOfPayment : InArea1 21 4 24 (0xF0 ∷ [])
  pub VATSalesTax : InArea1 22 12 24 (0x0F ∷ 0xFF ∷ [])

-- TYP 22 revision 2 (000, Table 27a)
pub record Area2Fields : Type 0 where
  pub RemoveDate : InArea2 1 8 2 (0xFF ∷ [])
  pub ProductRetailer : InArea2 2 16 3 (0xFF ∷ 0xFF ∷ [])
  pub TYP22Flags : InArea2 3 16 5 (0xFF ∷ 0xFF ∷ [])
  pub RFU_4 : InArea2 4 2 7 (0xC0 ∷ [])
  pub PassbackTime : InArea2 5 6 7 (0x3F ∷ [])
  pub IssueDate : InArea2 6 14 8 (0xFF ∷ 0xFC ∷ [])
  pub ExpiryTime : InArea2 7 11 9 (0x03 ∷ 0xFF ∷ 0x80 ∷ [])
  pub RFU_8 : InArea2 8 1 11 (0x40 ∷ [])
  pub AutoRenewQuantity1 : InArea2 9 6 11 (0x3F ∷ [])
  pub Class : InArea2 10 3 12 (0xE0 ∷ [])
  pub ValidityCode : InArea2 11 5 12 (0x1F ∷ [])
  pub ValidityStartDTS : InArea2 12 24 13 (0xFF ∷ 0xFF ∷ 0xFF ∷ [])
  pub PromotionCode : InArea2 13 8 16 (0xFF ∷ [])
  pub ValidOnDayCode : InArea2 14 8 17 (0xFF ∷ [])
  pub PartySizeAdult : InArea2 15 8 18 (0xFF ∷ [])
  pub PartySizeChild : InArea2 16 8 19 (0xFF ∷ [])
  pub PartySizeConcession : InArea2 17 8 20 (0xFF ∷ [])
  pub RFU_18 : InArea2 18 4 21 (0xF0 ∷ [])
  pub AmountPaidCurrencyCode : InArea2 19 4 21 (0x0F ∷ [])
  pub AmountPaid : InArea2 20 32 22 (0xFF ∷ 0xFF ∷ 0xFF ∷ 0xFF ∷ [])
  pub MethodOfPayment : InArea2 21 4 26 (0xF0 ∷ [])
  pub VATSalesTax : InArea2 22 12 26 (0x0F ∷ 0xFF ∷ [])

-- TYP 22 revision 3 (000, Table 3.27)
pub record Area3Fields : Type 0 where
  pub RemoveDate : InArea3 1 8 2 (0xFF ∷ [])
  pub ProductRetailer : InArea3 2 16 3 (0xFF ∷ 0xFF ∷ [])
  pub TYP22Flags : InArea3 3 16 5 (0xFF ∷ 0xFF ∷ [])
  pub RFU_4 : InArea3 4 2 7 (0xC0 ∷ [])
  pub PassbackTime : InArea3 5 6 7 (0x3F ∷ [])
  pub IssueDate : InArea3 6 14 8 (0xFF ∷ 0xFC ∷ [])
  pub ExpiryTime : InArea3 7 11 9 (0x03 ∷ 0xFF ∷ 0x80 ∷ [])
  pub RFU_8 : InArea3 8 1 11 (0x40 ∷ [])
  pub AutoRenewQuantity1 : InArea3 9 6 11 (0x3F ∷ [])
  pub Class : InArea3 10 3 12 (0xE0 ∷ [])
  pub ValidityCode : InArea3 11 5 12 (0x1F ∷ [])
  pub RFU_12 : InArea3 12 2 13 (0xC0 ∷ [])
  pub ValidityStartDate : InArea3 13 14 13 (0x3F ∷ 0xFF ∷ [])
  pub RFU_14 : InArea3 14 5 15 (0xF8 ∷ [])
  pub ValidityStartTime : InArea3 15 11 15 (0x07 ∷ 0xFF ∷ [])
  pub PromotionCode : InArea3 16 8 17 (0xFF ∷ [])
  pub ValidOnDayCode : InArea3 17 8 18 (0xFF ∷ [])
  pub PartySizeAdult : InArea3 18 8 19 (0xFF ∷ [])
  pub PartySizeChild : InArea3 19 8 20 (0xFF ∷ [])
  pub PartySizeConcession : InArea3 20 8 21 (0xFF ∷ [])
  pub RFU_21 : InArea3 21 4 22 (0xF0 ∷ [])
  pub AmountPaidCurrencyCode : InArea3 22 4 22 (0x0F ∷ [])
  pub AmountPaid : InArea3 23 32 23 (0xFF ∷ 0xFF ∷ 0xFF ∷ 0xFF ∷ [])
  pub MethodOfPayment : InArea3 24 4 27 (0xF0 ∷ [])
  pub VATSalesTax : InArea3 25 12 27 (0x0F ∷ 0xFF ∷ [])

pub record Pinned : Type 0 where
  pub image : ImageFields
  pub shell : ShellFields
  pub head : HeadFields
  pub entry : EntryFields
  pub tail : TailFields
  pub header : HeaderFields
  pub ticket : TicketFields
  pub area_1 : Area1Fields
  pub area_2 : Area2Fields
  pub area_3 : Area3Fields
  -- document 01's entry with EF, VGP and IINL set
  pub flags : EntryIs (1 ∷ 1 ∷ 23 ∷ 1 ∷ 1 ∷ 1 ∷ 1 ∷ []) (0x80 ∷ 0x06 ∷ 0xE1 ∷ 0xC0 ∷ 0x01 ∷ [])
