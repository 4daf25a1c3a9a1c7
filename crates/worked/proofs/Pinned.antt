-- Both sides of every line compute to the same bytes and the same values. Assumes nothing.
use mathlib.Core.Path.{refl}
use Rattle.bits.specs.Bits.{digit, bit, number, field, bytes, stored, store}
use Rattle.fields.specs.Fields.{fields, stores}
use Rattle.fields.specs.Packed.{pack_number}
use Rattle.rules.specs.First.{all, first}
use Rattle.ticket.specs.Kind.{form_in}
use Rattle.ticket.specs.Ticket.{encode_number, decode_number}
use Rattle.worked.specs.Pinned.{ImageFields, ShellFields, HeadFields, EntryFields, TailFields, HeaderFields, TicketFields, Area1Fields, Area2Fields, Area3Fields, Pinned}

image : ImageFields
unfolding pack_number first all fields stores store stored bytes field number bit digit
image = record {
  length = (refl, refl);
  version = (refl, refl);
  copy = (refl, refl);
}

shell : ShellFields
unfolding pack_number first all fields stores store stored bytes field number bit digit
shell = record {
  ShellLength = (refl, refl);
  ShellBitMap = (refl, refl);
  ShellFormatRevision = (refl, refl);
  IIN = (refl, refl);
  OID = (refl, refl);
  ISSN = (refl, refl);
  CHD = (refl, refl);
  FVC = (refl, refl);
  KSC = (refl, refl);
  KVC = (refl, refl);
  reserved = (refl, refl);
  EXP = (refl, refl);
  B = (refl, refl);
  S = (refl, refl);
  e# = (refl, refl);
  SCTL = (refl, refl);
}

head : HeadFields
unfolding pack_number first all fields stores store stored bytes field number bit digit
head = record {
  DIRLength = (refl, refl);
  DIRBitMap = (refl, refl);
  DIRFormatRevision = (refl, refl);
}

entry : EntryFields
unfolding pack_number first all fields stores store stored bytes field number bit digit
entry = record {
  EF = (refl, refl);
  OID = (refl, refl);
  TYP = (refl, refl);
  PTYP = (refl, refl);
  VGP = (refl, refl);
  IINL = (refl, refl);
  EXP = (refl, refl);
}

tail : TailFields
unfolding pack_number first all fields stores store stored bytes field number bit digit
tail = record {
  DIRS# = (refl, refl);
  KID = (refl, refl);
  INS# = (refl, refl);
  ISAMID = (refl, refl);
}

header : HeaderFields
unfolding pack_number first all fields stores store stored bytes field number bit digit
header = record {
  IPELength = (refl, refl);
  IPEBitMap = (refl, refl);
  IPEFormatRevision = (refl, refl);
}

ticket : TicketFields
unfolding form_in encode_number decode_number pack_number first all fields stores store stored bytes field number bit digit
ticket = record {
  RemoveDate = (refl, refl);
  ProductRetailer = (refl, refl);
  TYP23Flags = (refl, refl);
  RFU_4 = (refl, refl);
  PassbackTime = (refl, refl);
  RFU_6 = (refl, refl);
  IssueDate = (refl, refl);
  ValidityCode = (refl, refl);
  ExpiryTime = (refl, refl);
  RFU_10 = (refl, refl);
  Class = (refl, refl);
  PartySizeAdult = (refl, refl);
  PartySizeChild = (refl, refl);
  PartySizeConcession = (refl, refl);
  RFU_15 = (refl, refl);
  AmountPaidCurrencyCode = (refl, refl);
  AmountPaid = (refl, refl);
  MethodOfPayment = (refl, refl);
  VATSalesTax = (refl, refl);
  PhotocardNumber = (refl, refl);
  PromotionCode = (refl, refl);
  CPICC = (refl, refl);
}

area1 : Area1Fields
unfolding form_in encode_number decode_number pack_number first all fields stores store stored bytes field number bit digit
area1 = record {
  RemoveDate = (refl, refl);
  ProductRetailer = (refl, refl);
  TYP22Flags = (refl, refl);
  RFU_4 = (refl, refl);
  PassbackTime = (refl, refl);
  IssueDate = (refl, refl);
  ExpiryTime = (refl, refl);
  RFU_8 = (refl, refl);
  AutoRenewQuantity1 = (refl, refl);
  Class = (refl, refl);
  ValidityCode = (refl, refl);
  ValidityStartDTS = (refl, refl);
  PromotionCode = (refl, refl);
  ValidOnDayCode = (refl, refl);
  PartySizeAdult = (refl, refl);
  PartySizeChild = (refl, refl);
  PartySizeConcession = (refl, refl);
  RFU_18 = (refl, refl);
  AmountPaidCurrencyCode = (refl, refl);
  AmountPaid = (refl, refl);
  MethodOfPayment = (refl, refl);
  VATSalesTax = (refl, refl);
}

area2 : Area2Fields
unfolding form_in encode_number decode_number pack_number first all fields stores store stored bytes field number bit digit
area2 = record {
  RemoveDate = (refl, refl);
  ProductRetailer = (refl, refl);
  TYP22Flags = (refl, refl);
  RFU_4 = (refl, refl);
  PassbackTime = (refl, refl);
  IssueDate = (refl, refl);
  ExpiryTime = (refl, refl);
  RFU_8 = (refl, refl);
  AutoRenewQuantity1 = (refl, refl);
  Class = (refl, refl);
  ValidityCode = (refl, refl);
  ValidityStartDTS = (refl, refl);
  PromotionCode = (refl, refl);
  ValidOnDayCode = (refl, refl);
  PartySizeAdult = (refl, refl);
  PartySizeChild = (refl, refl);
  PartySizeConcession = (refl, refl);
  RFU_18 = (refl, refl);
  AmountPaidCurrencyCode = (refl, refl);
  AmountPaid = (refl, refl);
  MethodOfPayment = (refl, refl);
  VATSalesTax = (refl, refl);
}

area3 : Area3Fields
unfolding form_in encode_number decode_number pack_number first all fields stores store stored bytes field number bit digit
area3 = record {
  RemoveDate = (refl, refl);
  ProductRetailer = (refl, refl);
  TYP22Flags = (refl, refl);
  RFU_4 = (refl, refl);
  PassbackTime = (refl, refl);
  IssueDate = (refl, refl);
  ExpiryTime = (refl, refl);
  RFU_8 = (refl, refl);
  AutoRenewQuantity1 = (refl, refl);
  Class = (refl, refl);
  ValidityCode = (refl, refl);
  RFU_12 = (refl, refl);
  ValidityStartDate = (refl, refl);
  RFU_14 = (refl, refl);
  ValidityStartTime = (refl, refl);
  PromotionCode = (refl, refl);
  ValidOnDayCode = (refl, refl);
  PartySizeAdult = (refl, refl);
  PartySizeChild = (refl, refl);
  PartySizeConcession = (refl, refl);
  RFU_21 = (refl, refl);
  AmountPaidCurrencyCode = (refl, refl);
  AmountPaid = (refl, refl);
  MethodOfPayment = (refl, refl);
  VATSalesTax = (refl, refl);
}

pub pinned : Pinned
unfolding pack_number first all fields stores store stored bytes field number bit digit
pinned = record {
  image = image;
  shell = shell;
  head = head;
  entry = entry;
  tail = tail;
  header = header;
  ticket = ticket;
  area_1 = area1;
  area_2 = area2;
  area_3 = area3;
  flags = (refl, refl);
}
