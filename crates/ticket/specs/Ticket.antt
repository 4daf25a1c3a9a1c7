-- An annex: what the calls on a ticket's record and header answer (document 01, "Steps on a product", "Encoding what was read"; T-02). A record names its
-- TYP and revision and has just that list's values. Assumes nothing.
use Rattle.std.specs.Prelude.{ℕ, zero, suc, ◌-◌, List, [], ◌∷◌, length, get_or, set, drop}
use Rattle.fields.specs.declared.Layout.{Layout}
use Rattle.fields.specs.declared.Layout.TheVariants as layout
use Rattle.fields.specs.Lists as lists
use Rattle.fields.specs.Lists.{list_of}
use Rattle.fields.specs.Fields.{fields, fit_rules}
use Rattle.fields.specs.Packed.{pack_number, packed}
use Rattle.rules.specs.Answer.{if_done}
use Rattle.rules.specs.Claim.{Rule, rule}
use Rattle.rules.specs.First.{first}
use Rattle.ticket.specs.Kind.{kind_of, rest_of, listed, field_rule, set_rules}
use Rattle.ticket.specs.declared.Record.{Record}
use Rattle.ticket.specs.declared.Changed.{Changed}
use Rattle.ticket.specs.declared.Value.{Value}
use Rattle.ticket.specs.declared.Encoded.{Encoded}
use Rattle.ticket.specs.declared.Decoded.{Decoded}
use Rattle.ticket.specs.declared.Header.{Header}
use Rattle.ticket.specs.declared.HeaderBytes.{HeaderBytes}

abbrev pub layout_of : Record → Layout
layout_of t = (kind_of t.typ t.revision).layout

-- 22 of a record's own kind, then the rules rs
abbrev pub record_rules : Record → List Rule → List Rule
record_rules t rs = rule 22 (listed (layout_of t)) ∷ rs

abbrev pub record_of : ℕ → ℕ → List ℕ → Record
record_of t r vs = record { typ = t; revision = r; values = vs }

-- a number, and the record then
abbrev pub changed : ℕ → Record → Changed
changed n t = record { number = n; entry = 0; next = t }

abbrev pub with : Record → ℕ → ℕ → Record
with t n v = record_of t.typ t.revision (set t.values (n - 1) v)

-- 22, 25, 26 of a step; 22, 25 of a value; 22, 26 of the encoder
unfoldable pub set_number : Record → ℕ → ℕ → ℕ
set_number t n v = first (record_rules t (set_rules (layout_of t) n v))

unfoldable pub value_number : Record → ℕ → ℕ
value_number t n = first (record_rules t (field_rule (layout_of t) n ∷ []))

unfoldable pub encode_number : Record → ℕ
encode_number t = first (record_rules t (fit_rules (layout_of t) t.values))

-- the next record; refused, the record as it was
abbrev pub next_of : ℕ → Record → ℕ → ℕ → Record
next_of zero t n v = with t n v
next_of (suc k) t n v = t

abbrev pub set_of : Record → ℕ → ℕ → Changed
set_of t n v = changed (set_number t n v) (next_of (set_number t n v) t n v)

-- the value of a field; refused, 0
abbrev pub value_if : ℕ → ℕ → Value
value_if zero v = record { number = 0; entry = 0; value = v }
value_if (suc k) v = record { number = suc k; entry = 0; value = 0 }

abbrev pub value_of : Record → ℕ → Value
value_of t n = value_if (value_number t n) (get_or t.values (n - 1) 0)

abbrev pub encoded : ℕ → List ℕ → Encoded
encoded n b = record { number = n; entry = 0; count = length b; bytes = b }

-- the bytes of a ticket with these values, from byte 2 to the end of its fields; no bytes where it is refused
abbrev pub encode_of : Record → Encoded
encode_of t = encoded (encode_number t) (if_done (encode_number t) (drop 2 (packed (layout_of t) (rest_of (layout_of t)) t.values)) [])

-- the values of a ticket
abbrev pub record_in : ℕ → ℕ → List ℕ → Record
record_in t r l = record_of t r (fields l (list_of (kind_of t r).layout))

-- and of one whose bytes from byte 2 on are b; 22, and zeros with no value, where its kind is not listed
unfoldable pub decode_number : ℕ → ℕ → ℕ
decode_number t r = first (rule 22 (listed (kind_of t r).layout) ∷ [])

abbrev pub decoded_by : ℕ → Record → Record
decoded_by zero t = t
decoded_by (suc n) t = record_of 0 0 []

abbrev pub decode_of : ℕ → ℕ → List ℕ → Decoded
decode_of t r b = record { number = decode_number t r; entry = 0; next = decoded_by (decode_number t r) (record_in t r (0 ∷ 0 ∷ b)) }

-- the header's three values in two bytes; 26 if one is too wide
abbrev pub header_bytes : List ℕ → HeaderBytes
header_bytes vs = record { number = pack_number layout.Header vs; entry = 0; bytes = packed layout.Header 2 vs }

abbrev pub header_in : List ℕ → Header
header_in b = record { values = fields b lists.head }
