-- An annex: what the calls on a chain table's elements answer and write, as the machine finds it. Assumes nothing.
use Rattle.std.specs.Prelude.{ℕ, zero, suc, ◌-◌, List, ◌++◌, length, replicate, Result}
use Rattle.std.specs.Result.{result_unwrap_or}
use Rattle.fields.specs.Fields.{fields, stores}
use Rattle.rules.specs.First.{first}
use Rattle.rules.specs.Answer.{if_done}
use Rattle.rules.specs.declared.Reason.{Reason}
use Rattle.rules.specs.Reasons.{said}
use Rattle.table.specs.declared.Elements.{Elements}
use Rattle.table.specs.declared.Table as table
use Rattle.table.specs.Table.{element_places, encode_rules, decode_rules}

unfoldable pub encode_number : ℕ → List ℕ → ℕ → ℕ
encode_number s es room = first (encode_rules s es room)

-- the elements packed into n bytes, zero bits after them
abbrev pub packed_table : ℕ → List ℕ → ℕ → List ℕ
packed_table s es n = stores (replicate n 0) (element_places s) es

-- the buffer then; refused, nothing is altered
abbrev pub encode_in : ℕ → List ℕ → List ℕ → List ℕ
encode_in s es l = if_done (encode_number s es (length l)) (packed_table s es (length l)) l

unfoldable pub decode_number : ℕ → ℕ → ℕ
decode_number s n = first (decode_rules s n)

-- the elements of the table's bytes
abbrev pub elements_in : ℕ → List ℕ → List ℕ
elements_in s b = fields b (element_places s)

-- what the decoder answers: the s - 3 elements and zeros after them; refused, zeros
abbrev pub elements_of : ℕ → ℕ → List ℕ → Elements
elements_of zero s b = record { number = 0; entry = 0; count = s - 3; elements = elements_in s b ++ replicate (252 - (s - 3)) 0 }
elements_of (suc n) s b = record { number = suc n; entry = 0; count = 0; elements = replicate 252 0 }

abbrev pub decode_of : ℕ → List ℕ → Elements
decode_of s b = elements_of (decode_number s (length b)) s b

-- what C is told of a result: its number, and the table, or zeros
abbrev pub no_table : table.Table
no_table = record { count = 0; elements = replicate 252 0 }

abbrev pub coded_table : Result table.Table Reason → Elements
coded_table r = record { number = said r; entry = 0; count = (result_unwrap_or r no_table).count; elements = (result_unwrap_or r no_table).elements }
