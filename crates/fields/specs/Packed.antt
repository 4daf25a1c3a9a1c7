-- An annex: values by a list of places, judged and stored as the machine does. Assumes nothing.
use Rattle.std.specs.Prelude.{ℕ, List, replicate}
use Rattle.rules.specs.First.{first}
use Rattle.rules.specs.Answer.{if_done}
use Rattle.fields.specs.declared.Layout.{Layout}
use Rattle.fields.specs.Lists.{list_of}
use Rattle.fields.specs.Fields.{stores, fit_rules}

unfoldable pub pack_number : Layout → List ℕ → ℕ
pack_number k vs = first (fit_rules k vs)

-- the n bytes that hold the values; zeros where one is too wide
abbrev pub packed : Layout → ℕ → List ℕ → List ℕ
packed k n vs = if_done (pack_number k vs) (stores (replicate n 0) (list_of k) vs) (replicate n 0)

-- the values in the bytes l, or l as it was
abbrev pub pack_in : Layout → List ℕ → List ℕ → List ℕ
pack_in k vs l = if_done (pack_number k vs) (stores l (list_of k) vs) l
