-- What the reads give, and the rules of a ticket read (document 01, "Directory sector", "Ticket fields"). Assumes nothing.
use Rattle.std.specs.Prelude.{ℕ, ◌+◌, ◌-◌, ◌*◌, List, ◌∷◌, ◌++◌, drop}
use Rattle.rules.specs.Claim.{◌≤?◌, Rule, rule}
use Rattle.fields.specs.Fields.{fields, value_at}
use Rattle.fields.specs.Lists as lists
use Rattle.fields.specs.Lists.{head, tail}
use Rattle.fields.specs.declared.Layout.TheVariants.{Entry, Header}
use Rattle.ticket.specs.Kind.{Row, kind_of, kind_rules, end_minutes}
use Rattle.image.specs.Image.{SCTL, directory_at, table_at, entry_at, product}
use Rattle.image.specs.Product.{Product, product_at}

-- "Directory sector": the three values before the entries, and the four after the chain table
abbrev pub directory_values : List ℕ → List ℕ
directory_values c = fields (drop (directory_at c) c) head ++ fields (drop (table_at c + SCTL c) c) tail

abbrev pub entry_values : List ℕ → ℕ → List ℕ  -- "The five bytes of an entry"
entry_values c j = fields (drop (entry_at c j) c) lists.entry

-- "for a read 20, 21, 22, 23" (T-01: "every order loses 24"), after 20: of a buffer of `room` bytes and the product p
abbrev pub ticket_rules : ℕ → Product → List Rule
ticket_rules room p = rule 21 (p.size ≤? room) ∷ kind_rules p.typ p.revision p.blocks p.size

abbrev pub kind_at : List ℕ → ℕ → Row  -- the kind of product j, by its entry's TYP and its header's revision
kind_at c j = kind_of (product_at c j).typ (product_at c j).revision

abbrev pub ticket_end : List ℕ → ℕ → ℕ  -- the end of the ticket, of the entry's EXP and the product's ExpiryTime
ticket_end c j = end_minutes (value_at Entry 6 (drop (entry_at c j) c)) (value_at (kind_at c j).layout ((kind_at c j).expiry - 1) (product c j))

abbrev pub extent : List ℕ → ℕ → ℕ  -- 4 × IPELength: the dataset's end
extent c j = 4 * value_at Header 0 (product c j)
