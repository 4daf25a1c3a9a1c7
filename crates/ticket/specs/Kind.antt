-- What a kind of ticket is (document 01, "Ticket fields"; T-02; 000, 2.9 and Table 31a), said here and nowhere else. Assumes nothing.
use Rattle.std.specs.Prelude.{cond, ◌&&◌, List, [], ◌∷◌, ℕ, ◌+◌, ◌-◌, ◌*◌, ◌/◌, eqb, length, Option, Some, None}
use Rattle.dates.specs.Calendar.{day_of}
use Rattle.rules.specs.Claim.{Claim, ◌≤?◌, ◌and◌, Rule, rule}
use Rattle.fields.specs.declared.Layout.{Layout}
use Rattle.fields.specs.declared.Layout.TheVariants as layout
use Rattle.fields.specs.Lists.{list_of, bit_after, nth}
use Rattle.fields.specs.Fields.{limit_of}
use Rattle.ticket.specs.declared.kinds.Kind.{Kind}
use Rattle.ticket.specs.declared.kinds.Kind.TheVariants.{Typ23, Typ22r1, Typ22r2, Typ22r3}

pub record Row : Type 0 where
  -- TYP is the entry's, the format revision the product header's; the list of its places
  pub typ : ℕ
  pub revision : ℕ
  pub layout : Layout
  -- the numbers of its fields ExpiryTime and RemoveDate, from 1 on
  pub expiry : ℕ
  pub remove : ℕ

abbrev row : ℕ → ℕ → Layout → ℕ → ℕ → Row
row t r k e m = record { typ = t; revision = r; layout = k; expiry = e; remove = m }

abbrev pub row_of : Kind → Row  -- the table: TYP, revision, list, ExpiryTime, RemoveDate
row_of Typ23 = row 23 2 layout.Typ23 9 1
row_of Typ22r1 = row 22 1 layout.Typ22r1 7 1
row_of Typ22r2 = row 22 2 layout.Typ22r2 7 1
row_of Typ22r3 = row 22 3 layout.Typ22r3 7 1

abbrev pub kinds : List Kind
kinds = Typ23 ∷ Typ22r1 ∷ Typ22r2 ∷ Typ22r3 ∷ []

abbrev pub form_among : ℕ → ℕ → List Kind → Option Kind  -- the first kind of the list with the TYP t and the revision r
form_among t r [] = None
form_among t r (k ∷ ks) = cond (eqb t (row_of k).typ && eqb r (row_of k).revision) (Some k) (form_among t r ks)

unfoldable pub form_in : ℕ → ℕ → Option Kind
form_in t r = form_among t r kinds

abbrev pub row_by : Option Kind → Row  -- what is not listed has no field
row_by (Some k) = row_of k
row_by None = row 0 0 layout.Unlisted 0 0

abbrev pub kind_of : ℕ → ℕ → Row  -- the row of the TYP t and the revision r
kind_of t r = row_by (form_in t r)

abbrev pub count_of : Layout → ℕ  -- how many fields it has
count_of k = length (list_of k)

abbrev pub least_of : Layout → ℕ  -- the least 4 × IPELength: its fixed fields in whole blocks
least_of k = 4 * ((bit_after k + 31) / 32)

abbrev pub rest_of : Layout → ℕ  -- the first byte after its fixed fields
rest_of k = bit_after k / 8

abbrev pub limit : Layout → ℕ → ℕ  -- the largest value of field n, from 1 on: what its width holds (number 26)
limit k n = limit_of (nth (list_of k) (n - 1))

abbrev pub listed : Layout → Claim  -- it is on the lists: it has a field
listed k = 1 ≤? count_of k

-- 22 and 23, of a product of the given size whose entry says the TYP t and whose header says the revision r and b blocks
abbrev pub kind_rules : ℕ → ℕ → ℕ → ℕ → List Rule
kind_rules t r b size =
    rule 22 (listed (kind_of t r).layout)
    ∷ rule 23 (least_of (kind_of t r).layout ≤? 4 * b)
    ∷ rule 23 (4 * b ≤? size)
    ∷ []

abbrev pub field_rule : Layout → ℕ → Rule  -- 25: no such field number
field_rule k n = rule 25 (1 ≤? n and n ≤? count_of k)

abbrev pub set_rules : Layout → ℕ → ℕ → List Rule  -- 25, then 26: value too wide
set_rules k n v = field_rule k n ∷ rule 26 (v ≤? limit k n) ∷ []

-- the end of a ticket in minutes (document 01, "Dates"): the entry's EXP as day, and ExpiryTime, which from 1,440 on falls on the day after (T-01)
abbrev pub end_minutes : ℕ → ℕ → ℕ
end_minutes exp time = day_of exp * 1440 + time
