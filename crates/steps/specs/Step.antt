-- The steps on a product (document 01, "Steps on a product" and "Numbers given back"): three, and no more; the rules of each, and what it stores where.
-- Assumes nothing.
use Rattle.std.specs.Prelude.{ℕ, ◌-◌, List, [], ◌∷◌, ◌++◌}
use Rattle.fields.specs.declared.Span.{Span}
use Rattle.fields.specs.declared.Layout.{Layout}
use Rattle.fields.specs.Lists.{span, list_of, nth}
use Rattle.fields.specs.Fields.{shifted, fit_rules}
use Rattle.rules.specs.Claim.{◌≡?◌, ◌≤?◌, ◌and◌, Rule, rule}
use Rattle.ticket.specs.Kind.{kind_of, kind_rules, set_rules}
use Rattle.image.specs.Product.{Product}

pub data Step : Type 0 where
  -- a field write: the entry, the number of the field, the value
  write : ℕ → ℕ → ℕ → Step
  -- a record write: the entry, the record's TYP, revision and values
  write_all : ℕ → ℕ → ℕ → List ℕ → Step
  -- a mark: the entry, and 1 for used or 2 for blocked
  set_mark : ℕ → ℕ → Step

abbrev pub owner : Step → ℕ  -- the entry that a step names: its product
owner (write j n v) = j
owner (write_all j t r vs) = j
owner (set_mark j m) = j

abbrev pub layout_of : Product → Layout  -- the list of the product's kind
layout_of p = (kind_of p.typ p.revision).layout

abbrev pub product_rules : Product → List Rule  -- 22 and 23 of the product p
product_rules p = kind_rules p.typ p.revision p.blocks p.size

abbrev pub other_rules : Product → ℕ → ℕ → List Rule  -- 22 of a record: it is of the product's TYP t and revision r
other_rules p t r = rule 22 (t ≡? p.typ) ∷ rule 22 (r ≡? p.revision) ∷ []

-- "a field write 20, 27, 22, 23, 25, 26; a record write 20, 27, 22, 23, 26": 27 of the product p, the rules os, its 22 and 23, then the rules rs
abbrev pub write_rules : Product → List Rule → List Rule → List Rule
write_rules p os rs = rule 27 (p.marked ≤? 1) ∷ (os ++ (product_rules p ++ rs))

-- after the image's own numbers and 20; "a mark 20, 28, 27", where 27 meets mark 1 on a blocked chain alone: a mark may not fall below the one that is there
unfoldable pub step_rules : Product → Step → List Rule
step_rules p (write j n v) = write_rules p [] (set_rules (layout_of p) n v)
step_rules p (write_all j t r vs) = write_rules p (other_rules p t r) (fit_rules (layout_of p) vs)
step_rules p (set_mark j m) = rule 28 (1 ≤? m and m ≤? 2) ∷ rule 27 (p.marked ≤? m) ∷ []

-- where a step stores: the field of the product, all its fields, or the one table element of its last sector
abbrev pub target : Product → Step → List Span
target p (write j n v) = shifted p.start (nth (list_of (layout_of p)) (n - 1) ∷ [])
target p (write_all j t r vs) = shifted p.start (list_of (layout_of p))
target p (set_mark j m) = span p.element_bit p.width ∷ []

abbrev pub new_values : Product → Step → List ℕ  -- and what: S-1 ends a chain in use, S-2 a blocked one
new_values p (write j n v) = v ∷ []
new_values p (write_all j t r vs) = vs
new_values p (set_mark j m) = (p.top - m) ∷ []
