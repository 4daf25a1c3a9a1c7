-- An annex: what a call finds of an image: that it is accepted, with its shape; a product; and its kind. No published contract cites it. Assumes nothing.
use Rattle.std.specs.Prelude.{ℕ, zero, suc, Option, Some, None, Result, Ok, Err}
use Rattle.rules.specs.First.{first}
use Rattle.rules.specs.Reasons.{number}
use Rattle.rules.specs.declared.Refusal.{Refusal}
use Rattle.ticket.specs.Kind.{form_in, kind_rules}
use Rattle.ticket.specs.declared.kinds.Kind.{Kind}
use Rattle.image.specs.Answer.{Checked, Accepted, Refused}
use Rattle.image.specs.Found.{Found, There, Not}
use Rattle.image.specs.Product as image
use Rattle.image.specs.declared.measured.Measured.{Measured}
use Rattle.image.specs.declared.product.Product.{Product}

-- what the code's answer says: the shape
abbrev pub measured_checked : Result Measured Refusal → Checked
measured_checked (Ok m) = Accepted m.shape
measured_checked (Err r) = Refused (number r.reason) r.entry

-- what the code's answer says: the last sector of the product's chain and the number of its sectors
abbrev pub product_found : Result Product Refusal → Found
product_found (Ok p) = There p.chain.last p.chain.count
product_found (Err r) = Not (number r.reason) r.entry

-- the kind; or 22 or 23, and the entry
pub data KindFound : Type 0 where
  Known : Kind → KindFound
  Unknown : ℕ → ℕ → KindFound

abbrev pub kind_by : ℕ → Option Kind → ℕ → KindFound
kind_by zero (Some k) j = Known k
kind_by zero None j = Unknown 0 j
kind_by (suc n) f j = Unknown (suc n) j

-- 22 and 23 of the product p of entry j, and its kind
unfoldable pub kind_in : image.Product → ℕ → KindFound
kind_in p j = kind_by (first (kind_rules p.typ p.revision p.blocks p.size)) (form_in p.typ p.revision) j

-- what the code's answer says
abbrev pub kind_found : Result Kind Refusal → KindFound
kind_found (Ok k) = Known k
kind_found (Err r) = Unknown (number r.reason) r.entry
