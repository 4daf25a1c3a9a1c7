-- An annex: what a call on one product finds before its own numbers: the image's own refusal, 20, or the product. Assumes nothing.
use Rattle.std.specs.Prelude.{ℕ, List, length, Result, Ok, Err}
use Rattle.chains.specs.Chain.{last_of}
use Rattle.chains.specs.Products as products
use Rattle.image.specs.Verdict.{is_product}
use Rattle.image.specs.Image.{S, element, sectors}
use Rattle.image.specs.Seen.{Seen, refused, missing, there, seen}
use Rattle.image.specs.declared.Chain.{Chain}
use Rattle.rules.specs.Reasons.{number}
use Rattle.rules.specs.declared.Refusal.{Refusal}

-- there, with the last sector of its chain and the number of its sectors; or not, with a number and an entry
pub data Found : Type 0 where
  There : ℕ → ℕ → Found
  Not : ℕ → ℕ → Found

-- "Image numbers 1 to 11 come first", 12 among them, then 20: entry 0, above e#, or empty; of a product's chain, the last sector and the number of sectors
abbrev pub found_in : Seen → List ℕ → ℕ → Found
found_in (refused n e) c j = Not n e
found_in missing c j = Not 20 j
found_in (there p) c j = There (last_of (sectors c j)) (length (sectors c j))

unfoldable pub found_of : List ℕ → ℕ → Found
found_of c j = found_in (seen c j) c j

-- the last sector of entry j's chain, and the number of its sectors; 0 and 0 where j is no product
abbrev pub last_at : List ℕ → ℕ → ℕ
last_at c j = products.last_at (is_product c) (element c) (S c) j

abbrev pub count_at : List ℕ → ℕ → ℕ
count_at c j = products.count_at (is_product c) (element c) (S c) j

-- what the code's answer says
abbrev pub found : Result Chain Refusal → Found
found (Ok k) = There k.last k.count
found (Err r) = Not (number r.reason) r.entry
