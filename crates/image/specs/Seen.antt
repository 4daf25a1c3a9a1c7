-- An annex: what a call on one product sees, and its number and entry, as the machine finds them. That these are what `Gives` says is proved in Exact.
-- Assumes nothing.
use Rattle.std.specs.Prelude.{ℕ, zero, suc, Bool, true, false, List}
use Rattle.rules.specs.Claim.{Rule}
use Rattle.rules.specs.First.{first}
use Rattle.image.specs.Product.{Product, product_at}
use Rattle.rules.specs.declared.Answer.{Answer}
use Rattle.image.specs.Verdict.{is_product, verdict}

-- what a call on entry j sees: the image's own refusal, no such product (20), or the product
pub data Seen : Type 0 where
  refused : ℕ → ℕ → Seen
  missing : Seen
  there : Product → Seen

abbrev pub seen_by : ℕ → ℕ → Bool → Product → Seen
seen_by (suc n) e b p = refused (suc n) e
seen_by zero e true p = there p
seen_by zero e false p = missing

unfoldable pub seen : List ℕ → ℕ → Seen
seen c j = seen_by (verdict c).number (verdict c).entry (is_product c j) (product_at c j)

-- "20 to 28 name the entry asked for"; success names none
abbrev pub named : ℕ → ℕ → Answer
named zero j = record { number = 0; entry = 0 }
named (suc n) j = record { number = suc n; entry = j }

-- the image's own refusal, 20, or the first of the rules for the product that it does not keep
abbrev pub judged_by : Seen → ℕ → (Product → List Rule) → Answer
judged_by (refused n e) j rules = record { number = n; entry = e }
judged_by missing j rules = record { number = 20; entry = j }
judged_by (there p) j rules = named (first (rules p)) j

unfoldable pub asked : List ℕ → ℕ → (Product → List Rule) → Answer
asked c j rules = judged_by (seen c j) j rules
