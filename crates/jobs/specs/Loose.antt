-- An annex: the steps as they would be without rule 11: two chains may share a sector. Nothing but the incident speaks of them. Assumes nothing.
use Rattle.std.specs.Prelude.{List, ℕ}
use Rattle.fields.specs.Fields.{stores}
use Rattle.rules.specs.First.{first}
use Rattle.rules.specs.Lowest.{lowest}
use Rattle.image.specs.Image.{e#}
use Rattle.image.specs.Rules.{rules}
use Rattle.image.specs.Product.{product_at}
use Rattle.rules.specs.declared.Answer.{Answer}
use Rattle.image.specs.Verdict.{is_product, broken_at, judged}
use Rattle.image.specs.Seen.{Seen, seen_by}
use Rattle.steps.specs.Step.{Step, owner}
use Rattle.steps.specs.Steps.{answer_of, places_of, values_of}

-- the verdict by the numbers 1 to 10 and 12
unfoldable pub verdict_loose : List ℕ → Answer
verdict_loose c = judged (first (rules c)) (lowest (e# c) (broken_at c)) 0

unfoldable pub seen_loose : List ℕ → ℕ → Seen
seen_loose c j = seen_by (verdict_loose c).number (verdict_loose c).entry (is_product c j) (product_at c j)

-- what a step answers, and the image after it, by that verdict
unfoldable pub answer_loose : List ℕ → Step → Answer
answer_loose c s = answer_of (seen_loose c (owner s)) s

unfoldable pub next_loose : List ℕ → Step → List ℕ
next_loose c s = stores c (places_of (seen_loose c (owner s)) s) (values_of (seen_loose c (owner s)) s)
