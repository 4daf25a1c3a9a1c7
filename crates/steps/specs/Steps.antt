-- An annex: what a step answers, and the image after it, as the machine finds them: `Gives` says the answer, and a taken step stores its values (the page). Assumes nothing.
use Rattle.std.specs.Prelude.{ℕ, zero, suc, List, []}
use Rattle.fields.specs.declared.Span.{Span}
use Rattle.fields.specs.Fields.{stores}
use Rattle.rules.specs.First.{first}
use Rattle.rules.specs.declared.Answer.{Answer}
use Rattle.image.specs.Seen.{Seen, refused, missing, there, seen, judged_by}
use Rattle.steps.specs.Step.{Step, owner, step_rules, target, new_values}

abbrev pub answer_of : Seen → Step → Answer
answer_of v s = judged_by v (owner s) (λ p. step_rules p s)

unfoldable pub answer : List ℕ → Step → Answer
answer c s = answer_of (seen c (owner s)) s

abbrev pub unless_refused : ℕ → List Span → List Span
unless_refused zero ps = ps
unless_refused (suc n) ps = []

-- a refused step stores at no place
abbrev pub places_of : Seen → Step → List Span
places_of (refused n e) s = []
places_of missing s = []
places_of (there p) s = unless_refused (first (step_rules p s)) (target p s)

abbrev pub values_of : Seen → Step → List ℕ
values_of (refused n e) s = []
values_of missing s = []
values_of (there p) s = new_values p s

unfoldable pub next : List ℕ → Step → List ℕ
next c s = stores c (places_of (seen c (owner s)) s) (values_of (seen c (owner s)) s)
