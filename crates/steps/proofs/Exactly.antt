-- A step gives a number exactly when document 01 says so: its own rules are a list, and the first that does not hold decides. Assumes nothing.
use mathlib.Core.Path.{◌≡◌}
use mathlib.Core.Logic.{◌↔◌}
use mathlib.Core.List.{List}
use Prim.Native.Nat.{ℕ}
use Rattle.image.specs.Obeys.{Gives}
use Rattle.image.specs.Product.{product_at}
use Rattle.image.specs.Seen.{asked}
use Rattle.image.proofs.Asked.{asked-exactly}
use Rattle.steps.specs.Step.{Step, owner, step_rules}
use Rattle.steps.specs.Steps.{answer}
use Rattle.steps.proofs.Acts.{numbered}

pub answer_exactly : (c : List ℕ) (s : Step) (n e : ℕ)
    → (((answer c s).number ≡ n) × ((answer c s).entry ≡ e)) ↔ Gives c (owner s) (λ p. step_rules p s) n e
unfolding answer asked
answer_exactly c s = asked-exactly c (owner s) (λ p. step_rules p s) (numbered (product_at c (owner s)) s)
