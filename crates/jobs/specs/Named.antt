-- Which entries a list of steps names with a step that was taken (the request: "which tickets we had touched"). Assumes nothing.
use Rattle.std.specs.Prelude.{◌≡◌, List, ◌∷◌, ℕ}
use Rattle.steps.specs.Step.{Step, owner}
use Rattle.steps.specs.Steps.{answer, next}

-- one of the steps, run in order from the image c, is taken and on entry j
pub data Named (j : ℕ) : List ℕ → List Step → Type 0 where
  now : {c : List ℕ} {s : Step} {m : List Step} → (answer c s).number ≡ 0 → owner s ≡ j → Named j c (s ∷ m)
  then : {c : List ℕ} {s : Step} {m : List Step} → Named j (next c s) m → Named j c (s ∷ m)
