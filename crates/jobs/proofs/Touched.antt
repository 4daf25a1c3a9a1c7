-- After any list of steps an entry is touched only if a step that was taken named it: each step leaves every other entry as it was.
-- Assumes nothing.
use mathlib.Core.Path.{◌≡◌}
use mathlib.Core.Logic.{◌≢◌, ◌⊎◌, inl, inr, ⊎_elim}
use mathlib.Core.List.{List, [], ◌∷◌}
use Prim.Native.Nat.{ℕ}
use native.Mathlib.Decide.{ℕ_discrete}
use Rattle.bits.specs.Bits.{Bytes}
use Rattle.mixing.specs.Run.{end}
use Rattle.steps.specs.Step.{Step, owner}
use Rattle.steps.specs.Steps.{answer, next}
use Rattle.steps.specs.Touched.{Touched}
use Rattle.steps.proofs.Keeps.{bytes_next}
use Rattle.steps.proofs.Touches.{Untouched, untouched, untouched-same, untouched-then, not-touched}
use Rattle.jobs.specs.Demand.{card_steps}
use Rattle.jobs.specs.Named.{Named, now, then}

-- each step names it and is taken, or leaves it
named-or-not : (c : List ℕ) (s : Step) (j : ℕ) → (((answer c s).number ≡ 0) × (owner s ≡ j)) ⊎ ((answer c s).number ≡ 0 → owner s ≢ j)
named-or-not c s j = elim (ℕ_discrete (answer c s).number 0) [
  | no d ↦ inr (λ z. absurd (d z))
  | yes z ↦ elim (ℕ_discrete (owner s) j) [ yes e ↦ inl (z, e) | no d ↦ inr (λ q. d) ]
]

pub named-or_untouched : (m : List Step) (c : List ℕ) (j : ℕ) → Bytes c → Named j c m ⊎ Untouched c (end card_steps c m) j
named-or_untouched [] c j b = inr (untouched-same c j)
named-or_untouched (s ∷ m) c j b =
    ⊎_elim (λ h. inl (now h.0 h.1))
    (λ h. ⊎_elim (λ n. inl (then n)) (λ u. inr (untouched-then (untouched c s j b h) u)) (named-or_untouched m (next c s) j (bytes_next c s b)))
    (named-or-not c s j)

pub touched-named : (m : List Step) (c : List ℕ) (j : ℕ) → Bytes c → Touched c (end card_steps c m) j → Named j c m
touched-named m c j b t = ⊎_elim (λ n. n) (λ u. absurd (not-touched u t)) (named-or_untouched m c j b)
