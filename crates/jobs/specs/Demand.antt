-- Demand 3 in its own words: jobs of field writes, record writes and marks, no two on the same product, mixed. Assumes nothing.
use Rattle.std.specs.Prelude.{◌≡◌, List, ℕ}
use Rattle.mixing.specs.Run.{Machine, end, log}
use Rattle.mixing.specs.Mix.{Every, Reordered, Job, lists, concat, entries_of}
use Rattle.rules.specs.declared.Answer.{Answer}
use Rattle.steps.specs.Step.{Step, owner}
use Rattle.steps.specs.Steps.{answer, next}

-- the card: its states are images, its steps answer and act as the contracts of the step calls say
abbrev pub card_steps : Machine (List ℕ) Step Answer
card_steps = record { answer = answer; next = next }

-- the steps m, run on the image c, serve the jobs as if they were run whole
pub record Serves (c : List ℕ) (jobs : List (Job Step)) (m : List Step) : Type 0 where
  -- the image at the end is that of running the jobs whole, one after another, in whichever order
  pub ends : (order : List (Job Step)) → Reordered jobs order → end card_steps c m ≡ end card_steps c (concat (lists order))
  -- and so is every step's answer: of each product the same steps stand in the same order, each with the same answer
  pub answers : (order : List (Job Step)) → Reordered jobs order → (p : ℕ) → entries_of owner p (log card_steps c m) ≡ entries_of owner p (log card_steps c (concat (lists order)))
  -- which is the answer that it would get with its job alone on the starting card
  pub alone : Every (λ (j : Job Step). entries_of owner j.product (log card_steps c m) ≡ log card_steps c j.steps) jobs
