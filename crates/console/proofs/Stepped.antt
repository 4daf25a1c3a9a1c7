-- The image after a command that asks for a step. Assumes nothing.
use mathlib.Core.Path.{◌≡◌}
use mathlib.Core.List.{List}
use Prim.Native.Nat.{ℕ}
use Rattle.ticket.specs.Memory.{own_of}
use Rattle.ticket.proofs.Listed.{kind_facts}
use Rattle.steps.specs.Step.{write_all}
use Rattle.steps.specs.Steps.{next}
use Rattle.console.specs.declared.commands.Change.{Change}
use Rattle.console.specs.declared.commands.Change.TheVariants.{Record}
use Rattle.console.specs.Commands.{values_of, numbers_from}
use Rattle.console.specs.Changes.{step_of}
use Rattle.console.proofs.Numbers.{first_of}

module _ (a : Change) (c d ns : List ℕ) where
  pub whole : (j t r : ℕ) (vs : List ℕ) → a ≡ Record j t r → vs ≡ numbers_from 25 3 ns → d ≡ next c (write_all j t r (own_of t r vs)) → d ≡ next c (step_of a ns)
  unfolding values_of
  whole j t r vs e q h =
      let m : own_of t r vs ≡ numbers_from (values_of t r) 3 ns = rw q (first_of (values_of t r) 25 3 ns (kind_facts t r).many) in
      rw (e, ← m) h
