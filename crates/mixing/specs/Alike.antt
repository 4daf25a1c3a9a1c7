-- An annex: steps that may change places, and runs that are alike.
use Rattle.std.specs.Prelude.{◌≡◌, ◌≢◌, List, ℕ, eqb}
use Rattle.mixing.specs.Run.{Machine, end, log}
use Rattle.mixing.specs.Mix.{keep, entries_of}

module _ {State Step Answer : Type 0} (M : Machine State Step Answer) where
  -- Independent steps do not see each other, and may change places, in each state that is good.
  pub record Commute (Good : State → Type 0) (Indep : Step → Step → Type 0) : Type 0 where
    pub stays : (x : State) (s : Step) → Good x → Good (M.next x s)
    pub symmetric : (s t : Step) → Indep s t → Indep t s
    pub answers : (x : State) (s t : Step) → Good x → Indep s t → M.answer (M.next x t) s ≡ M.answer x s
    pub states : (x : State) (s t : Step) → Good x → Indep s t → M.next (M.next x s) t ≡ M.next (M.next x t) s

module _ {Step : Type 0} (owner : Step → ℕ) where
  -- the steps of a product, in order
  abbrev pub steps_of : ℕ → List Step → List Step
  steps_of p = keep (λ s. eqb (owner s) p)

  -- steps of different products
  abbrev pub Other : Step → Step → Type 0
  Other s t = owner s ≢ owner t

  -- The runs of m and n from x are alike: they end alike, and of each product the same steps stand in the same order with the same answers.
  pub record Alike {State Answer : Type 0} (M : Machine State Step Answer) (x : State) (m n : List Step) : Type 0 where
    pub ends : end M x m ≡ end M x n
    pub answers : (p : ℕ) → entries_of owner p (log M x m) ≡ entries_of owner p (log M x n)
