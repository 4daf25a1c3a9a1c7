-- An annex: where a chain breaks, in the words of document 01, "Sector chains": "if it meets 0 or a number above S-1, or returns to a sector it has
-- passed". Assumes nothing.
use Rattle.std.specs.Prelude.{◌≡◌, List, ◌∷◌, ℕ, ◌-◌, ◌<◌, length}
use Rattle.chains.specs.Chain.{In, Names}

-- what is wrong with an element: it is 0, it is above S - 1, or it names a sector already passed
pub data Fault : Type 0 where
  is_zero : Fault
  is_above : Fault
  is_passed : Fault

-- the element x has that fault, with the sectors ps passed
pub data Bad (S : ℕ) (ps : List ℕ) (x : ℕ) : Fault → Type 0 where
  zero_met : x ≡ 0 → Bad S ps x is_zero
  above_met : S - 1 < x → Bad S ps x is_above
  comes_back : In x ps → Bad S ps x is_passed

-- the sector whose element is bad, what is wrong with it, and the number of elements consulted, this one included
pub record Break : Type 0 where
  pub sector : ℕ
  pub fault : Fault
  pub consulted : ℕ

-- the element of sector i is bad, with the sectors ps passed before it
abbrev pub break_at : List ℕ → ℕ → Fault → Break
break_at ps i w = record { sector = i; fault = w; consulted = length (i ∷ ps) }

-- from sector i, with the sectors ps passed before it, the elements lead through sectors not passed yet to the first bad one: the break b
pub data Breaks (f : ℕ → ℕ) (S : ℕ) : List ℕ → ℕ → Break → Type 0 where
  here : {ps : List ℕ} {i : ℕ} {w : Fault} → Bad S ps (f i) w → Breaks f S ps i (break_at ps i w)
  onward : {ps : List ℕ} {i : ℕ} {b : Break} → Names S i (f i) → (In (f i) ps → ⊥) → Breaks f S (i ∷ ps) (f i) b → Breaks f S ps i b
