-- An annex: the walk that finds a chain or where it breaks. `f i` is the element of sector i, and S the number of sectors. Assumes nothing.
use Rattle.std.specs.Prelude.{List, [], ◌∷◌, Bool, true, false, ◌||◌, ℕ, zero, suc, ◌-◌, eqb, leb}
use Rattle.chains.specs.Breaks.{Fault, is_zero, is_above, is_passed, Break, break_at}

pub data Link : Type 0 where
  end : ℕ → Link
  to : ℕ → Link
  bad : Fault → Link

abbrev pub pick_link : Bool → Link → Link → Link
pick_link true a b = a
pick_link false a b = b

-- what the element x of sector i says
unfoldable pub link : ℕ → ℕ → ℕ → Link
link S i x =
    pick_link (eqb x i) (end 0)
    (pick_link (eqb x (S - 1)) (end 1)
    (pick_link (eqb x (S - 2)) (end 2) (pick_link (leb 1 x) (pick_link (leb x (S - 3)) (to x) (bad is_above)) (bad is_zero))))

unfoldable pub member : ℕ → List ℕ → Bool
member x [] = false
member x (y ∷ ys) = eqb x y || member x ys

-- and what it says with the sectors ps passed
abbrev pub past : List ℕ → Link → Link
past ps (end m) = end m
past ps (to x) = pick_link (member x ps) (bad is_passed) (to x)
past ps (bad w) = bad w

pub data Walk : Type 0 where
  found : List ℕ → ℕ → Walk
  broken : Break → Walk

abbrev pub after : ℕ → Walk → Walk
after i (found ss m) = found (i ∷ ss) m
after i (broken b) = broken b

abbrev pub on_link : List ℕ → ℕ → Link → (ℕ → Walk) → Walk
on_link ps i (end m) k = found (i ∷ []) m
on_link ps i (to x) k = after i (k x)
on_link ps i (bad w) k = broken (break_at ps i w)

-- the walk from sector i, with the sectors ps passed before it and n still allowed; where S - 3 are allowed in all, it does not run out of them
unfoldable pub walk_on : (ℕ → ℕ) → ℕ → List ℕ → ℕ → ℕ → Walk
walk_on f S ps i zero = broken (break_at ps i is_passed)
walk_on f S ps i (suc n) = on_link ps i (past ps (link S i (f i))) (λ x. walk_on f S (i ∷ ps) x n)

-- the walk from sector i, with n sectors allowed
abbrev pub walk : (ℕ → ℕ) → ℕ → ℕ → ℕ → Walk
walk f S i n = walk_on f S [] i n
