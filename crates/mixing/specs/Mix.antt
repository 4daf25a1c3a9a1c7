-- Jobs, and the ways to mix them (the request, demand 3).
use Rattle.std.specs.Prelude.{◌≡◌, ◌≢◌, List, [], ◌∷◌, ◌++◌, map, Bool, true, false, ℕ, eqb}

-- P holds of each entry; R holds of each two entries, the earlier one first.
abbrev pub Every : {A : Type 0} → (A → Type 0) → List A → Type 0
Every P [] = Unit {0}
Every P (a ∷ l) = P a × Every P l

abbrev pub EachTwo : {A : Type 0} → (A → A → Type 0) → List A → Type 0
EachTwo R [] = Unit {0}
EachTwo R (a ∷ l) = Every (R a) l × EachTwo R l

abbrev pub keep : {A : Type 0} → (A → Bool) → List A → List A  -- the entries that pass the test, in order
keep p [] = []
keep p (a ∷ l) = elim (p a) [ true ↦ a ∷ keep p l | false ↦ keep p l ]

abbrev pub concat : {A : Type 0} → List (List A) → List A  -- lists one after another
concat [] = []
concat (l ∷ ls) = l ++ concat ls

-- Turn js s ks: of the lists js one has s as its next entry, and ks is what is left when it has been taken.
pub data Turn {A : Type 0} : List (List A) → A → List (List A) → Type 0 where
  here : {s : A} {r : List A} {js : List (List A)} → Turn ((s ∷ r) ∷ js) s (r ∷ js)
  there : {j : List A} {js ks : List (List A)} {s : A} → Turn js s ks → Turn (j ∷ js) s (j ∷ ks)

-- Mix js m: m is made by taking, again and again, the next entry of one of the lists js, until all are empty.
pub data Mix {A : Type 0} : List (List A) → List A → Type 0 where
  done : {js : List (List A)} → Every (λ (j : List A). j ≡ []) js → Mix js []
  turn : {js ks : List (List A)} {s : A} {m : List A} → Turn js s ks → Mix ks m → Mix js (s ∷ m)

-- Swaps I l m: l becomes m by changing the places of neighbours, each pair one that I allows.
pub data Swaps {A : Type 0} (I : A → A → Type 0) : List A → List A → Type 0 where
  same : {l : List A} → Swaps I l l
  swap : {a b : A} {l : List A} → I a b → Swaps I (a ∷ b ∷ l) (b ∷ a ∷ l)
  after : {a : A} {l m : List A} → Swaps I l m → Swaps I (a ∷ l) (a ∷ m)
  then : {l m n : List A} → Swaps I l m → Swaps I m n → Swaps I l n

abbrev pub Reordered : {A : Type 0} → List A → List A → Type 0  -- the same entries in whichever order
Reordered {A = A} = Swaps (λ (a b : A). Unit {0})

-- A job: its product, and its steps on it.
pub record Job (Step : Type 0) : Type 0 where
  pub product : ℕ
  pub steps : List Step

abbrev pub lists : {Step : Type 0} → List (Job Step) → List (List Step)
lists = map (λ j. j.steps)

module _ {Step : Type 0} (owner : Step → ℕ) where
  -- each job's steps are on its product, and no two jobs are on the same product
  pub record Separate (jobs : List (Job Step)) : Type 0 where
    pub own : Every (λ (j : Job Step). Every (λ (s : Step). owner s ≡ j.product) j.steps) jobs
    pub distinct : EachTwo (λ (j k : Job Step). j.product ≢ k.product) jobs

  -- the entries of a log that are of a product's steps, in order
  abbrev pub entries_of : {Answer : Type 0} → ℕ → List (Step × Answer) → List (Step × Answer)
  entries_of p = keep (λ e. eqb (owner e.0) p)
