-- Swapping independent neighbours changes no answer and not the end. Mixes of the same lists are swaps of each other.
use mathlib.Core.Path.{◌≡◌, refl, ◌∙◌, ap}
use mathlib.Core.List.{List, [], ◌∷◌, ◌++◌, map}
use mathlib.Core.Bool.{Bool, true, false}
use Rattle.mixing.specs.Run.{Machine, end, log}
use Rattle.mixing.specs.Alike.{Commute}
use Rattle.mixing.specs.Mix.{Every, EachTwo, keep, concat, Turn, here, there, Mix, done, turn, Swaps, same, swap, after, then, Reordered}

-- Every
pub every_map : {A : Type 0} {P Q : A → Type 0} → ((a : A) → P a → Q a) → (l : List A) → Every P l → Every Q l
every_map f [] h = tt
every_map f (a ∷ l) h = (f a h.0, every_map f l h.1)

pub every-both : {A : Type 0} {P Q R : A → Type 0} → ((a : A) → P a → Q a → R a) → (l : List A) → Every P l → Every Q l → Every R l
every-both f [] h k = tt
every-both f (a ∷ l) h k = (f a h.0 k.0, every-both f l h.1 k.1)

-- Swaps
module _ {A : Type 0} {I : A → A → Type 0} where
  pub back : ((a b : A) → I a b → I b a) → {l m : List A} → Swaps I l m → Swaps I m l
  back f same = same
  back f (swap {a} {b} i) = swap (f a b i)
  back f (after h) = after (back f h)
  back f (then h k) = then (back f k) (back f h)

  pub wider : {J : A → A → Type 0} → ((a b : A) → I a b → J a b) → {l m : List A} → Swaps I l m → Swaps J l m
  wider f same = same
  wider f (swap {a} {b} i) = swap (f a b i)
  wider f (after h) = after (wider f h)
  wider f (then h k) = then (wider f h) (wider f k)

  -- behind a list that stays
  pub behind : (a : List A) {l m : List A} → Swaps I l m → Swaps I (a ++ l) (a ++ m)
  behind [] h = h
  behind (x ∷ a) h = after (behind a h)

  -- an entry moves past a list that it is independent of
  pub past : {s : A} (a l : List A) → Every (I s) a → Swaps I (s ∷ (a ++ l)) (a ++ (s ∷ l))
  past [] l h = same
  past (x ∷ a) l h = then (swap h.0) (after (past a l h.1))

  -- a part whose entries are pairwise dependent keeps its order
  pub keeps : (p : A → Bool) → ((a b : A) → I a b → p a ≡ true → p b ≡ true → ⊥) → {l m : List A} → Swaps I l m → keep p l ≡ keep p m
  keeps p f same = refl
  keeps p f (swap {a} {b} {l} i) = two (p a) (p b) refl refl
    where
      pick : Bool → A → List A → List A
      pick c x r = elim c [ true ↦ x ∷ r | false ↦ r ]

      two : (c d : Bool) → p a ≡ c → p b ≡ d → pick c a (pick d b (keep p l)) ≡ pick d b (pick c a (keep p l))
      two true true e g = absurd (f a b i e g)
      two true false e g = refl
      two false true e g = refl
      two false false e g = refl
  keeps p f (after {a} h) = ap (λ r. elim (p a) [ true ↦ a ∷ r | false ↦ r ]) (keeps p f h)
  keeps p f (then h k) = keeps p f h ∙ keeps p f k

-- What a machine does over swaps
module _ {State Step Answer : Type 0} {M : Machine State Step Answer} {Good : State → Type 0} {Indep : Step → Step → Type 0} (C : Commute M Good Indep) where
  pub end-swaps : {l m : List Step} → Swaps Indep l m → (x : State) → Good x → end M x l ≡ end M x m
  end-swaps same x g = refl
  end-swaps (swap {a} {b} {l} i) x g = ap (λ y. end M y l) (C.states x a b g i)
  end-swaps (after {a} h) x g = end-swaps h (M.next x a) (C.stays x a g)
  end-swaps (then h k) x g = end-swaps h x g ∙ end-swaps k x g

  pub log-swaps : {l m : List Step} → Swaps Indep l m → (x : State) → Good x → Swaps (λ (e f : Step × Answer). Indep e.0 f.0) (log M x l) (log M x m)
  log-swaps same x g = same
  log-swaps (swap {a} {b} {l} i) x g = rw (C.answers x a b g i, C.answers x b a g (C.symmetric a b i), C.states x a b g i) (swap i)
  log-swaps (after {a} h) x g = after (log-swaps h (M.next x a) (C.stays x a g))
  log-swaps (then h k) x g = then (log-swaps h x g) (log-swaps k x g)

  -- steps that are independent of t answer the same after t
  pub log-away : (t : Step) (l : List Step) → Every (Indep t) l → (x : State) → Good x → log M (M.next x t) l ≡ log M x l
  log-away t [] h x g = refl
  log-away t (s ∷ l) h x g =
      rw (C.answers x s t g (C.symmetric t s h.0), C.states x t s g h.0) (ap (λ r. (s, M.answer x s) ∷ r) (log-away t l h.1 (M.next x s) (C.stays x s g)))

-- Mixes
-- Apart I a b: each entry of a is independent of each of b
abbrev pub Apart : {A : Type 0} → (A → A → Type 0) → List A → List A → Type 0
Apart I a b = Every (λ s. Every (λ t. I s t) b) a

module _ {A : Type 0} where
  empties : (js : List (List A)) → Every (λ (j : List A). j ≡ []) js → concat js ≡ []
  empties [] h = refl
  empties (j ∷ js) h = rw h.0 (empties js h.1)

  -- the lists one after another are a mix
  pub mix-concat : (js : List (List A)) → Mix js (concat js)
  mix-concat [] = done tt
  mix-concat (j ∷ js) = front j (mix-concat js)
    where
      none : {ks : List (List A)} {m : List A} → Mix ks m → Mix ([] ∷ ks) m
      none (done {js} h) = done {js = [] ∷ js} (refl, h)
      none (turn t h) = turn (there t) (none h)

      front : (j : List A) {ks : List (List A)} {m : List A} → Mix ks m → Mix (j ∷ ks) (j ++ m)
      front [] h = none h
      front (s ∷ r) h = turn here (front r h)

  -- in whichever order the lists stand, the mixes are the same
  turn-order : {js ks ls : List (List A)} {s : A} → Reordered js ks → Turn js s ls → (ns : List (List A)) × Turn ks s ns × Reordered ls ns
  turn-order {ls = ls} same t = (ls, t, same)
  turn-order (swap {b = b} {l = l} i) (here {r = r}) = (b ∷ r ∷ l, there here, swap tt)
  turn-order (swap i) (there {j = j} (here {r = r} {js = js})) = (r ∷ j ∷ js, here, swap tt)
  turn-order (swap i) (there {j = j} (there {j = k} {ks = ks} t)) = (k ∷ j ∷ ks, there (there t), swap tt)
  turn-order (after {m = m} h) (here {r = r}) = (r ∷ m, here, after h)
  turn-order (after h) (there {j = j} t) = let r = turn-order h t in (j ∷ r.0, there r.1, after r.2)
  turn-order (then h k) t = let r = turn-order h t in let q = turn-order k r.1 in (q.0, q.1, then r.2 q.2)

  every-order : (P : List A → Type 0) {js ks : List (List A)} → Reordered js ks → Every P js → Every P ks
  every-order P same h = h
  every-order P (swap i) h = (h.1.0, (h.0, h.1.1))
  every-order P (after r) h = (h.0, every-order P r h.1)
  every-order P (then r q) h = every-order P q (every-order P r h)

  pub mix-order : {js ks : List (List A)} {m : List A} → Reordered js ks → Mix js m → Mix ks m
  mix-order r (done h) = done (every-order (λ j. j ≡ []) r h)
  mix-order r (turn t h) = let q = turn-order r t in turn q.1 (mix-order q.2 h)

  -- the lists one after another, in whichever order, are a mix
  pub whole-mix : {js ks : List (List A)} → Reordered js ks → Mix js (concat ks)
  whole-mix {ks = ks} r = mix-order (back (λ _ _ _. tt) r) (mix-concat ks)

  -- Lists of which each two are apart: their mixes are swaps of each other.
  module _ (I : A → A → Type 0) (symmetric : (a b : A) → I a b → I b a) where
    -- what is left of the lists is apart
    turn-every : (a : List A) {js ks : List (List A)} {s : A} → Turn js s ks → Every (Apart I a) js → Every (Apart I a) ks
    turn-every a here h = (every_map (λ _ g. g.1) a h.0, h.1)
    turn-every a (there t) h = (h.0, turn-every a t h.1)

    pub turn-apart : {js ks : List (List A)} {s : A} → Turn js s ks → EachTwo (Apart I) js → EachTwo (Apart I) ks
    turn-apart (here {s = s} {r = r} {js = js}) h = (every_map {P = Apart I (s ∷ r)} {Q = Apart I r} (λ _ g. g.1) js h.0, h.1)
    turn-apart (there {j = j} t) h = (turn-every j t h.0, turn-apart t h.1)

    -- the entry taken is independent of what stands before its list
    pub taken : (a : List A) {js ks : List (List A)} {s : A} → Turn js s ks → Every (Apart I a) js → Every (I s) a
    taken a (here {s = s}) h = every_map (λ b g. symmetric b s g.0) a h.0
    taken a (there t) h = taken a t h.1

    turn-swaps : {js ks : List (List A)} {s : A} → Turn js s ks → EachTwo (Apart I) js → Swaps I (s ∷ concat ks) (concat js)
    turn-swaps here h = same
    turn-swaps (there {j = j} {ks = ks} t) h = then (past j (concat ks) (taken j t h.0)) (behind j (turn-swaps t h.1))

    pub mix-swaps : {js : List (List A)} {m : List A} → Mix js m → EachTwo (Apart I) js → Swaps I m (concat js)
    mix-swaps (done {js} h) a = rw (empties js h) same
    mix-swaps (turn t h) a = then (after (mix-swaps h (turn-apart t a))) (turn-swaps t a)

-- Mixes run: the log of a mix is a mix, turn by turn, of the logs that the lists have alone.
module _ {State Step Answer : Type 0} {M : Machine State Step Answer} {Good : State → Type 0} {Indep : Step → Step → Type 0} (C : Commute M Good Indep) where
  logs-away : (t : Step) (js : List (List Step)) → Every (Every (Indep t)) js → (x : State) → Good x → map (log M (M.next x t)) js ≡ map (log M x) js
  logs-away t [] h x g = refl
  logs-away t (j ∷ js) h x g = rw (log-away C t j h.0 x g, logs-away t js h.1 x g)

  turn-log : {js ks : List (List Step)} {s : Step} → Turn js s ks → EachTwo (Apart Indep) js → (x : State) → Good x
      → Turn (map (log M x) js) (s, M.answer x s) (map (log M (M.next x s)) ks)
  turn-log (here {s = s} {r = r} {js = js}) h x g = rw (logs-away s js (every_map {P = Apart Indep (s ∷ r)} {Q = Every (Indep s)} (λ _ f. f.0) js h.0) x g) here
  turn-log (there {j = j} {s = s} t) h x g = rw (log-away C s j (taken Indep C.symmetric j t h.0) x g) (there (turn-log t h.1 x g))

  logs-empty : (x : State) (js : List (List Step)) → Every (λ (j : List Step). j ≡ []) js → Every (λ (j : List (Step × Answer)). j ≡ []) (map (log M x) js)
  logs-empty x [] h = tt
  logs-empty x (j ∷ js) h = (ap (log M x) h.0, logs-empty x js h.1)

  pub mix-log : {js : List (List Step)} {m : List Step} → Mix js m → EachTwo (Apart Indep) js → (x : State) → Good x → Mix (map (log M x) js) (log M x m)
  mix-log (done {js} h) a x g = done (logs-empty x js h)
  mix-log (turn {s = s} t h) a x g = turn (turn-log t a x g) (mix-log h (turn-apart Indep C.symmetric t a) (M.next x s) (C.stays x s g))

  -- a mix is swaps of the lists whole, in whichever order
  pub mix-whole : {js ks : List (List Step)} {m : List Step} → EachTwo (Apart Indep) js → Reordered js ks → Mix js m → Swaps Indep m (concat ks)
  mix-whole {js = js} {ks = ks} a r h = then (mix-swaps Indep C.symmetric h a) (back C.symmetric (mix-swaps Indep C.symmetric (whole-mix r) a))

  -- THE THEOREM for lists of steps that are apart, by whatever independence.
  pub mixed-lists : {js ks : List (List Step)} {m : List Step} → EachTwo (Apart Indep) js → Reordered js ks → Mix js m → (x : State) → Good x
      → (end M x m ≡ end M x (concat ks)) × Mix (map (log M x) js) (log M x m) × Mix (map (log M x) js) (log M x (concat ks))
  mixed-lists a r h x g = (end-swaps C (mix-whole a r h) x g, mix-log h a x g, mix-log (whole-mix r) a x g)
