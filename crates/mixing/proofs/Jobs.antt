-- The theorem on jobs.
use mathlib.Core.Path.{◌≡◌, refl, sym, ◌∙◌, ap, subst}
use mathlib.Core.Logic.{◌≢◌}
use mathlib.Core.List.{List, [], ◌∷◌, ◌++◌, map, append-nil}
use mathlib.Core.Bool.{Bool, true, false, false≢true}
use Prim.Native.Nat.{ℕ}
use lib.Dec.{T, eqb, eqb→eq, eqb_refl}
use Rattle.mixing.specs.Run.{Machine, log}
use Rattle.mixing.specs.Alike.{Commute, steps_of, Other, Alike}
use Rattle.mixing.specs.Mix.{Every, EachTwo, concat, Mix, Swaps, same, swap, after, then, Reordered, Job, lists, Separate, entries_of}
use Rattle.mixing.proofs.Trace.{Apart, every_map, every-both, wider, keeps, end-swaps, log-swaps, log-away, mix-swaps, mix-whole}
use Rattle.mixing.proofs.Parts.{keep-yes, keep-no, keep-none, keep-every, keep_all, Clear, same_parts}

pub eqb-true : (m n : ℕ) → eqb m n ≡ true → m ≡ n
eqb-true m n e = eqb→eq m n (subst T (sym e) tt)

true_of : (b : Bool) → T b → b ≡ true
true_of true t = refl
true_of false t = absurd t

false_of : (b : Bool) → (b ≡ true → ⊥) → b ≡ false
false_of true h = absurd (h refl)
false_of false h = refl

eqb_of : (m n : ℕ) → m ≡ n → eqb m n ≡ true
eqb_of m n e = subst (λ (k : ℕ). eqb m k ≡ true) e (true_of (eqb m m) (eqb_refl m))

map_order : {A B : Type 0} (f : A → B) {l m : List A} → Reordered l m → Reordered (map f l) (map f m)
map_order f same = same
map_order f (swap i) = swap tt
map_order f (after h) = after (map_order f h)
map_order f (then h k) = then (map_order f h) (map_order f k)

module _ {Step : Type 0} (owner : Step → ℕ) where
  -- jobs on different products are apart
  two : (j k : Job Step) → Every (λ (s : Step). owner s ≡ j.product) j.steps → Every (λ (s : Step). owner s ≡ k.product) k.steps
      → j.product ≢ k.product → Apart (Other owner) j.steps k.steps
  two j k h g d = every_map (λ s e. every_map (λ t f q. d (sym e ∙ q ∙ f)) k.steps g) j.steps h

  separate : (jobs : List (Job Step)) → Separate owner jobs → EachTwo (Apart (Other owner)) (lists jobs)
  separate [] h = tt
  separate (j ∷ js) h = (first js h.own.1 h.distinct.0, separate js (record { own = h.own.1; distinct = h.distinct.1 }))
    where
      first : (ks : List (Job Step)) → Every (λ (k : Job Step). Every (λ (s : Step). owner s ≡ k.product) k.steps) ks
          → Every (λ (k : Job Step). j.product ≢ k.product) ks → Every (Apart (Other owner) j.steps) (lists ks)
      first [] g d = tt
      first (k ∷ ks) g d = (two j k h.own.0 g.0 d.0, first ks g.1 d.1)

  -- of the jobs whole, the steps of a job's product are the job's
  none-else : (p : ℕ) (js : List (Job Step)) → Every (λ (k : Job Step). Every (λ (s : Step). owner s ≡ k.product) k.steps) js
      → Every (λ (k : Job Step). p ≢ k.product) js → steps_of owner p (concat (lists js)) ≡ []
  none-else p [] h d = refl
  none-else p (k ∷ js) h d =
      keep-none (λ s. eqb (owner s) p) k.steps (concat (lists js)) (every_map (λ s e. false_of _ (λ q. d.0 (sym (eqb-true _ _ q) ∙ e))) k.steps h.0)
      ∙ none-else p js h.1 d.1

  steps-whole : (jobs : List (Job Step)) → Separate owner jobs → Every (λ (j : Job Step). steps_of owner j.product (concat (lists jobs)) ≡ j.steps) jobs
  steps-whole [] h = tt
  steps-whole (j ∷ js) h = (
    keep-every (λ s. eqb (owner s) j.product) j.steps (concat (lists js)) (every_map (λ s e. eqb_of _ _ e) j.steps h.own.0)
        ∙ ap (λ r. j.steps ++ r) (none-else j.product js h.own.1 h.distinct.0) ∙ append-nil j.steps,
    every-both
        (λ k d e. keep-none (λ s. eqb (owner s) k.product) j.steps (concat (lists js))
        (every_map (λ s f. false_of _ (λ q. d (sym f ∙ eqb-true _ _ q))) j.steps h.own.0) ∙ e)
        js h.distinct.0 (steps-whole js (record { own = h.own.1; distinct = h.distinct.1 })),
  )

  -- a mix keeps each job's own order
  pub mix-steps : (jobs : List (Job Step)) → Separate owner jobs → (m : List Step) → Mix (lists jobs) m
      → Every (λ (j : Job Step). steps_of owner j.product m ≡ j.steps) jobs
  mix-steps jobs sep m h =
      every_map (λ j e. keeps (λ s. eqb (owner s) j.product) (λ s t i a b. i (eqb-true _ _ a ∙ sym (eqb-true _ _ b))) swaps ∙ e) jobs (steps-whole jobs sep)
    where
      swaps : Swaps (Other owner) m (concat (lists jobs))
      swaps = mix-swaps (Other owner) (λ s t n e. n (sym e)) h (separate jobs sep)

module _ {State Step Answer : Type 0} (M : Machine State Step Answer) (owner : Step → ℕ) (Good : State → Type 0) (C : Commute M Good (Other owner)) where
  -- Lists of steps that are swaps of each other run alike.
  alike : {l m : List Step} → Swaps (Other owner) l m → (x : State) → Good x → Alike owner M x l m
  alike h x g = record {
    ends = end-swaps C h x g;
    answers = λ p. keeps (λ e. eqb (owner e.0) p) (λ e f i a b. i (eqb-true _ _ a ∙ sym (eqb-true _ _ b))) (log-swaps C h x g);
  }

  -- THE CORE. Lists of steps run alike if they have, of each product, the same steps in the same order.
  pub same-steps : (l m : List Step) → ((p : ℕ) → steps_of owner p l ≡ steps_of owner p m) → (x : State) → Good x → Alike owner M x l m
  same-steps l m h x g = alike (wider clear (same_parts touches some l m h)) x g
    where
      touches : Step → ℕ → Bool
      touches s p = eqb (owner s) p

      some : (s : Step) → (p : ℕ) × (touches s p ≡ true)
      some s = (owner s, eqb_of (owner s) (owner s) refl)

      clear : (s t : Step) → Clear touches s t → Other owner s t
      clear s t c e = c (owner t) (eqb_of (owner s) (owner t) e) (eqb_of (owner t) (owner t) refl)

  -- THE THEOREM. Whatever the mix of the jobs, it runs as the jobs whole, one after another, in whichever order.
  pub mixed : (jobs jobs' : List (Job Step)) → Separate owner jobs → Reordered jobs jobs' → (m : List Step) → Mix (lists jobs) m → (x : State) → Good x
      → Alike owner M x m (concat (lists jobs'))
  mixed jobs jobs' sep r m h x g = alike (mix-whole C (separate owner jobs sep) (map_order (λ j. j.steps) r) h) x g

  -- The entries of a product are the log of its steps alone.
  entries-alone : (p : ℕ) (m : List Step) (x : State) → Good x → entries_of owner p (log M x m) ≡ log M x (steps_of owner p m)
  entries-alone p [] x g = refl
  entries-alone p (s ∷ m) x g = go (eqb (owner s) p) refl (entries-alone p m (M.next x s) (C.stays x s g))
    where
      E : List (Step × Answer)
      E = log M (M.next x s) m

      go : (c : Bool) → eqb (owner s) p ≡ c → entries_of owner p E ≡ log M (M.next x s) (steps_of owner p m) → entries_of owner p (log M x (s ∷ m)) ≡ log M x (steps_of owner p (s ∷ m))
      go true e ih = keep-yes (λ e. eqb (owner e.0) p) (s, M.answer x s) E e ∙ ap (λ r. (s, M.answer x s) ∷ r) ih ∙ sym (ap (log M x) (keep-yes (λ s. eqb (owner s) p) s m e))
      go false e ih =
          keep-no (λ e. eqb (owner e.0) p) (s, M.answer x s) E e ∙ ih ∙ log-away C s (steps_of owner p m) (every_map (λ t f q. false≢true (sym e ∙ eqb_of _ _ (q ∙ eqb-true _ _ f))) (steps_of owner p m) (keep_all (λ s. eqb (owner s) p) m)) x g
          ∙ sym (ap (log M x) (keep-no (λ s. eqb (owner s) p) s m e))

  -- And each job answers as it would alone.
  pub alone : (jobs : List (Job Step)) → Separate owner jobs → (m : List Step) → Mix (lists jobs) m → (x : State) → Good x
      → Every (λ (j : Job Step). entries_of owner j.product (log M x m) ≡ log M x j.steps) jobs
  alone jobs sep m h x g =
      every_map (λ j e. entries-alone j.product m x g ∙ ap (log M x) e) jobs (mix-steps owner jobs sep m h)
