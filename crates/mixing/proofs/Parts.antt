-- Lists of steps of which every part is the same are swaps of each other. A part is what touches one thing k; a step may touch many things.
use mathlib.Core.Path.{◌≡◌, refl, sym, ◌∙◌, ap}
use mathlib.Core.List.{List, [], ◌∷◌, ◌++◌, nil≢cons, head-eq_of_cons-eq, tail-eq_of_cons-eq}
use mathlib.Core.Bool.{Bool, true, false, false≢true}
use Rattle.mixing.specs.Mix.{Every, keep, Swaps, same, after, then}
use Rattle.mixing.specs.Run.{Machine, end, log}
use Rattle.mixing.specs.Alike.{Commute}
use Rattle.mixing.proofs.Trace.{past, keeps, end-swaps, log-swaps}

module _ {A : Type 0} (p : A → Bool) where
  pub keep-yes : (a : A) (l : List A) → p a ≡ true → keep p (a ∷ l) ≡ a ∷ keep p l
  keep-yes a l e = rw (e, keep)

  pub keep-no : (a : A) (l : List A) → p a ≡ false → keep p (a ∷ l) ≡ keep p l
  keep-no a l e = rw (e, keep)

  pub keep-none : (a b : List A) → Every (λ (s : A). p s ≡ false) a → keep p (a ++ b) ≡ keep p b
  keep-none [] b h = refl
  keep-none (s ∷ a) b h = keep-no s (a ++ b) h.0 ∙ keep-none a b h.1

  pub keep-every : (a b : List A) → Every (λ (s : A). p s ≡ true) a → keep p (a ++ b) ≡ a ++ keep p b
  keep-every [] b h = refl
  keep-every (s ∷ a) b h = keep-yes s (a ++ b) h.0 ∙ ap (λ r. s ∷ r) (keep-every a b h.1)

  pub keep_all : (l : List A) → Every (λ (s : A). p s ≡ true) (keep p l)
  keep_all [] = tt
  keep_all (s ∷ l) = go (p s) refl (keep_all l)
    where
      go : (c : Bool) → p s ≡ c → Every (λ (s : A). p s ≡ true) (keep p l) → Every (λ (s : A). p s ≡ true) (keep p (s ∷ l))
      go true e h = rw (keep-yes s l e) (e, h)
      go false e h = rw (keep-no s l e) h

  pub keep-skip : (a b : List A) (s : A) → p s ≡ false → keep p (a ++ (s ∷ b)) ≡ keep p (a ++ b)
  keep-skip [] b s e = keep-no s b e
  keep-skip (t ∷ a) b s e = ap (λ r. elim (p t) [ true ↦ t ∷ r | false ↦ r ]) (keep-skip a b s e)

  -- where the first entry that is kept stands
  pub record First (s : A) (m : List A) : Type 0 where
    pub before : List A
    pub behind : List A
    pub is : m ≡ before ++ (s ∷ behind)
    pub none : Every (λ (t : A). p t ≡ false) before

  pub first : (s : A) (m r : List A) → keep p m ≡ s ∷ r → First s m
  first s [] r e = absurd (nil≢cons e)
  first s (t ∷ m) r e = go (p t) refl (first s m r)
    where
      go : (c : Bool) → p t ≡ c → (keep p m ≡ s ∷ r → First s m) → First s (t ∷ m)
      go true g f = record { before = []; behind = m; is = ap (λ a. a ∷ m) (head-eq_of_cons-eq (sym (keep-yes t m g) ∙ e)); none = tt }
      go false g f =
          let q = f (sym (keep-no t m g) ∙ e) in
          record { before = t ∷ q.before; behind = q.behind; is = ap (λ l. t ∷ l) q.is; none = (g, q.none) }

module _ {A K : Type 0} (touches : A → K → Bool) where
  -- what touches k, in order
  abbrev pub part : K → List A → List A
  part k = keep (λ a. touches a k)

  -- nothing is touched by both
  abbrev pub Clear : A → A → Type 0
  Clear a b = (k : K) → touches a k ≡ true → touches b k ≡ true → ⊥

module _ {A K : Type 0} (touches : A → K → Bool) (some : (a : A) → (k : K) × (touches a k ≡ true)) where
  -- Before the first step s that touches o, no step touches a thing k that s touches and whose part begins with s.
  clear-before : (s : A) (o k : K) → touches s o ≡ true → (a b r : List A) → Every (λ (t : A). touches t o ≡ false) a → part touches k (a ++ b) ≡ s ∷ r
      → Every (λ (t : A). touches t k ≡ false) a
  clear-before s o k g [] b r h e = tt
  clear-before s o k g (t ∷ a) b r h e = go (touches t k) refl (clear-before s o k g a b r h.1)
    where
      go : (c : Bool) → touches t k ≡ c → (part touches k (a ++ b) ≡ s ∷ r → Every (λ (t : A). touches t k ≡ false) a) → Every (λ (t : A). touches t k ≡ false) (t ∷ a)
      go true f ih = absurd (false≢true (sym h.0 ∙ ap (λ u. touches u o) (head-eq_of_cons-eq (sym (keep-yes (λ a. touches a k) t (a ++ b) f) ∙ e)) ∙ g))
      go false f ih = (f, ih (sym (keep-no (λ a. touches a k) t (a ++ b) f) ∙ e))

  -- an entry that touches nothing of a list's parts, thing by thing, is clear of it
  gather : (s : A) (a : List A) → ((k : K) → touches s k ≡ true → Every (λ (t : A). touches t k ≡ false) a) → Every (Clear touches s) a
  gather s [] h = tt
  gather s (t ∷ a) h = (λ k e f. false≢true (sym (h k e).0 ∙ f), gather s a (λ k e. (h k e).1))

  -- the step that one list begins with, brought out of the other
  record Brought (s : A) (l m : List A) : Type 0 where
    before : List A
    behind : List A
    is : m ≡ before ++ (s ∷ behind)
    clear : Every (Clear touches s) before
    rest : (k : K) → part touches k l ≡ part touches k (before ++ behind)

  bring : (s : A) (l m : List A) → ((k : K) → part touches k (s ∷ l) ≡ part touches k m) → Brought s l m
  bring s l m h = record { before = a; behind = b; is = F.is; clear = gather s a clear; rest = λ k. rest k (touches s k) refl }
    where
      o : K
      o = (some s).0

      F : First (λ a. touches a o) s m
      F = first (λ a. touches a o) s m (part touches o l) (sym (h o) ∙ keep-yes (λ a. touches a o) s l (some s).1)

      a : List A
      a = F.before

      b : List A
      b = F.behind

      here : (k : K) → part touches k (s ∷ l) ≡ part touches k (a ++ (s ∷ b))
      here k = h k ∙ ap (part touches k) F.is

      clear : (k : K) → touches s k ≡ true → Every (λ (t : A). touches t k ≡ false) a
      clear k e = clear-before s o k (some s).1 a (s ∷ b) (part touches k l) F.none (sym (here k) ∙ keep-yes (λ a. touches a k) s l e)

      rest : (k : K) (c : Bool) → touches s k ≡ c → part touches k l ≡ part touches k (a ++ b)
      rest k true e =
          tail-eq_of_cons-eq (sym (keep-yes (λ a. touches a k) s l e) ∙ here k ∙ keep-none (λ a. touches a k) a (s ∷ b) (clear k e) ∙ keep-yes (λ a. touches a k) s b e)
          ∙ sym (keep-none (λ a. touches a k) a b (clear k e))
      rest k false e = sym (keep-no (λ a. touches a k) s l e) ∙ here k ∙ keep-skip (λ a. touches a k) a b s e

  pub same_parts : (l m : List A) → ((k : K) → part touches k l ≡ part touches k m) → Swaps (Clear touches) l m
  same_parts [] [] h = same
  same_parts [] (t ∷ m) h = absurd (nil≢cons (h (some t).0 ∙ keep-yes (λ a. touches a (some t).0) t m (some t).1))
  same_parts (s ∷ l) m h =
      let B = bring s l m h in
      rw B.is (then (after (same_parts l (B.before ++ B.behind) B.rest)) (past B.before B.behind B.clear))

  -- and the other way round
  pub parts_same : {l m : List A} → Swaps (Clear touches) l m → (k : K) → part touches k l ≡ part touches k m
  parts_same h k = keeps (λ a. touches a k) (λ _ _ i e f. i k e f) h

-- Runs of lists whose every part is the same: the same end, and each part's steps have the same answers.
module _ {State Step Answer K : Type 0} {M : Machine State Step Answer} {Good : State → Type 0}
    (touches : Step → K → Bool) (some : (s : Step) → (k : K) × (touches s k ≡ true)) (C : Commute M Good (Clear touches)) where
  pub same-parts-run : (l m : List Step) → ((k : K) → part touches k l ≡ part touches k m) → (x : State) → Good x
      → (end M x l ≡ end M x m) × ((k : K) → keep (λ e. touches e.0 k) (log M x l) ≡ keep (λ e. touches e.0 k) (log M x m))
  same-parts-run l m h x g =
      let w = same_parts touches some l m h in
      (end-swaps C w x g, λ k. keeps (λ e. touches e.0 k) (λ _ _ i a b. i k a b) (log-swaps C w x g))
