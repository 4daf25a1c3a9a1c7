-- The walk that looks at no sector twice is right, and does not run out: the sectors met are distinct, as many as the elements consulted; a sector met
-- from a lower entry leads to an end, so that a walk that reaches it does; and a walk that reaches a sector of its own comes back.
-- Assumes nothing.
use mathlib.Core.Path.{◌≡◌, refl, sym, ap, ◌∙◌}
use mathlib.Core.Logic.{◌≢◌, inl, inr, ⊎_elim}
use mathlib.Core.Bool.{Bool, true, false}
use mathlib.Core.List.{List, [], ◌∷◌}
use Prim.Native.Nat.{ℕ, zero, suc, ◌+◌, ◌-◌, ◌≤◌, ◌<◌}
use native.Mathlib.Omega.{arith}
use native.Mathlib.Numerals.{add-one, sub-one}
use native.Mathlib.Decide.{ℕ_discrete}
use lib.ListN.{length, get_or, set, replicate, length-set}
use lib.Seq.{get_or-set_same, get_or-set_other}
use borrow.Author.Tests.{eq-eqb, ne_eqb}
use Rattle.chains.specs.Chain.{Sector, Names, Leads, last, then, In, Common, Distinct, Chain, NoChain}
use Rattle.chains.specs.Breaks.{Fault, Bad}
use Rattle.chains.specs.Walk.{Link, link}
use Rattle.chains.specs.Products.{broken_at}
use Rattle.chains.specs.Owners.{Followed, stop, again, by_owner, by_link, follow}
use Rattle.chains.proofs.Laws.{View, v_end, v_to, v_bad, view, ends-or-names, ends-or-bad, names-or-bad, no_return, leads-distinct, first_in}
use Rattle.chains.proofs.Distinct.{few}
use Rattle.chains.proofs.ProductLaws.{Tested, broken-so, so-broken}
use Rattle.chains.proofs.Seen.{zeros}

-- from sector i the elements lead to an end
abbrev pub Sound : (ℕ → ℕ) → ℕ → ℕ → Type 0
Sound f S i = (ss : List ℕ) × (m : ℕ) × Leads f S i ss m

-- the elements lead from sector k through the sectors ps, the latest first, to sector i
data Reach (f : ℕ → ℕ) (S k : ℕ) : List ℕ → ℕ → Type 0 where
  start : Reach f S k [] k
  step : {ps : List ℕ} {i x : ℕ} → Reach f S k ps i → Names S i (f i) → x ≡ f i → Reach f S k (i ∷ ps) x

module _ (f : ℕ → ℕ) (S : ℕ) where
  -- what names a sector from which the elements lead to an end leads to one too, and the other way round
  onward : {i : ℕ} → Names S i (f i) → Sound f S (f i) → Sound f S i
  onward {i} a z = (i ∷ z.0, z.1, then a z.2)

  back : {i m : ℕ} {ss : List ℕ} → Sector S i → Names S i (f i) → Leads f S i ss m → Sound f S (f i)
  back s a (last b) = absurd (ends-or-names s b a)
  back {m = m} s a (then {ss = ss} b p) = (ss, m, p)

  bad-none : {i m : ℕ} {w : Fault} {ss : List ℕ} → Sector S i → Bad S [] (f i) w → Leads f S i ss m → ⊥
  bad-none s b (last a) = ends-or-bad s a b
  bad-none s b (then a p) = names-or-bad s a b

  module _ {k : ℕ} (s : Sector S k) where
    reach-sector : {ps : List ℕ} {i : ℕ} → Reach f S k ps i → Sector S i
    reach-sector start = s
    reach-sector (step r a e) = rw e a.sector

    -- where the elements lead to an end from sector k, they do from sector i
    reach-on : {ps : List ℕ} {i : ℕ} → Reach f S k ps i → Sound f S k → Sound f S i
    reach-on start z = z
    reach-on (step r a e) z = rw e (back (reach-sector r) a (reach-on r z).2)

    -- and then they do not come back
    reach-apart : {ps ss : List ℕ} {i m : ℕ} → Reach f S k ps i → Leads f S i ss m → Common ss ps → ⊥
    reach-apart start p c = c.2
    reach-apart {ss = ss} {m = m} (step {ps = ps} {i = i} r a e) p c =
        let q : Leads f S (f i) ss m = rw (← e) p in
        no_return f S ps (reach-sector r) a q (λ d. reach-apart r (then a q) d) c

    -- where they do from sector i, they do from every sector on the way
    reach-all : {ps : List ℕ} {i : ℕ} → Reach f S k ps i → Sound f S i → (x : ℕ) → In x (i ∷ ps) → Sound f S x
    reach-all start z x (inl e) = rw e z
    reach-all start z x (inr h) = absurd h
    reach-all (step r a e) z x (inl q) = rw q z
    reach-all (step r a e) z x (inr h) = reach-all r (onward a (rw e at z)) x h

    reach-first : {ps : List ℕ} {i : ℕ} → Reach f S k ps i → In k (i ∷ ps)
    reach-first start = inl refl
    reach-first (step r a e) = inr (reach-first r)

    -- the walk has come back to a sector of its own
    reach-again : {ps : List ℕ} {i : ℕ} → Reach f S k ps i → In i ps → Sound f S k → ⊥
    reach-again {i = i} r h z = let l = reach-on r z in reach-apart r l.2 (i, first_in f S l.2, h)

-- the sectors ms are those that have an owner; with n elements still allowed, one was consulted for each
record Met (S n : ℕ) (owner ms : List ℕ) : Type 0 where
  once : Distinct ms
  sectors : (x : ℕ) → In x ms → Sector S x
  marked : (x : ℕ) → In x ms → get_or owner x 0 ≢ 0
  only : (x : ℕ) → get_or owner x 0 ≢ 0 → In x ms
  counted : length ms + n ≡ S - 3

module _ {S n : ℕ} {owner ms : List ℕ} (m : Met S n owner ms) {i : ℕ} (s : Sector S i) (free : get_or owner i 0 ≡ 0) where
  once_more : Distinct (i ∷ ms)
  once_more = ((λ h. m.marked i h free), m.once)

  sectors-more : (x : ℕ) → In x (i ∷ ms) → Sector S x
  sectors-more x (inl e) = rw e s
  sectors-more x (inr h) = m.sectors x h

  -- while a sector is not met, an element may still be consulted
  met-left : n ≢ 0
  met-left z = omega (arith, m.counted, few (S - 3) (i ∷ ms) once_more (λ x h. let t = sectors-more x h in (t.low, t.high)))

  met-more : {k l : ℕ} → n ≡ suc l → k ≢ 0 → i < length owner → Met S l (set owner i k) (i ∷ ms)
  met-more {k} {l} e z fits = record { once = once_more; sectors = sectors-more; marked = marked; only = only; counted = omega (arith, m.counted) }
    where
      same : (x : ℕ) → x ≡ i → get_or (set owner i k) x 0 ≡ k
      same x e = rw e (get_or-set_same owner i k 0 fits)

      marked : (x : ℕ) → In x (i ∷ ms) → get_or (set owner i k) x 0 ≢ 0
      marked x (inl e) q = z (sym (same x e) ∙ q)
      marked x (inr h) q = m.marked x h (sym (get_or-set_other owner i x k 0 (λ e. m.marked x h (ap (λ (y : ℕ). get_or owner y 0) e ∙ free))) ∙ q)

      only : (x : ℕ) → get_or (set owner i k) x 0 ≢ 0 → In x (i ∷ ms)
      only x h = elim (ℕ_discrete x i) [
        | yes e ↦ inl e
        | no d ↦ inr (m.only x (λ q. h (get_or-set_other owner i x k 0 d ∙ q)))
      ]

-- the products below k were followed, none is broken, and n elements are still allowed
pub record Owners (f : ℕ → ℕ) (S k n : ℕ) (owner : List ℕ) : Type 0 where
  ms : List ℕ
  met : Met S n owner ms
  below : (x : ℕ) → get_or owner x 0 < k
  sound : (x : ℕ) → In x ms → Sound f S x
  pub room : length owner ≡ 256

-- while entry k's sectors are followed: ps are those that it has met, ms those that any has
record Kept (f : ℕ → ℕ) (S k n : ℕ) (owner ps ms : List ℕ) : Type 0 where
  met : Met S n owner ms
  own : (x : ℕ) → get_or owner x 0 ≡ k → In x ps
  most : (x : ℕ) → get_or owner x 0 ≤ k
  lower : (x : ℕ) → In x ms → get_or owner x 0 ≢ k → Sound f S x
  room : length owner ≡ 256

-- what is known of k's chain when its walk stops
data Outcome (f : ℕ → ℕ) (S k : ℕ) : ℕ → List ℕ → Type 0 where
  broke : {owner : List ℕ} → (Sound f S k → ⊥) → Outcome f S k 0 owner
  went : {n : ℕ} {owner : List ℕ} → Sound f S k → Owners f S (suc k) n owner → Outcome f S k (suc n) owner

module _ (f : ℕ → ℕ) (S : ℕ) (top : S ≤ 255) {k : ℕ} (s : Sector S k) where
  -- the walk stops at a sector i from which the elements lead to an end
  arrived : {n i : ℕ} {owner os ps ms : List ℕ} → Kept f S k n owner os ms → Reach f S k ps i → ((x : ℕ) → In x os → In x (i ∷ ps)) → Sound f S i → Outcome f S k (suc n) owner
  arrived {owner = owner} {ms = ms} w r h z =
      let all = reach-all f S s r z in
      went (all k (reach-first f S s r))
      (record { ms = ms; met = w.met; below = λ x. omega (arith, w.most x); sound = λ x q. elim (ℕ_discrete (get_or owner x 0) k) [ yes e ↦ all x (h x (w.own x e)) | no d ↦ w.lower x q d ]; room = w.room })

  -- it meets a sector that none has met
  mark : {n l i : ℕ} {owner ps ms : List ℕ} → Kept f S k n owner ps ms → Sector S i → n ≡ suc l → get_or owner i 0 ≡ 0 → Kept f S k l (set owner i k) (i ∷ ps) (i ∷ ms)
  mark {i = i} {owner = owner} {ps = ps} {ms = ms} w t e free =
      record { met = met-more w.met t free e (λ q. omega (arith, s.low, q)) fits; own = own; most = most; lower = lower; room = length-set owner i k ∙ w.room }
    where
      fits : i < length owner
      fits = omega (arith, w.room, t.high)

      own : (x : ℕ) → get_or (set owner i k) x 0 ≡ k → In x (i ∷ ps)
      own x q = elim (ℕ_discrete x i) [ yes e ↦ inl e | no d ↦ inr (w.own x (sym (get_or-set_other owner i x k 0 d) ∙ q)) ]

      most : (x : ℕ) → get_or (set owner i k) x 0 ≤ k
      most x = elim (ℕ_discrete x i) [
        | yes e ↦ rw (e, get_or-set_same owner i k 0 fits) (omega arith)
        | no d ↦ rw (get_or-set_other owner i x k 0 d) (w.most x)
      ]

      lower : (x : ℕ) → In x (i ∷ ms) → get_or (set owner i k) x 0 ≢ k → Sound f S x
      lower x h d = elim (ℕ_discrete x i) [
        | yes e ↦ absurd (d (rw e (get_or-set_same owner i k 0 fits)))
        | no z ↦ w.lower x (⊎_elim (λ e. absurd (z e)) (λ q. q) h) (λ q. d (get_or-set_other owner i x k 0 z ∙ q))
      ]

  -- it meets one that has an owner
  met-again : {n i o : ℕ} {owner ps ms : List ℕ} → Kept f S k n owner ps ms → Reach f S k ps i → get_or owner i 0 ≡ suc o → Outcome f S k (again k (suc o) n) owner
  met-again {n} {i} {o} {owner} {ps} {ms} w r e = elim (ℕ_discrete (suc o) k) [
    | yes q ↦ rw (eq-eqb (suc o) k q) (broke (reach-again f S s r (w.own i (e ∙ q))))
    | no d ↦ rw (ne_eqb (suc o) k d) (arrived w r (λ x h. inr h) (w.lower i (w.met.only i (λ z. omega (arith, e, z))) (λ q. d (sym e ∙ q))))
  ]

  outcome : (n : ℕ) (owner : List ℕ) (i : ℕ) (ps ms : List ℕ) → Kept f S k n owner ps ms → Reach f S k ps i → Outcome f S k (follow f S k n owner i).answer (follow f S k n owner i).owner
  unfolding follow
  outcome zero owner i ps ms w r = go (get_or owner i 0) refl
    where
      go : (o : ℕ) → get_or owner i 0 ≡ o → (let y = by_owner o (stop 0 owner) (stop (again k o 0) owner) in Outcome f S k y.answer y.owner)
      go zero e = absurd (met-left w.met (reach-sector f S s r) e refl)
      go (suc o) e = met-again w r e
  outcome (suc n) owner i ps ms w r = go (get_or owner i 0) refl (outcome n (set owner i k) (f i) (i ∷ ps) (i ∷ ms))
    where
      On : Type 0
      On = Kept f S k n (set owner i k) (i ∷ ps) (i ∷ ms) → Reach f S k (i ∷ ps) (f i) → Outcome f S k (follow f S k n (set owner i k) (f i)).answer (follow f S k n (set owner i k) (f i)).owner

      new : get_or owner i 0 ≡ 0 → On → {l : Link} → View S i (f i) l → (let y = by_link l n (set owner i k) (λ x. follow f S k n (set owner i k) x) in Outcome f S k y.answer y.owner)
      new e ih (v_end {m = m} a) = arrived (mark w (reach-sector f S s r) refl e) r (λ x h. h) (i ∷ [], m, last a)
      new e ih (v_to a) = ih (mark w (reach-sector f S s r) refl e) (step r a refl)
      new e ih (v_bad b) = broke (λ z. bad-none f S (reach-sector f S s r) b (reach-on f S s r z).2)

      go : (o : ℕ) → get_or owner i 0 ≡ o → On → (let y = by_owner o (by_link (link S i (f i)) n (set owner i k) (λ x. follow f S k n (set owner i k) x)) (stop (again k o (suc n)) owner) in Outcome f S k y.answer y.owner)
      go zero e ih = new e ih (view S i (f i))
      go (suc o) e ih = met-again w r e

  -- ---- as the pass goes by it

  begun : {n : ℕ} {owner : List ℕ} (o : Owners f S k n owner) → Kept f S k n owner [] o.ms
  begun o =
      record { met = o.met; own = λ x e. omega (arith, e, o.below x); most = λ x. omega (arith, o.below x); lower = λ x h d. o.sound x h; room = o.room }

  module _ {n r : ℕ} {owner after : List ℕ} (o : Owners f S k n owner) (e : stop r after ≡ follow f S k n owner k) where
    told : Outcome f S k r after
    told = rw (ap (λ (y : Followed). y.answer) e, ap (λ (y : Followed). y.owner) e) (outcome n owner k [] o.ms (begun o) start)

    -- 0 tells that there is no chain
    follow-none : r ≡ 0 → NoChain f S k
    follow-none z ss m c = go told z
      where
        go : {x : ℕ} {l : List ℕ} → Outcome f S k x l → x ≡ 0 → ⊥
        go (broke h) y = h (ss, m, c.leads)
        go (went h w) y = omega arith

    -- any other number that there is one, and how many elements are still allowed
    follow-some : r ≢ 0 → ((ss : List ℕ) × (m : ℕ) × Chain f S k ss m) × Owners f S (k + 1) (r - 1) after
    follow-some z = go told z
      where
        go : {x : ℕ} {l : List ℕ} → Outcome f S k x l → x ≢ 0 → ((ss : List ℕ) × (m : ℕ) × Chain f S k ss m) × Owners f S (k + 1) (x - 1) l
        go (broke h) y = absurd (y refl)
        go (went h w) y = ((h.0, h.1, record { leads = h.2; once = leads-distinct f S s h.2 }), rw (add-one, sub-one) w)

-- what the walk of product k tells
module _ {P : ℕ → Type 0} {p : ℕ → Bool} {S : ℕ} (t : Tested P p S) (f : ℕ → ℕ) (top : S ≤ 255) {k n r : ℕ} {owner after : List ℕ} (o : Owners f S k n owner) (v : p k ≡ true) (e : stop r after ≡ follow f S k n owner k) where
  here : Sector S k
  here = t.sector k (t.so k v)

  pub follow-broken : r ≡ 0 → broken_at p f S k ≡ true
  follow-broken z = so-broken t f k (record { is-product = t.so k v; none = follow-none f S top here o e z })

  pub follow-sound : r ≢ 0 → (broken_at p f S k ≡ false) × Owners f S (k + 1) (r - 1) after
  follow-sound z = let r = follow-some f S top here o e z in (go r.0 (broken_at p f S k) refl, r.1)
    where
      go : ((ss : List ℕ) × (m : ℕ) × Chain f S k ss m) → (b : Bool) → broken_at p f S k ≡ b → b ≡ false
      go c true q = absurd ((broken-so t f k q).none c.0 c.1 c.2)
      go c false q = refl

-- before the first entry; S - 3 elements are allowed
pub owners-none : (f : ℕ → ℕ) (S : ℕ) → Owners f S 1 (S - 3) (replicate 256 0)
owners-none f S =
    record {
      ms = [];
      met = record { once = tt; sectors = λ x h. absurd h; marked = λ x h. absurd h; only = λ x h. absurd (h (zeros 256 x)); counted = omega arith };
      below = λ x. rw (zeros 256 x) (omega arith);
      sound = λ x h. absurd h;
      room = refl;
    }

-- an entry that is no product is passed over
pub owners_skip : {f : ℕ → ℕ} {S k n : ℕ} {owner : List ℕ} → Owners f S k n owner → Owners f S (k + 1) n owner
owners_skip o = record { ms = o.ms; met = o.met; below = λ x. omega (arith, o.below x); sound = o.sound; room = o.room }

-- no more are allowed than there are
pub owners-few : {f : ℕ → ℕ} {S k n : ℕ} {owner : List ℕ} → Owners f S k n owner → n ≤ S - 3
owners-few o = omega (arith, o.met.counted)
