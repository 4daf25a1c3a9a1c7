-- The walk is broken exactly where the elements break it: what it says of the first bad element is so, and there is no chain. It passes no sector
-- twice, so that it does not run out of the S - 3 sectors allowed. Assumes nothing.
use mathlib.Core.Path.{◌≡◌, refl}
use mathlib.Core.Logic.{◌↔◌, inl, inr, ⊎_elim}
use mathlib.Core.List.{List, [], ◌∷◌}
use mathlib.Core.Bool.{Bool, true, false}
use Prim.Native.Nat.{ℕ, zero, suc, ◌+◌, ◌-◌, ◌≤◌}
use native.Mathlib.Omega.{arith}
use lib.ListN.{length}
use Rattle.chains.specs.Chain.{Sector, Names, In, Distinct, NoChain}
use Rattle.chains.specs.Breaks.{Fault, is_zero, is_above, is_passed, Bad, zero_met, above_met, comes_back, Break, break_at, Breaks, here, onward}
use Rattle.chains.specs.Walk.{Link, to, bad, pick_link, link, member, past, Walk, found, broken, after, on_link, walk_on, walk}
use Rattle.chains.specs.Marks.{replaced}
use Rattle.chains.proofs.Members.{member_in, in-member, not-member, member-not}
use Rattle.chains.proofs.Laws.{View, v_end, v_to, v_bad, view, view-to, view-bad, broken-none}
use Rattle.chains.proofs.Distinct.{few}

-- i and the sectors ps passed before it are sectors, each once
record Passed (S : ℕ) (ps : List ℕ) (i : ℕ) : Type 0 where
  once : Distinct (i ∷ ps)
  sectors : (x : ℕ) → In x (i ∷ ps) → Sector S x

passed-few : {S i : ℕ} {ps : List ℕ} → Passed S ps i → length (i ∷ ps) ≤ S - 3
passed-few {S} {i} {ps} p = few (S - 3) (i ∷ ps) p.once (λ x h. let s = p.sectors x h in (s.low, s.high))

module _ (f : ℕ → ℕ) (S : ℕ) where
  passed_on : {ps : List ℕ} {i : ℕ} → Passed S ps i → Names S i (f i) → (In (f i) ps → ⊥) → Passed S (i ∷ ps) (f i)
  passed_on {ps} {i} p a h = record { once = (⊎_elim a.other h, p.once); sectors = sectors }
    where
      sectors : (x : ℕ) → In x (f i ∷ (i ∷ ps)) → Sector S x
      sectors x (inl e) = rw e a.sector
      sectors x (inr q) = p.sectors x q

  -- an element that is one of the sectors passed names it
  passed-names : {ps : List ℕ} {i : ℕ} → Passed S ps i → In (f i) ps → Names S i (f i)
  passed-names {ps} {i} p h = record { other = λ e. p.once.0 (rw e at h); sector = p.sectors (f i) (inr h) }

  -- what the walk says of the first bad element is so
  broken-so : (n : ℕ) (ps : List ℕ) (i : ℕ) (b : Break) → Passed S ps i → length ps + n ≡ S - 3 → walk_on f S ps i n ≡ broken b → Breaks f S ps i b
  unfolding walk_on
  broken-so zero ps i b p l e = absurd (omega (arith, passed-few p))
  broken-so (suc n) ps i b p l e = go (view S i (f i)) (broken-so n (i ∷ ps) (f i) b) e
    where
      bad-here : {w : Fault} → Bad S ps (f i) w → broken (break_at ps i w) ≡ broken b → Breaks f S ps i b
      bad-here {w} a q = let r : break_at ps i w ≡ b = cc in rw (← r) (here a)

      inner : (w : Walk) → (w ≡ broken b → Breaks f S ps i b) → after i w ≡ broken b → Breaks f S ps i b
      inner (found ss m) ih q = absurd (let z : ◌≡◌ {A = ℕ} 0 1 = cc in omega arith)
      inner (broken d) ih q = ih q

      on : Names S i (f i) → (Passed S (i ∷ ps) (f i) → length (i ∷ ps) + n ≡ S - 3 → walk_on f S (i ∷ ps) (f i) n ≡ broken b → Breaks f S (i ∷ ps) (f i) b)
          → (t : Bool) → member (f i) ps ≡ t → on_link ps i (pick_link t (bad is_passed) (to (f i))) (λ x. walk_on f S (i ∷ ps) x n) ≡ broken b → Breaks f S ps i b
      on a ih true m q = bad-here (comes_back (member_in (f i) ps m)) q
      on a ih false m q = let h = member-not (f i) ps m in inner (walk_on f S (i ∷ ps) (f i) n) (λ r. onward a h (ih (passed_on p a h) (omega arith) r)) q

      go : {k : Link} → View S i (f i) k → (Passed S (i ∷ ps) (f i) → length (i ∷ ps) + n ≡ S - 3 → walk_on f S (i ∷ ps) (f i) n ≡ broken b → Breaks f S (i ∷ ps) (f i) b)
          → on_link ps i (past ps k) (λ x. walk_on f S (i ∷ ps) x n) ≡ broken b → Breaks f S ps i b
      go (v_end a) ih q = absurd (let z : ◌≡◌ {A = ℕ} 0 1 = cc in omega arith)
      go (v_to a) ih q = on a ih (member (f i) ps) refl q
      go (v_bad (zero_met z)) ih q = bad-here (zero_met z) q
      go (v_bad (above_met z)) ih q = bad-here (above_met z) q
      go (v_bad (comes_back z)) ih q = absurd z

  -- and where the elements break, the walk says so
  so-broken : {ps : List ℕ} {i : ℕ} {b : Break} → Breaks f S ps i b → (n : ℕ) → Passed S ps i → length ps + n ≡ S - 3 → walk_on f S ps i n ≡ broken b
  unfolding walk_on
  so-broken r zero p l = absurd (omega (arith, passed-few p))
  so-broken {ps} {i} (here (zero_met z)) (suc n) p l = rw (view-bad (p.sectors i (inl refl)) (view S i (f i)) (zero_met z))
  so-broken {ps} {i} (here (above_met z)) (suc n) p l = rw (view-bad (p.sectors i (inl refl)) (view S i (f i)) (above_met z))
  so-broken {ps} {i} (here (comes_back z)) (suc n) p l = rw (view-to (p.sectors i (inl refl)) (view S i (f i)) (passed-names p z), in-member (f i) ps z)
  so-broken {ps} {i} (onward a h r) (suc n) p l = rw (view-to (p.sectors i (inl refl)) (view S i (f i)) a, not-member (f i) ps h, so-broken {ps = i ∷ ps} r n (passed_on p a h) (omega arith))

  consulted-few : {ps : List ℕ} {i : ℕ} {b : Break} → Breaks f S ps i b → Passed S ps i → b.consulted ≤ S - 3
  consulted-few (here a) p = passed-few p
  consulted-few (onward a h r) p = consulted-few r (passed_on p a h)

  module _ {i : ℕ} (s : Sector S i) where
    start : Passed S [] i
    start = record { once = ((λ h. h), tt); sectors = λ x. ⊎_elim (λ e. rw e s) (λ h. absurd h) }

    -- the walk is broken at b exactly where the elements lead to the break b
    pub broken-at : {b : Break} → (walk f S i (S - 3) ≡ broken b) ↔ Breaks f S [] i b
    broken-at {b} = (broken-so (S - 3) [] i b start (omega arith), λ r. so-broken r (S - 3) start (omega arith))

    -- no more elements are consulted than there are
    pub break-few : {b : Break} → Breaks f S [] i b → b.consulted ≤ S - 3
    break-few r = consulted-few r start

    -- there is no chain exactly where the elements break
    pub broken-breaks : NoChain f S i ↔ ((b : Break) × Breaks f S [] i b)
    broken-breaks =
        ((λ free. let r = (broken-none f S s).1 free in (r.0, broken-at.0 r.1)), λ r. (broken-none f S s).0 (r.0, broken-at.1 r.1))

-- the three faults, of 16 sectors: sector 2 is free, sector 2 leads back to 1, and 16 is no sector
examples :
    (walk (replaced (λ i. 0) 1 2) 16 1 13 ≡ broken (record { sector = 2; fault = is_zero; consulted = 2 }))
    × (walk (replaced (replaced (λ i. 0) 2 1) 1 2) 16 1 13 ≡ broken (record { sector = 2; fault = is_passed; consulted = 2 }))
    × (walk (replaced (λ i. 0) 1 16) 16 1 13 ≡ broken (record { sector = 1; fault = is_above; consulted = 1 }))
unfolding walk_on member link replaced
examples = (refl, refl, refl)
