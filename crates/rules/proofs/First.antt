-- What `first` gives back, exactly: 0 where every rule is kept, and n where the first that is not kept has the number n. Both follow
-- from `found`, since no list keeps all its rules and fails one. Assumes nothing.
use mathlib.Core.Path.{◌≡◌, refl, sym, ap, subst, ◌∙◌}
use mathlib.Core.Logic.{◌↔◌}
use mathlib.Core.List.{List, [], ◌∷◌, ◌++◌}
use Prim.Native.Nat.{ℕ, zero, suc, ◌≤◌}
use native.Mathlib.Omega.{arith}
use Rattle.rules.specs.Claim.{Rule, Kept, Fails, here, later, Answers, against, taken}
use Rattle.rules.specs.First.{first}
use Rattle.rules.proofs.ClaimLaws.{Numbered, Found, none, one, found, or_else, first-append, means-holds, holds-not}

-- rules are judged one after the other: the first that is not kept gives its number, and none gives one where all are kept
pub stops : {rs : List Rule} {n : ℕ} → Fails rs n → n ≡ first rs
unfolding first
stops (here {r = r} b) = rw (holds-not r.claim b)
stops (later {r = r} m f) = rw (means-holds r.claim m) (stops f)

pub passes : (rs : List Rule) → Kept rs → 0 ≡ first rs
unfolding first
passes [] k = refl
passes (r ∷ rs) k = rw (means-holds r.claim k.0) (passes rs k.1)

module _ (rs : List Rule) (h : Numbered rs) where
  pub kept-of-first : first rs ≡ 0 → Kept rs
  kept-of-first e = go (first rs) e (found rs h)
    where
      go : (n : ℕ) → n ≡ 0 → Found rs n → Kept rs
      go n e (none k) = k
      go n e (one a f) = absurd (omega arith)

  pub first-of-kept : Kept rs → first rs ≡ 0
  first-of-kept k = sym (passes rs k)

  -- rules that are kept leave the word to those after them
  pub first-after : (ss : List Rule) → Kept rs → first (rs ++ ss) ≡ first ss
  first-after ss k = first-append rs ss h ∙ ap (λ (n : ℕ). or_else n (first ss)) (first-of-kept k)

  pub fails-of-first : (n : ℕ) → 1 ≤ n → first rs ≡ n → Fails rs n
  fails-of-first n l e = go (first rs) e (found rs h)
    where
      go : (m : ℕ) → m ≡ n → Found rs m → Fails rs n
      go m e (none k) = absurd (omega arith)
      go m e (one a f) = subst (λ (x : ℕ). Fails rs x) e f

  pub first-of-fails : (n : ℕ) → Fails rs n → first rs ≡ n
  first-of-fails n f = sym (stops f)

  pub taken-exactly : (first rs ≡ 0) ↔ Kept rs
  taken-exactly = (kept-of-first, first-of-kept)

  -- a call that has these rules alone, and names no entry
  pub answers-exactly : (n e : ℕ) → ((first rs ≡ n) × (0 ≡ e)) ↔ Answers rs n e
  answers-exactly n e = ((λ q. subst (Answers rs n) q.1 (go n q.0)), λ a. back a)
    where
      go : (n : ℕ) → first rs ≡ n → Answers rs n 0
      go zero q = taken (kept-of-first q)
      go (suc n) q = against (fails-of-first (suc n) (omega arith) q)

      back : {n e : ℕ} → Answers rs n e → (first rs ≡ n) × (0 ≡ e)
      back (against {n} f) = (first-of-fails n f, refl)
      back (taken k) = (first-of-kept k, refl)
