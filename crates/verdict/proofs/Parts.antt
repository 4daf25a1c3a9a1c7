-- The verdict from the number by the rules 1 to 9 and 12 and what the pass over the chains answers, and what a check and a look for a product make of both.
-- Assumes nothing.
use mathlib.Core.Path.{◌≡◌, refl, sym, ap, ◌∙◌}
use mathlib.Core.Logic.{◌≢◌}
use mathlib.Core.List.{List}
use Prim.Native.Nat.{ℕ, zero, suc, ◌≤◌}
use native.Mathlib.Omega.{arith}
use Rattle.rules.specs.First.{first}
use Rattle.rules.specs.Lowest.{lowest}
use Rattle.image.specs.Image.{e#}
use Rattle.rules.specs.declared.Answer.{Answer}
use Rattle.image.specs.Rules.{rules}
use Rattle.image.specs.Verdict.{broken_at, shares_at, judged, verdict}
use Rattle.image.specs.Check.{shape_of, checked_by, check_of}
use Rattle.image.specs.Shape.{Shaped}
use Rattle.image.specs.Found.{last_at, count_at}
use Rattle.image.specs.declared.Shape.{Shape}
use Rattle.image.specs.Answer as C
use Rattle.image.proofs.Shapes.{shape_is}
use Rattle.image.proofs.Verdict.{at-chains}
use Rattle.verdict.specs.Passed.{Passed, Unsound, Sound, passed_of, unsound_of}
use Rattle.rules.specs.Answer.{says}

-- ---- the answers of the pass

-- where the pass stops at entry k, which is the lowest that shares if none is broken
pub says_unsound : (b : ℕ) {k s : ℕ} (l n : ℕ) → 1 ≤ k → (0 ≡ b → k ≡ s) → Unsound (unsound_of b k) ≡ passed_of b s l n
says_unsound (suc j) l n h e = refl
says_unsound zero {k} l n h e = rw (← e refl) (go k h)
  where
    go : (k : ℕ) → 1 ≤ k → Unsound (says 11 k) ≡ passed_of 0 k l n
    go zero h = absurd (omega arith)
    go (suc k) h = refl

pub says_all : {b s l n x y : ℕ} → 0 ≡ b → 0 ≡ s → x ≡ l → y ≡ n → Sound x y ≡ passed_of b s l n
says_all z e p q = rw (← z, ← e, p, q)

-- ---- the verdict

module _ (c : List ℕ) (j : ℕ) {n : ℕ} (e : n ≡ first (rules c)) (z : n ≡ 0) {p : Passed} (s : p ≡ passed_of (lowest (e# c) (broken_at c)) (lowest (e# c) (shares_at c)) (last_at c j) (count_at c j)) where
  pub chains-refuse : {m k : ℕ} → p ≡ Unsound (says m k) → (m ≢ 0) × (verdict c ≡ says m k)
  chains-refuse {m} {k} w = rw (at-chains c e z) (go (lowest (e# c) (broken_at c)) (lowest (e# c) (shares_at c)) (sym w ∙ s))
    where
      go : (a b : ℕ) → Unsound (says m k) ≡ passed_of a b (last_at c j) (count_at c j) → (m ≢ 0) × (judged 0 a b ≡ says m k)
      go (suc a) b x = let u : says m k ≡ says 10 (suc a) = cc in ((λ y. omega (arith, ap (λ (a : Answer). a.number) u)), sym u)
      go zero (suc b) x = let u : says m k ≡ says 11 (suc b) = cc in ((λ y. omega (arith, ap (λ (a : Answer). a.number) u)), sym u)
      go zero zero x = absurd (cc)

  pub chains-pass : {l k : ℕ} → p ≡ Sound l k → ((verdict c).number ≡ 0) × (l ≡ last_at c j) × (k ≡ count_at c j)
  chains-pass {l} {k} w = rw (at-chains c e z) (go (lowest (e# c) (broken_at c)) (lowest (e# c) (shares_at c)) (sym w ∙ s))
    where
      go : (a b : ℕ) → Sound l k ≡ passed_of a b (last_at c j) (count_at c j) → ((judged 0 a b).number ≡ 0) × (l ≡ last_at c j) × (k ≡ count_at c j)
      go (suc a) b x = absurd (cc)
      go zero (suc b) x = absurd (cc)
      go zero zero x = (refl, cc, cc)

-- ---- the check

module _ (c : List ℕ) where
  pub check-refused : {n e : ℕ} → n ≢ 0 → verdict c ≡ record { number = n; entry = e } → C.Refused n e ≡ check_of c
  unfolding check_of
  check-refused {n} {e} h q = rw q (go n h)
    where
      go : (n : ℕ) → n ≢ 0 → C.Refused n e ≡ checked_by n e (shape_of c)
      go zero h = absurd (h refl)
      go (suc n) h = refl

  pub check-accepted : {g : Shape} → (verdict c).number ≡ 0 → Shaped c g → C.Accepted g ≡ check_of c
  unfolding check_of
  check-accepted z s = rw (z, shape_is s)
