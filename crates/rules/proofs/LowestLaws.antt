-- `lowest n t` is the lowest of 1, .., n that passes the test t, and 0 where none does. Assumes nothing.
use mathlib.Core.Path.{◌≡◌, refl, sym, ◌∙◌}
use mathlib.Core.Bool.{Bool, true, false, true≢false}
use Prim.Native.Nat.{ℕ, zero, suc, ◌+◌, ◌≤◌, ◌<◌}
use native.Mathlib.Omega.{arith}
use native.Mathlib.Decide.{dec_lt}
use Rattle.std.specs.Prelude.{Some}
use Rattle.rules.specs.Lowest.{or_here, lowest, some_of}

pub data Found-lowest (n : ℕ) (t : ℕ → Bool) : ℕ → Type 0 where
  nowhere : ((k : ℕ) → 1 ≤ k → k ≤ n → t k ≡ true → ⊥) → Found-lowest n t 0
  somewhere : {r : ℕ} → 1 ≤ r → r ≤ n → t r ≡ true → ((k : ℕ) → 1 ≤ k → k < r → t k ≡ true → ⊥) → Found-lowest n t r

here-kept : (r : ℕ) (b : Bool) (k : ℕ) → 1 ≤ r → or_here r b k ≡ r
here-kept zero b k h = absurd (omega arith)
here-kept (suc r) b k h = refl

pub lowest-is : (n : ℕ) (t : ℕ → Bool) → Found-lowest n t (lowest n t)
unfolding lowest
lowest-is zero t = nowhere (λ k a b e. omega arith)
lowest-is (suc n) t = go (t (suc n)) refl (lowest-is n t)
  where
    go : (b : Bool) → t (suc n) ≡ b → {r : ℕ} → Found-lowest n t r → Found-lowest (suc n) t (or_here r b (suc n))
    go true e (nowhere h) = somewhere {r = suc n} (omega arith) (omega arith) e (λ k a b q. h k a (omega arith) q)
    go false e (nowhere h) = nowhere (λ k a b q. elim (dec_lt n k) [
      | yes l ↦ let w : k ≡ suc n = omega arith in true≢false (sym (rw w at q) ∙ e)
      | no l ↦ h k a (omega arith) q
    ])
    go true e (somewhere {r = r} a l q h) = rw (here-kept r true (suc n) a) (somewhere {r = r} a (omega arith) q h)
    go false e (somewhere {r = r} a l q h) = rw (here-kept r false (suc n) a) (somewhere {r = r} a (omega arith) q h)

module _ (n : ℕ) (t : ℕ → Bool) where
  -- k passes, and none below it
  pub lowest-here : (k : ℕ) → 1 ≤ k → k ≤ n → t k ≡ true → ((a : ℕ) → a < k → 1 ≤ a → t a ≡ true → ⊥) → k ≡ lowest n t
  lowest-here k a b e h = go (lowest-is n t)
    where
      go : {r : ℕ} → Found-lowest n t r → k ≡ r
      go (nowhere f) = absurd (f k a b e)
      go (somewhere {r = r} l u p f) =
          let x : ¬ (k < r) = λ w. f k a w e in
          let y : ¬ (r < k) = λ w. h r w l p in
          omega arith

  pub lowest-none : ((a : ℕ) → a < n + 1 → 1 ≤ a → t a ≡ true → ⊥) → 0 ≡ lowest n t
  lowest-none h = go (lowest-is n t)
    where
      go : {r : ℕ} → Found-lowest n t r → 0 ≡ r
      go (nowhere f) = refl
      go (somewhere {r = r} l u p f) = absurd (h r (omega arith) l p)

  -- where there is none, k does not pass
  pub none-lowest : 0 ≡ lowest n t → (k : ℕ) → 1 ≤ k → k ≤ n → t k ≡ false
  none-lowest z k a b = go (lowest-is n t) z (t k) refl
    where
      go : {r : ℕ} → Found-lowest n t r → 0 ≡ r → (x : Bool) → t k ≡ x → x ≡ false
      go (nowhere f) z true e = absurd (f k a b e)
      go (somewhere l u p f) z true e = absurd (omega arith)
      go w z false e = refl

-- a number that is not 0 is some
pub some-is : (n m : ℕ) → 1 ≤ n → n ≡ m → Some n ≡ some_of m
some-is zero m h e = absurd (omega arith)
some-is (suc n) m h e = rw (← e) refl
