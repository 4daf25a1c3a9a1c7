-- The pass over the entries keeps what it finds of one of them, `at j` of entry j: before that entry it holds 0, after it what was found. Assumes nothing.
use mathlib.Core.Path.{◌≡◌, refl, sym, ◌∙◌}
use mathlib.Core.Logic.{◌≢◌}
use Prim.Native.Nat.{ℕ, ◌+◌, ◌≤◌, ◌<◌}
use native.Mathlib.Omega.{arith}
use native.Mathlib.Decide.{ℕ_discrete, dec_lt}

-- t is what is held of entry j once the entries below k are passed
pub record Holds (at : ℕ → ℕ) (j k t : ℕ) : Type 0 where
  pub passed : j < k → t ≡ at j
  pub ahead : k ≤ j → t ≡ 0

module _ {at : ℕ → ℕ} {j : ℕ} where
  pub holds-start : at 0 ≡ 0 → Holds at j 1 0
  holds-start z = record { passed = λ h. let q : j ≡ 0 = omega arith in rw q (sym z); ahead = λ h. refl }

  module _ {k t : ℕ} (h : Holds at j k t) where
    -- nothing is found of entry k
    pub holds-skip : at k ≡ 0 → Holds at j (k + 1) t
    holds-skip z = record {
      passed = λ l. elim (ℕ_discrete j k) [
        | yes q ↦ h.ahead (omega arith) ∙ rw q (sym z)
        | no q ↦ h.passed (omega arith)
      ];
      ahead = λ l. h.ahead (omega arith);
    }

    -- of entry k, which is asked for, r is found; or another is asked for
    pub holds-take : {r : ℕ} → r ≡ at k → k ≡ j → Holds at j (k + 1) r
    holds-take w q = record { passed = λ l. rw (← q) w; ahead = λ l. omega arith }

    pub holds-other : k ≢ j → Holds at j (k + 1) t
    holds-other q = record { passed = λ l. h.passed (omega arith); ahead = λ l. h.ahead (omega arith) }

    -- nothing is found from k on
    pub holds-end : (k ≤ j → at j ≡ 0) → t ≡ at j
    holds-end z = elim (dec_lt j k) [
      | yes l ↦ h.passed l
      | no l ↦ h.ahead (omega arith) ∙ sym (z (omega arith))
    ]
