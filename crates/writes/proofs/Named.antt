-- A refusal that was made to name an entry names it, and has its reason; and what is compared with `Blocked` is 2, or less. Assumes nothing.
use mathlib.Core.Path.{◌≡◌, refl, ap, ◌∙◌}
use mathlib.Core.Bool.{true, false}
use Prim.Native.Nat.{ℕ, ◌≤◌, ◌<◌}
use native.Mathlib.Omega.{arith}
use denote.Enum.Bare.{sameb}
use Rattle.std.specs.Prelude.{Result, Ok, Err}
use Rattle.std.specs.Result.{MatchResult, IsErrAnd}
use Rattle.std.proofs.lemmas.Result.{err_from_is_err_and}
use Rattle.rules.specs.declared.Reason.{Reason}
use Rattle.rules.specs.declared.Refusal.{Refusal}
use Rattle.chains.specs.Ended.{mark_number}
use Rattle.chains.specs.contracts.packed.Mark.{the_type}
use Rattle.chains.specs.declared.packed.Mark.{Mark}
use Rattle.chains.specs.declared.packed.Mark.TheVariants.{Fresh, Used, Blocked}

-- the same answer, whose refusal names the entry e
abbrev pub named : {A : Type 0} → ℕ → Result A Reason → Result A Refusal
named e (Ok a) = Ok a
named e (Err r) = Err (record { reason = r; entry = e })

-- by `map_err`, with a closure of the contract P
pub named-result : {A : Type 0} {P : Reason → Refusal → Type 0} (e : ℕ) → ((r : Reason) (f : Refusal) → P r f → f ≡ record { reason = r; entry = e })
    → (x : Result A Reason) {y : Result A Refusal} → MatchResult x (λ a. y ≡ Ok a) (λ r. IsErrAnd y (P r)) → y ≡ named e x
named-result e makes (Ok a) m = m
named-result e makes (Err r) {y} m = let z = err_from_is_err_and y m in z.1 ∙ ap Err (makes r z.0 z.2)

pub named-err : {A : Type 0} (e : ℕ) (x : Result A Reason) (f : Refusal) → Err f ≡ named e x → (x ≡ Err f.reason) × (f.entry ≡ e)
named-err e (Ok a) f q = absurd (cc)
named-err e (Err r) f q = let p : f ≡ record { reason = r; entry = e } = cc in rw p (refl, refl)

pub named-ok : {A : Type 0} (e : ℕ) (x : Result A Reason) (a : A) → Ok a ≡ named e x → x ≡ Ok a
named-ok e (Ok b) a q = let p : b ≡ a = cc in rw p refl
named-ok e (Err r) a q = absurd (cc)

pub blocked-is : (m : Mark) → true ≡ sameb the_type m Blocked → 1 < mark_number m
blocked-is Fresh q = absurd (cc)
blocked-is Used q = absurd (cc)
blocked-is Blocked q = omega arith

pub free-is : (m : Mark) → false ≡ sameb the_type m Blocked → mark_number m ≤ 1
free-is Fresh q = omega arith
free-is Used q = omega arith
free-is Blocked q = absurd (cc)
