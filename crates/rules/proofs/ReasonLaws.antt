-- Every reason has a number of its own that is not 0, so that a result is told by its number and its value; and parts of a list of rules are judged one after the other: a part that refuses leaves no word to the rest. Assumes nothing.
use mathlib.Core.Path.{◌≡◌, refl, sym, ap, ◌∙◌}
use mathlib.Core.Logic.{◌≢◌}
use mathlib.Core.List.{List, [], ◌∷◌, ◌++◌}
use Prim.Native.Nat.{ℕ, zero, suc, ◌≤◌}
use native.Mathlib.Omega.{arith}
use Rattle.std.specs.Prelude.{Result, Ok, Err, cond, eqb}
use Rattle.std.specs.Result.{result_unwrap_or}
use Rattle.rules.specs.declared.Reason.{Reason}
use Rattle.rules.specs.declared.Reason.TheVariants.{WrongLength, WrongVersion, WrongCopy, NoShell, WrongShell, WrongSize, WrongSecr, WrongDigit, WrongTable, BrokenChain, SharedSector, WrongCheckDigit, NoProduct, WrongRoom, OtherKind, WrongExtent, NoField, TooLarge, Blocked, NoMark, NoDate, NoStamp, OtherShape, WrongFlags}
use Rattle.rules.specs.Claim.{Rule}
use Rattle.rules.specs.First.{first}
use Rattle.rules.specs.Reasons.{number, said}
use Rattle.rules.proofs.ClaimLaws.{Numbered, or_else, first-append}

pub some-number : (r : Reason) → 1 ≤ number r
some-number r = elim r as (λ r. 1 ≤ number r) [
  | WrongLength ↦ omega arith
  | WrongVersion ↦ omega arith
  | WrongCopy ↦ omega arith
  | NoShell ↦ omega arith
  | WrongShell ↦ omega arith
  | WrongSize ↦ omega arith
  | WrongSecr ↦ omega arith
  | WrongDigit ↦ omega arith
  | WrongTable ↦ omega arith
  | BrokenChain ↦ omega arith
  | SharedSector ↦ omega arith
  | WrongCheckDigit ↦ omega arith
  | NoProduct ↦ omega arith
  | WrongRoom ↦ omega arith
  | OtherKind ↦ omega arith
  | WrongExtent ↦ omega arith
  | NoField ↦ omega arith
  | TooLarge ↦ omega arith
  | Blocked ↦ omega arith
  | NoMark ↦ omega arith
  | NoDate ↦ omega arith
  | NoStamp ↦ omega arith
  | OtherShape ↦ omega arith
  | WrongFlags ↦ omega arith
]

pub number-ne0 : (r : Reason) → number r ≢ 0
number-ne0 r z = let s = some-number r in omega arith

-- the first of the reasons rs with the number n, else r
abbrev numbered : ℕ → Reason → List Reason → Reason
numbered n r [] = r
numbered n r (s ∷ rs) = cond (eqb (number s) n) s (numbered n r rs)

abbrev named : ℕ → Reason
named n = numbered n WrongFlags (WrongLength ∷ WrongVersion ∷ WrongCopy ∷ NoShell ∷ WrongShell ∷ WrongSize ∷ WrongSecr ∷ WrongDigit ∷ WrongTable ∷ BrokenChain ∷ SharedSector ∷ WrongCheckDigit ∷ NoProduct ∷ WrongRoom ∷ OtherKind ∷ WrongExtent ∷ NoField ∷ TooLarge ∷ Blocked ∷ NoMark ∷ NoDate ∷ NoStamp ∷ OtherShape ∷ WrongFlags ∷ [])

named-number : (r : Reason) → named (number r) ≡ r
named-number r = elim r as (λ r. named (number r) ≡ r) [
  | WrongLength ↦ refl
  | WrongVersion ↦ refl
  | WrongCopy ↦ refl
  | NoShell ↦ refl
  | WrongShell ↦ refl
  | WrongSize ↦ refl
  | WrongSecr ↦ refl
  | WrongDigit ↦ refl
  | WrongTable ↦ refl
  | BrokenChain ↦ refl
  | SharedSector ↦ refl
  | WrongCheckDigit ↦ refl
  | NoProduct ↦ refl
  | WrongRoom ↦ refl
  | OtherKind ↦ refl
  | WrongExtent ↦ refl
  | NoField ↦ refl
  | TooLarge ↦ refl
  | Blocked ↦ refl
  | NoMark ↦ refl
  | NoDate ↦ refl
  | NoStamp ↦ refl
  | OtherShape ↦ refl
  | WrongFlags ↦ refl
]

-- reasons with one number are the same
pub number_one : {r s : Reason} → number r ≡ number s → r ≡ s
number_one {r} {s} e = sym (named-number r) ∙ ap named e ∙ named-number s

-- results that say one number, and give one value where they have any, are the same
pub said_one : {A : Type 0} (d : A) {r s : Result A Reason} → said r ≡ said s → result_unwrap_or r d ≡ result_unwrap_or s d → r ≡ s
said_one d {r = Ok a} {s = Ok b} e v = ap Ok v
said_one d {r = Ok a} {s = Err q} e v = absurd (number-ne0 q (sym e))
said_one d {r = Err p} {s = Ok b} e v = absurd (number-ne0 p e)
said_one d {r = Err p} {s = Err q} e v = ap Err (number_one e)

-- and without a value, the number tells all
pub done_one : {r s : Result (Unit {0}) Reason} → said r ≡ said s → r ≡ s
done_one e = said_one tt e refl

-- the first of two parts refuses
pub first_refuses : (r : Reason) (rs ss : List Rule) → Numbered rs → number r ≡ first rs → number r ≡ first (rs ++ ss)
first_refuses r rs ss h e = go (first rs) (omega (arith, some-number r)) e ∙ sym (first-append rs ss h)
  where
    go : (n : ℕ) → 1 ≤ n → number r ≡ n → number r ≡ or_else n (first ss)
    go zero l e = absurd (omega arith)
    go (suc n) l e = e

-- the first of two parts takes it, and the second decides
pub second_says : {n : ℕ} (rs ss : List Rule) → Numbered rs → 0 ≡ first rs → n ≡ first ss → n ≡ first (rs ++ ss)
second_says rs ss h z e = e ∙ ap (λ (m : ℕ). or_else m (first ss)) z ∙ sym (first-append rs ss h)
