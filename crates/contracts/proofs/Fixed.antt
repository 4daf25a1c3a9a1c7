-- What it is that a contract leaves no choice, over the claims that the prover makes of it: what it asks before, and what it says of the result and of
-- what is lent, after. Assumes nothing.
use mathlib.Core.Path.{◌≡◌}
use mathlib.Core.List.{List}
use Prim.Native.Nat.{ℕ}
use borrow.Fn.Kinds.{ParamKind, ResultKind, In, Out, Dens, res_t, ended_of}
use contract.Lifetimes.{Lfts}
use denote.Triple.Clauses.{AtExit}

-- a function of these parameters and this result: nothing is asked first, and two results that meet its contract are equal
pub record Once (n : ℕ) (ps : List (ParamKind n)) (r : ResultKind n) (Pre : In n ps) (Post : Out n ps r) : Type 0 where
  pub asks_nothing : (κs : Lfts n) (a : Dens κs ps) → Pre κs a
  pub one_answer : (κs : Lfts n) (a : Dens κs ps) (z z' : (res_t r κs).Denot) (e e' : AtExit (ended_of n ps r) κs) → Post κs a z e → Post κs a z' e' → z ≡ z'

-- and so are two states of a lent slice, `bytes` of what is there at the exit
abbrev pub Lent : (n : ℕ) (ps : List (ParamKind n)) (r : ResultKind n) → Out n ps r → ((κs : Lfts n) → AtExit (ended_of n ps r) κs → List ℕ) → Type 0
Lent n ps r Post bytes =
    (κs : Lfts n) (a : Dens κs ps) (z z' : (res_t r κs).Denot) (e e' : AtExit (ended_of n ps r) κs) → Post κs a z e → Post κs a z' e' → bytes κs e ≡ bytes κs e'
