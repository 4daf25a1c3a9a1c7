-- `capi::card_check` meets its contract: an accepted image has the verdict 0, 0. Assumes nothing.
use mathlib.Core.Path.{◌≡◌, sym}
use mathlib.Core.List.{List}
use Prim.Native.Nat.{ℕ}
use Rattle.std.specs.Prelude.{Result, Ok, Err}
use Rattle.rules.specs.Refusals.{answered}
use Rattle.rules.specs.declared.Refusal.{Refusal}
use Rattle.rules.proofs.AnswerLaws.{says_same}
use Rattle.image.specs.Check.{check_of, checked}
use Rattle.image.specs.Verdict.{verdict}
use Rattle.image.specs.declared.Shape.{Shape}
use Rattle.image.proofs.Accepted.{accepted_open, refused_shut}
use Rattle.reads.proofs.Given.{none_named}
use Rattle.capi.proofs.card_check.Goals as goal

told : (c : List ℕ) (r : Result Shape Refusal) → checked r ≡ check_of c → answered r ≡ verdict c
told c (Ok g) e = let o = accepted_open c g (sym e) in says_same (sym o.number_zero) (sym (none_named c o.number_zero))
told c (Err r) e = let s = refused_shut c _ _ (sym e) in says_same (sym s.number_is) (sym s.entry-is)

pub returns : goal.returns
returns c = let t = told c.args.image.now c.check.result c.check.ensures in cc
