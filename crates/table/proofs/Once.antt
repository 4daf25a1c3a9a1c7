-- What C is told tells decoded tables apart: two results of which it is told the same are the same. Assumes nothing.
use mathlib.Core.Path.{◌≡◌, ap, ap₂}
use mathlib.Core.List.{List}
use Prim.Native.Nat.{ℕ}
use Rattle.std.specs.Prelude.{Result}
use Rattle.rules.specs.declared.Reason.{Reason}
use Rattle.rules.proofs.ReasonLaws.{said_one}
use Rattle.table.specs.declared.Elements.{Elements}
use Rattle.table.specs.declared.Table as table
use Rattle.table.specs.Coded.{no_table, coded_table}

pub table_once : {r s : Result table.Table Reason} → coded_table r ≡ coded_table s → r ≡ s
table_once e =
    said_one no_table (ap (λ (c : Elements). c.number) e)
    (ap₂ (λ (n : ℕ) (es : List ℕ). record { count = n; elements = es }) (ap (λ (c : Elements). c.count) e) (ap (λ (c : Elements). c.elements) e))
