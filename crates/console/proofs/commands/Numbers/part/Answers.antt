-- `Numbers::part`: a part of the list is its numbers from a place on.
use mathlib.Core.Path.{◌≡◌}
use lib.ListN.{length}
use native.Mathlib.Omega.{arith}
use borrow.Author.Rules.{rules}
use Rattle.console.proofs.Numbers.{part_from}
use Rattle.console.proofs.commands.Numbers.part.Goals as goal

pub returns : goal.returns
returns g c =
    let a = c.args in
    let n : length a.self.now.list ≡ 302 = search rules in
    part_from _ a.first a.self.now.list _ (omega arith) c.copy_from_slice.ensures.after
