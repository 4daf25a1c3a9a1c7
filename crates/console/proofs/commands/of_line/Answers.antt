-- `commands::of_line`: the first word ends at the first blank, and the list holds the numbers of the others.
use Rattle.console.proofs.Read.{of_line}
use Rattle.console.proofs.commands.of_line.Goals as goal

pub returns-clause-read : goal.returns-clause-read
returns-clause-read c =
    let a = c.args in
    let e = c.numbers-count.ensures.read in
    (of_line a.all a.text.now _ _ _ _ c.first-end.ensures.0 e.0 e.1 c.named.ensures, e.0, e.1)
