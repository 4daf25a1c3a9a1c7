-- `commands::desk`: no word of the list is the one.
use borrow.Author.Rules.{rules}
use Rattle.text.proofs.Split.{same_is}
use Rattle.console.proofs.commands.desk.Goals as goal

pub returns-in_default : goal.returns-in_default
returns-in_default c = λ n a b d. simp same_is (search rules)
