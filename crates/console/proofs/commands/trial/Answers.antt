-- `commands::trial`: no word of the list is the one.
use borrow.Author.Rules.{rules}
use Rattle.text.proofs.Split.{same_is}
use Rattle.console.proofs.commands.trial.Goals as goal

pub returns-in_default-7 : goal.returns-in_default-7
returns-in_default-7 c = simp same_is (search rules)
