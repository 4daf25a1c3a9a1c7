-- `commands::named`: what is no text is no word of the lists.
use Rattle.console.proofs.Strange.{no_command}
use Rattle.console.proofs.commands.named.Goals as goal

pub returns-in-Err : goal.returns-in-Err
returns-in-Err c = no_command c.args.word.now c.in-Err.ensures.cases.0 c.args.all _ _ _ _
