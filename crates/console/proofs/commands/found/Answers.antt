-- `commands::found`: what does not stand in the list of both programs is looked for in the program's own.
use mathlib.Core.Path.{◌∙◌}
use mathlib.Core.Bool.{cond}
use lib.ListN.{get_or}
use Rattle.std.specs.Option.{unwrap_or}
use Rattle.text.specs.Words.{none}
use Rattle.console.specs.Commands.{trial, desk, command_of}
use Rattle.console.proofs.commands.found.Goals as goal

pub returns-in-Some : goal.returns-in-Some
unfolding command_of
returns-in-Some c = c.in-Some.ensures (cond c.args.all trial desk)

pub returns-in-None : goal.returns-in-None
unfolding command_of
returns-in-None c = rw c.if-all.true (c.trial.ensures ∙ c.in-None.ensures trial)

pub returns-in-None-2 : goal.returns-in-None-2
unfolding command_of
returns-in-None-2 c = let a = c.args in rw c.if-all.false (c.desk.ensures (unwrap_or a.numbers.now.count none) (get_or a.numbers.now.list 0 0) (get_or a.numbers.now.list 1 0) (get_or a.numbers.now.list 2 0) ∙ c.in-None-2.ensures desk)
