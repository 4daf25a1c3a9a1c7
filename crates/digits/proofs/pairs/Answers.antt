-- `digits::pairs` meets its contract: each byte's two digits stand in the two words. Assumes nothing.
use mathlib.Core.Path.{◌∙◌}
use Rattle.digits.proofs.Bytewise.{each, seconds, firsts, pairs_is}
use Rattle.digits.proofs.pairs.Goals as goal

pub added-requires : goal.added-requires
unfolding each
added-requires c = (seconds c.args.v c.requires, firsts c.args.v c.requires)

pub returns : goal.returns
unfolding each
returns c = c.added.ensures ∙ pairs_is 8 c.args.v
