-- `crc::clocked` meets its contract: its shifts are 64 clocks. Assumes nothing.
use borrow.Author.Rules.{rules}
use Rattle.crc.proofs.Many.{clocked_law}
use Rattle.crc.proofs.clocked.Goals as goal

pub returns : goal.returns
returns c = clocked_law c.args.x (search rules)
