-- `bytes::without_header` meets its contract: the copied part is all that follows two bytes. Assumes nothing.
use mathlib.Core.Path.{◌∙◌}
use native.Mathlib.Omega.{arith}
use lib.ListN.{drop, length-drop}
use lib.Seq.{take_all}
use Rattle.ticket.proofs.bytes.without_header.Goals as goal

pub returns : goal.returns
returns c = c.copy_from_slice.ensures.after ∙ take_all 27 (drop 2 c.args.ticket.now) (omega (arith, length-drop 2 c.args.ticket.now))
