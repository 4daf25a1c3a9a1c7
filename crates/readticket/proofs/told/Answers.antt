-- `readticket::told` meets its contract: the end is that of the day and of ExpiryTime. Assumes nothing.
use Rattle.readticket.proofs.told.Goals as goal

pub returns : goal.returns
returns c = rw c.end.ensures
