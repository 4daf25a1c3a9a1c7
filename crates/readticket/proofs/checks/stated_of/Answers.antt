-- `checks::stated_of` meets its contract: each value is read at its place. Assumes nothing.
use Rattle.readticket.proofs.checks.stated_of.Goals as goal

pub returns : goal.returns
returns c = rw (c.entry_field.ensures, c.entry_field-2.ensures, c.header_field.ensures, c.header_field-2.ensures, c.header_field-3.ensures)
