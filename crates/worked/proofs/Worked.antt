-- All of document 01's examples that are marked P, proved together: the dates by their laws (dates, Examples), the others by computation.
-- Assumes nothing.
use mathlib.Core.Path.{refl}
use Rattle.bits.specs.Bits.{digit, bit, number, bytes, stored, store}
use Rattle.fields.specs.Fields.{stores}
use Rattle.fields.specs.Packed.{pack_number}
use Rattle.rules.specs.First.{all, first}
use Rattle.dates.proofs.Examples as dates
use Rattle.ticket.specs.Kind.{form_in}
use Rattle.ticket.specs.Ticket.{encode_number}
use Rattle.image.specs.Image.{sectors, mark, product, joined, sector}
use Rattle.image.specs.Product.{element_at, product_at}
use Rattle.image.specs.Seen.{seen}
use Rattle.steps.specs.Step.{step_rules}
use Rattle.steps.specs.Steps.{answer, next}
use Rattle.worked.specs.Cards.{shell_start, shell_sector, directory, card}
use Rattle.worked.specs.Worked.{Worked}
use Rattle.worked.proofs.Cards.{judge}

pub worked : Worked
unfolding judge form_in encode_number pack_number first all stores store stored bytes number bit digit sectors mark product joined sector element_at product_at seen step_rules answer next card shell_sector shell_start directory
worked = record {
  entry = refl;
  header = refl;
  last_minute = refl;
  validity = refl;
  payment = refl;
  stamp_1 = (dates.examples).stamp_1;
  stamp_16383 = (dates.examples).stamp_16383;
  stamp_0 = (dates.examples).stamp_0;
  leap-day = (dates.examples).leap-day;
  accepted = refl;
  used = (refl, refl);
  fresh = (refl, refl);
  blocking = (refl, refl);
  shared = refl;
  broken = refl;
}
