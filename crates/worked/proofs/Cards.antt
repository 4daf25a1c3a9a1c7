-- The verdict on a card, a read and a step by computation, with all that they stand on opened; and document 01's examples that are not marked P.
-- Assumes nothing.
use mathlib.Core.Path.{◌≡◌, refl}
use mathlib.Core.List.{List}
use Prim.Native.Nat.{ℕ}
use lib.Count.{count_leading_zeros}
use lib.ListN.{length}
use Rattle.bits.specs.Bits.{digit, bit, number, field, bytes, stored, store}
use Rattle.fields.specs.Fields.{fields, stores, shifted}
use Rattle.chains.specs.Walk.{link, member, walk_on}
use Rattle.chains.specs.Products as products
use Rattle.chains.specs.Products.{meet, some}
use Rattle.chains.specs.Psi.{Ψ, table_bytes}
use Rattle.crc.specs.Crc.{clock, clocks, register, crc}
use Rattle.digits.specs.Digits.{digits_of, luhn}
use Rattle.rules.specs.First.{all, first}
use Rattle.rules.specs.Lowest.{lowest}
use Rattle.image.specs.Image.{stated, version, copy, shell_values, dataset, B, S, e#, SCTL, shell_pad, SECR, before_SECR, sector_at, directory_at, entry_at, table_at, element, table_pad, chain, sectors, mark, sector, joined, product}
use Rattle.rules.specs.Answer.{says}
use Rattle.rules.specs.declared.Answer.{Answer}
use Rattle.image.specs.Verdict.{is_product, broken_at, shares_at, verdict}
use Rattle.image.specs.Product.{element_at, product_at}
use Rattle.image.specs.Seen.{seen, asked}
use Rattle.image.specs.Rules.{rules}
use Rattle.ticket.specs.Kind.{form_in}
use Rattle.reads.specs.Ticket.{ticket_refusal, read_ticket}
use Rattle.reads.specs.declared.TicketRead.{TicketRead}
use Rattle.steps.specs.Step.{Step, step_rules}
use Rattle.steps.specs.Steps.{answer, next}
use Rattle.worked.specs.Cards.{shell_start, shell_sector, directory, card, card17, small_card, one_ticket}

-- the verdict, with all that it stands on opened
unfoldable pub judge : List ℕ → Answer
unfolding verdict rules first all stated version copy shell_values fields dataset B S e# SCTL shell_pad SECR before_SECR sector_at directory_at entry_at table_at is_product Ψ table_bytes element table_pad chain sectors broken_at products.broken_at member meet some shares_at products.shares_at lowest field number bit digit count_leading_zeros walk_on link crc digits_of luhn register clocks clock
judge c = verdict c

-- and so a read, and a step
unfoldable pub look : List ℕ → ℕ → ℕ → TicketRead
unfolding judge form_in read_ticket ticket_refusal asked seen product_at element_at product joined sector sectors mark
look c j room = read_ticket c j room

unfoldable pub act : List ℕ → Step → List ℕ
unfolding look answer next step_rules stores store stored bytes shifted
act c s = next c s

-- ---- besides those marked P

-- document 01's card has 1,028 bytes, and its product of two sectors 128
sizes : (length (card 0x32 0xF0) ≡ 1028) × (length (product (card 0x32 0xF0) 1) ≡ 128)
unfolding judge product joined sector sectors card shell_sector shell_start directory
sizes = (refl, refl)

-- once blocked, it is accepted, and entry 1 is marked so
blocked : (verdict (card 0x32 0xE0) ≡ says 0 0) × (mark (card 0x32 0xE0) 1 ≡ 2)
unfolding judge mark card shell_sector shell_start directory
blocked = (refl, refl)

-- S 17: an element of 16, S - 1, ends a chain in use, and an element of 17 is number 10
ends_17 : verdict (card17 0x18 0xA0) ≡ says 0 0
unfolding judge card17 shell_start directory
ends_17 = refl

above_17 : verdict (card17 0x18 0xA2) ≡ says 10 1
unfolding judge card17 shell_start directory
above_17 = refl

-- IPELength 7 is 23, 8 passes
length_7 : ((read_ticket (small_card 0x1C 0x02) 1 32).number ≡ 23) × ((read_ticket (small_card 0x1C 0x02) 1 32).entry ≡ 1)
unfolding look small_card one_ticket shell_start
length_7 = (refl, refl)

length_8 : ((read_ticket (small_card 0x20 0x02) 1 32).number ≡ 0) × ((read_ticket (small_card 0x20 0x02) 1 32).entry ≡ 0)
unfolding look small_card one_ticket shell_start
length_8 = (refl, refl)
