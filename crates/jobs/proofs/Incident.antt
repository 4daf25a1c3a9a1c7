-- The incident, by computation: on document 01's table 33 F0 two chains end in the same sector. Without rule 11 the mark of one is the mark of
-- the other, and the order of two marks shows; with it the card is refused. Assumes nothing.
use mathlib.Core.Path.{◌≡◌, refl}
use mathlib.Core.List.{List, ◌∷◌, ◌++◌}
use Prim.Native.Nat.{ℕ}
use lib.ListN.{replicate}
use lib.Count.{count_leading_zeros}
use Rattle.bits.specs.Bits.{digit, bit, number, field, bytes, stored, store}
use Rattle.fields.specs.Fields.{fields, stores, shifted}
use Rattle.chains.specs.Walk.{link, member, walk_on}
use Rattle.chains.specs.Psi.{Ψ, table_bytes}
use Rattle.chains.specs.Products as products
use Rattle.crc.specs.Crc.{clock, clocks, register, crc}
use Rattle.digits.specs.Digits.{digits_of, luhn}
use Rattle.rules.specs.First.{all, first}
use Rattle.rules.specs.Lowest.{lowest}
use Rattle.image.specs.Image.{stated, version, copy, shell_values, dataset, B, S, e#, SCTL, shell_pad, SECR, before_SECR, sector_at, directory_at, entry_at, table_at, element, table_pad, chain, sectors, mark, sector, joined, product}
use Rattle.rules.specs.Answer.{says}
use Rattle.rules.specs.declared.Answer.{Answer}
use Rattle.image.specs.Verdict.{is_product, broken_at, shares_at, verdict}
use Rattle.image.specs.Rules.{rules}
use Rattle.image.specs.Product.{element_at, product_at}
use Rattle.image.specs.Seen.{seen}
use Rattle.steps.specs.Step.{Step, set_mark, step_rules}
use Rattle.steps.specs.Steps.{answer}
use Rattle.jobs.specs.Loose.{verdict_loose, seen_loose, answer_loose, next_loose}

-- S 16, B 33, e# 2, copy A, TYP 23 twice; the table begins with the bytes 33 and a
unfoldable pub card : ℕ → List ℕ
card a =
    0x02 ∷ 0x14 ∷ 1 ∷ 0
    ∷ 0x18 ∷ 0x01 ∷ 0x63 ∷ 0x35 ∷ 0x97 ∷ 0x12 ∷ 0x34 ∷ 0x12 ∷ 0x34 ∷ 0x56 ∷ 0x77 ∷ 0x01
    ∷ 0x00 ∷ 0x00 ∷ 0x00 ∷ 0x64 ∷ 0x21 ∷ 0x10 ∷ 0x02 ∷ 0x07 ∷ 0x00 ∷ 0x00 ∷ 0x3D ∷ 0x28
    ∷ (replicate 9 0 ++ (replicate 429 0 ++ (0 ∷ 0 ∷ 0x00 ∷ 0x06 ∷ 0xE1 ∷ 0x00 ∷ 0x01 ∷ 0x00 ∷ 0x06 ∷ 0xE1 ∷ 0x00 ∷ 0x01
    ∷ 0x33 ∷ a ∷ replicate 52 0)))

-- what is to be computed
judge : List ℕ → Step → Answer
unfolding answer seen product_at element_at step_rules verdict rules first all stated version copy shell_values fields dataset B S e# SCTL shell_pad SECR before_SECR sector_at directory_at entry_at table_at is_product Ψ table_bytes element table_pad chain sectors mark sector joined product broken_at shares_at products.broken_at products.shares_at member products.meet products.some lowest field number bit digit count_leading_zeros walk_on link crc digits_of luhn register clocks clock
judge c s = answer c s

-- with rule 11 every step on it is refused
pub refused : (answer (card 0xF0) (set_mark 1 2) ≡ says 11 2) × (answer (card 0xF0) (set_mark 2 1) ≡ says 11 2)
unfolding judge card
refused = (refl, refl)

judge_loose : List ℕ → Step → Answer
unfolding judge verdict_loose seen_loose answer_loose
judge_loose c s = answer_loose c s

act_loose : List ℕ → Step → List ℕ
unfolding judge_loose next_loose stores store bytes stored shifted
act_loose c s = next_loose c s

-- without it, mark 1 on entry 2 is taken
pub taken : answer_loose (card 0xF0) (set_mark 2 1) ≡ says 0 0
unfolding judge_loose card
taken = refl

-- but blocking entry 1 first blocks entry 2 with it ..
pub blocked : next_loose (card 0xF0) (set_mark 1 2) ≡ card 0xE0
unfolding act_loose card
blocked = refl

blocked-answer : answer_loose (card 0xE0) (set_mark 2 1) ≡ says 27 2
unfolding judge_loose card
blocked-answer = refl

-- .. and the same step is refused with 27: the order of the two marks shows
pub order_shows : (answer_loose (card 0xF0) (set_mark 2 1) ≡ says 0 0) × (answer_loose (next_loose (card 0xF0) (set_mark 1 2)) (set_mark 2 1) ≡ says 27 2)
order_shows = (taken, rw blocked blocked-answer)
