-- An example of the theorem: a card with three products and three jobs, with a refused step, a block and a record write among them. Every mix
-- answers alike, and two mixes end alike; what each step answers is computed from the starting card. Assumes nothing.
use mathlib.Core.Path.{◌≡◌, refl, sym, ap, ◌∙◌}
use mathlib.Core.List.{List, [], ◌∷◌, ◌++◌}
use Prim.Native.Nat.{ℕ}
use native.Mathlib.Omega.{arith}
use lib.ListN.{replicate}
use lib.Count.{count_leading_zeros}
use Rattle.bits.specs.Bits.{Bytes, digit, bit, number, field, bytes, stored, store}
use Rattle.bits.proofs.Laws.{below, below-bytes}
use Rattle.fields.specs.Fields.{fields, stores, shifted}
use Rattle.chains.specs.Walk.{link, member, walk_on}
use Rattle.chains.specs.Psi.{Ψ, table_bytes}
use Rattle.chains.specs.Products as products
use Rattle.crc.specs.Crc.{clock, clocks, register, crc}
use Rattle.digits.specs.Digits.{digits_of, luhn}
use Rattle.rules.specs.First.{all, first}
use Rattle.rules.specs.Lowest.{lowest}
use Rattle.ticket.specs.Kind.{form_in}
use Rattle.image.specs.Image.{stated, version, copy, shell_values, dataset, B, S, e#, SCTL, shell_pad, SECR, before_SECR, sector_at, directory_at, entry_at, table_at, element, table_pad, chain, sectors, mark, sector, joined, product}
use Rattle.rules.specs.Answer.{says}
use Rattle.rules.specs.declared.Answer.{Answer}
use Rattle.image.specs.Verdict.{is_product, broken_at, shares_at, verdict}
use Rattle.image.specs.Rules.{rules}
use Rattle.image.specs.Product.{element_at, product_at}
use Rattle.image.specs.Seen.{seen}
use Rattle.mixing.specs.Run.{end, log}
use Rattle.mixing.specs.Mix.{Mix, here, there, done, turn, same, Job, lists, Separate, entries_of}
use Rattle.steps.specs.Step.{Step, write, write_all, set_mark, owner, step_rules}
use Rattle.steps.specs.Steps.{answer, next}
use Rattle.steps.proofs.Acts.{refused-same}
use Rattle.jobs.specs.Demand.{card_steps}
use Rattle.jobs.proofs.Jobs.{jobs-mixed}

-- S 6, B 33, e# 3, copy A, three tickets of TYP 23; the table says that the first is fresh and the others are used, or begins with the byte a
unfoldable pub image : ℕ → List ℕ
image a =
    0x00 ∷ 0xCA ∷ 1 ∷ 0
    ∷ 0x18 ∷ 0x01 ∷ 0x63 ∷ 0x35 ∷ 0x97 ∷ 0x12 ∷ 0x34 ∷ 0x12 ∷ 0x34 ∷ 0x56 ∷ 0x77 ∷ 0x01
    ∷ 0x00 ∷ 0x00 ∷ 0x00 ∷ 0x64 ∷ 0x21 ∷ 0x06 ∷ 0x03 ∷ 0x02 ∷ 0x00 ∷ 0x00 ∷ 0x97 ∷ 0xF6
    ∷ (replicate 9 0 ++ (0x20 ∷ 0x02 ∷ replicate 31 0 ++ (0x20 ∷ 0x02 ∷ replicate 31 0 ++ (0x20 ∷ 0x02 ∷ replicate 31 0
    ++ (0 ∷ 0 ∷ 0x00 ∷ 0x06 ∷ 0xE1 ∷ 0x00 ∷ 0x01 ∷ 0x00 ∷ 0x06 ∷ 0xE1 ∷ 0x00 ∷ 0x01 ∷ 0x00 ∷ 0x06 ∷ 0xE1 ∷ 0x00 ∷ 0x01
    ∷ a ∷ 0x80 ∷ replicate 47 0)))))

abbrev pub values : List ℕ
values = 1 ∷ 2 ∷ 3 ∷ 1 ∷ 5 ∷ 2 ∷ 7 ∷ 8 ∷ 600 ∷ 10 ∷ 3 ∷ 12 ∷ 13 ∷ 14 ∷ 15 ∷ 1 ∷ 100000 ∷ 3 ∷ 2000 ∷ 77 ∷ 21 ∷ 22 ∷ []

-- the jobs: block, and go on after the refusal; write a record; two refused writes, and a mark
abbrev pub block : Job Step
block = record { product = 1; steps = set_mark 1 2 ∷ write 1 9 600 ∷ [] }

abbrev pub top_up : Job Step
top_up = record { product = 2; steps = write_all 2 23 2 values ∷ [] }

abbrev pub fare : Job Step
fare = record { product = 3; steps = write 3 9 2048 ∷ write 3 23 0 ∷ set_mark 3 1 ∷ [] }

abbrev pub jobs : List (Job Step)
jobs = block ∷ top_up ∷ fare ∷ []

separate : Separate owner jobs
separate = record {
  own = ((refl, (refl, tt)), ((refl, tt), ((refl, (refl, (refl, tt))), tt)));
  distinct = ((λ e. omega (arith, e), (λ e. omega (arith, e), tt)), ((λ e. omega (arith, e), tt), (tt, tt)));
}

-- two ways to mix them
abbrev pub in_turn : List Step
in_turn = set_mark 1 2 ∷ write_all 2 23 2 values ∷ write 3 9 2048 ∷ write 1 9 600 ∷ write 3 23 0 ∷ set_mark 3 1 ∷ []

abbrev pub fare_first : List Step
fare_first = write 3 9 2048 ∷ write 3 23 0 ∷ set_mark 1 2 ∷ set_mark 3 1 ∷ write_all 2 23 2 values ∷ write 1 9 600 ∷ []

in-turn : Mix (lists jobs) in_turn
in-turn = turn here (turn (there here) (turn (there (there here)) (turn here (turn (there (there here)) (turn (there (there here)) (done {js = [] ∷ [] ∷ [] ∷ []} (refl, (refl, (refl, tt)))))))))

fare-first : Mix (lists jobs) fare_first
fare-first = turn (there (there here)) (turn (there (there here)) (turn here (turn (there (there here)) (turn (there here) (turn here (done {js = [] ∷ [] ∷ [] ∷ []} (refl, (refl, (refl, tt)))))))))

image-bytes : Bytes (image 0x36)
unfolding image below
image-bytes = below-bytes (image 0x36) tt

-- the two mixes end alike, as the jobs whole
pub ends-alike : end card_steps (image 0x36) in_turn ≡ end card_steps (image 0x36) fare_first
ends-alike =
    (jobs-mixed jobs separate in_turn in-turn (image 0x36) image-bytes).ends jobs same
    ∙ sym ((jobs-mixed jobs separate fare_first fare-first (image 0x36) image-bytes).ends jobs same)

-- ---- the answers

-- what is to be computed
judge : List ℕ → Step → Answer
unfolding answer seen product_at element_at step_rules form_in verdict rules first all stated version copy shell_values fields dataset B S e# SCTL shell_pad SECR before_SECR sector_at directory_at entry_at table_at is_product Ψ table_bytes element table_pad chain sectors mark sector joined product broken_at shares_at products.broken_at products.shares_at member products.meet products.some lowest field number bit digit count_leading_zeros walk_on link crc digits_of luhn register clocks clock
judge c s = answer c s

act : List ℕ → Step → List ℕ
unfolding judge next stores store bytes stored shifted
act c s = next c s

answers-first : (answer (image 0x36) (set_mark 1 2) ≡ says 0 0) × (answer (image 0x36) (write_all 2 23 2 values) ≡ says 0 0) × (answer (image 0x36) (write 3 9 2048) ≡ says 26 3)
    × (answer (image 0x36) (write 3 23 0) ≡ says 25 3) × (answer (image 0x36) (set_mark 3 1) ≡ says 0 0)
unfolding judge image
answers-first = (refl, refl, refl, refl, refl)

-- blocking makes SCT(1) 4: the table's first byte is 96
blocked : next (image 0x36) (set_mark 1 2) ≡ image 0x96
unfolding act image
blocked = refl

answers-blocked : answer (image 0x96) (write 1 9 600) ≡ says 27 1
unfolding judge image
answers-blocked = refl

refused-first : (next (image 0x36) (write 3 9 2048) ≡ image 0x36) × (next (image 0x36) (write 3 23 0) ≡ image 0x36)
refused-first = (
  refused-same (image 0x36) (write 3 9 2048) (omega (arith, ap (λ (v : Answer). v.number) answers-first.2)),
  refused-same (image 0x36) (write 3 23 0) (omega (arith, ap (λ (v : Answer). v.number) answers-first.3)),
)

-- whatever the mix, these are the answers of the three jobs' steps
pub answered : (m : List Step) → Mix (lists jobs) m
    → (entries_of owner 1 (log card_steps (image 0x36) m) ≡ (set_mark 1 2, says 0 0) ∷ (write 1 9 600, says 27 1) ∷ [])
    × (entries_of owner 2 (log card_steps (image 0x36) m) ≡ (write_all 2 23 2 values, says 0 0) ∷ [])
    × (entries_of owner 3 (log card_steps (image 0x36) m) ≡ (write 3 9 2048, says 26 3) ∷ (write 3 23 0, says 25 3) ∷ (set_mark 3 1, says 0 0) ∷ [])
answered m h =
    let a = (jobs-mixed jobs separate m h (image 0x36) image-bytes).alone in (
      a.0 ∙ rw (blocked, answers-first.0, answers-blocked),
      a.1.0 ∙ rw answers-first.1,
      a.1.1.0 ∙ rw (refused-first.0, refused-first.1, answers-first.2, answers-first.3, answers-first.4),
    )
