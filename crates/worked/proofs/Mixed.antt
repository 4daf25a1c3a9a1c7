-- Each step makes a card that is known, by computation, from each card that it meets; the orders are put together of these, and every other mix is served as they
-- are, by demand 3. Assumes nothing.
use mathlib.Core.Path.{◌≡◌, refl, ap, ◌∙◌}
use mathlib.Core.List.{[], ◌∷◌}
use native.Mathlib.Omega.{arith}
use Rattle.bits.specs.Bits.{Bytes}
use Rattle.bits.proofs.Laws.{below, below-bytes}
use Rattle.rules.specs.Answer.{says}
use Rattle.mixing.specs.Run.{end, log}
use Rattle.mixing.specs.Mix.{Mix, here, there, done, turn, same, lists, Separate, entries_of}
use Rattle.steps.specs.Step.{owner}
use Rattle.steps.specs.Steps.{answer, next}
use Rattle.jobs.specs.Demand.{card_steps}
use Rattle.jobs.proofs.Jobs.{jobs-mixed}
use Rattle.worked.specs.Cards.{shell_start, two_tickets, area_sector, mixed_card}
use Rattle.worked.specs.Area.{at600, at1439}
use Rattle.worked.specs.Mixed.{before, after, ends_1, refused_1, ends_2, refused_2, paid_2, both, in_turn, by_steps, Mixed}
use Rattle.worked.proofs.Cards.{look, act}

-- the first step of each order, and the second
ends-first : (next before ends_1 ≡ mixed_card 0x45 0x9F at600 0) × (next before ends_2 ≡ mixed_card 0x42 0x58 at1439 0)
unfolding act mixed_card two_tickets area_sector shell_start
ends-first = (refl, refl)

ends-second : (next (mixed_card 0x45 0x9F at600 0) ends_2 ≡ mixed_card 0x45 0x9F at1439 0) × (next (mixed_card 0x42 0x58 at1439 0) ends_1 ≡ mixed_card 0x45 0x9F at1439 0)
unfolding act mixed_card two_tickets area_sector shell_start
ends-second = (refl, refl)

-- those that are refused, and the last
others : (next (mixed_card 0x45 0x9F at600 0) refused_1 ≡ mixed_card 0x45 0x9F at600 0) × (next after refused_1 ≡ after)
    × (next (mixed_card 0x45 0x9F at1439 0) refused_2 ≡ mixed_card 0x45 0x9F at1439 0) × (next (mixed_card 0x45 0x9F at1439 0) paid_2 ≡ after)
unfolding act mixed_card two_tickets area_sector shell_start
others = (refl, refl, refl, refl)

says_1 : (answer before ends_1 ≡ says 0 0) × (answer (mixed_card 0x42 0x58 at1439 0) ends_1 ≡ says 0 0)
    × (answer (mixed_card 0x45 0x9F at600 0) refused_1 ≡ says 25 1) × (answer after refused_1 ≡ says 25 1)
unfolding act mixed_card two_tickets area_sector shell_start
says_1 = (refl, refl, refl, refl)

says_2 : (answer before ends_2 ≡ says 0 0) × (answer (mixed_card 0x45 0x9F at600 0) ends_2 ≡ says 0 0)
    × (answer (mixed_card 0x45 0x9F at1439 0) refused_2 ≡ says 22 2) × (answer (mixed_card 0x45 0x9F at1439 0) paid_2 ≡ says 0 0)
unfolding act mixed_card two_tickets area_sector shell_start
says_2 = (refl, refl, refl, refl)

-- ---- the two orders

in-turn : log card_steps before in_turn ≡ (ends_1, says 0 0) ∷ (refused_1, says 25 1) ∷ (ends_2, says 0 0) ∷ (refused_2, says 22 2) ∷ (paid_2, says 0 0) ∷ []
in-turn = rw (ends-first.0, others.0, ends-second.0, others.2, says_1.0, says_1.2, says_2.1, says_2.2, says_2.3)

end_in-turn : end card_steps before in_turn ≡ after
end_in-turn = rw (ends-first.0, others.0, ends-second.0, others.2, others.3)

-- ---- as demand 3 says it

card : Bytes before
unfolding below mixed_card two_tickets area_sector shell_start
card = below-bytes before tt

apart : Separate owner both
apart = record {
  own = ((refl, (refl, tt)), ((refl, (refl, (refl, tt))), tt));
  distinct = ((λ e. omega (arith, e), tt), (tt, tt));
}

mixes : Mix (lists both) in_turn × Mix (lists both) by_steps
mixes = (
  turn here (turn here (turn (there here) (turn (there here) (turn (there here) (done {js = [] ∷ [] ∷ []} (refl, (refl, tt))))))),
  turn (there here) (turn here (turn (there here) (turn (there here) (turn here (done {js = [] ∷ [] ∷ []} (refl, (refl, tt))))))),
)

pub mixed : Mixed
unfolding look mixed_card two_tickets area_sector shell_start
mixed = record {
  card = card;
  apart = apart;
  mixes = mixes;
  in-turn = in-turn;
  by-steps = rw (ends-first.1, ends-second.1, others.2, others.3, says_2.0, says_1.1, says_2.2, says_2.3, says_1.3);
  same = (end_in-turn, rw (ends-first.1, ends-second.1, others.2, others.3, others.1));
  ends = (refl, refl);
  every = λ m h.
      let s = jobs-mixed both apart m h before card in
      (s.ends both same ∙ end_in-turn, s.answers both same 1 ∙ ap (entries_of owner 1) in-turn, s.answers both same 2 ∙ ap (entries_of owner 2) in-turn);
}
