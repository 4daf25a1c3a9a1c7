-- Steps on different products do not see each other, and may change places, on any image of bytes, acceptable or not: a step looks at its own
-- entry, chain and product, and stores in a region of its own. Assumes nothing.
use mathlib.Core.Path.{◌≡◌, sym, ap}
use mathlib.Core.Logic.{◌≢◌, inl, inr}
use mathlib.Core.List.{List}
use Prim.Native.Nat.{ℕ}
use native.Mathlib.Decide.{dec_lt}
use native.Mathlib.Omega.{arith}
use Rattle.bits.specs.Bits.{Bytes}
use Rattle.bits.proofs.Laws.{Apart}
use Rattle.fields.specs.declared.Span.{Span}
use Rattle.fields.specs.Fields.{stores}
use Rattle.fields.proofs.Only.{Inside, stores_comm}
use Rattle.chains.proofs.Laws.{last-in}
use Rattle.image.specs.Image.{S, table_at, element}
use Rattle.image.specs.Seen.{Seen, seen}
use Rattle.image.proofs.Same.{elements-apart, element_in_lem, sector-before, before-directory}
use Rattle.image.proofs.Stays.{chain_of, no-common}
use Rattle.mixing.specs.Alike.{Commute, Other}
use Rattle.steps.specs.Step.{Step, owner}
use Rattle.steps.specs.Steps.{answer_of, answer, places_of, values_of, next}
use Rattle.steps.proofs.Acts.{Taken, Act, idle, acts, act, refused-same, region, tail, inside, own-sector, tail-sector, in_bounds}
use Rattle.steps.proofs.Keeps.{bytes_next, Where, body, link, where-is, mark-kept, seen-marked}
use Rattle.jobs.specs.Demand.{card_steps}

-- ---- what a step sees

-- a step on another product sees what it saw
pub seen_next : (c : List ℕ) → Bytes c → (s : Step) (j : ℕ) → owner s ≢ j → seen (next c s) j ≡ seen c j
seen_next c b s j d = go (act c s)
  where
    go : Act c s → seen (next c s) j ≡ seen c j
    go (idle e n) = ap (λ (l : List ℕ). seen l j) (refused-same c s n)
    go (acts t) = seen-marked c b s t j (λ v. mark-kept c b s t j v d)

-- and so answers what it answered
pub answer-next : (c : List ℕ) (s t : Step) → Bytes c → owner s ≢ owner t → answer (next c t) s ≡ answer c s
unfolding answer
answer-next c s t b d = ap (λ (x : Seen). answer_of x s) (seen_next c b t (owner s) (λ e. d (sym e)))

-- ---- where a step stores

-- the regions of two products are apart
module _ (c : List ℕ) (b : Bytes c) (s t : Step) (x : Taken c s) (y : Taken c t) (d : owner s ≢ owner t) where
  -- for their chains have no sector in common, the last ones neither
  tails : tail c s ≢ tail c t
  tails e =
      no-common c x.obeyed x.present y.present d
      (tail c s, last-in (element c) (S c) (chain_of c x.obeyed x.present).leads, rw e (last-in (element c) (S c) (chain_of c y.obeyed y.present).leads))

  apart-where : {p q : Span} → Where c s p → Where c t q → Apart p.0 p.1 q.0 q.1
  unfolding table_at
  apart-where (body p w g h) (body q u k l) = elim (dec_lt (owner s) (owner t)) [
    | yes z ↦ inl (omega (arith, sector-before c (owner s) (owner t) z))
    | no z ↦ inr (omega (arith, sector-before c (owner t) (owner s) (omega arith)))
  ]
  apart-where (body p w g h) link =
      inl (omega (arith, before-directory c (in_bounds c b s x) (owner s) (own-sector c b s x), element_in_lem c (tail c t) (tail-sector c b t y)))
  apart-where link (body q u k l) =
      inr (omega (arith, before-directory c (in_bounds c b t y) (owner t) (own-sector c b t y), element_in_lem c (tail c s) (tail-sector c b s x)))
  apart-where link link = elements-apart c (tail c s) (tail c t) (tail-sector c b s x).low (tail-sector c b t y).low tails

  pub apart-regions : Apart (region c s).0 (region c s).1 (region c t).0 (region c t).1
  apart-regions = apart-where (where-is c s x) (where-is c t y)

inside-places : (c : List ℕ) (s : Step) → Taken c s → Inside (region c s).0 (region c s).1 (places_of (seen c (owner s)) s)
inside-places c s x = rw x.places (inside c s x)

stores_acts : (c : List ℕ) → Bytes c → (s t : Step) → owner s ≢ owner t → Act c s → Act c t
    → stores (stores c (places_of (seen c (owner s)) s) (values_of (seen c (owner s)) s)) (places_of (seen c (owner t)) t) (values_of (seen c (owner t)) t)
    ≡ stores (stores c (places_of (seen c (owner t)) t) (values_of (seen c (owner t)) t)) (places_of (seen c (owner s)) s) (values_of (seen c (owner s)) s)
unfolding stores
stores_acts c b s t d (idle e n) y = rw e
stores_acts c b s t d (acts x) (idle e n) = rw e
stores_acts c b s t d (acts x) (acts y) =
    stores_comm (region c s).0 (region c s).1 (region c t).0 (region c t).1 c
    (places_of (seen c (owner s)) s) (values_of (seen c (owner s)) s) (places_of (seen c (owner t)) t) (values_of (seen c (owner t)) t) (inside-places c s x) (inside-places c t y) (apart-regions c b s t x y d)

-- so two steps may change places
pub next-next : (c : List ℕ) (s t : Step) → Bytes c → owner s ≢ owner t → next (next c s) t ≡ next (next c t) s
unfolding next
next-next c s t b d =
    rw (seen_next c b s (owner t) d, seen_next c b t (owner s) (λ e. d (sym e))) (stores_acts c b s t d (act c s) (act c t))

pub commute : Commute card_steps Bytes (Other owner)
commute = record {
  stays = λ c s b. bytes_next c s b;
  symmetric = λ s t h e. h (sym e);
  answers = λ c s t b d. answer-next c s t b d;
  states = λ c s t b d. next-next c s t b d;
}
