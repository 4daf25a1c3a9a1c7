-- `Bounded::pass` meets its contract: before entry k the pass knows what `Pass` says, and holds what it found of the entry asked for.
-- Assumes nothing.
use mathlib.Core.Path.{◌≡◌, sym, ap, ◌∙◌}
use mathlib.Core.Logic.{◌≢◌}
use mathlib.Core.Bool.{true}
use mathlib.Core.List.{List}
use Prim.Native.Nat.{ℕ, ◌≤◌, ◌+◌, ◌-◌, ◌*◌, ◌/◌, ◌%◌, ◌<◌}
use native.Mathlib.Omega.{arith}
use borrow.Author.Rules.{rules}
use lib.ListN.{get_or, set}
use Rattle.rules.specs.Lowest.{lowest}
use Rattle.chains.specs.Packed.{last_told, left_told, count_told, last_left}
use Rattle.chains.specs.Walk.{walk}
use Rattle.image.proofs.Shapes.{walk_is}
use Rattle.chains.proofs.Pass.{pass-start, allowed-few}
use Rattle.image.specs.Image.{S, e#, element}
use Rattle.image.specs.Verdict.{is_product, broken_at}
use Rattle.image.specs.Found.{last_at, count_at}
use Rattle.image.proofs.Entries.{Pass, Unsound, no_product, pass-skip, pass-none, pass-met, pass-take, pass-end, unsound-lowest}
use Rattle.image.proofs.Founds.{outside}
use Rattle.verdict.proofs.Parts.{says_unsound, says_all}
use Rattle.verdict.proofs.Kept.{Holds, holds-start, holds-skip, holds-take, holds-other, holds-end}
use Rattle.chains.specs.Ended.{end_told}
use Rattle.verdict.proofs.measure.Bounded.pass.Goals.{After-walk, Else-seen-end-ne0}
use Rattle.verdict.proofs.measure.Bounded.pass.Goals.{then-present+in-Some+else-seen-end-ne0+then-k-entry, then-present+in-Some+else-seen-end-ne0+else-k-entry, else-present}
use Rattle.verdict.proofs.measure.Bounded.pass.Goals as goal

-- what the pass learns at entry k of the card m, where 256 in s count one element more than is allowed, and the walk has found the end x with 256 in a for
-- each that was allowed there
module _ (m : List ℕ) (fits : e# m ≤ S m - 3) (most : S m ≤ 255) {k : ℕ} (s x a : ℕ) {seen : List ℕ} (w : Pass m k ((s - 256) / 256) seen) (v : is_product m k ≡ true)
    (h : x < 256) (whole : a % 256 ≡ 0) (e : x + a ≡ last_left ((s - 256) / 256) (walk (element m) (S m) k ((s - 256) / 256))) (least : 256 ≤ a) where
  some : x + a ≢ 0
  some z = omega arith

  last-is : last_told (x + a) ≡ x
  last-is = omega arith

  left-is : left_told (x + a) ≡ (a - 256) / 256
  left-is = omega arith

  met : get_or seen x 0 ≢ 0 → Unsound m k
  met g = pass-met m fits most w v e some (λ z. g ((rw last-is at z)))

  -- of the entry, the number that is kept says the last sector and how many
  taken : 256 ≤ s → s % 256 ≡ 0 → get_or seen x 0 ≡ 0
      → (a ≤ s) × ((x + (s - a)) % 256 ≡ last_at m k) × ((x + (s - a)) / 256 ≡ count_at m k) × Pass m (k + 1) ((a - 256) / 256) (set seen x 1)
  taken ls ws g =
      let z : get_or seen (last_told (x + a)) 0 ≡ 0 = rw last-is g in
      let p = pass-take m fits most w v e some z in
      let q : Pass m (k + 1) ((a - 256) / 256) (set seen x 1) = rw (last-is, left-is) at p.1 in
      let n : count_told (x + a) ((s - 256) / 256) ≡ count_at m k = p.0.count-is in
      let l : x ≡ last_at m k = sym last-is ∙ p.0.last-is in
      let t : 256 ≤ x + a = p.0.told in
      let f : left_told (x + a) ≤ (s - 256) / 256 = p.0.fewer in
      let r : (x + (s - a)) % 256 ≡ x = omega arith in
      let u : (x + (s - a)) / 256 ≡ count_told (x + a) ((s - 256) / 256) = omega arith in
      (omega arith, r ∙ l, u ∙ n, q)

pub loop-k-init : goal.loop-k-init
loop-k-init c =
    let m = c.measured-card.result.image.now in
    let p = c.measured-card.result.shaped in
    let n = no_product m 0 (search rules) (outside m 0 (λ a b. omega arith)) in
    let q : (256 * (S m - 2) - 256) / 256 ≡ S m - 3 = omega arith in
    (omega arith, rw (p.sectors_is, q) (pass-start (is_product m) (element m) (S m)), omega (arith, p.in_bounds.s_least, p.sectors_is), omega arith, holds-start n.1, holds-start n.2)

pub present-requires : goal.present-requires
present-requires c = omega arith

pub walk-requires : goal.walk-requires
walk-requires c =
    let s = c.measured-card.result.shaped in
    let m = c.measured-card.result.image.now in
    record {
      sector = rw c.table-table.ensures.place (record { low = c.loop-k.invariant.1.allowed.low; high = omega (arith, s.in_bounds.e_top, s.entries-is, s.sectors_is) });
      allowed_bound = omega (arith, allowed-few (is_product m) (element m) (S m) c.loop-k.invariant.1.allowed, s.in_bounds.s_top);
    }

-- the walk over the table is that over the image's elements
walked : (c : After-walk) → let m = c.measured-card.result.image.now in let n = (c.loop-k.spare - 256) / 256 in end_told c.walk.result ≡ last_left n (walk (element m) (S m) c.loop-k.k n)
walked c = rw (c.table-table.ensures.bytes, c.table-table.ensures.place, walk_is c.measured-card.result.shaped c.loop-k.k ((c.loop-k.spare - 256) / 256)) at c.walk.ensures

pub returns-in_default : goal.returns-in_default
returns-in_default c =
    let l = c.loop-k in
    let m = c.measured-card.result.image.now in
    let u = pass-none m (search rules) (search rules) l.invariant.1 (sym c.present.ensures ∙ c.if-present.true) (walked (goal.at.returns-in_default c).After-walk) (ap end_told c.in_default.is) in
    c.unsound.ensures ∙ rw (← c.measured-card.ensures) (says_unsound (lowest (e# m) (broken_at m)) _ _ l.invariant.1.allowed.low (unsound-lowest m u l.invariant.1.allowed.low (omega arith)))

pub bounds-seen-end : goal.bounds-seen-end
bounds-seen-end c = c.in-Some.end.last_small

pub returns-then-seen-end-ne0 : goal.returns-then-seen-end-ne0
returns-then-seen-end-ne0 c =
    let l = c.loop-k in
    let m = c.measured-card.result.image.now in
    let d = c.in-Some.end in
    let e = ap end_told (sym c.in-Some.is) ∙ walked (goal.at.returns-then-seen-end-ne0 c).After-walk in
    let u = met m (search rules) (search rules) l.spare d.last d.allowed l.invariant.1 (sym c.present.ensures ∙ c.if-present.true) d.last_small d.allowed_whole e d.allowed_least c.if-seen-end-ne0.true in
    c.unsound-then-seen-end-ne0.ensures ∙ rw (← c.measured-card.ensures) (says_unsound (lowest (e# m) (broken_at m)) _ _ l.invariant.1.allowed.low (unsound-lowest m u l.invariant.1.allowed.low (omega arith)))

pub bounds-seen-end-then-present : goal.bounds-seen-end-then-present
bounds-seen-end-then-present c = c.in-Some.end.last_small

-- what is learnt of a chain that ends where none has ended
learnt : (c : Else-seen-end-ne0) → let m = c.measured-card.result.image.now in let d = c.in-Some.end in let s = c.loop-k.spare in let k = c.loop-k.k in
    (d.allowed ≤ s) × ((d.last + (s - d.allowed)) % 256 ≡ last_at m k) × ((d.last + (s - d.allowed)) / 256 ≡ count_at m k)
    × Pass m (k + 1) ((d.allowed - 256) / 256) (set c.loop-k.seen d.last 1)
learnt c =
    let m = c.measured-card.result.image.now in
    let l = c.loop-k in
    let d = c.in-Some.end in
    let n = (l.spare - 256) / 256 in
    let e : d.last + d.allowed ≡ last_left n (walk (element m) (S m) l.k n) =
    ap end_told (sym c.in-Some.is) ∙ (rw (c.table-table.ensures.bytes, c.table-table.ensures.place, walk_is c.measured-card.result.shaped l.k n) at c.walk.ensures) in
    taken m (search rules) (search rules) l.spare d.last d.allowed l.invariant.1 (sym c.present.ensures ∙ c.if-present.true) d.last_small d.allowed_whole e d.allowed_least l.invariant.2 l.invariant.3 c.if-seen-end-ne0.false

pub overflow_sub-told : goal.overflow_sub-told
overflow_sub-told c = (learnt (goal.at.overflow_sub-told c).Else-seen-end-ne0).0

pub loop-k-preserved : goal.loop-k-preserved
loop-k-preserved c =
    let l = c.loop-k in
    let m = c.measured-card.result.image.now in
    let j = c.args.entry in
    let x = c.present.ensures in
    let q = c.if-present in
    let r : Pass m (l.k + 1) ((q.spare - 256) / 256) q.seen × (256 ≤ q.spare) × (q.spare % 256 ≡ 0) × Holds (last_at m) j (l.k + 1) (q.told % 256) × Holds (count_at m) j (l.k + 1) (q.told / 256) =
    elim c.if-present.branch [
      | then-present+in-Some+else-seen-end-ne0+then-k-entry w ↦
          let d = w.in-Some.end in
          let n = taken m (search rules) (search rules) l.spare d.last d.allowed l.invariant.1 (sym x ∙ w.if-present.true) d.last_small d.allowed_whole
          (ap end_told (sym w.in-Some.is) ∙ (rw (c.table-table.ensures.bytes, c.table-table.ensures.place, walk_is c.measured-card.result.shaped l.k ((l.spare - 256) / 256)) at w.walk.ensures))
          d.allowed_least l.invariant.2 l.invariant.3 w.if-seen-end-ne0.false in (
            rw (w.seen-is, w.spare-is) n.3,
            rw w.spare-is d.allowed_least,
            rw w.spare-is d.allowed_whole,
            rw w.told-is (holds-take l.invariant.4 n.1 w.if-k-entry.true),
            rw w.told-is (holds-take l.invariant.5 n.2 w.if-k-entry.true),
          )
      | then-present+in-Some+else-seen-end-ne0+else-k-entry w ↦
          let d = w.in-Some.end in
          let n = taken m (search rules) (search rules) l.spare d.last d.allowed l.invariant.1 (sym x ∙ w.if-present.true) d.last_small d.allowed_whole
          (ap end_told (sym w.in-Some.is) ∙ (rw (c.table-table.ensures.bytes, c.table-table.ensures.place, walk_is c.measured-card.result.shaped l.k ((l.spare - 256) / 256)) at w.walk.ensures))
          d.allowed_least l.invariant.2 l.invariant.3 w.if-seen-end-ne0.false in (
            rw (w.seen-is, w.spare-is) n.3,
            rw w.spare-is d.allowed_least,
            rw w.spare-is d.allowed_whole,
            rw w.told-is (holds-other l.invariant.4 w.if-k-entry.false),
            rw w.told-is (holds-other l.invariant.5 w.if-k-entry.false),
          )
      | else-present w ↦
          let p = sym x ∙ w.if-present.false in
          let n = no_product m l.k (search rules) p in (
            rw (w.seen-is, w.spare-is) (pass-skip m (search rules) (search rules) l.invariant.1 p),
            rw w.spare-is l.invariant.2,
            rw w.spare-is l.invariant.3,
            rw w.told-is (holds-skip l.invariant.4 n.1),
            rw w.told-is (holds-skip l.invariant.5 n.2),
          )
    ] in
    (omega arith, r.0, r.1, r.2, r.3, r.4)

pub returns : goal.returns
returns c =
    let l = c.loop-k in
    let m = c.measured-card.result.image.now in
    let j = c.args.entry in
    let e = pass-end m (search rules) (search rules) l.invariant.1 (omega arith) in
    let n : l.k ≤ j → _ = λ h. no_product m j (search rules) (outside m j (λ a b. omega arith)) in
    rw (← c.measured-card.ensures) (says_all e.0 e.1 (holds-end l.invariant.4 (λ h. (n h).1)) (holds-end l.invariant.5 (λ h. (n h).2)))
