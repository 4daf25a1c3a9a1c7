-- `plans::lay` meets its contract. Where the values fit, the loop keeps: the first values are stored, and the parts left are all of the places left. Assumes nothing.
use mathlib.Core.Path.{◌≡◌, refl, sym, ap, ◌∙◌}
use mathlib.Core.Bool.{Bool}
use mathlib.Core.List.{List}
use Prim.Native.Nat.{ℕ}
use native.Mathlib.Omega.{arith}
use lib.ListN.{length, take}
use lib.Seq.{length-take-le}
use Rattle.rules.specs.First.{holds}
use Rattle.rules.proofs.ClaimLaws.{holds_means}
use Rattle.bits.proofs.Laws.{length-store}
use Rattle.fields.specs.Fields.{stores, fit}
use Rattle.fields.specs.Lists.{list_of}
use Rattle.fields.specs.declared.Layout.{Layout}
use Rattle.fields.specs.declared.plans.Plan.{Plan}
use Rattle.fields.specs.Plans.{Plans, values_of}
use Rattle.fields.proofs.Joined.{widths_small}
use Rattle.fields.proofs.Packing.{done, refused}
use Rattle.fields.proofs.Planned.{few, short, room, joined, next-part, next-end, ends-early, all-passed, part-wide, part-fits, part-more, parts_all}
use Rattle.fields.proofs.plans.lay.Goals as goal

-- the values that are looked at are the list's own
judged : {k : Layout} {r : Plan} → Plans k r → (vs : List ℕ) {b : Bool} → b ≡ holds (fit r.places.now (take (length r.places.now) vs))
    → holds (fit (list_of k) (values_of k vs)) ≡ b
judged p vs e = sym (rw p.list at e)

pub each_fits-requires : goal.each_fits-requires
each_fits-requires g c =
    let p = c.plan-plan.ensures in
    let h = few p in
    let n = ap length p.list in
    (length-take-le (length c.plan-plan.result.places.now) c.args.values.now (omega arith), widths_small g.L.List.layout c.plan-plan.result.places.now p.list)

pub returns-then-not-each_fits : goal.returns-then-not-each_fits
returns-then-not-each_fits g c =
    let d = refused g.L.List.layout (values_of g.L.List.layout c.args.values.now) c.args.s.now (judged c.plan-plan.ensures c.args.values.now c.each_fits.ensures ∙ c.if-not-each_fits.true) in
    record { value = d.0; s_after = d.1 }

pub loop-part-init : goal.loop-part-init
unfolding stores
loop-part-init g c = record { room = omega arith; bytes = λ j. (c.type_inv.s j).fits; size = refl; stored = refl; ends = refl; left = c.plan-plan.ensures.cut }

pub together-x-requires : goal.together-x-requires
together-x-requires g c =
    let k = g.L.List.layout in
    let l = c.loop-part in
    let p = c.plan-plan.ensures in
    let s = next-part p l.from l.first l.part-index c.loop-part-test.true l.invariant.left in
    let f = holds_means (fit (list_of k) (values_of k c.args.values.now)) (judged p c.args.values.now c.each_fits.ensures ∙ c.if-not-each_fits.false) in
    record { means = f; count_bound = (s.fits, omega (arith, s.bytes, part-wide s 16 _ (joined p))) }

pub save-requires : goal.save-requires
save-requires g c =
    let k = g.L.List.layout in
    let l = c.loop-part in
    let p = c.plan-plan.ensures in
    let s = next-part p l.from l.first l.part-index c.loop-part-test.true l.invariant.left in
    let e = ends-early p l.from l.part-index c.loop-part-test.true l.invariant.ends in
    let r = room p c.args.s.now c.requires in
    let n = l.invariant.size in
    let f = holds_means (fit (list_of k) (values_of k c.args.values.now)) (judged p c.args.values.now c.each_fits.ensures ∙ c.if-not-each_fits.false) in
    (part-fits p c.args.s.now c.args.values.now l.invariant.bytes c.requires f s c.together-x.ensures, omega arith)

pub overflow_add-first : goal.overflow_add-first
overflow_add-first g c =
    let l = c.loop-part in
    let p = c.plan-plan.ensures in
    let s = next-part p l.from l.first l.part-index c.loop-part-test.true l.invariant.left in
    let h = few p in
    record { fits = omega (arith, s.fits) }

pub overflow_add-from : goal.overflow_add-from
overflow_add-from g c =
    let l = c.loop-part in
    let p = c.plan-plan.ensures in
    let e = ends-early p l.from l.part-index c.loop-part-test.true l.invariant.ends in
    let h = short p in
    record { fits = omega arith }

pub loop-part-preserved : goal.loop-part-preserved
loop-part-preserved g c =
    let k = g.L.List.layout in
    let l = c.loop-part in
    let p = c.plan-plan.ensures in
    let s = next-part p l.from l.first l.part-index c.loop-part-test.true l.invariant.left in
    let f = holds_means (fit (list_of k) (values_of k c.args.values.now)) (judged p c.args.values.now c.each_fits.ensures ∙ c.if-not-each_fits.false) in
    let e = c.save.ensures in
    record {
      room = s.fits;
      bytes = l.invariant.bytes;
      size = ap length e ∙ simp length-store l.invariant.size;
      stored = part-more p c.args.s.now c.args.values.now l.invariant.bytes c.requires f s c.together-x.ensures l.invariant.stored e;
      ends = sym (next-end p l.from l.part-index c.loop-part-test.true) ∙ l.invariant.ends;
      left = s.rest;
    }

pub returns : goal.returns
returns g c =
    let k = g.L.List.layout in
    let l = c.loop-part in
    let p = c.plan-plan.ensures in
    let vs = values_of k c.args.values.now in
    let e = judged p c.args.values.now c.each_fits.ensures ∙ c.if-not-each_fits.false in
    let f = holds_means (fit (list_of k) vs) e in
    let n = all-passed p l.from l.first l.part-index (omega arith) l.invariant.left in
    let a = l.invariant.stored ∙ parts_all p c.args.s.now c.args.values.now l.invariant.bytes c.requires f l.first (omega (arith, l.invariant.room)) in
    let d = done k vs c.args.s.now e in
    record { value = d.0; s_after = a ∙ d.1 }
