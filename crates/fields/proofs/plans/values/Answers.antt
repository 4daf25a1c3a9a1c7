-- `plans::values` meets its contract. Both loops keep: the first values are read, and zeros stand after them; the outer one also that the parts left are all of
-- the places left. Assumes nothing.
use mathlib.Core.Path.{◌≡◌, refl, sym, ap, ◌∙◌}
use mathlib.Core.List.{List}
use Prim.Native.Nat.{ℕ, ◌+◌, ◌<◌}
use native.Mathlib.Omega.{arith}
use borrow.Author.Rules.{rules}
use lib.ListN.{length, get_or, set, take}
use lib.Seq.{take_all}
use Rattle.fields.specs.Fields.{fields}
use Rattle.fields.specs.Lists.{list_of}
use Rattle.fields.specs.Padded.{held}
use Rattle.fields.proofs.Joined.{width_small}
use Rattle.fields.proofs.Kept.{held_more}
use Rattle.fields.proofs.Laws.{length_fields, get_or-fields}
use Rattle.fields.proofs.Planned.{none, few, short, room, in-part, value-part, next-part, next-end, ends-early, all-passed}
use Rattle.fields.proofs.plans.values.Goals as goal

pub loop-part-init : goal.loop-part-init
loop-part-init g c = let p = c.plan-plan.ensures in record { room = omega arith; read = search rules; ends = refl; left = p.cut }

pub overflow_add-next : goal.overflow_add-next
overflow_add-next g c =
    let l = c.loop-part in
    let p = c.plan-plan.ensures in
    let s = next-part p l.from l.first l.part-index c.loop-part-test.true l.invariant.left in
    let h = few p in
    record { fits = omega (arith, s.fits) }

pub load-x-requires : goal.load-x-requires
load-x-requires g c =
    let l = c.loop-part in
    let p = c.plan-plan.ensures in
    let s = next-part p l.from l.first l.part-index c.loop-part-test.true l.invariant.left in
    let e = ends-early p l.from l.part-index c.loop-part-test.true l.invariant.ends in
    let r = room p c.args.s.now c.requires in
    (omega (arith, s.bytes), omega arith)

pub overflow_add-from : goal.overflow_add-from
overflow_add-from g c =
    let l = c.loop-part in
    let p = c.plan-plan.ensures in
    let e = ends-early p l.from l.part-index c.loop-part-test.true l.invariant.ends in
    let h = short p in
    record { fits = omega arith }

pub overflow_mul-from : goal.overflow_mul-from
overflow_mul-from g c =
    let l = c.loop-part in
    let p = c.plan-plan.ensures in
    let e = ends-early p l.from l.part-index c.loop-part-test.true l.invariant.ends in
    let h = short p in
    record { fits = omega arith }

pub value_in-requires : goal.value_in-requires
value_in-requires g c =
    let l = c.loop-part in
    let p = c.plan-plan.ensures in
    let s = next-part p l.from l.first l.part-index c.loop-part-test.true l.invariant.left in
    let j = c.loop-i.i in
    let n = width_small g.L.List.layout j in
    let b = s.bytes in
    let w = in-part s j (omega arith) (omega arith) in
    rw p.list (w.1, omega arith, omega arith)

pub loop-i-preserved : goal.loop-i-preserved
loop-i-preserved g c =
    let k = g.L.List.layout in
    let o = c.loop-part in
    let l = c.loop-i in
    let p = c.plan-plan.ensures in
    let s = next-part p o.from o.first o.part-index c.loop-part-test.true o.invariant.left in
    let vs = fields c.args.s.now (list_of k) in
    let n = length_fields c.args.s.now (list_of k) in
    let h : l.i < length (list_of k) = omega (arith, s.fits) in
    let f = few p in
    let v : c.value_in.result ≡ get_or vs l.i 0 =
    c.value_in.ensures
    ∙ rw p.list (value-part s c.args.s.now c.load-x.result l.i c.load-x.ensures (omega arith) (omega arith))
    ∙ sym (get_or-fields c.args.s.now (list_of k) l.i h) in
    ap (λ (z : List ℕ). set z l.i c.value_in.result) l.invariant
    ∙ ap (set (held (take l.i vs)) l.i) v
    ∙ held_more vs l.i (omega arith) (omega arith)

pub loop-part-preserved : goal.loop-part-preserved
loop-part-preserved g c =
    let l = c.loop-part in
    let p = c.plan-plan.ensures in
    let s = next-part p l.from l.first l.part-index c.loop-part-test.true l.invariant.left in
    let e : c.loop-i.i ≡ l.first + (get_or c.plan-plan.result.parts.now l.part-index none).0 = omega arith in
    record {
      room = s.fits;
      read = c.loop-i.invariant ∙ ap (λ (i : ℕ). held (take i (fields c.args.s.now (list_of g.L.List.layout)))) e;
      ends = sym (next-end p l.from l.part-index c.loop-part-test.true) ∙ l.invariant.ends;
      left = s.rest;
    }

pub returns : goal.returns
returns g c =
    let k = g.L.List.layout in
    let l = c.loop-part in
    let e = all-passed c.plan-plan.ensures l.from l.first l.part-index (omega arith) l.invariant.left in
    let n = length_fields c.args.s.now (list_of k) in
    l.invariant.read ∙ ap held (take_all l.first (fields c.args.s.now (list_of k)) (omega arith))
