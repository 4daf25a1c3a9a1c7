-- `plans::together` meets its contract: each turn puts one value more behind the number, and at most 56 bits wrap nowhere. Assumes nothing.
use mathlib.Core.Path.{◌≡◌}
use mathlib.Core.List.{List}
use Prim.Native.Nat.{ℕ, ◌+◌, ◌-◌, ◌*◌, ◌%◌, ◌^◌, ◌≤◌, ◌<◌}
use native.Mathlib.Nat.{sub_self}
use native.Mathlib.Omega.{arith}
use lib.ListN.{length, get_or}
use lib.Seq.{get_or-take}
use Rattle.rules.specs.Claim.{Means}
use Rattle.fields.specs.declared.Layout.{Layout}
use Rattle.fields.specs.declared.plans.Plan.{Plan}
use Rattle.fields.specs.Lists.{list_of, bit_after, nth}
use Rattle.fields.specs.Fields.{fit}
use Rattle.fields.specs.Plans.{Plans, values_of}
use Rattle.fields.specs.Together.{wide, together}
use Rattle.fields.proofs.Joined.{width_small}
use Rattle.fields.proofs.Planned.{joined}
use Rattle.fields.proofs.Together.{together-more}
use Rattle.fields.proofs.plans.together.Goals as goal

-- one value more, of all that the record holds
more : {k : Layout} {r : Plan} → Plans k r → (vs : List ℕ) (first i count x : ℕ) → Means (fit (list_of k) (values_of k vs)) → first + count ≤ length (list_of k)
    → first ≤ i → i < first + count → wide (list_of k) first count ≤ 56 → x ≡ together (list_of k) (values_of k vs) first (i - first)
    → (x * 2 ^ (nth r.places.now i).1 % 2 ^ 64 + get_or vs i 0 < 2 ^ 64)
    × (x * 2 ^ (nth r.places.now i).1 % 2 ^ 64 + get_or vs i 0 ≡ together (list_of k) (values_of k vs) first (i + 1 - first))
more {k} p vs first i count x f h a l w e =
    let q = get_or-take (length (list_of k)) vs i 0 (omega arith) in
    let n : first + (i - first) ≡ i = omega arith in
    let m : i + 1 - first ≡ i - first + 1 = omega arith in
    rw (p.list, m)
    (rw (n, q) at (together-more 16 (list_of k) (bit_after k) (joined p) (values_of k vs) f first (i - first) count x h (omega arith) w e))

pub loop-i-init : goal.loop-i-init
unfolding together
loop-i-init g c = rw (sub_self c.args.first)

pub overflow_shl-x : goal.overflow_shl-x
overflow_shl-x g c = rw c.plan.ensures.list (omega (arith, width_small g.L.List.layout c.loop-i.i))

pub overflow_add-x : goal.overflow_add-x
overflow_add-x g c =
    let l = c.loop-i in
    let p = c.requires in
    record { fits = (more c.plan.ensures c.args.values.now c.args.first l.i c.args.count l.x p.means p.count_bound.0 (omega arith) (omega arith) p.count_bound.1 l.invariant).0 }

pub loop-i-preserved : goal.loop-i-preserved
loop-i-preserved g c =
    let l = c.loop-i in
    let p = c.requires in
    (more c.plan.ensures c.args.values.now c.args.first l.i c.args.count l.x p.means p.count_bound.0 (omega arith) (omega arith) p.count_bound.1 l.invariant).1
