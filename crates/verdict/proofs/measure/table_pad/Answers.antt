-- `measure::table_pad` meets its contract: the bits after the last element lie within the table's last byte. Assumes nothing.
use mathlib.Core.Path.{◌≡◌}
use mathlib.Core.List.{List}
use Prim.Native.Nat.{ℕ, ◌+◌, ◌-◌, ◌*◌, ◌≤◌, ◌<◌}
use Rattle.chains.specs.Psi.{Ψ}
use native.Mathlib.Omega.{arith}
use Rattle.image.specs.Image.{S, SCTL, table_at, table_pad}
use Rattle.image.proofs.Shapes.{used-is}
use Rattle.verdict.proofs.measure.table_pad.Goals as goal

starts : (m : List ℕ) → 1 ≤ table_at m
unfolding table_at
starts m = omega arith

-- where the bits after the last element stand, which end with the table's last byte
ends : (t b u : ℕ) → 1 ≤ t → u ≤ 8 * b → 8 * b < u + 8 → 8 * (t + b - 1) + (8 - (8 * b - u)) ≡ 8 * t + u
ends t b u h l k = omega arith

pub overflow_mul-used : goal.overflow_mul-used
overflow_mul-used c = omega (arith, used-is c.args.card.now.shaped)

pub overflow_sub-g : goal.overflow_sub-g
overflow_sub-g c =
    let p = c.args.card.now.shaped in
    omega (arith, p.table_is, starts c.args.card.now.image.now)

pub overflow_sub-g-2 : goal.overflow_sub-g-2
overflow_sub-g-2 c = omega (arith, used-is c.args.card.now.shaped)

pub closing-requires : goal.closing-requires
closing-requires c =
    omega (arith, used-is c.args.card.now.shaped, c.args.card.now.shaped.table_is, starts c.args.card.now.image.now)

pub returns : goal.returns
unfolding table_pad
returns c =
    let p = c.args.card.now.shaped in
    let m = c.args.card.now.image.now in
    let b = p.in_bounds in
    rw (c.closing.ensures, used-is p, p.table_is, p.bytes-is, ends (table_at m) (SCTL m) (Ψ (S m) * (S m - 3)) (starts m) b.elements-in b.elements_fill)
