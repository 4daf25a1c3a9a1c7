-- `bits::get` meets its contract: the field lies within the bytes that it touches. Assumes nothing.
use mathlib.Core.Path.{◌∙◌, ap}
use native.Mathlib.Omega.{arith}
use Prim.Native.Nat.{ℕ, ◌+◌, ◌-◌, ◌*◌, ◌/◌, ◌%◌, ◌^◌}
use Rattle.bits.proofs.Laws.{field_in-bytes}
use Rattle.bits.proofs.get.Goals as goal

pub returns : goal.returns
returns c =
    let a = c.args in
    let n = c.div_ceil-count.result in
    c.low.ensures
    ∙ ap (λ (x : ℕ). x / 2 ^ (8 * n - (a.first % 8 + a.width)) % 2 ^ a.width) c.load.ensures
    ∙ field_in-bytes a.s.now a.first a.width n (omega (arith, c.div_ceil-count.ensures))
