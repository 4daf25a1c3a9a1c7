-- `measure::secr_right` meets its contract: SECR is the two bytes after those that it is computed over. Assumes nothing.
use mathlib.Core.Path.{◌≡◌}
use mathlib.Core.List.{List}
use Prim.Native.Nat.{ℕ, ◌+◌, ◌-◌, ◌*◌, ◌≤◌, ◌<◌}
use native.Mathlib.Omega.{arith}
use lib.Dec.{eqb}
use lib.ListN.{get_or, take, drop}
use Rattle.bits.specs.Bits.{field}
use Rattle.bits.proofs.Laws.{field-drop}
use Rattle.crc.specs.Crc.{crc}
use Rattle.image.specs.Image.{dataset, SECR, before_SECR}
use Rattle.image.proofs.ZeroBytes.{two_bytes}
use Rattle.verdict.proofs.measure.secr_right.Goals as goal

right : (m : List ℕ) {d x r : ℕ} → ((i : ℕ) → get_or m (2 + d + i) 0 < 256) → 22 ≤ d → d ≡ dataset m
    → x ≡ get_or m (2 + d) 0 * 256 + get_or m (2 + d + 1) 0 → r ≡ crc (take (2 + d - 4) (drop 4 m))
    → eqb x r ≡ eqb (SECR m) (crc (before_SECR m))
unfolding SECR before_SECR
right m {d} {x} {r} b l ed ex er =
    let e : 2 + d - 4 ≡ d - 2 = omega arith in
    let a : 8 * 4 + 8 * (d - 2) ≡ 8 * (2 + d) = omega arith in
    let q = two_bytes m (2 + d) b in
    let s : x ≡ field m (8 * (2 + d)) 16 = omega arith in
    rw (← ed, s, er, e, field-drop m 4 (8 * (d - 2)) 16, a)

pub returns : goal.returns
returns c =
    let g = c.args.card.now in
    right g.image.now {d = g.shape.dataset} (λ i. (c.shared_slice_known-1.given (2 + g.shape.dataset + i)).fits) (omega (arith, g.shaped)) g.shaped.dataset_is
    c.from_be_bytes.ensures c.crc.ensures
