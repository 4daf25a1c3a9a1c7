-- `bits::closing` meets its contract: the low digits of a byte are its last bits. Assumes nothing.
use mathlib.Core.Path.{◌≡◌, ◌∙◌, ap}
use mathlib.Core.List.{List}
use Prim.Native.Nat.{ℕ, ◌≤◌, ◌+◌, ◌-◌, ◌*◌, ◌/◌, ◌%◌, ◌^◌}
use native.Mathlib.Omega.{arith}
use borrow.Author.Rules.{rules}
use Rattle.bits.specs.Bits.{field}
use Rattle.bits.proofs.Laws.{field-within}
use Rattle.bits.proofs.closing.Goals as goal

closes : (l : List ℕ) (k w : ℕ) → w ≤ 8 → field l (8 * k) (8 * 1) % 2 ^ w ≡ field l (8 * k + (8 - w)) w
closes l k w h =
    let s : 8 * 1 ≡ 8 - w + w + 0 = omega arith in
    let d : field l (8 * k) (8 * 1) ≡ field l (8 * k) (8 * 1) / 2 ^ 0 = omega arith in
    ap (λ (x : ℕ). x % 2 ^ w) d ∙ ap (λ (x : ℕ). field l (8 * k) x / 2 ^ 0 % 2 ^ w) s ∙ field-within l (8 * k) (8 - w) w 0

pub returns : goal.returns
returns c =
    let a = c.args in
    c.low.ensures ∙ ap (λ (x : ℕ). x % 2 ^ a.width) c.load.ensures ∙ closes a.s.now a.k a.width (search rules)
