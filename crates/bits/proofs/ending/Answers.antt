-- `bits::ending` meets its contract: the field lies within the two bytes, and moving them up and down again is moving them down by the difference.
-- Assumes nothing.
use mathlib.Core.Path.{◌≡◌, ◌∙◌, ap}
use mathlib.Core.List.{List}
use Prim.Native.Nat.{ℕ, ◌≤◌, ◌<◌, ◌+◌, ◌-◌, ◌*◌, ◌/◌, ◌%◌, ◌^◌}
use native.Mathlib.Nat.{mul-div-mul_right}
use native.Mathlib.Omega.{arith}
use lib.Pow.{pow-add, pow_pos, shl_exact, mod-mod-pow}
use borrow.Author.Rules.{rules}
use Rattle.bits.specs.Bits.{field}
use Rattle.bits.proofs.Laws.{field_lt, field-within}
use Rattle.bits.proofs.ending.Goals as goal

moved : (x c w : ℕ) → x < 2 ^ 16 → c ≤ 7 → w ≤ 8 → x * 2 ^ c % 2 ^ 64 / 2 ^ 7 % 256 % 2 ^ w ≡ x / 2 ^ (7 - c) % 2 ^ w
moved x c w h k l =
    let e : 7 ≡ 7 - c + c = omega arith in
    let f : 8 ≡ 8 - w + w = omega arith in
    ap (λ (y : ℕ). y / 2 ^ 7 % 256 % 2 ^ w) (shl_exact 16 c 64 h (omega arith))
    ∙ ap (λ (n : ℕ). x * 2 ^ c / n % 256 % 2 ^ w) (ap (λ (n : ℕ). 2 ^ n) e ∙ pow-add 2 (7 - c) c)
    ∙ ap (λ (y : ℕ). y % 256 % 2 ^ w) (mul-div-mul_right x (2 ^ (7 - c)) (pow_pos c))
    ∙ ap (λ (n : ℕ). x / 2 ^ (7 - c) % 2 ^ n % 2 ^ w) f
    ∙ mod-mod-pow (x / 2 ^ (7 - c)) (8 - w) w

within : (l : List ℕ) (last width : ℕ) → width ≤ 8 → 15 ≤ last
    → field l (8 * (last / 8 - 1)) (8 * 2) / 2 ^ (7 - last % 8) % 2 ^ width ≡ field l (last + 1 - width) width
within l last width h k =
    let c : ℕ = 7 - last % 8 in
    let a : ℕ = last + 1 - width - 8 * (last / 8 - 1) in
    let s : 8 * 2 ≡ a + width + c = omega arith in
    let p : 8 * (last / 8 - 1) + a ≡ last + 1 - width = omega arith in
    ap (λ (x : ℕ). field l (8 * (last / 8 - 1)) x / 2 ^ c % 2 ^ width) s
    ∙ field-within l (8 * (last / 8 - 1)) a width c
    ∙ ap (λ (x : ℕ). field l x width) p

pub returns : goal.returns
returns c =
    let a = c.args in
    let last : ℕ = a.end - 1 in
    let e : last + 1 - a.width ≡ a.end - a.width = omega arith in
    let x = c.load in
    c.low.ensures
    ∙ ap (λ (y : ℕ). y * 2 ^ (last % 8) % 2 ^ 64 / 2 ^ 7 % 256 % 2 ^ a.width) x.ensures
    ∙ moved (field a.s.now (8 * (last / 8 - 1)) (8 * 2)) (last % 8) a.width (field_lt a.s.now (8 * (last / 8 - 1)) (8 * 2)) (omega arith) (search rules)
    ∙ within a.s.now last a.width (search rules) (omega arith)
    ∙ ap (λ (p : ℕ). field a.s.now p a.width) e
