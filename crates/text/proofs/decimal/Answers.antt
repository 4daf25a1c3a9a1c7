-- `text::decimal`: a digit more would be too large.
use mathlib.Core.Path.{◌≡◌, sym, ◌∙◌}
use mathlib.Core.List.{List}
use Prim.Native.Nat.{ℕ, ◌+◌, ◌-◌, ◌*◌, ◌^◌, ◌≤◌, ◌<◌}
use native.Mathlib.Omega.{arith}
use lib.ListN.{length, get_or, drop}
use Rattle.std.specs.Prelude.{None}
use Rattle.text.specs.Numbers.{number_after, number_of}
use Rattle.text.proofs.Digits.{at_byte, too_large}
use Rattle.text.proofs.decimal.Goals as goal

large : (w : List ℕ) (i n : ℕ) → i < length w → number_of w ≡ number_after n (drop i w) → 2 ^ 64 ≤ n * 10 + (get_or w i 0 - 48) → None ≡ number_of w
large w i n h e l = sym (e ∙ (at_byte w i n h ∙ too_large n (get_or w i 0) (drop (i + 1) w) l))

pub returns-then-d-n : goal.returns-then-d-n
returns-then-d-n c =
    let l = c.loop-b in
    large _ l.b-index l.n (omega arith) l.invariant.1 (omega arith)
