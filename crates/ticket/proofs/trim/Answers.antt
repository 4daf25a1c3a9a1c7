-- `ticket::trim` meets its contract: the first values stay, and zeros stand where the others did. Assumes nothing.
use mathlib.Core.Path.{◌≡◌}
use mathlib.Core.List.{List, []}
use Prim.Native.Nat.{ℕ, ◌-◌, ◌≤◌}
use native.Mathlib.Omega.{arith}
use borrow.Author.Rules.{rules}
use borrow.Rule.Slice.PartMut.{mid_of, put_mid}
use lib.ListN.{length, take, drop, replicate, length-drop, drop_of_length-le}
use lib.Seq.{length-take-le}
use Rattle.std.proofs.Common.{append-nil}
use Rattle.fields.specs.Padded.{held}
use Rattle.ticket.proofs.trim.Goals as goal

trimmed : (n : ℕ) (vs ys : List ℕ) → length vs ≡ 25 → n ≤ 25 → ys ≡ replicate (length (mid_of n (25 - n) vs)) 0 → put_mid n (25 - n) vs ys ≡ held (take n vs)
trimmed n vs ys l h e =
    let o : length (take n vs) ≡ n = length-take-le n vs (omega arith) in
    let m : length (take (25 - n) (drop n vs)) ≡ 25 - n = length-take-le (25 - n) (drop n vs) (omega (arith, length-drop n vs)) in
    let d : drop (25 - n) (drop n vs) ≡ [] = drop_of_length-le (drop n vs) (omega (arith, length-drop n vs)) in
    rw (e, m, d, o, append-nil)

pub returns : goal.returns
returns c = trimmed c.args.n c.args.values.now c.fill.new.self c.told-values c.requires (search rules)
