-- `hex::count`: the word is digits in pairs where what is left of it is.
use Rattle.std.proofs.Common.{◌≡◌, ◌*◌, drop}
use Rattle.text.specs.Hex.{in_pairs}
use Rattle.text.proofs.hex.count.Given as goal

abbrev pub invariant-loop-digits : goal.invariant-loop-digits
invariant-loop-digits l = in_pairs l.fn.word ≡ in_pairs (drop (2 * l.digits-index) l.fn.word)
