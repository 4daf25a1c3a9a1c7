-- `text::decimal`: what is left of the word, after the number so far, is what the whole word means.
use Rattle.std.proofs.Common.{◌≡◌, ◌^◌, ◌<◌, drop}
use Rattle.text.specs.Numbers.{number_after, number_of}
use Rattle.text.proofs.decimal.Given as goal

abbrev pub invariant-loop-b : goal.invariant-loop-b
invariant-loop-b l = (l.n < 2 ^ 64) × (number_of l.word ≡ number_after l.n (drop l.b-index l.word))
