-- `Bench::answers`: after so many turns each line that they gave has been answered, and the input goes on.
use Rattle.console.specs.Obeys.{bench_held}
use Rattle.console.proofs.Obeyed.{Reached}
use Rattle.console.proofs.Bench.answers.Given as goal

abbrev pub invariant-loop-turn : goal.invariant-loop-turn
invariant-loop-turn g l = Reached l.initial.input (bench_held l.initial.self) l.input l.f (bench_held l.self) l._turn
