-- `crc::rest` meets its contract: eight or six bytes more, if they are there, and what is left. Assumes nothing.
use mathlib.Core.Path.{◌∙◌, ap}
use native.Mathlib.Omega.{arith}
use borrow.Author.Rules.{rules}
use Rattle.std.proofs.lemmas.List.{take_rest}
use Rattle.crc.specs.Crc.{register}
use Rattle.crc.proofs.Many.{whole_law}
use Rattle.crc.proofs.Parts.{more_law}
use Rattle.crc.proofs.rest.Goals as goal

pub returns-then-s-ge8 : goal.returns-then-s-ge8
returns-then-s-ge8 c =
    let a = c.args in
    let w = c.word in
    let y = c.clocked in
    let r = c.pairs in (
      more_law 8 a.s.now a.at w.result y.result r.result (λ k. search rules) (omega arith) w.ensures.0
          (whole_law a.at w.result y.result (omega arith) (omega arith) y.ensures.0) (r.ensures.0 ∙ ap (register y.result) (take_rest a.s.now 8)),
      r.ensures.1,
    )

pub returns-then-s-ge6 : goal.returns-then-s-ge6
returns-then-s-ge6 c =
    let a = c.args in
    let w = c.word-then-s-ge6 in
    let y = c.after in
    let r = c.pairs-then-s-ge6 in (
      more_law 6 a.s.now a.at w.result y.result r.result (λ k. search rules) (omega arith) w.ensures.0 y.ensures.0
          (r.ensures.0 ∙ ap (register y.result) (take_rest a.s.now 6)),
      r.ensures.1,
    )
