-- `crc::pairs` meets its contract: what is left of the bytes makes the same of the register at each turn. Assumes nothing.
use mathlib.Core.Path.{◌≡◌, ◌∙◌, sym}
use Prim.Native.Nat.{ℕ, ◌+◌, ◌*◌, ◌/◌, ◌<◌}
use native.Mathlib.Nat.{add-zero}
use native.Mathlib.Omega.{arith}
use borrow.Author.Rules.{rules}
use lib.ListN.{length}
use lib.Seq.{get_or-drop}
use Rattle.crc.proofs.Parts.{more_at, none_law, last_law, chunk_word}
use Rattle.crc.proofs.pairs.Goals as goal

pub loop-pair-preserved : goal.loop-pair-preserved
loop-pair-preserved c =
    let s = c.args.s.now in
    let l = c.loop-pair in
    let n : ℕ = length s / 2 in
    let t = c.as_chunks.ensures in
    let i : l.pair-index < n = omega (arith, t.front_len) in
    let y = c.after-r in (
      y.ensures.1,
      more_at 2 s (2 * l.pair-index) (2 * (l.pair-index + 1)) l.r c.word.result y.result _ (λ k. search rules) (omega arith) (omega arith)
          (c.word.ensures.0 ∙ chunk_word 2 n l.pair-index s _ t.front i) y.ensures.0 l.invariant.1,
    )

pub returns-in-len1 : goal.returns-in-len1
returns-in-len1 c =
    let s = c.args.s.now in
    let l = c.loop-pair in
    let t = c.as_chunks.ensures in
    let e : length s / 2 * 2 ≡ 2 * l.pair-index = omega (arith, t.front_len) in
    let b = c.from.ensures in
    let y = c.after in (
      last_law s (2 * l.pair-index) l.r c.from.result y.result _ (λ k. search rules) (omega (arith, t.back_len, t.front_len))
          (rw (t.back, e, get_or-drop (2 * l.pair-index) s 0 0, add-zero (2 * l.pair-index)) at b) y.ensures.0 l.invariant.1,
      y.ensures.1,
    )

pub returns-in_default : goal.returns-in_default
returns-in_default c =
    let s = c.args.s.now in
    let l = c.loop-pair in
    let t = c.as_chunks.ensures in
    (sym (none_law s (2 * l.pair-index) l.r (omega (arith, t.back_len, t.front_len))) ∙ l.invariant.1, l.invariant.0)
