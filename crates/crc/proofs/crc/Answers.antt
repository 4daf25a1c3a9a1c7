-- `crc::crc` meets its contract: what is left of the bytes makes the same of the register at each turn. Assumes nothing.
use mathlib.Core.Path.{◌≡◌, ◌∙◌, ap}
use Prim.Native.Nat.{ℕ, ◌+◌, ◌*◌, ◌/◌, ◌≤◌}
use native.Mathlib.Omega.{arith}
use borrow.Author.Rules.{rules}
use lib.ListN.{length, drop, take}
use lib.Bits.{bit_xor, xor_lt}
use Rattle.crc.specs.Crc.{crc}
use Rattle.crc.specs.Little.{little}
use Rattle.crc.proofs.Many.{carried-lt}
use Rattle.crc.proofs.Parts.{carried_at, chunk_word, part_in}
use Rattle.crc.proofs.crc.Goals as goal

pub loop-eight-preserved : goal.loop-eight-preserved
loop-eight-preserved c =
    let s = c.args.s.now in
    let l = c.loop-eight in
    let w = c.word in
    let f = c.split_at.ensures in
    let t = c.as_chunks.ensures in
    let m : ℕ = c.saturating_sub.result / 8 * 8 in
    let n : length c.as_chunks.result.0.now ≡ length c.split_at.result.0.now / 8 = t.front_len in
    let z : 8 * l.eight-index + 14 ≤ length s = omega (arith, f.front_len) in
    let p : w.result ≡ little (take 8 (drop (8 * l.eight-index) s)) =
    w.ensures.0 ∙ chunk_word 8 (length c.split_at.result.0.now / 8) l.eight-index c.split_at.result.0.now _ t.front (omega arith)
    ∙ ap little (ap (λ x. take 8 (drop (8 * l.eight-index) x)) f.front ∙ part_in 8 (8 * l.eight-index) m s (omega (arith, f.front_len))) in
    rw c.carried-at.ensures (
      carried-lt (bit_xor l.at w.result) (xor_lt 64 l.at w.result l.invariant.0 (omega arith)),
      (λ h. omega arith),
      carried_at s (8 * l.eight-index) (8 * (l.eight-index + 1)) l.at w.result _ (λ k. search rules) z (omega arith) l.invariant.0 (omega arith)
          p l.invariant.2,
    )

pub returns : goal.returns
unfolding crc
returns c =
    let l = c.loop-eight in
    let f = c.split_at.ensures in
    let n : length c.as_chunks.result.0.now ≡ length c.split_at.result.0.now / 8 = c.as_chunks.ensures.front_len in
    let e : c.saturating_sub.result / 8 * 8 ≡ 8 * l.eight-index = omega (arith, f.front_len) in
    rw (c.rest.ensures.0, f.back, e, l.invariant.2)
