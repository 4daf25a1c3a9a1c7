-- `crc::after` meets its contract: the register's low bits take part in the clocks, and the others move down. Assumes nothing.
use Prim.Native.Nat.{ℕ, ◌+◌, ◌-◌, ◌*◌, ◌^◌, ◌≤◌, ◌<◌}
use native.Mathlib.Omega.{arith}
use native.Mathlib.Nat.{lt_of_lt_of_le}
use lib.Bits.{xor_lt}
use lib.Pow.{pow_mono, shr_lt}
use Rattle.crc.proofs.Many.{after_law}
use Rattle.crc.proofs.after.Goals as goal

pub returns : goal.returns
returns g c =
    let n : ℕ = 8 * g.row.N in
    let a = c.args in
    let y = c.clocked in
    let w : a.w < 2 ^ (16 + n) = lt_of_lt_of_le c.requires.bounds.1 (let m : n ≤ 16 + n = omega arith in pow_mono m) in (
      after_law (64 - n) n a.r a.w y.result (omega arith) c.requires.bounds.1 y.ensures.0,
      xor_lt 16 _ y.result (shr_lt 16 n (xor_lt (16 + n) a.r a.w c.requires.bounds.0 w)) y.ensures.1,
    )
