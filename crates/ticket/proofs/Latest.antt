-- How late a ticket can end: day 16,384, minute 2,047. Assumes nothing.
use Prim.Native.Nat.{ℕ, ◌≤◌, ◌<◌}
use native.Mathlib.Omega.{arith}
use Rattle.dates.proofs.Stamps.{day-to}
use Rattle.ticket.specs.Kind.{end_minutes}

pub end-most : (exp time : ℕ) → exp < 16384 → time < 2048 → end_minutes exp time ≤ 23595007
end-most exp time h k = omega (arith, day-to exp h)
