-- `shell::Shell::write` meets its contract: the values that are taken have a dataset of 22 bytes or more, for which there is room. Assumes nothing.
use mathlib.Core.Path.{sym}
use Prim.Native.Nat.{ℕ}
use native.Mathlib.Omega.{arith}
use lib.ListN.{length, length-take}
use Rattle.shell.proofs.Rules.{taken}
use Rattle.shell.proofs.Shell.write.Goals as goal

pub slice_bounds-write_dataset-end-2 : goal.slice_bounds-write_dataset-end-2
slice_bounds-write_dataset-end-2 c =
    let a = c.args in
    let t = taken a.self.now.values (length a.out.now) (sym c.in_ok-judge.ensures) in
    omega (arith, length-take {A = ℕ})

pub write_dataset-requires : goal.write_dataset-requires
write_dataset-requires c =
    let a = c.args in
    let t = taken a.self.now.values (length a.out.now) (sym c.in_ok-judge.ensures) in
    (omega (arith, length-take {A = ℕ}), omega (arith, length-take {A = ℕ}))
