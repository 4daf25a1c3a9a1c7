-- `Shell::write_dataset` meets its contract: the bytes before SECR, then SECR of them. Assumes nothing.
use mathlib.Core.Path.{refl, ◌≡◌, ◌∙◌}
use Prim.Native.Nat.{◌-◌}
use native.Mathlib.Omega.{arith}
use lib.ListN.{length, drop}
use Rattle.shell.specs.Shell.{dataset_of}
use Rattle.shell.proofs.Dataset.{joined_in}
use Rattle.shell.proofs.Shell.write_dataset.Goals as goal

pub returns : goal.returns
returns c =
    let l = c.args.s.now in
    let vs = c.args.self.now.values in
    let e : length l - 2 ≡ dataset_of vs - 2 = omega arith in
    joined_in vs (drop (length l - 2) l) c.write_body.ensures e refl c.crc.ensures (c.copy_from_slice.ensures.after ∙ rw c.to_be_bytes.ensures refl)
