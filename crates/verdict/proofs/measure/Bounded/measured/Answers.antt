-- `Bounded::measured` meets its contract: each number is that of the shape, and within its bounds nothing overflows. Assumes nothing.
use mathlib.Core.Path.{◌≡◌}
use mathlib.Core.List.{List}
use Prim.Native.Nat.{ℕ, ◌+◌, ◌-◌, ◌*◌}
use borrow.Author.Rules.{rules}
use Rattle.chains.specs.Psi.{Ψ}
use Rattle.fields.specs.Fields.{fields}
use Rattle.image.specs.Image.{copy, shell_values, dataset, B, S, e#, SCTL, directory_at, sector_at, table_at}
use Rattle.image.specs.Bounds.{Bounds}
use Rattle.image.specs.Shape.{Shaped}
use Rattle.image.proofs.Shapes as shapes
use Rattle.shell.specs.Shell.{ShellLength}
use Rattle.verdict.proofs.measure.Bounded.measured.Goals as goal

shaped : (m : List ℕ) {k l b s e t p d : ℕ} → Bounds m → k ≡ copy m → l ≡ ShellLength (shell_values m) → b ≡ B m → s ≡ S m → e ≡ e# m → t ≡ SCTL m
    → d ≡ 4 + (s - 2 + k) * b → p ≡ Ψ s
    → Shaped m (record { copy = k; dataset = 4 * l; size = b; sectors = s; entries = e; bytes = t; psi = p; directory = d; table = d + 2 + 5 * e })
unfolding dataset directory_at sector_at table_at
shaped m h ek el eb es ee et ed ep = rw (ep, ed, et, ee, es, eb, el, ek) (shapes.shaped m h)

pub overflow_sub-sectors : goal.overflow_sub-sectors
unfolding S shell_values fields
overflow_sub-sectors c = search rules

pub overflow_add-sectors : goal.overflow_add-sectors
unfolding copy
overflow_add-sectors c = search rules

pub sector_from-directory-requires : goal.sector_from-directory-requires
unfolding S B copy shell_values fields
sector_from-directory-requires c = search rules

pub psi-requires : goal.psi-requires
unfolding S shell_values fields
psi-requires c = search rules

pub invariant_of-result : goal.invariant_of-result
unfolding copy shell_values fields B S e# SCTL
invariant_of-result c = record {
  shaped = shaped c.args.self.now.image.now c.args.self.now.bounds c.value-copy.ensures c.size-dataset.ensures.0 c.size-size.ensures.0
      c.size-sectors.ensures.0 c.size-entries.ensures.0 c.size-bytes.ensures.0 c.sector_from-directory.ensures.0 c.psi.ensures.0;
}
