-- `fields::each_fits` meets its contract. The invariant: what was found is the test of the first values, one by one. Assumes nothing.
use mathlib.Core.Path.{◌≡◌}
use lib.ListN.{length}
use Rattle.fields.specs.Padded.{fit_to}
use Rattle.fields.proofs.each_fits.Given as goal

abbrev pub invariant-loop-place : goal.invariant-loop-place
invariant-loop-place l = l.ok ≡ fit_to l.places l.values (length l.yielded)
