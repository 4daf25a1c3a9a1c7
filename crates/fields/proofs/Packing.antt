-- What storing a list's values answers and leaves, by the test whether they fit. Assumes nothing.
use mathlib.Core.Path.{◌≡◌, refl}
use mathlib.Core.Bool.{true, false}
use mathlib.Core.List.{List}
use Prim.Native.Nat.{ℕ}
use Rattle.rules.specs.First.{holds, first}
use Rattle.fields.specs.declared.Layout.{Layout}
use Rattle.fields.specs.Lists.{list_of}
use Rattle.fields.specs.Fields.{stores, fit}
use Rattle.fields.specs.Packed.{pack_number, pack_in}

module _ (k : Layout) (vs l : List ℕ) where
  pub done : holds (fit (list_of k) vs) ≡ true → (0 ≡ pack_number k vs) × (stores l (list_of k) vs ≡ pack_in k vs l)
  unfolding pack_number first
  done e = rw e (refl, refl)

  pub refused : holds (fit (list_of k) vs) ≡ false → (26 ≡ pack_number k vs) × (l ≡ pack_in k vs l)
  unfolding pack_number first
  refused e = rw e (refl, refl)
