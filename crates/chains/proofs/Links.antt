-- What the code's two tests tell of the element x of sector i: whether a walk stops there, and whether it stops broken; and what is told of it so.
-- Assumes nothing.
use mathlib.Core.Path.{◌≡◌, refl}
use mathlib.Core.Logic.{◌≢◌}
use mathlib.Core.Bool.{Bool, true, false, ◌&&◌, ◌||◌, not, true≢false, false≢true}
use Prim.Native.Nat.{ℕ, ◌-◌}
use native.Mathlib.Omega.{arith}
use native.Mathlib.Decide.{ℕ_discrete}
use lib.Dec.{eqb, ltb}
use borrow.Author.Tests.{eq-eqb, ne_eqb, eqb-true, eqb-false, ltb-true, ltb-false}
use Rattle.chains.specs.Chain.{Sector, Names, fresh, used, blocked}
use Rattle.chains.specs.Breaks.{Fault, is_zero, is_above, zero_met, above_met}
use Rattle.chains.specs.Walk.{Link, end, to, bad, link}
use Rattle.chains.specs.Ended.{link_told}
use Rattle.chains.specs.declared.packed.Link.TheVariants.{Next, Last, Broken}
use Rattle.chains.proofs.Laws.{View, v_end, v_to, v_bad, view, view-end, view-to, view-bad}

abbrev pub stops : ℕ → ℕ → ℕ → Bool
stops S i x = (eqb x i || eqb x 0) || ltb (S - 3) x

abbrev pub fails : ℕ → ℕ → ℕ → Bool
fails S i x = not (eqb x i) && (eqb x 0 || ltb (S - 1) x)

-- the element is the sector's own number, or another
pub own : (S i x : ℕ) → x ≡ i → (stops S i x ≡ true) × (fails S i x ≡ false)
own S i x e = rw (eq-eqb x i e) (refl, refl)

pub other : (S i x : ℕ) → x ≢ i → (stops S i x ≡ (eqb x 0 || ltb (S - 3) x)) × (fails S i x ≡ (eqb x 0 || ltb (S - 1) x))
other S i x d = rw (ne_eqb x i d) (refl, refl)

pub names : (S i x : ℕ) → stops S i x ≡ false → Names S i x
names S i x = go (eqb x i) refl (eqb x 0) refl (ltb (S - 3) x) refl
  where
    go : (a : Bool) → eqb x i ≡ a → (b : Bool) → eqb x 0 ≡ b → (d : Bool) → ltb (S - 3) x ≡ d → ((a || b) || d) ≡ false → Names S i x
    go true p b q d r h = absurd (true≢false h)
    go false p true q d r h = absurd (true≢false h)
    go false p false q true r h = absurd (true≢false h)
    go false p false q false r h =
        let z = eqb-false x 0 q in
        record { other = eqb-false x i p; sector = record { low = omega arith; high = ltb-false (S - 3) x r } }

module _ (S i x : ℕ) (s : Sector S i) where
  pub link-bad : fails S i x ≡ true → (w : Fault) × (link S i x ≡ bad w)
  link-bad = go (eqb x i) refl (eqb x 0) refl (ltb (S - 1) x) refl
    where
      go : (a : Bool) → eqb x i ≡ a → (b : Bool) → eqb x 0 ≡ b → (d : Bool) → ltb (S - 1) x ≡ d → (not a && (b || d)) ≡ true → (w : Fault) × (link S i x ≡ bad w)
      go true p b q d r h = absurd (false≢true h)
      go false p true q d r h = (is_zero, view-bad s (view S i x) (zero_met (eqb-true x 0 q)))
      go false p false q true r h = (is_above, view-bad s (view S i x) (above_met (ltb-true (S - 1) x r)))
      go false p false q false r h = absurd (false≢true h)

  pub link-end : stops S i x ≡ true → fails S i x ≡ false → (m : ℕ) × (link S i x ≡ end m)
  link-end = go (eqb x i) refl (eqb x 0) refl (ltb (S - 3) x) refl (ltb (S - 1) x) refl
    where
      go : (a : Bool) → eqb x i ≡ a → (b : Bool) → eqb x 0 ≡ b → (d : Bool) → ltb (S - 3) x ≡ d → (g : Bool) → ltb (S - 1) x ≡ g → ((a || b) || d) ≡ true → (not a && (b || g)) ≡ false → (m : ℕ) × (link S i x ≡ end m)
      go true p b q d r g t h k = (0, view-end s (view S i x) (fresh (eqb-true x i p)))
      go false p true q d r g t h k = absurd (true≢false k)
      go false p false q false r g t h k = absurd (false≢true h)
      go false p false q true r true t h k = absurd (true≢false k)
      go false p false q true r false t h k =
          let low = ltb-true (S - 3) x r in
          let high = ltb-false (S - 1) x t in
          elim (ℕ_discrete x (S - 1)) [
            | yes e ↦ (1, view-end s (view S i x) (used e))
            | no d ↦ (2, view-end s (view S i x) (blocked (omega arith)))
          ]

  pub link-to : stops S i x ≡ false → link S i x ≡ to x
  link-to h = view-to s (view S i x) (names S i x h)

-- ---- what is told of an element, and the element

pub told-bad : (l : Link) → Broken ≡ link_told l → (w : Fault) × (l ≡ bad w)
told-bad (end m) e = absurd (cc)
told-bad (to x) e = absurd (cc)
told-bad (bad w) e = (w, refl)

pub told-last : (l : Link) → Last ≡ link_told l → (m : ℕ) × (l ≡ end m)
told-last (end m) e = (m, refl)
told-last (to x) e = absurd (cc)
told-last (bad w) e = absurd (cc)

pub told-next : (l : Link) {x : ℕ} → Next x ≡ link_told l → l ≡ to x
told-next (end m) e = absurd (cc)
told-next (to y) {x} e = let q : x ≡ y = cc in rw q refl
told-next (bad w) e = absurd (cc)

-- the next sector is named by the element
pub next-named : (S i x : ℕ) {y : ℕ} → Next y ≡ link_told (link S i x) → (y ≡ x) × Names S i y
next-named S i x {y} = go (view S i x)
  where
    go : {l : Link} → View S i x l → Next y ≡ link_told l → (y ≡ x) × Names S i y
    go (v_end a) e = absurd (cc)
    go (v_to a) e = let q : y ≡ x = cc in (q, rw q a)
    go (v_bad b) e = absurd (cc)
