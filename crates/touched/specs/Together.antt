-- An annex: two chains walked together, as the code of `touched` does: it goes on while sectors and elements are the same. No published contract cites
-- it. Assumes nothing.
use Rattle.std.specs.Prelude.{◌≡◌, Bool, true, ◌&&◌, List, [], ◌∷◌, ℕ, zero, suc, eqb, Option, Some, None}
use Rattle.chains.specs.Walk.{Link, end, to, bad, link}
use Rattle.rules.specs.Claim.{◌≡?◌, Rule, rule}
use Rattle.image.specs.Image.{dataset, S, element, sector}
use Rattle.image.specs.Verdict.{verdict}
use Rattle.image.specs.Facts.{Facts}
use Rattle.image.specs.Shape.{Shaped}
use Rattle.image.specs.declared.Shape.{Shape}
use Rattle.steps.specs.Flags.{alike}

abbrev pub onward : Link → (ℕ → Bool) → Bool
onward (end m) k = true
onward (to x) k = k x
onward (bad w) k = true

-- from sector i on, with n sectors still allowed: the elements f and g are the same, and so are the sectors, by the test t
unfoldable pub same_from : (ℕ → ℕ) → (ℕ → ℕ) → (ℕ → Bool) → ℕ → ℕ → ℕ → Bool
same_from f g t S i zero = true
same_from f g t S i (suc n) = t i && (eqb (f i) (g i) && onward (link S i (f i)) (λ x. same_from f g t S x n))

-- the same of two images
abbrev pub chains_same : List ℕ → List ℕ → ℕ → ℕ → Bool
chains_same c d i n = same_from (element c) (element d) (λ k. alike (sector c k) (sector d k)) (S c) i n

-- the sector that an element names
abbrev pub linked : Link → Option ℕ
linked (end m) = None
linked (to x) = Some x
linked (bad w) = None

-- the shape g, but for a dataset of n bytes
abbrev pub with_dataset : Shape → ℕ → Shape
with_dataset g n = record { copy = g.copy; dataset = n; size = g.size; sectors = g.sectors; entries = g.entries; bytes = g.bytes; psi = g.psi; directory = g.directory; table = g.table }

-- two accepted images of the shape g, but for the shell's dataset
pub record Both (c d : List ℕ) (g : Shape) : Type 0 where
  pub obeys : Facts c
  pub obeys_after : Facts d
  pub shape : Shaped c g
  pub shape_after : Shaped d (with_dataset g (dataset d))

-- the same of the second image, beside a first one of the shape g
pub record OneShape (c d : List ℕ) (g : Shape) : Type 0 where
  pub accepted : (verdict c).number ≡ 0
  pub accepted_after : (verdict d).number ≡ 0
  pub shape_after : Shaped d (with_dataset g (dataset d))

-- 90 and 91 by the shapes g and h of the images, with n flags
abbrev pub shape_rules : Shape → Shape → ℕ → List Rule
shape_rules g h n =
    rule 90 (h.sectors ≡? g.sectors)
    ∷ rule 90 (h.size ≡? g.size)
    ∷ rule 90 (h.entries ≡? g.entries)
    ∷ rule 90 (h.copy ≡? g.copy)
    ∷ rule 91 (n ≡? g.entries)
    ∷ []
