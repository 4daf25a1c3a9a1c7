-- `copy::next` meets its contract: an element of eight bits is a byte of the table. Assumes nothing.
use mathlib.Core.Path.{◌≡◌, sym, ap, ◌∙◌}
use mathlib.Core.List.{List}
use Prim.Native.Nat.{ℕ, ◌+◌, ◌-◌, ◌*◌, ◌≤◌, ◌<◌}
use native.Mathlib.Omega.{arith}
use borrow.Author.Rules.{rules}
use lib.ListN.{length, get_or}
use Rattle.bits.specs.Bits.{field}
use Rattle.bits.proofs.Laws.{field-byte}
use Rattle.chains.specs.Chain.{Sector}
use Rattle.chains.specs.Psi.{Ψ}
use Rattle.image.specs.Image.{S, SCTL, element}
use Rattle.image.specs.Shape.{Shaped}
use Rattle.image.specs.declared.Shape.{Shape}
use Rattle.image.proofs.Shapes.{element-is}
use Rattle.readticket.proofs.copy.next.Goals as goal

module _ {c : List ℕ} {g : Shape} (i : ℕ) (s : Shaped c g) (e : g.psi ≡ 8) where
  byte-in : Sector (S c) i → g.table + (i - 1) < length c
  byte-in h =
      let b = s.in_bounds in
      let p : Ψ (S c) ≡ 8 = sym s.psi-is ∙ e in
      let w : 8 * (S c - 3) ≤ 8 * SCTL c = rw p at b.elements-in in
      omega (arith, h, s.table_is)

  byte-is : get_or c (g.table + (i - 1)) 0 < 256 → get_or c (g.table + (i - 1)) 0 ≡ element c i
  byte-is h =
      let q : 8 * (g.table + (i - 1)) ≡ 8 * g.table + 8 * (i - 1) = omega arith in
      sym (field-byte c (g.table + (i - 1)) h)
      ∙ ap (λ (x : ℕ). field c x 8) q
      ∙ ap (λ (x : ℕ). field c (8 * g.table + x * (i - 1)) x) (sym e)
      ∙ element-is s i

pub bounds-card-g : goal.bounds-card-g
bounds-card-g c = byte-in _ c.args.card.now.shaped c.if-g-eq8.true c.requires

pub returns-then-g-eq8 : goal.returns-then-g-eq8
returns-then-g-eq8 c = c.from.ensures ∙ byte-is _ c.args.card.now.shaped c.if-g-eq8.true (search rules)
