-- `Table::walk_told` meets its contract: one step of the walk, by comparing the element. Assumes nothing.
use Rattle.std.proofs.Common.{◌≡◌, ℕ, ◌+◌, ◌-◌, ◌*◌, ◌/◌, ◌%◌, ◌≢◌, ap, sym, ◌∙◌, arith}
use Rattle.chains.specs.Packed.{element_in}
use Rattle.chains.specs.declared.packed.Table.{Table}
use Rattle.chains.proofs.Links.{next-named}
use Rattle.chains.proofs.Unfold.{stop-none, stop-bad, stop-end, goes_on}
use Rattle.chains.proofs.packed.Table.+walk_told.Goals as goal

-- 256 in a for each of a / 256
module _ {a : ℕ} (e : a % 256 ≡ 0) where
  whole : a ≡ 256 * (a / 256)
  whole = omega arith

  some : a ≢ 0 → a / 256 ≢ 0
  some d z = d (omega arith)

  one_less : a ≢ 0 → (a - 256) / 256 ≡ a / 256 - 1
  one_less d = omega arith

abbrev elements : Table → ℕ → ℕ
elements t = element_in t.bytes.now t.place.first t.place.psi

pub returns-then-allowed-eq0 : goal.returns-then-allowed-eq0
returns-then-allowed-eq0 t c =
    let a = c.args in
    stop-none (elements a.self.now) a.self.now.place.sectors a.i (a.allowed / 256) (omega arith)

pub walk_told-requires : goal.walk_told-requires
walk_told-requires t c =
    let a = c.args in
    let n = next-named a.self.now.place.sectors a.i c.element.result (sym c.in-Next.is ∙ c.of.ensures) in
    let b = c.requires.allowed_bound in
    let d = c.if-allowed-eq0.false in
    (omega arith, (n.1.sector, (omega arith, omega arith)))

pub returns-in-Next : goal.returns-in-Next
returns-in-Next t c =
    let a = c.args in
    let s = a.self.now.place.sectors in
    let b = c.requires.allowed_bound.1 in
    goes_on (elements a.self.now) s a.i (a.allowed / 256) c.element.result c.requires.sector (some b c.if-allowed-eq0.false) c.element.ensures (sym c.in-Next.is ∙ c.of.ensures) (rw (one_less b c.if-allowed-eq0.false) at c.walk_told.ensures)

pub returns-in-Last : goal.returns-in-Last
returns-in-Last t c =
    let a = c.args in
    let s = a.self.now.place.sectors in
    let b = c.requires.allowed_bound.1 in
    ap (λ (x : ℕ). a.i + x) (whole b) ∙ stop-end (elements a.self.now) s a.i (a.allowed / 256) c.element.result c.requires.sector (some b c.if-allowed-eq0.false) c.element.ensures (sym c.in-Last.is ∙ c.of.ensures)

pub returns-in-Broken : goal.returns-in-Broken
returns-in-Broken t c =
    let a = c.args in
    let s = a.self.now.place.sectors in
    let b = c.requires.allowed_bound.1 in
    stop-bad (elements a.self.now) s a.i (a.allowed / 256) c.element.result c.requires.sector (some b c.if-allowed-eq0.false) c.element.ensures (sym c.in-Broken.is ∙ c.of.ensures)
