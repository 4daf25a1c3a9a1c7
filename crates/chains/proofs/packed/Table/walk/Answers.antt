-- `Table::walk` meets its contract: a chain's last sector was allowed, so that what is told of it is 256 at least. Assumes nothing.
use Rattle.std.proofs.Common.{◌≡◌, ℕ, ◌/◌, ◌≤◌, ◌≢◌, refl, arith}
use Rattle.chains.specs.Walk.{Walk, found, broken, walk}
use Rattle.chains.specs.Packed.{element_in, last_left}
use Rattle.chains.specs.declared.packed.Table.{Table}
use Rattle.chains.proofs.Laws.{walk-short}
use Rattle.chains.proofs.packed.Table.walk.Goals as goal

told-least : (t : Table) (n i r : ℕ) → r ≡ last_left n (walk (element_in t.bytes.now t.place.first t.place.psi) t.place.sectors i n) → r ≢ 0 → 256 ≤ r
told-least t n i r e d = go (walk f t.place.sectors i n) refl e
  where
    f : ℕ → ℕ
    f = element_in t.bytes.now t.place.first t.place.psi

    go : (w : Walk) → walk f t.place.sectors i n ≡ w → r ≡ last_left n w → 256 ≤ r
    go (found ss m) q h = let l = walk-short f t.place.sectors n i ss m q in omega arith
    go (broken b) q h = absurd (d h)

pub returns : goal.returns
returns c =
    let a = c.args in
    let l = told-least a.self.now (a.allowed / 256) a.i c.walk_told-told.result c.walk_told-told.ensures c.if-told-eq0.false in
    omega arith

pub invariant_of-result : goal.invariant_of-result
invariant_of-result c =
    let a = c.args in
    let l = told-least a.self.now (a.allowed / 256) a.i c.walk_told-told.result c.walk_told-told.ensures c.if-told-eq0.false in
    record { last_small = omega arith; allowed_least = omega arith; allowed_whole = omega arith }
