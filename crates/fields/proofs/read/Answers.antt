-- `fields::read` meets its contract. The invariant: the first i values are those of the list. Assumes nothing.
use mathlib.Core.Path.{◌∙◌, sym}
use Prim.Native.Nat.{◌*◌, ◌<◌}
use native.Mathlib.Omega.{arith}
use lib.ListN.{length}
use Rattle.fields.specs.Lists.{list_of}
use Rattle.fields.proofs.Joined.{place-fits}
use Rattle.fields.proofs.Laws.{length_fields, get_or-fields}
use Rattle.fields.proofs.Loops.{fill_start, fill_more, fill_end}
use Rattle.fields.proofs.read.Goals as goal

pub loop-i-init : goal.loop-i-init
loop-i-init c = let a = c.args in fill_start _ a.out.now (c.requires.0 ∙ sym (length_fields a.s.now (list_of a.k)))

pub at-requires : goal.at-requires
at-requires c =
    let a = c.args in
    let l = c.loop-i in
    rw c.places-places.ensures (place-fits a.k l.i (8 * length a.s.now) (omega (arith, l.invariant.many, length_fields a.s.now (list_of a.k))) c.requires.1)

pub loop-i-preserved : goal.loop-i-preserved
loop-i-preserved c =
    let a = c.args in
    let l = c.loop-i in
    let n = length_fields a.s.now (list_of a.k) in
    let m = l.invariant.many in
    let h : l.i < length (list_of a.k) = omega arith in
    fill_more _ l.out l.i c.at.result (omega arith) ((rw c.places-places.ensures at c.at.ensures) ∙ sym (get_or-fields a.s.now (list_of a.k) l.i h)) l.invariant

pub returns : goal.returns
returns c =
    let a = c.args in
    let l = c.loop-i in
    let n = length_fields a.s.now (list_of a.k) in
    let m = l.invariant.many in
    fill_end _ l.out l.i (omega arith) l.invariant
