-- `fields::write` meets its contract. The invariant: what is still to be stored makes the same of the bytes. Assumes nothing.
use mathlib.Core.Path.{sym, ◌∙◌}
use Prim.Native.Nat.{◌*◌}
use native.Mathlib.Omega.{arith}
use lib.ListN.{length, length-append}
use Rattle.std.proofs.Common.{rules}
use Rattle.std.proofs.lemmas.Slice.Zip.{zip_turn, zip_end}
use Rattle.fields.specs.Lists.{list_of, span}
use Rattle.fields.proofs.Joined.{place-fits}
use Rattle.fields.proofs.Loops.{stores-more, stores-end}
use Rattle.fields.proofs.write.Goals as goal

pub store_at-requires : goal.store_at-requires
store_at-requires c =
    let l = c.loop-place in
    let a = c.args in
    let h = zip_turn (list_of a.k) a.values.now l.yielded c.into_iter-place-iterator.result l.place-iterator c.next.new.self c.next.result (search rules) (search rules) l.yielded_by _ c.in-Some.is c.next.ensures.steps in
    let n = l.auto.s in
    rw (h.2 (span 0 0)) (place-fits a.k (length l.yielded) (8 * length l.s) h.0 (omega arith))

pub loop-place-preserved : goal.loop-place-preserved
loop-place-preserved c =
    let l = c.loop-place in
    let a = c.args in
    let h = zip_turn (list_of a.k) a.values.now l.yielded c.into_iter-place-iterator.result l.place-iterator c.next.new.self c.next.result (search rules) (search rules) l.yielded_by _ c.in-Some.is c.next.ensures.steps in
    rw (length-append, c.store_at.ensures, h.2 (span 0 0), h.3 0)
    (sym (stores-more l.s (list_of a.k) a.values.now (length l.yielded) h.0 c.requires.0) ∙ l.invariant)

pub returns : goal.returns
returns c =
    let l = c.loop-place in
    let a = c.args in
    let h = zip_end (list_of a.k) a.values.now l.yielded c.into_iter-place-iterator.result l.place-iterator c.next.new.self c.next.result (search rules) (search rules) l.yielded_by c.in-None.is c.next.ensures.steps in
    sym (stores-end l.s (list_of a.k) a.values.now (length l.yielded) (omega arith)) ∙ l.invariant
