-- `fields::each_fits` meets its contract. The invariant: what was found is the test of the first values, one by one. Assumes nothing.
use mathlib.Core.Path.{ap, ◌∙◌}
use native.Mathlib.Omega.{arith}
use lib.ListN.{length, length-append}
use Rattle.std.proofs.Common.{rules}
use Rattle.std.proofs.lemmas.Slice.Zip.{zip_turn, zip_end}
use Rattle.fields.specs.Lists.{span}
use Rattle.fields.specs.Fields.{limit_of}
use Rattle.fields.proofs.Loops.{fit-start, fit-more, fit-end}
use Rattle.fields.proofs.each_fits.Goals as goal

pub loop-place-init : goal.loop-place-init
loop-place-init c = fit-start c.args.places.now c.args.values.now

pub loop-place-preserved : goal.loop-place-preserved
loop-place-preserved c =
    let l = c.loop-place in
    let a = c.args in
    let h = zip_turn a.places.now a.values.now l.yielded c.into_iter-place-iterator.result l.place-iterator c.next.new.self c.next.result (search rules) (search rules) l.yielded_by _ c.in-Some.is c.next.ensures.steps in
    rw (length-append, h.3 0)
    (fit-more a.places.now a.values.now (length l.yielded) c.largest.result l.ok (c.largest.ensures ∙ ap limit_of (h.2 (span 0 0))) l.invariant)

pub returns : goal.returns
returns c =
    let l = c.loop-place in
    let a = c.args in
    let h = zip_end a.places.now a.values.now l.yielded c.into_iter-place-iterator.result l.place-iterator c.next.new.self c.next.result (search rules) (search rules) l.yielded_by c.in-None.is c.next.ensures.steps in
    fit-end a.places.now a.values.now (length l.yielded) l.ok c.requires.0 (omega arith) l.invariant
