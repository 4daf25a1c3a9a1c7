-- `table::pack_all` meets its contract. The invariant: what is still to be packed makes the same of the bytes. Assumes nothing.
use Rattle.std.proofs.Common.{◌≡◌, ◌*◌, List, ℕ, ap, sym, ◌∙◌, arith, length, replicate, rules}
use Rattle.fields.specs.Fields.{stores}
use Rattle.table.specs.Table.{places}
use Rattle.table.proofs.Places.{pack-more, pack-end}
use Rattle.table.proofs.pack_all.Goals as goal

pub loop-i-preserved : goal.loop-i-preserved
loop-i-preserved c =
    let a = c.args in
    let l = c.loop-i in
    rw c.put.ensures (sym (pack-more a.psi l.out a.elements.now l.i (omega arith))) ∙ l.invariant

pub returns : goal.returns
returns c =
    let a = c.args in
    let l = c.loop-i in
    let z : c.fill.new.self ≡ replicate (length a.out.now) 0 = search rules in
    sym (pack-end a.psi (a.psi * l.i) l.out a.elements.now l.i (omega arith)) ∙ l.invariant
    ∙ ap (λ (m : List ℕ). stores m (places a.psi 0 (length a.elements.now)) a.elements.now) z
