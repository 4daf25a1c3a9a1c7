-- `table::encode_table` meets its contract: elements that are taken have their room. Assumes nothing.
use Rattle.std.proofs.Common.{length, sym, arith}
use Rattle.table.proofs.Rules.{encode-taken-gives, table-room}
use Rattle.table.proofs.Buffer.{done}
use Rattle.table.proofs.encode_table.Goals as goal

pub pack_all-requires : goal.pack_all-requires
pack_all-requires c =
    let a = c.args in
    let t = encode-taken-gives a.s a.elements.now (length a.out.now) (sym c.in_ok-sectors.ensures.number) in
    let e = c.psi.ensures.0 in
    (c.psi.ensures.1, omega arith, rw (t.count, t.size, e, c.in_ok-sectors.ensures.same.0) (table-room a.s))

pub returns : goal.returns
returns c =
    let a = c.args in
    done a.s a.elements.now a.out.now c.in_ok-sectors.ensures.number c.in_ok-sectors.ensures.same.0 c.psi.ensures.0 c.pack_all.ensures
