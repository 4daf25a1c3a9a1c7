-- `table::unpack_all` meets its contract. The invariant: the first i elements are those of the list. Assumes nothing.
use Rattle.std.proofs.Common.{◌≡◌, ℕ, List, sym, ◌∙◌, arith, length}
use Rattle.bits.proofs.Laws.{field_below}
use Rattle.fields.specs.Fields.{fields}
use Rattle.fields.proofs.Laws.{length_fields}
use Rattle.fields.proofs.Loops.{fill_start, fill_more, fill_end}
use Rattle.table.specs.Table.{places}
use Rattle.table.proofs.Places.{length-places, element-is}
use Rattle.table.proofs.unpack_all.Goals as goal

many : (b : List ℕ) (p n : ℕ) → length (fields b (places p 0 n)) ≡ n
many b p n = length_fields b (places p 0 n) ∙ length-places p 0 n

pub loop-i-init : goal.loop-i-init
loop-i-init c =
    let a = c.args in
    fill_start (fields a.bytes.now (places a.psi 0 (length a.out.now))) a.out.now (sym (many a.bytes.now a.psi (length a.out.now)))

pub overflow_cast-element : goal.overflow_cast-element
overflow_cast-element c = record { fits = rw c.get.ensures (field_below c.args.bytes.now _ c.args.psi 8 (omega arith)) }

pub loop-i-preserved : goal.loop-i-preserved
loop-i-preserved c =
    let a = c.args in
    let l = c.loop-i in
    let n = length a.out.now in
    fill_more (fields a.bytes.now (places a.psi 0 n)) l.out l.i c.get.result (omega (arith, many a.bytes.now a.psi n))
    (c.get.ensures ∙ sym (element-is a.psi n l.i a.bytes.now (omega arith))) l.invariant

pub returns : goal.returns
returns c =
    let a = c.args in
    let l = c.loop-i in
    let n = length a.out.now in
    fill_end (fields a.bytes.now (places a.psi 0 n)) l.out l.i (omega (arith, many a.bytes.now a.psi n)) l.invariant
