-- `table::decode_table` meets its contract: no rule fails, and the elements stand before zeros; or one does, and all are zero. Assumes nothing.
use mathlib.Core.Path.{◌≡◌, refl, sym, ap, ap₂, ◌∙◌}
use mathlib.Core.List.{List, ◌++◌}
use borrow.Author.Rules.{rules}
use Rattle.std.specs.Prelude.{Err}
use Rattle.std.proofs.Common.{ℕ, ◌≤◌, length, take, drop, replicate, ◌-◌, length-take-le, arith}
use Rattle.table.specs.Coded.{elements_in, coded_table}
use Rattle.table.proofs.Buffer.{taken, refused}
use Rattle.table.proofs.Rules.{decode-taken-gives, table-room}
use Rattle.table.proofs.decode_table.Goals as goal

-- the elements' part of the buffer
abbrev zeros : List ℕ
zeros = replicate 252 0

part : (n : ℕ) → n ≤ 255 → length (take (n - 3) zeros) ≡ n - 3
part n h = length-take-le (n - 3) zeros (omega arith)

pub returns-in_err-sectors : goal.returns-in_err-sectors
returns-in_err-sectors c =
    let i = c.in_err-sectors in
    let e : c.from_residual.result ≡ Err i.field-0.0 = search rules in
    ap coded_table e ∙ refused c.args.s c.args.bytes.now i.field-0.0 i.ensures.number

pub unpack_all-requires : goal.unpack_all-requires
unpack_all-requires c =
    let a = c.args in
    let i = c.in_ok-sectors in
    let t = decode-taken-gives a.s (length a.bytes.now) (sym i.ensures.number) in
    let l = part i.sectors (omega arith) in
    (c.psi-psi.ensures.1, rw l (omega arith), rw (l, t.size, c.psi-psi.ensures.0, i.ensures.same.0) (table-room a.s))

pub returns : goal.returns
returns c =
    let a = c.args in
    let i = c.in_ok-sectors in
    let l = part i.sectors (omega arith) in
    let e : c.unpack_all.new.out ≡ elements_in a.s a.bytes.now = c.unpack_all.ensures ∙ rw (l, c.psi-psi.ensures.0, i.ensures.same.0) refl in
    taken a.s a.bytes.now i.ensures.number (ap (λ (n : ℕ). n - 3) i.ensures.same.0)
    (ap₂ (λ (x : List ℕ) (n : ℕ). x ++ drop (n - 3) zeros) e i.ensures.same.0)
