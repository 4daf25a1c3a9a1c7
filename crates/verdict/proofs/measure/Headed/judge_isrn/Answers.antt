-- `Headed::judge_isrn` meets its contract: IIN, OID, ISSN and CHD stand side by side in bytes 6 to 14, and are judged by words. Assumes nothing.
use mathlib.Core.Path.{◌≡◌, sym, ap, ap₂, ◌∙◌}
use mathlib.Core.List.{List}
use Prim.Native.Nat.{ℕ, ◌+◌, ◌*◌, ◌^◌}
use native.Mathlib.Omega.{arith}
use Rattle.bits.specs.Bits.{field}
use Rattle.bits.proofs.Laws.{field-add, field_lt}
use Rattle.digits.specs.Digits.{digits_of}
use Rattle.rules.specs.First.{first}
use Rattle.shell.specs.Encode.{isrn_rules, word_rules}
use Rattle.shell.proofs.Words.{by-words}
use Rattle.image.specs.Image.{shell_values}
use Rattle.image.proofs.Isrn.{isrn-is}
use Rattle.verdict.proofs.measure.Headed.judge_isrn.Goals as goal

on-card : (c : List ℕ) {p q r : ℕ} → p ≡ field c 48 8 → q ≡ field c 56 32 → r ≡ field c 88 32 → first (word_rules p (q * 4294967296 + r)) ≡ first (isrn_rules (shell_values c))
on-card c ep eq er =
    let w : field c 56 64 ≡ field c 56 32 * 2 ^ 32 + field c 88 32 = field-add c 56 32 32 in
    ap₂ (λ (x y : ℕ). first (word_rules x y)) ep (ap₂ (λ (x y : ℕ). x * 4294967296 + y) eq er ∙ sym w)
    ∙ by-words (shell_values c) (field c 48 8) (field c 56 64) (field_lt c 48 8) (field_lt c 56 64)
    (isrn-is c ∙ ap (digits_of 18) (field-add c 48 8 64))

pub overflow_mul-load : goal.overflow_mul-load
overflow_mul-load c = let m = c.args.self.now.image.now in omega (arith, c.load-2.ensures, field_lt m 56 32)

pub overflow_add-load : goal.overflow_add-load
overflow_add-load c = let m = c.args.self.now.image.now in omega (arith, c.load-2.ensures, c.load-3.ensures, field_lt m 56 32, field_lt m 88 32)

pub judge_isrn-requires : goal.judge_isrn-requires
judge_isrn-requires c = let m = c.args.self.now.image.now in omega (arith, c.load.ensures, field_lt m 48 8)

pub returns : goal.returns
returns c =
    let m = c.args.self.now.image.now in
    c.judge_isrn.ensures ∙ on-card m c.load.ensures c.load-2.ensures c.load-3.ensures
