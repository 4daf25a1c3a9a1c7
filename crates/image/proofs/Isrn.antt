-- The ISRN on a card: IIN, OID, ISSN and CHD stand side by side, so that their digits are those of the 72 bits from byte 6 on. Assumes nothing.
use mathlib.Core.Path.{◌≡◌, sym, ap, ap₂, ◌∙◌}
use mathlib.Core.List.{List}
use Prim.Native.Nat.{ℕ, ◌+◌, ◌*◌, ◌^◌}
use lib.ListN.{drop}
use Rattle.bits.specs.Bits.{field}
use Rattle.bits.proofs.Laws.{field-add, field_lt, field-drop}
use Rattle.digits.specs.Digits.{digits_of}
use Rattle.fields.specs.Fields.{fields}
use Rattle.shell.proofs.Words.{one_number}
use Rattle.image.specs.Image.{shell_values, isrn}

pub isrn-is : (c : List ℕ) → isrn c ≡ digits_of 18 (field c 48 72)
unfolding shell_values fields
isrn-is c =
    let b = field-drop c 4 in
    one_number (shell_values c) (field_lt (drop 4 c) 40 16) (field_lt (drop 4 c) 56 28) (field_lt (drop 4 c) 84 4)
    ∙ ap (digits_of 18) (ap₂ (λ (x y : ℕ). x * 2 ^ 32 + y) (ap₂ (λ (x y : ℕ). x * 2 ^ 16 + y) (b 16 24) (b 40 16)) (ap₂ (λ (x y : ℕ). x * 2 ^ 4 + y) (b 56 28) (b 84 4))
    ∙ sym (field-add c 48 40 32 ∙ ap₂ (λ (x y : ℕ). x * 2 ^ 32 + y) (field-add c 48 24 16) (field-add c 88 28 4)))
