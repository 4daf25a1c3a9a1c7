-- The rules of document 01, "Numbers given back", in its order as request T-03 changes it; the causes of one number stand left to right as there. Assumes nothing.
use Rattle.std.specs.Prelude.{ℕ, ◌+◌, ◌-◌, ◌*◌, List, [], ◌∷◌, ◌++◌, length}
use Rattle.chains.specs.Psi.{table_bytes}
use Rattle.crc.specs.Crc.{crc}
use Rattle.rules.specs.Claim.{◌≡?◌, ◌≤?◌, ◌and◌, Rule, rule}
use Rattle.shell.specs.Shell.{ShellBitMap, form_rules, digit_rules, check_digit_rule}
use Rattle.image.specs.Image.{stated, version, copy, shell_values, dataset, B, S, e#, SCTL, shell_pad, SECR, before_SECR, table_pad}

abbrev pub head_rules : List ℕ → List Rule  -- the rows 1 to 4
head_rules c =
    rule 1 (4 ≤? length c)
    ∷ rule 1 (stated c ≡? length c)
    ∷ rule 2 (version c ≡? 1)
    ∷ rule 3 (copy c ≤? 1)
    ∷ rule 4 (36 ≤? length c)
    ∷ []

abbrev pub size_rules : List ℕ → List Rule  -- the rows 5 and 6; 5 is the shell's own
size_rules c =
    form_rules (ShellBitMap (shell_values c)) (dataset c)
    ++ (rule 6 (4 ≤? S c)
    ∷ rule 6 (32 ≤? B c)
    ∷ rule 6 (1 ≤? e# c and e# c ≤? S c - 3)
    ∷ rule 6 (SCTL c ≡? table_bytes (S c))
    ∷ rule 6 (16 + 5 * e# c + SCTL c ≤? B c)
    ∷ rule 6 (dataset c ≤? B c)
    ∷ rule 6 (length c ≡? 4 + S c * B c)
    ∷ [])

abbrev pub content_rules : List ℕ → List Rule  -- the rows 7, 8, 12 and 9; the digits of 8, and 12, are the shell's own
content_rules c =
    rule 7 (SECR c ≡? crc (before_SECR c))
    ∷ (digit_rules (shell_values c)
    ++ (rule 8 (shell_pad c ≡? 0)
    ∷ check_digit_rule (shell_values c)
    ∷ rule 9 (table_pad c ≡? 0)
    ∷ []))

unfoldable pub rules : List ℕ → List Rule  -- numbers 1 to 8, 12 and 9
rules c = head_rules c ++ (size_rules c ++ content_rules c)
