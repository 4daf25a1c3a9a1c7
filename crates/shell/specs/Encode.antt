-- An annex: what the calls on a shell's values answer and write, as the machine finds it. Assumes nothing.
use Rattle.std.specs.Prelude.{ℕ, ◌+◌, ◌%◌, ◌^◌, ◌<◌, List, [], ◌∷◌, ◌++◌, length, drop}
use Rattle.rules.specs.Claim.{◌≡?◌, Rule, rule}
use Rattle.rules.specs.First.{first}
use Rattle.rules.specs.Answer.{if_done}
use Rattle.digits.specs.Digits.{decimal, digits_of, luhn}
use Rattle.shell.specs.declared.Shell.{Shell}
use Rattle.shell.specs.Shell.{ShellLength, IIN, OID, ISSN, CHD, values_in, dataset_of, digit_rules, check_digit_rule, encode_rules, encoded_shell}

-- what is known of values that fit their places
pub record Fitting (vs : List ℕ) : Type 0 where
  pub length_fits : ShellLength vs < 64
  pub iin_fits : IIN vs < 2 ^ 24
  pub oid_fits : OID vs < 2 ^ 16
  pub issn_fits : ISSN vs < 2 ^ 28
  pub chd_fits : CHD vs < 2 ^ 4

-- of the ISRN: 8, but for the padding, and 12
abbrev pub isrn_rules : List ℕ → List Rule
isrn_rules vs = digit_rules vs ++ (check_digit_rule vs ∷ [])

-- the same by words: `high` is its first two digits, `low` the sixteen others
abbrev pub word_rules : ℕ → ℕ → List Rule
word_rules high low = rule 8 (decimal 16 high) ∷ rule 8 (decimal 16 low) ∷ rule 12 ((luhn (digits_of 16 low) + luhn (digits_of 16 high)) % 10 ≡? 0) ∷ []

-- the sixteen values of twenty bytes
abbrev pub decode_of : List ℕ → Shell
decode_of b = record { values = values_in b }

unfoldable pub encode_number : List ℕ → ℕ → ℕ
encode_number vs room = first (encode_rules vs room)

-- the buffer then: the dataset, and later bytes stay; refused, nothing is altered
abbrev pub encode_in : List ℕ → List ℕ → List ℕ
encode_in vs l = if_done (encode_number vs (length l)) (encoded_shell vs ++ drop (dataset_of vs) l) l
