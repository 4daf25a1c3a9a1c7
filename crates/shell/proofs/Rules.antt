-- What is known of values that fit their places, whose ISRN stands in two words, and of those that are taken. Assumes nothing.
use mathlib.Core.Path.{◌≡◌, sym, ap, ◌∙◌}
use mathlib.Core.Bool.{Bool, true}
use mathlib.Core.List.{List}
use Prim.Native.Nat.{ℕ, ◌+◌, ◌*◌, ◌/◌, ◌%◌, ◌≤◌}
use native.Mathlib.Omega.{arith}
use Rattle.fields.specs.Fields.{fit}
use Rattle.fields.specs.Lists as lists
use Rattle.rules.specs.First.{holds, first}
use Rattle.rules.proofs.ClaimLaws.{Numbered, holds_means}
use Rattle.rules.proofs.First.{kept-of-first}
use Rattle.digits.specs.Digits.{digits_of}
use Rattle.shell.specs.Shell.{ShellLength, IIN, OID, ISSN, CHD, dataset_of, encode_rules}
use Rattle.shell.specs.Encode.{Fitting, isrn_rules, word_rules, encode_number}
use Rattle.shell.proofs.Words.{by-words, one_number}

pub numbered : (vs : List ℕ) (room : ℕ) → Numbered (encode_rules vs room)
numbered vs room = omega arith

pub fitting : (vs : List ℕ) {r : Bool} → r ≡ holds (fit lists.shell vs) → r ≡ true → Fitting vs
fitting vs e t =
    let m = (holds_means (fit lists.shell vs) (sym e ∙ t)).1 in
    record { length_fits = omega (arith, m 0 (omega arith)); iin_fits = omega (arith, m 3 (omega arith)); oid_fits = omega (arith, m 4 (omega arith)); issn_fits = omega (arith, m 5 (omega arith)); chd_fits = omega (arith, m 6 (omega arith)) }

-- their ISRN in words
abbrev pub low_word : List ℕ → ℕ
low_word vs = IIN vs % 65536 * 281474976710656 + OID vs * 4294967296 + ISSN vs * 16 + CHD vs

pub in_words : (vs : List ℕ) → Fitting vs → first (word_rules (IIN vs / 65536) (low_word vs)) ≡ first (isrn_rules vs)
in_words vs n =
    by-words vs (IIN vs / 65536) (low_word vs) (omega arith) (omega arith)
    (one_number vs n.oid_fits n.issn_fits n.chd_fits ∙ ap (digits_of 18) (omega arith))

-- what is known of the values that are taken
pub record Taken (vs : List ℕ) (room : ℕ) : Type 0 where
  pub few : ShellLength vs ≤ 63
  pub enough : 22 ≤ dataset_of vs
  pub fits : dataset_of vs ≤ room

pub taken : (vs : List ℕ) (room : ℕ) → encode_number vs room ≡ 0 → Taken vs room
unfolding encode_number
taken vs room e =
    let k = kept-of-first (encode_rules vs room) (numbered vs room) e in
    record { few = k.0.1 0 (omega arith); enough = k.1.1.0; fits = k.1.1.1.1.1.1.1.1.0 }
