-- What is no text is no command: each listed word is of ASCII. Assumes nothing.
use mathlib.Core.Path.{◌≡◌, refl, sym, subst}
use mathlib.Core.Bool.{Bool, true, false, ◌&&◌}
use mathlib.Core.List.{List, [], ◌∷◌, ◌++◌}
use Prim.Native.Nat.{ℕ, zero, suc}
use lib.Dec.{ltb, lit<}
use borrow.Author.Tests.{ltb-true}
use Rattle.std.specs.Str.{IsAscii, IsUtf8}
use Rattle.std.proofs.lemmas.Str.{IsUtf8-from_ascii}
use Rattle.text.specs.Words.{same, bytes_of}
use Rattle.text.proofs.Split.{same_alike}
use Rattle.text.proofs.Tests.{first_of, second-of}
use Rattle.console.specs.declared.commands.Command.TheVariants.{Unknown}
use Rattle.console.specs.Commands.{Listed, common, trial, desk, command_in, command_of}

abbrev pub plain : List ℕ → Bool
plain [] = true
plain (b ∷ l) = ltb b 128 && plain l

abbrev pub each_plain : List Listed → Bool
each_plain [] = true
each_plain (e ∷ es) = plain (bytes_of e.word) && each_plain es

ascii : (l : List ℕ) → plain l ≡ true → IsAscii l
ascii [] e i = lit< tt
ascii (b ∷ l) e zero = ltb-true b 128 (first_of (ltb b 128) (plain l) e)
ascii (b ∷ l) e (suc i) = ascii l (second-of (ltb b 128) (plain l) e) i

module _ (w : List ℕ) (h : IsUtf8 w → ⊥) where
  other : (v : List ℕ) (t : Bool) → plain v ≡ true → same w v ≡ t → same w v ≡ false
  other v true p e = absurd (h (subst IsUtf8 (sym (same_alike w v e)) (IsUtf8-from_ascii v (ascii v p))))
  other v false p e = e

  unlisted : (es : List Listed) (n a b c : ℕ) → each_plain es ≡ true → Unknown ≡ command_in es w n a b c
  unlisted [] n a b c p = refl
  unlisted (e ∷ es) n a b c p =
      let q = other (bytes_of e.word) (same w (bytes_of e.word)) (first_of (plain (bytes_of e.word)) (each_plain es) p) refl in
      rw q (unlisted es n a b c (second-of (plain (bytes_of e.word)) (each_plain es) p))

  pub no_command : (all : Bool) (n a b c : ℕ) → Unknown ≡ command_of all w n a b c
  unfolding command_of
  no_command true n a b c = unlisted (common ++ trial) n a b c refl
  no_command false n a b c = unlisted (common ++ desk) n a b c refl
