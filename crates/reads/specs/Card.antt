-- An annex: what the reads of the whole card answer: shell, directory, chain table. Assumes nothing.
use Rattle.std.specs.Prelude.{ℕ, zero, suc, ◌-◌, List, [], ◌∷◌, replicate}
use Rattle.image.specs.Image.{shell_values, S, element}
use Rattle.image.specs.Verdict.{verdict}
use Rattle.reads.specs.Values.{directory_values}
use Rattle.reads.specs.Asked.{or_zero, or_zeros, over}
use Rattle.reads.specs.declared.ShellRead.{ShellRead}
use Rattle.reads.specs.declared.DirectoryRead.{DirectoryRead}
use Rattle.reads.specs.declared.TableRead.{TableRead}

-- f i, .., f (i + n - 1)
unfoldable pub counted : (ℕ → ℕ) → ℕ → ℕ → List ℕ
counted f i zero = []
counted f i (suc n) = f i ∷ counted f (suc i) n

-- "Sector chains": SCT(1) to SCT(S-3)
abbrev pub elements : List ℕ → List ℕ
elements c = counted (element c) 1 (S c - 3)

-- "Shell record": its sixteen values
unfoldable pub read_shell : List ℕ → ShellRead
read_shell c =
    record { number = (verdict c).number; entry = (verdict c).entry; values = or_zeros (verdict c).number 16 (shell_values c) }

unfoldable pub read_directory : List ℕ → DirectoryRead
read_directory c =
    record { number = (verdict c).number; entry = (verdict c).entry; values = or_zeros (verdict c).number 7 (directory_values c) }

-- the elements, and zeros after them
unfoldable pub read_table : List ℕ → TableRead
read_table c =
    record {
      number = (verdict c).number;
      entry = (verdict c).entry;
      count = or_zero (verdict c).number (S c - 3);
      elements = or_zeros (verdict c).number 252 (over (elements c) (replicate 252 0));
    }
