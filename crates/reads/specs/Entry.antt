-- An annex: what the reads of one entry and of its chain answer. Assumes nothing.
use Rattle.std.specs.Prelude.{ℕ, List, [], length, replicate}
use Rattle.image.specs.Image.{sectors, mark}
use Rattle.rules.specs.declared.Answer.{Answer}
use Rattle.image.specs.Seen.{asked}
use Rattle.reads.specs.Values.{entry_values}
use Rattle.reads.specs.Asked.{or_zero, or_zeros, over}
use Rattle.reads.specs.declared.EntryRead.{EntryRead}
use Rattle.reads.specs.declared.ChainRead.{ChainRead}

-- "Reads .. of one entry or its chain, 20 as well"
abbrev pub entry_refusal : List ℕ → ℕ → Answer
entry_refusal c j = asked c j (λ p. [])

-- EF, OID, TYP, PTYP, VGP, IINL, EXP
unfoldable pub read_entry : List ℕ → ℕ → EntryRead
read_entry c j =
    record { number = (entry_refusal c j).number; entry = (entry_refusal c j).entry; values = or_zeros (entry_refusal c j).number 7 (entry_values c j) }

-- the mark, the length of the chain, and its sectors in chain order with zeros after them
unfoldable pub read_chain : List ℕ → ℕ → ChainRead
read_chain c j =
    record {
      number = (entry_refusal c j).number;
      entry = (entry_refusal c j).entry;
      mark = or_zero (entry_refusal c j).number (mark c j);
      count = or_zero (entry_refusal c j).number (length (sectors c j));
      sectors = or_zeros (entry_refusal c j).number 252 (over (sectors c j) (replicate 252 0));
    }
