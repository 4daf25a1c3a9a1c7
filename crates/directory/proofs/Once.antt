-- C's structs tell the encoders' results apart: two results of which it is told the same are the same. Assumes nothing.
use mathlib.Core.Path.{◌≡◌, ap}
use mathlib.Core.List.{List}
use Prim.Native.Nat.{ℕ}
use lib.ListN.{replicate}
use Rattle.std.specs.Prelude.{Result}
use Rattle.rules.specs.declared.Reason.{Reason}
use Rattle.rules.proofs.ReasonLaws.{said_one}
use Rattle.directory.specs.declared.EntryBytes.{EntryBytes}
use Rattle.directory.specs.declared.HeadBytes.{HeadBytes}
use Rattle.directory.specs.declared.TailBytes.{TailBytes}
use Rattle.directory.specs.Coded.{coded_entry, coded_head, coded_tail}

module _ {r s : Result (List ℕ) Reason} where
  pub entry_once : coded_entry r ≡ coded_entry s → r ≡ s
  entry_once e = said_one (replicate 5 0) (ap (λ (c : EntryBytes). c.number) e) (ap (λ (c : EntryBytes). c.bytes) e)

  pub head_once : coded_head r ≡ coded_head s → r ≡ s
  head_once e = said_one (replicate 2 0) (ap (λ (c : HeadBytes). c.number) e) (ap (λ (c : HeadBytes). c.bytes) e)

  pub tail_once : coded_tail r ≡ coded_tail s → r ≡ s
  tail_once e = said_one (replicate 6 0) (ap (λ (c : TailBytes). c.number) e) (ap (λ (c : TailBytes). c.bytes) e)
