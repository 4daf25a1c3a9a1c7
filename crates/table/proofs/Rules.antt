-- What the tests of the table's encoder and decoder say: each is the test of its rule. Assumes nothing.
use mathlib.Core.Path.{◌≡◌}
use mathlib.Core.List.{List}
use Prim.Native.Nat.{ℕ, ◌-◌, ◌*◌, ◌≤◌}
use native.Mathlib.Omega.{arith}
use lib.ListN.{length}
use Rattle.chains.specs.Psi.{Ψ, table_bytes}
use Rattle.rules.proofs.ClaimLaws.{Numbered}
use Rattle.rules.proofs.First.{kept-of-first}
use Rattle.table.specs.Table.{encode_rules, decode_rules}
use Rattle.table.specs.Coded.{encode_number, decode_number}

pub encode_numbered : (s : ℕ) (es : List ℕ) (room : ℕ) → Numbered (encode_rules s es room)
encode_numbered s es room = (omega arith, (omega arith, (omega arith, (omega arith, (omega arith, tt)))))

pub decode_numbered : (s n : ℕ) → Numbered (decode_rules s n)
decode_numbered s n = (omega arith, (omega arith, (omega arith, tt)))

-- the elements of a table lie within its bytes
pub table-room : (s : ℕ) → Ψ s * (s - 3) ≤ 8 * table_bytes s
unfolding table_bytes
table-room s = omega arith

-- what is known where nothing is refused
pub record Taken (s : ℕ) (es : List ℕ) (room : ℕ) : Type 0 where
  pub least : 4 ≤ s
  pub most : s ≤ 255
  pub count : length es ≡ s - 3
  pub size : room ≡ table_bytes s

pub encode-taken-gives : (s : ℕ) (es : List ℕ) (room : ℕ) → encode_number s es room ≡ 0 → Taken s es room
unfolding encode_number
encode-taken-gives s es room e =
    let k = kept-of-first (encode_rules s es room) (encode_numbered s es room) e in
    record { least = k.0; most = k.1.0; count = k.1.1.0; size = k.1.1.1.0 }

pub record Whole (s n : ℕ) : Type 0 where
  pub least : 4 ≤ s
  pub most : s ≤ 255
  pub size : n ≡ table_bytes s

pub decode-taken-gives : (s n : ℕ) → decode_number s n ≡ 0 → Whole s n
unfolding decode_number
decode-taken-gives s n e =
    let k = kept-of-first (decode_rules s n) (decode_numbered s n) e in
    record { least = k.0; most = k.1.0; size = k.1.1.0 }
