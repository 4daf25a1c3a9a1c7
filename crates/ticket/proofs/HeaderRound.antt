-- A ticket's header both ways: the law of records that are all of their bytes, at its list. Assumes nothing.
use mathlib.Core.Path.{◌≡◌}
use mathlib.Core.Logic.{◌↔◌}
use mathlib.Core.List.{List}
use Prim.Native.Nat.{ℕ}
use lib.ListN.{length}
use Rattle.bits.specs.Bits.{Bytes}
use Rattle.rules.specs.Claim.{Means}
use Rattle.fields.specs.declared.Layout.TheVariants as layout
use Rattle.fields.specs.Fields.{fit}
use Rattle.fields.specs.Lists as lists
use Rattle.fields.proofs.Joined.{lists-joined}
use Rattle.fields.proofs.Whole.{decode-encode, encode-decode, packed_exactly}
use Rattle.ticket.specs.Ticket.{header_in, header_bytes}

pub header_back : (vs : List ℕ) → Means (fit lists.head vs) → (header_in (header_bytes vs).bytes).values ≡ vs
header_back vs m = decode-encode layout.Header 2 (lists-joined layout.Header) vs m

pub header-again : (b : List ℕ) → Bytes b → length b ≡ 2 → header_bytes (header_in b).values ≡ record { number = 0; entry = 0; bytes = b }
header-again b h n = let e = encode-decode layout.Header 2 (lists-joined layout.Header) b h n in rw (e.1, e.0)

pub header_exactly : (vs : List ℕ) → (((header_bytes vs).number ≡ 0) ↔ Means (fit lists.head vs)) × (((header_bytes vs).number ≡ 26) ↔ (Means (fit lists.head vs) → ⊥))
header_exactly vs = packed_exactly layout.Header vs
