-- An entry, and the directory's two ends: the law of records that are all of their bytes, at three lists. Assumes nothing.
use mathlib.Core.Path.{◌≡◌}
use mathlib.Core.Logic.{◌↔◌}
use mathlib.Core.List.{List}
use Prim.Native.Nat.{ℕ}
use lib.ListN.{length}
use Rattle.bits.specs.Bits.{Bytes}
use Rattle.rules.specs.Claim.{Means}
use Rattle.fields.specs.declared.Layout.TheVariants as layout
use Rattle.fields.specs.Fields.{fit}
use Rattle.fields.specs.Lists as lists
use Rattle.fields.proofs.Joined.{lists-joined}
use Rattle.fields.proofs.Whole.{decode-encode, encode-decode, packed_exactly}
use Rattle.directory.specs.Records.{entry_bytes, entry_in, head_bytes, head_in, tail_bytes, tail_in}

-- decoding what was encoded gives the values back
pub entry_back : (vs : List ℕ) → Means (fit lists.entry vs) → (entry_in (entry_bytes vs).bytes).values ≡ vs
entry_back vs m = decode-encode layout.Entry 5 (lists-joined layout.Entry) vs m

pub head_back : (vs : List ℕ) → Means (fit lists.head vs) → (head_in (head_bytes vs).bytes).values ≡ vs
head_back vs m = decode-encode layout.Head 2 (lists-joined layout.Head) vs m

pub tail_back : (vs : List ℕ) → Means (fit lists.tail vs) → (tail_in (tail_bytes vs).bytes).values ≡ vs
tail_back vs m = decode-encode layout.Tail 6 (lists-joined layout.Tail) vs m

-- encoding what was decoded gives the bytes back, always
pub entry-again : (b : List ℕ) → Bytes b → length b ≡ 5 → entry_bytes (entry_in b).values ≡ record { number = 0; entry = 0; bytes = b }
entry-again b h n = let e = encode-decode layout.Entry 5 (lists-joined layout.Entry) b h n in rw (e.1, e.0)

pub head-again : (b : List ℕ) → Bytes b → length b ≡ 2 → head_bytes (head_in b).values ≡ record { number = 0; entry = 0; bytes = b }
head-again b h n = let e = encode-decode layout.Head 2 (lists-joined layout.Head) b h n in rw (e.1, e.0)

pub tail-again : (b : List ℕ) → Bytes b → length b ≡ 6 → tail_bytes (tail_in b).values ≡ record { number = 0; entry = 0; bytes = b }
tail-again b h n = let e = encode-decode layout.Tail 6 (lists-joined layout.Tail) b h n in rw (e.1, e.0)

-- 0 exactly where every value fits, 26 exactly where one does not
pub entry_exactly : (vs : List ℕ) → (((entry_bytes vs).number ≡ 0) ↔ Means (fit lists.entry vs)) × (((entry_bytes vs).number ≡ 26) ↔ (Means (fit lists.entry vs) → ⊥))
entry_exactly vs = packed_exactly layout.Entry vs

pub head_exactly : (vs : List ℕ) → (((head_bytes vs).number ≡ 0) ↔ Means (fit lists.head vs)) × (((head_bytes vs).number ≡ 26) ↔ (Means (fit lists.head vs) → ⊥))
head_exactly vs = packed_exactly layout.Head vs

pub tail_exactly : (vs : List ℕ) → (((tail_bytes vs).number ≡ 0) ↔ Means (fit lists.tail vs)) × (((tail_bytes vs).number ≡ 26) ↔ (Means (fit lists.tail vs) → ⊥))
tail_exactly vs = packed_exactly layout.Tail vs
