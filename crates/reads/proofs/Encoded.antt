-- Encoding what was read gives the bits back: what is read of a record is all that its bytes hold, and the ends of a dataset and of a chain
-- table are those that an accepted image has. Assumes nothing.
use mathlib.Core.Path.{◌≡◌, sym, ap, ◌∙◌}
use mathlib.Core.List.{List, ◌∷◌}
use Prim.Native.Nat.{ℕ, ◌+◌, ◌-◌, ◌*◌, ◌≤◌, ◌<◌}
use native.Mathlib.Omega.{arith}
use lib.ListN.{length, get_or, take, drop, length-drop}
use lib.Seq.{length-take-le, take_at, drop_at}
use Rattle.bits.specs.Bits.{Bytes, bit}
use Rattle.bits.proofs.Laws.{bit-drop, bit-part, bytes_take, bytes_drop}
use Rattle.fields.specs.declared.Layout.{Layout}
use Rattle.fields.specs.declared.Layout.TheVariants.{Entry, Head, Tail, Header}
use Rattle.fields.specs.Lists as lists
use Rattle.fields.specs.Lists.{list_of, bit_after}
use Rattle.fields.specs.Ends.{start_of}
use Rattle.fields.specs.Fields.{fields}
use Rattle.fields.proofs.Joined.{lists-joined}
use Rattle.fields.proofs.Laws.{length_fields}
use Rattle.fields.proofs.Same.{fields-same, fields_front}
use Rattle.directory.specs.Records.{entry_bytes, head_bytes, tail_bytes}
use Rattle.directory.proofs.Round.{entry-again, head-again, tail-again}
use Rattle.ticket.specs.Kind.{rest_of}
use Rattle.ticket.specs.Ticket.{header_bytes, record_of, record_in, encode_of}
use Rattle.ticket.proofs.HeaderRound.{header-again}
use Rattle.ticket.proofs.Round.{encode-read}
use Rattle.ticket.proofs.Listed.{Facts, kind_facts}
use Rattle.ticket.specs.declared.Record.{Record}
use Rattle.image.specs.Image.{SCTL, directory_at, entry_at, table_at, sectors, product}
use Rattle.image.specs.Obeys.{Obeys}
use Rattle.image.specs.Product.{product_at}
use Rattle.image.proofs.Accepted.{facts_bounds}
use Rattle.image.proofs.Exact.{accepted-exactly, obeys_facts}
use Rattle.image.proofs.First.{bytes-joined}
use Rattle.reads.specs.Values.{kind_at}
use Rattle.reads.specs.Card.{read_directory}
use Rattle.reads.specs.Entry.{read_entry}
use Rattle.reads.specs.Ticket.{read_ticket}
use Rattle.reads.specs.declared.TicketRead.{TicketRead}
use Rattle.reads.proofs.Passed.{placed, entry_passed}
use Rattle.reads.proofs.Places.{entry_in_lem, tail_in_lem}

-- the n bytes from byte a on
abbrev part : List ℕ → ℕ → ℕ → List ℕ
part l a n = take n (drop a l)

part_length : (l : List ℕ) (a n : ℕ) → a + n ≤ length l → length (part l a n) ≡ n
part_length l a n h = length-take-le n (drop a l) (omega (arith, length-drop a l))

part_bytes : (l : List ℕ) (a n : ℕ) → Bytes l → Bytes (part l a n)
part_bytes l a n b = bytes_take n (drop a l) (bytes_drop a l b)

-- a record is all in its own bytes
part-fields : (k : Layout) (l : List ℕ) (a n : ℕ) → bit_after k ≤ 8 * n → fields (part l a n) (list_of k) ≡ fields (drop a l) (list_of k)
part-fields k l a n h = fields_front (start_of k) (list_of k) (bit_after k) (lists-joined k) (drop a l) n h

-- ---- the directory

module _ (c : List ℕ) (bytes : Bytes c) (o : Obeys c) where
  head-is : take 3 (read_directory c).values ≡ fields (drop (directory_at c) c) lists.head
  unfolding read_directory
  head-is =
      rw ((accepted-exactly c).1 o) (take_at (fields (drop (directory_at c) c) lists.head) (fields (drop (table_at c + SCTL c) c) lists.tail) 3 (length_fields (drop (directory_at c) c) lists.head))

  tail-is : drop 3 (read_directory c).values ≡ fields (drop (table_at c + SCTL c) c) lists.tail
  unfolding read_directory
  tail-is =
      rw ((accepted-exactly c).1 o) (drop_at (fields (drop (directory_at c) c) lists.head) (fields (drop (table_at c + SCTL c) c) lists.tail) 3 (length_fields (drop (directory_at c) c) lists.head))

  pub head-encoded : head_bytes (take 3 (read_directory c).values) ≡ record { number = 0; entry = 0; bytes = part c (directory_at c) 2 }
  head-encoded =
      let b = facts_bounds c (obeys_facts c o) in
      ap head_bytes (head-is ∙ sym (part-fields Head c (directory_at c) 2 (omega arith)))
      ∙ head-again (part c (directory_at c) 2) (part_bytes c (directory_at c) 2 bytes) (part_length c (directory_at c) 2 (omega arith))

  pub tail-encoded : tail_bytes (drop 3 (read_directory c).values) ≡ record { number = 0; entry = 0; bytes = part c (table_at c + SCTL c) 6 }
  tail-encoded =
      let b = facts_bounds c (obeys_facts c o) in
      ap tail_bytes (tail-is ∙ sym (part-fields Tail c (table_at c + SCTL c) 6 (omega arith)))
      ∙ tail-again (part c (table_at c + SCTL c) 6) (part_bytes c (table_at c + SCTL c) 6 bytes) (part_length c (table_at c + SCTL c) 6 (tail_in_lem b))

-- ---- an entry

pub entry-encoded : (c : List ℕ) (j : ℕ) → Bytes c → (read_entry c j).number ≡ 0
    → entry_bytes (read_entry c j).values ≡ record { number = 0; entry = 0; bytes = part c (entry_at c j) 5 }
unfolding read_entry
entry-encoded c j bytes z =
    let t = entry_passed c j z in
    let b = facts_bounds c t.obeys in
    rw z
    (ap entry_bytes (sym (part-fields Entry c (entry_at c j) 5 (omega arith)))
    ∙ entry-again (part c (entry_at c j) 5) (part_bytes c (entry_at c j) 5 bytes) (part_length c (entry_at c j) 5 (entry_in_lem b j t.is-product.low t.is-product.high)))

-- ---- a ticket

-- the record of what was read: the entry's TYP, the header's revision, and the values
abbrev pub record_of_lem : TicketRead → Record
record_of_lem r = record_of r.typ (get_or r.header 2 0) r.values

bytes_product : (c : List ℕ) (j : ℕ) → Bytes c → Bytes (product c j)
unfolding product
bytes_product c j b = bytes-joined c b (sectors c j)

-- the fields of a kind stand between byte 2 and the first byte after them
module _ (k : Layout) (f : Facts k) (l : List ℕ) where
  abbrev own_bytes : List ℕ
  own_bytes = 0 ∷ 0 ∷ part l 2 (rest_of k - 2)

  ticket-fields : fields own_bytes (list_of k) ≡ fields l (list_of k)
  ticket-fields = fields-same (start_of k) (list_of k) (bit_after k) (lists-joined k) own_bytes l same
    where
      same : (i : ℕ) → start_of k ≤ i → i < bit_after k → bit own_bytes i ≡ bit l i
      same i a b =
          let e : i ≡ 8 * 2 + (i - 16) = omega (arith, f.starts) in
          ap (bit own_bytes) e
          ∙ sym (bit-drop own_bytes 2 (i - 16))
          ∙ bit-part l 2 (rest_of k - 2) (i - 16) (omega (arith, f.starts, f.whole))
          ∙ sym (ap (bit l) e)

module _ (c : List ℕ) (j room : ℕ) (bytes : Bytes c) (z : (read_ticket c j room).number ≡ 0) where
  -- the bytes of the ticket's fields
  abbrev own : List ℕ
  own = part (product c j) 2 (rest_of (kind_at c j).layout - 2)

  within : (2 ≤ rest_of (kind_at c j).layout) × (rest_of (kind_at c j).layout ≤ length (product c j))
  unfolding read_ticket
  within =
      let p = placed c j room z in
      let f = kind_facts (product_at c j).typ (product_at c j).revision in
      (omega (arith, f.after, f.whole), omega (arith, p.before, p.inside))

  pub header-encoded : header_bytes (read_ticket c j room).header ≡ record { number = 0; entry = 0; bytes = part (product c j) 0 2 }
  unfolding read_ticket
  header-encoded =
      rw z
      (ap header_bytes (sym (part-fields Header (product c j) 0 2 (omega arith)))
      ∙ header-again (part (product c j) 0 2) (part_bytes (product c j) 0 2 (bytes_product c j bytes)) (part_length (product c j) 0 2 (omega (arith, within))))

  record_is : record_of_lem (read_ticket c j room) ≡ record_in (product_at c j).typ (product_at c j).revision (0 ∷ 0 ∷ own)
  unfolding read_ticket product_at fields
  record_is =
      rw z
      (ap (record_of (product_at c j).typ (product_at c j).revision)
      (sym (ticket-fields (kind_at c j).layout (kind_facts (product_at c j).typ (product_at c j).revision) (product c j))))

  own-length : length own ≡ rest_of (kind_at c j).layout - 2
  own-length = part_length (product c j) 2 (rest_of (kind_at c j).layout - 2) (omega (arith, within))

  pub ticket-encoded : encode_of (record_of_lem (read_ticket c j room))
      ≡ record { number = 0; entry = 0; count = rest_of (kind_at c j).layout - 2; bytes = part (product c j) 2 (rest_of (kind_at c j).layout - 2) }
  unfolding read_ticket
  ticket-encoded =
      ap encode_of record_is
      ∙ encode-read (product_at c j).typ (product_at c j).revision own (placed c j room z).is_listed
      (part_bytes (product c j) 2 (rest_of (kind_at c j).layout - 2) (bytes_product c j bytes)) own-length
      ∙ ap (λ (n : ℕ). record { number = 0; entry = 0; count = n; bytes = own }) own-length
