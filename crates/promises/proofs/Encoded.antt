-- Encoding the shell and the chain table that were read of an accepted image writes the image's own bytes: the padding of each is zero there,
-- and SECR is right. The other records are in reads (Encoded). And a ticket's bytes are as many as its fields have. Assumes nothing.
use mathlib.Core.Path.{◌≡◌, sym, ap, ◌∙◌}
use mathlib.Core.List.{List, ◌++◌}
use Prim.Native.Nat.{ℕ, ◌+◌, ◌-◌, ◌*◌, ◌≤◌, ◌<◌}
use native.Mathlib.Omega.{arith}
use lib.ListN.{length, get_or, take, drop, replicate, length-drop, length-replicate}
use lib.Seq.{length-take-le, take-take, take_at, ext_get_or}
use Rattle.bits.specs.Bits.{Bytes, bit, field}
use Rattle.bits.proofs.Laws.{bit-part, field-part, field_cong, bytes_take, bytes_drop}
use Rattle.bits.proofs.Zeros.{field_of_zeros}
use Rattle.crc.specs.Crc.{crc}
use Rattle.chains.specs.Psi.{Ψ}
use Rattle.fields.specs.Lists as lists
use Rattle.fields.specs.declared.Layout.TheVariants as layout
use Rattle.fields.proofs.Joined.{lists-joined}
use Rattle.fields.proofs.Laws.{length_fields, fit-fields, length-stores}
use Rattle.fields.proofs.Parts.{part}
use Rattle.fields.proofs.Same.{fields_front}
use Rattle.shell.specs.Shell as shell
use Rattle.shell.specs.Shell.{values_in, dataset_of}
use Rattle.shell.specs.Encode as shell-encode
use Rattle.shell.proofs.Round as shell-round
use Rattle.table.specs.Coded as table
use Rattle.table.specs.Coded.{elements_in}
use Rattle.table.specs.Table.{element_places}
use Rattle.table.proofs.Places.{length-places, element-is, room}
use Rattle.table.proofs.Round as table-round
use Rattle.ticket.specs.Kind.{rest_of}
use Rattle.ticket.specs.Ticket.{layout_of, encode_of}
use Rattle.ticket.specs.declared.Record.{Record}
use Rattle.ticket.proofs.Round.{taken-bytes}
use Rattle.image.specs.Image.{shell_values, dataset, S, SCTL, SECR, before_SECR, table_at, element}
use Rattle.image.specs.Obeys.{Obeys}
use Rattle.image.specs.Facts.{Facts}
use Rattle.image.specs.Verdict.{verdict}
use Rattle.image.proofs.Accepted.{facts_bounds}
use Rattle.image.proofs.Exact.{accepted-exactly, obeys_facts}
use Rattle.reads.specs.Card.{read_shell, read_table, elements}
use Rattle.reads.proofs.Counted.{length-counted, get_or-counted}

part_length : (l : List ℕ) (a n : ℕ) → a + n ≤ length l → length (part l a n) ≡ n
part_length l a n h = length-take-le n (drop a l) (omega (arith, length-drop a l))

part_bytes : (l : List ℕ) (a n : ℕ) → Bytes l → Bytes (part l a n)
part_bytes l a n b = bytes_take n (drop a l) (bytes_drop a l b)

-- the S - 3 elements that a read of the chain table gave
abbrev pub elements_read : List ℕ → List ℕ
elements_read c = take (S c - 3) (read_table c).elements

-- ---- the shell

-- the bytes d of a dataset with zero padding and a right SECR, encoded again
dataset-again : (d : List ℕ) → Bytes d → (l : List ℕ) → shell-encode.encode_number (values_in d) (length l) ≡ 0 → length d ≡ dataset_of (values_in d)
    → shell.padding d (dataset_of (values_in d)) ≡ 0 → shell.SECR d (dataset_of (values_in d)) ≡ crc (shell.before_SECR d (dataset_of (values_in d)))
    → shell-encode.encode_in (values_in d) l ≡ d ++ drop (dataset_of (values_in d)) l
dataset-again d b l k n p s =
    shell-round.encoded (values_in d) l k
    ∙ ap (λ (x : List ℕ). x ++ drop (dataset_of (values_in d)) l) ((shell-round.encode-decode d b (length l) k n).1 (p, s))

-- the first n bytes have the bits of the whole
bit_front : (l : List ℕ) (n i : ℕ) → i < 8 * n → bit (take n l) i ≡ bit l i
bit_front l n i h = bit-part l 0 n i h ∙ ap (bit l) (omega arith)

module _ (c : List ℕ) (bytes : Bytes c) (o : Obeys c) where
  obeys : Facts c
  obeys = obeys_facts c o

  accepted : (verdict c).number ≡ 0
  accepted = (accepted-exactly c).1 o

  -- the encoder takes the values where the buffer has room for the dataset
  shell-taken : (n : ℕ) → dataset c ≤ n → shell-encode.encode_number (shell_values c) n ≡ 0
  unfolding dataset shell_values
  shell-taken n h =
      (shell-round.encode-taken (shell_values c) n).1 (
        fit-fields (drop 4 c) lists.shell,
        (obeys.bit_map_zero, (obeys.dataset_least, (obeys.iin, (obeys.oid, (obeys.issn, (obeys.chd, (obeys.check_digit, (h, tt)))))))),
      )

  values-front : values_in (part c 4 (dataset c)) ≡ shell_values c
  unfolding shell_values
  values-front = fields_front 0 lists.shell 160 (lists-joined layout.Shell) (drop 4 c) (dataset c) (omega (arith, obeys.dataset_least))

  padding-front : shell.padding (part c 4 (dataset c)) (dataset c) ≡ 0
  padding-front =
      let b = facts_bounds c obeys in
      field_of_zeros (part c 4 (dataset c)) 160 (8 * (dataset c - 22))
      (λ j h. bit_front (drop 4 c) (dataset c) (160 + j) (omega arith) ∙ obeys.shell_padding (160 + j) (omega arith) (omega arith))

  checksum-front : shell.SECR (part c 4 (dataset c)) (dataset c) ≡ crc (shell.before_SECR (part c 4 (dataset c)) (dataset c))
  unfolding SECR before_SECR
  checksum-front =
      let b = facts_bounds c obeys in
      field_cong (part c 4 (dataset c)) (drop 4 c) (8 * (dataset c - 2)) (8 * (dataset c - 2)) 16
      (λ j h. bit_front (drop 4 c) (dataset c) (8 * (dataset c - 2) + j) (omega arith))
      ∙ obeys.checksum ∙ ap crc (sym (take-take (dataset c - 2) (dataset c) (drop 4 c) (omega arith)))

  -- Into a buffer that holds the dataset, the encoder takes the sixteen values read, and writes the image's dataset; later bytes stay.
  pub shell-encoded : (l : List ℕ) → dataset c ≤ length l
      → (shell-encode.encode_number (read_shell c).values (length l) ≡ 0)
      × (shell-encode.encode_in (read_shell c).values l ≡ part c 4 (dataset c) ++ drop (dataset c) l)
  unfolding read_shell dataset
  shell-encoded l h =
      let b = facts_bounds c obeys in
      rw accepted (
        shell-taken (length l) h,
        (rw values-front at (dataset-again (part c 4 (dataset c)) (part_bytes c 4 (dataset c) bytes) l)) (shell-taken (length l) h)
            (part_length c 4 (dataset c) (omega arith)) padding-front checksum-front,
      )

  -- ---- the chain table: the elements read are those of the table's bytes
  elements-front : elements c ≡ elements_in (S c) (part c (table_at c) (SCTL c))
  unfolding element
  elements-front =
      ext_get_or 0 (elements c) (elements_in (S c) (part c (table_at c) (SCTL c))) (length-counted (element c) 1 (S c - 3) ∙ sym (length_fields (part c (table_at c) (SCTL c)) (element_places (S c)) ∙ length-places (Ψ (S c)) 0 (S c - 3))) each
    where
      each : (i : ℕ) → i < length (elements c) → get_or (elements c) i 0 ≡ get_or (elements_in (S c) (part c (table_at c) (SCTL c))) i 0
      each i h =
          let b = facts_bounds c obeys in
          let k : i < S c - 3 = omega (arith, length-counted (element c) 1 (S c - 3)) in
          get_or-counted (element c) 1 (S c - 3) i k
          ∙ ap (λ (x : ℕ). field c (8 * table_at c + Ψ (S c) * x) (Ψ (S c))) (omega arith)
          ∙ sym (element-is (Ψ (S c)) (S c - 3) i (part c (table_at c) (SCTL c)) k ∙ field-part c (table_at c) (SCTL c) (Ψ (S c) * i) (Ψ (S c)) (omega (arith, room (Ψ (S c)) i (S c - 3) k)))

  table-length : length (part c (table_at c) (SCTL c)) ≡ SCTL c
  table-length = let b = facts_bounds c obeys in part_length c (table_at c) (SCTL c) (omega arith)

  table_decoded : table.decode_number (S c) (length (part c (table_at c) (SCTL c))) ≡ 0
  table_decoded =
      let b = facts_bounds c obeys in
      (table-round.table_decoded_exactly (S c) (length (part c (table_at c) (SCTL c)))).1 (b.s_least, (b.s_top, (table-length ∙ obeys.table-bytes, tt)))

  table_padding : table-round.padding (S c) (part c (table_at c) (SCTL c)) ≡ 0
  table_padding =
      let b = facts_bounds c obeys in
      let n = table-length in
      field_of_zeros (part c (table_at c) (SCTL c)) (Ψ (S c) * (S c - 3)) (8 * length (part c (table_at c) (SCTL c)) - Ψ (S c) * (S c - 3))
      (λ j h. bit-part c (table_at c) (SCTL c) (Ψ (S c) * (S c - 3) + j) (omega arith)
      ∙ obeys.table_padding (8 * table_at c + (Ψ (S c) * (S c - 3) + j)) (omega arith) (omega arith))

  elements-read : elements_read c ≡ elements_in (S c) (part c (table_at c) (SCTL c))
  unfolding read_table
  elements-read =
      rw accepted (take_at (elements c) (drop (length (elements c)) (replicate 252 0)) (S c - 3) (length-counted (element c) 1 (S c - 3)) ∙ elements-front)

  -- Into a buffer of SCTL bytes, the encoder takes S and the elements read, and writes the image's chain table.
  pub table-encoded : (l : List ℕ) → length l ≡ SCTL c
      → (table.encode_number (S c) (elements_read c) (length l) ≡ 0) × (table.encode_in (S c) (elements_read c) l ≡ part c (table_at c) (SCTL c))
  table-encoded l h =
      let b : List ℕ = part c (table_at c) (SCTL c) in
      let p = part_bytes c (table_at c) (SCTL c) bytes in
      let n : length l ≡ length b = h ∙ sym table-length in
      let k : table.encode_number (S c) (elements_read c) (length l) ≡ 0 = rw (elements-read, n) (table-round.decoded-taken (S c) b p table_decoded) in
      (k, table-round.encoded (S c) (elements_read c) l k ∙ rw (elements-read, n) ((table-round.table-again (S c) b p table_decoded).1 table_padding))

-- ---- a ticket: the bytes of its fields, from byte 2 on
pub ticket-count : (t : Record) → (encode_of t).number ≡ 0 → (encode_of t).count ≡ rest_of (layout_of t) - 2
ticket-count t z = ap length (taken-bytes t z) ∙ simp (length-drop, length-stores, length-replicate)
