-- What each read gives where it is taken: its definition holds zeros, or an old buffer, only under a number that is not 0. Assumes nothing.
use mathlib.Core.Path.{◌≡◌, refl, ap, ◌∙◌}
use mathlib.Core.List.{List, ◌++◌}
use Prim.Native.Nat.{ℕ, zero, suc, ◌+◌, ◌-◌, ◌≤◌, ◌<◌}
use native.Mathlib.Decide.{dec_lt}
use native.Mathlib.Omega.{arith}
use lib.ListN.{length, get_or, take, drop, replicate, length-append, length-drop, length-replicate, get_or-replicate, get_or-append, get_or-eq_default}
use lib.Seq.{length-take-le, get_or-append-add, get_or-drop}
use Rattle.bits.proofs.Laws.{field_lt, field_below}
use Rattle.fields.specs.declared.Span.{Span}
use Rattle.fields.specs.Lists as lists
use Rattle.fields.specs.Lists.{list_of, nth}
use Rattle.fields.specs.Fields.{at, fields}
use Rattle.ticket.specs.Kind.{rest_of}
use Rattle.ticket.proofs.Latest.{end-most}
use Rattle.ticket.proofs.Listed.{expiry-in}
use Rattle.image.specs.Image.{shell_values, S, element, entry_at, sectors, mark, product}
use Rattle.image.specs.Obeys.{Obeys}
use Rattle.image.specs.Product.{product_at}
use Rattle.image.specs.Verdict.{verdict}
use Rattle.image.proofs.Accepted.{facts_bounds}
use Rattle.image.proofs.Exact.{accepted-exactly, obeys_facts}
use Rattle.reads.specs.Values.{directory_values, entry_values, kind_at, ticket_end, extent}
use Rattle.reads.specs.Asked.{or_zero}
use Rattle.reads.specs.Card.{read_shell, read_directory, read_table, elements}
use Rattle.reads.specs.Entry.{read_entry, read_chain}
use Rattle.reads.specs.Ticket.{ticket_refusal, read_ticket, buffer_after, fill_of, rest, rest_at}
use Rattle.reads.proofs.Counted.{length-counted, get_or-counted}
use Rattle.reads.proofs.Passed.{placed}

-- zeros after a list, in place of as many
zero-after : (l : List ℕ) (n i : ℕ) → length l ≤ i → get_or (l ++ drop (length l) (replicate n 0)) i 0 ≡ 0
zero-after l n i h =
    ap (λ (k : ℕ). get_or (l ++ drop (length l) (replicate n 0)) k 0) (omega arith)
    ∙ get_or-append-add l (drop (length l) (replicate n 0)) (i - length l) 0
    ∙ get_or-drop (length l) (replicate n 0) (i - length l) 0
    ∙ zeros (length l + (i - length l))
  where
    zeros : (k : ℕ) → ◌≡◌ {A = ℕ} (get_or (replicate n 0) k 0) 0
    zeros k = elim (dec_lt k n) [
      | yes h ↦ get_or-replicate {A = ℕ} n k 0 0 h
      | no h ↦ get_or-eq_default {A = ℕ} (replicate n 0) 0 {n = k} (omega (arith, length-replicate {A = ℕ} n 0))
    ]

-- ---- the whole card

module _ (c : List ℕ) (o : Obeys c) where
  accepted : (verdict c).number ≡ 0
  accepted = (accepted-exactly c).1 o

  pub shell_read : (read_shell c).values ≡ fields (drop 4 c) lists.shell
  unfolding read_shell shell_values
  shell_read = rw accepted

  pub directory_read : (read_directory c).values ≡ directory_values c
  unfolding read_directory
  directory_read = rw accepted

  elements-read : (read_table c).elements ≡ elements c ++ drop (length (elements c)) (replicate 252 0)
  unfolding read_table
  elements-read = rw accepted

  pub table-count : (read_table c).count ≡ S c - 3
  unfolding read_table
  table-count = rw accepted

  pub table-length : length (read_table c).elements ≡ 252
  table-length =
      let b = facts_bounds c (obeys_facts c o) in
      let l : List ℕ = elements c in
      let z : List ℕ = drop (length (elements c)) (replicate 252 0) in
      ap length elements-read
      ∙ omega (arith, length-append l z, length-counted (element c) 1 (S c - 3), length-drop (length l) (replicate {A = ℕ} 252 0), length-replicate {A = ℕ} 252 0)

  -- SCT(i), and zeros after them
  pub table-value : (i : ℕ) → i < S c - 3 → get_or (read_table c).elements i 0 ≡ element c (1 + i)
  table-value i h =
      ap (λ (l : List ℕ). get_or l i 0) elements-read
      ∙ get_or-append (elements c) (drop (length (elements c)) (replicate 252 0)) 0 i (omega (arith, length-counted (element c) 1 (S c - 3)))
      ∙ get_or-counted (element c) 1 (S c - 3) i h

  pub table-after : (i : ℕ) → S c - 3 ≤ i → get_or (read_table c).elements i 0 ≡ 0
  table-after i h = ap (λ (l : List ℕ). get_or l i 0) elements-read ∙ zero-after (elements c) 252 i (omega (arith, length-counted (element c) 1 (S c - 3)))

-- ---- an entry, and its chain

module _ (c : List ℕ) (j : ℕ) where
  pub entry_read : (read_entry c j).number ≡ 0 → (read_entry c j).values ≡ entry_values c j
  unfolding read_entry
  entry_read z = rw z

  pub chain_read : (read_chain c j).number ≡ 0 → ((read_chain c j).mark ≡ mark c j) × ((read_chain c j).count ≡ length (sectors c j))
      × ((read_chain c j).sectors ≡ sectors c j ++ drop (length (sectors c j)) (replicate 252 0))
  unfolding read_chain
  chain_read z = rw z (refl, refl, refl)

-- ---- a ticket

module _ (c : List ℕ) (j room : ℕ) where
  pub ticket_read : (read_ticket c j room).number ≡ 0
      → ((read_ticket c j room).typ ≡ (product_at c j).typ) × ((read_ticket c j room).header ≡ fields (product c j) lists.head)
      × ((read_ticket c j room).values ≡ fields (product c j) (list_of (kind_at c j).layout))
      × ((read_ticket c j room).end ≡ ticket_end c j) × ((read_ticket c j room).mark ≡ mark c j) × ((read_ticket c j room).sectors ≡ length (sectors c j))
  unfolding read_ticket
  ticket_read z = rw z (refl, refl, refl, refl, refl, refl)

  pub fill_read : (fill_of c j room).number ≡ 0 → ((fill_of c j room).from ≡ rest_of (kind_at c j).layout) × ((fill_of c j room).end ≡ extent c j)
  unfolding fill_of
  fill_read z = rw z (refl, refl)

  pub rest_read : (read_ticket c j room).number ≡ 0
      → (rest c j room ≡ take (extent c j - rest_of (kind_at c j).layout) (drop (rest_of (kind_at c j).layout) (product c j)))
      × (rest_at c j room ≡ rest_of (kind_at c j).layout)
  unfolding read_ticket rest rest_at
  rest_read z = rw z (refl, refl)

  -- the dataset reaches over the fixed fields, and stands in the product
  pub rest-within : (read_ticket c j room).number ≡ 0 → (rest_of (kind_at c j).layout ≤ extent c j) × (extent c j ≤ length (product c j))
  unfolding read_ticket
  rest-within z = let p = placed c j room z in (p.before, p.inside)

  pub rest-length : (read_ticket c j room).number ≡ 0 → length (rest c j room) ≡ extent c j - rest_of (kind_at c j).layout
  rest-length z =
      let w = rest-within z in
      let k = rest_of (kind_at c j).layout in
      ap length (rest_read z).0 ∙ length-take-le (extent c j - k) (drop k (product c j)) (omega (arith, length-drop k (product c j)))

  -- EXP has 14 bits, and ExpiryTime 11 in every kind
  pub end_read : (read_ticket c j room).end ≤ 23595007
  unfolding read_ticket
  end_read = go (ticket_refusal c j room).number refl
    where
      below : (l : List ℕ) (p : Span) → p.1 ≡ 11 → at l p < 2048
      below l p e = field_below l p.0 p.1 11 (omega arith)

      go : (n : ℕ) → (ticket_refusal c j room).number ≡ n → or_zero n (ticket_end c j) ≤ 23595007
      go zero z =
          let e = expiry-in (product_at c j).typ (product_at c j).revision (placed c j room z).is_listed in
          end-most (at (drop (entry_at c j) c) (nth lists.entry 6)) (at (product c j) (nth (list_of (kind_at c j).layout) ((kind_at c j).expiry - 1)))
          (field_lt (drop (entry_at c j) c) 26 14) (below (product c j) _ e.2)
      go (suc n) z = omega arith

pub buffer-read : (c : List ℕ) (j : ℕ) (b : List ℕ) → (read_ticket c j (length b)).number ≡ 0 → buffer_after c j b ≡ product c j ++ drop (length (product c j)) b
unfolding read_ticket buffer_after
buffer-read c j b z = rw z
