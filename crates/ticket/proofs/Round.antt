-- A record that fits is decoded as it was, and any bytes are encoded as they were: the law of lists that meet end to end, at a kind's list, with two bytes
-- before it. What is refused, and by which number, is what the rules say. Assumes nothing.
use mathlib.Core.Path.{◌≡◌, refl, sym, ap, ap₂, ◌∙◌}
use mathlib.Core.Logic.{◌↔◌, ◌≢◌, ◌⊎◌, inl, inr}
use mathlib.Core.List.{List, [], ◌∷◌, ◌++◌}
use Prim.Native.Nat.{ℕ, zero, suc, ◌+◌, ◌-◌, ◌*◌, ◌≤◌, ◌<◌}
use native.Mathlib.Nat.{not-suc-le-zero}
use native.Mathlib.Omega.{arith}
use lib.Dec.{T}
use lib.ListN.{length, get_or, take, drop, replicate, length-drop, length-replicate, get_or-replicate, replicate-append-replicate}
use lib.Seq.{drop-append-le}
use Rattle.bits.specs.Bits.{Bytes, bit}
use Rattle.bits.proofs.Laws.{bit_past, field-byte, bit-append-left, bytes-append}
use Rattle.bits.proofs.Zeros.{bytes_zeros, bit_zeros}
use Rattle.rules.specs.Answer.{if_done}
use Rattle.rules.specs.Claim.{Means, rule, Kept, Answers}
use Rattle.rules.specs.First.{first}
use Rattle.rules.proofs.AnswerLaws.{refused-stays}
use Rattle.rules.proofs.ClaimLaws.{Numbered}
use Rattle.rules.proofs.First.{kept-of-first, first-of-kept, answers-exactly}
use Rattle.fields.specs.declared.Layout.{Layout}
use Rattle.fields.specs.Ends.{end_to_end}
use Rattle.fields.specs.Lists.{list_of, bit_after}
use Rattle.fields.specs.Fields.{fields, stores, fit, fit_rules}
use Rattle.fields.specs.Packed.{pack_number, packed, pack_in}
use Rattle.fields.proofs.Joined.{lists-joined}
use Rattle.fields.proofs.Laws.{fields-stores, stores_onto, field-before, fit-fields, length-stores, bytes-stores}
use Rattle.fields.proofs.Only.{joined-inside}
use Rattle.fields.proofs.Parts.{stores-left}
use Rattle.fields.proofs.Same.{fields-same}
use Rattle.fields.proofs.Whole.{taken-fit}
use Rattle.ticket.specs.declared.Record.{Record}
use Rattle.ticket.specs.declared.Encoded.{Encoded}
use Rattle.ticket.specs.declared.Decoded.{Decoded}
use Rattle.ticket.specs.declared.kinds.Kind.{Kind}
use Rattle.std.specs.Prelude.{Option, Some, None}
use Rattle.ticket.specs.Kind.{row_of, form_in, row_by, kind_of, count_of, rest_of, listed}
use Rattle.ticket.specs.Ticket.{layout_of, record_rules, record_of, encoded, encode_number, encode_of, record_in, decode_number, decoded_by, decode_of}
use Rattle.ticket.specs.Memory.{own, held_encoded, held_decoded}
use Rattle.fields.specs.Padded.{held}
use Rattle.ticket.proofs.Listed.{Facts, row_facts, kind_facts}
use Rattle.ticket.proofs.Steps.{listed-first}

-- ---- the bytes of a list with two bytes before it

front : (l : List ℕ) → 2 ≤ length l → get_or l 0 0 ≡ 0 → get_or l 1 0 ≡ 0 → 0 ∷ 0 ∷ drop 2 l ≡ l
front [] h p q = absurd (not-suc-le-zero h)
front (x ∷ []) h p q = absurd (omega arith)
front (x ∷ y ∷ l) h p q = rw (p, q)

module _ (k : Layout) (f : Facts k) where
  joined : T (end_to_end 16 (list_of k) (bit_after k))
  joined = rw (← f.starts) (lists-joined k)

  -- a ticket of the list k with these values, zeros else
  abbrev ticket_with : List ℕ → List ℕ
  ticket_with vs = stores (replicate (rest_of k) 0) (list_of k) vs

  length-with : (vs : List ℕ) → length (ticket_with vs) ≡ rest_of k
  length-with vs = length-stores (replicate (rest_of k) 0) (list_of k) vs ∙ length-replicate (rest_of k) 0

  byte-zero : (vs : List ℕ) (i : ℕ) → i < 2 → get_or (ticket_with vs) i 0 ≡ 0
  byte-zero vs i h =
      let z : List ℕ = replicate (rest_of k) 0 in
      sym (field-byte (ticket_with vs) i (bytes-stores z (list_of k) vs (bytes_zeros (rest_of k)) i))
      ∙ field-before 16 (list_of k) (bit_after k) joined z vs (8 * i) 8 (omega arith)
      ∙ field-byte z i (bytes_zeros (rest_of k) i)
      ∙ get_or-replicate (rest_of k) i 0 0 (omega arith)

  put_back : (vs : List ℕ) → 0 ∷ 0 ∷ drop 2 (ticket_with vs) ≡ ticket_with vs
  put_back vs = front (ticket_with vs) (omega (arith, length-with vs)) (byte-zero vs 0 (omega arith)) (byte-zero vs 1 (omega arith))

  length-bytes : (vs : List ℕ) → length (drop 2 (ticket_with vs)) ≡ rest_of k - 2
  length-bytes vs = length-drop 2 (ticket_with vs) ∙ ap (λ (n : ℕ). n - 2) (length-with vs)

  read_back : (vs : List ℕ) → Means (fit (list_of k) vs) → fields (0 ∷ 0 ∷ drop 2 (ticket_with vs)) (list_of k) ≡ vs
  read_back vs m =
      ap (λ (l : List ℕ). fields l (list_of k)) (put_back vs)
      ∙ fields-stores 16 (list_of k) (bit_after k) joined (replicate (rest_of k) 0) vs (omega (arith, length-replicate {A = ℕ} (rest_of k) 0)) m

  outside : (b : List ℕ) → length b ≡ rest_of k - 2 → (i : ℕ) → (i < 16) ⊎ (bit_after k ≤ i) → bit (replicate (rest_of k) 0) i ≡ bit (0 ∷ 0 ∷ b) i
  outside b e i o = bit_zeros (rest_of k) i ∙ sym (zero-there o)
    where
      zero-there : (i < 16) ⊎ (bit_after k ≤ i) → bit (0 ∷ 0 ∷ b) i ≡ 0
      zero-there (inl h) = bit-append-left (0 ∷ 0 ∷ []) b i h ∙ bit_zeros 2 i
      zero-there (inr h) = bit_past (0 ∷ 0 ∷ b) i (omega arith)

  stored_back : (b : List ℕ) → Bytes b → length b ≡ rest_of k - 2 → ticket_with (fields (0 ∷ 0 ∷ b) (list_of k)) ≡ 0 ∷ 0 ∷ b
  stored_back b bytes e =
      stores_onto 16 (list_of k) (bit_after k) joined (replicate (rest_of k) 0) (0 ∷ 0 ∷ b) (bytes_zeros (rest_of k)) (bytes-append (0 ∷ 0 ∷ []) b (bytes_zeros 2) bytes)
      (length-replicate (rest_of k) 0 ∙ omega arith) (omega arith) (outside b e)

  -- the same in 29 bytes, the most that a kind has
  stored-longer : (vs : List ℕ) → drop 2 (stores (replicate 29 0) (list_of k) vs) ≡ drop 2 (ticket_with vs) ++ replicate (29 - rest_of k) 0
  stored-longer vs =
      let z : List ℕ = replicate (rest_of k) 0 in
      let n = length-replicate {A = ℕ} (rest_of k) 0 in
      let all : rest_of k + (29 - rest_of k) ≡ 29 = omega arith in
      ap (λ (l : List ℕ). drop 2 (stores l (list_of k) vs))
      (sym (replicate-append-replicate (rest_of k) (29 - rest_of k) 0 ∙ ap (λ (m : ℕ). replicate m 0) all))
      ∙ ap (drop 2) (sym (stores-left z (replicate (29 - rest_of k) 0) (list_of k) vs (bytes_zeros (29 - rest_of k))
      (joined-inside 16 (list_of k) (bit_after k) joined 0 (8 * length z) (omega arith) (omega arith))))
      ∙ drop-append-le 2 (ticket_with vs) (replicate (29 - rest_of k) 0) (omega (arith, length-with vs))

  in_memory : (vs : List ℕ) → record { number = 0; entry = 0; count = rest_of k - 2; bytes = drop 2 (stores (replicate 29 0) (list_of k) vs) } ≡ held_encoded (encoded 0 (drop 2 (ticket_with vs)))
  in_memory vs =
      let n = length-bytes vs in
      let m : 29 - rest_of k ≡ 27 - length (drop 2 (ticket_with vs)) = omega arith in
      ap₂ (λ (c : ℕ) (b : List ℕ). record { number = 0; entry = 0; count = c; bytes = b }) (sym n)
      (stored-longer vs ∙ ap (λ (z : ℕ). drop 2 (ticket_with vs) ++ replicate z 0) m)

-- ---- what an encoded record is

encode_numbered : (t : Record) → Numbered (record_rules t (fit_rules (layout_of t) t.values))
encode_numbered t = (omega arith, (omega arith, tt))

module _ (t : Record) where
  pub encode_exactly : (n e : ℕ) → (((encode_of t).number ≡ n) × ((encode_of t).entry ≡ e)) ↔ Answers (record_rules t (fit_rules (layout_of t) t.values)) n e
  unfolding encode_number
  encode_exactly = answers-exactly (record_rules t (fit_rules (layout_of t) t.values)) (encode_numbered t)

  pub refused_none : (encode_of t).number ≢ 0 → ((encode_of t).bytes ≡ []) × ((encode_of t).count ≡ 0)
  refused_none h =
      let e = refused-stays (encode_number t) (drop 2 (packed (layout_of t) (rest_of (layout_of t)) t.values)) [] h in
      (e, ap length e)

  kept : (encode_of t).number ≡ 0 → Means (listed (layout_of t)) × Means (fit (list_of (layout_of t)) t.values)
  unfolding encode_number
  kept z = let k = kept-of-first (record_rules t (fit_rules (layout_of t) t.values)) (encode_numbered t) z in (k.0, k.1.0)

  encode-taken : Kept (record_rules t (fit_rules (layout_of t) t.values)) → (encode_of t).number ≡ 0
  unfolding encode_number
  encode-taken k = first-of-kept (record_rules t (fit_rules (layout_of t) t.values)) (encode_numbered t) k

  pub taken-bytes : (encode_of t).number ≡ 0 → (encode_of t).bytes ≡ drop 2 (stores (replicate (rest_of (layout_of t)) 0) (list_of (layout_of t)) t.values)
  taken-bytes z = rw (z, taken-fit (layout_of t) t.values (kept z).1)

-- ---- both ways

decode_numbered : (t r : ℕ) → Numbered (rule 22 (listed (kind_of t r).layout) ∷ [])
decode_numbered t r = (omega arith, tt)

module _ (t r : ℕ) (b : List ℕ) where
  pub decode-exactly : (n e : ℕ) → (((decode_of t r b).number ≡ n) × ((decode_of t r b).entry ≡ e)) ↔ Answers (rule 22 (listed (kind_of t r).layout) ∷ []) n e
  unfolding decode_number
  decode-exactly = answers-exactly (rule 22 (listed (kind_of t r).layout) ∷ []) (decode_numbered t r)

  decode-taken : Means (listed (kind_of t r).layout) → (decode_of t r b).number ≡ 0
  unfolding decode_number
  decode-taken m = first-of-kept (rule 22 (listed (kind_of t r).layout) ∷ []) (decode_numbered t r) (m, tt)

  pub decoded-none : (decode_of t r b).number ≢ 0 → (decode_of t r b).next ≡ record_of 0 0 []
  decoded-none h = go (decode_number t r) h
    where
      go : (n : ℕ) → n ≢ 0 → decoded_by n (record_in t r (0 ∷ 0 ∷ b)) ≡ record_of 0 0 []
      go zero h = absurd (h refl)
      go (suc n) h = refl

  pub decoded-is : (decode_of t r b).number ≡ 0 → (decode_of t r b).next ≡ record_in t r (0 ∷ 0 ∷ b)
  decoded-is z = ap (λ (n : ℕ). decoded_by n (record_in t r (0 ∷ 0 ∷ b))) z

  -- bytes after the fields are not looked at
  pub decoded-front : (xs : List ℕ) → rest_of (kind_of t r).layout - 2 ≤ length b → decode_of t r (b ++ xs) ≡ decode_of t r b
  decoded-front xs h =
      let k = (kind_of t r).layout in
      let f = kind_facts t r in
      ap (λ (vs : List ℕ). record { number = decode_number t r; entry = 0; next = decoded_by (decode_number t r) (record_of t r vs) })
      (fields-same 16 (list_of k) (bit_after k) (joined k f) (0 ∷ 0 ∷ (b ++ xs)) (0 ∷ 0 ∷ b) (λ i x y. bit-append-left (0 ∷ 0 ∷ b) xs i (omega arith)))

pub decode-encode : (t : Record) → (encode_of t).number ≡ 0 → decode_of t.typ t.revision (encode_of t).bytes ≡ record { number = 0; entry = 0; next = t }
decode-encode t z =
    let k = kept t z in
    ap (λ (n : ℕ). record { number = n; entry = 0; next = decoded_by n (record_in t.typ t.revision (0 ∷ 0 ∷ (encode_of t).bytes)) })
    (decode-taken t.typ t.revision (encode_of t).bytes k.0)
    ∙ ap (λ (vs : List ℕ). record { number = 0; entry = 0; next = record_of t.typ t.revision vs })
    (ap (λ (b : List ℕ). fields (0 ∷ 0 ∷ b) (list_of (layout_of t))) (taken-bytes t z)
    ∙ read_back (layout_of t) (kind_facts t.typ t.revision) t.values k.1)

-- any bytes that are as many as the fields of a kind have
module _ (t r : ℕ) (b : List ℕ) (m : Means (listed (kind_of t r).layout)) (bytes : Bytes b) (e : length b ≡ rest_of (kind_of t r).layout - 2) where
  pub encode-read : encode_of (record_in t r (0 ∷ 0 ∷ b)) ≡ encoded 0 b
  encode-read =
      let d = record_in t r (0 ∷ 0 ∷ b) in
      let z = encode-taken d (m, (fit-fields (0 ∷ 0 ∷ b) (list_of (kind_of t r).layout), tt)) in
      ap₂ encoded z (taken-bytes d z ∙ ap (drop 2) (stored_back (kind_of t r).layout (kind_facts t r) b bytes e))

  pub encode-decode : encode_of (decode_of t r b).next ≡ encoded 0 b
  encode-decode = ap encode_of (decoded-is t r b (decode-taken t r b m)) ∙ encode-read

-- ---- in memory, by what the code finds

module _ (t : Record) where
  -- what encoding a record of the list k answers
  abbrev codes : Layout → ℕ → Encoded
  codes k n = held_encoded (encoded n (if_done n (drop 2 (packed k (rest_of k) (take (count_of k) t.values))) []))

  abbrev coded : Layout → Encoded
  coded k = codes k (first (rule 22 (listed k) ∷ fit_rules k (take (count_of k) t.values)))

  encode-by : {f : Option Kind} → form_in t.typ t.revision ≡ f → coded (row_by f).layout ≡ held_encoded (encode_of (own t))
  unfolding encode_number
  encode-by e = sym (ap (λ (f : Option Kind). coded (row_by f).layout) e)

  pub encode-other : form_in t.typ t.revision ≡ None → held_encoded (encoded 22 []) ≡ held_encoded (encode_of (own t))
  unfolding first
  encode-other e = encode-by e

  module _ {k : Kind} (form : form_in t.typ t.revision ≡ Some k) where
    abbrev mine : List ℕ
    mine = take (count_of (row_of k).layout) t.values

    encode-is : (n : ℕ) → n ≡ pack_number (row_of k).layout mine → codes (row_of k).layout n ≡ held_encoded (encode_of (own t))
    unfolding pack_number
    encode-is n e = ap (codes (row_of k).layout) (e ∙ sym (listed-first k (fit_rules (row_of k).layout mine))) ∙ encode-by form

    pub encode-refused : (n : ℕ) → n ≡ pack_number (row_of k).layout mine → n ≢ 0 → held_encoded (encoded n []) ≡ held_encoded (encode_of (own t))
    encode-refused zero e h = absurd (h refl)
    encode-refused (suc n) e h = encode-is (suc n) e

    -- the number n is 0, and a is what was packed in 29 zeros
    pub encode-done : {n r : ℕ} {a b : List ℕ} → n ≡ pack_number (row_of k).layout mine → n ≡ 0 → a ≡ pack_in (row_of k).layout mine (replicate 29 0) → b ≡ drop 2 a
        → r ≡ rest_of (row_of k).layout → record { number = 0; entry = 0; count = r - 2; bytes = b } ≡ held_encoded (encode_of (own t))
    encode-done {n} {r} {a} {b} e z p q s =
        let l = (row_of k).layout in
        let o : pack_number l mine ≡ 0 = sym e ∙ z in
        ap₂ (λ (x : ℕ) (y : List ℕ). record { number = 0; entry = 0; count = x - 2; bytes = y }) s
        (q ∙ ap (drop 2) (p ∙ ap (λ (x : ℕ). if_done x (stores (replicate 29 0) (list_of l) mine) (replicate 29 0)) o))
        ∙ in_memory l (row_facts k) mine
        ∙ ap (λ (x : ℕ). held_encoded (encoded 0 (drop 2 (if_done x (stores (replicate (rest_of l) 0) (list_of l) mine) (replicate (rest_of l) 0))))) (sym o)
        ∙ encode-is 0 (sym o)

module _ (t r : ℕ) (b : List ℕ) where
  -- what decoding by the list k answers
  abbrev decodes_as : Layout → ℕ → Decoded
  decodes_as k n = held_decoded (record { number = n; entry = 0; next = decoded_by n (record_of t r (fields (0 ∷ 0 ∷ b) (list_of k))) })

  abbrev decodes : Layout → Decoded
  decodes k = decodes_as k (first (rule 22 (listed k) ∷ []))

  decode-by : {f : Option Kind} → form_in t r ≡ f → decodes (row_by f).layout ≡ held_decoded (decode_of t r b)
  unfolding decode_number
  decode-by e = sym (ap (λ (f : Option Kind). decodes (row_by f).layout) e)

  pub decode-other : form_in t r ≡ None → record { number = 22; entry = 0; next = record_of 0 0 (replicate 25 0) } ≡ held_decoded (decode_of t r b)
  unfolding first fields
  decode-other e = decode-by e

  -- the values read of the bytes a, with zeros after them
  pub decode-done : {k : Kind} {a vs : List ℕ} → form_in t r ≡ Some k → vs ≡ held (fields a (list_of (row_of k).layout)) → a ≡ 0 ∷ 0 ∷ b
      → record { number = 0; entry = 0; next = record_of t r vs } ≡ held_decoded (decode_of t r b)
  unfolding first
  decode-done {k} form p q =
      ap (λ (xs : List ℕ). record { number = 0; entry = 0; next = record_of t r xs })
      (p ∙ ap (λ (x : List ℕ). held (fields x (list_of (row_of k).layout))) q)
      ∙ ap (decodes_as (row_of k).layout) (sym (listed-first k []))
      ∙ decode-by form
