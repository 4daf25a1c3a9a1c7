-- The two calls that read a ticket: what each answers where the checks take the read and where they refuse it, and that they agree.
-- Assumes nothing.
use mathlib.Core.Path.{◌≡◌, sym, ap, ◌∙◌}
use mathlib.Core.List.{List, [], ◌∷◌}
use Prim.Native.Nat.{ℕ, ◌+◌, ◌-◌, ◌*◌, ◌^◌, ◌≤◌, ◌<◌}
use native.Mathlib.Omega.{arith}
use lib.ListN.{length, take, drop, length-append, length-drop, get_or-append}
use lib.Seq.{drop-append-le, take-append-le}
use Rattle.bits.proofs.Laws.{field_below}
use Rattle.rules.proofs.AnswerLaws.{refused-stays}
use Rattle.fields.specs.Fields.{fields, value_at}
use Rattle.fields.specs.Lists.{list_of, bit_after}
use Rattle.fields.specs.Padded.{held}
use Rattle.fields.specs.declared.Layout.{Layout}
use Rattle.fields.specs.declared.Layout.TheVariants.{Header}
use Rattle.fields.proofs.Laws.{length_fields, get_or-fields}
use Rattle.ticket.specs.Kind.{row_of, count_of, rest_of}
use Rattle.ticket.specs.Memory.{timed_by}
use Rattle.ticket.specs.declared.kinds.Fields.{Fields}
use Rattle.ticket.proofs.Listed.{row_facts, kind_facts, row_is}
use Rattle.image.specs.Image.{mark, sectors, product}
use Rattle.image.specs.Product.{product_at}
use Rattle.image.specs.Shape.{Shaped, sector_place}
use Rattle.image.specs.declared.Shape.{Shape}
use Rattle.reads.specs.Ticket.{ticket_refusal, read_ticket, held_ticket, buffer_after, fill_of, rest, rest_at}
use Rattle.reads.specs.Values.{kind_at, ticket_end, extent}
use Rattle.readticket.specs.Checks.{told_of}
use Rattle.readticket.specs.declared.checks.Sound.{Sound}
use Rattle.reads.specs.declared.Filled.{Filled}
use Rattle.reads.proofs.Given.{value-refused, values-refused}
use Rattle.reads.proofs.Known.{Barred}
use Rattle.reads.proofs.Passed.{passed}
use Rattle.image.proofs.Shapes.{sector-is}
use Rattle.image.proofs.Places.{from_is, from-length, sector-in, own-sector, fields-first}
use Rattle.readticket.proofs.Taken.{Taking}

abbrev filled : ℕ → ℕ → ℕ → ℕ → Filled
filled n e s x = record { number = n; entry = e; from = s; end = x }

module _ (c : List ℕ) (j room : ℕ) where
  -- taken
  module _ {f : Sound} (k : Taking c j room f) where
    -- the product's first thirty-two bytes lie within the image
    pub start-within : {g : Shape} → Shaped c g → (j ≤ 255) × (g.size ≤ 255) × (sector_place g j + 32 ≤ length c)
    start-within q =
        let b = q.in_bounds in
        let u = own-sector k.known.there in
        (omega (arith, u.high), omega (arith, q.size_is), omega (arith, sector-in q j u, q.size_is))

    -- and its fields are those that start there
    pub start-fields : {g : Shape} → Shaped c g → (t : Layout) → bit_after t ≤ 256
        → fields (take (length c - sector_place g j) (drop (sector_place g j) c)) (list_of t) ≡ fields (product c j) (list_of t)
    start-fields {g} q t h = rw (from_is c (sector_place g j), sector-is q j) (fields-first k.known.there t h)

    pub day-below : f.stated.day < 2 ^ 14
    day-below = rw k.stated-is (field_below _ 26 14 14 (omega arith))

    pub blocks-below : f.stated.blocks < 2 ^ 6
    blocks-below = rw k.stated-is (field_below _ 0 6 6 (omega arith))

    -- what is read of the product
    abbrev ours : Fields
    ours = timed_by (row_of f.kind) (held (fields (product c j) (list_of (row_of f.kind).layout)))

    time-is : ours.time ≡ value_at (row_of f.kind).layout ((row_of f.kind).expiry - 1) (product c j)
    time-is =
        let ps = list_of (row_of f.kind).layout in
        let i : ℕ = (row_of f.kind).expiry - 1 in
        let r = row_is f.kind in
        let a : i < count_of (row_of f.kind).layout = omega (arith, r.expiry_from, r.expiry_to) in
        let l : i < length (fields (product c j) ps) = rw (length_fields (product c j) ps) a in
        get_or-append (fields (product c j) ps) _ 0 i l ∙ get_or-fields (product c j) ps i a

    time-below : ours.time < 2 ^ 11
    time-below = rw time-is (field_below _ _ _ 11 (omega (arith, (row_is f.kind).expiry_width)))

    -- the header that the checks have read
    header_is : (f.stated.blocks ∷ f.stated.map ∷ f.stated.revision ∷ []) ≡ fields (product c j) (list_of Header)
    unfolding fields
    header_is = rw k.stated-is

    read_taken : told_of f ours ≡ held_ticket (read_ticket c j room)
    unfolding read_ticket product_at
    read_taken = rw (header_is, time-is, k.number_zero, k.entry_zero, k.form-is, k.stated-is, k.sectors-is, k.mark-is)

    -- ---- of the part of the image that starts where its first sector does

    module _ {g : Shape} (q : Shaped c g) {a : ℕ} (u : a ≡ sector_place g j) where
      pub first-room : bit_after (row_of f.kind).layout ≤ 8 * length (take (length c - a) (drop a c))
      first-room = simp from-length (omega (arith, u, start-within q, (row_facts f.kind).ends))

      module _ {v : Fields} (p : v ≡ timed_by (row_of f.kind) (held (fields (take (length c - a) (drop a c)) (list_of (row_of f.kind).layout)))) where
        fields-are : v ≡ ours
        fields-are =
            p
            ∙ ap (λ (vs : List ℕ). timed_by (row_of f.kind) (held vs))
            (ap (λ (a : ℕ). fields (take (length c - a) (drop a c)) (list_of (row_of f.kind).layout)) u
            ∙ start-fields q (row_of f.kind).layout (omega (arith, (row_facts f.kind).ends)))

        -- what is asked where the answer is made
        pub told-asks : (f.stated.day < 2 ^ 32) × (v.time < 2 ^ 32)
        told-asks = let b = time-below in let d = day-below in (omega (arith, d), rw fields-are (omega (arith, b)))

        pub told-read : told_of f v ≡ held_ticket (read_ticket c j room)
        told-read = rw fields-are read_taken

    pub fill-taken : {s x : ℕ} → s ≡ rest_of (row_of f.kind).layout → x ≡ 4 * f.stated.blocks → filled 0 0 s x ≡ fill_of c j room
    unfolding fill_of product_at
    fill-taken p q = rw (p, q, k.number_zero, k.entry_zero, k.form-is, k.stated-is)

  -- refused
  module _ {n e : ℕ} (s : Barred (ticket_refusal c j room) n e) where
    pub read-refused : record { number = n; entry = e; typ = 0; header = 0 ∷ 0 ∷ 0 ∷ []; values = held []; end = 0; mark = 0; sectors = 0 } ≡ held_ticket (read_ticket c j room)
    unfolding read_ticket
    read-refused =
        rw (s.number_is, s.entry-is, value-refused n (product_at c j).typ s.some, values-refused n 3 (fields (product c j) (list_of Header)) s.some, refused-stays n _ _ s.some, value-refused n (ticket_end c j) s.some, value-refused n (mark c j) s.some, value-refused n (length (sectors c j)) s.some)

    pub fill-refused : filled n e 0 0 ≡ fill_of c j room
    unfolding fill_of
    fill-refused = rw (s.number_is, s.entry-is, value-refused n (rest_of (kind_at c j).layout) s.some, value-refused n (extent c j) s.some)

-- ---- the part of the second call

-- what is known where `fill` has given the first byte s of the rest and the end x
pub record Ending (c : List ℕ) (j room s x : ℕ) : Type 0 where
  pub number_zero : (ticket_refusal c j room).number ≡ 0
  pub start_is : s ≡ rest_of (kind_at c j).layout
  pub extent_is : x ≡ extent c j
  pub ordered : s ≤ x
  pub in_product : x ≤ length (product c j)
  pub in_room : length (product c j) ≤ room

module _ (c : List ℕ) (j room : ℕ) where
  pub fill-ends : {d : Filled} → d ≡ fill_of c j room → d.number ≡ 0 → Ending c j room d.from d.end
  unfolding fill_of product_at
  fill-ends {d} q y =
      let z : (ticket_refusal c j room).number ≡ 0 = sym (ap (λ (f : Filled). f.number) q) ∙ y in
      let k = (passed c j room z).rules_kept in
      let s : d.from ≡ rest_of (kind_at c j).layout = ap (λ (f : Filled). f.from) q ∙ rw z in
      let e : d.end ≡ extent c j = ap (λ (f : Filled). f.end) q ∙ rw z in
      let l = (kind_facts (product_at c j).typ (product_at c j).revision).least_room in
      record { number_zero = z; start_is = s; extent_is = e; ordered = rw (s, e) (omega (arith, l, k.1.1.0)); in_product = rw e k.1.1.1.0; in_room = k.0 }

  pub fill-barred : {d : Filled} → d ≡ fill_of c j room → (d.number ≡ 0 → ⊥) → Barred (ticket_refusal c j room) d.number d.entry
  unfolding fill_of
  fill-barred q h = record { number_is = sym (ap (λ (f : Filled). f.number) q); entry-is = sym (ap (λ (f : Filled). f.entry) q); some = h }

  module _ {n e : ℕ} (s : Barred (ticket_refusal c j room) n e) where
    pub rest-none : rest c j room ≡ []
    unfolding rest
    rest-none = rw s.number_is (refused-stays n _ _ s.some)

    pub rest-nowhere : rest_at c j room ≡ 0
    unfolding rest_at
    rest-nowhere = rw s.number_is (value-refused n (rest_of (kind_at c j).layout) s.some)

  pub rest_from : {s x : ℕ} → Ending c j room s x → rest_at c j room ≡ s
  unfolding rest_at
  rest_from k = rw k.number_zero (sym k.start_is)

-- the buffer keeps its length
pub after-length : (c : List ℕ) (j : ℕ) (b : List ℕ) {s x : ℕ} → Ending c j (length b) s x → length (buffer_after c j b) ≡ length b
unfolding buffer_after
after-length c j b k =
    rw (k.number_zero, length-append (product c j) (drop (length (product c j)) b), length-drop (length (product c j)) b) (omega (arith, k.in_room))

-- the part of the filled buffer from there on is the rest of the dataset
pub rest_part : (c : List ℕ) (j : ℕ) (b : List ℕ) {s x : ℕ} → Ending c j (length b) s x → take (x - s) (drop s (buffer_after c j b)) ≡ rest c j (length b)
unfolding buffer_after rest
rest_part c j b {s} {x} k =
    let l : x - s ≤ length (drop s (product c j)) = simp length-drop (omega (arith, k.in_product)) in
    rw (k.number_zero, ← k.extent_is, ← k.start_is, drop-append-le s (product c j) (drop (length (product c j)) b) (omega (arith, k.ordered, k.in_product)))
    (take-append-le (x - s) (drop s (product c j)) _ l)
