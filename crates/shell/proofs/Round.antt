-- What is encoded is decoded, and what is decoded is encoded where the padding is zero and SECR right: the dataset is the values stored
-- into zeros, with the checksum after them. Assumes nothing.
use mathlib.Core.Path.{◌≡◌, sym, ap, ◌∙◌}
use mathlib.Core.Logic.{◌↔◌, inr, ⊎_elim}
use mathlib.Core.List.{List, [], ◌∷◌, ◌++◌}
use Prim.Native.Nat.{ℕ, ◌+◌, ◌-◌, ◌*◌, ◌/◌, ◌%◌, ◌≤◌, ◌<◌}
use native.Mathlib.Omega.{arith}
use lib.ListN.{length, get_or, take, drop, replicate, length-append, length-take, length-drop, length-replicate, take-append-drop}
use lib.Seq.{take_at, length-take-le, get_or-drop, get_or-append-add}
use Rattle.bits.specs.Bits.{Bytes, bit, field}
use Rattle.bits.proofs.Laws.{bit-part, bit-append-left, field_next, field-zero, bytes_take, bit_past, lt-or-le}
use Rattle.bits.proofs.Zeros.{bytes_zeros, bit_zeros, field_of_zeros, zeros_of-field}
use Rattle.crc.specs.Crc.{crc}
use Rattle.fields.specs.Fields.{fields, stores}
use Rattle.fields.specs.Lists as lists
use Rattle.fields.specs.declared.Layout.TheVariants as layout
use Rattle.fields.proofs.Joined.{lists-joined}
use Rattle.fields.proofs.Laws.{fields-stores, stores_onto, bit-stores_out}
use Rattle.fields.proofs.Same.{fields-same, fields_front}
use Rattle.rules.specs.Claim.{Kept, Answers}
use Rattle.rules.proofs.First.{kept-of-first, taken-exactly, answers-exactly}
use Rattle.shell.specs.declared.Shell.{Shell}
use Rattle.shell.specs.Shell.{values_in, dataset_of, padding, SECR, before_SECR, encode_rules, body_of, secr_bytes, encoded_shell}
use Rattle.shell.specs.Encode.{decode_of, encode_number, encode_in}
use Rattle.shell.proofs.Rules.{numbered, taken}
use Rattle.shell.proofs.Dataset.{length_body, crc_small}

-- ---- exactly, in order, and one answer

-- taken exactly where every rule is kept; refused with a number exactly where a rule of that number is the first that is not, with entry 0
pub encode-taken : (vs : List ℕ) (room : ℕ) → (encode_number vs room ≡ 0) ↔ Kept (encode_rules vs room)
unfolding encode_number
encode-taken vs room = taken-exactly (encode_rules vs room) (numbered vs room)

pub encode_exactly : (vs : List ℕ) (room n e : ℕ) → ((encode_number vs room ≡ n) × (0 ≡ e)) ↔ Answers (encode_rules vs room) n e
unfolding encode_number
encode_exactly vs room = answers-exactly (encode_rules vs room) (numbered vs room)

-- ---- the dataset

bit_body : (vs : List ℕ) (i : ℕ) → 160 ≤ i → bit (body_of vs) i ≡ 0
unfolding body_of
bit_body vs i h =
    bit-stores_out 0 lists.shell 160 (lists-joined layout.Shell) (replicate (dataset_of vs - 2) 0) vs i (inr h) ∙ bit_zeros (dataset_of vs - 2) i

pub length-dataset : (vs : List ℕ) → 22 ≤ dataset_of vs → length (encoded_shell vs) ≡ dataset_of vs
unfolding encoded_shell
length-dataset vs h = omega (arith, length-append (body_of vs) (secr_bytes (crc (body_of vs))), length_body vs)

front-dataset : (vs : List ℕ) → take (dataset_of vs - 2) (encoded_shell vs) ≡ body_of vs
unfolding encoded_shell
front-dataset vs = take_at (body_of vs) (secr_bytes (crc (body_of vs))) (dataset_of vs - 2) (length_body vs)

bit-dataset : (vs : List ℕ) (i : ℕ) → i < 8 * (dataset_of vs - 2) → bit (encoded_shell vs) i ≡ bit (body_of vs) i
unfolding encoded_shell
bit-dataset vs i h = bit-append-left (body_of vs) (secr_bytes (crc (body_of vs))) i (omega (arith, length_body vs))

last_byte : (vs : List ℕ) (k : ℕ) → get_or (encoded_shell vs) (dataset_of vs - 2 + k) 0 ≡ get_or (secr_bytes (crc (body_of vs))) k 0
unfolding encoded_shell
last_byte vs k =
    rw (← length_body vs) (get_or-append-add (body_of vs) (secr_bytes (crc (body_of vs))) k 0)

made : (vs : List ℕ) {b : List ℕ} → body_of vs ≡ b → encoded_shell vs ≡ b ++ secr_bytes (crc b)
unfolding encoded_shell
made vs e = rw e

-- two bytes are one number, the first the high one
two_bytes : (l : List ℕ) (a : ℕ) → get_or l (a + 0) 0 < 256 → get_or l (a + 1) 0 < 256
    → field l (8 * a) 16 ≡ get_or l (a + 0) 0 * 256 + get_or l (a + 1) 0
two_bytes l a h k =
    let e = field_next l a 1 k in
    let f = field_next l a 0 h in
    let z = field-zero l (8 * a) in
    omega arith

module _ (vs : List ℕ) (room : ℕ) (k : encode_number vs room ≡ 0) where
  -- what was encoded has zero padding and a right SECR
  pub padding-zero : padding (encoded_shell vs) (dataset_of vs) ≡ 0
  padding-zero =
      let t = taken vs room k in
      field_of_zeros (encoded_shell vs) 160 (8 * (dataset_of vs - 22))
      (λ j h. bit-dataset vs (160 + j) (omega arith) ∙ bit_body vs (160 + j) (omega arith))

  pub secr-right : SECR (encoded_shell vs) (dataset_of vs) ≡ crc (before_SECR (encoded_shell vs) (dataset_of vs))
  secr-right =
      let b = crc_small (body_of vs) in
      let p = last_byte vs 0 in
      let q = last_byte vs 1 in
      rw (front-dataset vs) (two_bytes (encoded_shell vs) (dataset_of vs - 2) (omega arith) (omega arith) ∙ omega arith)

  values-body : fields (body_of vs) lists.shell ≡ vs
  unfolding body_of encode_number
  values-body =
      let t = taken vs room k in
      fields-stores 0 lists.shell 160 (lists-joined layout.Shell) (replicate (dataset_of vs - 2) 0) vs
      (omega (arith, length-replicate {A = ℕ} (dataset_of vs - 2) 0))
      (kept-of-first (encode_rules vs room) (numbered vs room) k).0

  values-dataset : values_in (encoded_shell vs) ≡ vs
  values-dataset =
      let t = taken vs room k in
      fields-same 0 lists.shell 160 (lists-joined layout.Shell) (encoded_shell vs) (body_of vs) (λ i x y. bit-dataset vs i (omega arith)) ∙ values-body

module _ (vs l : List ℕ) (k : encode_number vs (length l) ≡ 0) where
  -- the buffer holds the dataset, and later bytes stay
  pub encoded : encode_in vs l ≡ encoded_shell vs ++ drop (dataset_of vs) l
  encoded = rw k

  -- decoding what was encoded gives the values back
  pub decode-encode : decode_of (take 20 (encode_in vs l)) ≡ record { values = vs }
  decode-encode =
      let t = taken vs (length l) k in
      let e = length-dataset vs t.enough in
      shell-of
      (fields_front 0 lists.shell 160 (lists-joined layout.Shell) (encode_in vs l) 20 (omega arith)
      ∙ ap (λ (m : List ℕ). fields m lists.shell) encoded
      ∙ fields-same 0 lists.shell 160 (lists-joined layout.Shell) (encoded_shell vs ++ drop (dataset_of vs) l) (encoded_shell vs)
      (λ i x y. bit-append-left (encoded_shell vs) (drop (dataset_of vs) l) i (omega arith))
      ∙ values-dataset vs (length l) k)
    where
      shell-of : {a : List ℕ} → a ≡ vs → ◌≡◌ {A = Shell} (record { values = a }) (record { values = vs })
      shell-of e = rw e

-- ---- back: the bytes d of a dataset, whose values the encoder takes

module _ (d : List ℕ) (bytes : Bytes d) (room : ℕ) (k : encode_number (values_in d) room ≡ 0) (n : length d ≡ dataset_of (values_in d)) where
  front-is : padding d (dataset_of (values_in d)) ≡ 0 → body_of (values_in d) ≡ take (dataset_of (values_in d) - 2) d
  unfolding body_of
  front-is z =
      let t = taken (values_in d) room k in
      let m : ℕ = dataset_of (values_in d) - 2 in
      let e : length (take m d) ≡ m = length-take-le m d (omega arith) in
      let f : fields (take m d) lists.shell ≡ values_in d = fields_front 0 lists.shell 160 (lists-joined layout.Shell) d m (omega arith) in
      ap (stores (replicate m 0) lists.shell) (sym f)
      ∙ stores_onto 0 lists.shell 160 (lists-joined layout.Shell) (replicate m 0) (take m d) (bytes_zeros m) (bytes_take m d bytes)
      (length-replicate {A = ℕ} m 0 ∙ sym e) (omega arith)
      (λ i o. bit_zeros m i ∙ sym (pad i (⊎_elim (λ h. absurd (omega arith)) (λ h. h) o)))
    where
      pad : (i : ℕ) → 160 ≤ i → bit (take (dataset_of (values_in d) - 2) d) i ≡ 0
      pad i h = ⊎_elim inside past (lt-or-le i (8 * (dataset_of (values_in d) - 2)))
        where
          inside : i < 8 * (dataset_of (values_in d) - 2) → bit (take (dataset_of (values_in d) - 2) d) i ≡ 0
          inside l =
              bit-part d 0 (dataset_of (values_in d) - 2) i l ∙ ap (bit d) (omega arith)
              ∙ zeros_of-field d 160 (8 * (dataset_of (values_in d) - 22)) z (i - 160) (omega arith)

          past : 8 * (dataset_of (values_in d) - 2) ≤ i → bit (take (dataset_of (values_in d) - 2) d) i ≡ 0
          past l = bit_past (take (dataset_of (values_in d) - 2) d) i (omega (arith, length-take (dataset_of (values_in d) - 2) d))

  last-is : SECR d (dataset_of (values_in d)) ≡ crc (before_SECR d (dataset_of (values_in d)))
      → drop (dataset_of (values_in d) - 2) d ≡ secr_bytes (crc (before_SECR d (dataset_of (values_in d))))
  last-is s =
      let t = taken (values_in d) room k in
      let m : ℕ = dataset_of (values_in d) - 2 in
      let x : ℕ = crc (before_SECR d (dataset_of (values_in d))) in
      two-of (drop m d) x (omega (arith, length-drop m d))
      (get_or-drop m d 0 0 ∙ omega (arith, two_bytes d m (bytes (m + 0)) (bytes (m + 1)), bytes (m + 0), bytes (m + 1)))
      (get_or-drop m d 1 0 ∙ omega (arith, two_bytes d m (bytes (m + 0)) (bytes (m + 1)), bytes (m + 0), bytes (m + 1)))
    where
      two-of : (r : List ℕ) (x : ℕ) → length r ≡ 2 → get_or r 0 0 ≡ x / 256 → get_or r 1 0 ≡ x % 256 → r ≡ secr_bytes x
      two-of [] x e p q = absurd (omega arith)
      two-of (a ∷ []) x e p q = absurd (omega arith)
      two-of (a ∷ b ∷ (c ∷ cs)) x e p q = absurd (omega arith)
      two-of (a ∷ b ∷ []) x e p q = rw (p, q)

  -- encoding what was decoded gives the bytes back exactly where the padding is zero and SECR right
  pub encode-decode : (encoded_shell (values_in d) ≡ d)
      ↔ ((padding d (dataset_of (values_in d)) ≡ 0) × (SECR d (dataset_of (values_in d)) ≡ crc (before_SECR d (dataset_of (values_in d)))))
  encode-decode = (there, back)
    where
      there : encoded_shell (values_in d) ≡ d → (padding d (dataset_of (values_in d)) ≡ 0) × (SECR d (dataset_of (values_in d)) ≡ crc (before_SECR d (dataset_of (values_in d))))
      there e = (
        ap (λ (l : List ℕ). padding l (dataset_of (values_in d))) (sym e) ∙ padding-zero (values_in d) room k,
        ap (λ (l : List ℕ). SECR l (dataset_of (values_in d))) (sym e) ∙ secr-right (values_in d) room k
            ∙ ap (λ (l : List ℕ). crc (before_SECR l (dataset_of (values_in d)))) e,
      )

      back : (padding d (dataset_of (values_in d)) ≡ 0) × (SECR d (dataset_of (values_in d)) ≡ crc (before_SECR d (dataset_of (values_in d)))) → encoded_shell (values_in d) ≡ d
      back p =
          made (values_in d) (front-is p.0) ∙ ap (λ (z : List ℕ). take (dataset_of (values_in d) - 2) d ++ z) (sym (last-is p.1))
          ∙ take-append-drop (dataset_of (values_in d) - 2) d
