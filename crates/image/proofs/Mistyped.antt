-- A mistyped number keeps every rule before 12: they look beside it, at its digits one by one, or at SECR, which was made right again. Rule 12 sees
-- it, since it sees every digit that changes, and all neighbours but 0 and 9 that change places (Luhn). Assumes nothing.
use mathlib.Core.Path.{◌≡◌, sym, ap, ◌∙◌}
use mathlib.Core.Logic.{◌≢◌, inl, inr}
use mathlib.Core.Bool.{◌||◌}
use mathlib.Core.List.{List, [], ◌∷◌, ◌++◌}
use Prim.Native.Nat.{ℕ, ◌+◌, ◌-◌, ◌*◌, ◌%◌, ◌≤◌, ◌<◌}
use native.Mathlib.Decide.{dec_lt, ℕ_discrete}
use native.Mathlib.Omega.{arith}
use lib.Dec.{T, leb, leb→le}
use lib.ListN.{length, get_or, set, drop, length-set}
use lib.Seq.{ext_get_or, get_or-set_same, get_or-set_other, set_comm}
use Rattle.rules.specs.Claim.{Rule, Kept, Fails, here, later}
use Rattle.rules.proofs.ClaimLaws.{fails-after}
use Rattle.bits.specs.Bits.{Bytes, field}
use Rattle.bits.proofs.Laws.{Apart, apart, field-within, field-drop, field-store, field-store-apart, length-store, bytes-store, bit-store_out}
use Rattle.fields.specs.Lists.{span}
use Rattle.fields.specs.Fields.{fields, stores}
use Rattle.fields.proofs.Only.{Only, only_stores, only-field, only_part}
use Rattle.crc.specs.Crc.{crc}
use Rattle.digits.specs.Digits.{digits_of, luhn}
use Rattle.digits.proofs.Joined.{length_digits, get_or_digits}
use Rattle.digits.proofs.Luhn as check_digit
use Rattle.digits.proofs.Luhn.{Decimals, decimals-set}
use Rattle.shell.specs.Shell.{digit_rules}
use Rattle.shell.proofs.Words.{rule-8}
use Rattle.image.specs.Image.{stated, version, copy, shell_values, isrn, dataset, B, S, e#, SCTL, shell_pad, SECR, before_SECR}
use Rattle.image.specs.Rules.{head_rules, size_rules, content_rules, rules}
use Rattle.image.specs.Facts.{Facts}
use Rattle.image.specs.Obeys.{Obeys, Says, refused}
use Rattle.image.specs.Mistyped.{digit_at, with_digit, with_SECR, mistyped, exchanged}
use Rattle.image.proofs.Exact.{obeys_facts, facts_bounds, facts-kept}
use Rattle.image.proofs.Isrn.{isrn-is}

-- ---- the number as a list of digits

pub length-isrn : (c : List ℕ) → length (isrn c) ≡ 18
length-isrn c = ap length (isrn-is c) ∙ length_digits 18 (field c 48 72)

-- digit i from the left is digit k from the right
digit_at_lem : (c : List ℕ) (i k : ℕ) → i + k ≡ 17 → get_or (isrn c) k 0 ≡ digit_at c i
digit_at_lem c i k h =
    let e : 4 * i + 4 + 4 * k ≡ 72 = omega arith in
    rw (isrn-is c, get_or_digits 18 (field c 48 72) k (omega arith), ← e) (field-within c 48 (4 * i) 4 (4 * k))

pub isrn-at : (c : List ℕ) (i : ℕ) → i < 18 → get_or (isrn c) (17 - i) 0 ≡ digit_at c i
isrn-at c i h = digit_at_lem c i (17 - i) (omega arith)

-- another digit in the image is another digit of the list
with-digit : (c : List ℕ) (i k d : ℕ) → i + k ≡ 17 → 15 ≤ length c → d ≤ 9 → isrn (with_digit c i d) ≡ set (isrn c) k d
with-digit c i k d h l t =
    let n = length-isrn (with_digit c i d) in
    ext_get_or 0 _ _ (n ∙ sym (length-isrn c) ∙ sym (length-set (isrn c) k d)) (λ j q. one j (omega arith) (ℕ_discrete j k))
  where
    one : (j : ℕ) → j < 18 → Dec (j ≡ k) → get_or (isrn (with_digit c i d)) j 0 ≡ get_or (set (isrn c) k d) j 0
    one j q (yes e) =
        rw e (digit_at_lem (with_digit c i d) i k h ∙ field-store c (48 + 4 * i) 4 d (omega arith) (omega arith)
        ∙ sym (get_or-set_same (isrn c) k d 0 (omega (arith, length-isrn c))))
    one j q (no n) =
        digit_at_lem (with_digit c i d) (17 - j) j (omega arith)
        ∙ field-store-apart c (48 + 4 * i) 4 d (48 + 4 * (17 - j)) 4 (elim (dec_lt i (17 - j)) [ yes y ↦ inl (omega arith) | no y ↦ inr (omega arith) ])
        ∙ sym (digit_at_lem c (17 - j) j (omega arith)) ∙ sym (get_or-set_other (isrn c) k j d 0 n)

-- ---- SECR made right again

-- a dataset keeps its length where its first six bits stay
dataset_only : {c d : List ℕ} {a n : ℕ} → Only c d a n → Apart a n 32 6 → dataset d ≡ dataset c
unfolding dataset shell_values fields
dataset_only {c} {d} o h = ap (λ (x : ℕ). 4 * x) (field-drop d 4 0 6 ∙ only-field o 32 6 h ∙ sym (field-drop c 4 0 6))

only-SECR : (w : List ℕ) → Bytes w → Only w (with_SECR w) (8 * (2 + dataset w)) 16
only-SECR w b = record { bytes_c = b; bytes_d = bytes-store w _ 16 _; same_length = length-store w _ 16 _; outside = bit-store_out w _ 16 _ }

SECR-there : (w : List ℕ) → 4 + dataset w ≤ length w → field (with_SECR w) (8 * (2 + dataset w)) 16 ≡ crc (before_SECR w)
unfolding crc
SECR-there w h = field-store w (8 * (2 + dataset w)) 16 (crc (before_SECR w)) (omega arith) (omega arith)

SECR-right : (w : List ℕ) → Bytes w → 4 + dataset w ≤ length w → 22 ≤ dataset w → SECR (with_SECR w) ≡ crc (before_SECR (with_SECR w))
unfolding SECR before_SECR
SECR-right w b h l =
    let o = only-SECR w b in
    let e : 32 + 8 * (dataset w - 2) ≡ 8 * (2 + dataset w) = omega arith in
    rw (dataset_only o (inr (omega arith)), field-drop (with_SECR w) 4 (8 * (dataset w - 2)) 16, e, SECR-there w h)
    (ap crc (sym (only_part o 4 (dataset w - 2) (inr (omega arith)))))

-- ---- another number

-- rules that are kept before some rules are kept before others too
instead : (qs rs ss : List Rule) {ts : List Rule} {n : ℕ} → qs ≡ rs → Kept (rs ++ ss) → (Kept ss → Fails ts n) → Fails (qs ++ ts) n
instead qs rs ss {ts} {n} e k f = rw e (go rs k)
  where
    go : (rs : List Rule) → Kept (rs ++ ss) → Fails (rs ++ ts) n
    go [] k = f k
    go (r ∷ rs) k = later k.0 (go rs k.1)

-- c is an acceptable image, w is c with another number, and m is w with SECR made right
module _ {c w : List ℕ} (f : Facts c) (q : Only c w 48 72) where
  abbrev m : List ℕ
  m = with_SECR w

  right : Only w m (8 * (2 + dataset w)) 16
  right = only-SECR w q.bytes_d

  dataset-w : dataset w ≡ dataset c
  dataset-w = dataset_only q (inr (omega arith))

  dataset-m : dataset m ≡ dataset c
  dataset-m = dataset_only right (inr (omega (arith, dataset-w))) ∙ dataset-w

  length-m : length m ≡ length c
  length-m = right.same_length ∙ q.same_length

  number-m : isrn m ≡ isrn w
  number-m = isrn-is m ∙ ap (digits_of 18) (only-field right 48 72 (inr (omega (arith, dataset-w)))) ∙ sym (isrn-is w)

  -- what stands beside the number and before SECR is as it was
  beside : (p n : ℕ) → Apart 48 72 p n → p + n ≤ 8 * (2 + dataset c) → field m p n ≡ field c p n
  beside p n a h = only-field right p n (inr (omega (arith, dataset-w))) ∙ only-field q p n a

  -- at numerals `tt` proves the tests
  value : (p n : ℕ) → T (leb 120 p || leb (p + n) 48) → T (leb (p + n) 192) → field m p n ≡ field c p n
  value p n t u = beside p n (apart 48 72 p n t) (omega (arith, leb→le (p + n) 192 u))

  shell-value : (p n : ℕ) → T (leb 120 (32 + p) || leb (32 + p + n) 48) → T (leb (32 + p + n) 192) → field (drop 4 m) p n ≡ field (drop 4 c) p n
  shell-value p n t u = field-drop m 4 p n ∙ value (32 + p) n t u ∙ sym (field-drop c 4 p n)

  heads : head_rules m ≡ head_rules c
  unfolding stated version copy
  heads = rw (length-m, value 0 16 tt tt, value 16 8 tt tt, value 24 8 tt tt)

  sizes : size_rules m ≡ size_rules c
  unfolding dataset B S e# SCTL shell_values fields
  sizes = rw (length-m, shell-value 0 6 tt tt, shell-value 6 6 tt tt, shell-value 128 8 tt tt, shell-value 136 8 tt tt, shell-value 144 8 tt tt, shell-value 152 8 tt tt)

  padding : shell_pad m ≡ shell_pad c
  unfolding shell_pad
  padding =
      let n : ℕ = 8 * (dataset c - 22) in
      rw dataset-m (field-drop m 4 160 n ∙ beside 192 n (inl (omega arith)) (omega arith) ∙ sym (field-drop c 4 160 n))

  contents : Decimals (isrn m) → luhn (isrn m) % 10 ≢ 0 → Kept (content_rules c) → Fails (content_rules m) 12
  contents ten wrong k =
      let fits = (facts_bounds c f).shell_in in
      later (SECR-right w q.bytes_d (omega (arith, dataset-w, q.same_length)) (omega (arith, dataset-w)))
      (fails-after (digit_rules (shell_values m)) ((rule-8 (shell_values m)).1 ten) (later (padding ∙ k.1.1.1.1.1.0) (here wrong)))

  -- a number of decimal digits that does not end in its check digit: 12, and no entry
  refuse : Decimals (isrn w) → luhn (isrn w) % 10 ≢ 0 → Says m 12 0
  unfolding rules
  refuse ten wrong =
      refused (instead (head_rules m) (head_rules c) (size_rules c ++ content_rules c) heads (facts-kept c f)
      (λ k. instead (size_rules m) (size_rules c) (content_rules c) sizes k (contents (rw number-m ten) (rw number-m wrong))))

-- ---- one digit is another, and two neighbours have changed places

decimals : {c : List ℕ} → Facts c → Decimals (isrn c)
decimals {c} f = (rule-8 (shell_values c)).0 (f.iin, (f.oid, (f.issn, (f.chd, tt))))

pub mistyped-refused : (c : List ℕ) (i d : ℕ) → Bytes c → Obeys c → i < 18 → d ≤ 9 → d ≢ digit_at c i → Says (mistyped c i d) 12 0
unfolding stores
mistyped-refused c i d b o h t n =
    let f = obeys_facts c o in
    let ten = decimals f in
    let k : ℕ = 17 - i in
    let e = with-digit c i k d (omega arith) (omega (arith, f.shell_there)) t in
    refuse f (only_stores c 48 72 (span (48 + 4 * i) 4 ∷ []) (d ∷ []) b ((omega arith, omega arith), tt))
    (rw e (decimals-set (isrn c) k d ten t))
    (rw e (check_digit.changed (isrn c) k d (omega (arith, length-isrn c)) ten t (λ z. n (z ∙ isrn-at c i h)) f.check_digit))

pub exchanged-refused : (c : List ℕ) (i : ℕ) → Bytes c → Obeys c → i < 17 → digit_at c i ≢ digit_at c (1 + i)
    → ((digit_at c i ≡ 0) × (digit_at c (1 + i) ≡ 9) → ⊥) → ((digit_at c i ≡ 9) × (digit_at c (1 + i) ≡ 0) → ⊥) → Says (exchanged c i) 12 0
unfolding stores
exchanged-refused c i b o h n up down =
    let f = obeys_facts c o in
    let ten = decimals f in
    let k : ℕ = 16 - i in
    let x = digit_at c i in
    let y = digit_at c (1 + i) in
    let ex : get_or (isrn c) (1 + k) 0 ≡ x = digit_at_lem c i (1 + k) (omega arith) in
    let ey : get_or (isrn c) k 0 ≡ y = digit_at_lem c (1 + i) k (omega arith) in
    let hx : x ≤ 9 = omega (arith, ten (1 + k)) in
    let hy : y ≤ 9 = omega (arith, ten k) in
    let g = with-digit c i (1 + k) y (omega arith) (omega (arith, f.shell_there)) hy in
    let e = with-digit (with_digit c i y) (1 + i) k x (omega arith) (omega (arith, f.shell_there, length-store c (48 + 4 * i) 4 y)) hx in
    refuse f (only_stores c 48 72 (span (48 + 4 * i) 4 ∷ span (48 + 4 * (1 + i)) 4 ∷ []) (y ∷ x ∷ []) b ((omega arith, omega arith), ((omega arith, omega arith), tt)))
    (rw (e, g) (decimals-set (set (isrn c) (1 + k) y) k x (decimals-set (isrn c) (1 + k) y ten hy) hx))
    (rw (e, g, set_comm (isrn c) (1 + k) k y x (λ z. omega arith), ← ex, ← ey) (check_digit.exchanged (isrn c) k (omega (arith, length-isrn c)) ten
    (rw (ex, ey) (λ z. n (sym z))) (rw (ex, ey) (λ z. down (z.1, z.0))) (rw (ex, ey) (λ z. up (z.1, z.0))) f.check_digit))
