-- What stays of an image that is altered in one region: the head and shell, the entries, the padding and every table element but one, where
-- the region spares them. A region within a chain's sector, past a product's header, does, and so does one element. Assumes nothing.
use mathlib.Core.Path.{◌≡◌, sym, ◌∙◌}
use mathlib.Core.Logic.{◌≢◌, inl, inr, ⊎_elim}
use mathlib.Core.List.{List}
use Prim.Native.Nat.{ℕ, suc, ◌+◌, ◌-◌, ◌*◌, ◌≤◌, ◌<◌}
use native.Mathlib.Nat.{suc-mul, mul-suc, mul-le-mul_right, mul-le-mul_left}
use native.Mathlib.Decide.{dec_lt}
use native.Mathlib.Omega.{arith}
use lib.ListN.{length, drop}
use Rattle.bits.specs.Bits.{bit, field}
use Rattle.bits.proofs.Laws.{Apart, bit-drop, field-drop}
use Rattle.fields.specs.Lists.{list_of}
use Rattle.fields.specs.declared.Layout.TheVariants.{Shell}
use Rattle.fields.proofs.Joined.{lists-joined}
use Rattle.fields.proofs.Only.{Only, only-field, only_part}
use Rattle.fields.proofs.Same.{fields-same}
use Rattle.chains.specs.Chain.{Sector}
use Rattle.chains.specs.Psi.{Ψ}
use Rattle.image.specs.Image.{stated, version, copy, shell_values, dataset, B, S, e#, SCTL, SECR, before_SECR, sector_at, directory_at, table_at, element}
use Rattle.image.specs.Bounds.{Bounds}
use Rattle.image.specs.Product.{element_at}

-- the n bits from bit a on spare all that the rules look at, but the element of sector l
pub record Spares (c : List ℕ) (l a n : ℕ) : Type 0 where
  pub head : 8 * (4 + B c) ≤ a
  pub entries : Apart a n (8 * directory_at c) (16 + 40 * e# c)
  pub elements : (i : ℕ) → Sector (S c) i → i ≢ l → Apart a n (element_at c i) (Ψ (S c))
  pub headers : (i : ℕ) → Sector (S c) i → Apart a n (8 * sector_at c i) 16
  pub padding : Apart a n (8 * table_at c + Ψ (S c) * (S c - 3)) (8 * SCTL c - Ψ (S c) * (S c - 3))

-- what stays
pub record Same (c d : List ℕ) (l : ℕ) : Type 0 where
  pub length_same : length d ≡ length c
  pub stated_same : stated d ≡ stated c
  pub version_same : version d ≡ version c
  pub copy_same : copy d ≡ copy c
  pub values_same : shell_values d ≡ shell_values c
  pub dataset_same : dataset d ≡ dataset c
  pub B_same : B d ≡ B c
  pub S_same : S d ≡ S c
  pub e#_same : e# d ≡ e# c
  pub SCTL_same : SCTL d ≡ SCTL c
  pub SECR_same : SECR d ≡ SECR c
  pub before_secr_same : before_SECR d ≡ before_SECR c
  pub shell_bits_same : (i : ℕ) → i < 8 * B c → bit (drop 4 d) i ≡ bit (drop 4 c) i
  pub padding_bits_same : (i : ℕ) → 8 * table_at c + Ψ (S c) * (S c - 3) ≤ i → i < 8 * (table_at c + SCTL c) → bit d i ≡ bit c i
  pub directory_same : directory_at d ≡ directory_at c
  pub table_same : table_at d ≡ table_at c
  pub entries_same : (p w : ℕ) → p + w ≤ 16 + 40 * e# c → field d (8 * directory_at c + p) w ≡ field c (8 * directory_at c + p) w
  pub elements_same : (i : ℕ) → Sector (S c) i → i ≢ l → element d i ≡ element c i
  pub sector_same : (i : ℕ) → sector_at d i ≡ sector_at c i
  pub headers_same : (i p w : ℕ) → Sector (S c) i → p + w ≤ 16 → field d (8 * sector_at c i + p) w ≡ field c (8 * sector_at c i + p) w

module _ {c d : List ℕ} {l a n : ℕ} (b : Bounds c) (o : Only c d a n) (s : Spares c l a n) where
  early : (p w : ℕ) → p + w ≤ 8 * (4 + B c) → field d p w ≡ field c p w
  early p w h = only-field o p w (inr (omega arith))

  early-shell : (p w : ℕ) → p + w ≤ 8 * B c → field (drop 4 d) p w ≡ field (drop 4 c) p w
  early-shell p w h = field-drop d 4 p w ∙ early (32 + p) w (omega arith) ∙ sym (field-drop c 4 p w)

  stated-is : stated d ≡ stated c
  unfolding stated
  stated-is = early 0 16 (omega arith)

  version-is : version d ≡ version c
  unfolding version
  version-is = early 16 8 (omega arith)

  copy_is : copy d ≡ copy c
  unfolding copy
  copy_is = early 24 8 (omega arith)

  shell-bits : (i : ℕ) → i < 8 * B c → bit (drop 4 d) i ≡ bit (drop 4 c) i
  shell-bits i h = bit-drop d 4 i ∙ o.outside (32 + i) (inl (omega arith)) ∙ sym (bit-drop c 4 i)

  values_are : shell_values d ≡ shell_values c
  unfolding shell_values
  values_are = fields-same 0 (list_of Shell) 160 (lists-joined Shell) (drop 4 d) (drop 4 c) (λ i x y. shell-bits i (omega arith))

  dataset_is : dataset d ≡ dataset c
  unfolding dataset
  dataset_is = rw values_are

  B-is : B d ≡ B c
  unfolding B
  B-is = rw values_are

  S-is : S d ≡ S c
  unfolding S
  S-is = rw values_are

  e#-is : e# d ≡ e# c
  unfolding e#
  e#-is = rw values_are

  SCTL-is : SCTL d ≡ SCTL c
  unfolding SCTL
  SCTL-is = rw values_are

  SECR-is : SECR d ≡ SECR c
  unfolding SECR
  SECR-is = rw dataset_is (early-shell (8 * (dataset c - 2)) 16 (omega arith))

  before_secr-is : before_SECR d ≡ before_SECR c
  unfolding before_SECR
  before_secr-is = rw dataset_is (only_part o 4 (dataset c - 2) (inr (omega arith)))

  padding-bits : (i : ℕ) → 8 * table_at c + Ψ (S c) * (S c - 3) ≤ i → i < 8 * (table_at c + SCTL c) → bit d i ≡ bit c i
  padding-bits i h k = o.outside i (⊎_elim (λ z. inr (omega arith)) (λ z. inl (omega arith)) s.padding)

  directory-is : directory_at d ≡ directory_at c
  unfolding directory_at sector_at
  directory-is = rw (S-is, B-is, copy_is)

  table_is : table_at d ≡ table_at c
  unfolding table_at
  table_is = rw (directory-is, e#-is)

  elements-are : (i : ℕ) → Sector (S c) i → i ≢ l → element d i ≡ element c i
  unfolding element element_at
  elements-are i k h = rw (table_is, S-is) (only-field o _ _ (s.elements i k h))

  entries-are : (p w : ℕ) → p + w ≤ 16 + 40 * e# c → field d (8 * directory_at c + p) w ≡ field c (8 * directory_at c + p) w
  entries-are p w h = only-field o (8 * directory_at c + p) w (⊎_elim (λ z. inl (omega arith)) (λ z. inr (omega arith)) s.entries)

  sector-is : (i : ℕ) → sector_at d i ≡ sector_at c i
  unfolding sector_at
  sector-is i = rw B-is

  headers-are : (i p w : ℕ) → Sector (S c) i → p + w ≤ 16 → field d (8 * sector_at c i + p) w ≡ field c (8 * sector_at c i + p) w
  headers-are i p w k h = only-field o (8 * sector_at c i + p) w (⊎_elim (λ z. inl (omega arith)) (λ z. inr (omega arith)) (s.headers i k))

  pub same : Same c d l
  same = record {
    length_same = o.same_length;
    stated_same = stated-is;
    version_same = version-is;
    copy_same = copy_is;
    values_same = values_are;
    dataset_same = dataset_is;
    B_same = B-is;
    S_same = S-is;
    e#_same = e#-is;
    SCTL_same = SCTL-is;
    SECR_same = SECR-is;
    before_secr_same = before_secr-is;
    shell_bits_same = shell-bits;
    padding_bits_same = padding-bits;
    directory_same = directory-is;
    table_same = table_is;
    entries_same = entries-are;
    elements_same = elements-are;
    sector_same = sector-is;
    headers_same = headers-are;
  }

-- ---- two regions that spare the rest

-- sector i stands in line
pub sector-before : (c : List ℕ) (i k : ℕ) → i < k → sector_at c i + B c ≤ sector_at c k
unfolding sector_at
sector-before c i k h = omega (arith, suc-mul i (B c), mul-le-mul_right (B c) h)

first-sector : (c : List ℕ) → sector_at c 1 ≡ 4 + B c
unfolding sector_at
first-sector c = omega arith

pub after-head : (c : List ℕ) (i : ℕ) → 1 ≤ i → 4 + B c ≤ sector_at c i
after-head c i h = elim (dec_lt 1 i) [
  | yes l ↦ omega (arith, sector-before c 1 i l, first-sector c)
  | no l ↦ let e : i ≡ 1 = omega arith in rw e (omega (arith, first-sector c))
]

pub before-directory : (c : List ℕ) → Bounds c → (i : ℕ) → Sector (S c) i → sector_at c i + B c ≤ directory_at c
unfolding directory_at
before-directory c b i s = sector-before c i (S c - 2 + copy c) (omega arith)

-- bits within a sector of the chains, past a product's header
pub spares-sector : (c : List ℕ) → Bounds c → (l i p w : ℕ) → Sector (S c) i → 16 ≤ p → p + w ≤ 8 * B c → Spares c l (8 * sector_at c i + p) w
unfolding table_at element_at
spares-sector c b l i p w s g h =
    let x = before-directory c b i s in
    record {
      head = omega (arith, after-head c i s.low);
      entries = inl (omega arith);
      elements = λ k t d. inl (omega arith);
      headers = λ k t. elim (dec_lt k i) [
        | yes z ↦ inr (omega (arith, sector-before c k i z))
        | no z ↦ elim (dec_lt i k) [
          | yes y ↦ inl (omega (arith, sector-before c i k y))
          | no y ↦ let e : k ≡ i = omega arith in rw e (inr (omega arith))
        ]
      ];
      padding = inl (omega arith);
    }

-- the element of sector l
pub element-before : (c : List ℕ) (i k : ℕ) → 1 ≤ i → i < k → element_at c i + Ψ (S c) ≤ element_at c k
unfolding element_at
element-before c i k l h = omega (arith, mul-suc (Ψ (S c)) (i - 1), mul-le-mul_left {m = suc (i - 1)} {n = k - 1} (Ψ (S c)) (omega arith))

pub elements-apart : (c : List ℕ) (i k : ℕ) → 1 ≤ i → 1 ≤ k → i ≢ k → Apart (element_at c i) (Ψ (S c)) (element_at c k) (Ψ (S c))
elements-apart c i k l m h = elim (dec_lt i k) [
  | yes z ↦ inl (element-before c i k l z)
  | no z ↦ inr (element-before c k i m (omega arith))
]

pub element_in_lem : (c : List ℕ) (l : ℕ) → Sector (S c) l → (8 * table_at c ≤ element_at c l) × (element_at c l + Ψ (S c) ≤ 8 * table_at c + Ψ (S c) * (S c - 3))
unfolding element_at
element_in_lem c l s = (omega arith, omega (arith, mul-suc (Ψ (S c)) (l - 1), mul-le-mul_left {m = suc (l - 1)} {n = S c - 3} (Ψ (S c)) (omega arith)))

directory-after : (c : List ℕ) → Bounds c → 4 + B c ≤ directory_at c
unfolding directory_at
directory-after c b = after-head c (S c - 2 + copy c) (omega arith)

pub spares-element : (c : List ℕ) → Bounds c → (l : ℕ) → Sector (S c) l → Spares c l (element_at c l) (Ψ (S c))
unfolding table_at
spares-element c b l s =
    let x = element_in_lem c l s in
    let y = directory-after c b in
    record {
      head = omega arith;
      entries = inr (omega arith);
      elements = λ i t d. elements-apart c l i s.low t.low (λ e. d (sym e));
      headers = λ i t. inr (omega (arith, before-directory c b i t));
      padding = inl (omega arith);
    }
