-- Which entries a run has touched: entry j is touched between two images if its forty bits, its list of sectors, its mark or a byte of its
-- product differ; and the rules of the call that tells it. Assumes nothing.
use Rattle.std.specs.Prelude.{◌≢◌, List, [], ◌∷◌, ℕ, ◌*◌, ◌≤◌, get_or}
use Rattle.bits.specs.Bits.{field}
use Rattle.rules.specs.Claim.{◌≡?◌, Rule, rule, Answers}
use Rattle.image.specs.Image.{copy, B, S, e#, entry_at, sectors, mark, product}
use Rattle.image.specs.Obeys.{IsProduct, Obeys, Says}

abbrev pub forty : List ℕ → ℕ → ℕ  -- the forty bits of entry j
forty c j = field c (8 * entry_at c j) 40

-- of the entries 1 to e#; an empty entry has no sectors, no mark and no product
pub data Touched (c d : List ℕ) (j : ℕ) : Type 0 where
  entry : 1 ≤ j → j ≤ e# c → forty d j ≢ forty c j → Touched c d j
  chain : IsProduct c j → sectors d j ≢ sectors c j → Touched c d j
  marked : IsProduct c j → mark d j ≢ mark c j → Touched c d j
  byte : (k : ℕ) → IsProduct c j → get_or (product d j) k 0 ≢ get_or (product c j) k 0 → Touched c d j

-- 90 and 91, numbers of our own: images of another S, B, e# or copy; flags that are not e# bytes
abbrev pub compare_rules : List ℕ → List ℕ → ℕ → List Rule
compare_rules c d n =
    rule 90 (S d ≡? S c)
    ∷ rule 90 (B d ≡? B c)
    ∷ rule 90 (e# d ≡? e# c)
    ∷ rule 90 (copy d ≡? copy c)
    ∷ rule 91 (n ≡? e# c)
    ∷ []

-- the call on the images c and d and n flags gives a number: the first image's own, then the second's, then its rules; it is not told which image
pub data Compares (c d : List ℕ) (n : ℕ) : ℕ → ℕ → Type 0 where
  before : {m e : ℕ} → 1 ≤ m → Says c m e → Compares c d n m e
  after : {m e : ℕ} → Obeys c → 1 ≤ m → Says d m e → Compares c d n m e
  both : {m e : ℕ} → Obeys c → Obeys d → Answers (compare_rules c d n) m e → Compares c d n m e
