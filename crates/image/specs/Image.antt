-- Where each thing stands in an image c (document 01, "The image" to "Sector chains"). `..At` is a byte's place; what stands there is read by
-- the lists of `fields`. Assumes nothing.
use Rattle.std.specs.Prelude.{ℕ, ◌+◌, ◌-◌, ◌*◌, List, [], ◌∷◌, ◌++◌, take, drop}
use Rattle.bits.specs.Bits.{field}
use Rattle.fields.specs.Fields.{value_at}
use Rattle.fields.specs.declared.Layout.TheVariants.{Image}
use Rattle.shell.specs.Shell as shell
use Rattle.chains.specs.Walk.{Walk}
use Rattle.chains.specs.Products as products
use Rattle.chains.specs.Psi.{Ψ}

-- ---- the head, four bytes: length of the whole image, version, the directory copy in force

unfoldable pub stated : List ℕ → ℕ
stated c = value_at Image 0 c

unfoldable pub version : List ℕ → ℕ
version c = value_at Image 1 c

unfoldable pub copy : List ℕ → ℕ
copy c = value_at Image 2 c

-- ---- the shell record, from byte 4 on ("Shell record"): its sixteen values, and those that the rules name

unfoldable pub shell_values : List ℕ → List ℕ
shell_values c = shell.values_in (drop 4 c)

unfoldable pub dataset : List ℕ → ℕ  -- the bytes of the dataset
dataset c = shell.dataset_of (shell_values c)

unfoldable pub B : List ℕ → ℕ
B c = shell.sector_bytes (shell_values c)

unfoldable pub S : List ℕ → ℕ
S c = shell.sector_count (shell_values c)

unfoldable pub e# : List ℕ → ℕ
e# c = shell.entry_count (shell_values c)

unfoldable pub SCTL : List ℕ → ℕ
SCTL c = shell.table_length (shell_values c)

abbrev pub isrn : List ℕ → List ℕ  -- the eighteen digits of the ISRN, from the right
isrn c = shell.ISRN (shell_values c)

unfoldable pub shell_pad : List ℕ → ℕ  -- the padding up to the checksum, as one number
shell_pad c = shell.padding (drop 4 c) (dataset c)

unfoldable pub SECR : List ℕ → ℕ
SECR c = shell.SECR (drop 4 c) (dataset c)

unfoldable pub before_SECR : List ℕ → List ℕ  -- the bytes that SECR is computed over
before_SECR c = shell.before_SECR (drop 4 c) (dataset c)

-- ---- the directory in force ("The image", "Directory sector"): copy A is sector S-2, copy B is S-1

unfoldable pub sector_at : List ℕ → ℕ → ℕ
sector_at c i = 4 + i * B c

unfoldable pub directory_at : List ℕ → ℕ
directory_at c = sector_at c (S c - 2 + copy c)

unfoldable pub entry_at : List ℕ → ℕ → ℕ
entry_at c j = directory_at c + 2 + 5 * (j - 1)

unfoldable pub table_at : List ℕ → ℕ
table_at c = directory_at c + 2 + 5 * e# c

-- ---- the chain table ("Sector chains")

unfoldable pub element : List ℕ → ℕ → ℕ  -- SCT(i)
element c i = field c (8 * table_at c + Ψ (S c) * (i - 1)) (Ψ (S c))

unfoldable pub table_pad : List ℕ → ℕ  -- the bits after the last element, as one number
table_pad c = field c (8 * table_at c + Ψ (S c) * (S c - 3)) (8 * SCTL c - Ψ (S c) * (S c - 3))

-- ---- chains and products; `sectors`, `mark` and `product` are meant of the products of an accepted image

-- the walk from sector j, with S-3 sectors allowed: it finds the chain (the page, Demand2)
unfoldable pub chain : List ℕ → ℕ → Walk
chain c j = products.chain_at (element c) (S c) j

unfoldable pub sectors : List ℕ → ℕ → List ℕ
sectors c j = products.sectors_of (chain c j)

unfoldable pub mark : List ℕ → ℕ → ℕ  -- fresh 0, used 1, blocked 2
mark c j = products.mark_of (chain c j)

unfoldable pub sector : List ℕ → ℕ → List ℕ
sector c i = take (B c) (drop (sector_at c i) c)

unfoldable pub joined : List ℕ → List ℕ → List ℕ  -- the sectors, joined
joined c [] = []
joined c (i ∷ is) = sector c i ++ joined c is

unfoldable pub product : List ℕ → ℕ → List ℕ  -- a product's bytes are its chain's sectors, joined in chain order
product c j = joined c (sectors c j)
