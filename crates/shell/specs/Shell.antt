-- The shell record (document 01, "Shell record"; 004, 4.1): its sixteen values, and the rules that they keep by themselves. Assumes nothing.
use Rattle.std.specs.Prelude.{ℕ, ◌-◌, ◌*◌, ◌/◌, ◌%◌, List, [], ◌∷◌, ◌++◌, get_or, take, replicate}
use Rattle.bits.specs.Bits.{field}
use Rattle.crc.specs.Crc.{crc}
use Rattle.digits.specs.Digits.{decimal, digits_of, luhn}
use Rattle.fields.specs.declared.Layout.TheVariants as layout
use Rattle.fields.specs.Fields.{fields, stores, fit_rules}
use Rattle.fields.specs.Lists as lists
use Rattle.rules.specs.Claim.{◌≡?◌, ◌≤?◌, Rule, rule}

abbrev pub values_in : List ℕ → List ℕ  -- the sixteen values of the bytes d, the shell's first byte first
values_in d = fields d lists.shell

abbrev pub ShellLength : List ℕ → ℕ  -- the values by their names, vs all sixteen in order
ShellLength vs = get_or vs 0 0

abbrev pub ShellBitMap : List ℕ → ℕ
ShellBitMap vs = get_or vs 1 0

abbrev pub IIN : List ℕ → ℕ
IIN vs = get_or vs 3 0

abbrev pub OID : List ℕ → ℕ
OID vs = get_or vs 4 0

abbrev pub ISSN : List ℕ → ℕ
ISSN vs = get_or vs 5 0

abbrev pub CHD : List ℕ → ℕ
CHD vs = get_or vs 6 0

abbrev pub sector_bytes : List ℕ → ℕ
sector_bytes vs = get_or vs 12 0

abbrev pub sector_count : List ℕ → ℕ
sector_count vs = get_or vs 13 0

abbrev pub entry_count : List ℕ → ℕ
entry_count vs = get_or vs 14 0

abbrev pub table_length : List ℕ → ℕ
table_length vs = get_or vs 15 0

abbrev pub dataset_of : List ℕ → ℕ  -- the bytes of the dataset: ShellLength counts blocks of four (4.1.1)
dataset_of vs = 4 * ShellLength vs

-- number 5, of ShellBitMap and the bytes of the dataset: the map not 0, or the dataset under 22 bytes
abbrev pub form_rules : ℕ → ℕ → List Rule
form_rules map bytes = rule 5 (map ≡? 0) ∷ rule 5 (22 ≤? bytes) ∷ []

-- number 8, first half: a digit of IIN, OID, ISSN or CHD above 9 (OID: four decimal digits, 4.1.4.2)
abbrev pub digit_rules : List ℕ → List Rule
digit_rules vs = rule 8 (decimal 6 (IIN vs)) ∷ rule 8 (decimal 4 (OID vs)) ∷ rule 8 (decimal 7 (ISSN vs)) ∷ rule 8 (decimal 1 (CHD vs)) ∷ []

-- the eighteen digits of the ISRN, the shell's reference number (4.1.4: IIN, OID, ISSN, CHD), from the right
abbrev pub ISRN : List ℕ → List ℕ
ISRN vs = digits_of 1 (CHD vs) ++ (digits_of 7 (ISSN vs) ++ (digits_of 4 (OID vs) ++ digits_of 6 (IIN vs)))

-- number 12 (request T-03): CHD is not the check digit of the seventeen digits before it
abbrev pub check_digit_rule : List ℕ → Rule
check_digit_rule vs = rule 12 (luhn (ISRN vs) % 10 ≡? 0)

-- ---- what follows the sixteen values in a dataset of n bytes

abbrev pub padding : List ℕ → ℕ → ℕ  -- the zero padding from byte 20 up to the checksum, as one number
padding d n = field d 160 (8 * (n - 22))

abbrev pub SECR : List ℕ → ℕ → ℕ  -- SECR, the dataset's last two bytes
SECR d n = field d (8 * (n - 2)) 16

abbrev pub before_SECR : List ℕ → ℕ → List ℕ  -- the bytes that SECR is computed over
before_SECR d n = take (n - 2) d

-- ---- encoding one (document 01, "Encoding what was read")

-- the checks in order: 26 (a value too wide), 5, 8, 12, and 21 (a buffer of `room` bytes is shorter than the dataset)
abbrev pub encode_rules : List ℕ → ℕ → List Rule
encode_rules vs room =
    fit_rules layout.Shell vs
    ++ (form_rules (ShellBitMap vs) (dataset_of vs)
    ++ (digit_rules vs
    ++ (check_digit_rule vs
    ∷ rule 21 (dataset_of vs ≤? room)
    ∷ [])))

unfoldable pub body_of : List ℕ → List ℕ  -- the dataset before SECR: the sixteen values, then zero padding
body_of vs = stores (replicate (dataset_of vs - 2) 0) lists.shell vs

abbrev pub secr_bytes : ℕ → List ℕ  -- a checksum's two bytes, the most significant first
secr_bytes x = x / 256 ∷ x % 256 ∷ []

unfoldable pub encoded_shell : List ℕ → List ℕ  -- the dataset: SECR is computed over the bytes before it
encoded_shell vs = body_of vs ++ secr_bytes (crc (body_of vs))
