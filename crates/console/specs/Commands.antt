-- The commands of the desk and of the test program: which one a line is, and with which numbers. Assumes nothing.
use Rattle.std.specs.Prelude.{ℕ, zero, suc, ◌+◌, ◌-◌, ◌≡◌, Bool, cond, ◌&&◌, List, [], ◌∷◌, ◌++◌, Option, Some, None, unwrap_or, get_or, eqb, leb}
use Prim.Native.String.{String}
use Rattle.fields.specs.Padded.{most, most_bytes}
use Rattle.text.specs.Words.{words, first_of, same, takes, bytes_of, numbers_of, count_of}
use Rattle.ticket.specs.Kind.{row_of, form_in, kind_of, rest_of, count_of as field_count}
use Rattle.ticket.specs.declared.kinds.Kind.{Kind}
use Rattle.console.specs.declared.commands.Command.{Command}
use Rattle.console.specs.declared.commands.Command.TheVariants.{Unknown, Look, Lend, Change, Reckon, Encode, Make, Decode, File}
use Rattle.console.specs.declared.commands.Look.TheVariants as look
use Rattle.console.specs.declared.commands.Lend.TheVariants as lend
use Rattle.console.specs.declared.commands.Change.TheVariants as change
use Rattle.console.specs.declared.commands.Reckon.TheVariants as reckon
use Rattle.console.specs.declared.commands.Encode.TheVariants as encode
use Rattle.console.specs.declared.commands.Make.TheVariants as make
use Rattle.console.specs.declared.commands.Decode.TheVariants as decode
use Rattle.console.specs.declared.commands.File.TheVariants as file

-- ---- a record's values in a line

-- how many values a record of the TYP t and the revision r has; none where they are not listed
unfoldable pub values_of : ℕ → ℕ → ℕ
values_of t r = field_count (kind_of t r).layout

-- whether n numbers are f others and a record's values: as many as its kind has, and any up to twenty-five where it is not listed
abbrev pub suits_as : Option Kind → ℕ → ℕ → Bool
suits_as (Some k) f n = eqb n (f + field_count (row_of k).layout)
suits_as None f n = leb f n && leb n (f + most)

unfoldable pub suits : ℕ → ℕ → ℕ → ℕ → Bool
suits t r f n = suits_as (form_in t r) f n

-- whether n bytes are a record's: those from byte 2 of a ticket to the end of its fields, and any up to twenty-seven where it is not listed
abbrev pub are_bytes_as : Option Kind → ℕ → Bool
are_bytes_as (Some k) n = eqb n (rest_of (row_of k).layout - 2)
are_bytes_as None n = leb n most_bytes

unfoldable pub are_bytes : ℕ → ℕ → ℕ → Bool
are_bytes t r n = are_bytes_as (form_in t r) n

-- ---- the lists

-- a command as it is listed: its word, how many numbers follow it (`*`: that is not asked), and what it is with so many of them and the first three
pub record Listed : Type 0 where
  pub word : String
  pub numbers : String
  pub is : ℕ → ℕ → ℕ → ℕ → Command

abbrev pub listed : String → String → (ℕ → ℕ → ℕ → ℕ → Command) → Listed
listed w n f = record { word = w; numbers = n; is = f }

-- a command with a record's values, of the TYP t and the revision r: f numbers and the values, n in all
abbrev pub valued : ℕ → ℕ → ℕ → ℕ → Command → Command
valued t r f n k = cond (suits t r f n) k Unknown

-- those that both programs have
abbrev pub common : List Listed
common =
    listed "check" "0" (λ n a b c. Look look.Check)
    ∷ listed "bytes" "0" (λ n a b c. Look look.Bytes)
    ∷ listed "list" "0" (λ n a b c. Look look.List)
    ∷ listed "shell" "0" (λ n a b c. Look look.Shell)
    ∷ listed "directory" "0" (λ n a b c. Look look.Directory)
    ∷ listed "table" "0" (λ n a b c. Look look.Table)
    ∷ listed "entry" "1" (λ n a b c. Look (look.Entry a))
    ∷ listed "chain" "1" (λ n a b c. Look (look.Chain a))
    ∷ listed "ticket" "1" (λ n a b c. Lend (lend.Ticket a))
    ∷ listed "ticket" "2" (λ n a b c. Lend (lend.TicketIn a b))
    ∷ listed "rest" "1" (λ n a b c. Lend (lend.Rest a))
    ∷ listed "rest" "2" (λ n a b c. Lend (lend.RestIn a b))
    ∷ listed "buffer" "1" (λ n a b c. Lend (lend.Buffer a))
    ∷ listed "field" "3" (λ n a b c. Change (change.Field a b c))
    ∷ listed "record" "*" (λ n a b c. valued b c 3 n (Change (change.Record a b c)))
    ∷ listed "mark" "2" (λ n a b c. Change (change.Mark a b))
    ∷ listed "date" "1" (λ n a b c. Reckon (reckon.Date a))
    ∷ listed "stamp" "3" (λ n a b c. Reckon (reckon.Stamp a b c))
    ∷ listed "set" "*" (λ n a b c. valued a b 4 n (Reckon (reckon.Set a b c)))
    ∷ listed "encode-entry" "7" (λ n a b c. Encode encode.Entry)
    ∷ listed "encode-head" "3" (λ n a b c. Encode encode.Head)
    ∷ listed "encode-tail" "4" (λ n a b c. Encode encode.Tail)
    ∷ listed "encode-header" "3" (λ n a b c. Encode encode.Header)
    ∷ listed "encode-ticket" "*" (λ n a b c. valued a b 2 n (Encode (encode.Ticket a b)))
    ∷ listed "encode-shell" "17" (λ n a b c. Encode (encode.Shell a))
    ∷ listed "encode-table" "*" (λ n a b c. Encode (encode.Table a b))
    ∷ []

-- those that the test program has besides
abbrev pub trial : List Listed
trial =
    listed "image" "1" (λ n a b c. Make (make.Zeros a))
    ∷ listed "keep" "0" (λ n a b c. Make make.Keep)
    ∷ listed "touched" "0" (λ n a b c. Make make.Touched)
    ∷ listed "at" "*" (λ n a b c. Make make.At)
    ∷ listed "value" "*" (λ n a b c. valued a b 3 n (Reckon (reckon.Value a b c)))
    ∷ listed "crc" "*" (λ n a b c. Decode decode.Crc)
    ∷ listed "decode-entry" "*" (λ n a b c. Decode decode.Entry)
    ∷ listed "decode-head" "*" (λ n a b c. Decode decode.Head)
    ∷ listed "decode-tail" "*" (λ n a b c. Decode decode.Tail)
    ∷ listed "decode-header" "*" (λ n a b c. Decode decode.Header)
    ∷ listed "decode-ticket" "*" (λ n a b c. Decode decode.Ticket)
    ∷ listed "decode-shell" "*" (λ n a b c. Decode decode.Shell)
    ∷ listed "decode-table" "*" (λ n a b c. Decode decode.Table)
    ∷ []

-- those that the desk has besides
abbrev pub desk : List Listed
desk =
    listed "save" "*" (λ n a b c. File file.Save)
    ∷ listed "touched" "*" (λ n a b c. File file.Touched)
    ∷ []

-- ---- which command a line is

-- the first listed command with the word w and n numbers, of which the first three are a, b and c
abbrev pub command_in : List Listed → List ℕ → ℕ → ℕ → ℕ → ℕ → Command
command_in [] w n a b c = Unknown
command_in (e ∷ es) w n a b c = cond (same w (bytes_of e.word) && takes (bytes_of e.numbers) n) (e.is n a b c) (command_in es w n a b c)

-- of the test program (`all`) or of the desk
unfoldable pub command_of : Bool → List ℕ → ℕ → ℕ → ℕ → ℕ → Command
command_of all w n a b c = command_in (common ++ cond all trial desk) w n a b c

-- the command of a line: its first word, and the numbers of the others, for which there is room for 302
unfoldable pub command_of_line : Bool → List ℕ → Command
command_of_line all l =
    command_of all (first_of (words l)) (count_of 302 l) (get_or (numbers_of 302 l) 0 0) (get_or (numbers_of 302 l) 1 0) (get_or (numbers_of 302 l) 2 0)

-- r is what is found in the list es, if the command stands there; what the list goes on with is looked at where it does not
abbrev pub Finds : Option Command → List Listed → List ℕ → ℕ → ℕ → ℕ → ℕ → Type 0
Finds r es w n a b c = (others : List Listed) → unwrap_or r (command_in others w n a b c) ≡ command_in (es ++ others) w n a b c

-- it is that of the desk's own with the word w, whatever the numbers are
abbrev pub OfDesk : Command → List ℕ → Type 0
OfDesk r w = (n a b c : ℕ) → r ≡ command_in desk w n a b c

-- ---- the numbers of a command that has more than three

-- k of the numbers ns of a line, from place f on; 0 where there is none
unfoldable pub numbers_from : ℕ → ℕ → List ℕ → List ℕ
numbers_from zero f ns = []
numbers_from (suc k) f ns = get_or ns f 0 ∷ numbers_from k (f + 1) ns
