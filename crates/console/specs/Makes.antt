-- What the test program's own commands leave: the image, the kept image, and how long they are. Assumes nothing.
use Rattle.std.specs.Prelude.{ℕ, ◌-◌, min, Bool, cond, List, ◌++◌, Option, Some, None, length, take, drop, replicate, eqb, leb, ltb}
use Rattle.text.specs.Words.{none, fronted, word_end, after_blank}
use Rattle.text.specs.Numbers.{number_of}
use Rattle.text.specs.Hex.{bytes_in, hex_count}
use Rattle.console.specs.declared.Bench.{Bench}
use Rattle.console.specs.declared.commands.Make.{Make}
use Rattle.console.specs.declared.commands.Make.TheVariants.{Zeros, Keep, Touched, At}

-- how long the image and the kept image are, and whether the commands are those of a test program
pub record State : Type 0 where
  pub image : ℕ
  pub kept : ℕ
  pub all : Bool

abbrev pub sizes_of : Bench → State
sizes_of p = record { image = p.image.size; kept = p.kept.size; all = p.all }

-- the buffer b with the bytes that a word means at its front, as far as both go
abbrev pub read_into : List ℕ → List ℕ → List ℕ
read_into w b = fronted (take (length b) (bytes_in w)) b

-- the buffer b after a word that must fill it
unfoldable pub filled_by : List ℕ → List ℕ → List ℕ
filled_by w b = cond (eqb (hex_count w) (length b)) (read_into w b) b

-- the place that a word names
abbrev pub place_of : Option ℕ → ℕ
place_of (Some p) = p
place_of None = none

-- the image c with the bytes that the word w means from byte p on, where they lie within it
unfoldable pub overwritten : ℕ → List ℕ → List ℕ → List ℕ
overwritten p w c =
    cond (ltb (length c) (hex_count w)) c
    (cond (ltb (length c - hex_count w) p) c
    (take p c ++ (read_into w (take (hex_count w) (drop p c)) ++ drop (hex_count w) (drop p c))))

-- how many bytes of the buffer b are the image, which stands at its front
abbrev pub size_in : List ℕ → State → ℕ
size_in b s = min s.image (length b)

-- the buffer b after a line's place and bytes, which go into the image
unfoldable pub placed_in : List ℕ → List ℕ → State → List ℕ
placed_in l b s =
    overwritten
    (place_of (number_of (take (word_end l 0) l)))
    (drop (after_blank l (word_end l 0)) l)
    (take (size_in b s) b)
    ++ drop (size_in b s) b

-- so many zeros, where the buffer b of the image has room for one byte more
unfoldable pub zeros_in : ℕ → List ℕ → List ℕ
zeros_in n b = cond (leb (length b) n) b (replicate n 0 ++ drop n b)

abbrev pub sized : ℕ → State → State
sized n s = record { image = n; kept = s.kept; all = s.all }

unfoldable pub zeros_state : ℕ → List ℕ → State → State
zeros_state n b s = cond (leb (length b) n) s (sized n s)

-- how much of the image is kept: as much as both buffers have room for
abbrev pub kept_size : List ℕ → List ℕ → State → ℕ
kept_size b k s = min s.image (min (length b) (length k))

abbrev pub kept_state : List ℕ → List ℕ → State → State
kept_state b k s = record { image = s.image; kept = kept_size b k s; all = s.all }

-- the buffer k of the kept image, with the image at its front
unfoldable pub kept_in : List ℕ → List ℕ → State → List ℕ
kept_in b k s = take (kept_size b k s) b ++ drop (kept_size b k s) k

-- what a command makes of the buffer b of the image, given what stands after its word
abbrev pub image_made : Make → List ℕ → List ℕ → State → List ℕ
image_made (Zeros n) l b s = zeros_in n b
image_made Keep l b s = b
image_made Touched l b s = b
image_made At l b s = placed_in l b s

-- and of the buffer k of the kept image
abbrev pub kept_made : Make → List ℕ → List ℕ → State → List ℕ
kept_made (Zeros n) b k s = k
kept_made Keep b k s = kept_in b k s
kept_made Touched b k s = k
kept_made At b k s = k

-- and of their sizes
abbrev pub state_made : Make → List ℕ → List ℕ → State → State
state_made (Zeros n) b k s = zeros_state n b s
state_made Keep b k s = kept_state b k s
state_made Touched b k s = s
state_made At b k s = s
