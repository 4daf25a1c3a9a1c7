-- The words of a line, the numbers that they mean, and a list of commands. Assumes nothing.
use Rattle.std.specs.Prelude.{ℕ, ◌+◌, ◌-◌, ◌^◌, Bool, true, false, cond, ◌&&◌, List, [], ◌∷◌, ◌++◌, Option, Some, None, length, take, drop, eqb, ltb}
use Prim.Native.Char.{code}
use Prim.Native.String as string
use Rattle.text.specs.Bytes.{index_of}
use Rattle.text.specs.Numbers.{number_of}

-- ---- words

-- the byte b before the first of the words ws
abbrev pub longer : ℕ → List (List ℕ) → List (List ℕ)
longer b [] = (b ∷ []) ∷ []
longer b (w ∷ ws) = (b ∷ w) ∷ ws

-- the words of the line l: what stands between its blanks (byte 32), so that two blanks in a row have an empty word between them
abbrev pub words : List ℕ → List (List ℕ)
words [] = [] ∷ []
words (b ∷ l) = cond (eqb b 32) ([] ∷ words l) (longer b (words l))

-- the first word, and the words after it
abbrev pub first_of : List (List ℕ) → List ℕ
first_of [] = []
first_of (w ∷ ws) = w

abbrev pub rest_of : List (List ℕ) → List (List ℕ)
rest_of [] = []
rest_of (w ∷ ws) = ws

-- the end of the word of the line l that starts at byte p: the next blank, or the end of the line
abbrev pub word_end : List ℕ → ℕ → ℕ
word_end l p = p + index_of 32 (drop p l)

-- where what follows the byte p, a blank, begins; the end of the line where there is no more
abbrev pub after_blank : List ℕ → ℕ → ℕ
after_blank l p = cond (ltb p (length l)) (p + 1) (length l)

-- the bytes of a text
abbrev pub bytes_of : string.String → List ℕ
bytes_of string.[] = []
bytes_of (string.◌∷◌ a s) = code a ∷ bytes_of s

abbrev pub same : List ℕ → List ℕ → Bool
same [] [] = true
same [] (b ∷ w) = false
same (a ∷ v) [] = false
same (a ∷ v) (b ∷ w) = eqb a b && same v w

-- ---- numbers

abbrev pub before : Option ℕ → List ℕ → List ℕ
before (Some n) ns = n ∷ ns
before None ns = []

-- the numbers that words mean, up to the first word that means none
abbrev pub numbers_in : List (List ℕ) → List ℕ
numbers_in [] = []
numbers_in (w ∷ ws) = before (number_of w) (numbers_in ws)

-- the numbers of a line: those of the words after its first, no more than there is room for
unfoldable pub numbers_of : ℕ → List ℕ → List ℕ
numbers_of room l = take room (numbers_in (rest_of (words l)))

-- what stands for a count where there is none
abbrev pub none : ℕ
none = 2 ^ 64 - 1

-- how many they are, where every word after the first is one of them
unfoldable pub count_of : ℕ → List ℕ → ℕ
count_of room l = cond (eqb (length (numbers_of room l)) (length (rest_of (words l)))) (length (numbers_of room l)) none

-- the list b with the numbers ns put at its front
abbrev pub fronted : List ℕ → List ℕ → List ℕ
fronted ns b = ns ++ drop (length ns) b

-- ---- a list of commands, each a word and how many numbers it takes

abbrev pub takes_as : Option ℕ → ℕ → Bool
takes_as (Some m) n = eqb m n
takes_as None n = true

-- whether a command listed with the word t takes n numbers: so many as t says, and any where t is no number
abbrev pub takes : List ℕ → ℕ → Bool
takes t n = takes_as (number_of t) n
