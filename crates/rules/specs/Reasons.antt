-- An annex: the numbers of the reasons by their names in code (document 01, "Numbers given back"), and what a call says: 0, or the number of its refusal.
-- Assumes nothing.
use Rattle.std.specs.Prelude.{ℕ, Result, Ok, Err}
use Rattle.rules.specs.declared.Reason.{Reason}
use Rattle.rules.specs.declared.Reason.TheVariants.{WrongLength, WrongVersion, WrongCopy, NoShell, WrongShell, WrongSize, WrongSecr, WrongDigit, WrongTable, BrokenChain, SharedSector, WrongCheckDigit, NoProduct, WrongRoom, OtherKind, WrongExtent, NoField, TooLarge, Blocked, NoMark, NoDate, NoStamp, OtherShape, WrongFlags}

abbrev pub number : Reason → ℕ
number WrongLength = 1
number WrongVersion = 2
number WrongCopy = 3
number NoShell = 4
number WrongShell = 5
number WrongSize = 6
number WrongSecr = 7
number WrongDigit = 8
number WrongTable = 9
number BrokenChain = 10
number SharedSector = 11
number WrongCheckDigit = 12
number NoProduct = 20
number WrongRoom = 21
number OtherKind = 22
number WrongExtent = 23
number NoField = 25
number TooLarge = 26
number Blocked = 27
number NoMark = 28
number NoDate = 29
number NoStamp = 30
number OtherShape = 90
number WrongFlags = 91

-- 0 where a call is not refused, else the number
abbrev pub said : {A : Type 0} → Result A Reason → ℕ
said (Ok a) = 0
said (Err r) = number r
