-- An annex: the lowest of 1, .., n that passes a test. Assumes nothing.
use Rattle.std.specs.Prelude.{ℕ, zero, suc, Bool, true, false, Option, Some, None}

abbrev pub or_here : ℕ → Bool → ℕ → ℕ
or_here zero true k = k
or_here zero false k = 0
or_here (suc m) b k = suc m

-- the lowest of 1, .., n that passes the test, 0 where none does
unfoldable pub lowest : ℕ → (ℕ → Bool) → ℕ
lowest zero t = 0
lowest (suc n) t = or_here (lowest n t) (t (suc n)) (suc n)

-- a number, none where it is 0
abbrev pub some_of : ℕ → Option ℕ
some_of zero = None
some_of (suc n) = Some (suc n)
