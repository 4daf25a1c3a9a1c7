-- An annex: neighbouring fields as one number: each value behind the digits of those before it. Assumes nothing.
use Rattle.std.specs.Prelude.{ℕ, zero, suc, ◌+◌, ◌*◌, ◌^◌, List, get_or}
use Rattle.fields.specs.declared.Span.{Span}
use Rattle.fields.specs.Lists.{nth}

-- how many bits the n places from the place i on have
unfoldable pub wide : List Span → ℕ → ℕ → ℕ
wide ps i zero = 0
wide ps i (suc n) = wide ps i n + (nth ps (i + n)).1

-- the number that the n values from the value i on make
unfoldable pub together : List Span → List ℕ → ℕ → ℕ → ℕ
together ps vs i zero = 0
together ps vs i (suc n) = together ps vs i n * 2 ^ (nth ps (i + n)).1 + get_or vs (i + n) 0
