-- An annex: whether a record is of its product's kind. Assumes nothing.
use Rattle.std.specs.Prelude.{ℕ, Bool, ◌&&◌, eqb}
use Rattle.image.specs.Product.{Product}

-- whether a record of the TYP t and the revision r is of the product's kind
abbrev pub same_kind : Product → ℕ → ℕ → Bool
same_kind p t r = eqb t p.typ && eqb r p.revision
