-- How many values and bytes of a record a line gives, by its kind. Assumes nothing.
use mathlib.Core.Path.{◌≡◌, refl}
use mathlib.Core.Bool.{false, ◌&&◌, and-false}
use Prim.Native.Nat.{ℕ, ◌+◌, ◌-◌, ◌≤◌}
use native.Mathlib.Omega.{arith}
use lib.Dec.{eqb, leb}
use borrow.Author.Tests.{ne_eqb, lt-leb}
use Rattle.ticket.specs.Kind.{row_of, form_in, count_of, rest_of}
use Rattle.ticket.specs.declared.kinds.Kind.{Kind}
use Rattle.std.specs.Prelude.{Option, Some, None}
use Rattle.ticket.proofs.Listed.{row_facts}
use Rattle.console.specs.Commands.{values_of, suits, are_bytes}

module _ (t r : ℕ) where
  no_count : (f : ℕ) (o : Option Kind) → f ≤ 4 → form_in t r ≡ o → false ≡ suits t r f 18446744073709551615
  unfolding suits
  no_count f (Some k) h e = let m = (row_facts k).many in let q = ne_eqb 18446744073709551615 (f + count_of (row_of k).layout) (λ x. omega (arith, x)) in rw (e, q)
  no_count f None h e = let q = lt-leb 18446744073709551615 (f + 25) (omega arith) in rw (e, q, and-false)

  -- no number of values is none
  pub suits-none : (f : ℕ) → f ≤ 4 → false ≡ suits t r f 18446744073709551615
  suits-none f h = no_count f (form_in t r) h refl

  module _ (e : form_in t r ≡ None) where
    pub no-values : (0 ≡ values_of t r) × (0 ≤ 25)
    unfolding values_of
    no-values = rw e (refl, omega arith)

    pub suits-other : (f n : ℕ) → (leb f n && leb n (f + 25)) ≡ suits t r f n
    unfolding suits
    suits-other f n = rw e

    pub bytes-other : (n : ℕ) → leb n 27 ≡ are_bytes t r n
    unfolding are_bytes
    bytes-other n = rw e

  module _ (k : Kind) (e : form_in t r ≡ Some k) where
    pub all-values : (m : ℕ) → m ≡ count_of (row_of k).layout → (m ≡ values_of t r) × (m ≤ 25)
    unfolding values_of
    all-values m q = let f = row_facts k in rw (e, q) (refl, f.many)

    pub suits-kind : (f m n : ℕ) → m ≡ count_of (row_of k).layout → eqb n (f + m) ≡ suits t r f n
    unfolding suits
    suits-kind f m n q = rw (e, q)

    pub bytes-kind : (m n : ℕ) → m ≡ rest_of (row_of k).layout → eqb n (m - 2) ≡ are_bytes t r n
    unfolding are_bytes
    bytes-kind m n q = rw (e, q)

-- a kind has few values, and its fields begin after the two bytes of a header
pub few : (k : Kind) (m : ℕ) → m ≡ count_of (row_of k).layout → m ≤ 25
few k m q = rw q (row_facts k).many

pub headed : (k : Kind) (m : ℕ) → m ≡ rest_of (row_of k).layout → 2 ≤ m
headed k m q = let f = row_facts k in omega arith
