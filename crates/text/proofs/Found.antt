-- The first place of a byte is the library's. Assumes nothing.
use mathlib.Core.Path.{◌≡◌, refl}
use mathlib.Core.Bool.{Bool, true, false, cond}
use mathlib.Core.List.{List, [], ◌∷◌}
use Prim.Native.Nat.{ℕ, suc, ◌+◌, ◌≤◌}
use native.Mathlib.Omega.{arith}
use native.Mathlib.Decide.{dec_lt}
use lib.Dec.{eqb}
use lib.ListN.{length}
use borrow.Author.Tests.{lt-ltb, le-ltb}
use Rattle.std.specs.Prelude.{Option, unwrap_or}
use Rattle.std.specs.List.{position, position_or_len}
use Rattle.std.proofs.lemmas.List.Recursion.{is_position_or_len}
use Rattle.text.specs.Bytes.{index_of, index_after}

after-is : (t : Bool) (n : ℕ) → index_after t n ≡ cond t 0 (1 + n)
unfolding index_after
after-is true n = refl
after-is false n = let e : suc n ≡ 1 + n = omega arith in e

index_of-is : (b : ℕ) (l : List ℕ) → index_of b l ≡ position_or_len (λ x. eqb x b) l
unfolding index_of
index_of-is b l = is_position_or_len (index_of b) (λ x. eqb x b) refl (λ x xs. after-is (eqb x b) (index_of b xs)) l

one_more : (t : Bool) (n m : ℕ) → n ≤ m → index_after t n ≤ suc m
unfolding index_after
one_more true n m h = omega arith
one_more false n m h = omega arith

within : (b : ℕ) (l : List ℕ) → index_of b l ≤ length l
unfolding index_of
within b [] = omega arith
within b (x ∷ l) = one_more (eqb x b) (index_of b l) (length l) (within b l)

pub found : (b : ℕ) (l : List ℕ) (o : Option ℕ) → o ≡ position (λ x. eqb x b) l → (unwrap_or o (length l) ≡ index_of b l) × (index_of b l ≤ length l)
found b l o e =
    let w = within b l in
    let q = index_of-is b l in
    elim (dec_lt (index_of b l) (length l)) [
      | yes h ↦ (rw (e, ← q, lt-ltb (index_of b l) (length l) h), w)
      | no h ↦ (rw (e, ← q, le-ltb (index_of b l) (length l) (omega arith)) (omega arith), w)
    ]
