-- What the test program's own commands leave, case by case. Assumes nothing.
use mathlib.Core.Path.{◌≡◌, refl}
use mathlib.Core.Bool.{Bool, true, false, not}
use mathlib.Core.List.{List, ◌++◌}
use Prim.Native.Nat.{ℕ, ◌+◌, ◌-◌, ◌≤◌, ◌<◌}
use native.Mathlib.Omega.{arith}
use native.Mathlib.Decide.{dec_lt}
use lib.ListN.{length, take, drop, replicate, length-take, length-drop, length-replicate}
use lib.Seq.{take_all}
use lib.Dec.{eqb}
use borrow.Author.Tests.{lt-ltb, le-ltb, le-leb, lt-leb}
use borrow.Rule.Slice.PartMut.{mid_of, post_of, put_mid}
use Rattle.std.specs.Prelude.{Option, Some, None, unwrap_or}
use Rattle.std.specs.Option.{option_eq}
use Rattle.text.specs.Hex.{hex_count}
use Rattle.text.specs.Words.{word_end, after_blank, fronted, none}
use Rattle.text.specs.Numbers.{number_of}
use Rattle.console.specs.Makes.{State, read_into, filled_by, overwritten, zeros_in, zeros_state, sized, kept_size, kept_in, place_of, size_in, placed_in}

-- so many bytes as there is room for, and no other number
pub filled_exactly : (w d : List ℕ) (n : ℕ) (o : Option ℕ) → false ≡ not (option_eq eqb o (Some n)) → unwrap_or o none ≡ hex_count w → d ≡ read_into w (replicate n 0) → d ≡ filled_by w (replicate n 0)
unfolding filled_by
filled_exactly w d n None h e r = cc
filled_exactly w d n (Some m) h e r = let q : eqb (hex_count w) (length (replicate {A = ℕ} n 0)) ≡ true = rw (length-replicate, ← e) (so (eqb m n) h) in rw q r
  where
    so : (t : Bool) → false ≡ not t → t ≡ true
    so true k = refl
    so false k = cc

module _ (b : List ℕ) (s : State) (n : ℕ) where
  pub zeros-not : length b ≤ n → (s ≡ zeros_state n b s) × (b ≡ zeros_in n b)
  unfolding zeros_state zeros_in
  zeros-not h = rw (le-leb (length b) n h) (refl, refl)

  pub zeros-made : (x : List ℕ) → n < length b → x ≡ replicate (length (take n b)) 0 → (sized n s ≡ zeros_state n b s) × (x ++ post_of 0 n b ≡ zeros_in n b)
  unfolding zeros_state zeros_in
  zeros-made x h e =
      let q : length (take n b) ≡ n = simp length-take (omega arith) in
      rw (lt-leb (length b) n h, e, q) (refl, refl)

module _ (c w : List ℕ) (p q n : ℕ) where
  pub over-long : n ≡ hex_count w → length c < n → c ≡ overwritten p w c
  unfolding overwritten
  over-long e h =
      let z = lt-ltb (length c) n h in
      rw (← e, z)

  pub over-none : none ≡ hex_count w → length c < none → c ≡ overwritten p w c
  unfolding overwritten
  over-none e h = let z = lt-ltb (length c) none h in rw (← e, z)

  pub over-nowhere : none ≡ p → length c < none → c ≡ overwritten p w c
  unfolding overwritten
  over-nowhere e h =
      elim (dec_lt (length c) (hex_count w)) [
        | yes g ↦ rw (lt-ltb (length c) (hex_count w) g)
        | no g ↦ rw (le-ltb (length c) (hex_count w) (omega arith), lt-ltb (length c - hex_count w) p (omega arith))
      ]

  pub over-far : p ≡ q → n ≡ hex_count w → n ≤ length c → length c - n < p → c ≡ overwritten q w c
  unfolding overwritten
  over-far k e g h =
      let y = le-ltb (length c) n g in
      let z = lt-ltb (length c - n) p h in
      rw (← k, ← e, y, z)

  pub over-made : (x : List ℕ) → p ≡ q → n ≡ hex_count w → n ≤ length c → p ≤ length c - n → x ≡ read_into w (mid_of p (p + n - p) c) → put_mid p (p + n - p) c x ≡ overwritten q w c
  unfolding overwritten
  over-made x k e g h r =
      let y = le-ltb (length c) n g in
      let z = le-ltb (length c - n) p h in
      let m : p + n - p ≡ n = omega arith in
      rw (r, m, ← k, ← e, y, z)

pub keep_made : (b k x : List ℕ) (s : State) (n : ℕ) → n ≡ size_in b s → length b ≡ length k → x ≡ fronted (take n b) k → x ≡ kept_in b k s
unfolding kept_in
keep_made b k x s n e h r =
    let m : kept_size b k s ≡ n = omega arith in
    let t : length (take n b) ≡ n = simp length-take (omega arith) in
    rw (r, t, m)

pub place_made : (l b x : List ℕ) (s : State) (e a n : ℕ) → e ≡ word_end l 0 → a ≡ after_blank l e → n ≡ size_in b s → x ≡ overwritten (place_of (number_of (take e l))) (mid_of a (length l - a) l) (take n b) → x ++ post_of 0 n b ≡ placed_in l b s
unfolding placed_in
place_made l b x s e a n ke ka kn r =
    let t : take (length l - a) (drop a l) ≡ drop a l = take_all (length l - a) (drop a l) (simp length-drop (omega arith)) in
    rw (r, t, ka, ke, kn)
