-- An annex: the list of a kind of ticket as the code has it: its places, and the parts in which they are read and stored. Assumes nothing.
use Rattle.std.specs.Prelude.{ℕ, ◌+◌, ◌*◌, ◌≤◌, ◌≡◌, Bool, ◌&&◌, List, [], ◌∷◌, T, eqb, leb, length, take, drop}
use Rattle.fields.specs.declared.Span.{Span}
use Rattle.fields.specs.declared.Layout.{Layout}
use Rattle.fields.specs.declared.plans.Part.{Part}
use Rattle.fields.specs.declared.plans.Plan.{Plan}
use Rattle.fields.specs.Lists.{list_of, bit_after, nth}
use Rattle.fields.specs.Ends.{start_of, end_to_end}
use Rattle.fields.specs.Padded.{most}

abbrev pub places_in : Plan → List Span
places_in r = r.places.now

abbrev pub parts_in : Plan → List Part
parts_in r = r.parts.now

-- the byte after the parts, of which the first begins at byte b
abbrev pub end_in : ℕ → List Part → ℕ
end_in b [] = b
end_in b (q ∷ qs) = end_in (b + q.1) qs

-- the parts are all of the places: each has a value, is of whole bytes, and has at most seven of them
abbrev pub cut : ℕ → List Span → List Part → Bool
cut b ps [] = eqb (length ps) 0
cut b ps (q ∷ qs) =
    leb 1 q.0
    && leb q.0 (length ps)
    && leb q.1 7
    && end_to_end (8 * b) (take q.0 ps) (8 * (b + q.1))
    && cut (b + q.1) (drop q.0 ps) qs

-- the plan of a list: its places, and parts that are all of them
pub record Plans (k : Layout) (r : Plan) : Type 0 where
  pub list : places_in r ≡ list_of k
  pub starts : start_of k ≡ 16
  pub few : T (leb (length (list_of k)) most)
  pub ends : 8 * end_in 2 (parts_in r) ≡ bit_after k
  pub cut : T (cut 2 (list_of k) (parts_in r))

-- what the routines rest on, of a plan that is a list's (`Planned.planned`): its places meet end to end, and each is narrow enough for a load
pub record Sound (r : Plan) : Type 0 where
  pub few : length (places_in r) ≤ most
  pub short : end_in 2 (parts_in r) ≤ 32
  pub narrow : (i : ℕ) → (nth (places_in r) i).1 ≤ 32
  pub joined : T (end_to_end 16 (places_in r) (8 * end_in 2 (parts_in r)))
  pub cut : T (cut 2 (places_in r) (parts_in r))

-- the values that a list has, of those in memory
abbrev pub values_of : Layout → List ℕ → List ℕ
values_of k vs = take (length (list_of k)) vs
