-- The plan of a list: its places are the list's, and its parts are all of them, each from a whole byte to a whole byte. Assumes nothing.
use mathlib.Core.Path.{◌≡◌, sym, ap, ◌∙◌}
use mathlib.Core.Bool.{◌&&◌}
use mathlib.Core.List.{List, [], ◌∷◌}
use Prim.Native.Nat.{ℕ, zero, suc, ◌+◌, ◌-◌, ◌*◌, ◌/◌, ◌%◌, ◌^◌, ◌≤◌, ◌<◌}
use native.Mathlib.Nat.{add-zero}
use native.Mathlib.Numerals.{add-one}
use native.Mathlib.Omega.{arith}
use lib.Dec.{T, eqb→eq, leb, leb→le}
use lib.ListN.{length, get_or, take, drop, length-drop, drop_of_length-le}
use lib.Seq.{length-take-le, get_or-take, get_or-drop, drop-cons, drop-drop, take_all}
use Rattle.rules.specs.Claim.{Means}
use Rattle.bits.specs.Bits.{Bytes, field, store}
use Rattle.bits.proofs.Laws.{field-within}
use Rattle.fields.specs.declared.Span.{Span}
use Rattle.fields.specs.declared.Layout.{Layout}
use Rattle.fields.specs.declared.plans.Part.{Part}
use Rattle.fields.specs.declared.plans.Plan.{Plan}
use Rattle.fields.specs.Lists.{span, list_of, bit_after, nth}
use Rattle.fields.specs.Ends.{start_of, end_to_end}
use Rattle.fields.specs.Fields.{at, stores, fit}
use Rattle.fields.specs.Padded.{most}
use Rattle.fields.specs.Plans.{places_in, parts_in, end_in, cut, Plans, Sound, values_of}
use Rattle.fields.specs.Together.{wide, together}
use Rattle.fields.proofs.Joined.{left, right, head_of, tail_of, nil_of, within, lists-joined, ends_early, width_small}
use Rattle.fields.proofs.Together.{place_of, together-lt, stores-together}

-- ---- the parts, one after the other

abbrev pub none : Part  -- past the last part
none = record { 0 = 0; 1 = 0 }

-- the part q of the places ps, from the place i and the byte b on, and the parts qs after it
pub record Step (b i : ℕ) (ps : List Span) (q : Part) (qs : List Part) : Type 0 where
  pub some : 1 ≤ q.0
  pub fits : i + q.0 ≤ length ps
  pub bytes : q.1 ≤ 7
  pub joined : T (end_to_end (8 * b) (take q.0 (drop i ps)) (8 * (b + q.1)))
  pub rest : T (cut (b + q.1) (drop (i + q.0) ps) qs)

step : (b i : ℕ) (ps : List Span) (q : Part) (qs : List Part) → T (cut b (drop i ps) (q ∷ qs)) → Step b i ps q qs
step b i ps q qs t =
    let os = drop i ps in
    let last = cut (b + q.1) (drop q.0 os) qs in
    let meet = end_to_end (8 * b) (take q.0 os) (8 * (b + q.1)) in
    let one = leb 1 q.0 in
    let few = leb q.0 (length os) in
    let seven = leb q.1 7 in
    let t4 = left (one && few && seven && meet) last t in
    let t3 = left (one && few && seven) meet t4 in
    let t2 = left (one && few) seven t3 in
    let h = leb→le 1 q.0 (left one few t2) in
    let k = leb→le q.0 (length os) (right one few t2) in
    record {
      some = h;
      fits = omega (arith, length-drop i ps);
      bytes = leb→le q.1 7 (right (one && few) seven t3);
      joined = right (one && few && seven) meet t4;
      rest = rw (drop-drop q.0 i ps) at (right (one && few && seven && meet) last t);
    }

-- the end is not before the start
pub end_after : (b : ℕ) (qs : List Part) → b ≤ end_in b qs
end_after b [] = omega arith
end_after b (q ∷ qs) = omega (arith, end_after (b + q.1) qs)

-- a place of the part lies within it
module _ {b i : ℕ} {ps : List Span} {q : Part} {qs : List Part} (s : Step b i ps q qs) where
  own : (j : ℕ) → j < q.0 → nth (take q.0 (drop i ps)) j ≡ nth ps (i + j)
  own j h = get_or-take q.0 (drop i ps) j (span 0 0) h ∙ get_or-drop i ps j (span 0 0)

  own-length : length (take q.0 (drop i ps)) ≡ q.0
  own-length = let f = s.fits in length-take-le q.0 (drop i ps) (omega (arith, length-drop i ps))

  pub in-part : (j : ℕ) → i ≤ j → j < i + q.0 → (8 * b ≤ (nth ps j).0) × ((nth ps j).0 + (nth ps j).1 ≤ 8 * (b + q.1))
  in-part j l h =
      let e : j ≡ i + (j - i) = omega arith in
      let k : j - i < q.0 = omega arith in
      rw (e, ← own (j - i) k) (within (8 * b) (take q.0 (drop i ps)) (8 * (b + q.1)) s.joined (j - i) (omega (arith, own-length)))

  -- its value, out of the number of the part's bytes
  pub value-part : (l : List ℕ) (x j : ℕ) → x ≡ field l (8 * b) (8 * q.1) → i ≤ j → j < i + q.0
      → x / 2 ^ (8 * (b + q.1) - ((nth ps j).0 + (nth ps j).1)) % 2 ^ (nth ps j).1 ≡ at l (nth ps j)
  value-part l x j e h k =
      let w = in-part j h k in
      let a : ℕ = (nth ps j).0 - 8 * b in
      let c : ℕ = 8 * (b + q.1) - ((nth ps j).0 + (nth ps j).1) in
      let n : 8 * q.1 ≡ a + (nth ps j).1 + c = omega arith in
      let f : 8 * b + a ≡ (nth ps j).0 = omega arith in
      ap (λ (y : ℕ). y / 2 ^ c % 2 ^ (nth ps j).1) (e ∙ ap (field l (8 * b)) n)
      ∙ field-within l (8 * b) a (nth ps j).1 c
      ∙ ap (λ (p : ℕ). field l p (nth ps j).1) f

-- ---- the parts as numbers

first-at : (a : ℕ) (qs : List Span) (e : ℕ) → T (end_to_end a qs e) → 1 ≤ length qs → (nth qs 0).0 ≡ a
first-at a [] e t h = absurd (omega arith)
first-at a (p ∷ qs) e t h = head_of a p qs e t

last-ends : (a : ℕ) (qs : List Span) (e : ℕ) → T (end_to_end a qs e) → (k : ℕ) → length qs ≡ suc k → (nth qs k).0 + (nth qs k).1 ≡ e
last-ends a [] e t k h = absurd (omega arith)
last-ends a (p ∷ []) e t zero h = omega (arith, head_of a p [] e t, nil_of (a + p.1) e (tail_of a p [] e t))
last-ends a (p ∷ []) e t (suc k) h = absurd (omega arith)
last-ends a (p ∷ o ∷ qs) e t zero h = absurd (omega arith)
last-ends a (p ∷ o ∷ qs) e t (suc k) h = last-ends (a + p.1) (o ∷ qs) e (tail_of a p (o ∷ qs) e t) k (omega arith)

-- the part starts at its byte, and is as wide as its bytes
module _ {b i : ℕ} {ps : List Span} {q : Part} {qs : List Part} (s : Step b i ps q qs) where
  pub part-starts : (nth ps i).0 ≡ 8 * b
  part-starts =
      let e = own s 0 s.some in
      let f = first-at (8 * b) (take q.0 (drop i ps)) (8 * (b + q.1)) s.joined (omega (arith, own-length s, s.some)) in
      rw (add-zero i) at (ap (λ (p : Span). p.0) (sym e) ∙ f)

  pub part-wide : (a e : ℕ) → T (end_to_end a ps e) → wide ps i q.0 ≡ 8 * q.1
  unfolding wide
  part-wide a e t = go (q.0 - 1) (omega (arith, s.some))
    where
      go : (k : ℕ) → q.0 ≡ suc k → wide ps i q.0 ≡ 8 * q.1
      go k n =
          let o = own s k (omega arith) in
          let l = last-ends (8 * b) (take q.0 (drop i ps)) (8 * (b + q.1)) s.joined k (own-length s ∙ n) in
          let m : (nth ps (i + k)).0 + (nth ps (i + k)).1 ≡ 8 * (b + q.1) = (rw o at l) in
          rw n (omega (arith, place_of a ps e t i k (omega (arith, s.fits)), part-starts))

-- ---- of the plan of a list

module _ {k : Layout} {r : Plan} (p : Plans k r) where
  pub few : length (list_of k) ≤ most
  few = leb→le (length (list_of k)) most p.few

  pub short : end_in 2 (parts_in r) ≤ 32
  short = omega (arith, ends_early k, p.ends)

  pub joined : T (end_to_end 16 (list_of k) (bit_after k))
  joined = rw (← p.starts) (lists-joined k)

  -- what the routines ask of the slice
  pub room : (l : List ℕ) → bit_after k ≤ 8 * length l → end_in 2 (parts_in r) ≤ length l
  room l h = omega (arith, p.ends)

  pub next-part : (b i q : ℕ) → q < length (parts_in r) → T (cut b (drop i (list_of k)) (drop q (parts_in r)))
      → Step b i (list_of k) (get_or (parts_in r) q none) (drop (q + 1) (parts_in r))
  next-part b i q l t =
      let e = drop-cons (parts_in r) q none l in
      rw (add-one q) (step b i (list_of k) (get_or (parts_in r) q none) (drop (suc q) (parts_in r)) (rw e at t))

  pub next-end : (b q : ℕ) → q < length (parts_in r) → end_in b (drop q (parts_in r)) ≡ end_in (b + (get_or (parts_in r) q none).1) (drop (q + 1) (parts_in r))
  next-end b q l = rw (add-one q, drop-cons (parts_in r) q none l)

  -- a part ends no later than the last
  pub ends-early : (b q : ℕ) → q < length (parts_in r) → end_in b (drop q (parts_in r)) ≡ end_in 2 (parts_in r)
      → b + (get_or (parts_in r) q none).1 ≤ end_in 2 (parts_in r)
  ends-early b q l e = omega (arith, end_after (b + (get_or (parts_in r) q none).1) (drop (q + 1) (parts_in r)), next-end b q l)

  -- after the last part no place is left
  pub all-passed : (b i q : ℕ) → length (parts_in r) ≤ q → T (cut b (drop i (list_of k)) (drop q (parts_in r))) → length (list_of k) ≤ i
  all-passed b i q l t =
      let e : drop q (parts_in r) ≡ [] = drop_of_length-le (parts_in r) {i = q} l in
      let z = eqb→eq (length (drop i (list_of k))) 0 (rw e at t) in
      omega (arith, length-drop i (list_of k))

  pub sound : Sound r
  sound = record {
    few = rw p.list few;
    short = short;
    narrow = λ i. rw p.list (width_small k i);
    joined = rw (p.list, p.ends) joined;
    cut = rw p.list p.cut;
  }

-- a new list's plan is one by computation, and is sound then
pub planned : (k : Layout) (r : Plan) → start_of k ≡ 16 → places_in r ≡ list_of k → T (leb (length (list_of k)) most)
    → 8 * end_in 2 (parts_in r) ≡ bit_after k → T (cut 2 (list_of k) (parts_in r)) → Plans k r × Sound r
planned k r a l m e t =
    let p : Plans k r = record { list = l; starts = a; few = m; ends = e; cut = t } in
    (p, sound p)

-- ---- storing by parts

-- l with the first i values of the list
abbrev pub up_to : Layout → List ℕ → List ℕ → ℕ → List ℕ
up_to k l vs i = stores l (take i (list_of k)) (take i (values_of k vs))

module _ {k : Layout} {r : Plan} (p : Plans k r) (l vs : List ℕ) (bytes : Bytes l) (h : bit_after k ≤ 8 * length l) (f : Means (fit (list_of k) (values_of k vs))) where
  -- the number of a part fits its bytes
  pub part-fits : {b i x : ℕ} {q : Part} {qs : List Part} → Step b i (list_of k) q qs → x ≡ together (list_of k) (values_of k vs) i q.0 → x < 2 ^ (8 * q.1)
  part-fits {i = i} {q = q} s e =
      rw (e, ← part-wide s 16 (bit_after k) (joined p))
      (together-lt 16 (list_of k) (bit_after k) (joined p) (values_of k vs) f i q.0 s.fits)

  -- one part more
  pub part-more : {b i x : ℕ} {q : Part} {qs : List Part} {m n : List ℕ} → Step b i (list_of k) q qs → x ≡ together (list_of k) (values_of k vs) i q.0
      → m ≡ up_to k l vs i → n ≡ store m (8 * b) (8 * q.1) x → n ≡ up_to k l vs (i + q.0)
  part-more {i = i} {q = q} s e u v =
      v
      ∙ rw (u, e, ← part-starts s, ← part-wide s 16 (bit_after k) (joined p))
      (sym (stores-together 16 (list_of k) (bit_after k) (joined p) (values_of k vs) f l bytes h i q.0 s.fits))

  -- all of them
  pub parts_all : (i : ℕ) → i ≡ length (list_of k) → up_to k l vs i ≡ stores l (list_of k) (values_of k vs)
  parts_all i e =
      ap (λ (ps : List Span). stores l ps (take i (values_of k vs))) (take_all i (list_of k) (omega arith))
      ∙ ap (stores l (list_of k)) (take_all i (values_of k vs) (omega (arith, f.0)))
