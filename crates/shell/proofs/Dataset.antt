-- The dataset as the code makes it: zeros, the values into them, and SECR after them. Assumes nothing.
use mathlib.Core.Path.{◌≡◌, ◌∙◌, ap, sym}
use mathlib.Core.List.{List, [], ◌++◌, append-nil}
use Prim.Native.Nat.{ℕ, ◌-◌, ◌/◌, ◌%◌, ◌<◌}
use native.Mathlib.Omega.{arith}
use lib.ListN.{length, take, drop, replicate, length-replicate, length-drop}
use borrow.Rule.Slice.PartMut.{put_mid}
use Rattle.std.proofs.lemmas.List.{take_at, drop_all}
use Rattle.crc.specs.Crc.{crc}
use Rattle.std.specs.Int.{w16, to_be_bytes}
use Rattle.fields.specs.Lists as lists
use Rattle.fields.proofs.Laws.{length-stores}
use Rattle.shell.specs.Shell.{dataset_of, body_of, encoded_shell}

pub length_body : (vs : List ℕ) → length (body_of vs) ≡ dataset_of vs - 2
unfolding body_of
length_body vs =
    length-stores (replicate (dataset_of vs - 2) 0) lists.shell vs ∙ length-replicate {A = ℕ} (dataset_of vs - 2) 0

pub crc_small : (l : List ℕ) → crc l < 65536
unfolding crc
crc_small l = omega arith

-- the values' bytes, and SECR in two bytes after them
pub joined : (vs : List ℕ) {body secr : List ℕ} {x : ℕ} → body ≡ body_of vs → x ≡ crc body → secr ≡ to_be_bytes w16 x → body ++ secr ≡ encoded_shell vs
unfolding encoded_shell
joined vs {body} {secr} {x} b e s =
    let high : x / 256 % 256 ≡ x / 256 = omega (arith, crc_small body) in
    rw (s, high, e, b)

-- the same where SECR goes to what lay after the values' bytes
pub joined_in : (vs rest : List ℕ) {body secr : List ℕ} {x e k : ℕ} → body ≡ body_of vs → e ≡ dataset_of vs - 2 → k ≡ length (body ++ rest) - e → x ≡ crc (take e (body ++ rest)) → secr ≡ to_be_bytes w16 x
    → put_mid e k (body ++ rest) secr ≡ encoded_shell vs
joined_in vs rest {body} {secr} {x} {e} {k} b n m sum s =
    let front : take e (body ++ rest) ≡ body = take_at body rest e (ap length b ∙ length_body vs ∙ sym n) in
    let none : drop k (drop e (body ++ rest)) ≡ [] = drop_all k (drop e (body ++ rest)) (omega (arith, length-drop e (body ++ rest))) in
    (λ i. front i ++ (secr ++ none i)) ∙ ap (λ l. body ++ l) (append-nil secr) ∙ joined vs b (sum ∙ ap crc front) s
