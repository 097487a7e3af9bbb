-- Laws of lists: filling, pasting and tabulating, by index.
use mathlib.Core.Path.{◌≡◌, ap, ◌∙◌, sym}
use mathlib.Core.List.{List, append-nil}
use Prim.Native.Nat.{ℕ, ◌+◌, ◌-◌, ◌<◌, ◌≤◌, zero, suc}
use native.Mathlib.Numerals.{add-one}
use native.Mathlib.Nat.{zero-add}
use native.Mathlib.Omega.{arith}
use lib.ListN.{get_or, set, length, take, drop, replicate, length-replicate, get_or-replicate}
use lib.Seq.{paste, paste-zero, paste-suc, get_or-drop, drop-length}
use borrow.Rule.Slice.PartMut.{mid_of, put_mid}
use Rattle.std.proofs.lemmas.Slice.{put_mid-paste}
use Rattle.memory.specs.Tables.{zeroed}
use Rattle.memory.proofs.Tab.{part_length}

pub filled : (d : List ℕ) (at : ℕ) (s : List ℕ) (i : ℕ) → i < length d → i < length (drop at s)
    → set (paste d 0 (drop at s) i) i (get_or s (at + i) 0) ≡ paste d 0 (drop at s) (i + 1)
filled d at s i h k =
    let l : 0 + i < length d = omega arith in
    ap (λ v. set (paste d 0 (drop at s) i) i v) (sym (get_or-drop at s i 0))
    ∙ ap (λ j. set (paste d 0 (drop at s) i) j (get_or (drop at s) i 0)) (sym (zero-add i))
    ∙ paste-suc d 0 (drop at s) i 0 l k ∙ ap (paste d 0 (drop at s)) (sym (add-one i))

pub full : (d t : List ℕ) → paste d 0 t (length d) ≡ take (length d) t
full d t = simp (zero-add, drop-length, append-nil)

-- zeroing is pasting zeros
pub zeroed_paste : (l : List ℕ) (from n k : ℕ) → k ≤ n → from + n ≤ length l → zeroed l from k ≡ paste l from (replicate n 0) k
unfolding zeroed
zeroed_paste l from n zero h f = paste-zero l from (replicate n 0)
zeroed_paste l from n (suc k) h f =
    let r : length {A = ℕ} (replicate n 0) ≡ n = length-replicate n 0 in
    ap (λ x. set x (from + k) 0) (zeroed_paste l from n k (omega arith) f)
    ∙ ap (λ v. set (paste l from (replicate n 0) k) (from + k) v) (sym (get_or-replicate n k 0 0 (omega arith)))
    ∙ paste-suc l from (replicate n 0) k 0 (omega arith) (omega arith)

-- what a part that is filled by 0 leaves
pub filled_part : (l ys : List ℕ) (from n : ℕ) → from + n ≤ length l → ys ≡ replicate (length (mid_of from (from + n - from) l)) 0
    → put_mid from (from + n - from) l ys ≡ zeroed l from n
filled_part l ys from n fits e =
    let k : from + n - from ≡ n = omega arith in
    let m : length (mid_of from (from + n - from) l) ≡ n = ap (λ x. length (mid_of from x l)) k ∙ part_length l from n fits in
    put_mid-paste from (from + n - from) l ys (replicate n 0) n (e ∙ ap (λ x. replicate x 0) m) (sym k) (sym (length-replicate n 0))
    ∙ sym (zeroed_paste l from n n (omega arith) fits)
