-- Lists by index: tables of a function, sequences that never fall, and parts of a list that was pasted into.
use mathlib.Core.Path.{◌≡◌, refl, ap, ◌∙◌, sym}
use mathlib.Core.List.{List, [], ◌∷◌, ◌++◌}
use Prim.Native.Nat.{ℕ, ◌+◌, ◌-◌, ◌<◌, ◌≤◌, zero, suc}
use native.Mathlib.Numerals.{add-one}
use native.Mathlib.Nat.{not-suc-le-zero}
use native.Mathlib.Omega.{arith}
use lib.ListN.{get_or, set, length, take, drop, length-drop, length-append, length-set, get_or-append}
use lib.Seq.{paste, length_paste_head, length-paste, get_or-take, get_or-drop, get_or-append-add, get_or-append_seam, get_or-set_same, get_or-set_other, ext_get_or, length-take-le}
use borrow.Author.Tests.{ltb-true, ltb-false, leb-true, leb-false, eqb-true, eqb-false}
use lib.Dec.{ltb, leb, eqb}
use Rattle.memory.specs.View.{tab, part}
use Rattle.memory.proofs.Every.{by_test}

pub tab-none : {A : Type 0} (f : ℕ → A) → tab 0 f ≡ []
unfolding tab
tab-none f = refl

pub tab-more : {A : Type 0} (n : ℕ) (f : ℕ → A) → tab (n + 1) f ≡ tab n f ++ (f n ∷ [])
unfolding tab
tab-more n f = rw add-one

pub length-tab : {A : Type 0} (n : ℕ) (f : ℕ → A) → length (tab n f) ≡ n
unfolding tab
length-tab zero f = refl
length-tab (suc n) f = length-append (tab n f) (f n ∷ []) ∙ ap (λ k. k + 1) (length-tab n f) ∙ add-one n

-- f and g need agree below n only
pub tab-same : {A : Type 0} (n : ℕ) (f g : ℕ → A) → ((i : ℕ) → i < n → f i ≡ g i) → tab n f ≡ tab n g
unfolding tab
tab-same zero f g h = refl
tab-same (suc n) f g h = ap (λ l. l ++ (f n ∷ [])) (tab-same n f g (λ i k. h i (omega arith))) ∙ ap (λ x. tab n g ++ (x ∷ [])) (h n (omega arith))

pub get_d_tab : {A : Type 0} (n : ℕ) (f : ℕ → A) (i : ℕ) (d : A) → i < n → get_or (tab n f) i d ≡ f i
unfolding tab
get_d_tab zero f i d h = absurd (not-suc-le-zero h)
get_d_tab (suc n) f i d h =
    by_test (ltb i n)
    (λ t. let k : i < n = ltb-true i n t in
    get_or-append (tab n f) (f n ∷ []) d i (rw (length-tab n f) k) ∙ get_d_tab n f i d k)
    (λ t. let k : n ≤ i = ltb-false i n t in
    let e : i ≡ n = omega arith in
    ap (λ j. get_or (tab n f ++ (f n ∷ [])) j d) (e ∙ sym (length-tab n f)) ∙ get_or-append_seam (tab n f) (f n) [] d ∙ ap f (sym e))

-- a change of one element
pub tab-set : {A : Type 0} (n : ℕ) (f g : ℕ → A) (i : ℕ) (x : A) → i < n → g i ≡ x → ((j : ℕ) → j < n → (j ≡ i → ⊥) → g j ≡ f j)
    → tab n g ≡ set (tab n f) i x
tab-set n f g i x h e o =
    ext_get_or x (tab n g) (set (tab n f) i x) (length-tab n g ∙ sym (length-set (tab n f) i x ∙ length-tab n f))
    (λ j k. let l : j < n = rw (length-tab n g) at k in
    by_test (eqb j i)
    (λ t. let q : j ≡ i = eqb-true j i t in
    rw q (get_d_tab n g i x h ∙ e ∙ sym (get_or-set_same (tab n f) i x x (rw (length-tab n f) h))))
    (λ t. let q = eqb-false j i t in
    get_d_tab n g j x l ∙ o j l q ∙ sym (get_or-set_other (tab n f) i j x x q ∙ get_d_tab n f j x l)))

ap_le : (f : ℕ → ℕ) {i j : ℕ} → i ≡ j → f i ≤ f j
ap_le f e = let q = ap f e in omega arith

-- a sequence that never falls
pub mono : (f : ℕ → ℕ) (n : ℕ) → ((i : ℕ) → i < n → f i ≤ f (i + 1)) → (i j : ℕ) → i ≤ j → j ≤ n → f i ≤ f j
mono f n up i zero h k = let e : i ≡ 0 = omega arith in ap_le f e
mono f n up i (suc j) h k =
    by_test (leb i j)
    (λ t. let a : f i ≤ f j = mono f n up i j (leb-true i j t) (omega arith) in
    let b : f j ≤ f (suc j) = rw add-one at (up j (omega arith)) in
    omega arith)
    (λ t. let q : j < i = leb-false i j t in
    let e : i ≡ suc j = omega arith in
    ap_le f e)

-- ---- parts of a list that was pasted into

module _ (d : List ℕ) (at : ℕ) (s : List ℕ) (n : ℕ) (fits : at + n ≤ length d) (has : n ≤ length s) where
  head : length (take at d ++ take n s) ≡ at + n
  head = length_paste_head d at s n (omega arith) has

  pub paste_before : (i : ℕ) → i < at → get_or (paste d at s n) i 0 ≡ get_or d i 0
  paste_before i h =
      let e = head in
      let f : length (take at d) ≡ at = length-take-le at d (omega arith) in
      get_or-append (take at d ++ take n s) (drop (at + n) d) 0 i (omega arith)
      ∙ get_or-append (take at d) (take n s) 0 i (omega arith)
      ∙ get_or-take at d i 0 h

  pub paste_in : (i : ℕ) → i < n → get_or (paste d at s n) (at + i) 0 ≡ get_or s i 0
  paste_in i h =
      let e = head in
      let f : length (take at d) ≡ at = length-take-le at d (omega arith) in
      get_or-append (take at d ++ take n s) (drop (at + n) d) 0 (at + i) (omega arith)
      ∙ ap (λ j. get_or (take at d ++ take n s) (j + i) 0) (sym f)
      ∙ get_or-append-add (take at d) (take n s) i 0
      ∙ get_or-take n s i 0 h

  pub paste_after : (i : ℕ) → at + n ≤ i → get_or (paste d at s n) i 0 ≡ get_or d i 0
  paste_after i h =
      let e = head in
      let j : i ≡ length (take at d ++ take n s) + (i - (at + n)) = omega arith in
      let k : at + n + (i - (at + n)) ≡ i = omega arith in
      ap (λ x. get_or (paste d at s n) x 0) j
      ∙ get_or-append-add (take at d ++ take n s) (drop (at + n) d) (i - (at + n)) 0
      ∙ get_or-drop (at + n) d (i - (at + n)) 0
      ∙ ap (λ x. get_or d x 0) k

pub part_length : (s : List ℕ) (x n : ℕ) → x + n ≤ length s → length (part s x n) ≡ n
part_length s x n h = length-take-le n (drop x s) (rw length-drop (omega arith))

pub part_at : (s : List ℕ) (x n i : ℕ) → i < n → get_or (part s x n) i 0 ≡ get_or s (x + i) 0
part_at s x n i h = get_or-take n (drop x s) i 0 h ∙ get_or-drop x s i 0

module _ (d : List ℕ) (at : ℕ) (s : List ℕ) (n : ℕ) (fits : at + n ≤ length d) (has : n ≤ length s) where
  pub part_apart : (x m : ℕ) → x + m ≤ length d → ((i : ℕ) → i < m → get_or (paste d at s n) (x + i) 0 ≡ get_or d (x + i) 0)
      → part (paste d at s n) x m ≡ part d x m
  part_apart x m h o =
      let l = length-paste d at s n fits has in
      let p : length (part (paste d at s n) x m) ≡ m = part_length (paste d at s n) x m (omega arith) in
      ext_get_or 0 (part (paste d at s n) x m) (part d x m) (p ∙ sym (part_length d x m h))
      (λ i k. let q : i < m = omega arith in
      part_at (paste d at s n) x m i q ∙ o i q ∙ sym (part_at d x m i q))

  pub part-below : (x m : ℕ) → x + m ≤ at → part (paste d at s n) x m ≡ part d x m
  part-below x m h = part_apart x m (omega arith) (λ i k. paste_before d at s n fits has (x + i) (omega arith))

  pub part-above : (x m : ℕ) → at + n ≤ x → x + m ≤ length d → part (paste d at s n) x m ≡ part d x m
  part-above x m h k = part_apart x m k (λ i l. paste_after d at s n fits has (x + i) (omega arith))

-- the paste lies in the part
pub part_in : (d : List ℕ) (x m offset : ℕ) (s : List ℕ) (n : ℕ) → x + m ≤ length d → offset + n ≤ m → n ≤ length s
    → part (paste d (x + offset) s n) x m ≡ paste (part d x m) offset s n
part_in d x m offset s n h f has =
    let fits : x + offset + n ≤ length d = omega arith in
    let l = length-paste d (x + offset) s n fits has in
    let p : length (part (paste d (x + offset) s n) x m) ≡ m = part_length (paste d (x + offset) s n) x m (omega arith) in
    let r = part_length d x m h in
    let w : offset + n ≤ length (part d x m) = omega arith in
    let q : length (paste (part d x m) offset s n) ≡ m = length-paste (part d x m) offset s n w has ∙ r in
    ext_get_or 0 (part (paste d (x + offset) s n) x m) (paste (part d x m) offset s n) (p ∙ sym q)
    (λ i k. let b : i < m = omega arith in
    part_at (paste d (x + offset) s n) x m i b
    ∙ by_test (ltb i offset)
    (λ t. let c : i < offset = ltb-true i offset t in
    paste_before d (x + offset) s n fits has (x + i) (omega arith) ∙ sym (paste_before (part d x m) offset s n w has i c ∙ part_at d x m i b))
    (λ t. let c : offset ≤ i = ltb-false i offset t in
    by_test (ltb i (offset + n))
    (λ u. let e : i < offset + n = ltb-true i (offset + n) u in
    let g : x + i ≡ x + offset + (i - offset) = omega arith in
    let j : offset + (i - offset) ≡ i = omega arith in
    ap (λ y. get_or (paste d (x + offset) s n) y 0) g ∙ paste_in d (x + offset) s n fits has (i - offset) (omega arith)
    ∙ sym (paste_in (part d x m) offset s n w has (i - offset) (omega arith)) ∙ ap (λ y. get_or (paste (part d x m) offset s n) y 0) j)
    (λ u. let e : offset + n ≤ i = ltb-false i (offset + n) u in
    paste_after d (x + offset) s n fits has (x + i) (omega arith) ∙ sym (paste_after (part d x m) offset s n w has i e ∙ part_at d x m i b))))

pub part-part : (l : List ℕ) (x m offset n : ℕ) → x + m ≤ length l → offset + n ≤ m → part l (x + offset) n ≡ part (part l x m) offset n
part-part l x m offset n h k =
    let p = part_length l x m h in
    let q : length (part l (x + offset) n) ≡ n = part_length l (x + offset) n (omega arith) in
    let r : length (part (part l x m) offset n) ≡ n = part_length (part l x m) offset n (omega arith) in
    ext_get_or 0 (part l (x + offset) n) (part (part l x m) offset n) (q ∙ sym r)
    (λ i g. let b : i < n = omega arith in
    let e : x + offset + i ≡ x + (offset + i) = omega arith in
    part_at l (x + offset) n i b ∙ ap (λ j. get_or l j 0) e ∙ sym (part_at (part l x m) offset n i b ∙ part_at l x m (offset + i) (omega arith)))
