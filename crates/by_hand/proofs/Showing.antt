-- One thing more of a list that is written, the parts of tables that are shown, and a line in its parts.
use Prim.Native.Nat.{ℕ, zero, suc, ◌+◌, ◌-◌, ◌*◌, ◌≤◌, ◌<◌, min}
use native.Mathlib.Nat.{min-eq_left, min-eq_right, min-le_right, add-zero}
use native.Mathlib.Decide.{dec_le}
use native.Mathlib.Numerals.{add-one}
use native.Mathlib.Omega.{arith}
use mathlib.Core.Bool.{Bool, true, false, ◌&&◌}
use mathlib.Core.Path.{◌≡◌, refl, sym, ap, ap₂, ◌∙◌}
use mathlib.Core.List.{List, [], ◌∷◌, ◌++◌}
use lib.ListN.{length, get_or, set, take, drop, length-take, length-drop}
use lib.Seq.{take_all, take-suc-set}
use lib.Dec.{eqb}
use borrow.Author.Tests.{eq-eqb, ne_eqb}
use Rattle.words.specs.Ascii.{ascii}
use Rattle.std.specs.Prelude.{Option, None}
use Rattle.std.specs.List.{range_with_len, list_all}
use Rattle.words.specs.Text.{Text, text, puts}
use Rattle.value.specs.Answer.{pick}
use Rattle.answers.specs.Lines.{Pieces, labelled}
use Rattle.memory.specs.declared.Registers.{Registers}
use Rattle.answers.specs.Dump.{state_text, frame_text, constant_text, local_text, variable_text, store_text}
use Rattle.answers.proofs.Parts.{puts-append}
use Rattle.words.proofs.Whole.{nones_stay}
use Rattle.by_hand.specs.State.{none, each, var_of, lengths_from, frame_at, pointer_at, pointers_text, variable_at, none_set, variables_text, lengths_of, frames_text, live_bytes, dump_line}

-- ---- lists of things

module _ (n i : ℕ) (f : ℕ → Pieces) (t : Text) where
  pub more-each : {u whole : Text} → i < n → u ≡ puts (f i) t → puts (each (n - i) i f) t ≡ whole → puts (each (n - (i + 1)) (i + 1) f) u ≡ whole
  unfolding each
  more-each h e w =
      let m : suc (n - (i + 1)) ≡ n - i = omega arith in
      ap (puts (each (n - (i + 1)) (i + 1) f)) e ∙ sym (puts-append (f i) (each (n - (i + 1)) (i + 1) f) t) ∙ ap (λ (k : ℕ). puts (each k i f) t) m ∙ w

  pub no_more_each : {whole : Text} → n ≤ i → puts (each (n - i) i f) t ≡ whole → t ≡ whole
  unfolding each
  no_more_each h w =
      let m : 0 ≡ n - i = omega arith in
      ap (λ (k : ℕ). puts (each k i f) t) m ∙ w

-- a thing had no room: those after it are not put
pub stopped-each : (n i : ℕ) (f : ℕ → Pieces) (t : Text) (bs : List ℕ) {whole : Text} → i < n → text None bs ≡ puts (f i) t → puts (each (n - i) i f) t ≡ whole → text None bs ≡ whole
stopped-each n i f t bs h e w = sym (nones_stay (each (n - (i + 1)) (i + 1) f) bs) ∙ more-each n i f t h e w

pub each_start : (n k : ℕ) (f : ℕ → Pieces) (t : Text) → n ≡ k → puts (each (n - 0) 0 f) t ≡ puts (each k 0 f) t
each_start n k f t h = let e : n - 0 ≡ k = omega arith in ap (λ (m : ℕ). puts (each m 0 f) t) e

-- ---- lengths

module _ (bounds : List ℕ) where
  lengths_snoc : (n k : ℕ) → lengths_from (suc n) bounds k ≡ lengths_from n bounds k ++ ((get_or bounds (k + n + 1) 0 - get_or bounds (k + n) 0) ∷ [])
  unfolding lengths_from
  lengths_snoc zero k = ap (λ (j : ℕ). (get_or bounds (j + 1) 0 - get_or bounds j 0) ∷ []) (sym (add-zero k))
  lengths_snoc (suc n) k =
      let e : k + 1 + n ≡ k + suc n = omega arith in
      ap (λ (l : List ℕ). (get_or bounds (k + 1) 0 - get_or bounds k 0) ∷ l) (lengths_snoc n (k + 1)
      ∙ ap (λ (j : ℕ). lengths_from n bounds (k + 1) ++ ((get_or bounds (j + 1) 0 - get_or bounds j 0) ∷ [])) e)

  pub one-length : (l : List ℕ) (k v : ℕ) → k < length l → take k l ≡ lengths_from k bounds 0 → v ≡ get_or bounds (k + 1) 0 - get_or bounds k 0
      → take (k + 1) (set l k v) ≡ lengths_from (k + 1) bounds 0
  one-length l k v h e q =
      let z : 0 + k ≡ k = omega arith in
      ap (λ (j : ℕ). take j (set l k v)) (add-one k) ∙ take-suc-set l k v h
      ∙ ap₂ (λ (a : List ℕ) (x : ℕ). a ++ (x ∷ [])) e (q ∙ ap (λ (j : ℕ). get_or bounds (j + 1) 0 - get_or bounds j 0) (sym z))
      ∙ sym (lengths_snoc k 0) ∙ ap (λ (j : ℕ). lengths_from j bounds 0) (sym (add-one k))

pub all_lengths : (l : List ℕ) {whole : List ℕ} (n : ℕ) → length l ≤ n → take n l ≡ whole → l ≡ whole
all_lengths l n h e = sym (take_all n l h) ∙ e

-- ---- parts of tables

same-take : (l : List ℕ) (a b : ℕ) → length l ≤ a → length l ≤ b → take a l ≡ take b l
same-take l a b h g = take_all a l h ∙ sym (take_all b l g)

pub taken : (l : List ℕ) (u n : ℕ) → n ≡ min u (length l) → take n l ≡ take u l
taken l u n e =
    elim (dec_le u (length l)) [
      | yes h ↦ ap (λ (k : ℕ). take k l) (e ∙ min-eq_left h)
      | no h ↦ let g : length l ≤ u = omega arith in ap (λ (k : ℕ). take k l) (e ∙ min-eq_right g) ∙ same-take l (length l) u (omega arith) g
    ]

pub count-taken : (l : List ℕ) (u n : ℕ) → n ≡ min u (length l) → n ≡ length (take n l)
count-taken l u n e = let h : n ≤ length l = omega (arith, min-le_right u (length l)) in sym (simp length-take (min-eq_left h))

-- from a first to a last, as far as there are
module _ (l : List ℕ) (a e from to : ℕ) (p : to ≡ min e (length l)) (q : from ≡ min a to) where
  pub between : take (to - from) (drop from l) ≡ take (e - a) (drop a l)
  between =
      elim (dec_le a to) [
        | yes h ↦ ap (λ (k : ℕ). take (to - k) (drop k l)) (q ∙ min-eq_left h) ∙ ends h
        | no h ↦ nothing h
      ]
    where
      ends : a ≤ to → take (to - a) (drop a l) ≡ take (e - a) (drop a l)
      ends h =
          elim (dec_le e (length l)) [
            | yes g ↦ ap (λ (k : ℕ). take (k - a) (drop a l)) (p ∙ min-eq_left g)
            | no g ↦ let x : length l ≤ e = omega arith in
                let y : to ≡ length l = p ∙ min-eq_right x in
                same-take (drop a l) (to - a) (e - a) (omega (arith, length-drop a l)) (omega (arith, length-drop a l))
          ]

      empty : (k : ℕ) (m : List ℕ) → length m ≡ 0 → take k m ≡ []
      empty zero m z = refl
      empty (suc k) [] z = refl
      empty (suc k) (x ∷ m) z = absurd (omega arith)

      short : (a ≤ to → ⊥) → a ≤ e → length l < a
      short h g =
          elim (dec_le e (length l)) [
            | yes s ↦ let x : to ≡ e = p ∙ min-eq_left s in absurd (h (omega arith))
            | no s ↦ let x : length l ≤ e = omega arith in let y : to ≡ length l = p ∙ min-eq_right x in omega arith
          ]

      right : (a ≤ to → ⊥) → take (e - a) (drop a l) ≡ []
      right h =
          elim (dec_le a e) [
            | yes g ↦ empty (e - a) (drop a l) (omega (arith, length-drop a l, short h g))
            | no g ↦ let z : e - a ≡ 0 = omega arith in ap (λ (k : ℕ). take k (drop a l)) z
          ]

      nothing : (a ≤ to → ⊥) → take (to - from) (drop from l) ≡ take (e - a) (drop a l)
      nothing h =
          let g : to ≤ a = omega arith in
          let x : from ≡ to = q ∙ min-eq_right g in
          let y : to - from ≡ 0 = omega arith in
          ap (λ (k : ℕ). take k (drop from l)) y ∙ sym (right h)

-- ---- variables

pub all-unset : (vs : List ℕ) (n i : ℕ) → list_all (λ (k : ℕ). eqb (get_or vs (k * 2) 0) 0) (range_with_len i n) ≡ none_set n vs i
unfolding none_set
all-unset vs zero i = refl
all-unset vs (suc n) i = ap (λ (b : Bool). eqb (get_or vs (i * 2) 0) 0 && b) (all-unset vs n (i + 1))

-- ---- frames, pointers and variables as they are shown

module _ (fr ls : List ℕ) (i : ℕ) {id place w₇ w₃ w₂ to from : ℕ} {v : Option ℕ} {t : Text} (u : Text) where
  pub frame-shown : w₇ ≡ get_or fr (i * 4 + 7) 0 → to ≡ min w₇ (length ls) → w₃ ≡ get_or fr (i * 4 + 3) 0 → from ≡ min w₃ to → w₂ ≡ get_or fr (i * 4 + 2) 0 → v ≡ var_of w₂
      → id ≡ get_or fr (i * 4) 0 → place ≡ get_or fr (i * 4 + 1) 0 → t ≡ puts (frame_text id place v (take (to - from) (drop from ls))) u → t ≡ puts (frame_at fr ls i) u
  frame-shown a p b q c d e f h =
      let g = between ls w₃ w₇ from to p q in
      let x : v ≡ var_of (get_or fr (i * 4 + 2) 0) = d ∙ ap var_of c in
      let y : take (to - from) (drop from ls) ≡ take (get_or fr (i * 4 + 7) 0 - get_or fr (i * 4 + 3) 0) (drop (get_or fr (i * 4 + 3) 0) ls) = g ∙ ap₂ (λ (m n : ℕ). take (m - n) (drop n ls)) a b in
      h ∙ ap₂ (λ (m n : ℕ). puts (frame_text m n v (take (to - from) (drop from ls))) u) e f
      ∙ ap₂ (λ (m : Option ℕ) (n : List ℕ). puts (frame_text (get_or fr (i * 4) 0) (get_or fr (i * 4 + 1) 0) m n) u) x y

module _ (ps : List ℕ) (p : ℕ) {kind index : ℕ} (u : Text) {t : Text} (k : kind ≡ get_or ps (p * 5) 0) (x : index ≡ get_or ps (p * 5 + 1) 0) where
  pub constant-shown : (kind ≡ 0 → ⊥) → t ≡ puts (constant_text index) u → t ≡ puts (pointer_at ps p) u
  constant-shown n h = rw (ne_eqb (get_or ps (p * 5) 0) 0 (λ z. n (k ∙ z))) (h ∙ ap (λ (m : ℕ). puts (constant_text m) u) x)

  pub local-shown : {id allocation offset : ℕ} → kind ≡ 0 → id ≡ get_or ps (p * 5 + 2) 0 → allocation ≡ get_or ps (p * 5 + 3) 0 → offset ≡ get_or ps (p * 5 + 4) 0
      → t ≡ puts (local_text index id allocation offset) u → t ≡ puts (pointer_at ps p) u
  local-shown {id} {allocation} {offset} z a b c h =
      rw (eq-eqb (get_or ps (p * 5) 0) 0 (sym k ∙ z))
      (h ∙ ap₂ (λ (m n : ℕ). puts (local_text m n allocation offset) u) x a ∙ ap₂ (λ (m n : ℕ). puts (local_text (get_or ps (p * 5 + 1) 0) (get_or ps (p * 5 + 2) 0) m n) u) b c)

module _ (vs : List ℕ) (i : ℕ) {tag : ℕ} (u : Text) (k : tag ≡ get_or vs (i * 2) 0) where
  pub unset-shown : tag ≡ 0 → u ≡ puts (variable_at vs i) u
  unset-shown z = rw (eq-eqb (get_or vs (i * 2) 0) 0 (sym k ∙ z))

  pub set-shown : {bits : ℕ} {t : Text} → (tag ≡ 0 → ⊥) → bits ≡ get_or vs (i * 2 + 1) 0 → t ≡ puts (variable_text i tag bits) u → t ≡ puts (variable_at vs i) u
  set-shown n b h = rw (ne_eqb (get_or vs (i * 2) 0) 0 (λ z. n (k ∙ z))) (h ∙ ap₂ (λ (m n : ℕ). puts (variable_text i m n) u) k b)

-- ---- the parts of the line

module _ (n : ℕ) (ps : List ℕ) {r a : Text} (t : Text) (p : a ≡ puts (labelled (ascii " | ") n) t) where
  pub no_pointers : n ≡ 0 → r ≡ puts none a → r ≡ puts (pointers_text n ps) t
  no_pointers z h = rw (eq-eqb n 0 z) (h ∙ ap (puts none) p)

  pub some-pointers : (n ≡ 0 → ⊥) → {k : ℕ} → k ≡ min n 4096 → r ≡ puts (each k 0 (pointer_at ps)) a → r ≡ puts (pointers_text n ps) t
  some-pointers z e h =
      rw (ne_eqb n 0 z) (h ∙ ap₂ (λ (m : ℕ) (x : Text). puts (each m 0 (pointer_at ps)) x) e p)

module _ (vs : List ℕ) {set : Bool} {r a : Text} (t : Text) (p : a ≡ puts (ascii " |" ∷ []) t) (s : set ≡ none_set 256 vs 0) where
  pub no_variables : set ≡ true → r ≡ puts none a → r ≡ puts (variables_text vs) t
  no_variables z h = rw (sym s ∙ z) (h ∙ ap (puts none) p)

  pub some-variables : set ≡ false → r ≡ puts (each 256 0 (variable_at vs)) a → r ≡ puts (variables_text vs) t
  some-variables z h = rw (sym s ∙ z) (h ∙ ap (puts (each 256 0 (variable_at vs))) p)

-- a part had no room: those after it are not put
stops : (a b : Pieces) (t : Text) (bs : List ℕ) → text None bs ≡ puts a t → text None bs ≡ puts (a ++ b) t
stops a b t bs h = sym (puts-append a b t ∙ ap (puts b) (sym h) ∙ nones_stay b bs)

then : (a b : Pieces) (t : Text) {t₁ t₂ : Text} → t₁ ≡ puts a t → t₂ ≡ puts b t₁ → t₂ ≡ puts (a ++ b) t
then a b t p q = q ∙ ap (puts b) p ∙ sym (puts-append a b t)

pub pointers-stop : (n : ℕ) (ps : List ℕ) (t : Text) (bs : List ℕ) → text None bs ≡ puts (labelled (ascii " | ") n) t → text None bs ≡ puts (pointers_text n ps) t
pointers-stop n ps t bs h = stops (labelled (ascii " | ") n) (pick (eqb n 0) none (each (min n 4096) 0 (pointer_at ps))) t bs h

pub variables-stop : (vs : List ℕ) (t : Text) (bs : List ℕ) → text None bs ≡ puts (ascii " |" ∷ []) t → text None bs ≡ puts (variables_text vs) t
variables-stop vs t bs h = stops (ascii " |" ∷ []) (pick (none_set 256 vs 0) none (each 256 0 (variable_at vs))) t bs h

module _ (m : Registers) (store fr bounds ps vs : List ℕ) (t : Text) where
  abbrev first : Pieces
  first = state_text m.running m.next m.counter

  abbrev second : Pieces
  second = frames_text m.depth fr (lengths_of bounds)

  abbrev third : Pieces
  third = pointers_text m.pointers ps

  abbrev fourth : Pieces
  fourth = variables_text vs

  abbrev fifth : Pieces
  fifth = store_text (take (live_bytes m.depth fr bounds) store)

  pub state-stops : (bs : List ℕ) → text None bs ≡ puts (state_text m.running m.next m.counter) t → text None bs ≡ puts (dump_line m store fr bounds ps vs) t
  state-stops bs h = stops (first ++ second ++ third ++ fourth) fifth t bs (stops (first ++ second ++ third) fourth t bs (stops (first ++ second) third t bs (stops first second t bs h)))

  module _ (t₁ : Text) (ls : List ℕ) (a : t₁ ≡ puts (state_text m.running m.next m.counter) t) (l : ls ≡ lengths_of bounds) where
    framed : {u : Text} → u ≡ puts (frames_text m.depth fr ls) t₁ → u ≡ puts (first ++ second) t
    framed b = then first second t a (b ∙ ap (λ (x : List ℕ). puts (frames_text m.depth fr x) t₁) l)

    pub frames-stop : (bs : List ℕ) → text None bs ≡ puts (frames_text m.depth fr ls) t₁ → text None bs ≡ puts (dump_line m store fr bounds ps vs) t
    frames-stop bs h = stops (first ++ second ++ third ++ fourth) fifth t bs (stops (first ++ second ++ third) fourth t bs (stops (first ++ second) third t bs (framed h)))

    module _ (t₂ : Text) (b : t₂ ≡ puts (frames_text m.depth fr ls) t₁) where
      pub pointed_stop : (bs : List ℕ) → text None bs ≡ puts (pointers_text m.pointers ps) t₂ → text None bs ≡ puts (dump_line m store fr bounds ps vs) t
      pointed_stop bs h = stops (first ++ second ++ third ++ fourth) fifth t bs (stops (first ++ second ++ third) fourth t bs (then (first ++ second) third t (framed b) h))

      module _ (t₃ : Text) (c : t₃ ≡ puts (pointers_text m.pointers ps) t₂) where
        pub varied_stop : (bs : List ℕ) → text None bs ≡ puts (variables_text vs) t₃ → text None bs ≡ puts (dump_line m store fr bounds ps vs) t
        varied_stop bs h = stops (first ++ second ++ third ++ fourth) fifth t bs (then (first ++ second ++ third) fourth t (then (first ++ second) third t (framed b) c) h)

        pub dump-shown : (t₄ : Text) {t₅ : Text} (live used : ℕ) → t₄ ≡ puts (variables_text vs) t₃ → live ≡ live_bytes m.depth fr bounds → used ≡ min live (length store)
            → t₅ ≡ puts (store_text (take used store)) t₄ → t₅ ≡ puts (dump_line m store fr bounds ps vs) t
        dump-shown t₄ live used d n u e =
            then (first ++ second ++ third ++ fourth) fifth t (then (first ++ second ++ third) fourth t (then (first ++ second) third t (framed b) c) d)
            (e ∙ ap (λ (x : List ℕ). puts (store_text x) t₄) (taken store live used u ∙ ap (λ (k : ℕ). take k store) n))
