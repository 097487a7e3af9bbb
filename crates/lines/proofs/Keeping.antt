-- What the code keeps of a line: stores past the buffer's end do nothing, so a part's bytes may be cut at the room that is left.
use Prim.Native.Nat.{ℕ, zero, suc, ◌+◌, ◌-◌, ◌<◌, ◌≤◌, min}
use native.Mathlib.Nat.{min-eq_left, min-eq_right, min-le_left, min-le_right}
use native.Mathlib.Decide.{dec_le}
use native.Mathlib.Omega.{arith}
use mathlib.Core.Bool.{Bool, false}
use mathlib.Core.Path.{◌≡◌, refl, sym, ap, ◌∙◌}
use mathlib.Core.List.{List, [], ◌∷◌}
use lib.ListN.{length, take, drop, set, length-take, length-set, length-drop, drop_of_length-le}
use lib.Seq.{sets, set_out, take-nil, take-take, take_all, length-take-le}
use lib.Dec.{ltb}
use borrow.Rule.Slice.PartMut.{put_mid}
use borrow.Author.Tests.{lt-ltb, le-ltb}
use Rattle.words.specs.Words.{until}
use Rattle.words.proofs.Parting.{until-within}
use Rattle.words.proofs.Pieces.{part-sets}
use Rattle.lines.specs.Held.{line_in, held_after}
use Rattle.lines.specs.declared.Held.{Held}

-- ---- stores that have no room

past_end : (l : List ℕ) (i : ℕ) (vs : List ℕ) → length l ≤ i → sets l i vs ≡ l
past_end l i [] h = refl
past_end l i (a ∷ vs) h = ap (λ (m : List ℕ). sets m (suc i) vs) (set_out l i a h) ∙ past_end l (suc i) vs (omega arith)

pub cut : (l : List ℕ) (i n : ℕ) (vs : List ℕ) → n ≡ length l - i → sets l i vs ≡ sets l i (take n vs)
cut l i n [] e = ap (sets l i) (sym (take-nil n))
cut l i zero (a ∷ vs) e = past_end l i (a ∷ vs) (omega arith)
cut l i (suc n) (a ∷ vs) e = cut (set l i a) (suc i) n vs (omega (arith, length-set l i a))

-- ---- the part's bytes that are stored

pub least-left : (a b r : ℕ) → r ≡ min a b → r ≤ a
least-left a b r e = omega (arith, min-le_left a b)

least_right : (a b r : ℕ) → r ≡ min a b → r ≤ b
least_right a b r e = omega (arith, min-le_right a b)

module _ (l s : List ℕ) (kept u from n : ℕ) (h : from ≡ min kept (length l)) (g : n ≡ min u (length l - from)) where
  cut_at : take n s ≡ take (length l - from) (take u s)
  cut_at =
      elim (dec_le u (length l - from)) [
        | yes e ↦
            let q : n ≡ u = g ∙ min-eq_left e in
            ap (λ (k : ℕ). take k s) q ∙ sym (take_all (length l - from) (take u s) (omega (arith, length-take u s)))
        | no e ↦
            let q : n ≡ length l - from = g ∙ min-eq_right (omega arith) in
            ap (λ (k : ℕ). take k s) q ∙ sym (take-take (length l - from) u s (omega arith))
      ]

  pub kept-bytes : sets l from (take n s) ≡ sets l kept (take u s)
  kept-bytes =
      elim (dec_le kept (length l)) [
        | yes e ↦
            let q : from ≡ kept = h ∙ min-eq_left e in
            ap (sets l from) cut_at ∙ sym (cut l from (length l - from) (take u s) refl) ∙ ap (λ (k : ℕ). sets l k (take u s)) q
        | no e ↦
            let q : from ≡ length l = h ∙ min-eq_right (omega arith) in
            past_end l from (take n s) (omega arith) ∙ sym (past_end l kept (take u s) (omega arith))
      ]

  pub kept-length : from + n ≡ min (length l) (kept + u)
  kept-length =
      elim (dec_le kept (length l)) [
        | yes e ↦
            let q : from ≡ kept = h ∙ min-eq_left e in
            elim (dec_le u (length l - from)) [
              | yes f ↦ let r : n ≡ u = g ∙ min-eq_left f in let m = min-eq_right {n = kept + u} {m = length l} (omega arith) in omega arith
              | no f ↦ let r : n ≡ length l - from = g ∙ min-eq_right (omega arith) in let m = min-eq_left {n = length l} {m = kept + u} (omega arith) in omega arith
            ]
        | no e ↦
            let q : from ≡ length l = h ∙ min-eq_right (omega arith) in
            let r : n ≡ 0 = g ∙ min-eq_right {n = length l - from} {m = u} (omega arith) ∙ omega arith in
            let m = min-eq_left {n = length l} {m = kept + u} (omega arith) in
            omega arith
      ]

-- ---- the answer

same-held : {a b a' b' : ℕ} {c c' : Bool} → a ≡ a' → b ≡ b' → c ≡ c' → ◌≡◌ {A = Held} (record { length = a; at = b; whole = c }) (record { length = a'; at = b'; whole = c' })
same-held p q r = cc

module _ (l s : List ℕ) (kept at from : ℕ) (h : from ≡ min kept (length l)) where
  -- the input was taken to its end
  pub nothing_left : length s ≤ at → (record { length = from; at = at; whole = false } ≡ held_after (length l) kept at (drop at s)) × (l ≡ sets l kept (line_in (drop at s)))
  unfolding held_after until
  nothing_left past =
      let k = kept-length l [] kept 0 from 0 h (sym (min-eq_left {n = 0} {m = length l - from} (omega arith))) in
      rw (drop_of_length-le s past) (same-held (omega arith) (omega arith) refl, refl)

  module _ (end n : ℕ) (there : at < length s) (e : end ≡ at + until 10 (drop at s)) (g : n ≡ min (end - at) (length l - from)) where
    count : n ≡ min (until 10 (drop at s)) (length l - from)
    count = let q : end - at ≡ until 10 (drop at s) = omega arith in g ∙ ap (λ (k : ℕ). min k (length l - from)) q

    -- the part's bytes that are stored have room, and lie in the input
    pub has_room : from + n ≤ length l
    has_room = omega (arith, least_right kept (length l) from h, least_right (until 10 (drop at s)) (length l - from) n count)

    pub in_input : at + n ≤ length s
    in_input = omega (arith, until-within 10 (drop at s), length-drop at s, least-left (until 10 (drop at s)) (length l - from) n count)

    pub part_length : length (take (at + n - at) (drop at s)) ≡ n
    part_length = length-take-le (at + n - at) (drop at s) (omega (arith, in_input, length-drop at s)) ∙ omega arith

    stored : put_mid from (from + n - from) l (take (at + n - at) (drop at s)) ≡ sets l kept (line_in (drop at s))
    stored =
        let q : at + n - at ≡ n = omega arith in
        part-sets from (from + n - from) l (take (at + n - at) (drop at s)) (part_length ∙ omega arith) (omega (arith, has_room))
        ∙ ap (λ (k : ℕ). sets l from (take k (drop at s))) q
        ∙ kept-bytes l (drop at s) kept (until 10 (drop at s)) from n h count

    -- the line ends in the input, or goes on
    place-after : (next : ℕ) → (end < length s → next ≡ end + 1) → (length s ≤ end → next ≡ end) → next ≡ at + min (until 10 (drop at s) + 1) (length (drop at s))
    place-after next x y =
        let d = length-drop at s in
        let u = until-within 10 (drop at s) in
        elim (dec_le (length s) end) [
          | yes z ↦ let m = min-eq_right {n = length (drop at s)} {m = until 10 (drop at s) + 1} (omega arith) in omega (arith, y z)
          | no z ↦ let m = min-eq_left {n = until 10 (drop at s) + 1} {m = length (drop at s)} (omega arith) in omega (arith, x (omega arith))
        ]

    ends : ltb end (length s) ≡ ltb (until 10 (drop at s)) (length (drop at s))
    ends =
        let d = length-drop at s in
        elim (dec_le (length s) end) [
          | yes z ↦ le-ltb end (length s) z ∙ sym (le-ltb (until 10 (drop at s)) (length (drop at s)) (omega arith))
          | no z ↦ lt-ltb end (length s) (omega arith) ∙ sym (lt-ltb (until 10 (drop at s)) (length (drop at s)) (omega arith))
        ]

    held : (next : ℕ) → (end < length s → next ≡ end + 1) → (length s ≤ end → next ≡ end) → {part : List ℕ} → part ≡ take (at + n - at) (drop at s)
        → (record { length = from + n; at = next; whole = ltb end (length s) } ≡ held_after (length l) kept at (drop at s)) × (put_mid from (from + n - from) l part ≡ sets l kept (line_in (drop at s)))
    unfolding held_after
    held next x y p =
        (same-held (kept-length l (drop at s) kept (until 10 (drop at s)) from n h count) (place-after next x y) ends, ap (put_mid from (from + n - from) l) p ∙ stored)

    pub line-ends : end < length s → {part : List ℕ} → part ≡ take (at + n - at) (drop at s)
        → (record { length = from + n; at = end + 1; whole = ltb end (length s) } ≡ held_after (length l) kept at (drop at s)) × (put_mid from (from + n - from) l part ≡ sets l kept (line_in (drop at s)))
    line-ends z p = held (end + 1) (λ k. refl) (λ k. absurd (omega arith)) p

    pub line_goes_on : length s ≤ end → {part : List ℕ} → part ≡ take (at + n - at) (drop at s)
        → (record { length = from + n; at = end; whole = ltb end (length s) } ≡ held_after (length l) kept at (drop at s)) × (put_mid from (from + n - from) l part ≡ sets l kept (line_in (drop at s)))
    line_goes_on z p = held end (λ k. absurd (omega arith)) (λ k. refl) p
