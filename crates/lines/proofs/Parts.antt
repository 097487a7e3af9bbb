-- The lines do not depend on how the input comes in parts: a part and the next are heard as both together, so the lines that are heard are those of the whole
-- input, each cut at the buffer's length; and what the code keeps of a line is what is kept here.
use Prim.Native.Nat.{ℕ, zero, suc, ◌+◌, ◌-◌, ◌<◌, ◌≤◌, min}
use native.Mathlib.Nat.{min-eq_left, min-eq_right}
use native.Mathlib.Decide.{dec_le, ℕ_discrete}
use native.Mathlib.Omega.{arith}
use mathlib.Core.Bool.{true, false}
use mathlib.Core.Path.{◌≡◌, refl, sym, ap, ap₂, ◌∙◌}
use mathlib.Core.List.{List, [], ◌∷◌, ◌++◌, map, flatten, append_assoc, append-nil}
use lib.ListN.{length, take, drop, length-take, length-append, length-drop}
use lib.Seq.{sets, sets-eq, take_all, take_at, take-append-add, length-take-le, drop-drop}
use borrow.Author.Tests.{eq-eqb, ne_eqb, lt-ltb, le-ltb}
use Rattle.words.specs.Words.{until, parts, lines}
use Rattle.words.proofs.Parting.{until-within, first_part, last-part}
use Rattle.lines.specs.Held.{line_in, held_after}
use Rattle.lines.specs.declared.Held.{Held}
use Rattle.lines.specs.Heard.{Taken, no_line, and_then, taken, last_line, heard}
use Rattle.lines.proofs.Keeping.{cut, least-left}

-- cutting first what is cut again
take_cut : (n : ℕ) (x y : List ℕ) → take n (take n x ++ y) ≡ take n (x ++ y)
take_cut zero x y = refl
take_cut (suc n) [] y = refl
take_cut (suc n) (a ∷ x) y = ap (λ (l : List ℕ). a ∷ l) (take_cut n x y)

module _ (room : ℕ) where
  more : (kept s : List ℕ) (b : ℕ) → take room (take room (kept ++ (b ∷ [])) ++ s) ≡ take room (kept ++ (b ∷ s))
  more kept s b = take_cut room (kept ++ (b ∷ [])) s ∙ ap (take room) (append_assoc kept (b ∷ []) s)

  -- ---- one call: a line that ends in a part, and one that goes on

  pub taken-whole : (kept s : List ℕ) → length kept ≤ room → until 10 s < length s
      → taken room kept s ≡ and_then (take room (kept ++ line_in s)) (taken room [] (drop (suc (until 10 s)) s))
  unfolding taken until
  taken-whole kept [] h l = absurd (omega arith)
  taken-whole kept (b ∷ s) h l =
      elim (ℕ_discrete b 10) [
        | yes e ↦ rw (eq-eqb b 10 e) (ap (λ (k : List ℕ). and_then k (taken room [] s)) (sym (ap (take room) (append-nil kept) ∙ take_all room kept h)))
        | no e ↦
            rw (ne_eqb b 10 e)
            (taken-whole (take room (kept ++ (b ∷ []))) s (fits (kept ++ (b ∷ []))) (less (rw (ne_eqb b 10 e) at l))
            ∙ ap (λ (k : List ℕ). and_then k (taken room [] (drop (suc (until 10 s)) s))) (more kept (line_in s) b))
      ]
    where
      less : {m n : ℕ} → suc m < suc n → m < n
      less h = omega arith

      fits : (k : List ℕ) → length (take room k) ≤ room
      fits k = omega (arith, length-take room k)

  pub taken-part : (kept s : List ℕ) → length kept ≤ room → length s ≤ until 10 s → taken room kept s ≡ no_line (take room (kept ++ s))
  unfolding taken until
  taken-part kept [] h l = ap no_line (sym (ap (take room) (append-nil kept) ∙ take_all room kept h))
  taken-part kept (b ∷ s) h l =
      elim (ℕ_discrete b 10) [
        | yes e ↦ absurd (none (rw (eq-eqb b 10 e) at l))
        | no e ↦
            rw (ne_eqb b 10 e)
            (taken-part (take room (kept ++ (b ∷ []))) s (fits (kept ++ (b ∷ []))) (less (rw (ne_eqb b 10 e) at l)) ∙ ap no_line (more kept s b))
      ]
    where
      none : {n : ℕ} → suc n ≤ 0 → ⊥
      none h = omega arith

      less : {m n : ℕ} → suc m ≤ suc n → m ≤ n
      less h = omega arith

      fits : (k : List ℕ) → length (take room k) ≤ room
      fits k = omega (arith, length-take room k)

  -- the bytes that the code keeps, in a buffer with so much room
  pub keeps : (line s : List ℕ) (kept : ℕ) → length line ≡ room → kept ≤ room
      → take (min room (kept + until 10 s)) (sets line kept (line_in s)) ≡ take room (take kept line ++ line_in s)
  keeps line s kept e h =
      let v = line_in s in
      let v' = take (room - kept) v in
      let w = until-within 10 s in
      let a : length (take kept line) ≡ kept = length-take-le kept line (omega arith) in
      let b : length v ≡ until 10 s = length-take-le (until 10 s) s w in
      let c : length v' ≡ min (room - kept) (until 10 s) = length-take (room - kept) v ∙ ap (min (room - kept)) b in
      let d : length (take kept line ++ v') ≡ min room (kept + until 10 s) = length-append (take kept line) v' ∙ ap₂ (λ (i j : ℕ). i + j) a c ∙ spread kept (until 10 s) h in
      let f : kept + length v' ≤ length line = omega (arith, least-left (room - kept) (until 10 s) (length v') c) in
      let g : sets line kept v ≡ (take kept line ++ v') ++ drop (kept + length v') line
      = cut line kept (room - kept) v (ap (λ (n : ℕ). n - kept) (sym e)) ∙ sets-eq v' line kept f in
      let q : room ≡ length (take kept line) + (room - kept) = omega arith in
      ap (take (min room (kept + until 10 s))) g ∙ take_at (take kept line ++ v') (drop (kept + length v') line) (min room (kept + until 10 s)) d
      ∙ sym (ap (λ (n : ℕ). take n (take kept line ++ v)) q ∙ take-append-add (take kept line) v (room - kept))
    where
      spread : (k u : ℕ) → k ≤ room → k + min (room - k) u ≡ min room (k + u)
      spread k u h =
          elim (dec_le (room - k) u) [
            | yes g ↦ let p = min-eq_left g in let q = min-eq_left {n = room} {m = k + u} (omega arith) in omega arith
            | no g ↦ let p = min-eq_right {n = u} {m = room - k} (omega arith) in let q = min-eq_right {n = k + u} {m = room} (omega arith) in omega arith
          ]

  -- a call of `take_line`, of which `held_after` and the stores are the contract, takes what the part says
  module _ (line input : List ℕ) (kept at : ℕ) (e : length line ≡ room) (h : kept ≤ room) where
    abbrev part : List ℕ
    part = drop at input

    abbrev after : Held
    after = held_after room kept at part

    abbrev told-bytes : List ℕ
    told-bytes = take after.length (sets line kept (line_in part))

    fits : length (take kept line) ≤ room
    fits = omega (arith, length-take-le kept line (omega arith))

    pub call_ends : after.whole ≡ true → taken room (take kept line) part ≡ and_then told-bytes (taken room [] (drop after.at input))
    unfolding held_after
    call_ends w =
        elim (dec_le (length part) (until 10 part)) [
          | yes g ↦ absurd (none (rw (le-ltb (until 10 part) (length part) g) at w))
          | no g ↦
              let m = min-eq_left {n = until 10 part + 1} {m = length part} (omega arith) in
              let q : at + suc (until 10 part) ≡ at + min (until 10 part + 1) (length part) = omega arith in
              taken-whole (take kept line) part fits (omega arith)
              ∙ ap₂ (λ (k d : List ℕ). and_then k (taken room [] d)) (sym (keeps line part kept e h)) (drop-drop (suc (until 10 part)) at input ∙ ap (λ (n : ℕ). drop n input) q)
        ]
      where
        none : false ≡ true → ⊥
        none z = let k : ◌≡◌ {A = ℕ} 0 1 = cc in omega arith

    pub call_goes_on : after.whole ≡ false → taken room (take kept line) part ≡ no_line told-bytes
    unfolding held_after
    call_goes_on w =
        elim (dec_le (length part) (until 10 part)) [
          | yes g ↦
              taken-part (take kept line) part fits g
              ∙ ap no_line (ap (λ (s : List ℕ). take room (take kept line ++ s)) (sym (take_all (until 10 part) part g)) ∙ sym (keeps line part kept e h))
          | no g ↦ absurd (none (rw (lt-ltb (until 10 part) (length part) (omega arith)) at w))
        ]
      where
        none : true ≡ false → ⊥
        none z = let k : ◌≡◌ {A = ℕ} 0 1 = cc in omega arith

  -- ---- parts

  pub both : Taken → Taken → Taken
  both a b = record { lines = a.lines ++ b.lines; kept = b.kept }

  pub taken-append : (kept a b : List ℕ) → taken room kept (a ++ b) ≡ both (taken room kept a) (taken room (taken room kept a).kept b)
  unfolding taken both
  taken-append kept [] b = refl
  taken-append kept (x ∷ a) b =
      elim (ℕ_discrete x 10) [
        | yes e ↦ rw (eq-eqb x 10 e) (ap (and_then kept) (taken-append [] a b))
        | no e ↦ rw (ne_eqb x 10 e) (taken-append (take room (kept ++ (x ∷ []))) a b)
      ]

  -- what is heard of an input in one part
  abbrev told : List ℕ → List ℕ → List (List ℕ)
  told kept s = (taken room kept s).lines ++ last_line (taken room kept s).kept

  pub heard_together : (kept : List ℕ) (ps : List (List ℕ)) → heard room kept ps ≡ told kept (flatten ps)
  unfolding heard taken both flatten
  heard_together kept [] = refl
  heard_together kept (p ∷ ps) =
      ap (λ (l : List (List ℕ)). (taken room kept p).lines ++ l) (heard_together (taken room kept p).kept ps)
      ∙ sym (append_assoc (taken room kept p).lines (taken room (taken room kept p).kept (flatten ps)).lines (last_line (taken room (taken room kept p).kept (flatten ps)).kept))
      ∙ ap (λ (t : Taken). t.lines ++ last_line t.kept) (sym (taken-append kept p (flatten ps)))

-- ---- the lines of the input, each cut at the buffer's length

module _ (r : ℕ) where
  last_cut : (s : List ℕ) → length s ≤ until 10 s → last_line (take (suc r) s) ≡ map (take (suc r)) (lines s)
  unfolding lines until parts
  last_cut [] h = refl
  last_cut (b ∷ s) h = ap (map (take (suc r))) (sym (last-part 10 [] (λ y. refl) b s h))

  told-lines : (n : ℕ) (s : List ℕ) → length s ≤ n → told (suc r) [] s ≡ map (take (suc r)) (lines s)
  unfolding lines
  told-lines zero s h =
      let e : length s ≤ until 10 s = omega arith in
      ap (λ (t : Taken). t.lines ++ last_line t.kept) (taken-part (suc r) [] s (omega arith) e) ∙ last_cut s e
  told-lines (suc n) s h =
      elim (dec_le (length s) (until 10 s)) [
        | yes e ↦ ap (λ (t : Taken). t.lines ++ last_line t.kept) (taken-part (suc r) [] s (omega arith) e) ∙ last_cut s e
        | no e ↦
            ap (λ (t : Taken). t.lines ++ last_line t.kept) (taken-whole (suc r) [] s (omega arith) (omega arith))
            ∙ ap (λ (l : List (List ℕ)). take (suc r) (line_in s) ∷ l) (told-lines n (drop (suc (until 10 s)) s) (omega (arith, length-drop (suc (until 10 s)) s)))
            ∙ ap (map (take (suc r))) (sym (first_part 10 [] s (omega arith)))
      ]

  -- however the input comes in parts, the lines that are heard are its lines
  pub heard-lines : (ps : List (List ℕ)) → heard (suc r) [] ps ≡ map (take (suc r)) (lines (flatten ps))
  heard-lines ps = heard_together (suc r) [] ps ∙ told-lines (length (flatten ps)) (flatten ps) (omega arith)
