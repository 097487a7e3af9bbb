-- The dump is read again: its words are those that were meant, by the law of answer lines over the words of its parts, a frame, a pointer or a variable
-- being one word.
use Prim.Native.Nat.{ℕ, zero, suc, ◌+◌, ◌-◌, ◌*◌, ◌^◌, ◌<◌, min}
use native.Mathlib.Nat.{min-le_left}
use native.Mathlib.Omega.{arith}
use mathlib.Core.Bool.{Bool, true, false}
use mathlib.Core.Path.{◌≡◌, refl, sym, ap, subst, ◌∙◌}
use mathlib.Core.List.{List, [], ◌∷◌, ◌++◌}
use lib.ListN.{length, get_or, take, drop, length-take}
use lib.Seq.{get_or-drop}
use lib.Dec.{eqb}
use Rattle.value.specs.Answer.{pick}
use Rattle.words.specs.Ascii.{ascii}
use Rattle.words.specs.Words.{until}
use Rattle.words.proofs.Whole.{joined}
use Rattle.answers.specs.Lines.{Pieces, labelled}
use Rattle.answers.specs.Dump.{state_text, store_text}
use Rattle.std.specs.Prelude.{Some, None}
use Rattle.answers.proofs.Again.{Item, fixed, num, hex, Held, ended, Again, again}
use Rattle.answers.proofs.Written.{follow_append, ended_follow, AllHeld, held-append, all_held, Part, nothing, word, both, either}
use Rattle.memory.specs.declared.Registers.{Registers}
use Rattle.by_hand.specs.State.{none, each, var_of, lengths_from, lengths_of, frame_at, frames_text, pointer_at, pointers_text, variable_at, none_set, variables_text, live_bytes, dump_line}
use Rattle.by_hand.proofs.Parted.{dash, var_item, frame_item, constant_item, local_item, variable_item, Below, frame-part, pointer-part, variable-part}

-- the words of so many things, from one on
unfoldable pub things : (count : ℕ) → (from : ℕ) → (ℕ → List Item) → List Item
things zero i g = []
things (suc n) i g = g i ++ things n (i + 1) g

every : (f : ℕ → Pieces) (g : ℕ → List Item) (n p : ℕ) → ((i : ℕ) → i < p + n → Part [] (f i) (g i)) → Part [] (each n p f) (things n p g)
unfolding each things
every f g zero p h = nothing
every f g (suc n) p h = both (h p (omega arith)) (every f g n (p + 1) (λ i l. h i (omega arith)))

one_dash : Part [] none (dash ∷ [])
unfolding until
one_dash = word none dash (λ rest. refl) (refl, refl)

abbrev pub bar : Item
bar = fixed (ascii "|")

counted : (n : ℕ) → n < 2 ^ 64 → Part [] (labelled (ascii " | ") n) (bar ∷ num n ∷ [])
unfolding until
counted n h = record { text = λ rest. refl; held = ((refl, refl), (h, tt)) }

-- ---- frames

var-held : (w : ℕ) → w < 2 ^ 64 → Held (var_item (var_of w))
unfolding until
var-held w h = go (eqb w 0)
  where
    go : (t : Bool) → Held (var_item (pick t None (Some (w - 1))))
    go true = (refl, refl)
    go false = omega arith

take_below : (b : ℕ) → 0 < b → (n : ℕ) (l : List ℕ) → Below b l → (k : ℕ) → get_or (take n l) k 0 < b
take_below b p zero l h k = p
take_below b p (suc n) [] h k = p
take_below b p (suc n) (x ∷ l) h zero = h 0
take_below b p (suc n) (x ∷ l) h (suc k) = take_below b p n l (λ j. h (suc j)) k

lengths_below : (bounds : List ℕ) → Below (2 ^ 64) bounds → (n k j : ℕ) → get_or (lengths_from n bounds k) j 0 < 2 ^ 64
unfolding lengths_from
lengths_below bounds h zero k j = omega arith
lengths_below bounds h (suc n) k zero = omega (arith, h (k + 1))
lengths_below bounds h (suc n) k (suc j) = lengths_below bounds h n (k + 1) j

abbrev pub frame_items : (frames lengths : List ℕ) → ℕ → List Item
frame_items fr ls i =
    frame_item (get_or fr (i * 4) 0) (get_or fr (i * 4 + 1) 0) (var_of (get_or fr (i * 4 + 2) 0))
    (take (get_or fr (i * 4 + 7) 0 - get_or fr (i * 4 + 3) 0) (drop (get_or fr (i * 4 + 3) 0) ls)) ∷ []

frames-part : (d : ℕ) (fr ls : List ℕ) → Below (2 ^ 64) fr → Below (2 ^ 64) ls → Part [] (frames_text d fr ls) (things (min d 64) 0 (frame_items fr ls))
frames-part d fr ls h g =
    every (frame_at fr ls) (frame_items fr ls) (min d 64) 0
    (λ i l. frame-part (get_or fr (i * 4) 0) (get_or fr (i * 4 + 1) 0) (var_of (get_or fr (i * 4 + 2) 0))
    (take (get_or fr (i * 4 + 7) 0 - get_or fr (i * 4 + 3) 0) (drop (get_or fr (i * 4 + 3) 0) ls)) (h (i * 4)) (h (i * 4 + 1)) (var-held (get_or fr (i * 4 + 2) 0) (h (i * 4 + 2)))
    (own (get_or fr (i * 4 + 7) 0 - get_or fr (i * 4 + 3) 0) (get_or fr (i * 4 + 3) 0)))
  where
    own : (n k : ℕ) → Below (2 ^ 64) (take n (drop k ls))
    own n k = take_below (2 ^ 64) (omega arith) n (drop k ls) (λ j. rw (get_or-drop k ls j 0) (g (k + j)))

-- ---- pointers

abbrev pub pointer_items : List ℕ → ℕ → List Item
pointer_items ps p =
    pick (eqb (get_or ps (p * 5) 0) 0)
    (local_item (get_or ps (p * 5 + 1) 0) (get_or ps (p * 5 + 2) 0) (get_or ps (p * 5 + 3) 0) (get_or ps (p * 5 + 4) 0) ∷ []) (constant_item (get_or ps (p * 5 + 1) 0) ∷ [])

abbrev pub pointers_items : (count : ℕ) → List ℕ → List Item
pointers_items n ps = bar ∷ num n ∷ [] ++ pick (eqb n 0) (dash ∷ []) (things (min n 4096) 0 (pointer_items ps))

pointers-part : (n : ℕ) (ps : List ℕ) → n < 2 ^ 64 → Below (2 ^ 64) ps → Part [] (pointers_text n ps) (pointers_items n ps)
pointers-part n ps l h =
    both (counted n l)
    (either (eqb n 0) (λ e. one_dash)
    (λ e. every (pointer_at ps) (pointer_items ps) (min n 4096) 0
    (λ p u. pointer-part (get_or ps (p * 5) 0) (get_or ps (p * 5 + 1) 0) (get_or ps (p * 5 + 2) 0) (get_or ps (p * 5 + 3) 0) (get_or ps (p * 5 + 4) 0) (h (p * 5 + 1)) (h (p * 5 + 2))
    (h (p * 5 + 3)) (h (p * 5 + 4)))))

-- ---- variables

abbrev pub variable_items : List ℕ → ℕ → List Item
variable_items vs i = pick (eqb (get_or vs (i * 2) 0) 0) [] (variable_item i (get_or vs (i * 2) 0) (get_or vs (i * 2 + 1) 0) ∷ [])

abbrev pub variables_items : List ℕ → List Item
variables_items vs = bar ∷ [] ++ pick (none_set 256 vs 0) (dash ∷ []) (things 256 0 (variable_items vs))

variables-part : (vs : List ℕ) → Below (2 ^ 64) vs → ((i : ℕ) → get_or vs (i * 2) 0 < 15) → Part [] (variables_text vs) (variables_items vs)
unfolding until
variables-part vs h g =
    both (word (ascii " |" ∷ []) bar (λ rest. refl) (refl, refl))
    (either (none_set 256 vs 0) (λ e. one_dash)
    (λ e. every (variable_at vs) (variable_items vs) 256 0 (λ i l. variable-part i (get_or vs (i * 2) 0) (get_or vs (i * 2 + 1) 0) (omega arith) (g i) (h (i * 2 + 1)))))

-- ---- the line

abbrev pub state_items : Registers → (frames bounds pointers variables : List ℕ) → List Item
state_items m fr bounds ps vs =
    num m.running ∷ num m.next ∷ num m.counter ∷ bar ∷ [] ++ things (min m.depth 64) 0 (frame_items fr (lengths_of bounds)) ++ pointers_items m.pointers ps
    ++ variables_items vs

abbrev pub store_items : List ℕ → List Item
store_items bs = bar ∷ num (length bs) ∷ hex bs ∷ []

-- "state RUNNING NEXT COUNTER | F F.. | COUNT P P.. | I=KIND:BITS .. | COUNT HEX", after the first word
abbrev pub dump_items : Registers → (store frames bounds pointers variables : List ℕ) → List Item
dump_items m store fr bounds ps vs = state_items m fr bounds ps vs ++ store_items (take (live_bytes m.depth fr bounds) store)

-- numbers of 64 bits, tags of kinds or 0, and bytes
pub record Plain (m : Registers) (store fr bounds ps vs : List ℕ) : Type 0 where
  pub running : m.running < 2 ^ 64
  pub next : m.next < 2 ^ 64
  pub counter : m.counter < 2 ^ 64
  pub count : m.pointers < 2 ^ 64
  pub frames : Below (2 ^ 64) fr
  pub ends : Below (2 ^ 64) bounds
  pub pointers : Below (2 ^ 64) ps
  pub variables : Below (2 ^ 64) vs
  pub tags : (i : ℕ) → get_or vs (i * 2) 0 < 15
  pub bytes : Below 256 store

state-part : (r n c : ℕ) → r < 2 ^ 64 → n < 2 ^ 64 → c < 2 ^ 64 → Part (ascii "state") (state_text r n c) (num r ∷ num n ∷ num c ∷ bar ∷ [])
unfolding until
state-part r n c p q s = record { text = λ rest. refl; held = (p, (q, (s, ((refl, refl), tt)))) }

store-held : (n : ℕ) (store : List ℕ) → n < 2 ^ 64 → Below 256 store → AllHeld (store_items (take n store))
unfolding until
store-held n store h g = ((refl, refl), (omega (arith, length-take n store, min-le_left n (length store)), (take_below 256 (omega arith) n store g, tt)))

module _ (m : Registers) (store fr bounds ps vs : List ℕ) (h : Plain m store fr bounds ps vs) where
  front : Part (ascii "state") (state_text m.running m.next m.counter ++ frames_text m.depth fr (lengths_of bounds) ++ pointers_text m.pointers ps ++ variables_text vs)
      (state_items m fr bounds ps vs)
  front =
      both
      (both
      (both (state-part m.running m.next m.counter h.running h.next h.counter)
      (frames-part m.depth fr (lengths_of bounds) h.frames (lengths_below bounds h.ends 512 0)))
      (pointers-part m.pointers ps h.count h.pointers))
      (variables-part vs h.variables h.tags)

  dump-text : (live : List ℕ) → joined (state_text m.running m.next m.counter ++ frames_text m.depth fr (lengths_of bounds) ++ pointers_text m.pointers ps ++ variables_text vs ++ store_text live)
      ≡ ended (fixed (ascii "state")) (state_items m fr bounds ps vs ++ store_items live)
  dump-text live =
      front.text (store_text live) ∙ ap (λ (x : List ℕ). ascii "state" ++ x) (sym (follow_append (state_items m fr bounds ps vs) (store_items live) (10 ∷ [])))
      ∙ ended_follow (fixed (ascii "state")) (state_items m fr bounds ps vs ++ store_items live)

  pub dump_again : Again (joined (dump_line m store fr bounds ps vs)) (fixed (ascii "state")) (dump_items m store fr bounds ps vs)
  unfolding until
  dump_again =
      let live = take (live_bytes m.depth fr bounds) store in
      let bytes = store-held (live_bytes m.depth fr bounds) store (h.ends (min (get_or fr (min m.depth 64 * 4 + 3) 0) 512)) h.bytes in
      let held = held-append (state_items m fr bounds ps vs) (store_items live) front.held bytes in
      subst (λ (t : List ℕ). Again t (fixed (ascii "state")) (dump_items m store fr bounds ps vs)) (sym (dump-text live))
      (again (fixed (ascii "state")) (dump_items m store fr bounds ps vs) (all_held (fixed (ascii "state")) (dump_items m store fr bounds ps vs) (refl, refl) held))
