-- The dump has at most 1,114,488 bytes, whatever the tables hold, where the store has at most 32,768.
use Prim.Native.Nat.{ℕ, zero, suc, ◌+◌, ◌-◌, ◌*◌, ◌<◌, ◌≤◌, min}
use native.Mathlib.Nat.{suc-mul, min-le_right}
use native.Mathlib.Omega.{arith}
use mathlib.Core.Bool.{Bool, true, false}
use mathlib.Core.Path.{◌≡◌, refl}
use mathlib.Core.List.{List, ◌++◌}
use lib.ListN.{length, get_or, take, drop, length-take, length-drop}
use lib.Dec.{eqb}
use Rattle.value.specs.Answer.{pick}
use Rattle.words.specs.Room.{size}
use Rattle.words.proofs.Room.{decimal-size, size-append}
use Rattle.answers.specs.Lines.{Pieces}
use Rattle.answers.specs.Dump.{state_text, store_text}
use Rattle.answers.proofs.Room.{state-size, frame-size, local-size, constant-size, variable-size, store-size}
use Rattle.memory.specs.declared.Registers.{Registers}
use Rattle.by_hand.specs.State.{none, each, var_of, lengths_from, lengths_of, frame_at, frames_text, pointer_at, pointers_text, variable_at, none_set, variables_text, live_bytes, dump_line}

-- what holds of both holds of the one that a test picks
pub either : {A : Type 0} (P : A → Type 0) (t : Bool) {x y : A} → (t ≡ true → P x) → (t ≡ false → P y) → P (pick t x y)
either P true f g = f refl
either P false f g = g refl

-- so many things of at most so many bytes each
pub each-size : (most : ℕ) (f : ℕ → Pieces) (n p : ℕ) → ((i : ℕ) → i < p + n → size (f i) ≤ most) → size (each n p f) ≤ n * most
unfolding each
each-size most f zero p h = omega arith
each-size most f (suc n) p h =
    omega (arith, size-append (f p) (each n (p + 1) f), h p (omega arith), each-size most f n (p + 1) (λ i l. h i (omega arith)), suc-mul n most)

-- ---- frames: 64 with 512 lengths each

lengths_count : (n : ℕ) (bounds : List ℕ) (k : ℕ) → length (lengths_from n bounds k) ≡ n
unfolding lengths_from
lengths_count zero bounds k = refl
lengths_count (suc n) bounds k = omega (arith, lengths_count n bounds (k + 1))

part_count : (n k : ℕ) (ls : List ℕ) → length (take n (drop k ls)) ≤ length ls
part_count n k ls = omega (arith, length-take n (drop k ls), min-le_right n (length (drop k ls)), length-drop k ls)

frames-size : (d : ℕ) (fr ls : List ℕ) → length ls ≡ 512 → size (frames_text d fr ls) ≤ 692224
frames-size d fr ls h =
    let each-frame = each-size 10816 (frame_at fr ls) (min d 64) 0
    (λ i l. frame-size (get_or fr (i * 4) 0) (get_or fr (i * 4 + 1) 0) (var_of (get_or fr (i * 4 + 2) 0))
    (take (get_or fr (i * 4 + 7) 0 - get_or fr (i * 4 + 3) 0) (drop (get_or fr (i * 4 + 3) 0) ls)) 512
    (omega (arith, part_count (get_or fr (i * 4 + 7) 0 - get_or fr (i * 4 + 3) 0) (get_or fr (i * 4 + 3) 0) ls)) (omega arith)) in
    omega (arith, each-frame, min-le_right d 64)

-- ---- pointers: 4,096, the longest local

pointer-size : (ps : List ℕ) (p : ℕ) → size (pointer_at ps p) ≤ 85
pointer-size ps p =
    either (λ x. size x ≤ 85) (eqb (get_or ps (p * 5) 0) 0)
    (λ e. local-size (get_or ps (p * 5 + 1) 0) (get_or ps (p * 5 + 2) 0) (get_or ps (p * 5 + 3) 0) (get_or ps (p * 5 + 4) 0))
    (λ e. constant-size (get_or ps (p * 5 + 1) 0))

pointers-size : (n : ℕ) (ps : List ℕ) → size (pointers_text n ps) ≤ 348183
pointers-size n ps =
    let each-pointer = each-size 85 (pointer_at ps) (min n 4096) 0 (λ i l. pointer-size ps i) in
    let some : size (pick (eqb n 0) none (each (min n 4096) 0 (pointer_at ps))) ≤ 348160 =
    either (λ x. size x ≤ 348160) (eqb n 0) (λ e. omega arith) (λ e. omega (arith, each-pointer, min-le_right n 4096)) in
    omega (arith, decimal-size n, some)

-- ---- variables: 256, each of a place with three digits

variable_at_size : (vs : List ℕ) (i : ℕ) → i < 256 → size (variable_at vs i) ≤ 33
variable_at_size vs i h =
    either (λ x. size x ≤ 33) (eqb (get_or vs (i * 2) 0) 0) (λ e. omega arith) (λ e. variable-size i (get_or vs (i * 2) 0) (get_or vs (i * 2 + 1) 0) (omega arith))

variables-size : (vs : List ℕ) → size (variables_text vs) ≤ 8450
variables-size vs =
    let each-variable = each-size 33 (variable_at vs) 256 0 (λ i l. variable_at_size vs i (omega arith)) in
    let some : size (pick (none_set 256 vs 0) none (each 256 0 (variable_at vs))) ≤ 8448 =
    either (λ x. size x ≤ 8448) (none_set 256 vs 0) (λ e. omega arith) (λ e. each-variable) in
    omega (arith, some)

-- ---- the line

five-size : (a b c d e : Pieces) {i j k l m : ℕ} → size a ≤ i → size b ≤ j → size c ≤ k → size d ≤ l → size e ≤ m → size (a ++ b ++ c ++ d ++ e) ≤ i + j + k + l + m
five-size a b c d e p q r s t = omega (arith, size-append (a ++ b ++ c ++ d) e, size-append (a ++ b ++ c) d, size-append (a ++ b) c, size-append a b)

pub dump-size : (m : Registers) (store fr bounds ps vs : List ℕ) → length store ≤ 32768 → size (dump_line m store fr bounds ps vs) ≤ 1114488
dump-size m store fr bounds ps vs h =
    let live = take (live_bytes m.depth fr bounds) store in
    let few = length-take (live_bytes m.depth fr bounds) store in
    let less = min-le_right (live_bytes m.depth fr bounds) (length store) in
    five-size (state_text m.running m.next m.counter) (frames_text m.depth fr (lengths_of bounds)) (pointers_text m.pointers ps) (variables_text vs) (store_text live)
    (state-size m.running m.next m.counter) (frames-size m.depth fr (lengths_of bounds) (lengths_count 512 bounds 0)) (pointers-size m.pointers ps)
    (variables-size vs) (store-size live 32768 (omega arith) (omega arith))
