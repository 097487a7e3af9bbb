-- The bytes of a number, the lowest first, there and back.
use mathlib.Core.Path.{◌≡◌, refl, sym, ap, ap₂, ◌∙◌, subst}
use mathlib.Core.List.{List, [], ◌∷◌, ◌++◌}
use Prim.Native.Nat.{ℕ, zero, suc, ◌+◌, ◌*◌, ◌/◌, ◌%◌, ◌<◌, ◌≤◌, ◌^◌}
use native.Mathlib.Nat.{mul_assoc, zero-mul, pow-suc, div-div-eq-div-mul}
use mir.Syntax.{w64}
use Rattle.std.specs.Int.{byte_at, byte_worth, bytes_low_first, sum_through, to_le_bytes, from_le_bytes}
use Rattle.std.proofs.lemmas.List.{length-drop, take_all}
use lib.Pow.{pow-add, pow_pos}
use native.Mathlib.Omega.{arith}
use lib.ListN.{length, take, drop, get_or, length-append, take-append-drop}
use lib.Seq.{take_at, length-take-le}
use mathlib.Core.Bool.{Bool, true, false, not, ◌&&◌}
use borrow.Author.Tests.{le-leb, lt-leb, lt-ltb, le-ltb, ltb-true, leb-true}
use lib.Dec.{leb, ltb}
use Rattle.std.specs.Prelude.{Option, Some, None, Result, Ok}
use Rattle.std.specs.Option.{ok_or}
use Rattle.value.specs.declared.refusal.Refusal.{Refusal}
use Rattle.value.specs.Answer.{pick, need, ok}
use Rattle.value.specs.Refusal.{not_bool}
use Rattle.value.specs.Value.{Kind, Value, IrType, value, kind_of, tag, same, size, bool, bytes_of, from_bytes, le_bytes, le_number}
use Rattle.value.specs.Value as Believed
use Rattle.value.specs.Tags.{kind_at, holds}
use Rattle.value.specs.Ir.{value_of, ir_of, ir_value, own, made, written, computed, loaded}
use Rattle.value.specs.declared.IrValue.{IrValue}
use Rattle.value.proofs.Roundtrip.{scalar_small, bits_back, value-back, own-holds}
use Rattle.value.proofs.Tags.{kind_of_tag}

pub length-bytes : (n b : ℕ) → length (le_bytes n b) ≡ n
unfolding le_bytes
length-bytes zero b = refl
length-bytes (suc n) b = ap suc (length-bytes n (b / 256))

-- ---- std's eight bytes are these

low_is : (i k n : ℕ) → bytes_low_first i k n ≡ le_bytes k (n / 256 ^ i)
unfolding le_bytes
low_is i zero n = refl
low_is i (suc k) n = ap₂ (λ (x : ℕ) (xs : List ℕ). x ∷ xs) (byte_is i) (low_is (suc i) k n ∙ ap (le_bytes k) (ap (λ (p : ℕ). n / p) (pow-suc 256 i) ∙ sym (div-div-eq-div-mul n (256 ^ i) 256)))
  where
    byte_is : (i : ℕ) → byte_at i n ≡ n / 256 ^ i % 256
    byte_is zero = omega arith
    byte_is (suc i) = refl

front_bytes : (k m b : ℕ) → k ≤ m → take k (le_bytes m b) ≡ le_bytes k b
unfolding le_bytes
front_bytes zero m b h = refl
front_bytes (suc k) zero b h = absurd (omega arith)
front_bytes (suc k) (suc m) b h = ap (λ (bs : List ℕ). b % 256 ∷ bs) (front_bytes k m (b / 256) (omega arith))

-- the lowest of the eight bytes
pub lowest : (k b : ℕ) → k ≤ 8 → take k (to_le_bytes w64 b) ≡ le_bytes k b
lowest k b h = let e : b / 256 ^ 0 ≡ b = omega arith in ap (take k) (low_is 0 8 b) ∙ ap (λ (n : ℕ). take k (le_bytes 8 n)) e ∙ front_bytes k 8 b h

number_more : (k : ℕ) (bs : List ℕ) → le_number (take (suc k) bs) ≡ le_number (take k bs) + get_or bs k 0 * 256 ^ k
unfolding le_number
number_more zero [] = refl
number_more zero (b ∷ bs) = omega arith
number_more (suc k) [] = ap (λ (n : ℕ). 0 + n) (sym (zero-mul (256 ^ suc k)))
number_more (suc k) (b ∷ bs) =
    let r = number_more k bs in
    let p : get_or bs k 0 * 256 ^ suc k ≡ get_or bs k 0 * 256 ^ k * 256 = ap (λ (n : ℕ). get_or bs k 0 * n) (pow-suc 256 k) ∙ sym (mul_assoc (get_or bs k 0) (256 ^ k) 256) in
    omega arith

sum_is : (k : ℕ) (bs : List ℕ) → sum_through (λ i. byte_worth i (get_or bs i 0)) k ≡ le_number (take (suc k) bs)
sum_is zero bs = let r = number_more 0 bs in unfold le_number in omega arith
sum_is (suc k) bs = ap (λ (n : ℕ). n + get_or bs (suc k) 0 * 256 ^ suc k) (sum_is k bs) ∙ sym (number_more (suc k) bs)

no_more : (bs zs : List ℕ) → le_number zs ≡ 0 → le_number (bs ++ zs) ≡ le_number bs
unfolding le_number
no_more [] zs h = h
no_more (b ∷ bs) zs h = ap (λ (n : ℕ). b + 256 * n) (no_more bs zs h)

none_after : (n : ℕ) (zs : List ℕ) → le_number zs ≡ 0 → le_number (drop n zs) ≡ 0
unfolding le_number
none_after zero zs h = h
none_after (suc n) [] h = refl
none_after (suc n) (z ∷ zs) h = none_after n zs (omega arith)

abbrev zeros : List ℕ
zeros = 0 ∷ 0 ∷ 0 ∷ 0 ∷ 0 ∷ 0 ∷ 0 ∷ 0 ∷ []

-- the number of eight bytes, all 0 but the front
pub padded : (n : ℕ) (bs : List ℕ) → length bs ≡ n → n ≤ 8 → from_le_bytes w64 (bs ++ drop n zeros) ≡ le_number bs
unfolding le_number
padded n bs l h =
    let all : length (bs ++ drop n zeros) ≤ 8 = omega (arith, length-append bs (drop n zeros), length-drop n zeros) in
    sum_is 7 (bs ++ drop n zeros) ∙ ap le_number (take_all 8 (bs ++ drop n zeros) all) ∙ no_more bs (drop n zeros) (none_after n zeros refl)

grow : (k : ℕ) → 2 ^ (8 * suc k) ≡ 256 * 2 ^ (8 * k)
grow k = let e : 8 * suc k ≡ 8 + 8 * k = omega arith in ap (λ (j : ℕ). 2 ^ j) e ∙ pow-add 2 8 (8 * k)

-- ---- what `write` leaves

module _ (v : Value) (m : List ℕ) {n : ℕ} (e : n ≡ size v.kind) where
  same_size : length (bytes_of v) ≡ n
  unfolding bytes_of
  same_size = length-bytes (size v.kind) v.bits ∙ sym e

  same_bytes_lem : {b : ℕ} → b ≡ v.bits → le_bytes n b ≡ bytes_of v
  unfolding bytes_of
  same_bytes_lem f = rw (e, f)

  pub write_short : length m < n → (false ≡ leb (size v.kind) (length m)) × (m ≡ written (bytes_of v) m)
  write_short h = (rw (sym e, lt-leb n (length m) h), rw (same_size, lt-leb n (length m) h))

  pub write-whole : {r : List ℕ} {b : ℕ} → n ≤ length m → b ≡ v.bits → r ≡ le_bytes n b ++ drop n m → (true ≡ leb (size v.kind) (length m)) × (r ≡ written (bytes_of v) m)
  write-whole h f g = (rw (sym e, le-leb n (length m) h), g ∙ ap (λ (bs : List ℕ). bs ++ drop n m) (same_bytes_lem f) ∙ rw (same_size, le-leb n (length m) h))

-- ---- what `read` answers

pub size_small : (k : Kind) → size k ≤ 8
unfolding size
size_small bool = omega arith
size_small Believed.u8 = omega arith
size_small Believed.u16 = omega arith
size_small Believed.u32 = omega arith
size_small Believed.u64 = omega arith
size_small Believed.i8 = omega arith
size_small Believed.i16 = omega arith
size_small Believed.i32 = omega arith
size_small Believed.i64 = omega arith
size_small Believed.f32 = omega arith
size_small Believed.f64 = omega arith
size_small Believed.char = omega arith
size_small Believed.asn = omega arith
size_small Believed.pointer = omega arith

-- of the bits that a type's bytes can be, only a Bool's can be no value's
one_bit : (b : ℕ) → ltb b 2 ≡ not (true && ltb 1 b)
one_bit zero = refl
one_bit (suc zero) = refl
one_bit (suc (suc b)) = rw (le-ltb (suc (suc b)) 2 (omega arith), lt-ltb 1 (suc (suc b)) (omega arith))

pub type-holds : (t : IrType) (b : ℕ) → b < 2 ^ (8 * size (kind_of t)) → holds (kind_of t) b ≡ not (same (kind_of t) bool && ltb 1 b)
unfolding kind_of size holds tag
type-holds Believed.Boolean b h = one_bit b
type-holds Believed.U8 b h = lt-ltb b _ h
type-holds Believed.U16 b h = lt-ltb b _ h
type-holds Believed.U32 b h = lt-ltb b _ h
type-holds Believed.U64 b h = lt-ltb b _ h
type-holds Believed.I8 b h = lt-ltb b _ h
type-holds Believed.I16 b h = lt-ltb b _ h
type-holds Believed.I32 b h = lt-ltb b _ h
type-holds Believed.I64 b h = lt-ltb b _ h
type-holds Believed.F32 b h = lt-ltb b _ h
type-holds Believed.F64 b h = lt-ltb b _ h
type-holds Believed.Pointer b h = lt-ltb b _ h

-- the number of n bytes
pub number_lt : (n : ℕ) (bs : List ℕ) → ((i : ℕ) → get_or bs i 0 < 256) → le_number (take n bs) < 2 ^ (8 * n)
unfolding le_number
number_lt zero bs h = omega arith
number_lt (suc n) [] h = pow_pos (8 * suc n)
number_lt (suc n) (b ∷ bs) h =
    let l = number_lt n bs (λ i. h (suc i)) in
    let f = h 0 in
    rw (grow n) (next b (le_number (take n bs)) (2 ^ (8 * n)) f l)
  where
    next : (b n m : ℕ) → b < 256 → n < m → b + 256 * n < 256 * m
    next b n m f l = omega arith

module _ (t : IrType) (m : List ℕ) {n : ℕ} (e : n ≡ size (kind_of t)) where
  pub read_short : length m < n → None ≡ loaded t m
  unfolding loaded
  read_short h = rw (sym e, lt-leb n (length m) h)

  made-is : (b : ℕ) → b < 2 ^ (8 * n) → ok_or (made (kind_at (tag (kind_of t))) b) not_bool ≡ computed (need (not (same (kind_of t) bool && ltb 1 b)) not_bool (ok (value (kind_of t) b)))
  unfolding made computed need
  made-is b h =
      ap (λ o. ok_or (made o b) not_bool) (kind_of_tag (kind_of t))
      ∙ ap (λ (u : Bool). ok_or (pick u (Some (ir_of (kind_of t) b)) None) not_bool) (type-holds t b (subst (λ (n : ℕ). b < 2 ^ (8 * n)) e h))
      ∙ go (not (same (kind_of t) bool && ltb 1 b))
    where
      go : (u : Bool) → ok_or (pick u (Some (ir_of (kind_of t) b)) None) not_bool ≡ computed (need u not_bool (ok (value (kind_of t) b)))
      go true = refl
      go false = refl

  -- the value made of enough bytes, or the refusal where there is none
  pub read-whole : {b j : ℕ} {g : Option IrValue} {r : Result IrValue Refusal} → n ≤ length m → ((i : ℕ) → get_or m i 0 < 256) → b ≡ le_number (take n m) → j ≡ tag (kind_of t)
      → g ≡ made (kind_at j) b → r ≡ ok_or g not_bool → Some r ≡ loaded t m
  unfolding loaded from_bytes
  read-whole {b} h f p q r s =
      let bound : b < 2 ^ (8 * n) = subst (λ (b : ℕ). b < 2 ^ (8 * n)) (sym p) (number_lt n m f) in
      ap Some (s ∙ ap (λ o. ok_or o not_bool) r ∙ ap (λ (j : ℕ). ok_or (made (kind_at j) b) not_bool) q ∙ made-is b bound)
      ∙ rw (p, sym e, le-leb n (length m) h)

-- ---- there and back

number-bytes : (n b : ℕ) → b < 2 ^ (8 * n) → le_number (le_bytes n b) ≡ b
unfolding le_bytes le_number
number-bytes zero b h = omega arith
number-bytes (suc n) b h =
    let k : b / 256 < 2 ^ (8 * n) = omega (arith, grow n) in
    rw (number-bytes n (b / 256) k) (omega arith)

bytes-number : (n : ℕ) (bs : List ℕ) → n ≤ length bs → ((i : ℕ) → get_or bs i 0 < 256) → le_bytes n (le_number (take n bs)) ≡ take n bs
unfolding le_bytes le_number
bytes-number zero bs l h = refl
bytes-number (suc n) [] l h = absurd (omega arith)
bytes-number (suc n) (b ∷ bs) l h =
    let r = bytes-number n bs (omega arith) (λ i. h (suc i)) in
    let x = le_number (take n bs) in
    let f = h 0 in
    let p : (b + 256 * x) % 256 ≡ b = omega arith in
    let q : (b + 256 * x) / 256 ≡ x = omega arith in
    rw (p, q, r)

holds-lt : (k : Kind) (b : ℕ) → holds k b ≡ true → b < 2 ^ (8 * size k)
unfolding holds size
holds-lt bool b h = let l = ltb-true b 2 h in omega arith
holds-lt Believed.u8 b h = ltb-true b _ h
holds-lt Believed.u16 b h = ltb-true b _ h
holds-lt Believed.u32 b h = ltb-true b _ h
holds-lt Believed.u64 b h = ltb-true b _ h
holds-lt Believed.i8 b h = ltb-true b _ h
holds-lt Believed.i16 b h = ltb-true b _ h
holds-lt Believed.i32 b h = ltb-true b _ h
holds-lt Believed.i64 b h = ltb-true b _ h
holds-lt Believed.f32 b h = ltb-true b _ h
holds-lt Believed.f64 b h = ltb-true b _ h
holds-lt Believed.char b h = scalar_small b h
holds-lt Believed.asn b h = ltb-true b _ h
holds-lt Believed.pointer b h = ltb-true b _ h

loaded-front : (t : IrType) (u : Value) (rest : List ℕ) → holds u.kind u.bits ≡ true → kind_of t ≡ u.kind → loaded t (bytes_of u ++ rest) ≡ Some (Ok (ir_value u))
unfolding loaded from_bytes computed need
loaded-front t u rest h k =
    let n = size u.kind in
    let e : size (kind_of t) ≡ n = ap size k in
    let l : length (bytes_of u) ≡ n = same_size u rest refl in
    let a : n ≤ length (bytes_of u ++ rest) = omega (arith, l, length-append (bytes_of u) rest) in
    let f : take n (bytes_of u ++ rest) ≡ bytes_of u = take_at (bytes_of u) rest n l in
    let g : le_number (bytes_of u) ≡ u.bits = number_of u (holds-lt u.kind u.bits h) in
    let s : not (same (kind_of t) bool && ltb 1 u.bits) ≡ true =
    sym (type-holds t u.bits (subst (λ (j : ℕ). u.bits < 2 ^ (8 * j)) (sym e) (holds-lt u.kind u.bits h))) ∙ ap (λ j. holds j u.bits) k ∙ h in
    rw (e, le-leb n _ a, f, g, s) (ap (λ j. Some (Ok (ir_of j u.bits))) k)
  where
    number_of : (u : Value) → u.bits < 2 ^ (8 * size u.kind) → le_number (bytes_of u) ≡ u.bits
    number_of u h = unfold bytes_of in number-bytes (size u.kind) u.bits h

-- "reading back what was written gives the value"
pub read-written : (t : IrType) (v : IrValue) (to : List ℕ) → own v ≡ true → kind_of t ≡ (value_of v).kind → size (value_of v).kind ≤ length to
    → loaded t (written (bytes_of (value_of v)) to) ≡ Some (Ok v)
read-written t v to o k h =
    let u = value_of v in
    let n = size u.kind in
    let l : length (bytes_of u) ≡ n = same_size u to refl in
    let w : written (bytes_of u) to ≡ bytes_of u ++ drop n to = rw (l, le-leb n (length to) h) in
    ap (loaded t) w ∙ loaded-front t u (drop n to) (own-holds v o) k ∙ ap (λ (w : IrValue). Some (Ok w)) (value-back v o)

front-written : (t : IrType) (v : IrValue) (bs : List ℕ) → ((i : ℕ) → get_or bs i 0 < 256) → size (kind_of t) ≤ length bs
    → holds (kind_of t) (le_number (take (size (kind_of t)) bs)) ≡ true → ir_of (kind_of t) (le_number (take (size (kind_of t)) bs)) ≡ v → written (bytes_of (value_of v)) bs ≡ bs
unfolding bytes_of
front-written t v bs h l o i =
    let n = size (kind_of t) in
    let b = le_number (take n bs) in
    let w : value_of v ≡ value (kind_of t) b = sym (ap value_of i) ∙ bits_back (kind_of t) b o in
    let f : bytes_of (value_of v) ≡ take n bs = ap bytes_of w ∙ bytes-number n bs l h in
    ap (λ (fs : List ℕ). written fs bs) f ∙ rw (length-take-le n bs l, le-leb n (length bs) l) (take-append-drop n bs)

-- "writing back what was read gives the bytes"
pub write_read : (t : IrType) (v : IrValue) (bs : List ℕ) → ((i : ℕ) → get_or bs i 0 < 256) → loaded t bs ≡ Some (Ok v) → written (bytes_of (value_of v)) bs ≡ bs
unfolding loaded from_bytes computed need
write_read t v bs h e = tested (leb (size (kind_of t)) (length bs)) refl e
  where
    valued : (u : Bool) → not (same (kind_of t) bool && ltb 1 (le_number (take (size (kind_of t)) bs))) ≡ u → size (kind_of t) ≤ length bs
        → Some (computed (need u not_bool (ok (value (kind_of t) (le_number (take (size (kind_of t)) bs)))))) ≡ Some (Ok v) → written (bytes_of (value_of v)) bs ≡ bs
    valued true s l e = front-written t v bs h l (type-holds t _ (number_lt (size (kind_of t)) bs h) ∙ s) (cc)
    valued false s l e = let z : ◌≡◌ {A = ℕ} 0 1 = cc in absurd (omega arith)

    tested : (u : Bool) → leb (size (kind_of t)) (length bs) ≡ u
        → pick u (Some (computed (need (not (same (kind_of t) bool && ltb 1 (le_number (take (size (kind_of t)) bs)))) not_bool (ok (value (kind_of t) (le_number (take (size (kind_of t)) bs))))))) None ≡ Some (Ok v)
        → written (bytes_of (value_of v)) bs ≡ bs
    tested true s e = valued _ refl (leb-true (size (kind_of t)) (length bs) s) e
    tested false s e = let z : ◌≡◌ {A = ℕ} 0 1 = cc in absurd (omega arith)
