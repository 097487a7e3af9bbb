-- There and back: a number's bytes read as the number, and a number that was read has those bytes.
use Rattle.value.specs.declared.refusal.Refusal.{Refusal}
use Prim.Native.Nat.{ℕ, zero, suc, ◌+◌, ◌-◌, ◌*◌, ◌/◌, ◌%◌, ◌^◌, ◌<◌, ◌≤◌}
use native.Mathlib.Nat.{mul_assoc, mul_comm, add-mul, div-add-mod', pow-suc, one-le-pow}
use native.Mathlib.Numerals.{add-one, sub-one}
use native.Mathlib.Decide.{dec_le, ℕ_discrete}
use native.Mathlib.Omega.{arith}
use mathlib.Core.Path.{◌≡◌, sym, ap, ap₂, ◌∙◌}
use mathlib.Core.List.{List, [], ◌∷◌, ◌++◌}
use lib.ListN.{length, get_or, drop}
use lib.Seq.{drop-cons}
use Rattle.image.specs.Parse.{Got, took, refused}
use Rattle.image.specs.Number.{groups, number}
use Rattle.image.proofs.Groups.{out, last_one, last-bad, more, padded, ends}
use Rattle.image.specs.Number.{bytes_from, bytes_of}
use Rattle.image.proofs.Bytes.{last_byte, more_bytes, Held, held-less}

-- what stands at a place
pub record Head (s : List ℕ) (at b : ℕ) (tail : List ℕ) : Type 0 where
  pub inside : at < length s
  pub byte : get_or s at 0 ≡ b
  pub rest : drop (at + 1) s ≡ tail

head_at : (s : List ℕ) (at b : ℕ) (tail : List ℕ) → drop at s ≡ b ∷ tail → Head s at b tail
head_at [] zero b tail e = let z : ◌≡◌ {A = ℕ} 0 1 = cc in absurd (omega arith)
head_at [] (suc n) b tail e = let z : ◌≡◌ {A = ℕ} 0 1 = cc in absurd (omega arith)
head_at (x ∷ xs) zero b tail e = record { inside = omega arith; byte = cc; rest = cc }
head_at (x ∷ xs) (suc n) b tail e =
    let h = head_at xs n b tail e in
    record { inside = omega (arith, h.inside); byte = h.byte; rest = rw add-one (rw add-one at h.rest) }

-- a group and the groups above it
joined : (v w sum : ℕ) → sum + (v % 128 + 128 - 128) * w + v / 128 * (w * 128) ≡ sum + v * w
joined v w sum =
    let e : v % 128 + 128 - 128 ≡ v % 128 = omega arith in
    let split : v / 128 * 128 * w + v % 128 * w ≡ v * w = sym (add-mul (v / 128 * 128) (v % 128) w) ∙ ap (λ (k : ℕ). k * w) (div-add-mod' v 128) in
    let turn : v / 128 * (w * 128) ≡ v / 128 * 128 * w = ap (λ (k : ℕ). v / 128 * k) (mul_comm w 128) ∙ sym (mul_assoc (v / 128) 128 w) in
    rw (e, turn) (omega arith)

-- one byte that is the last
back_last : (f start w sum v : ℕ) (s : List ℕ) (at : ℕ) (rest : List ℕ) → drop at s ≡ bytes_from f v ++ rest → v < 128 → Head s at v rest
back_last f start w sum v s at rest e small = head_at s at v rest (e ∙ ap (λ (l : List ℕ). l ++ rest) (last_byte f v small))

pub read_back : (f start w sum v : ℕ) (s : List ℕ) (at : ℕ) (rest : List ℕ) → drop at s ≡ bytes_from f v ++ rest → Held f v → (v ≡ 0 → 9 ≤ f)
    → groups f start w sum s at ≡ took (sum + v * w) (at + length (bytes_from f v))
read_back zero start w sum v s at rest e held nz =
    let is1 : v ≡ 1 = elim (ℕ_discrete v 0) [ yes z ↦ absurd (omega (arith, nz z)) | no h ↦ omega arith ] in
    let h = back_last 0 start w sum v s at rest e (omega arith) in
    last_one start w sum s at 0 (omega arith) h.inside (h.byte ∙ is1)
    ∙ ap₂ took (rw is1 (omega arith)) (omega (arith, ap length (last_byte 0 v (omega arith))))
read_back (suc f) start w sum v s at rest e held nz =
    elim (dec_le 128 v) [
      | yes big ↦
          let m = more_bytes (suc f) v (omega arith) big in
          let h = head_at s at (v % 128 + 128) (bytes_from (suc f - 1) (v / 128) ++ rest) (e ∙ ap (λ (l : List ℕ). l ++ rest) m) in
          let ih = read_back f start (w * 128) (sum + (v % 128 + 128 - 128) * w) (v / 128) s (at + 1) rest
          (h.rest ∙ ap (λ (k : ℕ). bytes_from k (v / 128) ++ rest) (sub-one (suc f)))
          (rw (sub-one (suc f)) at (held-less (suc f) v (omega arith) held)) (λ z. absurd (omega arith)) in
          more start w sum s at (suc f) (omega arith) h.inside (omega (arith, h.byte))
          ∙ ap₂ (λ (k b : ℕ). groups k start (w * 128) (sum + (b - 128) * w) s (at + 1)) (sub-one (suc f)) h.byte
          ∙ ih ∙ ap₂ took (joined v w sum) (omega (arith, ap length m, ap (λ (k : ℕ). length (bytes_from k (v / 128))) (sub-one (suc f))))
      | no small ↦
          let h = back_last (suc f) start w sum v s at rest e (omega arith) in
          ends start w sum s at (suc f) (omega arith) h.inside (omega (arith, h.byte)) (λ z. nz (sym h.byte ∙ z))
          ∙ ap₂ took (ap (λ (b : ℕ). sum + b * w) h.byte) (omega (arith, ap length (last_byte (suc f) v (omega arith))))
    ]

-- what is written is read again, wherever it stands
pub written_reads : (v : ℕ) (s : List ℕ) (at : ℕ) (rest : List ℕ) → v < 2 ^ 64 → drop at s ≡ bytes_of v ++ rest
    → number s at ≡ took v (at + length (bytes_of v))
unfolding number bytes_of
written_reads v s at rest h e = read_back 9 at 1 0 v s at rest e h (λ z. omega arith) ∙ ap (λ (k : ℕ). took k (at + length (bytes_from 9 v))) (omega arith)

-- What was read from `at` to n with the sum u is spelt by a number's bytes.
pub record Spelt (f w sum : ℕ) (s : List ℕ) (at u n : ℕ) : Type 0 where
  pub v : ℕ
  pub value : u ≡ sum + v * w
  pub held : Held f v
  pub shortest : v ≡ 0 → 9 ≤ f
  pub bytes : drop at s ≡ bytes_from f v ++ drop n s

never : {A B : Type 0} {n : Refusal} {q e : ℕ} {a : A} {g : Got A} → g ≡ refused n q → g ≡ took a e → B
never {A} {B} {n} {q} {e} {a} {g} r t = let z : ◌≡◌ {A = ℕ} 0 1 = cc in absurd (omega arith)

-- one byte that is the last
spelt-last : (f w sum : ℕ) (s : List ℕ) (at u n : ℕ) {g : Got ℕ} → at < length s → get_or s at 0 < 128 → Held f (get_or s at 0) → (get_or s at 0 ≡ 0 → 9 ≤ f)
    → g ≡ took (sum + get_or s at 0 * w) (at + 1) → g ≡ took u n → Spelt f w sum s at u n
spelt-last f w sum s at u n i small held nz e t =
    let same_u : u ≡ sum + get_or s at 0 * w = cc in
    let same_n : n ≡ at + 1 = cc in
    record {
      v = get_or s at 0;
      value = same_u;
      held = held;
      shortest = nz;
      bytes = rw (same_n, last_byte f (get_or s at 0) small, add-one) (drop-cons s at 0 i);
    }

joined_up : (k b w sum : ℕ) → sum + b * w + k * (w * 128) ≡ sum + (k * 128 + b) * w
joined_up k b w sum =
    let split : (k * 128 + b) * w ≡ k * 128 * w + b * w = add-mul (k * 128) b w in
    let turn : k * (w * 128) ≡ k * 128 * w = ap (λ (j : ℕ). k * j) (mul_comm w 128) ∙ sym (mul_assoc k 128 w) in
    omega arith

held_more : (f k b : ℕ) → Held f k → b < 128 → Held (suc f) (k * 128 + b)
held_more f k b h g = omega (arith, pow-suc 128 f)

small-held : (f b : ℕ) → b < 128 → Held (suc f) b
small-held f b h = omega (arith, pow-suc 128 f, one-le-pow f 128 (omega arith))

more_bytes' : (f v : ℕ) → 128 ≤ v → bytes_from (suc f) v ≡ (v % 128 + 128) ∷ bytes_from f (v / 128)
more_bytes' f v h = more_bytes (suc f) v (omega arith) h ∙ ap (λ (k : ℕ). (v % 128 + 128) ∷ bytes_from k (v / 128)) (sub-one (suc f))

-- one byte, and the number above it
spelt-more : (f w sum : ℕ) (s : List ℕ) (at u n : ℕ) → at < length s → 128 ≤ get_or s at 0 → get_or s at 0 < 256 → f < 9
    → Spelt f (w * 128) (sum + (get_or s at 0 - 128) * w) s (at + 1) u n → Spelt (suc f) w sum s at u n
spelt-more f w sum s at u n i big byte below h =
    let b = get_or s at 0 in
    let x : ℕ = h.v * 128 + (get_or s at 0 - 128) in
    let pos : 0 < h.v = elim (ℕ_discrete h.v 0) [ yes z ↦ absurd (omega (arith, h.shortest z)) | no k ↦ omega arith ] in
    let quot : x / 128 ≡ h.v = omega arith in
    let low : x % 128 + 128 ≡ get_or s at 0 = omega arith in
    record {
      v = x;
      value = h.value ∙ joined_up h.v (get_or s at 0 - 128) w sum;
      held = held_more f h.v (get_or s at 0 - 128) h.held (omega arith);
      shortest = λ z. absurd (omega arith);
      bytes =
          drop-cons s at 0 i ∙ ap (λ (k : ℕ). get_or s at 0 ∷ drop k s) (sym (add-one at)) ∙ ap (λ (l : List ℕ). get_or s at 0 ∷ l) h.bytes
          ∙ ap₂ (λ (c k : ℕ). c ∷ bytes_from f k ++ drop n s) (sym low) (sym quot)
          ∙ ap (λ (l : List ℕ). l ++ drop n s) (sym (more_bytes' f x (omega arith)));
    }

pub spelt : (f start w sum : ℕ) (s : List ℕ) (at u n : ℕ) → ((k : ℕ) → get_or s k 0 < 256) → f ≤ 9
    → groups f start w sum s at ≡ took u n → Spelt f w sum s at u n
spelt zero start w sum s at u n bs le t =
    elim (dec_le (length s) at) [
      | yes o ↦ never (out start w sum s at 0 o) t
      | no i ↦ elim (ℕ_discrete (get_or s at 0) 1) [
        | yes one ↦ spelt-last 0 w sum s at u n (omega arith) (omega arith) (omega arith) (λ z. absurd (omega arith))
            (last_one start w sum s at 0 (omega arith) (omega arith) one ∙ ap (λ (k : ℕ). took k (at + 1)) (rw one (omega arith))) t
        | no other ↦ never (last-bad start w sum s at 0 (omega arith) (omega arith) other) t
      ]
    ]
spelt (suc f) start w sum s at u n bs le t =
    elim (dec_le (length s) at) [
      | yes o ↦ never (out start w sum s at (suc f) o) t
      | no i ↦ elim (dec_le 128 (get_or s at 0)) [
        | yes big ↦ spelt-more f w sum s at u n (omega arith) big (bs at) (omega arith)
            (spelt f start (w * 128) (sum + (get_or s at 0 - 128) * w) s (at + 1) u n bs (omega arith)
            (ap (λ (k : ℕ). groups k start (w * 128) (sum + (get_or s at 0 - 128) * w) s (at + 1)) (sym (sub-one (suc f)))
            ∙ sym (more start w sum s at (suc f) (omega arith) (omega arith) big) ∙ t))
        | no small ↦ elim (dec_le 9 (suc f)) [
          | yes first ↦ spelt-last (suc f) w sum s at u n (omega arith) (omega arith) (small-held f (get_or s at 0) (omega arith)) (λ z. first)
              (ends start w sum s at (suc f) (omega arith) (omega arith) (omega arith) (λ z. first)) t
          | no later ↦ elim (ℕ_discrete (get_or s at 0) 0) [
            | yes z ↦ never (padded start w sum s at (suc f) (omega arith) (omega arith) (omega arith) z) t
            | no nz ↦ spelt-last (suc f) w sum s at u n (omega arith) (omega arith) (small-held f (get_or s at 0) (omega arith)) (λ z. absurd (nz z))
                (ends start w sum s at (suc f) (omega arith) (omega arith) (omega arith) (λ z. absurd (nz z))) t
          ]
        ]
      ]
    ]

-- what was read is what would be written: only the shortest form is taken
pub read_spells : (s : List ℕ) (at u n : ℕ) → ((k : ℕ) → get_or s k 0 < 256) → number s at ≡ took u n → drop at s ≡ bytes_of u ++ drop n s
unfolding number bytes_of
read_spells s at u n bs t =
    let h = spelt 9 at 1 0 s at u n bs (omega arith) t in
    let same : h.v ≡ u = omega (arith, h.value) in
    h.bytes ∙ ap (λ (k : ℕ). bytes_from 9 k ++ drop n s) same
