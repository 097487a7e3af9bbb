-- Values read pair by pair: what is still to be read, stored after what is, is what the whole line says.
use Prim.Native.Nat.{ℕ, suc, ◌+◌, ◌-◌, ◌<◌, ◌≤◌}
use native.Mathlib.Nat.{add-zero}
use native.Mathlib.Numerals.{add-one}
use native.Mathlib.Decide.{dec_le, ℕ_discrete}
use native.Mathlib.Omega.{arith}
use mathlib.Core.Bool.{true}
use mathlib.Core.Path.{◌≡◌, refl, sym, ap, ◌∙◌}
use mathlib.Core.List.{List, [], ◌∷◌}
use lib.ListN.{length, get_or, set, drop, length-drop, get_or-eq_default}
use lib.Seq.{sets, get_or-drop, drop-drop}
use lib.Dec.{leb}
use borrow.Author.Tests.{le-leb, lt-leb, eq-eqb, ne_eqb}
use Rattle.std.specs.Prelude.{Option, Some, None, Result, Ok, Err}
use Rattle.std.specs.Option.{ok_or}
use Rattle.std.specs.Result.{IsErr, IsErrAnd}
use Rattle.value.specs.Answer.{pick}
use Rattle.value.specs.Bytes.{same_bytes}
use Rattle.words.specs.Number.{number}
use Rattle.words.specs.Words.{words, parts}
use Rattle.words.specs.Kinds.{name, names, kind_from, kind_read, fits, bits_read}
use Rattle.words.specs.Pairs.{Pair, Values, count, bad, pair_said, Said, ended, and_more, values_from, Stored}
use Rattle.words.specs.declared.PairError.{PairError}
use Rattle.words.specs.declared.PairError.TheVariants.{Kind, Bits}
use Rattle.words.proofs.Parting.{some_word, length-onto}

-- ---- one word's bits

module _ (w : List ℕ) (t b : ℕ) where
  pub in_kind_lem : number w ≡ Some b → fits t b ≡ true → Some b ≡ bits_read t w
  in_kind_lem e f = rw (e, f)

-- ---- one pair

-- a number, or an error in its place
pub some_of : (o : Option ℕ) (e : PairError) {t : ℕ} → ok_or o e ≡ Ok t → o ≡ Some t
some_of None e h = let z : ◌≡◌ {A = ℕ} 0 1 = cc in absurd (omega arith)
some_of (Some n) e h = cc

pub none_of : (o : Option ℕ) (e : PairError) {f : PairError} → ok_or o e ≡ Err f → (o ≡ None) × (f ≡ e)
none_of None e h = (refl, cc)
none_of (Some n) e h = let z : ◌≡◌ {A = ℕ} 0 1 = cc in absurd (omega arith)

-- what `?` hands on
pub err_is : (r : Result (ℕ × ℕ) PairError) {e f : PairError} → IsErr r × IsErrAnd r (λ g. g ≡ e) → e ≡ f → r ≡ Err f
err_is (Ok x) h i = let z : ◌≡◌ {A = ℕ} 0 1 = cc in absurd (omega arith)
err_is (Err g) h i = ap Err (h.1 ∙ i)

module _ (k b : List ℕ) where
  pub pair_value : (t v : ℕ) → kind_read k ≡ Some t → bits_read t b ≡ Some v → Ok (t, v) ≡ pair_said k b
  unfolding pair_said
  pair_value t v e f = rw (e, f)

  pub pair_no_bits : (t : ℕ) → kind_read k ≡ Some t → bits_read t b ≡ None → Err Bits ≡ pair_said k b
  unfolding pair_said
  pair_no_bits t e f = rw (e, f)

  pub pair_no_kind : kind_read k ≡ None → Err Kind ≡ pair_said k b
  unfolding pair_said
  pair_no_kind e = rw e

-- a word that can be read is there, and a line has few enough of them to count
empty_is_no_kind : kind_read [] ≡ None
unfolding kind_read kind_from names name same_bytes
empty_is_no_kind = refl

pub words-bound : (s : List ℕ) → length (words s) ≤ length s + 1
unfolding words parts
words-bound [] = omega arith
words-bound (x ∷ xs) =
    elim (ℕ_discrete x 32) [
      | yes e ↦ rw (eq-eqb x 32 e) (omega (arith, words-bound xs))
      | no e ↦ rw (ne_eqb x 32 e) (omega (arith, words-bound xs, length-onto x (words xs) (some_word xs)))
    ]

module _ (ws : List (List ℕ)) (n : ℕ) where
  missing : length ws ≤ n → kind_read (get_or ws n []) ≡ None
  missing h = ap kind_read (get_or-eq_default ws [] {n = n} h) ∙ empty_is_no_kind

  pub kind_there : (t : ℕ) → kind_read (get_or ws n []) ≡ Some t → n < length ws
  kind_there t e =
      elim (dec_le (length ws) n) [
        | yes h ↦ let m = missing h in let z : ◌≡◌ {A = ℕ} 0 1 = cc in absurd (omega arith)
        | no h ↦ omega arith
      ]

  pub pair_there : (b : List ℕ) {p : Pair} → (p ≡ Err Kind → ⊥) → p ≡ pair_said (get_or ws n []) b → n < length ws
  pair_there b h e =
      elim (dec_le (length ws) n) [
        | yes l ↦ absurd (h (e ∙ sym (pair_no_kind (get_or ws n []) b (missing l))))
        | no l ↦ omega arith
      ]

pub value_no_bad : {t v : ℕ} {p : Pair} → p ≡ Ok (t, v) → p ≡ Err Kind → ⊥
value_no_bad {t} {v} {p} e f = let z : ◌≡◌ {A = ℕ} 0 1 = cc in omega arith

pub bits_no_bad : {p : Pair} → p ≡ Err Bits → p ≡ Err Kind → ⊥
bits_no_bad {p} e f = let z : ◌≡◌ {A = ℕ} 0 1 = cc in omega arith

-- ---- pairs to the line's end

leb_drop : (m n : ℕ) → leb (m - n) 2 ≡ leb m (n + 2)
leb_drop m n =
    elim (dec_le m (n + 2)) [
      | yes h ↦ le-leb (m - n) 2 (omega arith) ∙ sym (le-leb m (n + 2) h)
      | no h ↦ lt-leb (m - n) 2 (omega arith) ∙ sym (lt-leb m (n + 2) (omega arith))
    ]

-- what the words from n on say, by the first two of them
next : (room i n : ℕ) (ws : List (List ℕ)) → i < room
    → values_from (room - i) i n (drop n ws)
    ≡ and_more (pair_said (get_or ws n []) (get_or ws (n + 1) [])) n
    (pick (leb (length ws) (n + 2)) (ended (count (i + 1))) (values_from (room - (i + 1)) (i + 1) (n + 2) (drop (n + 2) ws)))
unfolding values_from
next room i n ws h =
    let e : room - i ≡ suc (room - (i + 1)) = omega arith in
    let k : get_or (drop n ws) 0 [] ≡ get_or ws n [] = get_or-drop n ws 0 [] ∙ ap (λ (j : ℕ). get_or ws j []) (add-zero n) in
    let b : get_or (drop n ws) 1 [] ≡ get_or ws (n + 1) [] = get_or-drop n ws 1 [] in
    let l : leb (length (drop n ws)) 2 ≡ leb (length ws) (n + 2) = ap (λ (j : ℕ). leb j 2) (length-drop n ws) ∙ leb_drop (length ws) n in
    rw (e, k, b, l, drop-drop 2 n ws)

-- what is still to be said, after i values, against the whole
pub record Owed (s whole : Said) (i : ℕ) (tags₀ tags bits₀ bits : List ℕ) : Type 0 where
  pub end : s.end ≡ whole.end
  pub kinds : sets tags i s.tags ≡ sets tags₀ 0 whole.tags
  pub values : sets bits i s.bits ≡ sets bits₀ 0 whole.bits

module _ {whole : Said} {i : ℕ} {tags₀ tags bits₀ bits : List ℕ} where
  pub finish : {v : Values} → Owed (ended v) whole i tags₀ tags bits₀ bits → Stored whole v tags₀ tags bits₀ bits
  finish o = record { answer = o.end; kinds = o.kinds; values = o.values }

  advance : {s : Said} {t v : ℕ} (n : ℕ) → Owed (and_more (Ok (t, v)) n s) whole i tags₀ tags bits₀ bits → Owed s whole (i + 1) tags₀ (set tags i t) bits₀ (set bits i v)
  advance n o = record { end = o.end; kinds = rw add-one o.kinds; values = rw add-one o.values }

-- the code's ways on at the words from n on
module _ (room i n : ℕ) (ws : List (List ℕ)) {whole : Said} {tags₀ tags bits₀ bits : List ℕ}
    (o : Owed (values_from (room - i) i n (drop n ws)) whole i tags₀ tags bits₀ bits) where
  turned : {p : Pair} → i < room → p ≡ pair_said (get_or ws n []) (get_or ws (n + 1) [])
      → Owed (and_more p n (pick (leb (length ws) (n + 2)) (ended (count (i + 1))) (values_from (room - (i + 1)) (i + 1) (n + 2) (drop (n + 2) ws)))) whole i tags₀ tags bits₀ bits
  turned h e = rw e (rw (next room i n ws h) at o)

  pub kind-bad : i < room → Err Kind ≡ pair_said (get_or ws n []) (get_or ws (n + 1) []) → Stored whole (bad n) tags₀ tags bits₀ bits
  kind-bad h e = finish (turned h e)

  pub bits-bad : i < room → Err Bits ≡ pair_said (get_or ws n []) (get_or ws (n + 1) []) → Stored whole (bad (n + 1)) tags₀ tags bits₀ bits
  bits-bad h e = finish (turned h e)

  pub all_read : {t v : ℕ} → i < room → Ok (t, v) ≡ pair_said (get_or ws n []) (get_or ws (n + 1) []) → length ws ≤ n + 2
      → Stored whole (count (i + 1)) tags₀ (set tags i t) bits₀ (set bits i v)
  all_read h e l = finish (rw (le-leb (length ws) (n + 2) l) at (advance n (turned h e)))

  pub more_left : {t v : ℕ} → i < room → Ok (t, v) ≡ pair_said (get_or ws n []) (get_or ws (n + 1) []) → n + 2 < length ws
      → Owed (values_from (room - (i + 1)) (i + 1) (n + 2) (drop (n + 2) ws)) whole (i + 1) tags₀ (set tags i t) bits₀ (set bits i v)
  more_left h e l = rw (lt-leb (length ws) (n + 2) l) at (advance n (turned h e))

  pub no_room : room ≤ i → Stored whole (bad n) tags₀ tags bits₀ bits
  unfolding values_from
  no_room h =
      let e : room - i ≡ 0 = omega arith in
      finish (rw e at o)
