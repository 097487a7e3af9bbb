-- What is written can be read again: no number, name or HEX holds a space or a line's end, so a line's words are those that were meant, and the
-- reader of each says what was written.
use Prim.Native.Nat.{ℕ, suc, ◌+◌, ◌/◌, ◌%◌, ◌^◌, ◌<◌, ◌≤◌}
use native.Mathlib.Decide.{dec_le, ℕ_discrete}
use native.Mathlib.Omega.{arith}
use mathlib.Core.Bool.{Bool, true, false}
use mathlib.Core.Path.{◌≡◌, refl, sym, ap, ◌∙◌}
use mathlib.Core.List.{List, [], ◌∷◌, ◌++◌, map, append_assoc}
use lib.ListN.{length, get_or, get_or-eq_default}
use lib.Dec.{ltb, eqb}
use borrow.Author.Tests.{eq-eqb, ne_eqb, eqb-true}
use Rattle.std.specs.Prelude.{Some, Ok}
use Rattle.value.specs.Answer.{pick}
use Rattle.words.specs.Ascii.{ascii}
use Rattle.words.specs.Number.{all_digits, decimal, number}
use Rattle.words.specs.Hex.{is_hex, bytes_said, glyph, pairs_of, hex_of}
use Rattle.words.specs.Words.{until, onto, parts, words, lines}
use Rattle.words.specs.Kinds.{name, names, name_of, kind_read, fits}
use Rattle.words.specs.Pairs.{pair_said}
use Rattle.answers.specs.Lines as Lines
use Rattle.words.proofs.Numbers as Numbers
use Rattle.words.proofs.Numbers.{first, all-decimal}
use Rattle.words.proofs.Bytes as Bytes
use Rattle.words.proofs.Names as Names
use Rattle.words.proofs.Names.{names-count}
use Rattle.words.proofs.Parting.{last-part}
use Rattle.words.proofs.Reading.{in_kind_lem, pair_value}
use Rattle.words.proofs.Table.{every, entry}
use Rattle.words.proofs.Whole.{joined}

-- ---- bytes without a space, or without a line's end

-- none of the bytes is b
abbrev pub Without : ℕ → List ℕ → Type 0
Without b w = until b w ≡ length w

none : {n : ℕ} → 0 ≡ suc n → ⊥
none h = omega arith

less : {m n : ℕ} → suc m ≡ suc n → m ≡ n
less h = omega arith

module _ (b : ℕ) where
  pub without_append : (u v : List ℕ) → Without b u → Without b v → Without b (u ++ v)
  unfolding until
  without_append [] v h g = g
  without_append (x ∷ u) v h g =
      elim (ℕ_discrete x b) [
        | yes e ↦ absurd (none (rw (eq-eqb x b e) at h))
        | no e ↦ rw (ne_eqb x b e) (ap suc (without_append u v (less (rw (ne_eqb x b e) at h)) g))
      ]

  -- up to the first b stands one part
  pub part-first : (last : List (List ℕ)) (w rest : List ℕ) → Without b w → parts b last (w ++ (b ∷ rest)) ≡ w ∷ parts b last rest
  unfolding until parts
  part-first last [] rest h = rw (eq-eqb b b refl)
  part-first last (x ∷ w) rest h =
      elim (ℕ_discrete x b) [
        | yes e ↦ absurd (none (rw (eq-eqb x b e) at h))
        | no e ↦ rw (ne_eqb x b e) (ap (onto x) (part-first last w rest (less (rw (ne_eqb x b e) at h))))
      ]

  -- bytes without b are one part
  part-last : (w : List ℕ) → Without b w → parts b ([] ∷ []) w ≡ w ∷ []
  unfolding parts
  part-last [] h = refl
  part-last (x ∷ w) h = last-part b ([] ∷ []) (λ y. refl) x w (omega (arith, h))

  digits_without : (48 ≤ b → b ≤ 57 → ⊥) → (w : List ℕ) → all_digits w ≡ true → Without b w
  unfolding until
  digits_without o [] h = refl
  digits_without o (x ∷ w) h =
      let f = first x w h in
      rw (ne_eqb x b (λ e. o (omega (arith, f.low)) (omega (arith, f.high)))) (ap suc (digits_without o w f.after))

  -- no number holds a byte that is no digit
  pub number_without : (48 ≤ b → b ≤ 57 → ⊥) → (n : ℕ) → Without b (decimal n)
  number_without o n = digits_without o (decimal n) (all-decimal n)

  glyph_other : b < 45 → (d : ℕ) → eqb (glyph d) b ≡ false
  glyph_other l d = go (ltb d 10)
    where
      go : (t : Bool) → eqb (pick t (48 + d) (87 + d)) b ≡ false
      go true = ne_eqb (48 + d) b (λ e. omega arith)
      go false = ne_eqb (87 + d) b (λ e. omega arith)

  pairs_without : b < 45 → (bs : List ℕ) → Without b (pairs_of bs)
  unfolding until pairs_of
  pairs_without l [] = refl
  pairs_without l (x ∷ bs) = rw (glyph_other l (x / 16), glyph_other l (x % 16)) (ap (λ (n : ℕ). suc (suc n)) (pairs_without l bs))

  hex_without : b < 45 → (bs : List ℕ) → Without b (hex_of bs)
  unfolding until hex_of
  hex_without l [] = rw (ne_eqb 45 b (λ e. omega arith))
  hex_without l (x ∷ bs) = pairs_without l (x ∷ bs)

-- no name holds a space, a line's end, `:` or `=`
pub name_test : (b : ℕ) → ℕ → List ℕ → Bool
name_test b t n = eqb (until b n) (length n)

module _ (b : ℕ) (pass : every (name_test b) 0 names ≡ true) where
  pub name_without : (t : ℕ) → Without b (name_of t)
  unfolding name_of name_test until
  name_without t =
      elim (dec_le 15 t) [
        | yes h ↦ rw (get_or-eq_default names [] {n = t} (omega (arith, names-count)))
        | no h ↦ eqb-true (until b (get_or names t [])) (length (get_or names t [])) (entry (name_test b) [] names pass t (omega (arith, names-count)))
      ]

no_space : every (name_test 32) 0 names ≡ true
unfolding name_test until names name
no_space = refl

no_end : every (name_test 10) 0 names ≡ true
unfolding name_test until names name
no_end = refl

pub no_colon : every (name_test 58) 0 names ≡ true
unfolding name_test until names name
no_colon = refl

pub no_equals : every (name_test 61) 0 names ≡ true
unfolding name_test until names name
no_equals = refl

-- ---- the shape of a line

-- a word of a line: a fixed one, a number, a kind, or HEX
pub data Item : Type 0 where
  fixed : List ℕ → Item
  num : ℕ → Item
  kind : ℕ → Item
  hex : List ℕ → Item

abbrev pub shown : Item → List ℕ
shown (fixed w) = w
shown (num n) = decimal n
shown (kind t) = name_of t
shown (hex bs) = hex_of bs

-- what a program can hold: a number of 64 bits, a tag of a kind, bytes
abbrev pub Held : Item → Type 0
Held (fixed w) = (Without 32 w) × (Without 10 w)
Held (num n) = n < 2 ^ 64
Held (kind t) = (0 < t) × (t < 15)
Held (hex bs) = (k : ℕ) → get_or bs k 0 < 256

-- the word's reader says what was written
abbrev pub Says : Item → Type 0
Says (fixed w) = w ≡ w
Says (num n) = number (decimal n) ≡ Some n
Says (kind t) = kind_read (name_of t) ≡ Some t
Says (hex bs) = (is_hex (hex_of bs) ≡ true) × (bytes_said (hex_of bs) ≡ bs)

says : (i : Item) → Held i → Says i
says (fixed w) h = refl
says (num n) h = Numbers.there n h
says (kind t) h = Names.there t h.0 h.1
says (hex bs) h = Bytes.there bs h

one_word : (i : Item) → Held i → Without 32 (shown i)
one_word (fixed w) h = h.0
one_word (num n) h = number_without 32 (λ l u. omega arith) n
one_word (kind t) h = name_without 32 no_space t
one_word (hex bs) h = hex_without 32 (omega arith) bs

one_line : (i : Item) → Held i → Without 10 (shown i)
one_line (fixed w) h = h.1
one_line (num n) h = number_without 10 (λ l u. omega arith) n
one_line (kind t) h = name_without 10 no_end t
one_line (hex bs) h = hex_without 10 (omega arith) bs

-- words with one byte between, and those with one space between and the line's end
abbrev pub parted : ℕ → Item → List Item → List ℕ
parted b i [] = shown i
parted b i (j ∷ is) = shown i ++ (b ∷ parted b j is)

abbrev pub ended : Item → List Item → List ℕ
ended i [] = shown i ++ (10 ∷ [])
ended i (j ∷ is) = shown i ++ (32 ∷ ended j is)

abbrev pub All : (Item → Type 0) → Item → List Item → Type 0
All P i [] = P i
All P i (j ∷ is) = P i × All P j is

-- a text is one line, its words are those that were meant, and each reader says what was written
pub record Again (text : List ℕ) (i : Item) (is : List Item) : Type 0 where
  pub line : lines text ≡ parted 32 i is ∷ []
  pub words : words (parted 32 i is) ≡ map shown (i ∷ is)
  pub said : All Says i is

-- words parted by a byte are one word of a line, are found again at that byte, and each reader says what was written
pub record Apart (b : ℕ) (i : Item) (is : List Item) : Type 0 where
  pub whole : Held (fixed (parted b i is))
  pub parts : parts b ([] ∷ []) (parted b i is) ≡ map shown (i ∷ is)
  pub said : All Says i is

abbrev pub Lacks : ℕ → Item → Type 0
Lacks b i = Without b (shown i)

parted_parts : (b : ℕ) (i : Item) (is : List Item) → All (Lacks b) i is → parts b ([] ∷ []) (parted b i is) ≡ map shown (i ∷ is)
parted_parts b i [] h = part-last b (shown i) h
parted_parts b i (j ∷ is) h = part-first b ([] ∷ []) (shown i) (parted b j is) h.0 ∙ ap (λ (ws : List (List ℕ)). shown i ∷ ws) (parted_parts b j is h.1)

pub parted_without : (b c : ℕ) → eqb b c ≡ false → (i : Item) (is : List Item) → All (Lacks c) i is → Without c (parted b i is)
unfolding until
parted_without b c n i [] h = h
parted_without b c n i (j ∷ is) h = without_append c (shown i) (b ∷ parted b j is) h.0 (rw n (ap suc (parted_without b c n j is h.1)))

ended_is : (i : Item) (is : List Item) → ended i is ≡ parted 32 i is ++ (10 ∷ [])
ended_is i [] = refl
ended_is i (j ∷ is) = ap (λ (l : List ℕ). shown i ++ (32 ∷ l)) (ended_is j is) ∙ sym (append_assoc (shown i) (32 ∷ parted 32 j is) (10 ∷ []))

all_map : (P Q : Item → Type 0) → ((i : Item) → P i → Q i) → (i : Item) (is : List Item) → All P i is → All Q i is
all_map P Q f i [] h = f i h
all_map P Q f i (j ∷ is) h = (f i h.0, all_map P Q f j is h.1)

pub again : (i : Item) (is : List Item) → All Held i is → Again (ended i is) i is
unfolding lines words parts
again i is h = record {
  line = ap lines (ended_is i is) ∙ part-first 10 [] (parted 32 i is) [] (parted_without 32 10 refl i is (all_map Held (Lacks 10) one_line i is h));
  words = parted_parts 32 i is (all_map Held (Lacks 32) one_word i is h);
  said = all_map Held Says says i is h;
}

pub apart : (b : ℕ) → eqb b 32 ≡ false → eqb b 10 ≡ false → (i : Item) (is : List Item) → All (Lacks b) i is → All Held i is → Apart b i is
apart b m n i is l h = record {
  whole = (parted_without b 32 m i is (all_map Held (Lacks 32) one_word i is h), parted_without b 10 n i is (all_map Held (Lacks 10) one_line i is h));
  parts = parted_parts b i is l;
  said = all_map Held Says says i is h;
}

-- a kind and its bits, read as a pair
pub pair_again : (t b : ℕ) → 0 < t → t < 15 → b < 2 ^ 64 → fits t b ≡ true → pair_said (name_of t) (decimal b) ≡ Ok (t, b)
pair_again t b l u h f =
    sym (pair_value (name_of t) (decimal b) t b (Names.there t l u) (sym (in_kind_lem (decimal b) t b (Numbers.there b h) f)))

-- ---- each line

module _ (t b n : ℕ) (l : 0 < t) (u : t < 15) (p : b < 2 ^ 64) (q : n < 2 ^ 64) where
  pub returned_again : Again (joined (Lines.returned_line t b n)) (fixed (ascii "returned")) (kind t ∷ num b ∷ fixed (ascii "steps") ∷ num n ∷ [])
  unfolding until
  returned_again = again (fixed (ascii "returned")) (kind t ∷ num b ∷ fixed (ascii "steps") ∷ num n ∷ []) ((refl, refl), ((l, u), (p, ((refl, refl), q))))

  pub value_again : Again (joined (Lines.value_line t b)) (fixed (ascii "returned")) (kind t ∷ num b ∷ [])
  unfolding until
  value_again = again (fixed (ascii "returned")) (kind t ∷ num b ∷ []) ((refl, refl), ((l, u), p))

module _ (n : ℕ) (q : n < 2 ^ 64) where
  pub returned_none_again : Again (joined (Lines.returned_none_line n)) (fixed (ascii "returned")) (fixed (ascii "none") ∷ fixed (ascii "steps") ∷ num n ∷ [])
  unfolding until
  returned_none_again = again (fixed (ascii "returned")) (fixed (ascii "none") ∷ fixed (ascii "steps") ∷ num n ∷ []) ((refl, refl), ((refl, refl), ((refl, refl), q)))

  pub paused_again : Again (joined (Lines.paused_line n)) (fixed (ascii "paused")) (fixed (ascii "steps") ∷ num n ∷ [])
  unfolding until
  paused_again = again (fixed (ascii "paused")) (fixed (ascii "steps") ∷ num n ∷ []) ((refl, refl), ((refl, refl), q))

  pub refusal_again : Again (joined (Lines.refusal_line n)) (fixed (ascii "refused")) (num n ∷ [])
  unfolding until
  refusal_again = again (fixed (ascii "refused")) (num n ∷ []) ((refl, refl), q)

  pub cannot_read_again : Again (joined (Lines.cannot_read_line n)) (fixed (ascii "cannot")) (fixed (ascii "read:") ∷ fixed (ascii "word") ∷ num n ∷ [])
  unfolding until
  cannot_read_again = again (fixed (ascii "cannot")) (fixed (ascii "read:") ∷ fixed (ascii "word") ∷ num n ∷ []) ((refl, refl), ((refl, refl), ((refl, refl), q)))

  pub pointer_again : Again (joined (Lines.pointer_line n)) (fixed (ascii "pointer")) (num n ∷ [])
  unfolding until
  pointer_again = again (fixed (ascii "pointer")) (num n ∷ []) ((refl, refl), q)

  pub image_again : Again (joined (Lines.image_line n)) (fixed (ascii "image")) (num n ∷ fixed (ascii "bytes") ∷ [])
  unfolding until
  image_again = again (fixed (ascii "image")) (num n ∷ fixed (ascii "bytes") ∷ []) ((refl, refl), (q, (refl, refl)))

module _ (r n : ℕ) (p : r < 2 ^ 64) (q : n < 2 ^ 64) where
  pub refused_again : Again (joined (Lines.refused_line r n)) (fixed (ascii "refused")) (num r ∷ fixed (ascii "steps") ∷ num n ∷ [])
  unfolding until
  refused_again = again (fixed (ascii "refused")) (num r ∷ fixed (ascii "steps") ∷ num n ∷ []) ((refl, refl), (p, ((refl, refl), q)))

  pub image_refused_again : Again (joined (Lines.image_refused_line r n)) (fixed (ascii "image")) (fixed (ascii "refused") ∷ num r ∷ fixed (ascii "at") ∷ num n ∷ [])
  unfolding until
  image_refused_again = again (fixed (ascii "image")) (fixed (ascii "refused") ∷ num r ∷ fixed (ascii "at") ∷ num n ∷ []) ((refl, refl), ((refl, refl), (p, ((refl, refl), q))))

pub bytes_again : (bs : List ℕ) → ((k : ℕ) → get_or bs k 0 < 256) → Again (joined (Lines.bytes_line bs)) (fixed (ascii "bytes")) (hex bs ∷ [])
unfolding until
bytes_again bs h = again (fixed (ascii "bytes")) (hex bs ∷ []) ((refl, refl), h)

pub ok_again : Again (joined Lines.ok_line) (fixed (ascii "ok")) []
unfolding until
ok_again = again (fixed (ascii "ok")) [] (refl, refl)

pub stepped_again : Again (joined Lines.stepped_line) (fixed (ascii "stepped")) []
unfolding until
stepped_again = again (fixed (ascii "stepped")) [] (refl, refl)

pub no_value_again : Again (joined Lines.no_value_line) (fixed (ascii "returned")) (fixed (ascii "none") ∷ [])
unfolding until
no_value_again = again (fixed (ascii "returned")) (fixed (ascii "none") ∷ []) ((refl, refl), (refl, refl))

module _ (v c f b i : ℕ) (h : (v < 2 ^ 64) × (c < 2 ^ 64) × (f < 2 ^ 64) × (b < 2 ^ 64) × (i < 2 ^ 64)) where
  pub taken_again : Again (joined (Lines.taken_line v c f b i)) (fixed (ascii "taken"))
      (fixed (ascii "variables") ∷ num v ∷ fixed (ascii "constants") ∷ num c ∷ fixed (ascii "functions") ∷ num f ∷ fixed (ascii "blocks") ∷ num b ∷ fixed (ascii "instructions") ∷ num i ∷ [])
  unfolding until
  taken_again = again (fixed (ascii "taken"))
      (fixed (ascii "variables") ∷ num v ∷ fixed (ascii "constants") ∷ num c ∷ fixed (ascii "functions") ∷ num f ∷ fixed (ascii "blocks") ∷ num b ∷ fixed (ascii "instructions") ∷ num i ∷ [])
      ((refl, refl), ((refl, refl), (h.0, ((refl, refl), (h.1, ((refl, refl), (h.2, ((refl, refl), (h.3, ((refl, refl), h.4))))))))))
