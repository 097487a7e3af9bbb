-- A word that can be read is there, so there is a place after it.
use Prim.Native.Nat.{ℕ, ◌+◌, ◌*◌, ◌^◌, ◌<◌}
use native.Mathlib.Decide.{dec_le}
use native.Mathlib.Omega.{arith}
use mathlib.Core.Path.{◌≡◌, refl, sym, ap, ◌∙◌}
use mathlib.Core.List.{List, []}
use lib.ListN.{length, get_or, get_or-eq_default}
use Rattle.std.specs.Prelude.{Option, None, Ok, Err, ok_or}
use Rattle.value.specs.Bytes.{same_bytes}
use Rattle.words.specs.Number.{number}
use Rattle.words.specs.Hex.{is_hex, hex_answer}
use Rattle.words.specs.Words.{words}
use Rattle.words.specs.Kinds.{name, names, kind_from, kind_read}
use Rattle.words.specs.declared.BadWord.{BadWord}
use Rattle.words.specs.declared.HexError.TheVariants.{Bad}
use Rattle.words.proofs.Reading.{words-bound}
use Rattle.commands.specs.Parts.{part_read}
use Rattle.commands.specs.declared.part.Part.{Part}
use Rattle.commands.specs.declared.part.Part.TheVariants as part
use Rattle.value.specs.Answer.{pick}
use lib.Dec.{eqb}
use mathlib.Core.Bool.{Bool, true, false}

either_none : (t : Bool) → pick {A = Option ℕ} t None None ≡ None
either_none true = refl
either_none false = refl

no_word_read : (p : Part) (d b : ℕ) → part_read p d b [] ≡ None
unfolding number kind_read kind_from names name same_bytes
no_word_read (part.UpTo most) d b = refl
no_word_read part.Frame d b = either_none (eqb d 0)
no_word_read part.Var d b = refl
no_word_read part.Kind d b = refl
no_word_read part.Bits d b = refl

no_hex_read : (room : ℕ) → hex_answer [] room ≡ Err Bad
unfolding hex_answer is_hex
no_hex_read room = refl

module _ (line : List ℕ) (k : ℕ) (l : length line * 1 < 2 ^ 63) where
  missing : {A : Type 0} (read : List ℕ → A) {x : A} → (read [] ≡ x → ⊥) → read (get_or (words line) k []) ≡ x → k + 1 < 2 ^ 64
  missing read n e =
      elim (dec_le (length (words line)) k) [
        | yes h ↦ absurd (n (ap read (sym (get_or-eq_default (words line) [] {n = k} h)) ∙ e))
        | no h ↦ omega (arith, words-bound line)
      ]

  pub part_there : (p : Part) (d b n : ℕ) → ok_or {E = BadWord} (part_read p d b (get_or (words line) k [])) (record { 0 = k }) ≡ Ok n → k + 1 < 2 ^ 64
  part_there p d b n e =
      missing (λ w. ok_or {E = BadWord} (part_read p d b w) (record { 0 = k })) (λ h. let q = no_word_read p d b in let z : ◌≡◌ {A = ℕ} 0 1 = cc in omega arith) e

  pub hex_there : (room n : ℕ) → hex_answer (get_or (words line) k []) room ≡ Ok n → k + 1 < 2 ^ 64
  hex_there room n e = missing (λ (w : List ℕ). hex_answer w room) (λ h. let q = no_hex_read room in let z : ◌≡◌ {A = ℕ} 0 1 = cc in omega arith) e
