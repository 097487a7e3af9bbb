-- The steps of `bytes_from`, the bound that lets the code divide, and bytes that are stored or have no room.
use Rattle.std.specs.Prelude.{Some, None}
use Prim.Native.Nat.{ℕ, zero, suc, ◌+◌, ◌-◌, ◌*◌, ◌/◌, ◌%◌, ◌^◌, ◌<◌, ◌≤◌}
use native.Mathlib.Nat.{pow-suc, mul_assoc, div-lt_iff_lt-mul}
use native.Mathlib.Numerals.{sub-one, add-one}
use native.Mathlib.Omega.{arith}
use mathlib.Core.Path.{◌≡◌, refl, sym, ap, ◌∙◌}
use mathlib.Core.List.{List, [], ◌∷◌}
use lib.ListN.{length, set}
use lib.Seq.{sets}
use borrow.Author.Tests.{lt-ltb, le-ltb, le-leb, lt-leb}
use Rattle.image.specs.Number.{bytes_from}
use Rattle.image.specs.Answer.{Stored}

pub last_byte : (spare v : ℕ) → v < 128 → bytes_from spare v ≡ v ∷ []
unfolding bytes_from
last_byte zero v h = refl
last_byte (suc f) v h = rw (lt-ltb v 128 h)

pub more_bytes : (spare v : ℕ) → 0 < spare → 128 ≤ v → bytes_from spare v ≡ (v % 128 + 128) ∷ bytes_from (spare - 1) (v / 128)
unfolding bytes_from
more_bytes zero v p h = absurd (omega arith)
more_bytes (suc f) v p h = rw (sub-one, le-ltb v 128 h)

-- v is below what `spare` groups after the first can hold
abbrev pub Held : ℕ → ℕ → Type 0
Held spare v = v < 2 * 128 ^ spare

pub held_spare : (spare v : ℕ) → Held spare v → 128 ≤ v → 0 < spare
held_spare zero v h g = absurd (omega arith)
held_spare (suc f) v h g = omega arith

pub held-less : (spare v : ℕ) → 0 < spare → Held spare v → Held (spare - 1) (v / 128)
held-less zero v p h = absurd (omega arith)
held-less (suc f) v p h = rw sub-one ((div-lt_iff_lt-mul {k = 128} (omega arith)).1 (rw (mul_assoc 2 (128 ^ f) 128, ← pow-suc 128 f) h))

pub write-more : (out : List ℕ) (at spare left : ℕ) {whole : List ℕ} → 0 < spare → 128 ≤ left → sets out at (bytes_from spare left) ≡ whole
    → sets (set out at (left % 128 + 128)) (at + 1) (bytes_from (spare - 1) (left / 128)) ≡ whole
write-more out at spare left p h e = rw add-one (ap (sets out at) (sym (more_bytes spare left p h)) ∙ e)

pub write-last : (out : List ℕ) (at spare left : ℕ) {whole : List ℕ} → left < 128 → sets out at (bytes_from spare left) ≡ whole → set out at left ≡ whole
write-last out at spare left h e = ap (sets out at) (sym (last_byte spare left h)) ∙ e

-- bytes that are stored, or have no room
module _ (x : List ℕ) (start : ℕ) (before : List ℕ) where
  pub stored : (to : ℕ) (after : List ℕ) → start + length x ≤ length before → to ≡ start + length x → after ≡ sets before start x → Stored x start before (Some to) after
  stored to after room e f =
      let b = le-leb (start + length x) (length before) room in
      record { answer = rw b (ap Some e); buffer = rw b f }

  pub no_room : length before < start + length x → Stored x start before None before
  no_room over =
      let b = lt-leb (start + length x) (length before) over in
      record { answer = rw b; buffer = rw b }
