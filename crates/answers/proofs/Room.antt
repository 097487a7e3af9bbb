-- How many bytes a line or a part of the dump can have, whatever it tells.
use Prim.Native.Nat.{ℕ, ◌+◌, ◌*◌, ◌<◌, ◌≤◌}
use native.Mathlib.Omega.{arith}
use mathlib.Core.List.{List, [], ◌∷◌}
use lib.ListN.{length}
use Rattle.std.specs.Prelude.{Option, Some, None}
use Rattle.words.specs.Room.{size}
use Rattle.words.proofs.Room.{decimal-size, decimal-below, name-size, hex-size}
use Rattle.answers.specs.Lines as Lines
use Rattle.answers.specs.Dump as Dump

-- ---- lines of a few words

module _ (n : ℕ) where
  pub returned_none_size : size (Lines.returned_none_line n) ≤ 128
  returned_none_size = omega (arith, decimal-size n)

  pub paused-size : size (Lines.paused_line n) ≤ 128
  paused-size = omega (arith, decimal-size n)

  pub refusal-size : size (Lines.refusal_line n) ≤ 128
  refusal-size = omega (arith, decimal-size n)

  pub cannot_read_size : size (Lines.cannot_read_line n) ≤ 128
  cannot_read_size = omega (arith, decimal-size n)

  pub pointer-size : size (Lines.pointer_line n) ≤ 128
  pointer-size = omega (arith, decimal-size n)

  pub image-size : size (Lines.image_line n) ≤ 128
  image-size = omega (arith, decimal-size n)

module _ (r n : ℕ) where
  pub refused-size : size (Lines.refused_line r n) ≤ 128
  refused-size = omega (arith, decimal-size r, decimal-size n)

  pub image_refused_size : size (Lines.image_refused_line r n) ≤ 128
  image_refused_size = omega (arith, decimal-size r, decimal-size n)

module _ (t b : ℕ) where
  pub returned-size : (n : ℕ) → size (Lines.returned_line t b n) ≤ 128
  returned-size n = omega (arith, name-size t, decimal-size b, decimal-size n)

  pub value-size : size (Lines.value_line t b) ≤ 128
  value-size = omega (arith, name-size t, decimal-size b)

pub ok-size : size Lines.ok_line ≤ 128
ok-size = omega arith

pub stepped-size : size Lines.stepped_line ≤ 128
stepped-size = omega arith

pub no_value_size : size Lines.no_value_line ≤ 128
no_value_size = omega arith

-- the counts of an image that was taken have four digits at most, but for the variables
pub taken-size : (v c f b i : ℕ) → c < 10000 → f < 10000 → b < 10000 → i < 10000 → size (Lines.taken_line v c f b i) ≤ 128
taken-size v c f b i p q r s = omega (arith, decimal-size v, decimal-below 3 c p, decimal-below 3 f q, decimal-below 3 b r, decimal-below 3 i s)

-- ---- lines of bytes, and the records of a list

pub bytes-size : (bs : List ℕ) (most : ℕ) → length bs ≤ most → 0 < most → size (Lines.bytes_line bs) ≤ 7 + 2 * most
bytes-size bs most h g = omega (arith, hex-size bs most h g)

pub live-size : (l f a o : ℕ) → size (Lines.live_record l f a o) ≤ 84
live-size l f a o = omega (arith, decimal-size l, decimal-size f, decimal-size a, decimal-size o)

-- ---- the dump's parts

pub state-size : (r n c : ℕ) → size (Dump.state_text r n c) ≤ 70
state-size r n c = omega (arith, decimal-size r, decimal-size n, decimal-size c)

var-size : (v : Option ℕ) → length (Dump.var_piece v) ≤ 20
var-size (Some n) = decimal-size n
var-size None = omega arith

more-size : (ls : List ℕ) → size (Dump.more_lengths ls) ≤ 21 * length ls
unfolding Dump.more_lengths
more-size [] = omega arith
more-size (l ∷ ls) = omega (arith, decimal-size l, more-size ls)

lengths_size : (ls : List ℕ) (most : ℕ) → length ls ≤ most → 0 < most → size (Dump.lengths_text ls) ≤ 21 * most
unfolding Dump.lengths_text
lengths_size [] most h g = omega arith
lengths_size (l ∷ ls) most h g = omega (arith, decimal-size l, more-size ls)

pub frame-size : (i p : ℕ) (v : Option ℕ) (ls : List ℕ) (most : ℕ) → length ls ≤ most → 0 < most → size (Dump.frame_text i p v ls) ≤ 64 + 21 * most
frame-size i p v ls most h g = omega (arith, decimal-size i, decimal-size p, var-size v, lengths_size ls most h g)

pub constant-size : (k : ℕ) → size (Dump.constant_text k) ≤ 85
constant-size k = omega (arith, decimal-size k)

pub local-size : (f i a o : ℕ) → size (Dump.local_text f i a o) ≤ 85
local-size f i a o = omega (arith, decimal-size f, decimal-size i, decimal-size a, decimal-size o)

-- the place of a variable has three digits
pub variable-size : (i t b : ℕ) → i < 1000 → size (Dump.variable_text i t b) ≤ 33
variable-size i t b h = omega (arith, decimal-below 2 i h, name-size t, decimal-size b)

pub store-size : (bs : List ℕ) (most : ℕ) → length bs ≤ most → 0 < most → size (Dump.store_text bs) ≤ 25 + 2 * most
store-size bs most h g = omega (arith, decimal-size (length bs), hex-size bs most h g)
