-- Values through pointers: a value's bytes written, and read again, by what the memory grants.
use Rattle.std.specs.Prelude.{Result, Ok, Err, Some, None, ⊤, ok_or}
use Rattle.std.specs.Prelude as Code
use Prim.Native.Nat.{ℕ, ◌+◌, ◌-◌, ◌<◌, ◌≤◌}
use native.Mathlib.Nat.{sub-zero}
use native.Mathlib.Omega.{arith}
use mathlib.Core.Path.{◌≡◌, refl, sym, ap, ◌∙◌}
use mathlib.Core.List.{List, [], ◌∷◌, ◌++◌, append-nil}
use mathlib.Core.Option.{Option, none, some}
use lib.ListN.{length, take, drop, replicate, length-replicate, length-append}
use lib.Seq.{take_at, length-take-le}
use borrow.Author.Tests.{le-leb, lt-ltb}
use Rattle.value.specs.declared.refusal.Refusal.{Refusal}
use Rattle.value.specs.Refusal.{not_sound, no_instruction}
use Rattle.value.specs.Answer.{Answer, refused}
use Rattle.value.specs.Value.{Value, u64, i64, f64, pointer, IrType, Boolean, U8, U16, U32, U64, I8, I16, I32, I64, F32, F64, Pointer, kind_of, tag, size, bytes_of, from_bytes}
use Rattle.value.specs.Tags.{kind_at, named, holds}
use Rattle.value.specs.Ir.{value_of, ir_of, type_of, ir_type, made, tagged, written, computed, loaded}
use Rattle.value.specs.Floats.{double}
use Rattle.value.specs.declared.IrValue.{IrValue}
use Rattle.value.specs.declared.IrValue.TheVariants as ir
use Rattle.value.specs.declared.Double.{Double}
use Rattle.value.specs.declared.IrType as T
use Rattle.value.proofs.LowFirst.{length-bytes, size_small}
use Rattle.machine.proofs.Values.{Keeps, Good, read-good}
use Rattle.memory.specs.Tables.{Tables, Both, both, read_access_of, constant_access_of, constant_of, taken_at, get_at, read_of, written_of}
use Rattle.memory.specs.declared.Source.{Source}
use Rattle.memory.specs.declared.Source.TheVariants as source
use Rattle.memory.proofs.Laws.{read_fits, constant-fits}
use Rattle.memory.proofs.Tab.{part_length}
use Rattle.instruction.specs.Compute.{answer_of, found_of}
use Rattle.instruction.specs.Short.{Word}
use Rattle.instruction.specs.Storage.{stored_of, stored_by, loaded_as, value_in, read_as, read_by}
use Rattle.instruction.specs.declared.variables.Found.{Found}
use Rattle.instruction.proofs.Computed.{as_value, valued, unvalued, found_back}
use Rattle.instruction.proofs.Bytes.{are-bytes, take-bytes, part_bytes}
use Rattle.image.specs.Limits.{AreBytes}

-- ---- a value's bytes, written

-- a fresh array of eight bytes
abbrev pub zeros : List ℕ
zeros = 0 ∷ 0 ∷ 0 ∷ 0 ∷ 0 ∷ 0 ∷ 0 ∷ 0 ∷ []

bytes-length : (v : Value) → length (bytes_of v) ≡ size v.kind
unfolding bytes_of
bytes-length v = length-bytes (size v.kind) v.bits

-- what `IrValue::write` leaves of an array of eight has the value's bytes in front
module _ (v : Value) (n : ℕ) (after : List ℕ) (e : n ≡ size v.kind) (h : after ≡ written (bytes_of v) zeros) where
  front : after ≡ bytes_of v ++ drop (length (bytes_of v)) zeros
  front =
      let k = bytes-length v in
      let s = size_small v.kind in
      h ∙ rw (le-leb (length (bytes_of v)) 8 (omega arith))

  pub bytes_fit : n ≤ length after
  bytes_fit =
      let k = bytes-length v in
      rw front (rw length-append (omega arith))

  pub bytes_in_front : take (n - 0) after ≡ bytes_of v
  bytes_in_front =
      ap (λ (i : ℕ). take i after) (sub-zero n ∙ e) ∙ ap (take (size v.kind)) front
      ∙ take_at (bytes_of v) (drop (length (bytes_of v)) zeros) (size v.kind) (bytes-length v)

  -- and nothing else, where they are eight
  pub bytes_alone : size v.kind ≡ 8 → after ≡ bytes_of v
  bytes_alone w = front ∙ ap (λ (k : ℕ). bytes_of v ++ drop k zeros) (bytes-length v ∙ w) ∙ append-nil (bytes_of v)

-- any eight bytes are a value of each such kind
module _ (t b : ℕ) (h : b < 18446744073709551616) where
  pub unsigned-word : t ≡ tag u64 → Word t b (Some (ir.U64 b))
  unfolding made ir_of kind_at named tag holds value_of size
  unsigned-word e = rw (e, lt-ltb b 18446744073709551616 h) (refl, refl)

  pub signed_word : t ≡ tag i64 → (r : Code.Option IrValue) → r ≡ made (kind_at (tag i64)) b → Word t b r
  unfolding made ir_of kind_at named tag holds value_of size
  signed_word e r d =
      let is : made (kind_at (tag i64)) b ≡ Some (ir_of i64 b) = rw (lt-ltb b 18446744073709551616 h) in
      rw (e, d ∙ is) (is, refl)

  pub float_word : t ≡ tag f64 → (x : Double) → x ≡ double b → Word t b (Some (ir.F64 x))
  unfolding made ir_of kind_at named tag holds value_of size
  float_word e x d = rw (e, d, lt-ltb b 18446744073709551616 h) (refl, refl)

  pub pointer_word : t ≡ tag pointer → Word t b (Some (ir.Pointer b))
  unfolding made ir_of kind_at named tag holds value_of size
  pointer_word e = rw (e, lt-ltb b 18446744073709551616 h) (refl, refl)

-- a value that is made the short way
pub word_valued : (v : Found) (w : IrValue) → made (kind_at v.tag) v.bits ≡ Some w → computed (answer_of (Ok v)) ≡ Ok w
unfolding answer_of
word_valued v w e = sym (as_value (kind_at v.tag) v.bits) ∙ ap (λ (o : Code.Option IrValue). ok_or o not_sound) e

module _ (t : Tables) (p : ℕ) (v : Found) where
  pub stored_unsound : (n : Refusal) → computed (answer_of (Ok v)) ≡ Err n → both (Err n) t.store ≡ stored_of t p (Ok v)
  unfolding stored_of
  stored_unsound n e = sym (ap (stored_by t p) (unvalued v n e))

  pub stored_value : (w : IrValue) → computed (answer_of (Ok v)) ≡ Ok w → (bytes : List ℕ) → bytes ≡ bytes_of (value_of w) → (r : Both (Result ⊤ Refusal)) → r ≡ written_of t p bytes
      → r ≡ stored_of t p (Ok v)
  unfolding stored_of
  stored_value w e bytes b r h = h ∙ ap (written_of t p) b ∙ sym (ap (stored_by t p) (valued v w e))

pub not_stored : (t : Tables) (p : ℕ) (n : Refusal) → stored_of t p (Err n) ≡ both (Err n) t.store
unfolding stored_of answer_of
not_stored t p n = refl

-- ---- a value's bytes, read

-- and back to tag and bits
loaded-back : (a : Answer Value) → Keeps Good a → loaded_as (Some (computed a)) ≡ found_of a
loaded-back a k = found_back a k

-- a type's own number of bytes, at the front of others
loaded-front : (ty : IrType) (bs : List ℕ) → size (kind_of ty) ≤ length bs → AreBytes bs → loaded_as (loaded ty bs) ≡ found_of (from_bytes ty (take (size (kind_of ty)) bs))
unfolding loaded
loaded-front ty bs h small =
    let n = size (kind_of ty) in
    rw (le-leb n (length bs) h) (loaded-back (from_bytes ty (take n bs)) (read-good ty (take n bs) (length-take-le n bs h, are-bytes (take n bs) (take-bytes n bs small))))

module _ (t : Tables) (p : ℕ) (ty : IrType) (raw extents : List ℕ) (n : ℕ) (l : n ≡ size (kind_of ty)) where
  abbrev fresh : List ℕ
  fresh = replicate (size (kind_of ty)) 0

  as_long : length fresh ≡ n
  as_long = length-replicate (size (kind_of ty)) 0 ∙ sym l

  as_got : (x : Result Source Refusal) → read_access_of t p n ≡ x → value_in ty (get_at x t.store fresh raw extents).answer (get_at x t.store fresh raw extents).table ≡ read_as t p ty raw extents
  unfolding read_as read_of
  as_got x e =
      ap (λ (y : (Result Source Refusal)). value_in ty (get_at y t.store fresh raw extents).answer (get_at y t.store fresh raw extents).table)
      (sym e ∙ ap (read_access_of t p) (sym as_long))

  part-loaded : (s : List ℕ) (at : ℕ) → at + n ≤ length s → AreBytes s → loaded_as (loaded ty (take (at + n - at) (drop at s))) ≡ found_of (from_bytes ty (take (length fresh) (drop at s)))
  part-loaded s at h small =
      let w : at + n - at ≡ n = omega arith in
      let bs = take n (drop at s) in
      let k : length bs ≡ n = part_length s at n h in
      let whole : take (size (kind_of ty)) bs ≡ bs = ap (take (size (kind_of ty))) (sym (append-nil bs)) ∙ take_at bs [] (size (kind_of ty)) (k ∙ l) in
      ap (λ (i : ℕ). loaded_as (loaded ty (take i (drop at s)))) w ∙ loaded-front ty bs (omega arith) (part_bytes s at n small)
      ∙ ap (λ (r : List ℕ). found_of (from_bytes ty r)) (whole ∙ ap (λ (i : ℕ). take i (drop at s)) (sym as_long))

  pub read_local : (at : ℕ) → read_access_of t p n ≡ Ok (source.Local at) → AreBytes t.store → loaded_as (loaded ty (take (at + n - at) (drop at t.store))) ≡ found_of (read_as t p ty raw extents)
  read_local at e small = part-loaded t.store at (read_fits t p n at e) small ∙ ap found_of (as_got (Ok (source.Local at)) e)

  pub not_read : (x : Refusal) → read_access_of t p n ≡ Err x → read_as t p ty raw extents ≡ refused x
  not_read x e = sym (as_got (Err x) e)

  module _ (k : ℕ) (e : read_access_of t p n ≡ Ok (source.Constant k)) where
    as_taken : (x : (Result ℕ Refusal)) → constant_access_of k n raw extents ≡ x → value_in ty (taken_at x fresh raw).answer (taken_at x fresh raw).table ≡ read_as t p ty raw extents
    unfolding constant_of
    as_taken x d =
        ap (λ (y : (Result ℕ Refusal)). value_in ty (taken_at y fresh raw).answer (taken_at y fresh raw).table) (sym d ∙ ap (λ (i : ℕ). constant_access_of k i raw extents) (sym as_long))
        ∙ as_got (Ok (source.Constant k)) e

    pub read_constant : (at : ℕ) → constant_access_of k n raw extents ≡ Ok at → AreBytes raw → loaded_as (loaded ty (take (at + n - at) (drop at raw))) ≡ found_of (read_as t p ty raw extents)
    read_constant at d small = part-loaded raw at (constant-fits k n raw extents at d) small ∙ ap found_of (as_taken (Ok at) d)

    pub no_constant_lem : (x : Refusal) → constant_access_of k n raw extents ≡ Err x → read_as t p ty raw extents ≡ refused x
    no_constant_lem x d = sym (as_taken (Err x) d)

-- ---- Read

there_and_back : (ty : IrType) → type_of (ir_type ty) ≡ ty
unfolding type_of ir_type
there_and_back Boolean = refl
there_and_back U8 = refl
there_and_back U16 = refl
there_and_back U32 = refl
there_and_back U64 = refl
there_and_back I8 = refl
there_and_back I16 = refl
there_and_back I32 = refl
there_and_back I64 = refl
there_and_back F32 = refl
there_and_back F64 = refl
there_and_back Pointer = refl

module _ (t : Tables) (p : ℕ) (s extents : List ℕ) where
  pub read_none : (o : Option IrType) → tagged o ≡ None → read_by t p o s extents ≡ refused no_instruction
  unfolding tagged
  read_none none e = refl
  read_none (some ty) e = absurd (let z : ◌≡◌ {A = ℕ} 0 1 = cc in omega arith)

  pub read_some : (o : Option IrType) (ty : T.IrType) → tagged o ≡ Some ty → read_by t p o s extents ≡ read_as t p (type_of ty) s extents
  unfolding tagged
  read_some none ty e = absurd (let z : ◌≡◌ {A = ℕ} 0 1 = cc in omega arith)
  read_some (some u) ty e =
      let same : ty ≡ ir_type u = cc in
      sym (ap (λ (w : IrType). read_as t p w s extents) (ap type_of same ∙ there_and_back u))

-- ---- what the code's functions cite

pub ruleset stores = (bytes_fit, bytes_in_front, stored_value, stored_unsound, word_valued, not_stored)

pub ruleset reads = (read_local, not_read, read_constant, no_constant_lem)

pub ruleset typed = (read_none, read_some)
