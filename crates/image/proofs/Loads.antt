-- Any program within the limits, written, loads to itself: its pieces stand where their bytes are, and each field is read by the law of its shape.
use Prim.Native.Nat.{ℕ, zero, suc, ◌+◌, ◌/◌, ◌^◌, ◌≤◌, ◌<◌}
use native.Mathlib.Numerals.{sub-one}
use native.Mathlib.Decide.{dec_le}
use native.Mathlib.Omega.{arith}
use mathlib.Core.Bool.{Bool, true, false}
use mathlib.Core.Path.{◌≡◌, refl, sym, ap, subst, ◌∙◌}
use mathlib.Core.List.{List, [], ◌∷◌, ◌++◌, append_assoc, append-nil}
use mathlib.Core.Option.{Option, none, some}
use lib.ListN.{length, get_or}
use borrow.Author.Tests.{ltb-true, le-leb}
use Rattle.value.specs.Answer.{pick}
use Rattle.value.specs.Refusal.{unknown, over_limit, beyond_count}
use Rattle.value.specs.Value.{Kind, IrType, IntCmp, FloatCmp, value, kind_of, tag}
use Rattle.value.specs.Tags.{type_at, holds, int_cmp_at, float_cmp_at, int_cmp_number, float_cmp_number}
use Rattle.value.proofs.Tags.{kind_of_tag, tag-some, type_of_tag}
use Rattle.value.proofs.Comparisons.{int_of_number, float_of_number}
use Rattle.value.proofs.Roundtrip.{scalar_small}
use Rattle.image.specs.Parse.{Got, took, refused, Field, and_then, give, ◌>>=◌}
use Rattle.image.specs.Number.{bytes_of, bytes_from}
use Rattle.image.specs.Fields.{listed, known, optional, list_of, bytes, at_end}
use Rattle.image.specs.Image.{Counts, versions, flags, items, flags_of, most_parameters, header, literal_of, u32, size, type, var, label, constant, callee, block, form, operand, slot, branch, declared, table, instruction, function, loaded}
use Rattle.image.specs.Program.{Program, Operand, literal, Slot, Branch, Declared, Item, Function, Instruction, Jump, Switch, Assign, ConstantAddress, Call, Return, IntCmp', FloatCmp', Add, Sub, Mul, Div, Mod, FDiv, Not, Negate, Offset, Initialize, Write, Read, Copy, Drop}
use Rattle.image.specs.Written.{Piece, num, raw, counted, maybe, length_and, flag_number, item_number, type_number, spelt, pieces, written}
use Rattle.image.specs.Written as W
use Rattle.image.specs.Limits.{Each, UpTo, IfAny, Flagged, IsByte, IsSize, IsU32, IsVariable, IsLabel, IsConstant, IsFunction, IsOperand, IsSlot, IsBranch, IsDeclared, IsInstruction, IsFunctionItem, counts_of, WithinLimits, AreBytes}
use Rattle.image.proofs.Takes.{Takes, each_append, then_takes, give_takes, same-pieces, map_takes, two_takes, three_takes, four_takes, five_takes, number_takes, such_takes, below_takes, up_to_takes, known_takes, tabled_takes, optional_takes, many_takes, list_takes, bytes_takes, within_takes}
use Rattle.image.specs.Standing.{Stand}
use Rattle.image.proofs.Bytes.{last_byte, more_bytes, Held, held-less}
use Rattle.image.proofs.Standing.{Writable, stand_split, spelt-stands}
use Rattle.image.proofs.Writes.{headed, loaded-writes, loaded-within}
use Rattle.image.proofs.Parts.{same_place}
use Rattle.image.proofs.Plain.{plain, plain_parts, loaded-plain}

-- ---- names that stand for a number

tag_small : (k : Kind) → tag k < 2 ^ 64
unfolding tag
tag_small Kind.bool = omega arith
tag_small Kind.u8 = omega arith
tag_small Kind.u16 = omega arith
tag_small Kind.u32 = omega arith
tag_small Kind.u64 = omega arith
tag_small Kind.i8 = omega arith
tag_small Kind.i16 = omega arith
tag_small Kind.i32 = omega arith
tag_small Kind.i64 = omega arith
tag_small Kind.f32 = omega arith
tag_small Kind.f64 = omega arith
tag_small Kind.char = omega arith
tag_small Kind.asn = omega arith
tag_small Kind.pointer = omega arith

int_small : (c : IntCmp) → int_cmp_number c < 2 ^ 64
int_small IntCmp.Eq = omega arith
int_small IntCmp.Ne = omega arith
int_small IntCmp.ULt = omega arith
int_small IntCmp.ULe = omega arith
int_small IntCmp.UGt = omega arith
int_small IntCmp.UGe = omega arith
int_small IntCmp.SLt = omega arith
int_small IntCmp.SLe = omega arith
int_small IntCmp.SGt = omega arith
int_small IntCmp.SGe = omega arith

float_small : (c : FloatCmp) → float_cmp_number c < 2 ^ 64
float_small FloatCmp.FEq = omega arith
float_small FloatCmp.FNe = omega arith
float_small FloatCmp.FLt = omega arith
float_small FloatCmp.FLe = omega arith
float_small FloatCmp.FGt = omega arith
float_small FloatCmp.FGe = omega arith

flag_at : (i : Item) (b : Bool) → Flagged i b → (get_or (flags_of i) (flag_number b) none ≡ some b) × (flag_number b < 2 ^ 64)
unfolding Flagged
flag_at Item.function false h = (refl, omega arith)
flag_at Item.function true h = (refl, omega arith)
flag_at Item.constant_item false h = let z : ◌≡◌ {A = ℕ} 0 1 = cc in absurd (omega arith)
flag_at Item.constant_item true h = (refl, omega arith)

item-at : (i : Item) → (get_or items (item_number i) none ≡ some i) × (item_number i < 2 ^ 64)
item-at Item.function = (refl, omega arith)
item-at Item.constant_item = (refl, omega arith)

few : (i : Item) → most_parameters i < 2 ^ 64
few Item.function = omega arith
few Item.constant_item = omega arith

holds-small : (k : Kind) (b : ℕ) → holds k b ≡ true → b < 2 ^ 64
unfolding holds
holds-small Kind.bool b h = omega (arith, ltb-true b 2 h)
holds-small Kind.u8 b h = omega (arith, ltb-true b (2 ^ 8) h)
holds-small Kind.u16 b h = omega (arith, ltb-true b (2 ^ 16) h)
holds-small Kind.u32 b h = omega (arith, ltb-true b (2 ^ 32) h)
holds-small Kind.u64 b h = ltb-true b (2 ^ 64) h
holds-small Kind.i8 b h = omega (arith, ltb-true b (2 ^ 8) h)
holds-small Kind.i16 b h = omega (arith, ltb-true b (2 ^ 16) h)
holds-small Kind.i32 b h = omega (arith, ltb-true b (2 ^ 32) h)
holds-small Kind.i64 b h = ltb-true b (2 ^ 64) h
holds-small Kind.f32 b h = omega (arith, ltb-true b (2 ^ 32) h)
holds-small Kind.f64 b h = ltb-true b (2 ^ 64) h
holds-small Kind.char b h = omega (arith, scalar_small b h)
holds-small Kind.asn b h = omega (arith, ltb-true b (2 ^ 32) h)
holds-small Kind.pointer b h = ltb-true b (2 ^ 64) h

-- ---- fields

-- counts that a number can hold
pub record Countable (n : Counts) : Type 0 where
  pub variables : n.variables ≤ 2 ^ 64
  pub constants : n.constants ≤ 2 ^ 64
  pub functions : n.functions ≤ 2 ^ 64
  pub blocks : n.blocks ≤ 2 ^ 64

form-at : (s : List ℕ) (n : Counts) (k : Kind) → form s n (tag k) ≡ some (literal_of s k)
form-at s n k = rw (tag-some k, kind_of_tag k)

module _ {s : List ℕ} where
  type_takes : (t : IrType) → Takes s (type s) (W.number (type_number t)) t
  unfolding type
  type_takes t = known_takes type_at (tag (kind_of t)) (tag_small (kind_of t)) (type_of_tag t)

  flag_takes : (i : Item) (b : Bool) → Flagged i b → Takes s (known s (listed (flags_of i))) (W.number (flag_number b)) b
  flag_takes i b h = known_takes (listed (flags_of i)) (flag_number b) (flag_at i b h).1 (flag_at i b h).0

  signed_takes : (b : Bool) → Takes s (known s (listed flags)) (W.number (flag_number b)) b
  unfolding Flagged
  signed_takes b = flag_takes Item.function b tt

  u32_takes : {v : ℕ} → IsU32 v → Takes s (u32 s) (W.number v) v
  unfolding u32
  u32_takes h = below_takes (2 ^ 32) unknown (omega arith) h

  size_takes : {v : ℕ} → IsSize v → Takes s (size s) (W.number v) v
  unfolding size
  size_takes h = up_to_takes 32768 over_limit (omega arith) h

  module _ {n : Counts} (small : Countable n) where
    var_takes : {v : ℕ} → IsVariable n v → Takes s (var s n) (W.number v) v
    unfolding var
    var_takes h = below_takes n.variables beyond_count small.variables h

    label_takes : {v : ℕ} → IsLabel n v → Takes s (label s n) (W.number v) v
    unfolding label
    label_takes h = below_takes n.blocks beyond_count small.blocks h

    constant_takes : {v : ℕ} → IsConstant n v → Takes s (constant s n) (W.number v) v
    unfolding constant
    constant_takes h = below_takes n.constants beyond_count small.constants h

    callee_takes : {v : ℕ} → IsFunction n v → Takes s (callee s n) (W.number v) v
    unfolding callee
    callee_takes h = below_takes n.functions beyond_count small.functions h

    bits_takes : (k : Kind) (b : ℕ) → holds k b ≡ true → Takes s (literal_of s k) (W.number b) (literal (value k b))
    unfolding literal_of
    bits_takes k b h = map_takes (λ b. literal (value k b)) (such_takes (holds k) unknown (holds-small k b h) h)

    operand_takes : (o : Operand) → IsOperand n o → Takes s (operand s n) (W.operand o) o
    unfolding operand IsOperand
    operand_takes (Operand.variable v) h = tabled_takes (form s n) 0 (omega arith) refl (map_takes Operand.variable (var_takes h))
    operand_takes (literal v) h = tabled_takes (form s n) (tag v.kind) (tag_small v.kind) (form-at s n v.kind) (bits_takes v.kind v.bits h)

    slot_takes : (a : Slot) → IsSlot n a → Takes s (slot s n) (W.slot a) a
    unfolding slot
    slot_takes a h = two_takes (λ v z. record { var = v; size = z }) (var_takes h.0) (size_takes h.1)

    branch_takes : (b : Branch) → IsBranch n b → Takes s (branch s n) (W.branch b) b
    unfolding branch
    branch_takes b h = two_takes (λ v l. record { number = v; label = l }) (number_takes h.0) (label_takes h.1)

    declared_takes : (d : Declared) → IsDeclared n d → Takes s (declared s n) (W.declared d) d
    unfolding declared
    declared_takes d h = two_takes (λ v t. record { to = v; type = t }) (var_takes h) (type_takes d.type)

    operands_take : (most : ℕ) → most < 2 ^ 64 → (os : List Operand) → UpTo most (IsOperand n) os → Takes s (list_of s most (operand s n)) (counted W.operand os) os
    operands_take most l = list_takes most (operand s n) W.operand (IsOperand n) l operand_takes

    maybe-operand : (o : Option Operand) → IfAny (IsOperand n) o → Takes s (optional s (operand s n)) (maybe W.operand o) o
    maybe-operand = optional_takes (operand s n) W.operand (IsOperand n) operand_takes

    -- ---- the table of opcodes

    -- an opcode's number, and its fields
    opcode : {p : Field Instruction} {x : List Piece} {i : Instruction} (k : ℕ) → k < 2 ^ 64 → get_or (table s n) k none ≡ some p → Takes s p x i → Takes s (instruction s n) (num k ∷ x) i
    unfolding instruction
    opcode k l m t = tabled_takes (listed (table s n)) k l m t

    instruction_takes : (i : Instruction) → IsInstruction n i → Takes s (instruction s n) (W.instruction i) i
    unfolding table W.instruction IsInstruction
    instruction_takes (Jump l) h = opcode 0 (omega arith) refl (map_takes Jump (label_takes h))
    instruction_takes (Switch o bs d) h =
        opcode 1 (omega arith) refl
        (three_takes Switch (operand_takes o h.0) (list_takes 64 (branch s n) W.branch (IsBranch n) (omega arith) branch_takes bs h.1) (label_takes h.2))
    instruction_takes (Assign to a t) h = opcode 2 (omega arith) refl (three_takes Assign (var_takes h.0) (operand_takes a h.1) (type_takes t))
    instruction_takes (ConstantAddress to c) h = opcode 3 (omega arith) refl (two_takes ConstantAddress (var_takes h.0) (constant_takes h.1))
    instruction_takes (Call to context f os r) h =
        opcode 4 (omega arith) refl
        (five_takes Call (optional_takes (declared s n) W.declared (IsDeclared n) declared_takes to h.0) (maybe-operand context h.1) (callee_takes h.2)
        (operands_take 16 (omega arith) os h.3) (optional_takes (var s n) W.number (IsVariable n) (λ v. var_takes) r h.4))
    instruction_takes (Return o) h = opcode 5 (omega arith) refl (map_takes Return (maybe-operand o h))
    instruction_takes (IntCmp' to cmp a b) h =
        opcode 6 (omega arith) refl
        (four_takes IntCmp' (var_takes h.0) (known_takes int_cmp_at (int_cmp_number cmp) (int_small cmp) (int_of_number cmp)) (operand_takes a h.1) (operand_takes b h.2))
    instruction_takes (FloatCmp' to cmp a b) h =
        opcode 7 (omega arith) refl
        (four_takes FloatCmp' (var_takes h.0) (known_takes float_cmp_at (float_cmp_number cmp) (float_small cmp) (float_of_number cmp)) (operand_takes a h.1) (operand_takes b h.2))
    instruction_takes (Add to a b) h = opcode 8 (omega arith) refl (three_takes Add (var_takes h.0) (operand_takes a h.1) (operand_takes b h.2))
    instruction_takes (Sub to a b) h = opcode 9 (omega arith) refl (three_takes Sub (var_takes h.0) (operand_takes a h.1) (operand_takes b h.2))
    instruction_takes (Mul to a b) h = opcode 10 (omega arith) refl (three_takes Mul (var_takes h.0) (operand_takes a h.1) (operand_takes b h.2))
    instruction_takes (Div to signed a b) h =
        opcode 11 (omega arith) refl (four_takes Div (var_takes h.0) (signed_takes signed) (operand_takes a h.1) (operand_takes b h.2))
    instruction_takes (Mod to signed a b) h =
        opcode 12 (omega arith) refl (four_takes Mod (var_takes h.0) (signed_takes signed) (operand_takes a h.1) (operand_takes b h.2))
    instruction_takes (FDiv to a b) h = opcode 13 (omega arith) refl (three_takes FDiv (var_takes h.0) (operand_takes a h.1) (operand_takes b h.2))
    instruction_takes (Not to a) h = opcode 14 (omega arith) refl (two_takes Not (var_takes h.0) (operand_takes a h.1))
    instruction_takes (Negate to a) h = opcode 15 (omega arith) refl (two_takes Negate (var_takes h.0) (operand_takes a h.1))
    instruction_takes (Offset to a by) h = opcode 16 (omega arith) refl (three_takes Offset (var_takes h.0) (operand_takes a h.1) (u32_takes h.2))
    instruction_takes (Initialize to z bs) h =
        opcode 17 (omega arith) refl (three_takes Initialize (var_takes h.0) (size_takes h.1) (bytes_takes 256 (omega arith) bs h.2))
    instruction_takes (Write a b) h = opcode 18 (omega arith) refl (two_takes Write (operand_takes a h.0) (operand_takes b h.1))
    instruction_takes (Read to a t) h = opcode 19 (omega arith) refl (three_takes Read (var_takes h.0) (operand_takes a h.1) (type_takes t))
    instruction_takes (Copy a b z) h = opcode 20 (omega arith) refl (three_takes Copy (operand_takes a h.0) (operand_takes b h.1) (u32_takes h.2))
    instruction_takes (Drop a) h = opcode 21 (omega arith) refl (map_takes Drop (operand_takes a h))

    -- ---- functions

    function_takes : (f : Function) → IsFunctionItem n f → Takes s (function s n) (W.function f) f
    unfolding function W.function
    function_takes f h =
        same-pieces (simp append-nil)
        (then_takes _ (known_takes (listed items) (item_number f.item) (item-at f.item).1 (item-at f.item).0)
        (then_takes _ (label_takes h.entry)
        (then_takes _ (var_takes h.return_var)
        (then_takes _ (var_takes h.context_var)
        (then_takes _ (flag_takes f.item f.return_pointer h.return_pointer)
        (then_takes _ (list_takes (most_parameters f.item) (var s n) W.number (IsVariable n) (few f.item) (λ v. var_takes) f.parameters h.parameters)
        (then_takes _ (list_takes 16 (slot s n) W.slot (IsSlot n) (omega arith) slot_takes f.slots h.slots)
        give_takes)))))))

-- ---- the program

-- x can be written, and where it is the last of all, p reads it as a, and ends after it
pub record Finishes {A : Type 0} (s : List ℕ) (p : Field A) (x : List Piece) (a : A) : Type 0 where
  pub ends : (at end : ℕ) → Stand s at x end → length s ≤ end → p at ≡ took a end
  pub can : Each Writable x

module _ {s : List ℕ} where
  then_finishes : {A B : Type 0} {p : Field A} {x y : List Piece} {a : A} {b : B} (f : A → Field B) → Takes s p x a → Finishes s (f a) y b → Finishes s (p >>= f) (x ++ y) b
  unfolding and_then
  then_finishes {A} {B} {p} {x} {y} {a} {b} f t u = record {
    ends = λ at end st le.
        let (m, first, rest) = stand_split s at end x y st in
        ap (λ (g : Got A). and_then g f) (t.reads at m first) ∙ u.ends m end rest le;
    can = each_append Writable x y t.can u.can;
  }

  end_finishes : {A : Type 0} {a : A} → Finishes s (at_end s >>= λ e. give a) [] a
  unfolding at_end and_then
  end_finishes {A} {a} = record {
    ends = λ at end st le. rw (le-leb (length s) at (omega arith)) (ap (took a) st);
    can = (give_takes {s = s} {A = A} {a = a}).can;
  }

  header_takes : (n : Counts) → n.variables ≤ 256 → n.constants ≤ 64 → n.functions ≤ 64 → n.blocks ≤ 512
      → Takes s (header s) (headed n) n
  unfolding header
  header_takes n v c f b =
      same-pieces (simp append-nil)
      (then_takes _ (known_takes (listed versions) 1 (omega arith) refl)
      (then_takes _ (up_to_takes 256 over_limit (omega arith) v)
      (then_takes _ (up_to_takes 64 over_limit (omega arith) c)
      (then_takes _ (up_to_takes 64 over_limit (omega arith) f)
      (then_takes _ (up_to_takes 512 over_limit (omega arith) b)
      give_takes)))))

  constant-bytes : (left : ℕ) → left < 2 ^ 64 → (c : List ℕ) → Each IsByte c → length c ≤ left → Takes s (bytes s left) (length_and c) c
  constant-bytes left l c h m = bytes_takes left l c (m, h)

  plain_finishes : (P : Program) → WithinLimits P → Finishes s (plain s) (pieces P) P
  unfolding plain plain_parts pieces
  plain_finishes P h =
      let n = counts_of P in
      let small : Countable (counts_of P) = record { variables = omega (arith, h); constants = omega (arith, h); functions = omega (arith, h); blocks = omega (arith, h) } in
      subst (λ (x : List Piece). Finishes s (plain s) x P) (simp (append_assoc, append-nil))
      (then_finishes _ (header_takes (counts_of P) h.variable_count h.constant_count h.function_count h.block_count)
      (then_finishes _ (within_takes (bytes s) length_and (Each IsByte) constant-bytes P.constants 8192 (omega arith) h.constants h.constant_bytes)
      (then_finishes _ (many_takes (function s n) W.function (IsFunctionItem n) (function_takes small) P.functions h.functions)
      (then_finishes _ (within_takes (block s (instruction s n)) (counted W.instruction) (Each (IsInstruction n))
      (λ left l b k m. list_takes left (instruction s n) W.instruction (IsInstruction n) l (instruction_takes small) b (m, k)) P.blocks 4096 (omega arith) h.blocks h.instruction_count)
      end_finishes))))

-- a number's bytes are bytes
groups-bytes : (spare v : ℕ) → Held spare v → Each IsByte (bytes_from spare v)
unfolding Each
groups-bytes zero v h = subst (Each IsByte) (sym (last_byte zero v (omega arith))) (omega arith, tt)
groups-bytes (suc f) v h =
    elim (dec_le 128 v) [
      | yes big ↦
          let less = held-less (suc f) v (omega arith) h in
          subst (Each IsByte) (sym (more_bytes (suc f) v (omega arith) big))
          (omega arith, subst (λ (k : ℕ). Each IsByte (bytes_from k (v / 128))) (sym (sub-one (suc f))) (groups-bytes f (v / 128) (rw (sub-one (suc f)) at less)))
      | no small ↦ subst (Each IsByte) (sym (last_byte (suc f) v (omega arith))) (omega arith, tt)
    ]

number-bytes : (v : ℕ) → v < 2 ^ 64 → Each IsByte (bytes_of v)
unfolding bytes_of
number-bytes v h = groups-bytes 9 v h

-- "any program within the limits, written, loads to itself"
pub written_loads : (P : Program) → WithinLimits P → loaded (written P) ≡ took P (length (written P))
unfolding written
written_loads P h =
    let s = spelt (pieces P) in
    let whole = plain_finishes {s = s} P h in
    loaded-plain s ∙ ap (λ (b : Bool). pick b (plain s 0) (refused over_limit 0)) (le-leb (length s) 32768 h.size)
    ∙ whole.ends 0 (0 + length s) (spelt-stands s (pieces P) whole.can 0 [] (omega arith) (sym (append-nil s))) (omega arith) ∙ ap (took P) (omega arith)

pieces-bytes : (ps : List Piece) → Each Writable ps → Each IsByte (spelt ps)
unfolding Each
pieces-bytes [] h = tt
pieces-bytes (num v ∷ ps) h = each_append IsByte (bytes_of v) (spelt ps) (number-bytes v h.0) (pieces-bytes ps h.1)
pieces-bytes (raw bs ∷ ps) h = each_append IsByte bs (spelt ps) h.0 (pieces-bytes ps h.1)

-- what is written is bytes
pub written-bytes : (P : Program) → WithinLimits P → Each IsByte (written P)
unfolding written
written-bytes P h = pieces-bytes (pieces P) (plain_finishes {s = []} P h).can

-- the place is the image's length
pub loaded-end : (s : List ℕ) (P : Program) (end : ℕ) → AreBytes s → loaded s ≡ took P end → end ≡ length s
loaded-end s P end bs e =
    let again = subst (λ (l : List ℕ). loaded l ≡ took P (length l)) (loaded-writes s P end bs e) (written_loads P (loaded-within s P end bs e)) in
    same_place (sym e ∙ again)
