-- Loading refuses with 1 to 6 and with no other number: a law for each shape of field, and each field by the law of its shape.
use Prim.Native.Nat.{ℕ, zero, suc, ◌+◌, ◌-◌, ◌*◌, ◌≤◌}
use native.Mathlib.Omega.{arith}
use mathlib.Core.Bool.{Bool, true, false}
use mathlib.Core.Path.{◌≡◌, refl, ap, subst}
use mathlib.Core.List.{List, [], ◌∷◌}
use mathlib.Core.Option.{Option, none, some, map}
use lib.ListN.{length, get_or}
use lib.Dec.{ltb, leb, eqb}
use Rattle.value.specs.declared.refusal.Refusal.{Refusal}
use Rattle.value.specs.Answer.{pick}
use Rattle.value.specs.Refusal.{bytes_run_out, malformed, unknown, over_limit, beyond_count, left_over, number_of}
use Rattle.value.specs.Value.{Kind}
use Rattle.value.specs.Tags.{kind_at}
use Rattle.image.specs.Parse.{Got, took, refused, Field, and_then, give, many, within, placed, ◌>>=◌, ◌<*>◌, one, two, three, four, five}
use Rattle.image.specs.Number.{groups, number}
use Rattle.image.specs.Fields.{such, at_most, meant, listed, known, optional, list_of, raw, bytes, at_end}
use Rattle.image.specs.Image.{Counts, header, literal_of, u32, size, type, var, label, constant, callee, form, operand, slot, branch, declared, table, instruction, function, constants, blocks, whole, image, loaded}
use Rattle.image.specs.Program.{Program, Operand, Jump, Switch, Assign, ConstantAddress, Call, Return, IntCmp', FloatCmp', Add, Sub, Mul, Div, Mod, FDiv, Not, Negate, Offset, Initialize, Write, Read, Copy, Drop}
use Rattle.image.proofs.Parts.{parts, meant-some}

-- one of loading's numbers
record Known (k : Refusal) : Type 0 where
  least : 1 ≤ number_of k
  most : number_of k ≤ 6

-- something taken, or a refusal with such a number
data Gives {A : Type 0} : Got A → Type 0 where
  taken : {a : A} {end : ℕ} → Gives (took a end)
  refusing : {k : Refusal} {place : ℕ} → Known k → Gives (refused k place)

-- at every place
record Giving {A : Type 0} (p : Field A) : Type 0 where
  gives : (at : ℕ) → Gives (p at)

by_pick : {A : Type 0} (b : Bool) {g h : Got A} → Gives g → Gives h → Gives (pick b g h)
by_pick true x y = x
by_pick false x y = y

-- ---- one field after another

then_from : {A B : Type 0} {g : Got A} {k : A → ℕ → Got B} → Gives g → ((a : A) (end : ℕ) → g ≡ took a end → Gives (k a end)) → Gives (and_then g k)
unfolding and_then
then_from (taken {a} {end}) f = f a end refl
then_from (refusing h) f = refusing h

next : {A B : Type 0} {p : Field A} {k : A → Field B} → Giving p → ((a : A) → Giving (k a)) → Giving (p >>= k)
next h f = record { gives = λ at. then_from (h.gives at) (λ a end e. (f a).gives end) }

last : {A : Type 0} {a : A} → Giving (give a)
last = record { gives = λ at. taken }

either : {A : Type 0} (b : Bool) {p q : Field A} → Giving p → Giving q → Giving (pick b p q)
either true h i = h
either false h i = i

one-gives : {A Z : Type 0} {p : Field A} (f : A → Z) → Giving p → Giving (one f p)
one-gives f h = next h (λ a. last)

and : {A Z : Type 0} {p : Field (A → Z)} {q : Field A} → Giving p → Giving q → Giving (p <*> q)
and h i = next h (λ f. one-gives f i)

two-gives : {A B Z : Type 0} {p : Field A} {q : Field B} (f : A → B → Z) → Giving p → Giving q → Giving (two f p q)
two-gives f h i = and (one-gives f h) i

three-gives : {A B C Z : Type 0} {p : Field A} {q : Field B} {r : Field C} (f : A → B → C → Z) → Giving p → Giving q → Giving r → Giving (three f p q r)
three-gives f h i j = and (two-gives f h i) j

four-gives : {A B C D Z : Type 0} {p : Field A} {q : Field B} {r : Field C} {t : Field D} (f : A → B → C → D → Z) → Giving p → Giving q → Giving r → Giving t → Giving (four f p q r t)
four-gives f h i j k = and (three-gives f h i j) k

five-gives : {A B C D E Z : Type 0} {p : Field A} {q : Field B} {r : Field C} {t : Field D} {u : Field E} (f : A → B → C → D → E → Z)
    → Giving p → Giving q → Giving r → Giving t → Giving u → Giving (five f p q r t u)
five-gives f h i j k l = and (four-gives f h i j k) l

many-gives : {A : Type 0} {p : Field A} → Giving p → (count : ℕ) → Giving (many count p)
unfolding many
many-gives h zero = last
many-gives h (suc n) = next h (λ x. one-gives (λ xs. x ∷ xs) (many-gives h n))

within-gives : {A : Type 0} {p : ℕ → Field A} (size' : A → ℕ) → ((left : ℕ) → Giving (p left)) → (left count : ℕ) → Giving (within size' left count p)
unfolding within
within-gives size' h left zero = last
within-gives size' h left (suc n) = next (h left) (λ x. one-gives (λ xs. x ∷ xs) (within-gives size' h (left - size' x) n))

placed-gives : {A : Type 0} {p : Field A} → Giving p → Giving (placed p)
placed-gives h = record { gives = λ at. then_from (h.gives at) (λ a end e. taken) }

-- ---- the fields of a table

infixr 20 ◌&◌
data All {A : Type 0} : List (Option (Field A)) → Type 0 where
  no_more : All []
  ◌&◌ : {p : Field A} {items : List (Option (Field A))} → Giving p → All items → All (some p ∷ items)

all-at : {A : Type 0} (items : List (Option (Field A))) → All items → (v : ℕ) (p : Field A) → get_or items v none ≡ some p → Giving p
all-at items no_more v p e = absurd (let z : ◌≡◌ {A = ℕ} 0 1 = cc in omega arith)
all-at items (◌&◌ {p = q} h all) zero p e = let same : q ≡ p = cc in subst Giving same h
all-at items (◌&◌ {items = rest} h all) (suc v) p e = all-at rest all v p e

-- ---- numbers

module _ (s : List ℕ) where
  groups-gives : (left start weight sum : ℕ) → Giving (groups left start weight sum s)
  unfolding groups
  groups-gives zero start weight sum = record {
    gives = λ at. by_pick (leb (length s) at) (refusing {k = bytes_run_out} (omega arith)) (by_pick (eqb (get_or s at 0) 1) taken (refusing {k = malformed} (omega arith)));
  }
  groups-gives (suc left) start weight sum = record {
    gives = λ at.
        by_pick (leb (length s) at) (refusing {k = bytes_run_out} (omega arith))
        (by_pick (ltb (get_or s at 0) 128)
        (by_pick (eqb (get_or s at 0) 0) (by_pick (ltb left 8) (refusing {k = malformed} (omega arith)) taken) taken)
        ((groups-gives left start (weight * 128) (sum + (get_or s at 0 - 128) * weight)).gives (at + 1)));
  }

  number-gives : Giving (number s)
  unfolding number
  number-gives = record { gives = λ at. (groups-gives 9 at 1 0).gives at }

  -- a number that passes a test, or is refused with one of them
  such-gives : (test : ℕ → Bool) (why : Refusal) → Known why → Giving (such s test why)
  unfolding such
  such-gives test why h = record { gives = λ at. then_from (number-gives.gives at) (λ v end e. by_pick (test v) taken (refusing h)) }

  limit-gives : (limit : ℕ) → Giving (at_most s limit)
  limit-gives limit = such-gives _ over_limit (omega arith)

  meant-gives : {A : Type 0} (o : Option A) (at end : ℕ) → Gives (meant o at end)
  meant-gives none at end = refusing {k = unknown} (omega arith)
  meant-gives (some a) at end = taken

  known-gives : {A : Type 0} (item : ℕ → Option A) → Giving (known s item)
  unfolding known
  known-gives item = record { gives = λ at. then_from (number-gives.gives at) (λ v end e. meant-gives (item v) at end) }

  -- a number that says which field follows
  tabled-gives : {A : Type 0} (item : ℕ → Option (Field A)) → ((v : ℕ) (p : Field A) → item v ≡ some p → Giving p) → Giving (known s item >>= λ p. p)
  tabled-gives {A} item each = record { gives = λ at. then_from ((known-gives item).gives at) (λ p end e. (follows at end p e).gives end) }
    where
      follows : (at end : ℕ) (p : Field A) → known s item at ≡ took p end → Giving p
      follows at end p e =
          let i = parts (number s at) (λ v end. meant (item v) at end) p end (unfold known in e) in
          each i.value p (meant-some (item i.value) at i.place end p i.then').0

  -- ---- shapes of fields

  optional-gives : {A : Type 0} {p : Field A} → Giving p → Giving (optional s p)
  unfolding optional
  optional-gives h = next (such-gives _ unknown (omega arith)) (λ mark. either (eqb mark 0) last (one-gives some h))

  list_gives : {A : Type 0} {p : Field A} (limit : ℕ) → Giving p → Giving (list_of s limit p)
  unfolding list_of
  list_gives limit h = next (limit-gives limit) (λ count. many-gives h count)

  raw-gives : (count : ℕ) → Giving (raw s count)
  unfolding raw
  raw-gives count = record { gives = λ at. by_pick (leb (at + count) (length s)) taken (refusing {k = bytes_run_out} (omega arith)) }

  bytes_gives : (limit : ℕ) → Giving (bytes s limit)
  unfolding bytes
  bytes_gives limit = next (limit-gives limit) raw-gives

  end-gives : Giving (at_end s)
  unfolding at_end
  end-gives = record { gives = λ at. by_pick (leb (length s) at) taken (refusing {k = left_over} (omega arith)) }

  -- ---- the fields of 01

  literal-gives : (k : Kind) → Giving (literal_of s k)
  unfolding literal_of
  literal-gives k = one-gives _ (such-gives _ unknown (omega arith))

  u32-gives : Giving (u32 s)
  unfolding u32
  u32-gives = such-gives _ unknown (omega arith)

  size-gives : Giving (size s)
  unfolding size
  size-gives = limit-gives 32768

  type-gives : Giving (type s)
  unfolding type
  type-gives = known-gives _

  header-gives : Giving (header s)
  unfolding header
  header-gives =
      next (known-gives _) (λ version. next (limit-gives 256) (λ variables. next (limit-gives 64) (λ constants. next (limit-gives 64) (λ functions. next (limit-gives 512) (λ blocks. last)))))

  module _ (n : Counts) where
    var-gives : Giving (var s n)
    unfolding var
    var-gives = such-gives _ beyond_count (omega arith)

    label-gives : Giving (label s n)
    unfolding label
    label-gives = such-gives _ beyond_count (omega arith)

    constant-gives : Giving (constant s n)
    unfolding constant
    constant-gives = such-gives _ beyond_count (omega arith)

    callee-gives : Giving (callee s n)
    unfolding callee
    callee-gives = such-gives _ beyond_count (omega arith)

    form-gives : (b : Bool) (k : Option Kind) (p : Field Operand) → pick b (some (one Operand.variable (var s n))) (map (literal_of s) k) ≡ some p → Giving p
    form-gives true k p e = let same : one Operand.variable (var s n) ≡ p = cc in subst Giving same (one-gives Operand.variable var-gives)
    form-gives false none p e = absurd (let z : ◌≡◌ {A = ℕ} 0 1 = cc in omega arith)
    form-gives false (some k) p e = let same : literal_of s k ≡ p = cc in subst Giving same (literal-gives k)

    operand-gives : Giving (operand s n)
    unfolding operand
    operand-gives = tabled-gives (form s n) (λ v p e. form-gives (eqb v 0) (kind_at v) p e)

    slot-gives : Giving (slot s n)
    unfolding slot
    slot-gives = two-gives _ var-gives size-gives

    branch-gives : Giving (branch s n)
    unfolding branch
    branch-gives = two-gives _ number-gives label-gives

    declared-gives : Giving (declared s n)
    unfolding declared
    declared-gives = two-gives _ var-gives type-gives

    -- the fields that several opcodes have
    pair_gives : {Z : Type 0} (f : ℕ → Operand → Operand → Z) → Giving (three f (var s n) (operand s n) (operand s n))
    pair_gives f = three-gives f var-gives operand-gives operand-gives

    chosen_gives : {A Z : Type 0} (f : ℕ → A → Operand → Operand → Z) (item : ℕ → Option A) → Giving (four f (var s n) (known s item) (operand s n) (operand s n))
    chosen_gives f item = four-gives f var-gives (known-gives item) operand-gives operand-gives

    instruction-gives : Giving (instruction s n)
    unfolding instruction table
    instruction-gives =
        tabled-gives (listed (table s n)) (all-at (table s n) (
        one-gives Jump label-gives
        & three-gives Switch operand-gives (list_gives 64 branch-gives) label-gives
        & three-gives Assign var-gives operand-gives type-gives
        & two-gives ConstantAddress var-gives constant-gives
        & five-gives Call (optional-gives declared-gives) (optional-gives operand-gives) callee-gives (list_gives 16 operand-gives) (optional-gives var-gives)
        & one-gives Return (optional-gives operand-gives)
        & chosen_gives IntCmp' _
        & chosen_gives FloatCmp' _
        & pair_gives Add
        & pair_gives Sub
        & pair_gives Mul
        & chosen_gives Div _
        & chosen_gives Mod _
        & pair_gives FDiv
        & two-gives Not var-gives operand-gives
        & two-gives Negate var-gives operand-gives
        & three-gives Offset var-gives operand-gives u32-gives
        & three-gives Initialize var-gives size-gives (bytes_gives 256)
        & two-gives Write operand-gives operand-gives
        & three-gives Read var-gives operand-gives type-gives
        & three-gives Copy operand-gives operand-gives u32-gives
        & one-gives Drop operand-gives
        & no_more))

    function-gives : Giving (function s n)
    unfolding function
    function-gives =
        next (known-gives _) (λ item. next label-gives (λ entry. next var-gives (λ return_var. next var-gives (λ context_var. next (known-gives _)
        (λ flag. next (list_gives _ var-gives) (λ parameters. next (list_gives 16 slot-gives) (λ slots. last)))))))

    constants-gives : Giving (constants s n)
    unfolding constants
    constants-gives = within-gives _ (λ left. placed-gives (bytes_gives left)) 8192 n.constants

    blocks-gives : Giving (blocks s n)
    unfolding blocks
    blocks-gives = within-gives _ (λ left. list_gives left (placed-gives instruction-gives)) 4096 n.blocks

  whole-gives : Giving (whole s)
  unfolding whole
  whole-gives =
      next header-gives (λ n. next (constants-gives n) (λ constants. next (many-gives (placed-gives (function-gives n)) n.functions)
      (λ functions. next (blocks-gives n) (λ blocks. next end-gives (λ end. last)))))

  loaded-gives : Gives (loaded s)
  unfolding loaded image
  loaded-gives = then_from (by_pick (leb (length s) 32768) (whole-gives.gives 0) (refusing {k = over_limit} (omega arith))) (λ i end e. taken)

-- "at each: 1 bytes run out, .. Last, 6 bytes left over."
pub loading_refuses : (s : List ℕ) (k : Refusal) (place : ℕ) → loaded s ≡ refused k place → (1 ≤ number_of k) × (number_of k ≤ 6)
loading_refuses s k place e = by_got (loaded s) (loaded-gives s) e
  where
    by_got : (g : Got Program) → Gives g → g ≡ refused k place → (1 ≤ number_of k) × (number_of k ≤ 6)
    by_got g (taken {a} {end}) d = absurd (let z : ◌≡◌ {A = ℕ} 0 1 = cc in omega arith)
    by_got g (refusing {k = j} h) d = let same : j ≡ k = cc in omega (arith, ap number_of same, h.least, h.most)
