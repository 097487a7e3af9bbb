-- An image that is taken is passed to its end: where a field ends, the walk that leaves its limits aside stands.
use Prim.Native.Nat.{ℕ, zero, suc, ◌-◌}
use native.Mathlib.Omega.{arith}
use mathlib.Core.Bool.{Bool, true, false}
use mathlib.Core.Path.{◌≡◌, refl, sym, ap, ap₂, subst, ◌∙◌}
use mathlib.Core.List.{List, ◌∷◌}
use mathlib.Core.Option.{Option, none, some, map, some-injective, none-ne-some}
use lib.ListN.{length}
use lib.Dec.{leb, eqb}
use borrow.Author.Tests.{leb-true}
use Rattle.value.specs.declared.refusal.Refusal.{Refusal}
use Rattle.value.specs.Answer.{pick}
use Rattle.value.specs.Refusal.{unknown, over_limit, beyond_count, left_over}
use Rattle.value.specs.Value.{Kind, value}
use Rattle.value.specs.Tags.{kind_at, type_at, holds, int_cmp_at, float_cmp_at}
use Rattle.image.specs.Parse.{Got, took, refused, Field, and_then, give, many, within, ◌>>=◌, ◌<$>◌, one, two, three, four, five}
use Rattle.image.specs.Number.{number}
use Rattle.image.specs.Fields.{such, at_most, listed, known, meant, optional, list_of, raw, bytes, at_end}
use Rattle.image.specs.Image.{Counts, versions, flags, items, flags_of, most_parameters, header, literal_of, u32, size, type, var, label, constant, callee, form, operand, slot, branch, declared, table, instruction, function}
use Rattle.image.specs.Program.{Operand, literal, Instruction, Jump, Switch, Assign, ConstantAddress, Call, Return, IntCmp', FloatCmp', Add, Sub, Mul, Div, Mod, FDiv, Not, Negate, Offset, Initialize, Write, Read, Copy, Drop}
use Rattle.image_writer.specs.Past.{end_of, or_else, pair, times, among, number_at, past_number, past_pair, past_raw, past_optional, past_list, past_bytes, past_switch, past_call, past_chosen, past_three, past_typed, past_two, past_initialize, past_write, past_copy, past_fields, past_instruction, past_function, past_parts, past_whole}
use Rattle.image.proofs.Parts.{parts, picked, Every, every-at, meant-some, two_right, three_right, four_right, five_right, same-value, same_place}
use Rattle.image_writer.proofs.Keeps.{same_parts}
use Rattle.image.proofs.Plain.{plain, plain_parts}

-- whatever p takes, it ends where `past` says
pub record Reaches {A : Type 0} (p : Field A) (past : ℕ → ℕ) : Type 0 where
  pub ends : (at next : ℕ) (a : A) → p at ≡ took a next → past at ≡ next

-- whatever p takes is a number
pub record Numeric {A : Type 0} (s : List ℕ) (p : Field A) : Type 0 where
  pub reads : (at next : ℕ) (a : A) → p at ≡ took a next → (v : ℕ) × (number s at ≡ took v next)

-- ---- one field after another

then_reaches : {A B : Type 0} {p : Field A} {k : A → Field B} {past past' : ℕ → ℕ} → Reaches p past → ((a : A) → Reaches (k a) past') → Reaches (p >>= k) (λ at. past' (past at))
then_reaches {A} {B} {p} {k} {past} {past'} h t = record {
  ends = λ at next b e.
      let i = parts (p at) k b next e in
      ap past' (h.ends at i.place i.value i.first) ∙ (t i.value).ends i.place next b i.then';
}

one_reaches : {A Z : Type 0} {p : Field A} {past : ℕ → ℕ} (f : A → Z) → Reaches p past → Reaches (one f p) past
one_reaches {A} {Z} {p} f h = record {
  ends = λ at next z e.
      let i = parts (p at) (λ a n. took (f a) n) z next e in
      h.ends at i.place i.value i.first ∙ same_place i.then';
}

same_reach : {A : Type 0} {p q : Field A} {past : ℕ → ℕ} → ((at : ℕ) → p at ≡ q at) → Reaches q past → Reaches p past
same_reach e h = record { ends = λ at next a t. h.ends at next a (sym (e at) ∙ t) }

module _ {Z : Type 0} where
  two_reaches : {A B : Type 0} {p : Field A} {q : Field B} {f g : ℕ → ℕ} (m : A → B → Z) → Reaches p f → Reaches q g → Reaches (two m p q) (λ at. g (f at))
  two_reaches {A} {B} {p} {q} m h i = same_reach (two_right m p q) (then_reaches h (λ a. one_reaches (m a) i))

  three_reaches : {A B C : Type 0} {p : Field A} {q : Field B} {r : Field C} {f g k : ℕ → ℕ} (m : A → B → C → Z) → Reaches p f → Reaches q g → Reaches r k
      → Reaches (three m p q r) (λ at. k (g (f at)))
  three_reaches {A} {B} {C} {p} {q} {r} m h i j = same_reach (three_right m p q r) (then_reaches h (λ a. two_reaches (m a) i j))

  four_reaches : {A B C D : Type 0} {p : Field A} {q : Field B} {r : Field C} {o : Field D} {f g k l : ℕ → ℕ} (m : A → B → C → D → Z) → Reaches p f → Reaches q g → Reaches r k → Reaches o l
      → Reaches (four m p q r o) (λ at. l (k (g (f at))))
  four_reaches {A} {B} {C} {D} {p} {q} {r} {o} m h i j n = same_reach (four_right m p q r o) (then_reaches h (λ a. three_reaches (m a) i j n))

  five_reaches : {A B C D E : Type 0} {p : Field A} {q : Field B} {r : Field C} {o : Field D} {u : Field E} {f g k l w : ℕ → ℕ} (m : A → B → C → D → E → Z)
      → Reaches p f → Reaches q g → Reaches r k → Reaches o l → Reaches u w → Reaches (five m p q r o u) (λ at. w (l (k (g (f at)))))
  five_reaches {A} {B} {C} {D} {E} {p} {q} {r} {o} {u} m h i j n x = same_reach (five_right m p q r o u) (then_reaches h (λ a. four_reaches (m a) i j n x))

many_reaches : {A : Type 0} {p : Field A} {past : ℕ → ℕ} → Reaches p past → (n : ℕ) → Reaches (many n p) (times n past)
unfolding many times
many_reaches h zero = record { ends = λ at next a e. same_place e }
many_reaches h (suc n) = then_reaches h (λ x. one_reaches (λ xs. x ∷ xs) (many_reaches h n))

within_reaches : {A : Type 0} (size : A → ℕ) {p : ℕ → Field A} {past : ℕ → ℕ} → ((left : ℕ) → Reaches (p left) past) → (left n : ℕ) → Reaches (within size left n p) (times n past)
unfolding within times
within_reaches size h left zero = record { ends = λ at next a e. same_place e }
within_reaches size h left (suc n) = then_reaches (h left) (λ x. one_reaches (λ xs. x ∷ xs) (within_reaches size h (left - size x) n))

-- ---- numbers

such-number : (s : List ℕ) (test : ℕ → Bool) (why : Refusal) (at next v : ℕ) → such s test why at ≡ took v next → number s at ≡ took v next
unfolding such
such-number s test why at next v e =
    let i = parts (number s at) (λ v next. pick (test v) (took v next) (refused why at)) v next e in
    let j = picked (test i.value) (took i.value i.place) why at v next i.then' in
    i.first ∙ j.1

module _ (s : List ℕ) where
  number_numeric : Numeric s (number s)
  number_numeric = record { reads = λ at next v e. (v, e) }

  such_numeric : (test : ℕ → Bool) (why : Refusal) → Numeric s (such s test why)
  such_numeric test why = record { reads = λ at next v e. (v, such-number s test why at next v e) }

  known_numeric : {A : Type 0} (item : ℕ → Option A) → Numeric s (known s item)
  unfolding known
  known_numeric item = record {
    reads = λ at next a e.
        let i = parts (number s at) (λ v next. meant (item v) at next) a next e in
        let j = meant-some (item i.value) at i.place next a i.then' in
        (i.value, i.first ∙ ap (took i.value) j.1);
  }

  one_numeric : {A Z : Type 0} {p : Field A} (f : A → Z) → Numeric s p → Numeric s (one f p)
  one_numeric {A} {Z} {p} f h = record {
    reads = λ at next z e.
        let i = parts (p at) (λ a n. took (f a) n) z next e in
        let n = h.reads at i.place i.value i.first in
        (n.0, n.1 ∙ ap (took n.0) (same_place i.then'));
  }

  number_reaches : {A : Type 0} {p : Field A} → Numeric s p → Reaches p (past_number s)
  unfolding past_number
  number_reaches h = record { ends = λ at next a e. ap (λ (g : Got ℕ). end_of g at) (h.reads at next a e).1 }

  -- ---- pairs

  pair-end : (at : ℕ) {u v mid next : ℕ} → number s at ≡ took u mid → number s mid ≡ took v next → past_pair s at ≡ next
  unfolding past_pair pair and_then
  pair-end at e f = rw (e, f) refl

  pair_reaches : {A B : Type 0} {p : Field A} {k : A → Field B} → Numeric s p → ((a : A) → Numeric s (k a)) → Reaches (p >>= k) (past_pair s)
  unfolding past_pair and_then
  pair_reaches {A} {B} {p} {k} h t = record {
    ends = λ at next b e.
        let i = parts (p at) k b next e in
        let n = h.reads at i.place i.value i.first in
        let m = (t i.value).reads i.place next b i.then' in
        pair-end at n.1 m.1;
  }

  two-numbers : {A B Z : Type 0} {p : Field A} {q : Field B} (f : A → B → Z) → Numeric s p → Numeric s q → Reaches (two f p q) (past_pair s)
  two-numbers {A} {B} {Z} {p} {q} f h t = same_reach (two_right f p q) (pair_reaches h (λ a. one_numeric (f a) t))

  tabled_pair : {A : Type 0} (row_of : ℕ → Option (Field A)) → ((k : ℕ) (p : Field A) → row_of k ≡ some p → Numeric s p) → Reaches (known s row_of >>= λ p. p) (past_pair s)
  unfolding known past_pair and_then
  tabled_pair {A} row_of law = record {
    ends = λ at next b e.
        let i = parts (known s row_of at) (λ p. p) b next e in
        let j = parts (number s at) (λ v next. meant (row_of v) at next) i.value i.place i.first in
        let k = meant-some (row_of j.value) at j.place i.place i.value j.then' in
        let m = (law j.value i.value k.0).reads i.place next b i.then' in
        pair-end at (j.first ∙ ap (took j.value) k.1) m.1;
  }

  -- ---- shapes of fields

  -- a number, and what it announces
  announced : {B : Type 0} (test : ℕ → Bool) (why : Refusal) {k : ℕ → Field B} (past : ℕ → ℕ → ℕ) → ((v : ℕ) → test v ≡ true → Reaches (k v) (past v))
      → Reaches (such s test why >>= k) (λ at. past (number_at s at) (past_number s at))
  unfolding number_at past_number such
  announced {B} test why {k} past t = record {
    ends = λ at next b e.
        let i = parts (such s test why at) k b next e in
        let n = such-number s test why at i.place i.value i.first in
        let j = parts (number s at) (λ v next. pick (test v) (took v next) (refused why at)) i.value i.place i.first in
        let q = picked (test j.value) (took j.value j.place) why at i.value i.place j.then' in
        let passed : test i.value ≡ true = ap test (sym (same-value q.1)) ∙ q.0 in
        ap (λ (g : Got ℕ). past (or_else 0 g) (end_of g at)) n ∙ (t i.value passed).ends i.place next b i.then';
  }

  optional_reaches : {A : Type 0} {p : Field A} {past : ℕ → ℕ} → Reaches p past → Reaches (optional s p) (past_optional s past)
  unfolding optional past_optional
  optional_reaches {A} {p} {past} h = announced (λ v. leb v 1) unknown (λ v at. pick (eqb v 0) at (past at)) by_mark
    where
      by_mark : (mark : ℕ) → leb mark 1 ≡ true → Reaches (pick (eqb mark 0) (give none) (some <$> p)) (λ at. pick (eqb mark 0) at (past at))
      by_mark zero m = record { ends = λ at next a e. same_place e }
      by_mark (suc zero) m = one_reaches some h
      by_mark (suc (suc k)) m = absurd (omega (arith, leb-true (suc (suc k)) 1 m))

  list_reaches : {A : Type 0} {p : Field A} {past : ℕ → ℕ} (most : ℕ) → Reaches p past → Reaches (list_of s most p) (past_list s past)
  unfolding list_of past_list
  list_reaches {A} {p} {past} most h = announced (λ v. leb v most) over_limit (λ v. times v past) (λ v m. many_reaches h v)

  raw_reaches : (count : ℕ) → Reaches (raw s count) (past_raw s count)
  unfolding past_raw
  raw_reaches count = record { ends = λ at next xs e. ap (λ (g : Got (List ℕ)). end_of g at) e }

  bytes_reaches : (most : ℕ) → Reaches (bytes s most) (past_bytes s)
  unfolding bytes past_bytes
  bytes_reaches most = announced (λ v. leb v most) over_limit (λ v. past_raw s v) (λ v m. raw_reaches v)

  -- ---- fields

  type_numeric : Numeric s (type s)
  unfolding type
  type_numeric = known_numeric type_at

  u32_numeric : Numeric s (u32 s)
  unfolding u32
  u32_numeric = such_numeric _ unknown

  size_numeric : Numeric s (size s)
  unfolding size
  size_numeric = such_numeric _ over_limit

  module _ (n : Counts) where
    var_numeric : Numeric s (var s n)
    unfolding var
    var_numeric = such_numeric _ beyond_count

    label_numeric : Numeric s (label s n)
    unfolding label
    label_numeric = such_numeric _ beyond_count

    constant_numeric : Numeric s (constant s n)
    unfolding constant
    constant_numeric = such_numeric _ beyond_count

    callee_numeric : Numeric s (callee s n)
    unfolding callee
    callee_numeric = such_numeric _ beyond_count

    literal_numeric : (k : Kind) → Numeric s (literal_of s k)
    unfolding literal_of
    literal_numeric k = one_numeric (λ b. literal (value k b)) (such_numeric (holds k) unknown)

    form_numeric : (b : Bool) (o : Option Kind) (p : Field Operand) → pick b (some (one Operand.variable (var s n))) (map (literal_of s) o) ≡ some p → Numeric s p
    form_numeric true o p h = subst (Numeric s) (some-injective _ p h) (one_numeric Operand.variable var_numeric)
    form_numeric false none p h = absurd (none-ne-some p h)
    form_numeric false (some k) p h = subst (Numeric s) (some-injective _ p h) (literal_numeric k)

    operand_reaches : Reaches (operand s n) (past_pair s)
    unfolding operand
    operand_reaches = tabled_pair (form s n) (λ k p. form_numeric (eqb k 0) (kind_at k) p)

    slot_reaches : Reaches (slot s n) (past_pair s)
    unfolding slot
    slot_reaches = two-numbers (λ v z. record { var = v; size = z }) var_numeric size_numeric

    branch_reaches : Reaches (branch s n) (past_pair s)
    unfolding branch
    branch_reaches = two-numbers (λ v l. record { number = v; label = l }) number_numeric label_numeric

    declared_reaches : Reaches (declared s n) (past_pair s)
    unfolding declared
    declared_reaches = two-numbers (λ v t. record { to = v; type = t }) var_numeric type_numeric

    -- ---- the table of opcodes

    three_operands : (f : ℕ → Operand → Operand → Instruction) → Reaches (three f (var s n) (operand s n) (operand s n)) (past_three s)
    unfolding past_three
    three_operands f = three_reaches f (number_reaches var_numeric) operand_reaches operand_reaches

    chosen_operands : {A : Type 0} (f : ℕ → A → Operand → Operand → Instruction) (item : ℕ → Option A) → Reaches (four f (var s n) (known s item) (operand s n) (operand s n)) (past_chosen s)
    unfolding past_chosen
    chosen_operands f item = four_reaches f (number_reaches var_numeric) (number_reaches (known_numeric item)) operand_reaches operand_reaches

    typed-operand : {A : Type 0} {p : Field A} (f : ℕ → Operand → A → Instruction) → Numeric s p → Reaches (three f (var s n) (operand s n) p) (past_typed s)
    unfolding past_typed
    typed-operand f h = three_reaches f (number_reaches var_numeric) operand_reaches (number_reaches h)

    to-operand : (f : ℕ → Operand → Instruction) → Reaches (two f (var s n) (operand s n)) (past_two s)
    unfolding past_two
    to-operand f = two_reaches f (number_reaches var_numeric) operand_reaches

    table_reaches : Every (λ k p. Reaches p (past_fields s k)) (table s n)
    unfolding Every table past_fields among past_switch past_call past_initialize past_write past_copy
    table_reaches = (
      one_reaches Jump (number_reaches label_numeric),
      (
        three_reaches Switch operand_reaches (list_reaches 64 branch_reaches) (number_reaches label_numeric),
        (
          typed-operand Assign type_numeric,
          (
            two-numbers ConstantAddress var_numeric constant_numeric,
            (
              five_reaches Call (optional_reaches declared_reaches) (optional_reaches operand_reaches) (number_reaches callee_numeric) (list_reaches 16 operand_reaches)
                  (optional_reaches (number_reaches var_numeric)),
              (
                one_reaches Return (optional_reaches operand_reaches),
                (
                  chosen_operands IntCmp' int_cmp_at,
                  (
                    chosen_operands FloatCmp' float_cmp_at,
                    (
                      three_operands Add,
                      (
                        three_operands Sub,
                        (
                          three_operands Mul,
                          (
                            chosen_operands Div (listed flags),
                            (
                              chosen_operands Mod (listed flags),
                              (
                                three_operands FDiv,
                                (
                                  to-operand Not,
                                  (
                                    to-operand Negate,
                                    (
                                      typed-operand Offset u32_numeric,
                                      (
                                        three_reaches Initialize (number_reaches var_numeric) (number_reaches size_numeric) (bytes_reaches 256),
                                        (
                                          two_reaches Write operand_reaches operand_reaches,
                                          (
                                            typed-operand Read type_numeric,
                                            (
                                              three_reaches Copy operand_reaches operand_reaches (number_reaches u32_numeric),
                                              (one_reaches Drop operand_reaches, tt),
                                            ),
                                          ),
                                        ),
                                      ),
                                    ),
                                  ),
                                ),
                              ),
                            ),
                          ),
                        ),
                      ),
                    ),
                  ),
                ),
              ),
            ),
          ),
        ),
      ),
    )

    instruction_reaches : Reaches (instruction s n) (past_instruction s)
    unfolding instruction known past_instruction number_at past_number
    instruction_reaches = record {
      ends = λ at next b e.
          let i = parts (known s (listed (table s n)) at) (λ p. p) b next e in
          let j = parts (number s at) (λ v next. meant (listed (table s n) v) at next) i.value i.place i.first in
          let k = meant-some (listed (table s n) j.value) at j.place i.place i.value j.then' in
          let h = every-at (λ k p. Reaches p (past_fields s k)) (table s n) table_reaches j.value i.value k.0 in
          ap (λ (g : Got ℕ). past_fields s (or_else 0 g) (end_of g at)) (j.first ∙ ap (took j.value) k.1) ∙ h.ends i.place next b i.then';
    }

    function_reaches : Reaches (function s n) (past_function s)
    unfolding function past_function times
    function_reaches =
        then_reaches (number_reaches (known_numeric (listed items))) (λ item. then_reaches (number_reaches label_numeric) (λ entry. then_reaches (number_reaches var_numeric)
        (λ return_var. then_reaches (number_reaches var_numeric) (λ context_var. then_reaches (number_reaches (known_numeric (listed (flags_of item))))
        (λ flag. then_reaches (list_reaches (most_parameters item) (number_reaches var_numeric)) (λ parameters. then_reaches (list_reaches 16 slot_reaches)
        (λ slots. record { ends = λ at next a e. same_place e })))))))

  -- ---- the whole

  end_reaches : Reaches (at_end s) (λ at. at)
  unfolding at_end
  end_reaches = record { ends = λ at next u e. same_place (picked (leb (length s) at) (took tt at) left_over at u next e).1 }

  parts_reach : (n : Counts) → Reaches (plain_parts s n) (past_parts s n.constants n.functions n.blocks)
  unfolding plain_parts past_parts
  parts_reach n =
      then_reaches (within_reaches length (λ left. bytes_reaches left) 8192 n.constants) (λ constants. then_reaches (many_reaches (function_reaches n) n.functions)
      (λ functions. then_reaches (within_reaches length (λ left. list_reaches left (instruction_reaches n)) 4096 n.blocks)
      (λ blocks. then_reaches end_reaches (λ e. record { ends = λ at next a e. same_place e }))))

  -- the header's counts, where they stand
  pub record Header (at next : ℕ) (n : Counts) : Type 0 where
    pub constants : number s (times 2 (past_number s) at) ≡ took n.constants (past_number s (times 2 (past_number s) at))
    pub functions : number s (past_number s (times 2 (past_number s) at)) ≡ took n.functions (past_number s (past_number s (times 2 (past_number s) at)))
    pub blocks : number s (past_number s (past_number s (times 2 (past_number s) at))) ≡ took n.blocks next

  at_most-number : (most at next v : ℕ) → at_most s most at ≡ took v next → number s at ≡ took v next
  at_most-number most at next v e = such-number s (λ v. leb v most) over_limit at next v e

  at_most-ends : (most at next v : ℕ) → at_most s most at ≡ took v next → past_number s at ≡ next
  at_most-ends most at next v e = (number_reaches (such_numeric (λ v. leb v most) over_limit)).ends at next v e

  header-stands : (at next : ℕ) (n : Counts) → header s at ≡ took n next → Header at next n
  unfolding header times
  header-stands at next n e =
      let a = parts _ _ n next e in
      let b = parts _ _ n next a.then' in
      let c = parts _ _ n next b.then' in
      let d = parts _ _ n next c.then' in
      let f = parts _ _ n next d.then' in
      let first = (number_reaches (known_numeric (listed versions))).ends at a.place a.value a.first in
      let two = ap (past_number s) first ∙ at_most-ends 256 a.place b.place b.value b.first in
      let three = ap (past_number s) two ∙ at_most-ends 64 b.place c.place c.value c.first in
      let four = ap (past_number s) three ∙ at_most-ends 64 c.place d.place d.value d.first in
      let counts = same-value f.then' in
      record {
        constants = ap (number s) two ∙ at_most-number 64 b.place c.place c.value c.first ∙ ap₂ took (ap (λ (n : Counts). n.constants) counts) (sym three);
        functions = ap (number s) three ∙ at_most-number 64 c.place d.place d.value d.first ∙ ap₂ took (ap (λ (n : Counts). n.functions) counts) (sym four);
        blocks = ap (number s) four ∙ at_most-number 512 d.place f.place f.value f.first ∙ ap₂ took (ap (λ (n : Counts). n.blocks) counts) (same_place f.then');
      }

  -- a program that is taken ends where the walk ends
  pub plain_reaches : Reaches (plain s) (past_whole s)
  unfolding plain past_whole number_at past_number
  plain_reaches = record {
    ends = λ at next P e.
        let i = parts (header s at) (plain_parts s) P next e in
        let h = header-stands at i.place i.value i.first in
        same_parts s (ap (or_else 0) h.constants) (ap (or_else 0) h.functions) (ap (or_else 0) h.blocks) (ap (λ (g : Got ℕ). end_of g (past_number s (past_number s (times 2 (past_number s) at)))) h.blocks)
        ∙ (parts_reach i.value).ends i.place next P i.then';
  }
