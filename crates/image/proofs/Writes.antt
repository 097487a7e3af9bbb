-- Each field that is taken stands as it would be written, and is within the limits, by the law of its shape. So writing an accepted program gives its
-- image's bytes again.
use Prim.Native.Nat.{ℕ, zero, suc, ◌^◌, ◌≤◌}
use native.Mathlib.Omega.{arith}
use mathlib.Core.Bool.{Bool, true}
use mathlib.Core.Path.{◌≡◌, refl, sym, ap, subst, ◌∙◌}
use mathlib.Core.List.{List, [], ◌∷◌, ◌++◌, append-nil}
use mathlib.Core.Option.{Option, none, some, map, some-injective, none-ne-some}
use lib.ListN.{length, drop_of_length-le}
use lib.Dec.{leb}
use borrow.Author.Tests.{ne_eqb, leb-true}
use Rattle.value.specs.Answer.{pick}
use Rattle.value.specs.Refusal.{unknown, over_limit, beyond_count, left_over}
use Rattle.value.specs.Value.{Kind, value, tag}
use Rattle.value.specs.Tags.{kind_at, type_at, holds, int_cmps, float_cmps, int_cmp_at, float_cmp_at, int_cmp_number, float_cmp_number}
use Rattle.value.proofs.Tags.{tag_of_kind, tag_of_type}
use Rattle.image.specs.Parse.{took, Field, one}
use Rattle.image.specs.Fields.{listed, known, at_end}
use Rattle.image.specs.Image.{Counts, versions, flags, items, flags_of, most_parameters, header, literal_of, u32, size, type, var, label, constant, callee, form, operand, slot, branch, declared, table, instruction, function, loaded}
use Rattle.image.specs.Program.{Program, Operand, literal, Item, Jump, Switch, Assign, ConstantAddress, Call, Return, IntCmp', FloatCmp', Add, Sub, Mul, Div, Mod, FDiv, Not, Negate, Offset, Initialize, Write, Read, Copy, Drop}
use Rattle.image.specs.Written.{Piece, num, flag_number, item_number, type_number, pieces, written, spelt}
use Rattle.image.specs.Written as W
use Rattle.image.specs.Limits.{Each, Flagged, IsByte, IsSize, IsU32, IsVariable, IsLabel, IsConstant, IsFunction, IsOperand, IsSlot, IsBranch, IsDeclared, IsInstruction, IsFunctionItem, counts_of, WithinLimits, AreBytes}
use Rattle.image.proofs.Spells.{Spells, alone, itself, next_spells, last_spells, one_spells, two_spells, three_spells, four_spells, five_spells, number_spells, such_spells, below_spells, up_to_spells, known_spells, listed_spells, tabled_spells, optional_spells, many_spells, list_spells, bytes_spells, within_spells}
use Rattle.image.proofs.Parts.{Every, every-at, parts, picked, same_place}
use Rattle.image.proofs.Standing.{stand-bytes}
use Rattle.image.proofs.Plain.{plain, plain_parts, loaded-plain}

module _ {s : List ℕ} (bs : AreBytes s) where
  type_spells : Spells s [] (type s) (λ t. W.number (type_number t)) (λ t. Unit)
  unfolding type
  type_spells = known_spells type_at type_number (λ t. Unit) (λ k t e. (tag_of_type k t e, tt))

  int_cmp_spells : Spells s [] (known s int_cmp_at) (λ c. W.number (int_cmp_number c)) (λ c. Unit)
  unfolding int_cmp_at Every
  int_cmp_spells =
      listed_spells int_cmps int_cmp_number (λ c. Unit)
      ((refl, tt), ((refl, tt), ((refl, tt), ((refl, tt), ((refl, tt), ((refl, tt), ((refl, tt), ((refl, tt), ((refl, tt), ((refl, tt), tt))))))))))

  float_cmp_spells : Spells s [] (known s float_cmp_at) (λ c. W.number (float_cmp_number c)) (λ c. Unit)
  unfolding float_cmp_at Every
  float_cmp_spells = listed_spells float_cmps float_cmp_number (λ c. Unit) ((refl, tt), ((refl, tt), ((refl, tt), ((refl, tt), ((refl, tt), ((refl, tt), tt))))))

  flag_spells : (i : Item) → Spells s [] (known s (listed (flags_of i))) (λ b. W.number (flag_number b)) (Flagged i)
  unfolding Every Flagged
  flag_spells Item.function = listed_spells flags flag_number (λ b. Unit) ((refl, tt), ((refl, tt), tt))
  flag_spells Item.constant_item = listed_spells (flags_of Item.constant_item) flag_number (λ b. b ≡ true) ((refl, refl), tt)

  signed_spells : Spells s [] (known s (listed flags)) (λ b. W.number (flag_number b)) (Flagged Item.function)
  signed_spells = flag_spells Item.function

  item_spells : Spells s [] (known s (listed items)) (λ i. W.number (item_number i)) (λ i. Unit)
  unfolding Every
  item_spells = listed_spells items item_number (λ i. Unit) ((refl, tt), ((refl, tt), tt))

  u32_spells : Spells s [] (u32 s) W.number IsU32
  unfolding u32
  u32_spells = below_spells bs (2 ^ 32) unknown

  size_spells : Spells s [] (size s) W.number IsSize
  unfolding size
  size_spells = up_to_spells bs 32768 over_limit

  module _ (n : Counts) where
    var_spells : Spells s [] (var s n) W.number (IsVariable n)
    unfolding var
    var_spells = below_spells bs n.variables beyond_count

    label_spells : Spells s [] (label s n) W.number (IsLabel n)
    unfolding label
    label_spells = below_spells bs n.blocks beyond_count

    constant_spells : Spells s [] (constant s n) W.number (IsConstant n)
    unfolding constant
    constant_spells = below_spells bs n.constants beyond_count

    callee_spells : Spells s [] (callee s n) W.number (IsFunction n)
    unfolding callee
    callee_spells = below_spells bs n.functions beyond_count

    literal_spells : (k : Kind) → Spells s (W.number (tag k)) (literal_of s k) W.operand (IsOperand n)
    unfolding literal_of IsOperand
    literal_spells k = one_spells (λ b. literal (value k b)) (such_spells bs (holds k) unknown) (λ b h. (refl, h.1))

    variable_spells : Spells s (W.number 0) (one Operand.variable (var s n)) W.operand (IsOperand n)
    unfolding IsOperand
    variable_spells = one_spells Operand.variable var_spells (λ v h. (refl, h))

    operand_spells : Spells s [] (operand s n) W.operand (IsOperand n)
    unfolding operand
    operand_spells = tabled_spells (form s n) W.operand (IsOperand n) by_tag
      where
        by_kind : (k : ℕ) (o : Option Kind) (p : Field Operand) → kind_at k ≡ o → map (literal_of s) o ≡ some p → Spells s (W.number k) p W.operand (IsOperand n)
        by_kind k none p e h = absurd (none-ne-some p h)
        by_kind k (some j) p e h =
            subst (λ p. Spells s (W.number k) p W.operand (IsOperand n)) (some-injective (literal_of s j) p h)
            (subst (λ (k : ℕ). Spells s (W.number k) (literal_of s j) W.operand (IsOperand n)) (tag_of_kind k j e) (literal_spells j))

        by_tag : (k : ℕ) (p : Field Operand) → form s n k ≡ some p → Spells s (W.number k) p W.operand (IsOperand n)
        by_tag zero p h = subst (λ p. Spells s (W.number 0) p W.operand (IsOperand n)) (some-injective _ p h) variable_spells
        by_tag (suc k) p h =
            by_kind (suc k) (kind_at (suc k)) p refl
            (sym (ap (λ (b : Bool). pick b (some (one Operand.variable (var s n))) (map (literal_of s) (kind_at (suc k)))) (ne_eqb (suc k) 0 (λ e. omega arith))) ∙ h)

    slot_spells : Spells s [] (slot s n) W.slot (IsSlot n)
    unfolding slot
    slot_spells = two_spells (λ v z. record { var = v; size = z }) var_spells size_spells (λ v h z k. (refl, (h, k)))

    branch_spells : Spells s [] (branch s n) W.branch (IsBranch n)
    unfolding branch
    branch_spells = two_spells (λ v l. record { number = v; label = l }) (number_spells bs) label_spells (λ v h l k. (refl, (h, k)))

    declared_spells : Spells s [] (declared s n) W.declared (IsDeclared n)
    unfolding declared
    declared_spells = two_spells (λ v t. record { to = v; type = t }) var_spells type_spells (λ v h t k. (refl, h))

    -- ---- the table of opcodes

    pub instruction_spells : Spells s [] (instruction s n) W.instruction (IsInstruction n)
    unfolding instruction table W.instruction IsInstruction Every
    instruction_spells =
        tabled_spells (listed (table s n)) W.instruction (IsInstruction n)
        (every-at (λ k p. Spells s (W.number k) p W.instruction (IsInstruction n)) (table s n) (
          one_spells Jump label_spells (λ l h. (refl, h)),
          (
            three_spells Switch operand_spells (list_spells bs 64 branch_spells) label_spells (λ o h b i l j. (refl, (h, i, j))),
            (
              three_spells Assign var_spells operand_spells type_spells (λ v h o i t j. (refl, (h, i))),
              (
                two_spells ConstantAddress var_spells constant_spells (λ v h c i. (refl, (h, i))),
                (
                  five_spells Call (optional_spells bs declared_spells) (optional_spells bs operand_spells) callee_spells (list_spells bs 16 operand_spells) (optional_spells bs var_spells)
                      (λ d h c i f j a k r l. (refl, (h, i, j, k, l))),
                  (
                    one_spells Return (optional_spells bs operand_spells) (λ o h. (refl, h)),
                    (
                      four_spells IntCmp' var_spells int_cmp_spells operand_spells operand_spells (λ v h c i a j b k. (refl, (h, j, k))),
                      (
                        four_spells FloatCmp' var_spells float_cmp_spells operand_spells operand_spells (λ v h c i a j b k. (refl, (h, j, k))),
                        (
                          three_spells Add var_spells operand_spells operand_spells (λ v h a i b j. (refl, (h, i, j))),
                          (
                            three_spells Sub var_spells operand_spells operand_spells (λ v h a i b j. (refl, (h, i, j))),
                            (
                              three_spells Mul var_spells operand_spells operand_spells (λ v h a i b j. (refl, (h, i, j))),
                              (
                                four_spells Div var_spells signed_spells operand_spells operand_spells (λ v h c i a j b k. (refl, (h, j, k))),
                                (
                                  four_spells Mod var_spells signed_spells operand_spells operand_spells (λ v h c i a j b k. (refl, (h, j, k))),
                                  (
                                    three_spells FDiv var_spells operand_spells operand_spells (λ v h a i b j. (refl, (h, i, j))),
                                    (
                                      two_spells Not var_spells operand_spells (λ v h a i. (refl, (h, i))),
                                      (
                                        two_spells Negate var_spells operand_spells (λ v h a i. (refl, (h, i))),
                                        (
                                          three_spells Offset var_spells operand_spells u32_spells (λ v h a i z j. (refl, (h, i, j))),
                                          (
                                            three_spells Initialize var_spells size_spells (bytes_spells bs 256) (λ v h z i r j. (refl, (h, i, j))),
                                            (
                                              two_spells Write operand_spells operand_spells (λ a h b i. (refl, (h, i))),
                                              (
                                                three_spells Read var_spells operand_spells type_spells (λ v h o i t j. (refl, (h, i))),
                                                (
                                                  three_spells Copy operand_spells operand_spells u32_spells (λ a h b i z j. (refl, (h, i, j))),
                                                  (one_spells Drop operand_spells (λ a h. (refl, h)), tt),
                                                ),
                                              ),
                                            ),
                                          ),
                                        ),
                                      ),
                                    ),
                                  ),
                                ),
                              ),
                            ),
                          ),
                        ),
                      ),
                    ),
                  ),
                ),
              ),
            ),
          ),
        ))

    -- ---- functions

    pub function_spells : Spells s [] (function s n) W.function (IsFunctionItem n)
    unfolding function W.function
    function_spells =
        next_spells item_spells (λ item h. next_spells label_spells (λ entry i. next_spells var_spells (λ return_var j. next_spells var_spells
        (λ context_var k. next_spells (flag_spells item) (λ flag l. next_spells (list_spells bs (most_parameters item) var_spells)
        (λ parameters m. next_spells (list_spells bs 16 slot_spells)
        (λ slots o. last_spells refl (record { entry = i; return_var = j; context_var = k; return_pointer = l; parameters = m; slots = o }))))))))

-- ---- the program

-- counts within the header's limits
pub record Counted (n : Counts) : Type 0 where
  pub variables : n.variables ≤ 256
  pub constants : n.constants ≤ 64
  pub functions : n.functions ≤ 64
  pub blocks : n.blocks ≤ 512

-- the header's pieces
abbrev pub headed : Counts → List Piece
headed n = num 1 ∷ num n.variables ∷ num n.constants ∷ num n.functions ∷ num n.blocks ∷ []

same-counts : (n : Counts) (P : Program) → P.variables ≡ n.variables → length P.constants ≡ n.constants → length P.functions ≡ n.functions → length P.blocks ≡ n.blocks → n ≡ counts_of P
same-counts n P v c f b = rw (v, c, f, b)

module _ {s : List ℕ} (bs : AreBytes s) where
  pub header_spells : Spells s [] (header s) headed Counted
  unfolding header Every
  header_spells =
      next_spells (listed_spells versions (λ v. 1) (λ v. Unit) ((refl, tt), tt)) (λ version h. next_spells (up_to_spells bs 256 over_limit) (λ variables i.
      next_spells (up_to_spells bs 64 over_limit) (λ constants j. next_spells (up_to_spells bs 64 over_limit) (λ functions k. next_spells (up_to_spells bs 512 over_limit)
      (λ blocks l. last_spells refl (record { variables = i; constants = j; functions = k; blocks = l }))))))

  end_spells : Spells s [] (at_end s) (λ e. []) (λ e. Unit)
  unfolding at_end
  end_spells = itself (λ at next e t. (same_place (picked (leb (length s) at) (took tt at) left_over at e next t).1, tt))

  plain_spells : Spells s [] (plain s) pieces (λ P. length (written P) ≤ 32768 → WithinLimits P)
  unfolding plain plain_parts pieces
  plain_spells =
      next_spells header_spells (λ n h. next_spells (within_spells bs IsByte (bytes_spells bs) 8192 n.constants) (λ constants i.
      next_spells (many_spells bs (function_spells bs n) n.functions) (λ functions j.
      next_spells (within_spells bs (IsInstruction n) (λ left. list_spells bs left (instruction_spells bs n)) 4096 n.blocks) (λ blocks k.
      next_spells end_spells (λ e l.
      let P : Program = record { variables = n.variables; constants = constants; functions = functions; blocks = blocks } in
      let same : n ≡ counts_of P = same-counts n P refl i.0 j.0 k.0 in
      last_spells (simp (i.0, j.0, k.0, append-nil))
      (λ z. record {
        variable_count = h.variables;
        constant_count = omega (arith, i.0, h.constants);
        function_count = omega (arith, j.0, h.functions);
        block_count = omega (arith, k.0, h.blocks);
        constant_bytes = i.2;
        instruction_count = k.2;
        constants = i.1;
        functions = subst (λ (n : Counts). Each (IsFunctionItem n) functions) same j.1;
        blocks = subst (λ (n : Counts). Each (Each (IsInstruction n)) blocks) same k.1;
        size = z;
      }))))))

-- an image that is taken is read to its end
at_its_end : (s : List ℕ) (at end : ℕ) (P : Program) → plain s at ≡ took P end → length s ≤ end
unfolding plain plain_parts at_end
at_its_end s at end P e =
    let a = parts _ _ P end e in
    let b = parts _ _ P end a.then' in
    let c = parts _ _ P end b.then' in
    let d = parts _ _ P end c.then' in
    let f = parts _ _ P end d.then' in
    let t = picked (leb (length s) d.place) (took tt d.place) left_over d.place f.value f.place f.first in
    omega (arith, leb-true (length s) d.place t.0, same_place t.1, same_place f.then')

-- "Writing an accepted program gives its image's bytes again."
pub loaded-writes : (s : List ℕ) (P : Program) (end : ℕ) → AreBytes s → loaded s ≡ took P end → written P ≡ s
unfolding written
loaded-writes s P end bs e =
    let t = picked (leb (length s) 32768) (plain s 0) over_limit 0 P end (sym (loaded-plain s) ∙ e) in
    let h = stand-bytes s bs 0 end (pieces P) (alone (plain_spells bs) 0 end P t.1).stands in
    sym (h ∙ ap (λ (l : List ℕ). spelt (pieces P) ++ l) (drop_of_length-le s (at_its_end s 0 end P t.1)) ∙ append-nil (spelt (pieces P)))

-- an accepted program is within the limits: they shut out none that an image can hold
pub loaded-within : (s : List ℕ) (P : Program) (end : ℕ) → AreBytes s → loaded s ≡ took P end → WithinLimits P
loaded-within s P end bs e =
    let t = picked (leb (length s) 32768) (plain s 0) over_limit 0 P end (sym (loaded-plain s) ∙ e) in
    (alone (plain_spells bs) 0 end P t.1).fits (omega (arith, leb-true (length s) 32768 t.0, ap length (loaded-writes s P end bs e)))
