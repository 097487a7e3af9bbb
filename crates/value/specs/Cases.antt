-- Worked cases of document 01 that values alone decide, as a list that is computed.
use Rattle.std.specs.Prelude.{ℕ, Bool, true, false, ◌&&◌, List, [], ◌∷◌, eqb, pos, neg_ℤ}
use Rattle.value.specs.Answer.{Answer, ok, refused}
use Rattle.value.specs.Refusal.{wrong_kinds, outside_width, not_bool, number_of}
use Rattle.value.specs.Value.{Value, value, same, bits_of, i8, u64, IrType, div, mod', Eq, arithmetic, negated, compare_ints, from_bytes}

-- a case: which P it is of, and whether it comes out as the document says
pub record Case : Type 0 where
  pub number : ℕ
  pub holds : Bool

unfoldable pub all_hold : List Case → Bool
all_hold [] = true
all_hold (c ∷ cs) = c.holds && all_hold cs

-- the same value, or the same refusal
unfoldable pub same_answer : Answer Value → Answer Value → Bool
same_answer (ok v) (ok w) = same v.kind w.kind && eqb v.bits w.bits
same_answer (ok v) (refused n) = false
same_answer (refused m) (ok w) = false
same_answer (refused m) (refused n) = eqb (number_of m) (number_of n)

abbrev pub gives : ℕ → Answer Value → Answer Value → Case
gives p a b = record { number = p; holds = same_answer a b }

-- I8 n and I8 -n
abbrev pub plus : ℕ → Value
plus n = value i8 (bits_of i8 (pos n))

abbrev pub minus : ℕ → Value
minus n = value i8 (bits_of i8 (neg_ℤ (pos n)))

-- "P2 Negate I8 -127 gives 127; -128 gives 23."
-- "P3 I8 -7 / 2 = -3, -7 % 2 = -1; -128 % -1 is 23."
-- "P6 U64 5 Eq U64 5 is 22. P7 Bool from byte 2 is 31."
unfoldable pub value_cases : List Case
value_cases =
    gives 2 (negated (minus 127)) (ok (plus 127))
    ∷ gives 2 (negated (minus 128)) (refused outside_width)
    ∷ gives 3 (arithmetic div (minus 7) (plus 2)) (ok (minus 3))
    ∷ gives 3 (arithmetic mod' (minus 7) (plus 2)) (ok (minus 1))
    ∷ gives 3 (arithmetic mod' (minus 128) (minus 1)) (refused outside_width)
    ∷ gives 6 (compare_ints Eq (value u64 5) (value u64 5)) (refused wrong_kinds)
    ∷ gives 7 (from_bytes IrType.Boolean (2 ∷ [])) (refused not_bool)
    ∷ []
