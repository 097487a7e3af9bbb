-- `wide`: what is no float is std's NaN.
use Rattle.std.proofs.Common.{[], ◌∷◌, sym, ◌∙◌, arith}
use lib.Ieee.{binary64}
use borrow.Enum.Refused.{opened}
use Rattle.value.specs.Ir.{value_of}
use Rattle.value.specs.Value.{family, is_float}
use Rattle.value.proofs.Leftover.{rest, left_over_lem}
use Rattle.value.proofs.Patterns.{no_number, nan-of}
use Rattle.comparing.proofs.Reals.{no_wide}
use Rattle.comparing.proofs.order.wide.Goals as goal

pub returns-in_default : goal.returns-in_default
unfolding family
returns-in_default c = sym (nan-of binary64 9221120237041090560 (omega arith)) ∙ no_number binary64 ∙ sym (no_wide (value_of c.args.v) (left_over_lem (λ k. is_float (family k)) (rest (9 ∷ 10 ∷ [])) c.args.v tt (opened c.in_default.in_default-own.keys3)))
