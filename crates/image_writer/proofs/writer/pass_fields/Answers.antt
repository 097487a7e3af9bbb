-- `pass_fields` meets its contract: the opcode's fields, by its arm.
use mathlib.Core.Path.{refl}
use mathlib.Core.List.{[], ◌∷◌}
use Rattle.image.specs.Limits.{Each}
use Rattle.image_writer.specs.Past.{among, past_fields, past_number, past_pair, past_optional, past_switch, past_call, past_chosen, past_three, past_typed, past_two, past_initialize, past_write, past_copy}
use Rattle.image_writer.proofs.Keeps.{none-among, keyed, row-passed}
use Rattle.image_writer.proofs.writer.pass_fields.Goals as goal

pub returns-in-0 : goal.returns-in-0
unfolding among past_fields Each
returns-in-0 c =
    let s = c.args.image.now in
    let opcode = c.args.opcode in
    row-passed (past_fields s opcode) (keyed s (past_number s) (0 ∷ []) opcode (refl, tt) c.in-0.is) c.pass_number.ensures.passed

pub returns-in-1 : goal.returns-in-1
unfolding among past_fields Each
returns-in-1 c =
    let s = c.args.image.now in
    let opcode = c.args.opcode in
    row-passed (past_fields s opcode) (keyed s (past_switch s) (1 ∷ []) opcode (refl, tt) c.in-1.is) c.pass_switch.ensures

pub returns-in-2 : goal.returns-in-2
unfolding among past_fields Each
returns-in-2 c =
    let s = c.args.image.now in
    let opcode = c.args.opcode in
    row-passed (past_fields s opcode) (keyed s (past_typed s) (2 ∷ 16 ∷ 19 ∷ []) opcode (refl, (refl, (refl, tt))) c.in-2.is) c.pass_typed.ensures

pub returns-in-3 : goal.returns-in-3
unfolding among past_fields Each
returns-in-3 c =
    let s = c.args.image.now in
    let opcode = c.args.opcode in
    row-passed (past_fields s opcode) (keyed s (past_pair s) (3 ∷ 21 ∷ []) opcode (refl, (refl, tt)) c.in-3.is) c.pass_pair.ensures

pub returns-in-4 : goal.returns-in-4
unfolding among past_fields Each
returns-in-4 c =
    let s = c.args.image.now in
    let opcode = c.args.opcode in
    row-passed (past_fields s opcode) (keyed s (past_call s) (4 ∷ []) opcode (refl, tt) c.in-4.is) c.pass_call.ensures

pub returns-in-5 : goal.returns-in-5
unfolding among past_fields Each
returns-in-5 c =
    let s = c.args.image.now in
    let opcode = c.args.opcode in
    row-passed (past_fields s opcode) (keyed s (past_optional s (past_pair s)) (5 ∷ []) opcode (refl, tt) c.in-5.is) c.pass_optional_pair.ensures

pub returns-in-6 : goal.returns-in-6
unfolding among past_fields Each
returns-in-6 c =
    let s = c.args.image.now in
    let opcode = c.args.opcode in
    row-passed (past_fields s opcode) (keyed s (past_chosen s) (6 ∷ 11 ∷ []) opcode (refl, (refl, tt)) c.in-6.is) c.pass_chosen.ensures

pub returns-in-7 : goal.returns-in-7
unfolding among past_fields Each
returns-in-7 c =
    let s = c.args.image.now in
    let opcode = c.args.opcode in
    row-passed (past_fields s opcode) (keyed s (past_chosen s) (7 ∷ 12 ∷ []) opcode (refl, (refl, tt)) c.in-7.is) c.pass_chosen-in-7.ensures

pub returns-in-8 : goal.returns-in-8
unfolding among past_fields Each
returns-in-8 c =
    let s = c.args.image.now in
    let opcode = c.args.opcode in
    row-passed (past_fields s opcode) (keyed s (past_three s) (8 ∷ 10 ∷ 13 ∷ []) opcode (refl, (refl, (refl, tt))) c.in-8.is) c.pass_three.ensures

pub returns-in-9 : goal.returns-in-9
unfolding among past_fields Each
returns-in-9 c =
    let s = c.args.image.now in
    let opcode = c.args.opcode in
    row-passed (past_fields s opcode) (keyed s (past_three s) (9 ∷ []) opcode (refl, tt) c.in-9.is) c.pass_three-in-9.ensures

pub returns-in-14 : goal.returns-in-14
unfolding among past_fields Each
returns-in-14 c =
    let s = c.args.image.now in
    let opcode = c.args.opcode in
    row-passed (past_fields s opcode) (keyed s (past_two s) (14 ∷ []) opcode (refl, tt) c.in-14.is) c.pass_two.ensures

pub returns-in-15 : goal.returns-in-15
unfolding among past_fields Each
returns-in-15 c =
    let s = c.args.image.now in
    let opcode = c.args.opcode in
    row-passed (past_fields s opcode) (keyed s (past_two s) (15 ∷ []) opcode (refl, tt) c.in-15.is) c.pass_two-in-15.ensures

pub returns-in-17 : goal.returns-in-17
unfolding among past_fields Each
returns-in-17 c =
    let s = c.args.image.now in
    let opcode = c.args.opcode in
    row-passed (past_fields s opcode) (keyed s (past_initialize s) (17 ∷ []) opcode (refl, tt) c.in-17.is) c.pass_initialize.ensures

pub returns-in-18 : goal.returns-in-18
unfolding among past_fields Each
returns-in-18 c =
    let s = c.args.image.now in
    let opcode = c.args.opcode in
    row-passed (past_fields s opcode) (keyed s (past_write s) (18 ∷ []) opcode (refl, tt) c.in-18.is) c.pass_write.ensures

pub returns-in-20 : goal.returns-in-20
unfolding among past_fields Each
returns-in-20 c =
    let s = c.args.image.now in
    let opcode = c.args.opcode in
    row-passed (past_fields s opcode) (keyed s (past_copy s) (20 ∷ []) opcode (refl, tt) c.in-20.is) c.pass_copy.ensures

pub returns-in_default : goal.returns-in_default
unfolding past_fields
returns-in_default c =
    let v = c.args.opcode in
    record {
      place = rw (
        none-among (0 ∷ []) v c.in_default.in_default-own.rest.0.0.0.0.0.0.0.0.0.0.0.0.0.0.1,
        none-among (1 ∷ []) v c.in_default.in_default-own.rest.0.0.0.0.0.0.0.0.0.0.0.0.0.1,
        none-among (2 ∷ 16 ∷ 19 ∷ []) v c.in_default.in_default-own.rest.0.0.0.0.0.0.0.0.0.0.0.0.1,
        none-among (3 ∷ 21 ∷ []) v c.in_default.in_default-own.rest.0.0.0.0.0.0.0.0.0.0.0.1,
        none-among (4 ∷ []) v c.in_default.in_default-own.rest.0.0.0.0.0.0.0.0.0.0.1,
        none-among (5 ∷ []) v c.in_default.in_default-own.rest.0.0.0.0.0.0.0.0.0.1,
        none-among (6 ∷ 11 ∷ []) v c.in_default.in_default-own.rest.0.0.0.0.0.0.0.0.1,
        none-among (7 ∷ 12 ∷ []) v c.in_default.in_default-own.rest.0.0.0.0.0.0.0.1,
        none-among (8 ∷ 10 ∷ 13 ∷ []) v c.in_default.in_default-own.rest.0.0.0.0.0.0.1,
        none-among (9 ∷ []) v c.in_default.in_default-own.rest.0.0.0.0.0.1,
        none-among (14 ∷ []) v c.in_default.in_default-own.rest.0.0.0.0.1,
        none-among (15 ∷ []) v c.in_default.in_default-own.rest.0.0.0.1,
        none-among (17 ∷ []) v c.in_default.in_default-own.rest.0.0.1,
        none-among (18 ∷ []) v c.in_default.in_default-own.rest.0.1,
        none-among (20 ∷ []) v c.in_default.in_default-own.rest.1,
      );
      keeps = λ b enough k. k;
    }
