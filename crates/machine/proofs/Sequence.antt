-- The sequences are accepted, and answered as they say, by computing; and the history tells the same.
use mathlib.Core.Path.{◌≡◌, refl, sym, ◌∙◌}
use mathlib.Core.List.{[], ◌∷◌, flatten}
use mathlib.Core.Option.{none, some}
use Rattle.value.specs.Answer.{need, found, ◌>>=◌}
use Rattle.value.specs.Refusal.{not_sound}
use Rattle.value.specs.Value.{value, u32, IrType, kind_of, tag, size, family, is_scalar, is_bad_char, le_bytes, le_number, bytes_of, from_bytes}
use Rattle.memory.specs.Memory as Memory
use Rattle.memory.specs.Memory.{sum, live_count, live_bytes, allocate, access, write_at, write_bytes, read_constant, read_at, read_bytes, offset_at, offset_by, constant_address, push_frame, pop_frame, live_pointer, live_list}
use Rattle.image.specs.Program.{variable, literal, Call, Return, Initialize, Write}
use Rattle.machine.specs.Machine as M
use Rattle.machine.specs.Believed.{believed}
use Rattle.machine.specs.Recalled.{recalled}
use Rattle.memory.specs.Sound.{rising, good_var, good_back, good_backs, good_value, good_vars, sound_memory, sound_machine, in_kind, typed}
use Rattle.machine.specs.Sound.{all, bytes_in, sound}
use Rattle.value.specs.Tags.{holds}
use Rattle.machine.specs.Accepted.{given, good_operand, good_optional, good_to, good_instruction, accepted, accepted_ask}
use Rattle.machine.specs.Asks.{to_allocate, refusal, turn, changes, shows, steps, goes, lays, ask, replies}
use Rattle.machine.specs.Entries.{enter, answers, onwards}
use Rattle.machine.specs.Demand.{Accepted, state_after, At, AtRead, AtCopy}
use Rattle.machine.specs.Sequence.{asked, answered, walks, walked, walk_answered, entered, replied, beyond}
use Rattle.machine.proofs.Demand.{replies_are_told}

pub asked-accepted : Accepted asked
unfolding asked all given holds good_operand good_optional good_to good_instruction accepted accepted_ask flatten tag M.as_variable
asked-accepted = tt

pub asked-answered : answers asked (M.fresh believed) ≡ answered
unfolding asked answered need found ◌>>=◌ kind_of tag size family is_scalar is_bad_char le_bytes le_number bytes_of from_bytes flatten Memory.fresh sum live_count live_bytes allocate access write_at write_bytes read_constant read_at read_bytes offset_at offset_by constant_address push_frame pop_frame live_pointer live_list rising good_var good_back good_backs good_value good_vars in_kind typed sound_machine sound_memory bytes_in all holds sound changes shows steps goes lays ask enter answers M.start M.step M.step_once M.execute M.leave M.make_slots M.fresh M.set_started M.set_values M.all_good M.set_returned M.value_if M.to_of M.set_arguments M.as_variable M.set_from M.pointer_of M.as_pointer M.value_of M.host_read M.host_list
asked-answered = refl

-- and so it is told
pub asked-told : replies recalled asked (M.fresh recalled) ≡ answered
asked-told = sym (replies_are_told asked asked-accepted) ∙ asked-answered

-- ---- each instruction in turn

pub walked-accepted : Accepted (walked 8)
unfolding walked all given holds good_operand good_optional good_to good_instruction accepted accepted_ask flatten tag M.as_variable
walked-accepted = tt

pub walked-answered : answers (walked 8) (M.fresh believed) ≡ walk_answered
unfolding walked need found ◌>>=◌ kind_of tag size family is_scalar is_bad_char le_bytes le_number bytes_of from_bytes flatten Memory.fresh sum live_count live_bytes allocate access write_at write_bytes read_constant read_at read_bytes push_frame pop_frame rising good_var good_back good_backs good_value good_vars in_kind typed sound_machine sound_memory bytes_in all holds sound changes shows steps goes lays ask enter answers onwards M.start M.step M.step_once M.execute M.leave M.make_slots M.fresh M.set_started M.set_values M.all_good M.set_returned M.value_if M.to_of M.set_arguments M.as_variable M.set_from M.pointer_of M.as_pointer M.value_of walk_answered
walked-answered = refl

-- It stands at an Initialize, a Write, a Copy, a Read, a Call, the callee's Return and the last one: `initializes_make`, `writes-store`, `copies-store`,
-- `steps_read_last_stored`, `calls_begin`, `returns-end` and `last_return_ends_none` speak of these steps.
pub walked-stands :
    At (state_after (walked 0)) walks (Initialize 3 4 (1 ∷ 2 ∷ []))
    × At (state_after (walked 1)) walks (Write (variable 3) (literal (value u32 0x04030201)))
    × AtCopy (state_after (walked 3)) walks 1 0 4
    × AtRead (state_after (walked 4)) walks 2 IrType.U32 1
    × At (state_after (walked 5)) walks (Call none none 1 [] none)
    × At (state_after (walked 6)) walks (Return none)
    × At (state_after (walked 7)) walks (Return (some (variable 2)))
unfolding walked need found ◌>>=◌ kind_of tag size family is_scalar is_bad_char le_bytes le_number bytes_of from_bytes flatten Memory.fresh sum live_count live_bytes allocate access write_at write_bytes read_constant read_at read_bytes push_frame pop_frame rising good_var good_back good_backs good_value good_vars in_kind typed sound_machine sound_memory bytes_in all holds sound changes shows steps goes lays ask enter answers onwards M.start M.step M.step_once M.execute M.leave M.make_slots M.fresh M.set_started M.set_values M.all_good M.set_returned M.value_if M.to_of M.set_arguments M.as_variable M.set_from M.pointer_of M.as_pointer M.value_of
walked-stands = (
  (tt, refl),
  (tt, refl),
  record { runs = tt; target = variable 4; source = variable 3; here = refl; onto = refl; through = refl },
  record { runs = tt; operand = variable 4; here = refl; through = refl },
  (tt, refl),
  (tt, refl),
  (tt, refl),
)

-- ---- the entries

pub entered-accepted : Accepted entered
unfolding entered all given holds good_operand good_optional good_to good_instruction accepted accepted_ask flatten tag M.as_variable
entered-accepted = tt

pub entered-replied : answers entered (M.fresh believed) ≡ replied
unfolding entered replied need found ◌>>=◌ kind_of tag size family is_scalar is_bad_char flatten Memory.fresh sum live_count live_bytes allocate pop_frame live_pointer live_list rising good_var good_back good_backs good_value good_vars in_kind typed sound_machine sound_memory bytes_in all holds sound changes shows steps goes lays ask enter answers M.start M.run M.run_from M.after M.step M.step_once M.execute M.leave M.make_slots M.fresh M.set_started M.set_values M.all_good M.value_if M.value_of M.host_allocate M.host_list
entered-replied = refl

pub entered-told : replies recalled entered (M.fresh recalled) ≡ replied
entered-told = sym (replies_are_told entered entered-accepted) ∙ entered-replied

-- "10 state not sound", before what is asked
pub beyond-refused : enter (to_allocate 0) beyond ≡ turn (refusal not_sound) beyond
unfolding enter sound sound_machine sound_memory rising good_var good_back good_backs Memory.fresh sum live_count live_bytes
beyond-refused = refl
