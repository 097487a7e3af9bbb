-- P1 to P10 and the orders of checks hold, computed: over the believed memory, and over the history alone.
use lib.Dec.{T}
use Rattle.value.specs.Answer.{need, found, ◌>>=◌}
use Rattle.value.specs.Divide.{round_bits, divide_bits}
use Rattle.value.specs.Value.{kind_of, tag, size, family, is_scalar, is_bad_char, integer, bits_of, checked, operate, arithmetic, divide_floats, negated, notted, real, naturals, integers, reals, passes, has_equality, equality, unsigned_order, signed_order, float_order, compare_ints, compare_floats, switch_on, le_bytes, le_number, bytes_of, from_bytes}
use Rattle.memory.specs.Memory.{fresh, sum, live_count, live_bytes, allocate, access, write_at, write_bytes, read_constant, read_at, read_bytes, offset_at, offset_by, constant_address, push_frame, pop_frame}
use Rattle.image.specs.Cases.{p1_loads, program_taken}
use Rattle.machine.specs.Machine as M
use Rattle.machine.specs.Believed.{believed}
use Rattle.machine.specs.Recalled.{recalled}
use Rattle.machine.specs.History.{beginning, last_stored, stored_at, moved, among, first, bytes_from, told_at, told, next, told_count, told_bytes, tell_allocation, tell_address, tell_store_at, tell_store, tell_offset_at, tell_offset, tell_call, tell_return}
use Rattle.value.specs.Cases as Numbered
use Rattle.machine.specs.Cases.{papers, shown, cases, all_hold, ran, runs, same_outcome, same_value}
use mathlib.Core.List.{flatten}

pub papers_hold : T (Numbered.all_hold (shown believed papers))
unfolding program_taken papers Numbered.all_hold ran runs same_outcome same_value need found ◌>>=◌ round_bits divide_bits tag size kind_of family is_scalar is_bad_char integer bits_of checked operate arithmetic divide_floats negated notted real naturals integers reals passes has_equality equality unsigned_order signed_order float_order compare_ints compare_floats switch_on le_bytes le_number bytes_of from_bytes flatten fresh sum live_count live_bytes allocate access write_at write_bytes read_constant read_at read_bytes offset_at offset_by constant_address push_frame pop_frame M.start M.run M.run_from M.after M.step M.execute M.leave M.make_slots M.fresh M.set_started M.set_values M.all_good M.set_returned M.value_if M.to_of M.choose M.set_arguments M.as_variable M.set_from M.pointer_of M.as_pointer M.value_of
papers_hold = rw p1_loads tt

pub papers-told : T (Numbered.all_hold (shown recalled papers))
unfolding program_taken papers Numbered.all_hold ran runs same_outcome same_value need found ◌>>=◌ round_bits divide_bits tag size kind_of family is_scalar is_bad_char integer bits_of checked operate arithmetic divide_floats negated notted real naturals integers reals passes has_equality equality unsigned_order signed_order float_order compare_ints compare_floats switch_on le_bytes le_number bytes_of from_bytes flatten sum read_constant beginning last_stored stored_at moved among first bytes_from told_at told next told_count told_bytes tell_allocation tell_address tell_store_at tell_store tell_offset_at tell_offset tell_call tell_return M.start M.run M.run_from M.after M.step M.execute M.leave M.make_slots M.fresh M.set_started M.set_values M.all_good M.set_returned M.value_if M.to_of M.choose M.set_arguments M.as_variable M.set_from M.pointer_of M.as_pointer M.value_of
papers-told = rw p1_loads tt

pub all_hold_lem : T (all_hold believed cases)
unfolding cases all_hold ran runs same_outcome same_value need found ◌>>=◌ round_bits divide_bits tag size kind_of family is_scalar is_bad_char integer bits_of checked operate arithmetic divide_floats negated notted real naturals integers reals passes has_equality equality unsigned_order signed_order float_order compare_ints compare_floats switch_on le_bytes le_number bytes_of from_bytes flatten fresh sum live_count live_bytes allocate access write_at write_bytes read_constant read_at read_bytes offset_at offset_by constant_address push_frame pop_frame M.start M.run M.run_from M.after M.step M.execute M.leave M.make_slots M.fresh M.set_started M.set_values M.all_good M.set_returned M.value_if M.to_of M.choose M.set_arguments M.as_variable M.set_from M.pointer_of M.as_pointer M.value_of
all_hold_lem = tt

pub all_told : T (all_hold recalled cases)
unfolding cases all_hold ran runs same_outcome same_value need found ◌>>=◌ round_bits divide_bits tag size kind_of family is_scalar is_bad_char integer bits_of checked operate arithmetic divide_floats negated notted real naturals integers reals passes has_equality equality unsigned_order signed_order float_order compare_ints compare_floats switch_on le_bytes le_number bytes_of from_bytes flatten sum read_constant beginning last_stored stored_at moved among first bytes_from told_at told next told_count told_bytes tell_allocation tell_address tell_store_at tell_store tell_offset_at tell_offset tell_call tell_return M.start M.run M.run_from M.after M.step M.execute M.leave M.make_slots M.fresh M.set_started M.set_values M.all_good M.set_returned M.value_if M.to_of M.choose M.set_arguments M.as_variable M.set_from M.pointer_of M.as_pointer M.value_of
all_told = tt
