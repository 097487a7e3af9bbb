-- Each state of the list answers as it says, by computing.
use mathlib.Core.Path.{◌≡◌, refl}
use mathlib.Core.List.{map, flatten}
use Rattle.value.specs.Answer.{need, found, ◌>>=◌}
use Rattle.value.specs.Value.{kind_of, tag, size, is_scalar, is_bad_char, le_number, from_bytes}
use Rattle.value.specs.Tags.{holds}
use Rattle.memory.specs.Memory.{sum, live_count, live_bytes, allocate, access, read_at, read_bytes, offset_at, offset_by, write_at, write_bytes, push_frame, pop_frame}
use Rattle.memory.specs.Sound.{rising, good_var, good_back, good_backs, good_value, good_vars, sound_memory, sound_machine, in_kind, typed}
use Rattle.machine.specs.Machine as M
use Rattle.machine.specs.Sound.{all, bytes_in, sound}
use Rattle.machine.specs.Asks.{changes, steps, goes, ask}
use Rattle.machine.specs.Entries.{enter, answers, onwards}
use Rattle.machine.specs.Orders.{orders, stack, given, said}

pub orders-answered : map given orders ≡ map said orders
unfolding orders stack need found ◌>>=◌ kind_of tag size is_scalar is_bad_char le_number from_bytes flatten holds sum live_count live_bytes allocate access read_at read_bytes offset_at offset_by write_at write_bytes push_frame pop_frame rising good_var good_back good_backs good_value good_vars in_kind typed sound_machine sound_memory bytes_in all sound changes steps goes ask enter answers onwards M.run M.run_from M.after M.step M.step_once M.execute M.leave M.make_slots M.set_returned M.value_if M.to_of M.set_arguments M.as_variable M.set_from M.pointer_of M.as_pointer M.value_of M.host_allocate
orders-answered = refl
