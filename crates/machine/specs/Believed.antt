-- The machine over the believed memory.
use Rattle.memory.specs.Memory.{Memory, fresh, allocate, constant_address, offset_by, read_bytes, write_bytes, push_frame, pop_frame, live_list}
use Rattle.machine.specs.Machine.{Memories}
use Rattle.std.specs.Prelude.{length}

abbrev pub believed : Memories Memory
believed = record {
  none_yet = fresh;
  given = λ m. length m.pointers;
  allocate = allocate;
  address = constant_address;
  offset = offset_by;
  read = read_bytes;
  write = write_bytes;
  push = push_frame;
  pop = pop_frame;
  listing = live_list;
}
