-- The machine over what the sequence tells: the same step, with no id and no store.
use Rattle.machine.specs.Machine.{Memories}
use Rattle.machine.specs.History.{History, beginning, told, tell_allocation, tell_address, tell_offset, tell_store, tell_call, tell_return, told_list}
use Rattle.std.specs.Prelude.{length}

abbrev pub recalled : Memories History
recalled = record {
  none_yet = beginning;
  given = λ h. length h.given;
  allocate = tell_allocation;
  address = tell_address;
  offset = tell_offset;
  read = told;
  write = tell_store;
  push = tell_call;
  pop = tell_return;
  listing = told_list;
}
