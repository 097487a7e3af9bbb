-- The entries: what a host is answered. "Order: image, 10, 11 or 12, 13, 14, 15, then room"; the image is loaded where there is a program.
use Rattle.std.specs.Prelude.{List, [], ◌∷◌}
use Rattle.value.specs.Refusal as Refusal
use Rattle.value.specs.Answer.{pick}
use Rattle.memory.specs.Memory.{Memory}
use Rattle.machine.specs.Machine.{Machine}
use Rattle.machine.specs.Sound.{sound}
use Rattle.machine.specs.Believed.{believed}
use Rattle.machine.specs.Asks.{Ask, Reply, refusal, Turn, turn, ask}

-- "10 state not sound", and else what is asked
unfoldable pub enter : Ask → Machine Memory → Turn Memory
enter a s = pick (sound s) (ask believed a s) (turn (refusal Refusal.not_sound) s)

-- the replies to any asks, one after the other, and the machine after them
unfoldable pub answers : List Ask → Machine Memory → List Reply
answers [] s = []
answers (a ∷ as') s = (enter a s).reply ∷ answers as' (enter a s).machine

unfoldable pub onwards : List Ask → Machine Memory → Machine Memory
onwards [] s = s
onwards (a ∷ as') s = onwards as' (enter a s).machine
