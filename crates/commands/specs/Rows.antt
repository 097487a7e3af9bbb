-- The parts of each command's line, and its end.
use Rattle.std.specs.Prelude.{Option}
use Rattle.commands.specs.Parts.{nothing, any, flag, variable, list_room, size, budget, frame, var, kind, bits}
use Rattle.commands.specs.declared.command.Command.{Command}
use Rattle.commands.specs.declared.command.Command.TheVariants as command
use Rattle.commands.specs.declared.command.Poke.{Poke}
use Rattle.commands.specs.declared.command.Poke.TheVariants as poke
use Rattle.commands.specs.declared.part.Part.{Part}
use Rattle.commands.specs.declared.part.End.{End}
use Rattle.commands.specs.declared.part.End.TheVariants as end
use Rattle.commands.specs.declared.row.Row.{Row}

abbrev pub row : (first second third fourth : Option Part) → End → Row
row a b c d e = record { first = a; second = b; third = c; fourth = d; end = e }

abbrev pub plain : Row
plain = row nothing nothing nothing nothing end.Nothing

abbrev pub poke_row : Poke → Row
poke_row poke.Counter = row any nothing nothing nothing end.Nothing  -- counter N
poke_row poke.Next = row any nothing nothing nothing end.Nothing  -- next N
poke_row poke.Running = row flag nothing nothing nothing end.Nothing  -- running 0 or 1
poke_row poke.Var = row variable kind bits nothing end.Nothing  -- var I KIND BITS
poke_row poke.Unset = row variable nothing nothing nothing end.Nothing  -- unset I
poke_row poke.Frame = row any any var nothing end.Nothing  -- frame ID PLACE VAR
poke_row poke.Id = row frame any nothing nothing end.Nothing  -- id F ID
poke_row poke.Place = row frame any nothing nothing end.Nothing  -- place F N
poke_row poke.Rvar = row frame var nothing nothing end.Nothing  -- rvar F VAR
poke_row poke.Local = row any any any any end.Nothing  -- local FRAME ID ALLOCATION OFFSET
poke_row poke.Const = row any any nothing nothing end.Nothing  -- const K N

abbrev pub row_of : Command → Row
row_of command.Image = row nothing nothing nothing nothing end.Hex  -- image HEX
row_of command.Fresh = plain  -- fresh
row_of command.Allocate = row any nothing nothing nothing end.Nothing  -- allocate SIZE
row_of command.Write = row any nothing nothing nothing end.Hex  -- write P HEX
row_of command.Read = row any size nothing nothing end.Nothing  -- read P SIZE
row_of command.Start = row any nothing nothing nothing end.Values  -- start FUNCTION KIND BITS [KIND BITS]...
row_of command.Step = plain  -- step
row_of command.Run = row budget nothing nothing nothing end.Nothing  -- run BUDGET
row_of command.Live = row list_room nothing nothing nothing end.Nothing  -- live ROOM
row_of command.Rewrite = row size nothing nothing nothing end.Nothing  -- rewrite ROOM
row_of command.Dump = plain  -- dump
row_of (command.Poke p) = poke_row p

-- the start line of `lir run` has no name: FUNCTION BUDGET KIND BITS [KIND BITS]...
abbrev pub start_row : Row
start_row = row any budget nothing nothing end.Values
