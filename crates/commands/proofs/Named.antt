-- Each command is found by its own word, as the table of specs/Named.antt has it, and by its name, by computing.
use mathlib.Core.Path.{◌≡◌, refl}
use mathlib.Core.List.{[], ◌∷◌, map}
use Rattle.std.specs.Prelude.{Ok}
use Rattle.value.specs.Bytes.{same_bytes}
use Rattle.words.specs.Ascii.{ascii}
use Rattle.commands.specs.Names.{Name, command_name, poke_name, commands, pokes, name_read}
use Rattle.commands.specs.Named.{Named}
use Rattle.commands.specs.Named as table
use Rattle.commands.specs.declared.command.Command.{Command}
use Rattle.commands.specs.declared.command.Command.TheVariants as command
use Rattle.commands.specs.declared.command.Poke.{Poke}

pub commands-found : (map (λ (c : Named Command). name_read (c.word ∷ [])) table.commands ≡ map {B = Name} (λ (c : Named Command). Ok (c.what, 1)) table.commands)
    × (map (λ (c : Command). name_read (command_name c ∷ [])) commands ≡ map {B = Name} (λ (c : Command). Ok (c, 1)) commands)
unfolding same_bytes
commands-found = (refl, refl)

pub pokes-found : (map (λ (p : Named Poke). name_read (ascii "poke" ∷ p.word ∷ [])) table.pokes ≡ map {B = Name} (λ (p : Named Poke). Ok (command.Poke p.what, 2)) table.pokes)
    × (map (λ (p : Poke). name_read (ascii "poke" ∷ poke_name p ∷ [])) pokes ≡ map {B = Name} (λ (p : Poke). Ok (command.Poke p, 2)) pokes)
unfolding same_bytes
pokes-found = (refl, refl)
