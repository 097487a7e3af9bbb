-- The commands of the console, each under its name.
use Rattle.std.specs.Prelude.{ℕ, Option, Some, None, Result, Ok, List, [], ◌∷◌, get_or, find, bytes_eq}
use Rattle.value.specs.Answer.{pick}
use Rattle.value.specs.Bytes.{same_bytes}
use Rattle.words.specs.Ascii.{ascii}
use Rattle.words.specs.declared.BadWord.{BadWord}
use Rattle.commands.specs.Parts.{bad}
use Rattle.commands.specs.declared.command.Command.{Command}
use Rattle.commands.specs.declared.command.Command.TheVariants as command
use Rattle.commands.specs.declared.command.Poke.{Poke}
use Rattle.commands.specs.declared.command.Poke.TheVariants as poke

abbrev pub poke_name : Poke → List ℕ
poke_name poke.Counter = ascii "counter"
poke_name poke.Next = ascii "next"
poke_name poke.Running = ascii "running"
poke_name poke.Var = ascii "var"
poke_name poke.Unset = ascii "unset"
poke_name poke.Frame = ascii "frame"
poke_name poke.Id = ascii "id"
poke_name poke.Place = ascii "place"
poke_name poke.Rvar = ascii "rvar"
poke_name poke.Local = ascii "local"
poke_name poke.Const = ascii "const"

abbrev pub command_name : Command → List ℕ
command_name command.Image = ascii "image"
command_name command.Fresh = ascii "fresh"
command_name command.Allocate = ascii "allocate"
command_name command.Write = ascii "write"
command_name command.Read = ascii "read"
command_name command.Start = ascii "start"
command_name command.Step = ascii "step"
command_name command.Run = ascii "run"
command_name command.Live = ascii "live"
command_name command.Rewrite = ascii "rewrite"
command_name command.Dump = ascii "dump"
command_name (command.Poke p) = ascii "poke"

-- the commands of one word, and what may follow `poke`
abbrev pub commands : List Command
commands =
    command.Image ∷ command.Fresh ∷ command.Allocate ∷ command.Write ∷ command.Read ∷ command.Start ∷ command.Step ∷ command.Run ∷ command.Live ∷ command.Rewrite
    ∷ command.Dump ∷ []

abbrev pub pokes : List Poke
pokes = poke.Counter ∷ poke.Next ∷ poke.Running ∷ poke.Var ∷ poke.Unset ∷ poke.Frame ∷ poke.Id ∷ poke.Place ∷ poke.Rvar ∷ poke.Local ∷ poke.Const ∷ []

-- the first of them that has this name
abbrev pub command_named : List ℕ → Option Command
command_named w = find (λ c. bytes_eq (command_name c) w) commands

abbrev pub poke_named : List ℕ → Option Poke
poke_named w = find (λ p. bytes_eq (poke_name p) w) pokes

-- the command that a line names, and the place after its name; or the word that names none
abbrev pub Name : Type 0
Name = Result (Command × ℕ) BadWord

abbrev pub as_poke : Option Poke → Name
as_poke (Some p) = Ok (command.Poke p, 2)
as_poke None = bad 1

abbrev pub as_command : Option Command → Name
as_command (Some c) = Ok (c, 1)
as_command None = bad 0

abbrev pub name_read : List (List ℕ) → Name
name_read ws = pick (same_bytes (get_or ws 0 []) (ascii "poke")) (as_poke (poke_named (get_or ws 1 []))) (as_command (command_named (get_or ws 0 [])))
