-- The commands by name: the word, and what it is found as; apart from the names and lists that `name_read` searches, so that it tells
-- where a command is left out there or two names change places.
use Rattle.std.specs.Prelude.{ℕ, List, [], ◌∷◌}
use Rattle.words.specs.Ascii.{ascii}
use Rattle.commands.specs.declared.command.Command.{Command}
use Rattle.commands.specs.declared.command.Command.TheVariants as command
use Rattle.commands.specs.declared.command.Poke.{Poke}
use Rattle.commands.specs.declared.command.Poke.TheVariants as poke

pub record Named (A : Type 0) : Type 0 where
  pub word : List ℕ
  pub what : A

abbrev named : {A : Type 0} → List ℕ → A → Named A
named w x = record { word = w; what = x }

abbrev pub commands : List (Named Command)
commands =
    named (ascii "image") command.Image ∷ named (ascii "fresh") command.Fresh ∷ named (ascii "allocate") command.Allocate ∷ named (ascii "write") command.Write
    ∷ named (ascii "read") command.Read ∷ named (ascii "start") command.Start ∷ named (ascii "step") command.Step ∷ named (ascii "run") command.Run
    ∷ named (ascii "live") command.Live ∷ named (ascii "rewrite") command.Rewrite ∷ named (ascii "dump") command.Dump ∷ []

-- after `poke`
abbrev pub pokes : List (Named Poke)
pokes =
    named (ascii "counter") poke.Counter ∷ named (ascii "next") poke.Next ∷ named (ascii "running") poke.Running ∷ named (ascii "var") poke.Var
    ∷ named (ascii "unset") poke.Unset ∷ named (ascii "frame") poke.Frame ∷ named (ascii "id") poke.Id ∷ named (ascii "place") poke.Place
    ∷ named (ascii "rvar") poke.Rvar ∷ named (ascii "local") poke.Local ∷ named (ascii "const") poke.Const ∷ []
