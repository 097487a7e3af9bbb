-- "`lir check IMAGE`": one line, what loading answers.
use mathlib.Core.List.{flatten}
use Rattle.std.specs.Prelude.{length}
use Rattle.value.specs.Refusal.{number_of}
use Rattle.image.specs.Parse.{Got, took, refused}
use Rattle.image.specs.Image.{Image}
use Rattle.answers.specs.Lines.{Pieces, image_refused_line, taken_line}

-- "`taken variables V constants C functions F blocks B instructions I`, or `image refused NUMBER at PLACE`"
abbrev pub checked_line : Got Image → Pieces
checked_line (took i end) = taken_line i.variables (length i.constants) (length i.functions) (length i.blocks) (length (flatten i.blocks))
checked_line (refused why place) = image_refused_line (number_of why) place
