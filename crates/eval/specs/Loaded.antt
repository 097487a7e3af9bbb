-- The items of an image that was loaded, by the loader's tables.
use Rattle.std.specs.Prelude.{ℕ, List, [], get_or, take, Result, Ok, Err}
use Rattle.image.specs.Parse.{Got}
use Rattle.eval.specs.declared.entry.Extent.{Extent}
use Rattle.image.specs.declared.number.Stop.{Stop}
use Rattle.loader.specs.Tables.{loaded_from}
use Rattle.loader.specs.declared.load.Loaded.{Loaded}
use Rattle.decode.specs.Extents.{extent, extents_at}
use Rattle.step.specs.Items.{Items, items}

-- a constant's start and length, as the code has them
abbrev pub extent_of : Got ℕ → Extent
extent_of g = record { start = get_or (extent g) 0 0; count = get_or (extent g) 1 0 }

-- the items that the loader's tables name
abbrev pub items_in : (bytes : List ℕ) → Loaded → Items
items_in s l =
    items s
    (take l.instructions l.places)
    (take l.counts.blocks l.labels)
    (take l.counts.functions l.functions)
    (extents_at s (take l.counts.constants l.constants))

-- none where it was refused
abbrev pub items_from : (bytes : List ℕ) → Result Loaded Stop → Items
items_from s (Ok l) = items_in s l
items_from s (Err e) = items s [] [] [] []

abbrev pub items_of : List ℕ → Items
items_of s = items_from s (loaded_from s)
