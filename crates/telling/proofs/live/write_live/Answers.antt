-- `live::write_live` meets its contract: the columns have as much room as was asked.
use Rattle.telling.proofs.Listing.{live-told}
use Rattle.telling.specs.Listed.{live_line_of}
use Rattle.telling.proofs.live.write_live.Goals as goal

pub returns : goal.returns
unfolding live_line_of
returns c = live-told _ _ _ _ _ c.words_within-n.ensures.value c.write_columns.ensures
