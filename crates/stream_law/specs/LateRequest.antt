-- A worked run in two parts, between which a request comes. It waits for the row that the first
-- part has fed, so the second part issues it before its own row.
use Rattle.std.specs.Prelude.{pos, [], ◌∷◌, codes}
use Rattle.std.specs.FinMap.{empty, insert}
use Rattle.sink_journal.specs.declared.journal.Entry.TheVariants as entry
use Rattle.sink_journal.specs.declared.journal.Feed.TheVariants as feed
use Rattle.flow_model.specs.Run.{Ran, ran_as}
use Rattle.flow_model.specs.SetupView.{SetupView}
use Rattle.flow_model.specs.declared.setup.Setup.{Setup}
use Rattle.savepoint.specs.Parts.{first_of}
use Rattle.savepoint.specs.TwoHalves.{
  by_ten,
  named_row,
  counted_row,
  has_count,
  tallied_row,
  tally_setup,
  two_named_rows,
}
use Rattle.stream_law.specs.Stream.{RunPart, SoFar}

-- the first row, without a request
abbrev pub early_half : Ran
early_half = ran_as (first_of tally_setup 0)
    (feed.Fed 1 ∷ feed.Stopped ∷ [])
    ((entry.Met 0 (named_row 1 (pos 0) 0 []) ∷ entry.Ended 0 ∷ [])
    ∷ (entry.Met 1 (tallied_row 1 (pos 1) 0) ∷ entry.Ended 1 ∷ [])
    ∷ [])
    (has_count (pos 1) ∷ empty ∷ [])

-- the request, and then the second row
abbrev pub late_half : Ran
late_half = ran_as tally_setup
    (feed.Issued 1 ∷ feed.Fed 2 ∷ feed.Stopped ∷ [])
    ((entry.Turned 1 ∷ entry.Met 0 (named_row 2 (pos 0) 1 []) ∷ entry.Ended 0 ∷ [])
    ∷ (entry.Met 1 (tallied_row 2 (pos 11) 1) ∷ entry.Ended 1 ∷ [])
    ∷ [])
    (insert (has_count (pos 1)) (codes "ann") (pos 11) ∷ empty ∷ [])

-- what was run before the request came
abbrev pub early_so_far : SoFar
early_so_far =
    record { setup = first_of tally_setup 0; rows = counted_row 1 ∷ []; ran = early_half }

-- the second part, under this setup
abbrev pub late_part : Setup → RunPart
late_part setup = record { setup = setup; rows = two_named_rows; left = late_half }

-- the setup whose request waits for no row
abbrev pub unlifted : SetupView
unlifted = record tally_setup { requests = (record by_ten { after = 0 }) ∷ [] }
