-- What the audit of a stream tells of its parts, and what it tells of all of them as one run.
use Rattle.std.specs.Prelude.{◌≡◌, ◌++◌, ℕ, All, List, [], ◌∷◌, length, map}
use Rattle.std.specs.FinMap.{entries}
use Rattle.std.specs.List.{flat_map, zip}
use Rattle.jobs.specs.JobView.{JobView}
use Rattle.jobs.specs.Nodes.{worker_count}
use Rattle.keyed_state.specs.Counts.{Counts}
use Rattle.sink_journal.specs.Audit.{audit_records}
use Rattle.sink_journal.specs.declared.audit.Noted.{Noted}
use Rattle.sink_journal.specs.declared.journal.Entry.{Entry}
use Rattle.sink_journal.specs.declared.journal.Feed.{Feed}
use Rattle.sink_journal.specs.declared.journal.Feed.TheVariants as feed
use Rattle.savepoint.specs.Parts.{joined_journal, unstopped}

-- What an audit tells of a part: the refused requests, the feed, and each worker's journal and
-- counts.
pub record PartTold : Type 0 where
  pub refused : List Noted
  pub feeds : List Feed
  pub journals : List (List Entry)
  pub states : List Counts

-- the records of a part
abbrev pub part_records : JobView → PartTold → List (List (List ℕ))
part_records job part = audit_records job part.refused part.feeds part.journals part.states

-- a part, followed by a later one, as one part
abbrev pub told_with : PartTold → PartTold → PartTold
told_with part later = record {
  refused = part.refused ++ later.refused;
  feeds = unstopped part.feeds ++ later.feeds;
  journals = map joined_journal (zip part.journals later.journals);
  states = later.states;
}

-- a part, followed by later ones, as one part
abbrev pub told_after : PartTold → List PartTold → PartTold
told_after part [] = part
told_after part (later ∷ more) = told_after (told_with part later) more

-- earlier parts and the last one, as one part
abbrev pub told_in_all : List PartTold → PartTold → PartTold
told_in_all [] last = last
told_in_all (first ∷ earlier) last = told_with (told_after first earlier) last

-- the records of parts, one part after another
abbrev pub parts_records : JobView → List PartTold → List (List (List ℕ))
parts_records job parts = flat_map (part_records job) parts

-- each worker has a journal and counts
abbrev pub HasEach : JobView → PartTold → Type 0
HasEach job part =
    (length part.journals ≡ worker_count job.nodes)
    × (length part.states ≡ worker_count job.nodes)

-- a part before the last one: nothing is counted in it
abbrev pub IsEarlier : JobView → PartTold → Type 0
IsEarlier job part =
    HasEach job part × All (λ (counts : Counts). entries counts ≡ []) part.states

-- the last part: its feed has one stop, as its last step
abbrev pub IsLast : JobView → PartTold → Type 0
IsLast job part = HasEach job part × (part.feeds ≡ unstopped part.feeds ++ feed.Stopped ∷ [])
