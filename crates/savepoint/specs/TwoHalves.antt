-- A worked run in two parts: both count one key, and the second goes on from the first's count.
use Rattle.std.specs.Prelude.{ℕ, ℤ, pos, List, [], ◌∷◌, false, true, codes}
use Rattle.std.specs.FinMap.{empty, from_entries, insert}
use Rattle.keyed_state.specs.Counts.{Counts}
use Rattle.keyed_state.specs.declared.carry.Carry.TheVariants as carry
use Rattle.jobs.specs.JobView.{JobView, job_view_as}
use Rattle.jobs.specs.declared.column.ColumnKind.TheVariants as kind
use Rattle.jobs.specs.declared.func.Func.{Func}
use Rattle.jobs.specs.declared.func.Func.TheVariants as func
use Rattle.jobs.specs.declared.func.Operand.TheVariants as operand
use Rattle.sink_journal.specs.declared.journal.Entry.TheVariants as entry
use Rattle.sink_journal.specs.declared.journal.Feed.TheVariants as feed
use Rattle.tuple_trace.specs.declared.row.Row.{Row}
use Rattle.tuple_trace.specs.declared.tuple.Tuple.{Tuple}
use Rattle.tuple_trace.specs.declared.tuple.Visit.{Visit}
use Rattle.tuple_trace.specs.declared.value.Value.TheVariants as value
use Rattle.versions.specs.declared.request.Request.{Request}
use Rattle.flow_model.specs.Begin.{Begin}
use Rattle.flow_model.specs.FourPayments.{filter_alone, node_of}
use Rattle.flow_model.specs.SetupView.{SetupView, setup_view_of}
use Rattle.flow_model.specs.Run.{Ran, ran_as}
use Rattle.savepoint.specs.Parts.{first_of}

-- counts names; each raises its count by this number
abbrev pub counting : ℤ → Func
counting by = func.Count (record { key = 0; add = operand.Number by; into = 1 })

-- a source, a count and a sink in a row
abbrev pub tallied : JobView
tallied = job_view_as
    (record { name = codes "name"; kind = kind.Text; own = false }
    ∷ record { name = codes "has_count"; kind = kind.Number; own = true }
    ∷ [])
    (node_of (codes "card") func.Source
    ∷ node_of (codes "tally") (counting (pos 1))
    ∷ node_of (codes "out") (func.Sink (0 ∷ 1 ∷ []))
    ∷ [])
    (record { from = 0; port = 0; to = 1 } ∷ record { from = 1; port = 0; to = 2 } ∷ [])
    []

-- from the second row on each name counts ten
abbrev pub by_ten : Request
by_ten = record {
  after = 1;
  changes = record { node = 1; from = 0; func = counting (pos 10); carry = carry.Keep } ∷ [];
}

abbrev pub tally_setup : SetupView
tally_setup = setup_view_of tallied (by_ten ∷ []) (filter_alone ∷ []) 0 false

-- a row of one name, with the name's count so far
abbrev pub named_row : ℕ → ℤ → ℕ → List Visit → Tuple
named_row row has_count issued trace = record {
  row = row;
  birth = [];
  issued = issued;
  fields = value.Text (codes "ann") ∷ value.Num has_count ∷ [];
  trace = trace;
}

abbrev pub counted_row : ℕ → Row
counted_row number = record { source = 0; tuple = named_row number (pos 0) 0 [] }

abbrev pub two_named_rows : List Row
two_named_rows = counted_row 1 ∷ counted_row 2 ∷ []

-- the row after the count, which was under request `last`
abbrev pub tallied_row : ℕ → ℤ → ℕ → Tuple
tallied_row row has_count last =
    named_row row has_count last (record { node = 1; worker = 0; last = last } ∷ [])

-- the name has this count
abbrev pub has_count : ℤ → Counts
has_count count = insert empty (codes "ann") count

-- the first row, and the request after it
abbrev pub first_half : Ran
first_half = ran_as (first_of tally_setup 1)
    (feed.Fed 1 ∷ feed.Issued 1 ∷ feed.Stopped ∷ [])
    ((entry.Met 0 (named_row 1 (pos 0) 0 []) ∷ entry.Turned 1 ∷ entry.Ended 0 ∷ [])
    ∷ (entry.Met 1 (tallied_row 1 (pos 1) 0) ∷ entry.Ended 1 ∷ [])
    ∷ [])
    (has_count (pos 1) ∷ empty ∷ [])

-- the second row, which raises the name's count to this number
abbrev pub second_to : ℤ → Ran
second_to count = ran_as tally_setup
    (feed.Fed 2 ∷ feed.Stopped ∷ [])
    ((entry.Met 0 (named_row 2 (pos 0) 1 []) ∷ entry.Ended 0 ∷ [])
    ∷ (entry.Met 1 (tallied_row 2 count 1) ∷ entry.Ended 1 ∷ [])
    ∷ [])
    (insert (has_count (pos 1)) (codes "ann") count ∷ empty ∷ [])

abbrev pub second_half : Ran
second_half = second_to (pos 11)

-- both as one
abbrev pub whole : Ran
whole = ran_as tally_setup
    (feed.Fed 1 ∷ feed.Issued 1 ∷ feed.Fed 2 ∷ feed.Stopped ∷ [])
    ((entry.Met 0 (named_row 1 (pos 0) 0 [])
    ∷ entry.Turned 1
    ∷ entry.Met 0 (named_row 2 (pos 0) 1 [])
    ∷ entry.Ended 0
    ∷ [])
    ∷ (entry.Met 1 (tallied_row 1 (pos 1) 0)
    ∷ entry.Met 1 (tallied_row 2 (pos 11) 1)
    ∷ entry.Ended 1
    ∷ [])
    ∷ [])
    (insert (has_count (pos 1)) (codes "ann") (pos 11) ∷ empty ∷ [])

-- ---- records of a savepoint

abbrev pub saved_head : List ℕ → List ℕ → List (List ℕ)
saved_head row turned = codes "fries" ∷ codes "save" ∷ row ∷ turned ∷ []

abbrev pub saved : List ℕ → List ℕ → List ℕ → List ℕ → List (List ℕ)
saved node worker key value = node ∷ worker ∷ key ∷ value ∷ []

-- a record of the counting node's one worker
abbrev pub saved_count : List ℕ → List ℕ → List (List ℕ)
saved_count key value = saved (codes "tally") (codes "0") key value

-- where the second half begins
abbrev pub half_way : Begin
half_way =
    record {
      row = 1;
      turned = 1;
      states = from_entries ((codes "ann", pos 1) ∷ []) ∷ from_entries [] ∷ [];
    }
