-- A worked run: four payments, and a filter whose threshold falls after the second.
use Rattle.std.specs.Prelude.{ℕ, ℤ, pos, List, [], ◌∷◌, false, codes, replicate}
use Rattle.std.specs.FinMap.{empty}
use Rattle.cover_planner.specs.declared.cover.Plan.{Plan}
use Rattle.keyed_state.specs.declared.carry.Carry.TheVariants as carry
use Rattle.jobs.specs.Nodes.{fan_out}
use Rattle.jobs.specs.JobView.{JobView, job_view_as}
use Rattle.jobs.specs.declared.column.ColumnKind.TheVariants as kind
use Rattle.jobs.specs.declared.func.Func.{Func}
use Rattle.jobs.specs.declared.func.Func.TheVariants as func
use Rattle.jobs.specs.declared.func.NodeDef.{NodeDef}
use Rattle.jobs.specs.declared.func.Test.TheVariants as test
use Rattle.sink_journal.specs.declared.journal.Entry.{Entry}
use Rattle.sink_journal.specs.declared.journal.Entry.TheVariants as entry
use Rattle.sink_journal.specs.declared.journal.Feed.TheVariants as feed
use Rattle.tuple_trace.specs.declared.row.Row.{Row}
use Rattle.tuple_trace.specs.declared.tuple.Tuple.{Tuple}
use Rattle.tuple_trace.specs.declared.tuple.Visit.{Visit}
use Rattle.tuple_trace.specs.declared.value.Value.TheVariants as value
use Rattle.versions.specs.declared.request.Request.{Request}
use Rattle.flow_model.specs.SetupView.{SetupView, Worker, setup_view_of}
use Rattle.flow_model.specs.Run.{Ran, ran_as}

-- a node with one worker
abbrev pub node_of : List ℕ → Func → NodeDef
node_of name func = record { name = name; func = func; workers = 1; roof = fan_out func }

-- payments from this amount on pass
abbrev pub at_least : ℤ → Func
at_least least = func.Filter (record { column = 0; test = test.Ge; literal = value.Num least } ∷ [])

-- a source, a filter and a sink in a row
abbrev pub chain : JobView
chain = job_view_as
    (record { name = codes "amount"; kind = kind.Cents; own = false } ∷ [])
    (node_of (codes "card") func.Source ∷ node_of (codes "big") (at_least (pos 10000)) ∷ node_of
    (codes "alerts") (func.Sink (0 ∷ [])) ∷ [])
    (record { from = 0; port = 0; to = 1 } ∷ record { from = 1; port = 0; to = 2 } ∷ [])
    []

-- the threshold falls after a row
abbrev pub falls_after : ℕ → Request
falls_after row = record {
  after = row;
  changes =
      record { node = 1; from = 0; func = at_least (pos 5000); carry = carry.Keep } ∷ [];
}

-- the filter alone is covered, and is its own head
abbrev pub filter_alone : Plan
filter_alone = record {
  asked = 2;
  members = 2;
  nodes = 2;
  edges = 0;
  heads = 2;
  part = 255 ∷ 0 ∷ replicate 62 255;
}

abbrev pub four_setup : SetupView
four_setup = setup_view_of chain (falls_after 2 ∷ []) (filter_alone ∷ []) 0 false

-- the worker of the filter
abbrev pub filter_worker : Worker
filter_worker = record { number = 0; node = 1; place = 0; func = at_least (pos 10000) }

-- a payment that was fed under `issued` requests, with this trace
abbrev pub payment : ℕ → ℤ → ℕ → List Visit → Tuple
payment row cents issued trace = record {
  row = row;
  birth = [];
  issued = issued;
  fields = value.Num cents ∷ [];
  trace = trace;
}

abbrev pub row_of : ℕ → ℤ → Row
row_of number cents = record { source = 0; tuple = payment number cents 0 [] }

abbrev pub four_payments : List Row
four_payments = row_of 1 (pos 9999) ∷ row_of 2 (pos 10000) ∷ row_of 3 (pos 5000) ∷ row_of 4
    (pos 12000) ∷ []

-- a payment that the filter has passed
abbrev pub passed : ℕ → ℤ → ℕ → Tuple
passed row cents request = payment row cents request
    (record { node = 1; worker = 0; last = request } ∷ [])

-- the filter meets a payment, and the sink does
abbrev pub big_meets : ℕ → ℤ → ℕ → Entry
big_meets row cents request = entry.Met 0 (payment row cents request [])

abbrev pub alerts_meets : ℕ → ℤ → ℕ → Entry
alerts_meets row cents request = entry.Met 1 (passed row cents request)

abbrev pub big : List Entry
big =
    big_meets 1 (pos 9999) 0 ∷ big_meets 2 (pos 10000) 0 ∷ entry.Turned 1
    ∷ big_meets 3 (pos 5000) 1 ∷ big_meets 4 (pos 12000) 1 ∷ entry.Ended 0 ∷ []

abbrev pub alerts : List Entry
alerts = alerts_meets 2 (pos 10000) 0 ∷ alerts_meets 3 (pos 5000) 1 ∷ alerts_meets 4 (pos 12000) 1
    ∷ entry.Ended 1 ∷ []

abbrev pub four_ran : Ran
four_ran = ran_as four_setup
    (feed.Fed 1 ∷ feed.Fed 2 ∷ feed.Issued 1 ∷ feed.Fed 3 ∷ feed.Fed 4 ∷ feed.Stopped ∷ [])
    (big ∷ alerts ∷ [])
    (empty ∷ empty ∷ [])

-- the same journal with the turn one entry later
abbrev pub late_big : List Entry
late_big =
    big_meets 1 (pos 9999) 0 ∷ big_meets 2 (pos 10000) 0 ∷ big_meets 3 (pos 5000) 1
    ∷ entry.Turned 1 ∷ big_meets 4 (pos 12000) 1 ∷ entry.Ended 0 ∷ []

-- the same run, but the sink never met the third payment
abbrev pub short_ran : Ran
short_ran = record four_ran {
  journals = big ∷
      (alerts_meets 2 (pos 10000) 0 ∷ alerts_meets 4 (pos 12000) 1 ∷ entry.Ended 1 ∷ []) ∷ [];
}
