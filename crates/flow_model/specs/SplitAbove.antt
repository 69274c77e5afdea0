-- A worked run over several ways: a split above the changed node makes pieces, which go two ways
-- and meet again.
use Rattle.std.specs.Prelude.{◌-◌, ◌++◌, ℕ, List, [], ◌∷◌, false, codes, replicate}
use Rattle.std.specs.FinMap.{empty}
use Rattle.cover_planner.specs.declared.cover.Plan.{Plan}
use Rattle.keyed_state.specs.declared.carry.Carry.TheVariants as carry
use Rattle.jobs.specs.JobView.{JobView, job_view_as}
use Rattle.jobs.specs.declared.column.ColumnKind.TheVariants as kind
use Rattle.jobs.specs.declared.func.Func.{Func}
use Rattle.jobs.specs.declared.func.Func.TheVariants as func
use Rattle.jobs.specs.declared.func.Test.TheVariants as test
use Rattle.sink_journal.specs.declared.journal.Entry.{Entry}
use Rattle.sink_journal.specs.declared.journal.Entry.TheVariants as entry
use Rattle.sink_journal.specs.declared.journal.Feed.TheVariants as feed
use Rattle.tuple_trace.specs.declared.row.Row.{Row}
use Rattle.tuple_trace.specs.declared.tuple.Tuple.{Tuple}
use Rattle.tuple_trace.specs.declared.tuple.Visit.{Visit}
use Rattle.tuple_trace.specs.declared.value.Value.TheVariants as value
use Rattle.versions.specs.declared.request.Request.{Request}
use Rattle.flow_model.specs.declared.landing.Landing.{Landing}
use Rattle.flow_model.specs.FourPayments.{node_of}
use Rattle.flow_model.specs.SetupView.{SetupView, setup_view_of}
use Rattle.flow_model.specs.Run.{Ran, ran_as}

-- tuples with these tags pass
abbrev pub tagged : List ℕ → Func
tagged tags = func.Filter (record { column = 0; test = test.Eq; literal = value.Text tags } ∷ [])

abbrev pub at_semicolons : Func
at_semicolons = func.Split (record { on = 0; by = 59; most = 2 })

-- a source, a split, a filter that parts the pieces, a map on either way, a filter where the ways
-- meet, and a sink
abbrev pub two_ways : JobView
two_ways = job_view_as
    (record { name = codes "tags"; kind = kind.Text; own = false } ∷ [])
    (node_of (codes "card") func.Source
    ∷ node_of (codes "s") at_semicolons
    ∷ node_of (codes "g") (tagged (codes "a"))
    ∷ node_of (codes "x") (func.Map [])
    ∷ node_of (codes "y") (func.Map [])
    ∷ node_of (codes "m") (func.Filter [])
    ∷ node_of (codes "out") (func.Sink (0 ∷ []))
    ∷ [])
    (record { from = 0; port = 0; to = 1 }
    ∷ record { from = 1; port = 0; to = 2 }
    ∷ record { from = 2; port = 0; to = 3 }
    ∷ record { from = 2; port = 1; to = 4 }
    ∷ record { from = 3; port = 0; to = 5 }
    ∷ record { from = 4; port = 0; to = 5 }
    ∷ record { from = 5; port = 0; to = 6 }
    ∷ [])
    []

-- from the second row on, only pieces `b` pass where the ways meet
abbrev pub b_alone : Request
b_alone = record {
  after = 1;
  changes = record {
    node = 5;
    from = 0;
    func = tagged (codes "b");
    carry = carry.Keep;
  } ∷ [];
}

-- all nodes from the split on are covered, and the split is the head
abbrev pub from_the_split : Plan
from_the_split = record {
  asked = 32;
  members = 34;
  nodes = 62;
  edges = 62;
  heads = 2;
  part = 255 ∷ (replicate 5 0 ++ replicate 58 255);
}

abbrev pub split_setup : SetupView
split_setup = setup_view_of two_ways (b_alone ∷ []) (from_the_split ∷ []) 2 false

abbrev pub row_of : ℕ → Row
row_of number = record {
  source = 0;
  tuple = record {
    row = number;
    birth = [];
    issued = 0;
    fields = value.Text (codes "a;b") ∷ [];
    trace = [];
  };
}

-- two rows of two pieces each
abbrev pub two_rows : List Row
two_rows = row_of 1 ∷ row_of 2 ∷ []

-- the trace of a tuple that was at these nodes, where the latest request turned was this one
abbrev pub been_at : ℕ → List ℕ → List Visit
been_at last [] = []
been_at last (node ∷ nodes) = record { node = node; worker = 0; last = last } ∷ been_at last nodes

abbrev pub fed_row : ℕ → Tuple
fed_row row = record {
  row = row;
  birth = [];
  issued = row - 1;
  fields = value.Text (codes "a;b") ∷ [];
  trace = [];
}

-- a piece of a row; the second row was fed under the request, and met every node after its turn
abbrev pub piece : ℕ → ℕ → List ℕ → List ℕ → Tuple
piece row number tags nodes =
    record {
      row = row;
      birth = number ∷ [];
      issued = row - 1;
      fields = value.Text tags ∷ [];
      trace = been_at (row - 1) nodes;
    }

abbrev pub piece_a : ℕ → List ℕ → Tuple
piece_a row nodes = piece row 0 (codes "a") nodes

abbrev pub piece_b : ℕ → List ℕ → Tuple
piece_b row nodes = piece row 1 (codes "b") nodes

-- the journals, node by node
abbrev pub by_s : List Entry
by_s = entry.Met 0 (fed_row 1) ∷ entry.Turned 1 ∷ entry.Met 0 (fed_row 2) ∷ entry.Ended 0 ∷ []

abbrev pub by_g : List Entry
by_g =
    entry.Met 1 (piece_a 1 (1 ∷ [])) ∷ entry.Met 1 (piece_b 1 (1 ∷ [])) ∷ entry.Marked 1 1
    ∷ entry.Turned 1
    ∷ entry.Met 1 (piece_a 2 (1 ∷ [])) ∷ entry.Met 1 (piece_b 2 (1 ∷ [])) ∷ entry.Ended 1 ∷ []

abbrev pub by_x : List Entry
by_x =
    entry.Met 2 (piece_a 1 (1 ∷ 2 ∷ [])) ∷ entry.Marked 2 1 ∷ entry.Turned 1 ∷ entry.Met 2
    (piece_a 2 (1 ∷ 2 ∷ [])) ∷ entry.Ended 2 ∷ []

abbrev pub by_y : List Entry
by_y =
    entry.Met 3 (piece_b 1 (1 ∷ 2 ∷ [])) ∷ entry.Marked 3 1 ∷ entry.Turned 1 ∷ entry.Met 3
    (piece_b 2 (1 ∷ 2 ∷ [])) ∷ entry.Ended 3 ∷ []

abbrev pub by_m : List Entry
by_m =
    entry.Met 4 (piece_a 1 (1 ∷ 2 ∷ 3 ∷ [])) ∷ entry.Met 5 (piece_b 1 (1 ∷ 2 ∷ 4 ∷ []))
    ∷ entry.Marked 4 1 ∷ entry.Marked 5 1 ∷ entry.Turned 1
    ∷ entry.Met 4 (piece_a 2 (1 ∷ 2 ∷ 3 ∷ [])) ∷ entry.Met 5 (piece_b 2 (1 ∷ 2 ∷ 4 ∷ []))
    ∷ entry.Ended 4 ∷ entry.Ended 5 ∷ []

abbrev pub at_out : Tuple → Tuple → Tuple → List Entry
at_out first second third = entry.Met 6 first ∷ entry.Met 6 second ∷ entry.Met 6 third
    ∷ entry.Ended 6 ∷ []

abbrev pub by_out : List Entry
by_out = at_out (piece_a 1 (1 ∷ 2 ∷ 3 ∷ 5 ∷ [])) (piece_b 1 (1 ∷ 2 ∷ 4 ∷ 5 ∷ []))
    (piece_b 2 (1 ∷ 2 ∷ 4 ∷ 5 ∷ []))

abbrev pub ran_with : List Entry → Ran
ran_with last = ran_as split_setup
    (feed.Fed 1 ∷ feed.Issued 1 ∷ feed.Fed 2 ∷ feed.Stopped ∷ [])
    (by_s ∷ by_g ∷ by_x ∷ by_y ∷ by_m ∷ last ∷ [])
    (replicate 6 empty)

abbrev pub split_ran : Ran
split_ran = ran_with by_out

-- the same, but one item of the lane to the sink is exchanged: the piece `a` of the second row in
-- place of its piece `b`
abbrev pub exchanged_ran : Ran
exchanged_ran = ran_with (at_out (piece_a 1 (1 ∷ 2 ∷ 3 ∷ 5 ∷ [])) (piece_b 1 (1 ∷ 2 ∷ 4 ∷ 5 ∷ []))
    (piece_a 2 (1 ∷ 2 ∷ 3 ∷ 5 ∷ [])))

-- what comes to the sink of the two rows: both pieces of the first, and the piece `b` of the second
abbrev pub landed : ℕ → List ℕ → Landing
landed row tags = record { sink = 6; row = row; fields = value.Text tags ∷ [] }

abbrev pub split_landings : List Landing
split_landings = landed 1 (codes "a") ∷ landed 1 (codes "b") ∷ landed 2 (codes "b") ∷ []
