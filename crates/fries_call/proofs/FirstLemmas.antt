-- The run of `first`: its one request is accepted, and the filter met each row on its side of the turn.
use Rattle.std.proofs.Common.{◌≡◌, ◌∙◌, ◌<◌, ◌≤◌, ◌+◌, ◌-◌, ◌%◌, ◌++◌, ◌∷◌, ◌||◌, [], inl, inr, ℕ, ℤ, zero, suc, Bool, true, false, cond, List, Option, None, Some, add-one, ap, arith, length, ltb, min, refl, sym, subst, slice_get}
use Rattle.std.specs.Prelude.{All, ◌==◌, nat_le}
use Rattle.std.specs.List.{list_any}
use Rattle.std.proofs.lemmas.Bool.{cases_eq, eq-eqb, le-ltb, ne_eqb, or_right}
use Rattle.std.proofs.lemmas.List.Elements.{All-weaker}
use Rattle.std.proofs.lemmas.List.Folds.{list_any_none}
use Rattle.jobs.specs.Nodes.{AreFromSources, IsSourceOf}
use Rattle.jobs.specs.JobView.{JobView}
use Rattle.sink_journal.specs.declared.journal.Entry.{Entry}
use Rattle.sink_journal.specs.declared.journal.Entry.TheVariants as entry
use Rattle.sink_journal.specs.declared.journal.Feed.TheVariants as feed
use Rattle.tuple_trace.specs.Rows.{AreRows}
use Rattle.tuple_trace.specs.declared.tuple.Item.{Item}
use Rattle.tuple_trace.specs.declared.tuple.Item.TheVariants as item
use Rattle.tuple_trace.specs.declared.row.Row.{Row}
use Rattle.tuple_trace.specs.declared.tuple.Tuple.{Tuple}
use Rattle.versions.specs.Judged.{judged, judged_from}
use Rattle.versions.specs.Judging.{first_with}
use Rattle.flow_model.specs.Lanes.{lane_of}
use Rattle.flow_model.specs.declared.topology.Lane.{Lane}
use Rattle.flow_model.specs.SetupView.{SetupView, setup_view_of}
use Rattle.cover_planner.specs.declared.cover.Plan.{Plan}
use Rattle.keyed_state.specs.Counts.{Counts}
use Rattle.sink_journal.specs.declared.journal.Feed.{Feed}
use Rattle.flow_model.specs.Begin.{at_first}
use Rattle.flow_model.specs.Covers.{covers, plan_of}
use Rattle.flow_model.specs.Record.{record_view}
use Rattle.flow_model.specs.Requests.{changes}
use Rattle.flow_model.specs.Setup.{setup_view}
use Rattle.flow_model.specs.Feeding.{fed, fed_put, fed_puts, fed_tuple, feed_after, issued_after, row_numbered}
use Rattle.flow_model.specs.Replay.{items_on, marker_by, shown}
use Rattle.flow_model.specs.Run.{IsRunFrom, ran_as}
use Rattle.flow_model.specs.Whole.{after_turn, before_turn, meets_row, met_tuples}
use Rattle.flow_model.proofs.ElementLemmas.{at_of_all, in_of_place}
use Rattle.flow_model.proofs.PlannedLemmas.{has_covers}
use Rattle.flow_model.proofs.WorkerLemmas.{item_at}
use Rattle.flow_replay.specs.Order.{IsInOrder}
use Rattle.payments.specs.Files.{Files}
use Rattle.versions.specs.declared.in_order.Judged.{Judged}
use Rattle.versions.specs.declared.request.Request.{Request}
use Rattle.fries_words.specs.Asked.{FirstAsked}
use Rattle.fries_call.specs.First.{IsRunOfFirst, TurnsAfterRow}
use Rattle.fries_steps.specs.FirstJob.{is_at_least, first_job, first_request}
use Rattle.fries_steps.specs.SetupFor.{AreSame}
use Rattle.fries_steps.specs.Reading.{AreRowsOf}
use Rattle.fries_steps.specs.Running.{IsRunOf}
use Rattle.fries_steps.specs.declared.running.Done.{Done}

-- ---- its request

-- no row comes before row 0, so the request is accepted
pub judged_first : (least : ℤ) (after : ℕ) (next : ℤ) →
    judged (first_job least) (first_request after next ∷ []) ≡ record { accepted = first_request after next ∷ []; refused = [] }
unfolding judged_from first_with
judged_first least after next = let early : ltb after 0 ≡ false = le-ltb after 0 (omega arith) in rw early refl

-- ---- the lane into the filter

abbrev into_big : Lane
into_big = record { edge = 0; sender = None; receiver = 0 }

-- every row enters by it
enters : (least : ℤ) (source : ℕ) (tuple : Tuple) → IsSourceOf (first_job least) source → lane_of (first_job least) None source 0 tuple ≡ Some into_big
enters least zero tuple is = let one : tuple.row % 1 ≡ 0 = omega arith in rw one refl
enters least (suc zero) tuple is = absurd (cc)
enters least (suc (suc zero)) tuple is = absurd (cc)
enters least (suc (suc (suc node))) tuple is = absurd (cc)

-- ---- rows that come by it

-- the item is a tuple of the row
abbrev is_of : ℕ → Item → Bool
is_of row (item.Carry tuple) = tuple.row == row
is_of row (item.Mark request cover) = false
is_of row item.Last = false

-- a tuple of the row is among the items
abbrev comes : ℕ → List Item → Bool
comes row items = list_any (is_of row) items

or_assoc : (a b c : Bool) → a || (b || c) ≡ (a || b) || c
or_assoc true b c = refl
or_assoc false b c = refl

comes-append : (row : ℕ) (items later : List Item) → comes row (items ++ later) ≡ comes row items || comes row later
comes-append row [] later = refl
comes-append row (item ∷ items) later =
    ap (λ (b : Bool). is_of row item || b) (comes-append row items later) ∙ or_assoc (is_of row item) (comes row items) (comes row later)

-- what shows no tuple adds no row
shows_none : (setup : SetupView) (row : ℕ) (b : Bool) (plan : Option Plan) (request : ℕ) (later : List Item) →
    comes row (cond b (marker_by request plan) [] ++ later) ≡ true → comes row later ≡ true
shows_none setup row true None request later come = come
shows_none setup row true (Some plan) request later come = come
shows_none setup row false plan request later come = come

-- a tuple that came by the lane was met
comes_met : (setup : SetupView) (row : ℕ) (journal : List Entry) → comes row (shown setup 0 journal) ≡ true → meets_row row journal ≡ true
comes_met setup row [] come = absurd (cc)
comes_met setup row (entry.Met from tuple ∷ later) come = go (from == 0) (tuple.row == row) (comes_met setup row later) come
  where
    go : (b same : Bool) → (comes row (shown setup 0 later) ≡ true → meets_row row later ≡ true)
        → comes row (cond b (item.Carry tuple ∷ []) [] ++ shown setup 0 later) ≡ true → (tuple.row == row) || meets_row row later ≡ true
    go true same met come = both (tuple.row == row) come
      where
        both : (b : Bool) → b || comes row (shown setup 0 later) ≡ true → b || meets_row row later ≡ true
        both true come = refl
        both false come = met come
    go false same met come = or_right (tuple.row == row) (meets_row row later) (met come)
comes_met setup row (entry.Marked from request ∷ later) come =
    comes_met setup row later (shows_none setup row (from == 0) (plan_of setup request) request (shown setup 0 later) come)
comes_met setup row (entry.Turned request ∷ later) come = comes_met setup row later come
comes_met setup row (entry.Ended from ∷ later) come = comes_met setup row later (go (from == 0) come)
  where
    go : (b : Bool) → comes row (cond b (item.Last ∷ []) [] ++ shown setup 0 later) ≡ true → comes row (shown setup 0 later) ≡ true
    go true come = come
    go false come = come

row_next : (rows : List Row) (place : ℕ) → row_numbered rows (place + 1) ≡ slice_get rows place
row_next rows place = rw add-one refl

-- what a feed with so many rows left, after a row, puts on the lane holds the later rows
module _ (least : ℤ) (rows : List Row) (are : AreRows rows) (sources : AreFromSources (first_job least) rows) (after total : ℕ) where
  abbrev feed_left : ℕ → ℕ → List Feed
  feed_left place left = feed_after (after ∷ []) 1 place total left

  abbrev Come : ℕ → ℕ → List Feed → Type 0
  Come row issued feeds = comes row (fed (first_job least) rows issued into_big feeds) ≡ true

  -- an issued request keeps nothing back
  past_issued : (row : ℕ) (b : Bool) (feeds : List Feed) → ((issued : ℕ) → Come row issued feeds) → (issued : ℕ) → Come row issued (cond b (feed.Issued 1 ∷ []) [] ++ feeds)
  past_issued row true feeds come issued = come (issued + 1)
  past_issued row false feeds come issued = come issued

  rows_come : (left place row : ℕ) → place + left ≡ length rows → place < row → row ≤ place + left → (issued : ℕ) → Come row issued (feed_left place left)
  rows_come zero place row whole above below issued = absurd (omega arith)
  rows_come (suc left) place row whole above below issued =
      let (now, at) = item_at rows place (omega arith) in
      let here : row_numbered rows (place + 1) ≡ Some now = row_next rows place ∙ at in
      let source = at_of_all (λ (r : Row). IsSourceOf (first_job least) r.source) now rows sources (in_of_place now rows place at) in
      let way = enters least now.source now.tuple source in
      let number = (are place now at).numbered in
      let later = issued_after (place + 1) total 1 (after ∷ []) ++ feed_left (place + 1) left in
      let rest : List Item = fed (first_job least) rows issued into_big later in
      let come : (now.tuple.row == row) || comes row rest ≡ true =
      elim (cases_eq now.tuple.row row) [
        | inl same ↦ rw (eq-eqb now.tuple.row row same) refl
        | inr other ↦ or_right (now.tuple.row == row) (comes row rest)
            (past_issued row (min after total == place + 1) (feed_left (place + 1) left)
            (rows_come left (place + 1) row (omega arith) (omega (arith, number, other)) (omega arith)) issued)
      ] in
      subst (λ (o : Option Row). comes row (items_on into_big (fed_put (first_job least) issued o ++ fed_puts (first_job least) rows issued later)) ≡ true) (sym here)
      (subst (λ (lane : Option Lane). comes row (items_on into_big (record { lane = lane; item = item.Carry (fed_tuple issued now) } ∷ fed_puts (first_job least) rows issued later)) ≡ true) (sym way)
      come)

-- ---- before and after a turn

-- a row that was met was met before the turn or after it
met_somewhere : (request row : ℕ) (journal : List Entry) → meets_row row journal ≡ meets_row row (before_turn request journal) || meets_row row (after_turn request journal)
met_somewhere request row [] = refl
met_somewhere request row (entry.Met lane tuple ∷ later) =
    ap (λ (b : Bool). (tuple.row == row) || b) (met_somewhere request row later)
    ∙ or_assoc (tuple.row == row) (meets_row row (before_turn request later)) (meets_row row (after_turn request later))
met_somewhere request row (entry.Marked lane marked ∷ later) = met_somewhere request row later
met_somewhere request row (entry.Turned turned ∷ later) = go (turned == request) (met_somewhere request row later)
  where
    go : (b : Bool) → meets_row row later ≡ meets_row row (before_turn request later) || meets_row row (after_turn request later)
        → meets_row row later ≡ meets_row row (cond b [] (entry.Turned turned ∷ before_turn request later)) || meets_row row (cond b later (after_turn request later))
    go true met = refl
    go false met = met
met_somewhere request row (entry.Ended lane ∷ later) = met_somewhere request row later

-- where no tuple is of the row, the row isn't met
unmet : (row : ℕ) (P : Tuple → Type 0) (journal : List Entry) → ((tuple : Tuple) → P tuple → tuple.row ≡ row → ⊥) → All P (met_tuples journal) → meets_row row journal ≡ false
unmet row P journal other are =
    list_any_none (λ (tuple : Tuple). tuple.row == row) (met_tuples journal)
    (All-weaker P (λ (tuple : Tuple). (tuple.row == row) ≡ false) (λ tuple p. ne_eqb tuple.row row (other tuple p)) (met_tuples journal) are)

or_first : (a b : Bool) → a || b ≡ true → b ≡ false → a ≡ true
or_first true b is none = refl
or_first false b is none = absurd (cc)

or_second : (a b : Bool) → a || b ≡ true → a ≡ false → b ≡ true
or_second true b is none = absurd (cc)
or_second false b is none = is

-- ---- the run

-- in a run of its job and its request the filter turns between the rows up to `after` and the later ones
turns : (least : ℤ) (after : ℕ) (next : ℤ) (rows : List Row) → AreRows rows → AreFromSources (first_job least) rows →
    (plans : List Plan) (splits : ℕ) (ordered : Bool) (feeds : List Feed) (journals : List (List Entry)) (states : List Counts) →
    let setup = setup_view_of (first_job least) (first_request after next ∷ []) plans splits ordered in
    let ran = ran_as setup feeds journals states in
    covers setup 1 1 ≡ true → IsRunFrom (at_first setup) rows ran → IsInOrder (length rows) ran →
    (journal : List Entry) → slice_get journals 0 ≡ Some journal → TurnsAfterRow journal 1 after (length rows)
turns least after next rows are sources plans splits ordered feeds journals states covered run order journal at =
    let job = first_job least in
    let setup = setup_view_of job (first_request after next ∷ []) plans splits ordered in
    let total : ℕ = length rows in
    let turned = order 0 (record { number = 0; node = 1; place = 0; func = is_at_least least }) journal refl at 1 covered in
    let shows : fed job rows 0 into_big feeds ++ item.Last ∷ [] ≡ shown setup 0 journal = (let tie = run.conserved 0 into_big journal refl at in cc) in
    let come : (row : ℕ) → 0 < row → row ≤ total → comes row (fed job rows 0 into_big feeds) ≡ true =
    λ row some within. subst (λ (f : List Feed). comes row (fed job rows 0 into_big f) ≡ true) (sym run.feed)
    (past_issued least rows are sources after total row (nat_le (min after total) 0) (feed_after (after ∷ []) 1 0 total (total - 0))
    (rows_come least rows are sources after total (total - 0) 0 row (omega arith) some (omega arith)) 0) in
    let met : (row : ℕ) → 0 < row → row ≤ total → meets_row row (before_turn 1 journal) || meets_row row (after_turn 1 journal) ≡ true =
    λ row some within. sym (met_somewhere 1 row journal) ∙ comes_met setup row journal (subst (λ (items : List Item). comes row items ≡ true) shows
    (comes-append row (fed job rows 0 into_big feeds) (item.Last ∷ []) ∙ ap (λ (b : Bool). b || comes row (item.Last ∷ [])) (come row some within))) in
    record {
      old = λ row some within early.
          let none : meets_row row (after_turn 1 journal) ≡ false =
          unmet row (λ (tuple : Tuple). tuple.row ≤ min after total → ⊥) (after_turn 1 journal) (λ tuple late same. late (omega (arith, same, within, early))) turned.after in
          record { before = or_first (meets_row row (before_turn 1 journal)) (meets_row row (after_turn 1 journal)) (met row (omega arith) within) none; after = none };
      new = λ row within late.
          let none : meets_row row (before_turn 1 journal) ≡ false =
          unmet row (λ (tuple : Tuple). tuple.row ≤ min after total) (before_turn 1 journal) (λ tuple early same. absurd (omega (arith, same, early, late))) turned.before in
          record { before = none; after = or_second (meets_row row (before_turn 1 journal)) (meets_row row (after_turn 1 journal)) (met row (omega arith) within) none };
    }

pub first_runs : (asked : FirstAsked) (files : Option Files) (rows : List Row) (done : Done) → AreRowsOf files asked.payments (first_job asked.least) rows →
    AreRows rows → AreFromSources (first_job asked.least) rows → IsRunOf AreSame false (first_job asked.least) (first_request asked.after asked.least_after ∷ []) rows done →
    IsInOrder (length rows) (record_view done.ran) → IsRunOfFirst asked files done
first_runs asked files rows done of are sources run in_order =
    let least = asked.least in
    let after = asked.after in
    let next = asked.least_after in
    let ran = done.ran in
    let made = ran.setup in
    let plans = made.plans in
    let splits = made.splits in
    let ordered = made.ordered in
    let is_judged = judged_first least after next in
    let accepted : made.judged.accepted ≡ first_request after next ∷ [] = run.setup.accepted ∙ ap (λ (j : Judged). j.accepted) is_judged in
    let setup = setup_view_of (first_job least) (first_request after next ∷ []) plans splits ordered in
    let of_setup : setup_view made ≡ setup =
    ap (λ (j : JobView). setup_view_of j made.judged.accepted plans splits ordered) run.setup.job_is
    ∙ ap (λ (requests : List Request). setup_view_of (first_job least) requests plans splits ordered) accepted in
    let changed : changes (setup_view made) 1 1 ≡ true = subst (λ (o : SetupView). changes o 1 1 ≡ true) (sym of_setup) refl in
    let has = has_covers (setup_view made) made.planned in
    let covered : covers setup 1 1 ≡ true = subst (λ (o : SetupView). covers o 1 1 ≡ true) of_setup (has.asked 1 1 (has.changed 1 1 changed)) in
    let runs : IsRunFrom (at_first setup) rows (ran_as setup ran.feeds ran.journals ran.states) =
    subst (λ (o : SetupView). IsRunFrom (at_first o) rows (ran_as o ran.feeds ran.journals ran.states)) of_setup run.run.run in
    let order : IsInOrder (length rows) (ran_as setup ran.feeds ran.journals ran.states) =
    subst (λ (o : SetupView). IsInOrder (length rows) (ran_as o ran.feeds ran.journals ran.states)) of_setup in_order in
    record {
      rows = rows;
      of_rows = of;
      run = run;
      accepted = run.refused ∙ run.setup.refused ∙ ap (λ (j : Judged). j.refused) is_judged;
      order = in_order;
      turns = λ journal at. turns least after next rows are sources plans splits ordered ran.feeds ran.journals ran.states covered runs order journal at;
    }
