-- What the audit of a stream tells of parts that were run in turn.
use Rattle.std.proofs.Common.{◌≡◌, ◌≢◌, ◌∙◌, ◌+◌, ◌-◌, ◌++◌, ◌==◌, ℕ, zero, suc, Bool, true, false}
use Rattle.std.proofs.Common.{All}
use Rattle.std.proofs.Common.{List, [], ◌∷◌, ap, append-nil, append_assoc, cond, drop, length, map}
use Rattle.std.proofs.Common.{min}
use Rattle.std.proofs.Common.{nat_le, refl, slice_range, subst, sym}
use Rattle.std.specs.FinMap.{empty, entries}
use Rattle.std.specs.List.{flat_map}
use Rattle.std.proofs.lemmas.Grind.{flat_map-append}
use Rattle.std.proofs.lemmas.List.{length-map}
use Rattle.std.proofs.lemmas.List.Elements.{All-append, All-cons, All-head, All-nil, All-tail}
use Rattle.jobs.specs.JobView.{JobView}
use Rattle.jobs.specs.Nodes.{worker_count}
use Rattle.keyed_state.specs.Counts.{Counts}
use Rattle.sink_journal.specs.Audit.{audit_records}
use Rattle.sink_journal.specs.declared.audit.Noted.{Noted}
use Rattle.sink_journal.specs.declared.journal.Feed.{Feed}
use Rattle.sink_journal.specs.declared.journal.Feed.TheVariants as feed
use Rattle.flow_model.specs.Begin.{Begin}
use Rattle.flow_model.specs.Feeding.{feed_after, feed_from, issued_after, issued_at_first}
use Rattle.flow_model.specs.Feeding.{issued_where}
use Rattle.flow_model.specs.Run.{IsRunSince, Ran}
use Rattle.flow_model.specs.SetupView.{SetupView, Worker}
use Rattle.flow_model.specs.Workers.{workers_in}
use Rattle.flow_model.proofs.WorkerListLemmas.{length-workers_from}
use Rattle.savepoint.specs.Parts.{unstopped}
use Rattle.audit_laws.specs.Part.{uncounted}
use Rattle.audit_laws.proofs.RangeLemmas.{none_listed}
use Rattle.audit_parts.specs.Cut.{IsPartRecords, cut_parts}
use Rattle.audit_stream.specs.Told.{IsEarlier, IsLast, PartTold, part_records}
use Rattle.audit_stream.specs.Told.{parts_records}
use Rattle.stream_replay.specs.InParts.{Given, PartStart, Records}
use Rattle.stream_replay.specs.Runs.{PartEnd, RunInTurn, records_in_turn, records_to}
use Rattle.stream_replay.specs.Runs.{start_past, start_past_all}
use Rattle.tuple_trace.specs.declared.row.Row.{Row}
use Rattle.fries_verify.specs.Streams.{told_in_turn, told_last, told_to}

-- ---- feeds

abbrev IsGoing : Feed → Type 0
IsGoing step = step ≢ feed.Stopped

-- the feed has one stop, at its end
record IsStopped (feeds : List Feed) : Type 0 where
  steps : List Feed
  going : All IsGoing steps
  feeds_are : feeds ≡ steps ++ feed.Stopped ∷ []

where_going : (test : ℕ → Bool) (rows r : ℕ) (waits : List ℕ)
    → All IsGoing (issued_where test rows r waits)
where_going test rows r [] = All-nil IsGoing
where_going test rows r (x ∷ waits) =
    go (test (min x rows)) (where_going test rows (r + 1) waits)
  where
    go : (b : Bool) → All IsGoing (issued_where test rows (r + 1) waits)
        → All IsGoing (cond b (feed.Issued r ∷ issued_where test rows (r + 1) waits)
        (issued_where test rows (r + 1) waits))
    go true all =
        All-cons IsGoing (feed.Issued r) (issued_where test rows (r + 1) waits)
        (λ e. absurd (cc e)) all
    go false all = all

after_stopped : (waits : List ℕ) (r row rows left : ℕ)
    → IsStopped (feed_after waits r row rows left)
after_stopped waits r row rows zero =
    record { steps = []; going = All-nil IsGoing; feeds_are = refl }
after_stopped waits r row rows (suc left) =
    let here : List Feed = issued_after (row + 1) rows r waits in
    let later = after_stopped waits r (row + 1) rows left in
    record {
      steps = feed.Fed (row + 1) ∷ (here ++ later.steps);
      going =
          All-cons IsGoing (feed.Fed (row + 1)) (here ++ later.steps) (λ e. absurd (cc e))
          (All-append IsGoing here later.steps (where_going (λ after. after == row + 1) rows r
          waits) later.going);
      feeds_are =
          ap (λ (l : List Feed). feed.Fed (row + 1) ∷ l)
          (ap (λ (l : List Feed). here ++ l) later.feeds_are
          ∙ sym (append_assoc here later.steps (feed.Stopped ∷ [])));
    }

from_stopped : (row issued : ℕ) (waits : List ℕ) (rows : ℕ)
    → IsStopped (feed_from row issued waits rows)
from_stopped row issued waits rows =
    let here : List Feed = issued_at_first row rows (issued + 1) (drop issued waits) in
    let later = after_stopped (drop issued waits) (issued + 1) row rows (rows - row) in
    record {
      steps = here ++ later.steps;
      going =
          All-append IsGoing here later.steps (where_going (λ after. nat_le after row) rows
          (issued + 1) (drop issued waits)) later.going;
      feeds_are =
          ap (λ (l : List Feed). here ++ l) later.feeds_are
          ∙ sym (append_assoc here later.steps (feed.Stopped ∷ []));
    }

run_stopped : (begin : Begin) (setup : SetupView) (rows : List Row) (left : Ran)
    → IsRunSince begin setup rows left → IsStopped left.feeds
run_stopped begin setup rows left run =
    subst IsStopped (sym run.run.feed) (from_stopped begin.row begin.turned _ (length rows))

unstopped_steps : (steps : List Feed) → All IsGoing steps
    → unstopped (steps ++ feed.Stopped ∷ []) ≡ steps
unstopped_steps [] going = refl
unstopped_steps (feed.Fed row ∷ steps) going =
    ap (λ (l : List Feed). feed.Fed row ∷ l)
    (unstopped_steps steps (All-tail IsGoing (feed.Fed row) steps going))
unstopped_steps (feed.Issued r ∷ steps) going =
    ap (λ (l : List Feed). feed.Issued r ∷ l)
    (unstopped_steps steps (All-tail IsGoing (feed.Issued r) steps going))
unstopped_steps (feed.Stopped ∷ steps) going =
    absurd (All-head IsGoing feed.Stopped steps going refl)

stop_is_last : (feeds : List Feed) → IsStopped feeds
    → feeds ≡ unstopped feeds ++ feed.Stopped ∷ []
stop_is_last feeds is =
    is.feeds_are
    ∙ ap (λ (l : List Feed). l ++ feed.Stopped ∷ [])
    (sym (ap unstopped is.feeds_are ∙ unstopped_steps is.steps is.going))

-- ---- one part

-- what a run left, as it is told
module _ (job : JobView) (begin : Begin) (setup : SetupView) (rows : List Row) (left : Ran)
    (run : IsRunSince begin setup rows left) (job_is : setup.job ≡ job) where
  own_job : left.setup.job ≡ job
  own_job = ap (λ (v : SetupView). v.job) run.setup_is ∙ job_is

  each_worker : length (workers_in left.setup.job) ≡ worker_count job.nodes
  each_worker =
      length-workers_from 0 0 left.setup.job.nodes
      ∙ ap (λ (j : JobView). worker_count j.nodes) own_job

  journals_each : length left.journals ≡ worker_count job.nodes
  journals_each = run.run.one_journal_each ∙ each_worker

  states_each : length left.states ≡ worker_count job.nodes
  states_each = run.run.one_state_each ∙ each_worker

  none_each : length (uncounted left).states ≡ worker_count job.nodes
  none_each =
      length-map (workers_in left.setup.job) (λ (who : Worker). empty) ∙ each_worker

  -- the records are those of a part
  written : (refused : List Noted) (states : List Counts)
      → IsPartRecords job (audit_records job refused left.feeds left.journals states)
  written refused states =
      let stop = run_stopped begin setup rows left run in
      record {
        refused = refused;
        steps = stop.steps;
        journals = left.journals;
        states = states;
        going = stop.going;
        written =
            ap (λ (fs : List Feed). audit_records job refused fs left.journals states)
            stop.feeds_are;
      }

none_counted : (workers : List Worker)
    → All (λ (counts : Counts). entries counts ≡ []) (map (λ (who : Worker). empty) workers)
none_counted [] = All-nil (λ (counts : Counts). entries counts ≡ [])
none_counted (who ∷ workers) =
    All-cons (λ (counts : Counts). entries counts ≡ []) empty
    (map (λ (who : Worker). empty) workers) none_listed (none_counted workers)

-- ---- parts in turn

module _ (job : JobView) (given : Given) (job_is : given.setup.job ≡ job) where
  pub earlier_each : (start : PartStart) (ends : List PartEnd) → RunInTurn given start ends
      → All (IsEarlier job) (told_in_turn given start ends)
  earlier_each start [] runs = All-nil (IsEarlier job)
  earlier_each start (end ∷ later) runs =
      All-cons (IsEarlier job) (told_to given start end)
      (told_in_turn given (start_past end) later) (
        (
          journals_each job start.begin _ _ end.left runs.0.run job_is,
          none_each job start.begin _ _ end.left runs.0.run job_is,
        ),
        none_counted (workers_in end.left.setup.job),
      )
      (earlier_each (start_past end) later runs.1)

  records_same : (start : PartStart) (ends : List PartEnd) → RunInTurn given start ends
      → map (part_records job) (told_in_turn given start ends) ≡ records_in_turn given start ends
  records_same start [] runs = refl
  records_same start (end ∷ later) runs =
      ap (λ (j : JobView). audit_records j (slice_range given.refused start.told end.told)
      end.left.feeds end.left.journals (uncounted end.left).states
      ∷ map (part_records job) (told_in_turn given (start_past end) later))
      (sym (own_job job start.begin _ _ end.left runs.0.run job_is))
      ∙ ap (λ (l : List Records). records_to given start end ∷ l)
      (records_same (start_past end) later runs.1)

  written_each : (start : PartStart) (ends : List PartEnd) → RunInTurn given start ends
      → All (IsPartRecords job) (map (part_records job) (told_in_turn given start ends))
  written_each start [] runs = All-nil (IsPartRecords job)
  written_each start (end ∷ later) runs =
      All-cons (IsPartRecords job) (part_records job (told_to given start end))
      (map (part_records job) (told_in_turn given (start_past end) later))
      (written job start.begin _ _ end.left runs.0.run job_is
      (slice_range given.refused start.told end.told) (uncounted end.left).states)
      (written_each (start_past end) later runs.1)

  -- the last part
  module _ (start : PartStart) (left : Ran)
      (run : IsRunSince start.begin given.setup given.rows left) where
    pub is_last : IsLast job (told_last given start left)
    is_last = (
      (
        journals_each job start.begin given.setup given.rows left run job_is,
        states_each job start.begin given.setup given.rows left run job_is,
      ),
      stop_is_last left.feeds (run_stopped start.begin given.setup given.rows left run),
    )

    last_written : IsPartRecords job (part_records job (told_last given start left))
    last_written =
        written job start.begin given.setup given.rows left run job_is
        (drop start.told given.refused) left.states

    pub last_told : part_records job (told_last given start left)
        ≡ audit_records left.setup.job (drop start.told given.refused) left.feeds left.journals
        left.states
    last_told =
        ap (λ (j : JobView). audit_records j (drop start.told given.refused) left.feeds
        left.journals left.states)
        (sym (own_job job start.begin given.setup given.rows left run job_is))

-- ---- all records

joined_map : (job : JobView) (tolds : List PartTold)
    → flat_map (λ part. part) (map (part_records job) tolds) ≡ parts_records job tolds
joined_map job [] = refl
joined_map job (told ∷ tolds) =
    ap (λ (l : Records). part_records job told ++ l) (joined_map job tolds)

-- the records of all parts are cut into these parts
pub parts_found : ((job : JobView) (parts : List Records) → All (IsPartRecords job) parts
    → cut_parts (flat_map (λ part. part) parts) ≡ parts) → (job : JobView) (given : Given)
    (start : PartStart) (ends : List PartEnd) (left : Ran) → given.setup.job ≡ job
    → RunInTurn given start ends
    → IsRunSince (start_past_all start ends).begin given.setup given.rows left
    → cut_parts (parts_records job (told_in_turn given start ends)
    ++ part_records job (told_last given (start_past_all start ends) left))
    ≡ records_in_turn given start ends
    ++ part_records job (told_last given (start_past_all start ends) left) ∷ []
parts_found found job given start ends left job_is runs last =
    let tolds = told_in_turn given start ends in
    let end : Records = part_records job (told_last given (start_past_all start ends) left) in
    let all : List Records = map (part_records job) tolds ++ end ∷ [] in
    let joined : flat_map (λ (part : Records). part) all ≡ parts_records job tolds ++ end =
    flat_map-append (λ (part : Records). part) (map (part_records job) tolds) (end ∷ [])
    ∙ (ap (λ (l : Records). l ++ flat_map (λ (part : Records). part) (end ∷ []))
    (joined_map job tolds)
    ∙ ap (λ (l : Records). parts_records job tolds ++ l) (append-nil end)) in
    ap cut_parts (sym joined)
    ∙ (found job all
    (All-append (IsPartRecords job) (map (part_records job) tolds) (end ∷ [])
    (written_each job given job_is start ends runs)
    (All-cons (IsPartRecords job) end []
    (last_written job given job_is (start_past_all start ends) left last)
    (All-nil (IsPartRecords job))))
    ∙ ap (λ (l : List Records). l ++ end ∷ []) (records_same job given job_is start ends runs))
