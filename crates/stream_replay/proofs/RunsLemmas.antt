-- The records of parts that were run in turn count how far each of them goes.
use Rattle.std.proofs.Common.{◌≡◌, ◌∙◌, ◌≤◌, ◌+◌, ◌-◌, ℕ, true, List, [], ◌∷◌, ap}
use Rattle.std.proofs.Common.{All, arith, cond, drop, length, length-drop, map, nat_le, refl}
use Rattle.std.proofs.Common.{subst, sym, take}
use Rattle.std.specs.Prelude.{slice_range}
use Rattle.std.specs.List.{count_by}
use Rattle.std.proofs.lemmas.Bool.{le-leb}
use Rattle.std.proofs.lemmas.List.{drop-take, length-map, length-take-le}
use Rattle.std.proofs.lemmas.List.Elements.{All-drop, All-head, All-tail}
use Rattle.std.proofs.lemmas.List.Sums.{sum_by-cons, sum_by-take-le}
use Rattle.versions.specs.declared.request.Request.{Request}
use Rattle.sink_journal.specs.Audit.{audit_records, feed_fields}
use Rattle.flow_model.specs.Requests.{afters}
use Rattle.flow_model.specs.Run.{IsRunSince, Ran}
use Rattle.flow_model.specs.SetupView.{SetupView}
use Rattle.savepoint.specs.Parts.{first_of}
use Rattle.audit_laws.specs.Part.{uncounted}
use Rattle.audit_parts.specs.Cut.{is_fed_record, is_issued_record}
use Rattle.stream_replay.specs.InParts.{ArePartRuns, AreRunInParts, Given, IsLastReplay, IsPartReplay}
use Rattle.stream_replay.specs.InParts.{PartStart, Records, due_count, first_start}
use Rattle.stream_replay.specs.InParts.{row_in, start_after, start_behind, told_up_to, turned_in}
use Rattle.stream_replay.specs.Runs.{PartEnd, RunInTurn, RunsTo, records_in_turn, records_to}
use Rattle.stream_replay.specs.Runs.{start_past, start_past_all}
use Rattle.stream_replay.proofs.CountLemmas.{fed_from, fed_records, issued_from, issued_records}
use Rattle.stream_replay.proofs.CountLemmas.{refused_records}
use Rattle.stream_replay.proofs.PartLemmas.{starts}

-- all of these requests are due
all_due : (row : ℕ) (requests : List Request)
    → All (λ (request : Request). request.after ≤ row) requests
    → due_count row requests ≡ length requests
all_due row [] due = refl
all_due row (q ∷ requests) due =
    let here : nat_le q.after row ≡ true =
    le-leb q.after row (All-head (λ (r : Request). r.after ≤ row) q requests due) in
    sum_by-cons (λ (r : Request). cond (nat_le r.after row) 1 0) q requests
    ∙ (ap (λ b. cond b 1 0 + due_count row requests) here
    ∙ (let later : due_count row requests ≡ length requests =
    all_due row requests (All-tail (λ (r : Request). r.after ≤ row) q requests due) in
    omega (arith, later)))

-- ---- one part

module _ (given : Given) (start : PartStart) (end : PartEnd) (runs : RunsTo given start end) where
  abbrev records : Records
  records = records_to given start end

  abbrev waits : List ℕ
  waits = afters end.left.setup.requests

  -- it fed these rows
  rows_are : length (take end.row given.rows) ≡ end.row
  rows_are = length-take-le end.row given.rows runs.fed

  fed_is : count_by is_fed_record records ≡ end.row - start.begin.row
  fed_is =
      fed_records end.left.setup.job (slice_range given.refused start.told end.told)
      end.left.feeds end.left.journals (uncounted end.left).states
      ∙ (ap (λ fs. count_by is_fed_record (map feed_fields fs)) runs.run.run.feed
      ∙ (fed_from start.begin.row start.begin.turned waits (length (take end.row given.rows))
      ∙ ap (λ n. n - start.begin.row) rows_are))

  row_is : row_in given start records ≡ end.row
  row_is = omega (arith, fed_is, runs.row, runs.fed)

  -- it issued these requests
  waits_are : length waits ≡ end.turned
  waits_are =
      length-map end.left.setup.requests (λ (request : Request). request.after)
      ∙ (ap (λ (s : SetupView). length s.requests) runs.run.setup_is
      ∙ length-take-le end.turned given.setup.requests runs.issued)

  issued_is : count_by is_issued_record records ≡ end.turned - start.begin.turned
  issued_is =
      issued_records end.left.setup.job (slice_range given.refused start.told end.told)
      end.left.feeds end.left.journals (uncounted end.left).states
      ∙ (ap (λ fs. count_by is_issued_record (map feed_fields fs)) runs.run.run.feed
      ∙ (issued_from start.begin.row start.begin.turned waits (length (take end.row given.rows))
      (omega (arith, rows_are, runs.row))
      ∙ ap (λ n. n - start.begin.turned) waits_are))

  -- which are due by its last row
  due_is : end.turned - start.begin.turned
      ≤ due_count end.row (drop start.begin.turned given.setup.requests)
  due_is =
      let many : ℕ = end.turned - start.begin.turned in
      let left : List Request = drop start.begin.turned given.setup.requests in
      let all : start.begin.turned + many ≡ end.turned = omega (arith, runs.turned) in
      let own : take many left ≡ drop start.begin.turned (take end.turned given.setup.requests) =
      sym (drop-take start.begin.turned many given.setup.requests)
      ∙ ap (λ k. drop start.begin.turned (take k given.setup.requests)) all in
      let due : All (λ (request : Request). request.after ≤ end.row) (take many left) =
      subst (All (λ (request : Request). request.after ≤ end.row)) (sym own)
      (All-drop (λ (request : Request). request.after ≤ end.row) start.begin.turned
      (take end.turned given.setup.requests) runs.due) in
      let there : many ≤ length left =
      omega (arith, length-drop start.begin.turned given.setup.requests, runs.issued, runs.turned)
      in
      omega (
        arith,
        all_due end.row (take many left) due,
        length-take-le many left there,
        sum_by-take-le (λ (r : Request). cond (nat_le r.after end.row) 1 0) left many,
      )

  turned_is : turned_in given start records ≡ end.turned
  turned_is =
      let same : due_count (row_in given start records) (drop start.begin.turned
      given.setup.requests) ≡ due_count end.row (drop start.begin.turned given.setup.requests) =
      ap (λ k. due_count k (drop start.begin.turned given.setup.requests)) row_is in
      omega (arith, same, issued_is, due_is, runs.turned)

  -- it told these refused requests
  told_is : told_up_to given start records ≡ end.told
  told_is =
      let many : length (slice_range given.refused start.told end.told)
      ≡ end.told - start.told =
      length-take-le (end.told - start.told) (drop start.told given.refused)
      (omega (arith, length-drop start.told given.refused, runs.refused)) in
      omega (
        arith,
        refused_records end.left.setup.job (slice_range given.refused start.told end.told)
            end.left.feeds end.left.journals (uncounted end.left).states,
        many,
        runs.told,
        runs.refused,
      )

  part_run : IsPartReplay given start records end.left
  part_run = record {
    run =
        subst (λ k. IsRunSince start.begin (first_of given.setup k)
        (take (row_in given start records) given.rows) end.left) (sym turned_is)
        (subst (λ k. IsRunSince start.begin (first_of given.setup end.turned)
        (take k given.rows) end.left) (sym row_is) runs.run);
    told =
        ap (λ k. audit_records end.left.setup.job (slice_range given.refused start.told k)
        end.left.feeds end.left.journals (uncounted end.left).states) (sym told_is);
  }

  start_is : start_after given start records end.left ≡ start_past end
  start_is =
      starts (row_in given start records) (turned_in given start records)
      (told_up_to given start records) end.left.states end.row end.turned end.told row_is turned_is
      told_is

-- ---- all parts

abbrev lefts_of : List PartEnd → List Ran
lefts_of ends = map (λ (end : PartEnd). end.left) ends

run_in_parts : (given : Given) (start : PartStart) (ends : List PartEnd)
    → RunInTurn given start ends
    → ArePartRuns given start (records_in_turn given start ends) (lefts_of ends)
run_in_parts given start [] runs = tt
run_in_parts given start (end ∷ later) runs = (
  part_run given start end runs.0,
  subst (λ (s : PartStart). ArePartRuns given s (records_in_turn given (start_past end) later)
      (lefts_of later)) (sym (start_is given start end runs.0))
      (run_in_parts given (start_past end) later runs.1),
)

behind_all : (given : Given) (start : PartStart) (ends : List PartEnd)
    → RunInTurn given start ends
    → start_behind given start (records_in_turn given start ends) (lefts_of ends)
    ≡ start_past_all start ends
behind_all given start [] runs = refl
behind_all given start (end ∷ later) runs =
    ap (λ (s : PartStart). start_behind given s (records_in_turn given (start_past end) later)
    (lefts_of later)) (start_is given start end runs.0)
    ∙ behind_all given (start_past end) later runs.1

pub told_in_parts : (given : Given) (ends : List PartEnd) (last : Records) (left : Ran)
    → RunInTurn given (first_start given) ends
    → IsLastReplay given (start_past_all (first_start given) ends) last left
    → AreRunInParts given (records_in_turn given (first_start given) ends) last
told_in_parts given ends last left runs ended = record {
  lefts = lefts_of ends;
  left = left;
  runs = run_in_parts given (first_start given) ends runs;
  ends =
      subst (λ (s : PartStart). IsLastReplay given s last left)
      (sym (behind_all given (first_start given) ends runs)) ended;
}
