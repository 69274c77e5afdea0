use Rattle.std.proofs.Common.{◌≡◌, ◌≤◌, ◌<◌, ◌++◌, ◌∷◌, [], ◌∙◌, ◌+◌, ◌-◌, ℕ, List, Some, arith, length, min, subst, sym}
use Rattle.std.specs.Prelude.{slice_get}
use Rattle.std.proofs.lemmas.List.{length-map}
use Rattle.sink_journal.specs.declared.journal.Feed.{Feed}
use Rattle.sink_journal.specs.declared.journal.Feed.TheVariants.{Issued}
use Rattle.versions.specs.declared.request.Request.{Request}
use Rattle.flow_model.specs.Requests.{afters}
use Rattle.flow_model.specs.Setup.{setup_view}
use Rattle.flow_model.specs.declared.setup.Setup.{Setup}
use Rattle.flow_model.proofs.PlaceLemmas.{map_place}
use Rattle.flow_model.proofs.SetupLemmas.{in_order}
use Rattle.flow_replay.specs.inner.Runs.{AllGain, turn_block}
use Rattle.flow_replay.specs.inner.SoFar.{AreIssued, IsSoFar, issues}
use Rattle.flow_replay.proofs.IssueLemmas.{due_ends, due_next, due_stops, issues-end, issues-next, issues-stop}
use Rattle.flow_replay.proofs.RunLemmas.{issue_step}
use Rattle.flow_replay.proofs.SetupLemmas.{covered}
use Rattle.flow_replay.proofs.SortLemmas.{turn_sorted}
use Rattle.flow_replay.proofs.executor.Executor.issue_up_to.Goals as goal

pub returns-then-min-row-clause-issued : goal.returns-then-min-row-clause-issued
returns-then-min-row-clause-issued c =
    let kept = c.args.self.now.setup.now in
    let setup = setup_view kept in
    let place = c.loop-place.place in
    let h = c.loop-place.invariant in
    let later : c.args.row < min c.after.result c.args.rows =
    omega (arith, c.if-min-row.true, c.min.ensures) in
    let here : place + 1 - 1 ≡ place = omega arith in
    let after =
    subst (λ (s : Setup). slice_get (afters (setup_view s).requests) place ≡ Some c.after.result)
    h.same (subst (λ k. slice_get (afters (setup_view c.loop-place.self.setup.now).requests) k
    ≡ Some c.after.result) here c.after.ensures) in
    subst (λ (n : ℕ). AreIssued setup c.args.rows c.args.row c.args.self.now.issued n
    c.args.self.now.feeds c.loop-place.self.feeds c.args.self.now.runs.items
    c.loop-place.self.runs.items) (sym h.at) (record {
      long = h.long;
      waits = due_stops setup.requests c.args.rows c.args.row place c.after.result
          (in_order kept) after later h.due;
      feeds = issues-stop setup c.args.rows c.args.row place c.after.result
          c.loop-place.self.feeds
          (c.args.self.now.feeds ++ issues setup c.args.rows c.args.row c.args.self.now.issued)
          (in_order kept) after later h.feeds;
      far = h.far;
      sorted = h.sorted;
    })

pub loop-place-preserved : goal.loop-place-preserved
loop-place-preserved c =
    let kept = c.args.self.now.setup.now in
    let setup = setup_view kept in
    let place = c.loop-place.place in
    let h = c.loop-place.invariant in
    let now = c.turn_all.new.self in
    let due : min c.after.result c.args.rows ≤ c.args.row =
    omega (arith, c.if-min-row.false, c.min.ensures) in
    let here : place + 1 - 1 ≡ place = omega arith in
    let after =
    subst (λ (s : Setup). slice_get (afters (setup_view s).requests) place ≡ Some c.after.result)
    h.same (subst (λ k. slice_get (afters (setup_view c.loop-place.self.setup.now).requests) k
    ≡ Some c.after.result) here c.after.ensures) in
    let gain =
    subst (λ (s : Setup). AllGain (setup_view s) (turn_block (setup_view s) (place + 1))
    c.loop-place.self.runs.items now.runs.items) h.same c.in_ok-turn_all.ensures.turned in
    let pushed : now.feeds ≡ c.loop-place.self.feeds ++ Issued (place + 1) ∷ [] =
    c.in_ok-turn_all.ensures.same.feeds_are ∙ c.in_ok-push.ensures.ok in
    let left = h.due.left place c.after.result after (omega arith) in
    let request =
    map_place (λ (r : Request). r.after) setup.requests place c.after.result after in
    let at_row : min request.0.after c.args.rows ≡ c.args.row =
    omega (arith, due, left, request.2) in
    let planned = (covered kept).plan_each in
    record {
      same = c.in_ok-turn_all.ensures.same.setup_is ∙ h.same;
      at = λ i. place + 1;
      long = gain.long ∙ h.long;
      due = due_next (afters setup.requests) c.args.rows c.args.row place c.after.result after
          due h.due;
      feeds = issues-next setup c.args.rows c.args.row place c.after.result
          c.loop-place.self.feeds now.feeds
          (c.args.self.now.feeds ++ issues setup c.args.rows c.args.row c.args.self.now.issued)
          after due pushed h.feeds;
      far = λ fed f.
          subst (λ (fs : List Feed). IsSoFar setup fed fs (place + 1) now.runs.items)
          (sym pushed)
          (issue_step setup fed c.loop-place.self.feeds place c.loop-place.self.runs.items
          now.runs.items (covered kept)
          (omega (arith, c.loop-place-test.true, c.request_count-place-end.ensures, planned))
          (h.far fed f) gain);
      sorted = λ s.
          turn_sorted setup c.args.rows c.args.row place request.0 c.loop-place.self.runs.items
          now.runs.items request.1 at_row gain (h.sorted s);
    }

pub returns-clause-issued : goal.returns-clause-issued
returns-clause-issued c =
    let kept = c.args.self.now.setup.now in
    let setup = setup_view kept in
    let place = c.loop-place.place in
    let h = c.loop-place.invariant in
    let long = length-map setup.requests (λ (request : Request). request.after) in
    let end : length (afters setup.requests) ≤ place =
    omega (arith, c.loop-place-test.false, c.request_count-place-end.ensures, long) in
    subst (λ (n : ℕ). AreIssued setup c.args.rows c.args.row c.args.self.now.issued n
    c.args.self.now.feeds c.loop-place.self.feeds c.args.self.now.runs.items
    c.loop-place.self.runs.items) (sym h.at) (record {
      long = h.long;
      waits = due_ends (afters setup.requests) c.args.rows c.args.row place end h.due;
      feeds = issues-end setup c.args.rows c.args.row place c.loop-place.self.feeds
          (c.args.self.now.feeds ++ issues setup c.args.rows c.args.row c.args.self.now.issued)
          end h.feeds;
      far = h.far;
      sorted = h.sorted;
    })
