-- A plain run, row by row.
use Rattle.std.proofs.Common.{◌≡◌, ◌<◌, ◌+◌, ◌++◌, ◌∷◌, ◌∙◌, ℕ, [], List, Some, arith, ap, length, refl, replicate, subst, sym}
use Rattle.std.specs.Prelude.{slice_get}
use Rattle.std.proofs.lemmas.List.{get_or-replicate, length-map, length-replicate}
use Rattle.sink_journal.specs.declared.journal.Feed.{Feed}
use Rattle.sink_journal.specs.declared.journal.Feed.TheVariants.{Fed, Stopped}
use Rattle.tuple_trace.specs.declared.row.Row.{Row}
use Rattle.versions.specs.declared.request.Request.{Request}
use Rattle.flow_model.specs.Feeding.{feed_from}
use Rattle.flow_model.specs.SetupView.{SetupView}
use Rattle.flow_model.specs.Requests.{afters}
use Rattle.flow_model.specs.Run.{IsRun, Ran}
use Rattle.flow_model.specs.Setup.{setup_view}
use Rattle.flow_model.specs.Workers.{workers_in}
use Rattle.flow_model.specs.declared.setup.Setup.{Setup}
use Rattle.flow_replay.specs.Order.{IsInOrder}
use Rattle.flow_replay.specs.declared.executor.Executor.{Executor}
use Rattle.flow_replay.specs.declared.executor.Left.{Left}
use Rattle.flow_replay.specs.declared.worker_run.WorkerRun.{WorkerRun}
use Rattle.flow_replay.specs.inner.Delivery.{IsFed, rank_in}
use Rattle.flow_replay.specs.inner.Executor.{HasFed, HasLeft, IsNew, left_view}
use Rattle.flow_replay.specs.inner.Runs.{AllGain, AreOpen, empty_run, end_block}
use Rattle.flow_replay.specs.inner.SoFar.{AreEmpty, AreIssued, AreIssuedBefore, AreSorted, IsSoFar, left_by}
use Rattle.flow_replay.proofs.IssueLemmas.{all_issued, feed_first, feed_last, feed_next}
use Rattle.flow_replay.proofs.RunLemmas.{feed_step, first_far}
use Rattle.flow_replay.proofs.StopLemmas.{are_open, stop_step}
use Rattle.flow_replay.proofs.SetupLemmas.{covered}
use Rattle.flow_replay.proofs.SortLemmas.{ends_sorted, fed_sorted, first_sorted}

-- ---- at first

none_before : (waits : List ℕ) (rows : ℕ) → AreIssuedBefore waits rows 0 0
none_before waits rows = record {
  few = omega arith;
  past = λ i after e lt. absurd (omega (arith, lt));
  left = λ i after e le. omega arith;
}

pub may_begin : (kept : Setup) (rows : ℕ) (e : Executor) → IsNew kept e →
    AreIssuedBefore (afters (setup_view e.setup.now).requests) rows 0 e.issued
may_begin kept rows e new =
    subst (AreIssuedBefore (afters (setup_view e.setup.now).requests) rows 0) (sym new.issued_is)
    (none_before (afters (setup_view e.setup.now).requests) rows)

empty : (setup : SetupView) (runs : List WorkerRun) →
    runs ≡ replicate (length (workers_in setup.job)) empty_run → AreEmpty setup runs
empty setup runs are = subst (AreEmpty setup) (sym are) (record {
  long = length-replicate (length (workers_in setup.job)) empty_run;
  each = λ w lt.
      get_or-replicate (length (workers_in setup.job)) w empty_run empty_run
      (omega (arith, lt, length-replicate (length (workers_in setup.job)) empty_run));
})

pub is_new : (kept : Setup) (e : Executor) → IsNew kept e → IsNew e.setup.now e
is_new kept e new = record {
  setup_is = refl;
  runs_are =
      subst (λ (s : Setup). e.runs.items
      ≡ replicate (length (workers_in (setup_view s).job)) empty_run) (sym new.setup_is)
      new.runs_are;
  feeds_are = new.feeds_are;
  issued_is = new.issued_is;
}

pub begins : (kept : Setup) (rows : List Row) (old new : Executor) → IsNew kept old →
    AreIssued (setup_view old.setup.now) (length rows) 0 old.issued new.issued old.feeds new.feeds
    old.runs.items new.runs.items → new.setup.now ≡ old.setup.now → HasFed kept rows 0 new
begins kept rows old new none issued same = record {
  same = same ∙ none.setup_is;
  waits = first.waits;
  far = first.far rows (first_far (setup_view kept) rows old.runs.items blank);
  sorted = first.sorted (first_sorted (setup_view kept) (length rows) old.runs.items blank);
  feeds = feed_first (setup_view kept) (length rows) [] new.feeds refl first.feeds;
}
  where
    blank : AreEmpty (setup_view kept) old.runs.items
    blank = empty (setup_view kept) old.runs.items none.runs_are

    first : AreIssued (setup_view kept) (length rows) 0 0 new.issued [] new.feeds old.runs.items
        new.runs.items
    first =
        subst (λ (fs : List Feed). AreIssued (setup_view kept) (length rows) 0 0 new.issued fs
        new.feeds old.runs.items new.runs.items) none.feeds_are
        (subst (λ (n : ℕ). AreIssued (setup_view kept) (length rows) 0 n new.issued old.feeds
        new.feeds old.runs.items new.runs.items) none.issued_is
        (subst (λ (s : Setup). AreIssued (setup_view s) (length rows) 0 old.issued new.issued
        old.feeds new.feeds old.runs.items new.runs.items) none.setup_is issued))

-- ---- a row more

pub may_issue : (kept : Setup) (rows : List Row) (row : ℕ) (old mid : Executor) →
    HasFed kept rows row old → mid.setup.now ≡ old.setup.now → mid.issued ≡ old.issued →
    AreIssuedBefore (afters (setup_view mid.setup.now).requests) (length rows) (row + 1) mid.issued
may_issue kept rows row old mid h same issued =
    subst (λ (s : Setup).
    AreIssuedBefore (afters (setup_view s).requests) (length rows) (row + 1) mid.issued)
    (sym (same ∙ h.same))
    (subst (AreIssuedBefore (afters (setup_view kept).requests) (length rows) (row + 1))
    (sym issued) h.waits)

pub goes_on : (kept : Setup) (rows : List Row) (place : ℕ) (row : Row)
    (old mid new : Executor) → slice_get rows place ≡ Some row → place < length rows →
    row.tuple.row ≡ place + 1 →
    IsFed (setup_view old.setup.now) (rank_in old.setup.now) row old.issued old.runs.items
    mid.runs.items →
    mid.feeds ≡ old.feeds ++ Fed row.tuple.row ∷ [] → mid.issued ≡ old.issued →
    mid.setup.now ≡ old.setup.now →
    AreIssued (setup_view mid.setup.now) (length rows) (place + 1) mid.issued new.issued mid.feeds
    new.feeds mid.runs.items new.runs.items → new.setup.now ≡ mid.setup.now →
    HasFed kept rows place old → HasFed kept rows (place + 1) new
goes_on kept rows place row old mid new there lt number fed feeds issued same next same' h =
    record {
      same = same' ∙ (same ∙ h.same);
      waits = now.waits;
      far = now.far rows (subst (λ (fs : List Feed).
          IsSoFar setup rows fs old.issued mid.runs.items) (sym feeds)
          (feed_step setup (rank_in kept) rows old.feeds old.issued place row old.runs.items
          mid.runs.items there number h.far its));
      sorted = now.sorted (fed_sorted setup (rank_in kept) (length rows) place old.issued row
          old.runs.items mid.runs.items number its h.sorted);
      feeds = feed_next setup (length rows) place old.issued old.feeds mid.feeds new.feeds
          (feed_from 0 0 (afters setup.requests) (length rows)) lt h.waits
          (feeds ∙ ap (λ (n : ℕ). old.feeds ++ Fed n ∷ []) number) now.feeds h.feeds;
    }
  where
    setup : SetupView
    setup = setup_view kept

    its : IsFed setup (rank_in kept) row old.issued old.runs.items mid.runs.items
    its = subst (λ (s : Setup). IsFed (setup_view s) (rank_in s) row old.issued old.runs.items
        mid.runs.items) h.same fed

    now : AreIssued setup (length rows) (place + 1) old.issued new.issued mid.feeds new.feeds
        mid.runs.items new.runs.items
    now =
        subst (λ (n : ℕ). AreIssued setup (length rows) (place + 1) n new.issued mid.feeds
        new.feeds mid.runs.items new.runs.items) issued
        (subst (λ (s : Setup). AreIssued (setup_view s) (length rows) (place + 1) mid.issued
        new.issued mid.feeds new.feeds mid.runs.items new.runs.items) (same ∙ h.same) next)

-- ---- the end

pub opens : (kept : Setup) (rows : List Row) (row : ℕ) (e : Executor) →
    HasFed kept rows row e → AreOpen e.runs.items
opens kept rows row e h =
    are_open (setup_view kept) rows e.feeds e.issued e.runs.items h.far

-- what was left, by an equal setup
record HasEndedAs (kept : Setup) (e : Executor) (ran : Ran) : Type 0 where
  pub runs : List WorkerRun
  pub ended :
      AllGain (setup_view kept) (end_block (setup_view kept).job) e.runs.items runs
  pub ran_is : ran ≡ left_by (setup_view kept) (e.feeds ++ Stopped ∷ []) runs

ended_as : (kept : Setup) (e : Executor) (left : Left) → e.setup.now ≡ kept → HasLeft e left →
    HasEndedAs kept e (left_view (setup_view kept) left)
ended_as kept e left same has =
    subst (λ (s : Setup). HasEndedAs s e (left_view (setup_view s) left)) same (record {
      runs = has.runs;
      ended = has.ended;
      ran_is = has.left_is;
    })

-- after the last row all requests are issued
all : (kept : Setup) (rows : List Row) (e : Executor) → HasFed kept rows (length rows) e →
    e.issued ≡ length (setup_view kept).plans
all kept rows e h =
    all_issued (afters (setup_view kept).requests) (length rows) e.issued h.waits
    ∙ (length-map (setup_view kept).requests (λ (request : Request). request.after)
    ∙ sym (covered kept).plan_each)

pub is_run : (kept : Setup) (rows : List Row) (place : ℕ) (e : Executor) (left : Left) →
    place ≡ length rows → HasFed kept rows place e → HasLeft e left →
    IsRun (setup_view kept) rows (left_view (setup_view kept) left)
is_run kept rows place e left end so_far has =
    subst (IsRun (setup_view kept) rows) (sym is)
    (stop_step (setup_view kept) rows e.feeds e.runs.items its.runs (covered kept) far its.ended
    (feed_last (setup_view kept) (length rows) (length rows) e.feeds (e.feeds ++ Stopped ∷ [])
    (feed_from 0 0 (afters (setup_view kept).requests) (length rows)) (omega arith) refl h.feeds))
  where
    h : HasFed kept rows (length rows) e
    h = subst (λ (n : ℕ). HasFed kept rows n e) end so_far

    its : HasEndedAs kept e (left_view (setup_view kept) left)
    its = ended_as kept e left h.same has

    is : left_view (setup_view kept) left ≡ left_by (setup_view kept) (e.feeds ++ Stopped ∷ []) its.runs
    is = its.ran_is

    far : IsSoFar (setup_view kept) rows e.feeds (length (setup_view kept).plans) e.runs.items
    far =
        subst (λ (n : ℕ). IsSoFar (setup_view kept) rows e.feeds n e.runs.items)
        (all kept rows e h) h.far

pub is_in_order : (kept : Setup) (rows : List Row) (place : ℕ) (e : Executor) (left : Left) →
    place ≡ length rows → HasFed kept rows place e → HasLeft e left →
    IsInOrder (length rows) (left_view (setup_view kept) left)
is_in_order kept rows place e left end so_far has =
    subst (IsInOrder (length rows)) (sym its.ran_is)
    (ends_sorted (setup_view kept) (length rows) (e.feeds ++ Stopped ∷ []) e.runs.items its.runs
    h.far.quiescent.long its.ended sorted)
  where
    h : HasFed kept rows (length rows) e
    h = subst (λ (n : ℕ). HasFed kept rows n e) end so_far

    its : HasEndedAs kept e (left_view (setup_view kept) left)
    its = ended_as kept e left h.same has

    sorted : AreSorted (setup_view kept) (length rows) (length rows)
        (length (setup_view kept).plans) e.runs.items
    sorted =
        subst (λ (n : ℕ).
        AreSorted (setup_view kept) (length rows) (length rows) n e.runs.items)
        (all kept rows e h) h.sorted
