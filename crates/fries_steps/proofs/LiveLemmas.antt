-- What a live run of the judged requests is.
use Rattle.std.proofs.Common.{◌≡◌, ◌∙◌, ◌+◌, ◌≤◌, ◌||◌, ℕ, zero, suc, Bool, true, false, List, [], ◌∷◌, All, length, ap, arith, refl, subst, sym, take, slice_get}
use Rattle.std.specs.Prelude.{◌↔◌, IsTrue}
use Rattle.std.specs.List.{list_any}
use Rattle.jobs.specs.Nodes.{AreFromSources}
use Rattle.jobs.specs.JobView.{JobView}
use Rattle.flow_dag.specs.Masks.{Has}
use Rattle.sink_journal.specs.declared.journal.Feed.{Feed}
use Rattle.tuple_trace.specs.declared.row.Row.{Row}
use Rattle.versions.specs.Book.{is_named}
use Rattle.versions.specs.Judged.{judged}
use Rattle.versions.specs.declared.request.Change.{Change}
use Rattle.versions.specs.declared.request.Request.{Request}
use Rattle.flow_model.specs.Least.{ArePlansLeast}
use Rattle.flow_model.specs.Planned.{IsExact, is_named_by, is_planned, is_split_node, makes_split, splits_at}
use Rattle.flow_model.specs.Setup.{setup_view}
use Rattle.flow_model.specs.SetupView.{SetupView}
use Rattle.flow_model.specs.Waiting.{waiting_for, with_afters}
use Rattle.flow_model.specs.declared.record.RunRecord.{RunRecord}
use Rattle.flow_model.specs.declared.setup.Setup.{Setup}
use Rattle.flow_model.proofs.WaitingLemmas.{length_waiting}
use Rattle.flow_worker.specs.Parts.{WorkedIs}
use Rattle.coordinator.specs.Boxes.{LastAtLeast}
use Rattle.coordinator.specs.Feeding.{issue_rows}
use Rattle.flow_engine.specs.Flown.{flown_record}
use Rattle.flow_laws.specs.Determined.{NumbersAllNodes}
use Rattle.flow_engine.specs.Recorded.{NoneIsEarly}
use Rattle.live_control.specs.Asking.{AsksIs}
use Rattle.live_control.specs.Hearing.{IsHeard}
use Rattle.live_control.specs.Line.{InboxIs, last_load}
use Rattle.live_control.specs.declared.hearing.Heard.{Heard}
use Rattle.fries_steps.specs.Live.{AreReleased, IsLiveRun}
use Rattle.fries_steps.specs.inner.Beside.{IsFlownLive}
use Rattle.fries_steps.specs.Running.{IsDoneOf, IsRunOf}
use Rattle.fries_steps.specs.SetupFor.{AreSame, IsSetupFor}
use Rattle.fries_steps.specs.declared.running.Done.{Done}
use Rattle.fries_steps.proofs.RunLemmas.{HasLaws, is_run_of, run_so}
use Rattle.live_control.proofs.LoadLemmas.{last_from-push}

-- ---- requests that wait for other rows

pub any_waiting : (test : List Change → Bool) (waits : List ℕ) (qs : List Request) → list_any (λ (q : Request). test q.changes) (with_afters waits qs) ≡ list_any (λ (q : Request). test q.changes) qs
any_waiting test [] qs = refl
any_waiting test (w ∷ ws) [] = refl
any_waiting test (w ∷ ws) (q ∷ qs) = ap (λ b. test q.changes || b) (any_waiting test ws qs)

pub any_first : (test : List Change → Bool) (n : ℕ) (waits : List ℕ) (qs : List Request) → list_any (λ (q : Request). test q.changes) (take n (with_afters waits qs)) ≡ list_any (λ (q : Request). test q.changes) (take n qs)
any_first test zero waits qs = refl
any_first test (suc n) [] qs = refl
any_first test (suc n) (w ∷ ws) [] = refl
any_first test (suc n) (w ∷ ws) (q ∷ qs) = ap (λ b. test q.changes || b) (any_first test n ws qs)

pub named_waiting : (waits : List ℕ) (qs : List Request) (r node : ℕ) → is_named_by (slice_get (with_afters waits qs) r) node ≡ is_named_by (slice_get qs r) node
named_waiting [] qs r node = refl
named_waiting (w ∷ ws) [] r node = refl
named_waiting (w ∷ ws) (q ∷ qs) zero node = refl
named_waiting (w ∷ ws) (q ∷ qs) (suc r) node = named_waiting ws qs r node

pub planned_waiting : (ordered : Bool) (waits : List ℕ) (qs : List Request) (r node : ℕ) → is_planned ordered (with_afters waits qs) r node ≡ is_planned ordered qs r node
planned_waiting true waits qs r node = any_first (λ cs. is_named cs node) (r + 1) waits qs
planned_waiting false waits qs r node = named_waiting waits qs r node

pub splits_waiting : (v : SetupView) (waits : List ℕ) (node : ℕ) → splits_at v.job.nodes (with_afters waits v.requests) node ≡ splits_at v.job.nodes v.requests node
splits_waiting v waits node = ap (λ b. is_split_node (slice_get v.job.nodes node) || b) (any_waiting (λ cs. list_any (makes_split node) cs) waits v.requests)

pub exact_waiting : (v : SetupView) (waits : List ℕ) → IsExact v → IsExact (waiting_for waits v)
exact_waiting v waits is = record {
  splits = λ node. subst (λ b. Has v.splits node ↔ IsTrue b) (sym (splits_waiting v waits node)) (is.splits node);
  plans = record {
    one_each = is.plans.one_each ∙ sym (length_waiting waits v.requests);
    each = λ r plan from g. record {
      by = (is.plans.each r plan from g).by;
      asked = λ node. subst (λ b. Has plan.asked node ↔ IsTrue b) (sym (planned_waiting v.ordered waits v.requests r node)) ((is.plans.each r plan from g).asked node);
    };
  };
}

pub least_waiting : (v : SetupView) (waits : List ℕ) → ArePlansLeast v → ArePlansLeast (waiting_for waits v)
least_waiting v waits least zero plan g = least zero plan g
least_waiting v waits least (suc r) plan g = least (suc r) plan g

-- the setup of a live record is that of the job and its requests
pub setup_released : (job : JobView) (requests : List Request) (rows : List Row) (setup left : Setup) (inbox rest : InboxIs) (feeds : List Feed) (crew : List WorkedIs) → IsSetupFor AreSame false job requests setup
    → IsFlownLive setup inbox rows left feeds crew rest → IsSetupFor (AreReleased (length rows) feeds) false job requests left
setup_released job requests rows setup left inbox rest feeds crew is flown =
    let same : setup_view left ≡ waiting_for (issue_rows 0 feeds) (setup_view setup) = flown.recorded.0 in
    record {
      job_is = ap (λ (v : SetupView). v.job) same ∙ is.job_is;
      accepted = record {
        kept_are = ap (λ (v : SetupView). v.requests) same ∙ ap (with_afters (issue_rows 0 feeds)) is.accepted;
        not_early = subst (λ (qs : List Request). NoneIsEarly (length rows) qs left.judged.accepted) is.accepted flown.not_early;
      };
      refused = flown.recorded.1 ∙ is.refused;
      exact = subst IsExact (sym same) (exact_waiting (setup_view setup) (issue_rows 0 feeds) is.exact);
      least = subst ArePlansLeast (sym same) (least_waiting (setup_view setup) (issue_rows 0 feeds) is.least);
      numbers = subst (All NumbersAllNodes) (sym (ap (λ (v : SetupView). v.plans) same)) is.numbers;
      mode = ap (λ (v : SetupView). v.ordered) same ∙ is.mode;
    }

-- ---- what was heard

pub last_reaches : (r : ℕ) (loads : List ℕ) → LastAtLeast r loads → r ≤ last_load loads
last_reaches r loads (earlier, load, are, le) = (let e : last_load loads ≡ load = ap last_load are ∙ last_from-push 0 earlier load in omega (arith, e, le))

-- what the engine and the reader leave is a live run
pub live_of : (job : JobView) (requests : List Request) (rows : List Row) (setup left : Setup) (inbox rest : InboxIs) (feeds : List Feed) (crew : List WorkedIs) (ran : RunRecord) (done : Done) (heard : Heard) (was now : AsksIs)
    → IsSetupFor AreSame false job requests setup → IsFlownLive setup inbox rows left feeds crew rest → HasLaws left rows → AreFromSources job rows
    → ran ≡ flown_record left feeds crew → IsDoneOf ran requests rows done → IsHeard (length (judged job requests).accepted) was now heard → last_load rest.loads ≤ heard.releases
    → IsLiveRun job requests rows was now (record { done = done; heard = heard })
live_of job requests rows setup left inbox rest feeds crew ran done heard was now is flown laws sources are of took reached =
    let feeds_are : done.ran.feeds ≡ feeds = ap (λ (r : RunRecord). r.feeds) (of.ran_is ∙ are) in
    let setup_is = setup_released job requests rows setup left inbox rest feeds crew is flown in
    let run = is_run_of (AreReleased (length rows) feeds) false job requests rows left ran done setup_is laws sources (ap (λ (r : RunRecord). r.setup) are)
    (run_so left left rows feeds crew ran refl flown.run are) of in
    record {
      run = subst (λ (fs : List Feed). IsRunOf (AreReleased (length rows) fs) false job requests rows done) (sym feeds_are) run;
      heard = took;
      released = λ before after r n e c.
          (let le = last_reaches r rest.loads (flown.kept.1 before after r n (sym feeds_are ∙ e) c) in omega (arith, le, reached));
    }
