-- What was run, with a setup that was made again.
use Rattle.std.proofs.Common.{◌≡◌, ◌∙◌, ℕ, Bool, List, Some, ap, length, subst, sym}
use Rattle.std.specs.Prelude.{All, IsTrue}
use Rattle.flow_model.specs.Consistent.{IsConsistent}
use Rattle.flow_model.specs.Least.{ArePlansLeast}
use Rattle.flow_model.specs.Planned.{IsExactForStream}
use Rattle.flow_model.specs.Record.{record_view}
use Rattle.flow_model.specs.Run.{IsRun, Ran, ran_as}
use Rattle.flow_model.specs.Setup.{setup_view}
use Rattle.flow_model.specs.SetupView.{SetupView}
use Rattle.jobs.specs.JobView.{JobView}
use Rattle.jobs.specs.Nodes.{worker_count}
use Rattle.flow_laws.specs.Determined.{NumbersAllNodes}
use Rattle.serial_order.specs.Serials.{serials}
use Rattle.sink_journal.specs.declared.journal.Feed.{Feed}
use Rattle.tuple_trace.specs.declared.row.Row.{Row}
use Rattle.versions.specs.Judged.{judged_within}
use Rattle.versions.specs.declared.request.Request.{Request}
use Rattle.fries_steps.specs.Live.{AreReleased}
use Rattle.fries_steps.specs.Running.{HaveOneOrder}
use Rattle.fries_steps.specs.SetupFor.{IsSetupWith}
use Rattle.fries_steps.specs.declared.running.Done.{Done}
use Rattle.stream_intake.specs.Intake.{IsMaskOfNodes}
use Rattle.fries_verify.specs.StreamSetup.{IsStreamRunOf, IsStreamSetupFor}
use Rattle.fries_verify.specs.inner.Again.{IsAgain}

module _ (done again : Done) (same : IsAgain done again) where
  -- the record is the same
  pub record_again : record_view again.ran ≡ record_view done.ran
  record_again =
      ap (λ (v : SetupView). ran_as v again.ran.feeds again.ran.journals again.ran.states)
      same.view
      ∙ (ap (λ fs. ran_as (setup_view done.ran.setup) fs again.ran.journals again.ran.states)
      same.feeds
      ∙ (ap (λ js. ran_as (setup_view done.ran.setup) done.ran.feeds js again.ran.states)
      same.journals
      ∙ ap (λ ss. ran_as (setup_view done.ran.setup) done.ran.feeds done.ran.journals ss)
      same.states))

  -- the setup is one for the same requests
  pub setup_again : (Keeps : List Request → List Request → Type 0) (ordered : Bool) (job : JobView)
      (requests : List Request) → IsStreamSetupFor Keeps ordered job requests done.ran.setup
      → IsStreamSetupFor Keeps ordered job requests again.ran.setup
  setup_again Keeps ordered job requests is =
      let splits : again.ran.setup.splits ≡ done.ran.setup.splits =
      ap (λ (v : SetupView). v.splits) same.view in
      let judged = judged_within (Some done.ran.setup.splits) job requests in
      let made = is.made in
      record {
        made =
            subst (λ (mask : ℕ). IsSetupWith IsExactForStream Keeps ordered job
            (judged_within (Some mask) job requests) again.ran.setup) (sym splits)
            (record {
              job_is = ap (λ (v : SetupView). v.job) same.view ∙ made.job_is;
              accepted =
                  subst (λ (v : SetupView). Keeps judged.accepted v.requests)
                  (sym same.view) made.accepted;
              refused = same.judged ∙ made.refused;
              exact = subst IsExactForStream (sym same.view) made.exact;
              least = subst ArePlansLeast (sym same.view) made.least;
              numbers =
                  subst (λ (v : SetupView). All NumbersAllNodes v.plans) (sym same.view)
                  made.numbers;
              mode = ap (λ (v : SetupView). v.ordered) same.view ∙ made.mode;
            });
        splits = subst (λ (mask : ℕ). IsMaskOfNodes job.nodes mask) (sym splits) is.splits;
      }

  -- so what was run is that of the same requests and rows
  pub run_again : (rows : List Row) (ordered : Bool) (job : JobView) (requests : List Request)
      → IsStreamRunOf (AreReleased (length rows) done.ran.feeds) ordered job requests rows done
      → IsStreamRunOf (AreReleased (length rows) again.ran.feeds) ordered job requests rows again
  run_again rows ordered job requests of =
      let mode : IsTrue again.ran.setup.ordered → IsTrue done.ran.setup.ordered =
      λ on. subst (λ (v : SetupView). IsTrue v.ordered) same.view on in
      record {
        setup =
            subst (λ (fs : List Feed). IsStreamSetupFor (AreReleased (length rows) fs) ordered job
            requests again.ran.setup) (sym same.feeds)
            (setup_again (AreReleased (length rows) done.ran.feeds) ordered job requests
            of.setup);
        run =
            subst (λ (v : SetupView). IsRun v rows (record_view again.ran)) (sym same.view)
            (subst (λ (r : Ran). IsRun (setup_view done.ran.setup) rows r) (sym record_again)
            of.run);
        consistent = subst (λ (r : Ran). IsConsistent rows r) (sym record_again) of.consistent;
        one_order = λ on.
            subst (λ (r : Ran). HaveOneOrder rows r) (sym record_again) (of.one_order (mode on));
        numbers = λ on.
            same.serial
            ∙ (of.numbers (mode on) ∙ ap (λ (r : Ran). serials r rows) (sym record_again));
        refused = same.refused ∙ (of.refused ∙ sym same.judged);
        count = same.requests ∙ of.count;
      }

  -- it has a journal for each worker
  pub journals_again : length done.ran.journals ≡ worker_count done.ran.setup.job.nodes
      → length again.ran.journals ≡ worker_count again.ran.setup.job.nodes
  journals_again each =
      ap (λ js. length js) same.journals
      ∙ (each ∙ ap (λ (v : SetupView). worker_count v.job.nodes) (sym same.view))
