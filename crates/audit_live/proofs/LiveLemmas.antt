-- Live runs, and runs that wait as records show it.
use Rattle.std.proofs.Common.{◌≡◌, ◌≤◌, ◌∙◌, ◌∷◌, ℕ, List, Some, ap, arith, length, min, slice_get, subst, sym}
use Rattle.std.proofs.lemmas.List.{length-map}
use Rattle.csv.specs.Reading.{default_config, records, strip_bom}
use Rattle.sink_journal.specs.Audit.{audit_header, audit_records}
use Rattle.sink_journal.specs.declared.audit.Noted.{Noted}
use Rattle.sink_journal.specs.declared.journal.Feed.{Feed}
use Rattle.tuple_trace.specs.declared.row.Row.{Row}
use Rattle.versions.specs.declared.request.Request.{Request}
use Rattle.flow_model.specs.Feeding.{feed_from}
use Rattle.flow_model.specs.Requests.{afters}
use Rattle.flow_model.specs.Run.{IsRun, Ran}
use Rattle.flow_model.specs.SetupView.{SetupView}
use Rattle.flow_model.specs.Waiting.{waiting_for, with_afters}
use Rattle.flow_model.proofs.WaitingLemmas.{length_waiting}
use Rattle.coordinator.specs.Feeding.{issue_rows}
use Rattle.flow_engine.specs.Recorded.{NoneIsEarly}
use Rattle.flow_engine.proofs.Moving.{afters_are}
use Rattle.audit_live.specs.Live.{IsRunLive}
use Rattle.audit_live.specs.Shown.{rows_shown, shown_waits, waits_from}
use Rattle.audit_live.proofs.FeedLemmas.{issues_each, issues_in_order, of_those, rising_rows}
use Rattle.audit_live.proofs.RecordLemmas.{audit_shown}
use Rattle.audit_live.proofs.WaitLemmas.{waits_as_shown, waits_each, waits_not_early, waits_of_those, waits_rise}

-- the feed of a run whose requests wait for these rows
feed_of_waits : (setup : SetupView) (waits : List ℕ) (rows : List Row) (ran : Ran) → IsRun (waiting_for waits setup) rows ran
    → ran.feeds ≡ feed_from 0 0 (afters (with_afters waits setup.requests)) (length rows)
feed_of_waits setup waits rows ran is = is.run.feed ∙ ap (λ (v : SetupView). feed_from 0 0 (afters v.requests) (length rows)) is.setup_is

as_many : (waits : List ℕ) (requests : List Request) → length (afters (with_afters waits requests)) ≡ length requests
as_many waits requests = length-map (with_afters waits requests) (λ (request : Request). request.after) ∙ length_waiting waits requests

-- ---- a live run

module _ (setup : SetupView) (rows : List Row) (ran : Ran) (live : IsRunLive setup rows ran) where
  abbrev waits : List ℕ
  waits = issue_rows 0 ran.feeds

  one_each : length waits ≡ length setup.requests
  one_each =
      ap (λ (feeds : List Feed). length (issue_rows 0 feeds)) (feed_of_waits setup waits rows ran live.run)
      ∙ (issues_each (length rows) (afters (with_afters waits setup.requests)) ∙ as_many waits setup.requests)

  own : of_those (length rows) waits ≡ waits
  own =
      let e = afters_are waits setup.requests one_each in
      let f : ran.feeds ≡ feed_from 0 0 waits (length rows) = feed_of_waits setup waits rows ran live.run ∙ ap (λ (l : List ℕ). feed_from 0 0 l (length rows)) e in
      sym (issues_in_order (length rows) waits (rising_rows 0 0 ran.feeds (omega arith))) ∙ sym (ap (issue_rows 0) f)

  not_early : (place after waited : ℕ) → slice_get (afters setup.requests) place ≡ Some after → slice_get waits place ≡ Some waited → min after (length rows) ≤ waited
  not_early place after waited g h =
      live.not_early place after waited g (ap (λ (l : List ℕ). slice_get l place) (afters_are waits setup.requests one_each) ∙ h)

  waits_are_own : waits_from (length rows) 0 setup.requests waits ≡ waits
  waits_are_own = waits_as_shown (length rows) 0 setup.requests waits one_each (rising_rows 0 0 ran.feeds (omega arith)) own not_early

  pub live_shows : (refused : List Noted) (text : List ℕ) → records default_config (strip_bom text) ≡ audit_header ∷ audit_records ran.setup.job refused ran.feeds ran.journals ran.states
      → shown_waits (length rows) setup.requests (records default_config (strip_bom text)) ≡ issue_rows 0 ran.feeds
  live_shows refused text fits =
      ap (λ (told : List (List (List ℕ))). waits_from (length rows) 0 setup.requests (rows_shown 0 told)) fits
      ∙ (ap (waits_from (length rows) 0 setup.requests) (audit_shown ran.setup.job refused ran.feeds ran.journals ran.states)
      ∙ waits_are_own)

  pub live_waits : (refused : List Noted) (text : List ℕ) → records default_config (strip_bom text) ≡ audit_header ∷ audit_records ran.setup.job refused ran.feeds ran.journals ran.states
      → IsRun (waiting_for (shown_waits (length rows) setup.requests (records default_config (strip_bom text))) setup) rows ran
  live_waits refused text fits = subst (λ (l : List ℕ). IsRun (waiting_for l setup) rows ran) (sym (live_shows refused text fits)) live.run

-- ---- a run that waits as records show it

module _ (setup : SetupView) (rows : List Row) (told : List (List (List ℕ))) (ran : Ran) (is : IsRun (waiting_for (shown_waits (length rows) setup.requests told) setup) rows ran) where
  abbrev shown : List ℕ
  shown = shown_waits (length rows) setup.requests told

  pub waits_so : issue_rows 0 ran.feeds ≡ shown
  waits_so =
      let e = afters_are shown setup.requests (waits_each (length rows) 0 setup.requests (rows_shown 0 told)) in
      let f : ran.feeds ≡ feed_from 0 0 shown (length rows) = feed_of_waits setup shown rows ran is ∙ ap (λ (l : List ℕ). feed_from 0 0 l (length rows)) e in
      ap (issue_rows 0) f
      ∙ (issues_in_order (length rows) shown (waits_rise (length rows) 0 setup.requests (rows_shown 0 told) (omega arith))
      ∙ waits_of_those (length rows) 0 setup.requests (rows_shown 0 told))

  pub is_live : IsRunLive setup rows ran
  is_live = record {
    run = subst (λ (l : List ℕ). IsRun (waiting_for l setup) rows ran) (sym waits_so) is;
    not_early = subst (λ (l : List ℕ). NoneIsEarly (length rows) setup.requests (with_afters l setup.requests)) (sym waits_so) (waits_not_early (length rows) 0 setup.requests (rows_shown 0 told));
  }
