-- The journals of two parts of a run, worker by worker.
use Rattle.std.proofs.Common.{◌≡◌, ◌∙◌, ◌<◌, ◌≤◌, ◌++◌, ℕ, List, sym, subst, ap, arith, true}
use Rattle.std.proofs.Common.{length, map, option_map, Some, slice_get}
use Rattle.std.specs.List.{zip}
use Rattle.std.proofs.lemmas.Option.{same_Some, slice_get-map, slice_get_within}
use Rattle.sink_journal.specs.declared.journal.Entry.{Entry}
use Rattle.tuple_trace.specs.declared.row.Row.{Row}
use Rattle.flow_model.specs.Begin.{Begin, at_first}
use Rattle.flow_model.specs.Requests.{changes, names}
use Rattle.flow_model.specs.Run.{Ran, ran_as}
use Rattle.flow_model.specs.SetupView.{SetupView, Worker}
use Rattle.flow_model.specs.Whole.{changed_workers, journals_at}
use Rattle.flow_model.specs.Workers.{workers_in}
use Rattle.flow_model.proofs.ElementLemmas.{IsIn, filter_in, filter_map_in, in_filter}
use Rattle.flow_model.proofs.ElementLemmas.{in_filter_map, in_of_place}
use Rattle.flow_model.proofs.WorkerLemmas.{IsWorker, in_workers, journal_of, journal_there, who_is}
use Rattle.flow_model.proofs.WorkerLemmas.{who_there, worker_is, worker_no}
use Rattle.savepoint.specs.Parts.{endless, first_of, joined_journal}
use Rattle.savepoint.proofs.CutLemmas.{get_zip, request_first}
use Rattle.savepoint.proofs.PartsLemmas.{first_part}
use Rattle.flow_laws.proofs.RunLemmas.{RunningFrom}

-- the second part, under the whole setup
abbrev pub second_part : SetupView → Ran → Ran
second_part setup second = ran_as setup second.feeds second.journals second.states

-- a joined journal, of a node that the request changes
pub record Changed (setup : SetupView) (m : ℕ) (first second : Ran) (request : ℕ)
    (journal : List Entry) : Type 0 where
  pub w : ℕ
  pub within : w < length (workers_in setup.job)
  pub changed : changes setup request (worker_no setup w).node ≡ true
  pub both : journal ≡ endless (journal_of (first_part setup m first) w)
      ++ journal_of (second_part setup second) w

-- a run of a setup's first requests, and one that goes on from it
module _ (setup : SetupView) (m : ℕ) (begin : Begin) (early rows : List Row) (first second : Ran)
    (g : RunningFrom (at_first (first_of setup m)) early (first_part setup m first))
    (h : RunningFrom begin rows (second_part setup second))
  where
    abbrev cut : SetupView
    cut = first_of setup m

    abbrev one : Ran
    one = first_part setup m first

    abbrev two : Ran
    two = second_part setup second

    pub changed_journal : (request : ℕ) (journal : List Entry)
        → IsIn journal (journals_at (map joined_journal (zip first.journals second.journals))
        (changed_workers setup request)) → Changed setup m first second request journal
    changed_journal request journal i =
        let p = in_filter_map
        (λ (who : Worker). slice_get (map joined_journal (zip first.journals second.journals))
        who.number) journal (changed_workers setup request) i in
        let q = in_filter (λ (who : Worker). changes setup request who.node) p.0
        (workers_in setup.job) p.1 in
        let w : ℕ = p.0.number in
        let is : IsWorker setup.job p.0 = in_workers setup.job p.0 q.0 in
        let same : worker_no setup w ≡ p.0 = who_is setup w p.0 is.there in
        let lt : w < length (workers_in setup.job) =
        slice_get_within (workers_in setup.job) w p.0 is.there in
        let x : slice_get first.journals w ≡ Some (journal_of one w) =
        journal_there one w (omega (arith, lt, g.run.one_journal_each)) in
        let y : slice_get second.journals w ≡ Some (journal_of two w) =
        journal_there two w (omega (arith, lt, h.run.one_journal_each)) in
        let at : slice_get (map joined_journal (zip first.journals second.journals)) w
        ≡ Some (endless (journal_of one w) ++ journal_of two w) =
        slice_get-map joined_journal (zip first.journals second.journals) w
        ∙ ap (option_map joined_journal)
        (get_zip first.journals second.journals w (journal_of one w) (journal_of two w) x y) in
        record {
          w = w;
          within = lt;
          changed = rw same q.1;
          both = same_Some journal (endless (journal_of one w) ++ journal_of two w) (sym p.2 ∙ at);
        }

    -- the first part has the same request
    pub changed_first : (request node : ℕ) → request ≤ m → changes setup request node ≡ true
        → changes cut request node ≡ true
    changed_first request node le e = ap (λ o. names o node) (request_first setup m request le) ∙ e

    -- and of such a node it has a journal
    pub in_first : (request w : ℕ) → request ≤ m → w < length (workers_in setup.job)
        → changes setup request (worker_no setup w).node ≡ true
        → IsIn (journal_of one w) (journals_at first.journals (changed_workers cut request))
    in_first request w le lt e =
        let who : Worker = worker_no setup w in
        filter_map_in (λ (who : Worker). slice_get first.journals who.number) who (journal_of one w)
        (changed_workers cut request)
        (filter_in (λ (who : Worker). changes cut request who.node) who (workers_in setup.job)
        (in_of_place who (workers_in setup.job) w (who_there setup w lt))
        (changed_first request who.node le e))
        (subst (λ k. slice_get first.journals k ≡ Some (journal_of one w))
        (sym (worker_is setup w lt).0)
        (journal_there one w (omega (arith, lt, g.run.one_journal_each))))
