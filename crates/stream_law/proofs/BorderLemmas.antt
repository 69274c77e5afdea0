-- The borders of requests in two parts of a run.
use Rattle.std.proofs.Common.{◌≡◌, ◌<◌, ◌≤◌, ◌⊎◌, ℕ, List, inl, inr, refl, arith, true, false}
use Rattle.std.proofs.Common.{length}
use Rattle.std.proofs.lemmas.List.{length-take}
use Rattle.sink_journal.specs.declared.journal.Entry.{Entry}
use Rattle.sink_journal.specs.declared.journal.Entry.TheVariants as entry
use Rattle.tuple_trace.specs.declared.row.Row.{Row}
use Rattle.flow_model.specs.Begin.{Begin, at_first}
use Rattle.flow_model.specs.Covers.{covers}
use Rattle.flow_model.specs.Requests.{changes}
use Rattle.flow_model.specs.Run.{Ran}
use Rattle.flow_model.specs.SetupView.{SetupView}
use Rattle.flow_model.specs.Whole.{after_turn, before_turn, changed_workers, journals_at, meets_row}
use Rattle.flow_model.specs.Workers.{workers_in}
use Rattle.flow_model.proofs.ElementLemmas.{IsIn}
use Rattle.flow_model.proofs.MarkerLemmas.{turned_is_due}
use Rattle.flow_model.proofs.PlannedLemmas.{covers_within, due_covers}
use Rattle.flow_model.proofs.WorkerLemmas.{journal_of, worker_no}
use Rattle.savepoint.specs.Parts.{first_of, joined}
use Rattle.savepoint.proofs.PartsLemmas.{first_part}
use Rattle.flow_laws.proofs.RunLemmas.{RunningFrom, duties_from, execution, start_from}
use Rattle.flow_laws.proofs.WholeLemmas.{covered_turns}
use Rattle.stream_law.specs.Border.{IsBorder}
use Rattle.stream_law.proofs.FedLemmas.{unfed_unmet}
use Rattle.stream_law.proofs.JoinedLemmas.{anew_after, anew_before, kept_after, kept_before}
use Rattle.stream_law.proofs.EachLemmas.{border_of_each, one_fails}
use Rattle.stream_law.proofs.PairLemmas.{Changed, changed_first, changed_journal, in_first}
use Rattle.stream_law.proofs.PairLemmas.{second_part}

-- a run of a setup's first requests, and one that goes on from it
module _ (setup : SetupView) (m : ℕ) (begin : Begin) (early rows : List Row) (first second : Ran)
    (g : RunningFrom (at_first (first_of setup m)) early (first_part setup m first))
    (h : RunningFrom begin rows (second_part setup second))
  where
    abbrev cut : SetupView
    cut = first_of setup m

    abbrev one : Ran
    one = first_part setup m first

    abbrev two : Ran
    two = second_part setup second

    same_worker : (w : ℕ) → worker_no cut w ≡ worker_no setup w
    unfolding worker_no
    same_worker w = refl

    -- the first part turns its own requests, and no others
    turned_own : (request w : ℕ) → request ≤ m → w < length (workers_in setup.job)
        → changes setup request (worker_no setup w).node ≡ true
        → IsIn (entry.Turned request) (journal_of one w)
    turned_own request w le lt e =
        let here : changes cut request (worker_no cut w).node ≡ true =
        rw (same_worker w) (changed_first setup m begin early rows first second g h request
        (worker_no setup w).node le e) in
        let c : covers cut request (worker_no cut w).node ≡ true =
        g.kept.asked request (worker_no cut w).node
        (g.kept.changed request (worker_no cut w).node here) in
        covered_turns (at_first cut) early one g w request lt
        (covers_within cut request (worker_no cut w).node c).0 c

    turned_no_other : (request w : ℕ) → m < request → w < length (workers_in setup.job)
        → ¬ IsIn (entry.Turned request) (journal_of one w)
    turned_no_other request w above lt i =
        let due = turned_is_due (duties_from (at_first cut) one w) (start_from (at_first cut) one w)
        (journal_of one w) request (execution (at_first cut) early one g w lt) i in
        let within = covers_within cut request (worker_no cut w).node
        (due_covers cut 0 (worker_no cut w).node request due) in
        absurd (omega (arith, above, within.1, length-take m setup.plans))

    -- a row is met by neither part
    unmet_first : (w row : ℕ) → w < length (workers_in setup.job) → length early < row
        → meets_row row (journal_of one w) ≡ false
    unmet_first w row lt out = unfed_unmet (at_first cut) early one g w row lt (inr out)

    unmet_second : (w row : ℕ) → w < length (workers_in setup.job) → (row ≤ begin.row)
        ⊎ (length rows < row) → meets_row row (journal_of two w) ≡ false
    unmet_second w row lt out = unfed_unmet begin rows two h w row lt out

    -- a second part without a row
    pub anew_border : (request : ℕ) → m < request → length early ≡ begin.row → length rows
        ≡ begin.row → IsBorder (joined setup first second) request begin.row
    anew_border request above all none =
        border_of_each (joined setup first second) request begin.row
        (λ journal row i le.
        let k : Changed setup m first second request journal =
        changed_journal setup m begin early rows first second g h request journal i in
        rw k.both (anew_after request row (journal_of one k.w) (journal_of two k.w)
        (turned_no_other request k.w above k.within) (unmet_second k.w row k.within (inl le))))
        (λ journal row i lt.
        let k : Changed setup m first second request journal =
        changed_journal setup m begin early rows first second g h request journal i in
        rw k.both (anew_before request row (journal_of one k.w) (journal_of two k.w)
        (unmet_first k.w row k.within (omega (arith, lt, all)))
        (unmet_second k.w row k.within (inr (omega (arith, lt, none))))))

    -- any second part
    pub kept_border : (request border : ℕ) → request ≤ m → border ≤ begin.row
        → IsBorder one request border → IsBorder (joined setup first second) request border
    kept_border request border le under is =
        border_of_each (joined setup first second) request border
        (λ journal row i low.
        let k : Changed setup m first second request journal =
        changed_journal setup m begin early rows first second g h request journal i in
        let old : meets_row row (after_turn request (journal_of one k.w)) ≡ false =
        one_fails (λ (j : List Entry). meets_row row (after_turn request j)) (journal_of one k.w)
        (journals_at first.journals (changed_workers cut request))
        (in_first setup m begin early rows first second g h request k.w le k.within k.changed)
        (is.up_to row low) in
        rw k.both (kept_after request row (journal_of one k.w) (journal_of two k.w)
        (turned_own request k.w le k.within k.changed) old
        (unmet_second k.w row k.within (inl (omega (arith, low, under))))))
        (λ journal row i high.
        let k : Changed setup m first second request journal =
        changed_journal setup m begin early rows first second g h request journal i in
        let old : meets_row row (before_turn request (journal_of one k.w)) ≡ false =
        one_fails (λ (j : List Entry). meets_row row (before_turn request j)) (journal_of one k.w)
        (journals_at first.journals (changed_workers cut request))
        (in_first setup m begin early rows first second g h request k.w le k.within k.changed)
        (is.later row high) in
        rw k.both (kept_before request row (journal_of one k.w) (journal_of two k.w)
        (turned_own request k.w le k.within k.changed) old))
