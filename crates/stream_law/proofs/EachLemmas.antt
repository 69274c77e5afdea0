-- Borders by each journal of a run, and in a run without a row.
use Rattle.std.proofs.Common.{◌≡◌, ◌<◌, ◌≤◌, ◌⊎◌, ℕ, List, [], inl, inr, refl, subst, arith, true}
use Rattle.std.proofs.Common.{false, Bool, slice_get}
use Rattle.std.specs.List.{list_any}
use Rattle.std.proofs.lemmas.List.Folds.{list_any_none}
use Rattle.std.proofs.lemmas.Option.{slice_get_within}
use Rattle.sink_journal.specs.declared.journal.Entry.{Entry}
use Rattle.tuple_trace.specs.declared.row.Row.{Row}
use Rattle.flow_model.specs.Begin.{Begin}
use Rattle.flow_model.specs.Run.{Ran}
use Rattle.flow_model.specs.SetupView.{Worker}
use Rattle.flow_model.specs.Whole.{after_turn, before_turn, changed_workers, journals_at, meets_row}
use Rattle.flow_model.proofs.ElementLemmas.{IsIn, all_of_at, in_any, in_filter_map}
use Rattle.flow_model.proofs.RunLemmas.{HasWorker}
use Rattle.flow_model.proofs.WorkerLemmas.{journal_is, journal_of}
use Rattle.flow_laws.proofs.RunLemmas.{RunningFrom}
use Rattle.stream_law.specs.Border.{IsBorder}
use Rattle.stream_law.proofs.FedLemmas.{unfed_unmet}
use Rattle.stream_law.proofs.MeetLemmas.{unmet_around}

-- ---- all journals and one

none_pass : {A : Type 0} (test : A → Bool) (xs : List A) → ((x : A) → IsIn x xs → test x ≡ false)
    → list_any test xs ≡ false
none_pass test xs none = list_any_none test xs (all_of_at (λ x. test x ≡ false) xs none)

pub one_fails : {A : Type 0} (test : A → Bool) (x : A) (xs : List A) → IsIn x xs → list_any test xs
    ≡ false → test x ≡ false
one_fails test x xs i none = go (test x) refl
  where
    go : (b : Bool) → test x ≡ b → test x ≡ false
    go false e = e
    go true e = let k : list_any test xs ≡ true = in_any test x xs i e in absurd (cc)

-- the row is a border if it is one in each journal of a node that the request changes
pub border_of_each : (ran : Ran) (request border : ℕ)
    → ((journal : List Entry) (row : ℕ)
    → IsIn journal (journals_at ran.journals (changed_workers ran.setup request)) → row ≤ border
    → meets_row row (after_turn request journal) ≡ false)
    → ((journal : List Entry) (row : ℕ)
    → IsIn journal (journals_at ran.journals (changed_workers ran.setup request)) → border < row
    → meets_row row (before_turn request journal) ≡ false)
    → IsBorder ran request border
border_of_each ran request border up_to later = record {
  up_to = λ row le. none_pass (λ (journal : List Entry). meets_row row (after_turn request journal))
      (journals_at ran.journals (changed_workers ran.setup request))
      (λ journal i. up_to journal row i le);
  later = λ row lt. none_pass
      (λ (journal : List Entry). meets_row row (before_turn request journal))
      (journals_at ran.journals (changed_workers ran.setup request))
      (λ journal i. later journal row i lt);
}

-- ---- a run without a row

-- a journal of a changed node is that of a worker
worker_with_journal : (begin : Begin) (rows : List Row) (ran : Ran) (g : RunningFrom begin rows ran)
    (request : ℕ) (journal : List Entry)
    → IsIn journal (journals_at ran.journals (changed_workers ran.setup request)) → (w : ℕ)
    × HasWorker ran w × (journal_of ran w ≡ journal)
worker_with_journal begin rows ran g request journal i =
    let p = in_filter_map (λ (who : Worker). slice_get ran.journals who.number) journal
    (changed_workers ran.setup request) i in
    let lt = slice_get_within ran.journals p.0.number journal p.2 in
    (p.0.number, omega (arith, lt, g.run.one_journal_each), journal_is ran p.0.number journal p.2)

pub first_border : (begin : Begin) (ran : Ran) (g : RunningFrom begin [] ran) (request : ℕ)
    → IsBorder ran request begin.row
first_border begin ran g request =
    border_of_each ran request begin.row (λ journal row i le. (around journal row i (inl le)).1)
    (λ journal row i lt. (around journal row i (inr (omega (arith, lt)))).0)
  where
    around : (journal : List Entry) (row : ℕ)
        → IsIn journal (journals_at ran.journals (changed_workers ran.setup request))
        → (row ≤ begin.row) ⊎ (0 < row)
        → (meets_row row (before_turn request journal) ≡ false)
        × (meets_row row (after_turn request journal) ≡ false)
    around journal row i out =
        let h = worker_with_journal begin [] ran g request journal i in
        unmet_around request row journal
        (subst (λ (j : List Entry). meets_row row j ≡ false) h.2
        (unfed_unmet begin [] ran g h.0 row h.1 out))
