-- The function in force where a tuple is met is that of its row's table.
use Rattle.std.proofs.Common.{◌≡◌, ◌∙◌, ◌<◌, ◌≤◌, ◌+◌, ◌-◌, ◌==◌, ◌||◌, ◌⊎◌, ℕ, zero, suc, List, [], ◌∷◌, inl, inr, refl, sym, subst, ap, arith, true, false, Bool, cond, length, min, Some, None, Option, slice_get}
use Rattle.std.proofs.lemmas.Bool.{cases_lt, eq-eqb}
use Rattle.std.proofs.lemmas.Option.{slice_get_past}
use Rattle.jobs.specs.declared.func.Func.{Func}
use Rattle.sink_journal.specs.Alerts.{met}
use Rattle.sink_journal.specs.declared.journal.Entry.{Entry}
use Rattle.sink_journal.specs.declared.journal.Entry.TheVariants as entry
use Rattle.tuple_trace.specs.declared.row.Row.{Row}
use Rattle.tuple_trace.specs.declared.tuple.Tuple.{Tuple}
use Rattle.versions.specs.Book.{is_named}
use Rattle.versions.specs.declared.request.Change.{Change}
use Rattle.versions.specs.declared.request.Request.{Request}
use Rattle.flow_model.specs.Alone.{func_for}
use Rattle.flow_model.specs.Covers.{covers}
use Rattle.flow_model.specs.Law.{IsEnabled, IsExecution, Progress, Duties, after_entry, later_dues, next_due}
use Rattle.flow_model.specs.SetupView.{SetupView, Worker}
use Rattle.flow_model.specs.Replay.{StateView, after, after_change}
use Rattle.flow_model.specs.Requests.{change_among, change_asked, change_by, changes, func_after, func_with, names, request_at}
use Rattle.flow_model.specs.Run.{Ran}
use Rattle.flow_model.specs.Duties.{duties}
use Rattle.flow_model.specs.Whole.{IsWhole, after_turn, any_before, before_turn, changed_workers, is_new, is_turn, journals_at, meets_row, met_tuples}
use Rattle.flow_model.specs.Workers.{workers_in}
use Rattle.flow_model.proofs.ElementLemmas.{IsIn, filter_in, filter_map_in, in_any, in_of_place}
use Rattle.flow_model.proofs.WorkerLemmas.{IsWorker, begun, journal_of, worker_no, worker_is}
use Rattle.flow_model.proofs.PlannedLemmas.{HasCovers, due_of_cover, dues_rise}
use Rattle.flow_model.proofs.StoryLemmas.{IsRising, Moment, last_rises, rising_in, rising_next, story, turned_above}
use Rattle.flow_model.proofs.RunLemmas.{HasWorker, Running, execution, journal_here, start_of, duties_of}
use Rattle.flow_model.proofs.LineageLemmas.{story_of}
use Rattle.flow_model.proofs.TurnLemmas.{rest_has, turn_is}
use Rattle.flow_model.proofs.WholeLemmas.{covered_turns, whole}

-- ---- a request that doesn't change a node leaves its function

unnamed : (changes : List Change) (node : ℕ) → is_named changes node ≡ false → change_among changes node ≡ None
unnamed [] node h = refl
unnamed (c ∷ more) node h = go (c.node == node) h (unnamed more node)
  where
    go : (b : Bool) → b || is_named more node ≡ false → (is_named more node ≡ false → change_among more node ≡ None) → cond b (Some c) (change_among more node) ≡ None
    go true h f = absurd (cc)
    go false h f = f h

pub unchanged : (setup : SetupView) (r node : ℕ) → changes setup r node ≡ false → change_by setup r node ≡ None
unchanged setup r node h = go (request_at setup r) h
  where
    go : (o : Option Request) → names o node ≡ false → change_asked o node ≡ None
    go None h = refl
    go (Some request) h = unnamed request.changes node h

same_func : (setup : SetupView) (r node : ℕ) (f : Func) → changes setup r node ≡ false → func_with (change_by setup r node) f ≡ f
same_func setup r node f h = ap (λ o. func_with o f) (unchanged setup r node h)

-- requests that don't change the node make no difference
pub func_gap : (setup : SetupView) (node : ℕ) (f : Func) (low more : ℕ) → ((r : ℕ) → low < r → r ≤ low + more → changes setup r node ≡ false) → func_after setup node f (low + more) ≡ func_after setup node f low
func_gap setup node f low zero h = ap (func_after setup node f) (let e : low + 0 ≡ low = omega arith in e)
func_gap setup node f low (suc more) h =
    let e : low + suc more ≡ suc (low + more) = omega arith in
    ap (func_after setup node f) e
    ∙ (same_func setup (suc (low + more)) node (func_after setup node f (low + more)) (h (suc (low + more)) (omega arith) (omega arith))
    ∙ func_gap setup node f low more (λ r a b. h r a (omega arith)))

-- ---- the function in force is that of the requests that were turned

-- the requests above the latest turned that cover the node are still due
abbrev HasDues : SetupView → ℕ → ℕ → List ℕ → Type 0
HasDues setup node last dues = (r : ℕ) → last < r → covers setup r node ≡ true → IsIn r dues

pub with_func : (o : Option Change) (view : StateView) → (after_change o view).func ≡ func_with o view.func
with_func None view = refl
with_func (Some change) view = refl

module _ (setup : SetupView) (kept : HasCovers setup) (who : Worker) (f : Func) where
  -- what a turn leaves due, and in force
  turned : (q last : ℕ) (view : StateView) (dues : List ℕ) → next_due dues ≡ Some q → IsRising last dues → HasDues setup who.node last dues → view.func ≡ func_after setup who.node f last
      → HasDues setup who.node q (later_dues dues) × (func_with (change_by setup q who.node) view.func ≡ func_after setup who.node f q)
  turned q last view [] n i h e = absurd (cc)
  turned q last view (due ∷ dues) n i h e =
      let first : due ≡ q = cc in
      let lt : last < q = omega (arith, i.0, first) in
      (left first lt, to_q first lt)
    where
      left : due ≡ q → last < q → HasDues setup who.node q dues
      left first lt r up c = later (h r (omega arith) c)
        where
          later : IsIn r (due ∷ dues) → IsIn r dues
          later (inl e) = absurd (omega arith)
          later (inr j) = j

      none : due ≡ q → (r : ℕ) → last < r → r < q → changes setup r who.node ≡ false
      none first r low high = go (changes setup r who.node) refl
        where
          where_it_is : IsIn r (due ∷ dues) → ⊥
          where_it_is (inl e) = absurd (omega arith)
          where_it_is (inr j) = let up : due < r = rising_in due r dues i.1 j in absurd (omega arith)

          go : (b : Bool) → changes setup r who.node ≡ b → changes setup r who.node ≡ false
          go true e = absurd (where_it_is (h r low (kept.asked r who.node (kept.changed r who.node e))))
          go false e = e

      to_q : due ≡ q → last < q → func_with (change_by setup q who.node) view.func ≡ func_after setup who.node f q
      to_q first lt =
          let n : q ≡ suc (last + (q - suc last)) = omega arith in
          let gap : func_after setup who.node f (last + (q - suc last)) ≡ func_after setup who.node f last = func_gap setup who.node f last (q - suc last) (λ r a b. none first r a (omega arith)) in
          subst (λ k. func_with (change_by setup k who.node) view.func ≡ func_after setup who.node f k) (sym n)
          (ap (func_with (change_by setup (suc (last + (q - suc last))) who.node)) (e ∙ sym gap))

  in_force : (duties : Duties) (progress : Progress) (view : StateView) (journal : List Entry) (i : ℕ) (m : Moment) → IsExecution duties progress journal
      → IsRising view.last progress.dues → HasDues setup who.node view.last progress.dues → view.func ≡ func_after setup who.node f view.last
      → slice_get (story setup who view journal) i ≡ Some m → m.view.func ≡ func_after setup who.node f m.view.last
  in_force duties progress view [] i m law r d e g = absurd (cc)
  in_force duties progress view (x ∷ journal) zero m law r d e g =
      let q : ◌≡◌ {A = Moment} (record { view = view; entry = x }) m = cc in
      subst (λ (m : Moment). m.view.func ≡ func_after setup who.node f m.view.last) q e
  in_force duties progress view (x ∷ journal) (suc i) m law r d e g =
      let k = step x law.0 in
      in_force duties (after_entry progress x) (after setup who view x) journal i m law.1 (rising_next setup duties who progress view x law.0 r).1 k.0 k.1 g
    where
      step : (x : Entry) → IsEnabled duties progress x → HasDues setup who.node (after setup who view x).last (after_entry progress x).dues
          × ((after setup who view x).func ≡ func_after setup who.node f (after setup who view x).last)
      step (entry.Met l t) a = (d, e)
      step (entry.Marked l q) a = (d, e)
      step (entry.Ended l) a = (d, e)
      step (entry.Turned q) a =
          let k = turned q view.last view progress.dues a.0 r d e in
          (k.0, with_func (change_by setup q who.node) view ∙ k.1)

-- ---- which side of a turn an entry stands on

-- an entry in whose time the request was turned stands after the turn
late_in : (setup : SetupView) (duties : Duties) (who : Worker) (progress : Progress) (view : StateView) (journal : List Entry) (r i : ℕ) (e : Entry) (m : Moment) → IsExecution duties progress journal
    → IsRising view.last progress.dues → view.last < r → IsIn (entry.Turned r) journal → slice_get (story setup who view journal) i ≡ Some m → slice_get journal i ≡ Some e → r ≤ m.view.last
    → IsIn e (after_turn r journal)
late_in setup duties who progress view [] r i e m f up low h g k le = absurd h
late_in setup duties who progress view (x ∷ journal) r zero e m f up low h g k le =
    let q : ◌≡◌ {A = Moment} (record { view = view; entry = x }) m = cc in
    let last : view.last ≡ m.view.last = ap (λ (m : Moment). m.view.last) q in
    absurd (omega arith)
late_in setup duties who progress view (x ∷ journal) r (suc i) e m f up low h g k le =
    go (is_turn r x) refl (λ a b. late_in setup duties who (after_entry progress x) (after setup who view x) journal r i e m f.1 (rising_next setup duties who progress view x f.0 up).1 a b g k le)
  where
    go : (b : Bool) → is_turn r x ≡ b → ((after setup who view x).last < r → IsIn (entry.Turned r) journal → IsIn e (after_turn r journal)) → IsIn e (cond b journal (after_turn r journal))
    go true q later = in_of_place e journal i k
    go false q later =
        let there : IsIn (entry.Turned r) journal = rest_has r x journal q h in
        later (turned_above setup duties who (after_entry progress x) (after setup who view x) journal r f.1 (rising_next setup duties who progress view x f.0 up).1 there) there

-- a tuple in whose time the request wasn't turned yet stands before the turn
pub early_in : (setup : SetupView) (duties : Duties) (who : Worker) (progress : Progress) (view : StateView) (journal : List Entry) (r i l : ℕ) (t : Tuple) (m : Moment) → IsExecution duties progress journal
    → IsRising view.last progress.dues → slice_get (story setup who view journal) i ≡ Some m → slice_get journal i ≡ Some (entry.Met l t) → m.view.last < r
    → IsIn (entry.Met l t) (before_turn r journal)
early_in setup duties who progress view [] r i l t m f up g k lt = absurd (cc)
early_in setup duties who progress view (x ∷ journal) r zero l t m f up g k lt =
    let q : x ≡ entry.Met l t = cc in
    subst (λ (y : Entry). IsIn (entry.Met l t) (cond (is_turn r y) [] (y ∷ before_turn r journal))) (sym q) (inl refl)
early_in setup duties who progress view (x ∷ journal) r (suc i) l t m f up g k lt =
    go (is_turn r x) refl (early_in setup duties who (after_entry progress x) (after setup who view x) journal r i l t m f.1 (rising_next setup duties who progress view x f.0 up).1 g k lt)
  where
    go : (b : Bool) → is_turn r x ≡ b → IsIn (entry.Met l t) (before_turn r journal) → IsIn (entry.Met l t) (cond b [] (x ∷ before_turn r journal))
    go true q later =
        let le : (after setup who view x).last ≤ m.view.last =
        last_rises setup duties who (after_entry progress x) (after setup who view x) journal m f.1 (rising_next setup duties who progress view x f.0 up).1
        (in_of_place m (story setup who (after setup who view x) journal) i g) in
        let last : (after setup who view x).last ≡ r = ap (λ (y : Entry). (after setup who view y).last) (sym (turn_is r x q)) in
        absurd (omega arith)
    go false q later = inr later

-- ---- new and old rows

pub meets_of : (row l : ℕ) (t : Tuple) (journal : List Entry) → IsIn (entry.Met l t) journal → t.row ≡ row → meets_row row journal ≡ true
meets_of row l t journal i e = in_any (λ (tuple : Tuple). tuple.row == row) t (met_tuples journal) (filter_map_in met (entry.Met l t) t journal i refl) (eq-eqb t.row row e)

-- at a request that changes the node of an entry, the row is new just where the entry stands after the turn
module _ (rows : List Row) (ran : Ran) (g : Running rows ran) (w : ℕ) (lt : HasWorker ran w) (i l : ℕ) (t : Tuple) (m : Moment)
    (at : slice_get (story_of ran w) i ≡ Some m) (is_met : slice_get (journal_of ran w) i ≡ Some (entry.Met l t))
  where
    among : (r : ℕ) → changes ran.setup r (worker_no ran.setup w).node ≡ true → IsIn (journal_of ran w) (journals_at ran.journals (changed_workers ran.setup r))
    among r c =
        let is : IsWorker ran.setup.job (worker_no ran.setup w) = (worker_is ran.setup w lt).1 in
        let number : (worker_no ran.setup w).number ≡ w = (worker_is ran.setup w lt).0 in
        filter_map_in (λ (who : Worker). slice_get ran.journals who.number) (worker_no ran.setup w) (journal_of ran w) (changed_workers ran.setup r)
        (filter_in (λ (who : Worker). changes ran.setup r who.node) (worker_no ran.setup w) (workers_in ran.setup.job) (in_of_place (worker_no ran.setup w) (workers_in ran.setup.job) (worker_no ran.setup w).number is.there) c)
        (ap (slice_get ran.journals) number ∙ journal_here rows ran g w lt)

    law : IsExecution (duties_of ran w) (start_of ran w) (journal_of ran w)
    law = execution rows ran g w lt

    rises : IsRising 0 (start_of ran w).dues
    rises = dues_rise ran.setup 0 (worker_no ran.setup w).node 0 (omega arith)

    pub late_new : (r : ℕ) → changes ran.setup r (worker_no ran.setup w).node ≡ true → r ≤ m.view.last → is_new ran r t.row ≡ true
    late_new r c le =
        let turn : IsIn (entry.Turned r) (journal_of ran w) = covered_turns rows ran g w r lt (g.kept.asked r (worker_no ran.setup w).node (g.kept.changed r (worker_no ran.setup w).node c)) in
        let low : 0 < r = turned_above ran.setup (duties_of ran w) (worker_no ran.setup w) (start_of ran w) (begun ran.setup w) (journal_of ran w) r law rises turn in
        in_any (λ (journal : List Entry). meets_row t.row (after_turn r journal)) (journal_of ran w) (journals_at ran.journals (changed_workers ran.setup r)) (among r c)
        (meets_of t.row l t (after_turn r (journal_of ran w))
        (late_in ran.setup (duties_of ran w) (worker_no ran.setup w) (start_of ran w) (begun ran.setup w) (journal_of ran w) r i (entry.Met l t) m law rises low turn at is_met le) refl)

    pub early_before : (r : ℕ) → changes ran.setup r (worker_no ran.setup w).node ≡ true → m.view.last < r
        → any_before r t.row (journals_at ran.journals (changed_workers ran.setup r)) ≡ true
    early_before r c low =
        in_any (λ (journal : List Entry). meets_row t.row (before_turn r journal)) (journal_of ran w) (journals_at ran.journals (changed_workers ran.setup r)) (among r c)
        (meets_of t.row l t (before_turn r (journal_of ran w))
        (early_in ran.setup (duties_of ran w) (worker_no ran.setup w) (start_of ran w) (begun ran.setup w) (journal_of ran w) r i l t m law rises at is_met low) refl)

    pub early_old : (r : ℕ) → changes ran.setup r (worker_no ran.setup w).node ≡ true → m.view.last < r → is_new ran r t.row ≡ false
    early_old r c low = go (whole rows ran g r t.row)
      where
        go : IsWhole ran r t.row → is_new ran r t.row ≡ false
        go (inl h) = h
        go (inr h) = let x = early_before r c low in let y = h in absurd (cc)

    -- ---- the table

    abbrev after_first : ℕ → Func
    after_first r = func_after ran.setup (worker_no ran.setup w).node (worker_no ran.setup w).func r

    abbrev by_row : ℕ → Func
    by_row r = func_for ran t.row (worker_no ran.setup w).node (worker_no ran.setup w).func r

    min_here : (r k : ℕ) → r ≤ k → min r k ≡ r
    min_here r k le = omega arith

    step : (r : ℕ) → by_row r ≡ after_first (min r m.view.last) → (c : Bool) → changes ran.setup (suc r) (worker_no ran.setup w).node ≡ c → (suc r ≤ m.view.last) ⊎ (m.view.last < suc r)
        → by_row (suc r) ≡ after_first (min (suc r) m.view.last)
    step r h true e (inl le) =
        let a : by_row r ≡ after_first r = h ∙ ap after_first (min_here r m.view.last (omega arith)) in
        rw (late_new (suc r) e le) (ap (func_with (change_by ran.setup (suc r) (worker_no ran.setup w).node)) a ∙ ap after_first (sym (min_here (suc r) m.view.last le)))
    step r h true e (inr low) =
        let k : min r m.view.last ≡ min (suc r) m.view.last = omega arith in
        rw (early_old (suc r) e low) (h ∙ ap after_first k)
    step r h false e side = same (is_new ran (suc r) t.row) ∙ (h ∙ over side)
      where
        same : (b : Bool) → cond b (func_with (change_by ran.setup (suc r) (worker_no ran.setup w).node) (by_row r)) (by_row r) ≡ by_row r
        same true = same_func ran.setup (suc r) (worker_no ran.setup w).node (by_row r) e
        same false = refl

        over : (suc r ≤ m.view.last) ⊎ (m.view.last < suc r) → after_first (min r m.view.last) ≡ after_first (min (suc r) m.view.last)
        over (inl le) =
            ap after_first (min_here r m.view.last (omega arith))
            ∙ (sym (same_func ran.setup (suc r) (worker_no ran.setup w).node (after_first r) e) ∙ ap after_first (sym (min_here (suc r) m.view.last le)))
        over (inr low) = ap after_first (let k : min r m.view.last ≡ min (suc r) m.view.last = omega arith in k)

    sides : (r k : ℕ) → (suc r ≤ k) ⊎ (k < suc r)
    sides r k = elim (cases_lt r k) [ inl a ↦ inl (omega arith) | inr b ↦ inr (omega arith) ]

    up_to : (r : ℕ) → by_row r ≡ after_first (min r m.view.last)
    up_to zero = ap after_first (let k : 0 ≡ min 0 m.view.last = omega arith in k)
    up_to (suc r) = step r (up_to r) (changes ran.setup (suc r) (worker_no ran.setup w).node) refl (sides r m.view.last)

    -- no request comes after the last one
    past_changes : (r : ℕ) → length ran.setup.requests < r → changes ran.setup r (worker_no ran.setup w).node ≡ false
    past_changes zero h = absurd (omega arith)
    past_changes (suc r) h = ap (λ o. names o (worker_no ran.setup w).node) (slice_get_past ran.setup.requests r (omega arith))

    all_turned : after_first m.view.last ≡ after_first (min (length ran.setup.requests) m.view.last)
    all_turned =
        elim (cases_lt (length ran.setup.requests) m.view.last) [
          | inl more ↦
              let k : m.view.last ≡ length ran.setup.requests + (m.view.last - length ran.setup.requests) = omega arith in
              let q : length ran.setup.requests ≡ min (length ran.setup.requests) m.view.last = omega arith in
              ap after_first k
              ∙ (func_gap ran.setup (worker_no ran.setup w).node (worker_no ran.setup w).func (length ran.setup.requests) (m.view.last - length ran.setup.requests) (λ r a b. past_changes r a)
              ∙ ap after_first q)
          | inr few ↦ ap after_first (let k : m.view.last ≡ min (length ran.setup.requests) m.view.last = omega arith in k)
        ]

    -- the function in force where a tuple is met is the one after the requests that were turned
    pub by_turns : m.view.func ≡ after_first m.view.last
    by_turns =
        in_force ran.setup g.kept (worker_no ran.setup w) (worker_no ran.setup w).func (duties_of ran w) (start_of ran w) (begun ran.setup w) (journal_of ran w) i m law rises
        (λ r low c. due_of_cover ran.setup (worker_no ran.setup w).node r c) refl at

    -- and the one of its row's table
    pub by_table : m.view.func ≡ func_for ran t.row (worker_no ran.setup w).node (worker_no ran.setup w).func (length ran.setup.requests)
    by_table = by_turns ∙ (all_turned ∙ sym (up_to (length ran.setup.requests)))
