-- Rows and turns stand in order.
use Rattle.std.proofs.Common.{◌≡◌, ◌<◌, ◌≤◌, ◌+◌, ◌==◌, ◌||◌, ℕ, suc, List, [], ◌∷◌, ◌++◌, inl, inr, Bool, true, false, cond, length, min, Option, Some, refl, sym, ap, subst, ◌∙◌, arith}
use Rattle.std.specs.Prelude.{All, slice_get}
use Rattle.std.specs.List.{AllByRecursion}
use Rattle.std.proofs.lemmas.Bool.{cases_lt, eq-eqb, ne_eqb, or_right}
use Rattle.std.proofs.lemmas.List.{append-nil}
use Rattle.std.proofs.lemmas.List.Folds.{list_any-append}
use Rattle.std.proofs.lemmas.List.Elements.{All-append, All-nil, All-weaker, All-from_recursion, filter_map-append}
use Rattle.std.proofs.lemmas.Option.{slice_get_within}
use Rattle.sink_journal.specs.Alerts.{met}
use Rattle.sink_journal.specs.declared.journal.Entry.{Entry}
use Rattle.sink_journal.specs.declared.journal.Entry.TheVariants as entry
use Rattle.sink_journal.specs.declared.journal.Feed.{Feed}
use Rattle.tuple_trace.specs.declared.row.Row.{Row}
use Rattle.tuple_trace.specs.declared.tuple.Tuple.{Tuple}
use Rattle.versions.specs.declared.request.Request.{Request}
use Rattle.jobs.specs.JobView.{JobView}
use Rattle.flow_model.specs.Covers.{covers}
use Rattle.flow_model.specs.Fresh.{IsUpTo}
use Rattle.flow_model.specs.Lanes.{lanes_in, marked_lanes}
use Rattle.flow_model.specs.SetupView.{SetupView, Worker}
use Rattle.flow_model.specs.Requests.{request_at}
use Rattle.flow_model.specs.Whole.{after_turn, before_turn, is_turn, met_tuples}
use Rattle.flow_model.specs.Workers.{nth_worker, workers_in}
use Rattle.flow_replay.specs.Order.{IsInOrder, IsOfEarlierRow, TurnsInOrder}
use Rattle.flow_replay.specs.declared.worker_run.WorkerRun.{WorkerRun}
use Rattle.flow_replay.specs.inner.Runs.{AllGain, end_block, journal_at, marks, turn_block, turn_entries}
use Rattle.flow_replay.specs.inner.SoFar.{AreEmpty, AreSorted, IsSorted, has_turn, left_by}
use Rattle.flow_replay.specs.inner.Delivery.{IsFed, IsMeeting, Meets}
use Rattle.flow_model.proofs.PlannedLemmas.{covers_within}
use Rattle.flow_replay.proofs.FollowLemmas.{ended_all}
use Rattle.flow_replay.proofs.StopLemmas.{at_run}
use Rattle.flow_model.proofs.WorkerPlaces.{nth_worker-get}

-- ---- turns in two parts of a journal

met-append : (xs ys : List Entry) → met_tuples (xs ++ ys) ≡ met_tuples xs ++ met_tuples ys
met-append xs ys = filter_map-append met xs ys

before-turned : (r : ℕ) (xs ys : List Entry) → has_turn r xs ≡ true → before_turn r (xs ++ ys)
    ≡ before_turn r xs
before-turned r [] ys h = absurd (cc)
before-turned r (x ∷ xs) ys h = go (is_turn r x) h (before-turned r xs ys)
  where
    go : (b : Bool) → (b || has_turn r xs) ≡ true → (has_turn r xs ≡ true →
        before_turn r (xs ++ ys) ≡ before_turn r xs) → cond b [] (x ∷ before_turn r (xs ++ ys))
        ≡ cond b [] (x ∷ before_turn r xs)
    go true t later = refl
    go false t later = ap (λ (l : List Entry). x ∷ l) (later t)

after-turned : (r : ℕ) (xs ys : List Entry) → has_turn r xs ≡ true → after_turn r (xs ++ ys)
    ≡ after_turn r xs ++ ys
after-turned r [] ys h = absurd (cc)
after-turned r (x ∷ xs) ys h = go (is_turn r x) h (after-turned r xs ys)
  where
    go : (b : Bool) → (b || has_turn r xs) ≡ true → (has_turn r xs ≡ true →
        after_turn r (xs ++ ys) ≡ after_turn r xs ++ ys) →
        cond b (xs ++ ys) (after_turn r (xs ++ ys)) ≡ cond b xs (after_turn r xs) ++ ys
    go true t later = refl
    go false t later = later t

before-unturned : (r : ℕ) (xs ys : List Entry) → has_turn r xs ≡ false →
    before_turn r (xs ++ ys) ≡ xs ++ before_turn r ys
before-unturned r [] ys h = refl
before-unturned r (x ∷ xs) ys h = go (is_turn r x) h (before-unturned r xs ys)
  where
    go : (b : Bool) → (b || has_turn r xs) ≡ false → (has_turn r xs ≡ false →
        before_turn r (xs ++ ys) ≡ xs ++ before_turn r ys) →
        cond b [] (x ∷ before_turn r (xs ++ ys)) ≡ x ∷ (xs ++ before_turn r ys)
    go true t later = absurd (cc)
    go false t later = ap (λ (l : List Entry). x ∷ l) (later t)

after-unturned : (r : ℕ) (xs ys : List Entry) → has_turn r xs ≡ false → after_turn r (xs ++ ys)
    ≡ after_turn r ys
after-unturned r [] ys h = refl
after-unturned r (x ∷ xs) ys h = go (is_turn r x) h (after-unturned r xs ys)
  where
    go : (b : Bool) → (b || has_turn r xs) ≡ false → (has_turn r xs ≡ false →
        after_turn r (xs ++ ys) ≡ after_turn r ys) →
        cond b (xs ++ ys) (after_turn r (xs ++ ys)) ≡ after_turn r ys
    go true t later = absurd (cc)
    go false t later = later t

-- ---- what each gain has

marks-met : (r : ℕ) (ns : List ℕ) → met_tuples (marks r ns) ≡ []
marks-met r [] = refl
marks-met r (n ∷ ns) = marks-met r ns

marks-turn : (q r : ℕ) (ns : List ℕ) → has_turn q (marks r ns) ≡ false
marks-turn q r [] = refl
marks-turn q r (n ∷ ns) = marks-turn q r ns

turn-met : (r : ℕ) (ns : List ℕ) → met_tuples (marks r ns ++ entry.Turned r ∷ []) ≡ []
turn-met r ns = met-append (marks r ns) (entry.Turned r ∷ [])
    ∙ ap (λ (l : List Tuple). l ++ []) (marks-met r ns)

turn-turn : (q r : ℕ) (ns : List ℕ) → has_turn q (marks r ns ++ entry.Turned r ∷ [])
    ≡ ((r == q) || false)
turn-turn q r ns = list_any-append (is_turn q) (marks r ns) (entry.Turned r ∷ [])
    ∙ ap (λ (b : Bool). b || ((r == q) || false)) (marks-turn q r ns)

ended-met : (ns : List ℕ) → met_tuples (ended_all ns) ≡ []
ended-met [] = refl
ended-met (n ∷ ns) = ended-met ns

meets-turn : (job : JobView) (w row issued q : ℕ) (more : List Entry) →
    AllByRecursion (IsMeeting job w row issued) more → has_turn q more ≡ false
meets-turn job w row issued q [] e = refl
meets-turn job w row issued q (entry.Met lane t ∷ more) e = meets-turn job w row issued q more e.1
meets-turn job w row issued q (entry.Marked lane r ∷ more) e = absurd e.0
meets-turn job w row issued q (entry.Turned r ∷ more) e = absurd e.0
meets-turn job w row issued q (entry.Ended lane ∷ more) e = absurd e.0

meets-rows : (job : JobView) (w row issued : ℕ) (more : List Entry) →
    AllByRecursion (IsMeeting job w row issued) more → AllByRecursion (λ (t : Tuple). t.row
    ≡ row) (met_tuples more)
meets-rows job w row issued [] e = tt
meets-rows job w row issued (entry.Met lane t ∷ more) e = (
  e.0.1,
  meets-rows job w row issued more
      e.1,
)
meets-rows job w row issued (entry.Marked lane r ∷ more) e = absurd e.0
meets-rows job w row issued (entry.Turned r ∷ more) e = absurd e.0
meets-rows job w row issued (entry.Ended lane ∷ more) e = absurd e.0

-- ---- a row is fed

meets_sorted : (setup : SetupView) (rows k m node w issued : ℕ) (old new : List Entry) →
    Meets setup.job w (k + 1) issued old new → IsSorted setup rows k m node old →
    IsSorted setup rows (k + 1) m node new
meets_sorted setup rows k m node w issued old new gained is =
    subst (IsSorted setup rows (k + 1) m node) (sym gained.is) (record {
      met = subst (All (λ (t : Tuple). t.row ≤ k + 1)) (sym (met-append old gained.more))
          (All-append (λ (t : Tuple). t.row ≤ k + 1) (met_tuples old) (met_tuples gained.more)
          (All-weaker (λ (t : Tuple). t.row ≤ k) (λ (t : Tuple). t.row ≤ k + 1) (λ t h. omega
          (arith, h)) (met_tuples old) is.met)
          (All-weaker (λ (t : Tuple). t.row ≡ k + 1) (λ (t : Tuple). t.row ≤ k + 1) (λ t h. omega
          (arith, h)) (met_tuples gained.more) of_row));
      past = λ r p le c. record {
        before = subst (λ (l : List Entry). All (IsOfEarlierRow setup rows r) (met_tuples l)) (sym
            (before-turned r old gained.more (is.there r p le c))) (is.past r p le c).before;
        after = subst (All (λ (t : Tuple). IsOfEarlierRow setup rows r t →
            ⊥)) (sym (ap met_tuples (after-turned r old gained.more (is.there r p le c))
            ∙ met-append (after_turn r old) gained.more))
            (All-append (λ (t : Tuple). IsOfEarlierRow setup rows r t →
            ⊥) (met_tuples (after_turn r old)) (met_tuples gained.more) (is.past r p le c).after
            (All-weaker (λ (t : Tuple). t.row ≡ k + 1) (λ (t : Tuple). IsOfEarlierRow setup rows r t
            → ⊥) (λ t h up. let late = is.late r p le t.row up in absurd (omega (
              arith,
              h,
              late,
            ))) (met_tuples gained.more) of_row));
      };
      there = λ r p le c. list_any-append (is_turn r) old gained.more
          ∙ ap (λ (b : Bool). b || has_turn r gained.more) (is.there r p le c);
      late = λ r p le later up. let h = is.late r p le later up in omega (arith, h);
      left = λ r lt. list_any-append (is_turn r) old gained.more
          ∙ (ap (λ (b : Bool). b || has_turn r gained.more) (is.left r lt)
          ∙ meets-turn setup.job w (k + 1) issued r gained.more gained.meetings);
    })
  where
    of_row : All (λ (t : Tuple). t.row ≡ k + 1) (met_tuples gained.more)
    of_row = All-from_recursion (λ (t : Tuple). t.row
        ≡ k + 1) (met_tuples gained.more) (meets-rows setup.job w (k + 1) issued gained.more
        gained.meetings)

pub fed_sorted : (setup : SetupView) (rank : ℕ → ℕ) (rows k m : ℕ) (row : Row) (old new : List
    WorkerRun) → row.tuple.row ≡ k + 1 → IsFed setup rank row m old new →
    AreSorted setup rows k m old → AreSorted setup rows (k + 1) m new
fed_sorted setup rank rows k m row old new number fed is w b =
    meets_sorted setup rows k m (nth_worker setup.job w).node w m (journal_at old w) (journal_at new w)
    (subst (λ (x : ℕ). Meets setup.job w x m (journal_at old w) (journal_at new w)) number
    (fed.delivered.met w)) (is w (omega (arith, b, fed.delivered.long)))

-- ---- a request is issued

turn_gain : (setup : SetupView) (rows row m node : ℕ) (ns : List ℕ) (request : Request) (old : List
    Entry) → slice_get setup.requests m ≡ Some request → min request.after rows ≡ row
    → IsSorted setup rows row m node old → IsSorted setup rows row (m + 1) node (old ++ (marks (m +
    1) ns ++ entry.Turned (m + 1) ∷ []))
turn_gain setup rows row m node ns request old e at is = record {
  met = subst (All (λ (t : Tuple). t.row ≤ row)) (sym same_met) is.met;
  past = λ r p le c. elim (cases_lt r (m + 1)) [
    | inl lt ↦ record {
      before = subst (λ (l : List Entry). All (IsOfEarlierRow setup rows r) (met_tuples l)) (sym
          (before-turned r old block (is.there r p (omega (arith, lt)) c))) (is.past r p (omega
          (arith, lt)) c).before;
      after = subst (All (λ (t : Tuple). IsOfEarlierRow setup rows r t → ⊥))
          (sym (ap met_tuples (after-turned r old block (is.there r p (omega (arith, lt)) c))
          ∙ (met-append (after_turn r old) block
          ∙ (ap (λ (l : List Tuple). met_tuples (after_turn r old) ++ l) (turn-met (m + 1) ns) ∙
          append-nil (met_tuples (after_turn r old))))))
          (is.past r p (omega (arith, lt)) c).after;
    }
    | inr ge ↦ let s : m + 1 ≡ r = omega (arith, le, ge) in subst (λ (q : ℕ). TurnsInOrder setup
        rows q (old ++ block)) s now
  ];
  there = λ r p le c. elim (cases_lt r (m + 1)) [
    | inl lt ↦ list_any-append (is_turn r) old block
        ∙ ap (λ (b : Bool). b || has_turn r block) (is.there r p (omega (arith, lt)) c)
    | inr ge ↦
        let s : m + 1 ≡ r = omega (arith, le, ge) in
        list_any-append (is_turn r) old block ∙ (ap (λ (b : Bool). has_turn r old || b) (turn-turn r
        (m + 1) ns ∙ ap (λ (b : Bool). b || false) (eq-eqb (m + 1) r s))
        ∙ or_right (has_turn r old) true refl)
  ];
  late = λ r p le later up. elim (cases_lt r (m + 1)) [
    | inl lt ↦ is.late r p (omega (arith, lt)) later up
    | inr ge ↦
        let s : r ≡ m + 1 = omega (arith, le, ge) in
        let h : later ≤ min request.after rows = subst (λ (o : Option Request). IsUpTo rows o later)
        (ap (request_at setup) s ∙ named) up in
        omega (arith, h, at)
  ];
  left = λ r lt.
      list_any-append (is_turn r) old block ∙ (ap (λ (b : Bool). b || has_turn r block) (is.left r
      (omega (arith, lt)))
      ∙ (turn-turn r (m + 1) ns ∙ ap (λ (b : Bool). b || false) (ne_eqb (m + 1) r (λ q. absurd
      (omega (arith, q, lt))))));
}
  where
    block : List Entry
    block = marks (m + 1) ns ++ entry.Turned (m + 1) ∷ []

    same_met : met_tuples (old ++ block) ≡ met_tuples old
    same_met = met-append old block ∙ (ap (λ (l : List Tuple). met_tuples old ++ l) (turn-met (m +
        1) ns) ∙ append-nil (met_tuples old))

    named : request_at setup (m + 1) ≡ Some request
    named = let z : m + 1 ≡ suc m = omega arith in ap (request_at setup) z ∙ e

    unturned : has_turn (m + 1) old ≡ false
    unturned = is.left (m + 1) (omega arith)

    before_is : met_tuples (before_turn (m + 1) (old ++ block)) ≡ met_tuples old
    before_is =
        ap met_tuples (before-unturned (m + 1) old block unturned
        ∙ ap (λ (l : List Entry). old ++ l) (before-unturned (m + 1) (marks (m + 1) ns)
        (entry.Turned (m + 1) ∷ []) (marks-turn (m + 1) (m + 1) ns)))
        ∙ (met-append old (marks (m + 1) ns ++ before_turn (m + 1) (entry.Turned (m + 1) ∷ []))
        ∙ (ap (λ (l : List Tuple). met_tuples old ++ l) (met-append (marks (m + 1) ns) (before_turn
        (m + 1) (entry.Turned (m + 1) ∷ []))
        ∙ (ap (λ (l : List Tuple). l ++ met_tuples (before_turn (m + 1) (entry.Turned (m + 1) ∷
        []))) (marks-met (m + 1) ns)
        ∙ ap (λ (b : Bool). met_tuples (cond b [] (entry.Turned (m + 1) ∷ []))) (eq-eqb (m + 1) (m +
        1) refl)))
        ∙ append-nil (met_tuples old)))

    after_is : met_tuples (after_turn (m + 1) (old ++ block)) ≡ []
    after_is =
        ap met_tuples (after-unturned (m + 1) old block unturned
        ∙ (after-unturned (m + 1) (marks (m + 1) ns) (entry.Turned (m + 1) ∷ []) (marks-turn (m
        + 1) (m + 1) ns)
        ∙ ap (λ (b : Bool). cond b [] []) (eq-eqb (m + 1) (m + 1) refl)))

    now : TurnsInOrder setup rows (m + 1) (old ++ block)
    now = record {
      before = subst (All (IsOfEarlierRow setup rows (m + 1))) (sym before_is)
          (All-weaker (λ (t : Tuple). t.row ≤ row) (IsOfEarlierRow setup rows (m + 1)) (λ t h. subst
          (λ (o : Option Request). IsUpTo rows o t.row) (sym named) (let q : t.row ≤ min
          request.after rows = omega (arith, h, at) in q)) (met_tuples old) is.met);
      after = subst (All (λ (t : Tuple). IsOfEarlierRow setup rows (m + 1) t →
          ⊥)) (sym after_is) (All-nil (λ (t : Tuple). IsOfEarlierRow setup rows (m + 1) t → ⊥));
    }

-- a worker that the request doesn't cover
no_gain : (setup : SetupView) (rows row m node : ℕ) (request : Request) (old : List Entry) →
    slice_get setup.requests m ≡ Some request → min request.after rows ≡ row →
    covers setup (m + 1) node ≡ false
    → IsSorted setup rows row m node old → IsSorted setup rows row (m + 1) node old
no_gain setup rows row m node request old e at uncovered is = record {
  met = is.met;
  past = λ r p le c. elim (cases_lt r (m + 1)) [
    | inl lt ↦ is.past r p (omega (arith, lt)) c
    | inr ge
        ↦ absurd (wrong r le ge c)
  ];
  there = λ r p le c. elim (cases_lt r (m + 1)) [
    | inl lt ↦ is.there r p (omega (arith, lt)) c
    | inr
        ge ↦ absurd (wrong r le ge c)
  ];
  late = λ r p le later up. elim (cases_lt r (m + 1)) [
    | inl lt ↦ is.late r p (omega (arith, lt)) later up
    | inr ge ↦
        let s : r ≡ m + 1 = omega (arith, le, ge) in
        let z : m + 1 ≡ suc m = omega arith in
        let h : later ≤ min request.after rows = subst (λ (o : Option Request). IsUpTo rows o later)
        (ap (request_at setup) s ∙ (ap (request_at setup) z ∙ e)) up in
        omega (arith, h, at)
  ];
  left = λ r lt. is.left r (omega (arith, lt));
}
  where
    wrong : (r : ℕ) → r ≤ m + 1 → m + 1 ≤ r → covers setup r node ≡ true → ⊥
    wrong r le ge c = let s : r ≡ m + 1 = omega (arith, le, ge) in let q : covers setup (m + 1) node
        ≡ true = ap (λ (k : ℕ). covers setup k node) (sym s) ∙ c in cc

pub turn_sorted : (setup : SetupView) (rows row m : ℕ) (request : Request) (old new : List WorkerRun)
    → slice_get setup.requests m ≡ Some request → min request.after rows ≡ row →
    AllGain setup (turn_block setup (m + 1)) old new
    → AreSorted setup rows row m old → AreSorted setup rows row (m + 1) new
turn_sorted setup rows row m request old new e at gain is w b =
    let c : w < length old = omega (arith, b, gain.long) in
    subst (IsSorted setup rows row (m + 1) (nth_worker setup.job w).node) (sym (gain.each w c).journal)
    (go w (covers setup (m + 1) (nth_worker setup.job w).node) refl (is w c))
  where
    go : (w : ℕ) (b : Bool) → covers setup (m + 1) (nth_worker setup.job w).node ≡ b →
        IsSorted setup rows row m (nth_worker setup.job w).node (journal_at old w)
        → IsSorted setup rows row (m + 1) (nth_worker setup.job w).node (journal_at old w ++ cond
        (covers setup (m + 1) (nth_worker setup.job w).node) (turn_entries setup (m + 1) w) [])
    go w true t s =
        subst (λ (b : Bool). IsSorted setup rows row (m + 1) (nth_worker setup.job w).node (journal_at
        old w ++ cond b (turn_entries setup (m + 1) w) [])) (sym t)
        (turn_gain setup rows row m (nth_worker setup.job w).node (marked_lanes setup w (m + 1))
        request (journal_at old w) e at s)
    go w false t s =
        subst (λ (b : Bool). IsSorted setup rows row (m + 1) (nth_worker setup.job w).node (journal_at
        old w ++ cond b (turn_entries setup (m + 1) w) [])) (sym t)
        (subst (IsSorted setup rows row (m + 1) (nth_worker setup.job w).node) (sym (append-nil
        (journal_at old w))) (no_gain setup rows row m (nth_worker setup.job w).node request
        (journal_at old w) e at t s))

-- ---- at first, and at the end

pub first_sorted : (setup : SetupView) (rows : ℕ) (runs : List WorkerRun) → AreEmpty setup runs →
    AreSorted setup rows 0 0 runs
first_sorted setup rows runs none w b =
    subst (λ (d : WorkerRun). IsSorted setup rows 0 0 (nth_worker setup.job w).node d.journal) (sym
    (none.each w b)) (record {
      met = All-nil (λ (t : Tuple). t.row ≤ 0);
      past = λ r p le c. absurd (omega (arith, p, le));
      there = λ r p le c. absurd (omega (arith, p, le));
      late = λ r p le later up. absurd (omega (arith, p, le));
      left = λ r lt. refl;
    })

pub ends_sorted : (setup : SetupView) (rows : ℕ) (feeds : List Feed) (old new : List WorkerRun) →
    length old ≡ length (workers_in setup.job) → AllGain setup (end_block setup.job) old new
    → AreSorted setup rows rows (length setup.plans) old → IsInOrder rows (left_by setup feeds new)
ends_sorted setup rows feeds old new long gain is w who journal ep ej r covered =
    let b = slice_get_within (workers_in setup.job) w who ep in
    let c : w < length old = omega (arith, b, long) in
    let at : nth_worker setup.job w ≡ who = nth_worker-get setup.job w who ep in
    let cover : covers setup r (nth_worker setup.job w).node
    ≡ true = ap (λ (p : Worker). covers setup r p.node) at ∙ covered in
    let known = covers_within setup r (nth_worker setup.job w).node cover in
    let sorted = is w c in
    let there = sorted.there r known.0 known.1 cover in
    let past = sorted.past r known.0 known.1 cover in
    let ends = end_block setup.job w in
    let grown : journal_at new w ≡ journal_at old w ++ end_block setup.job w = (gain.each w
    c).journal in
    let is_journal : journal_at new w ≡ journal = at_run (λ (run : WorkerRun). run.journal) new w
    journal ej in
    subst (TurnsInOrder setup rows r) (sym grown ∙ is_journal) (record {
      before = subst (λ (l : List Entry). All (IsOfEarlierRow setup rows r) (met_tuples l)) (sym
          (before-turned r (journal_at old w) ends there)) past.before;
      after = subst (All (λ (t : Tuple). IsOfEarlierRow setup rows r t → ⊥))
          (sym (ap met_tuples (after-turned r (journal_at old w) ends there)
          ∙ (met-append (after_turn r (journal_at old w)) ends
          ∙ (ap (λ (l : List Tuple). met_tuples (after_turn r (journal_at old w)) ++ l) (ended-met
          (lanes_in setup.job w)) ∙ append-nil (met_tuples (after_turn r (journal_at old w)))))))
          past.after;
    })
