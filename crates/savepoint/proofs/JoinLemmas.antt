-- Two parts of a run are together a run.
use Rattle.std.proofs.Common.{◌≡◌, ◌∙◌, ◌<◌, ◌≤◌, ◌+◌, ◌-◌, ◌++◌, ℕ, List, [], ◌∷◌, refl, sym, subst, ap, arith, append_assoc, drop, length, map, min, option_map, take, All, Contains, Some, None, Option, slice_get}
use Rattle.std.specs.FinMap.{empty}
use Rattle.std.specs.List.{zip}
use Rattle.std.proofs.lemmas.List.{append-nil, length-map, length-take-le, take-append-drop, take-map}
use Rattle.std.proofs.lemmas.List.Elements.{filter_map-append}
use Rattle.std.proofs.lemmas.Option.{same_Some, slice_get-map, slice_get_within}
use Rattle.std.proofs.lemmas.Slice.Zip.{length-zip}
use Rattle.jobs.specs.declared.func.Func.{Func}
use Rattle.keyed_state.specs.Counts.{Counts}
use Rattle.sink_journal.specs.declared.journal.Entry.{Entry}
use Rattle.sink_journal.specs.declared.journal.Entry.TheVariants as entry
use Rattle.sink_journal.specs.declared.journal.Feed.{Feed}
use Rattle.tuple_trace.specs.declared.row.Row.{Row}
use Rattle.tuple_trace.specs.declared.tuple.Item.{Item}
use Rattle.tuple_trace.specs.declared.tuple.Item.TheVariants as item
use Rattle.tuple_trace.specs.declared.tuple.Tuple.{Tuple}
use Rattle.versions.specs.declared.request.Request.{Request}
use Rattle.flow_model.specs.Begin.{Begin, at_first, view_at}
use Rattle.flow_model.specs.Feeding.{fed, fed_puts, feed_after, feed_from, issued_at_first}
use Rattle.flow_model.specs.Law.{IsExecution, Progress, Duties, initial, progress_after}
use Rattle.flow_model.specs.declared.topology.Lane.{Lane}
use Rattle.flow_model.specs.SetupView.{SetupView, Worker}
use Rattle.flow_model.specs.Points.{turned}
use Rattle.flow_model.specs.Replay.{StateView, Put, after_all, item_on, items_on, items_sent, shown}
use Rattle.flow_model.specs.Requests.{afters}
use Rattle.flow_model.specs.Run.{IsRunFrom, IsWorked, Ran, put_by, ran_as, sent_by}
use Rattle.flow_model.specs.Duties.{dues_after, duties}
use Rattle.flow_model.specs.Workers.{workers_in}
use Rattle.flow_model.proofs.ElementLemmas.{IsIn, at_of_all, in_of_contains}
use Rattle.flow_model.proofs.JobLemmas.{IsConnected}
use Rattle.flow_model.proofs.JournalLemmas.{IsExecution-append, after_all-append, dues_turned, progress_after-append, sent-append, shown-append}
use Rattle.flow_model.proofs.PlannedLemmas.{HasCovers, covers_within, due_covers, dues_rise}
use Rattle.flow_model.proofs.RunLemmas.{Running}
use Rattle.flow_model.proofs.StoryLemmas.{rising_in}
use Rattle.flow_model.proofs.TurnLemmas.{ended_undue}
use Rattle.flow_model.proofs.WorkerLemmas.{IsWorker, item_at, journal_is, worker_with}
use Rattle.savepoint.specs.Parts.{endless, first_of, joined_journal, unstopped}
use Rattle.savepoint.proofs.CutLemmas.{get_zip}
use Rattle.savepoint.proofs.DueLemmas.{dues_both, first_dues}
use Rattle.savepoint.proofs.EndlessLemmas.{NamesUpTo, goes_on, goes_to, names_up_to, same_law, with_later}
use Rattle.savepoint.proofs.FeedLemmas.{FedUpTo, fed_puts-append, fed_puts_first, feed_issues, feed_up, feeds_both, issued_in, issued_in_unstopped}
use Rattle.savepoint.proofs.OrderLemmas.{AreSplit}
use Rattle.savepoint.proofs.ReplayLemmas.{after_func, after_last, endless_turned, fed_stays, func_by, func_covering, last_by, last_covering, no_last, replay_first, sent_first, shown_first, unended}
use Rattle.savepoint.proofs.RootedLemmas.{met_issued}

-- ---- lists

get_joined : (first second : List (List Entry)) (w : ℕ) (x y : List Entry) → slice_get first w ≡ Some x → slice_get second w ≡ Some y
    → slice_get (map joined_journal (zip first second)) w ≡ Some (endless x ++ y)
get_joined first second w x y g h = slice_get-map joined_journal (zip first second) w ∙ ap (option_map joined_journal) (get_zip first second w x y g h)

-- ---- what is in force

abbrev view_by : Func → Counts → ℕ → ℕ → StateView
view_by func counts last ended = record { func = func; counts = counts; last = last; ended = ended }

abbrev progress_by : List ℕ → List ℕ → Progress
progress_by dues marked = record { dues = dues; marked = marked; ended = [] }

same_view : (a b : StateView) → a.func ≡ b.func → a.counts ≡ b.counts → a.last ≡ b.last → a.ended ≡ b.ended → a ≡ b
same_view a b f c l e =
    ap (λ (x : Func). view_by x a.counts a.last a.ended) f
    ∙ (ap (λ (x : Counts). view_by b.func x a.last a.ended) c ∙ (ap (λ x. view_by b.func b.counts x a.ended) l ∙ ap (λ x. view_by b.func b.counts b.last x) e))

-- what the parts take of a setup
pub record Kept (setup : SetupView) : Type 0 where
  pub connected : IsConnected setup.job
  pub covers : HasCovers setup
  pub one_each : length setup.plans ≡ length setup.requests

-- ---- one worker

-- a worker whose first journal is finished, without having met a tuple that was fed under later requests
module _ (setup : SetupView) (kept : Kept setup) (m : ℕ) (le : m ≤ length setup.plans) (who : Worker) (is : IsWorker setup.job who) (x : List Entry) (s : Counts)
    (a : IsWorked (first_of setup m) (at_first (first_of setup m)) who empty x s) (fed_under : (l : ℕ) (t : Tuple) → IsIn (entry.Met l t) x → t.issued ≤ m)
  where
    abbrev old : Duties
    old = duties (first_of setup m) 0 who

    abbrev new : Duties
    new = duties setup 0 who

    abbrev later : List ℕ
    later = dues_after setup m who.node

    law : IsExecution old (initial old) x
    law = a.finished.lawful.execution

    early : (r : ℕ) → IsIn r old.dues → r ≤ m
    early r i =
        let c = covers_within (first_of setup m) r who.node (due_covers (first_of setup m) 0 who.node r i) in
        omega (arith, c.1, length-take-le m setup.plans le)

    above : (r : ℕ) → IsIn r later → m < r
    above r i = rising_in m r later (dues_rise setup m who.node m (omega arith)) i

    pub names : NamesUpTo m x
    names = names_up_to m old (initial old) x law early

    none_due : (progress_after (initial old) x).dues ≡ []
    none_due =
        let lane = kept.connected.reached who is in
        ended_undue old (initial old) x lane.0 law (λ k j. absurd j)
        (in_of_contains lane.0 (progress_after (initial old) x).ended (at_of_all (Contains (progress_after (initial old) x).ended) lane.0 old.lanes a.finished.ended lane.1))

    begins : with_later setup m who later above (initial old) ≡ initial new
    begins = ap (λ (dues : List ℕ). progress_by dues []) (sym (dues_both setup m who.node le))

    -- without its ends it is lawful under the whole setup
    pub first_law : IsExecution new (initial new) (endless x)
    first_law = subst (λ (p : Progress). IsExecution new p (endless x)) begins (goes_on setup m who later above (initial old) x law early fed_under)

    -- and leaves what a later journal begins with
    pub first_to : progress_after (initial new) (endless x) ≡ initial (duties setup m who)
    first_to =
        ap (λ (p : Progress). progress_after p (endless x)) (sym begins)
        ∙ (goes_to setup m who later above (initial old) x law
        ∙ (ap (λ (dues : List ℕ). progress_by (dues ++ later) (progress_after (initial old) x).marked) none_due
        ∙ ap (λ (marked : List ℕ). progress_by later marked) a.finished.lawful.no_open_turn))

    first_turned : turned (endless x) ≡ dues_after (first_of setup m) 0 who.node
    first_turned =
        endless_turned x
        ∙ (sym (append-nil (turned x)) ∙ (ap (λ (l : List ℕ). turned x ++ l) (sym none_due) ∙ sym (dues_turned old (initial old) x law)))

    abbrev reached : StateView
    reached = after_all setup who (view_at setup 0 who empty) (endless x)

    replayed : reached ≡ unended (after_all (first_of setup m) who (view_at (first_of setup m) 0 who empty) x)
    replayed = replay_first setup m who (view_at (first_of setup m) 0 who empty) x names

    pub first_view_of : reached ≡ view_at setup m who s
    first_view_of =
        same_view reached (view_at setup m who s)
        (after_func setup who (view_at setup 0 who empty) (endless x)
        ∙ (ap (func_by setup who.node who.func) (first_turned ∙ first_dues setup m who.node le) ∙ func_covering setup kept.covers who.node who.func m))
        (ap (λ (l : StateView). l.counts) replayed ∙ sym a.state_is)
        (after_last setup who (view_at setup 0 who empty) (endless x)
        ∙ (ap (last_by 0) (first_turned ∙ first_dues setup m who.node le) ∙ last_covering setup kept.covers who.node m))
        (ap (λ (l : StateView). l.ended) replayed)

    pub joined_worked : (y : List Entry) (s' : Counts) (begin : Begin) → begin.turned ≡ m → IsWorked setup begin who s y s' → IsWorked setup (at_first setup) who empty (endless x ++ y) s'
    joined_worked y s' begin turned_is b' =
        let m' = duties setup m who in
        let b : IsWorked setup (record begin { turned = m }) who s y s' = subst (λ k. IsWorked setup (record begin { turned = k }) who s y s') turned_is b' in
        let whole : progress_after (initial new) (endless x ++ y) ≡ progress_after (initial m') y =
        progress_after-append (initial new) (endless x) y ∙ ap (λ (p : Progress). progress_after p y) first_to in
        record {
          finished = record {
            lawful = record {
              execution = (IsExecution-append new (initial new) (endless x) y).1 (
                first_law,
                subst (λ (p : Progress). IsExecution new p y) (sym first_to) (same_law setup m who (initial m') y b.finished.lawful.execution),
              );
              no_open_turn = ap (λ (p : Progress). p.marked) whole ∙ b.finished.lawful.no_open_turn;
            };
            ended = subst (λ (p : Progress). All (Contains p.ended) new.lanes) (sym whole) b.finished.ended;
          };
          state_is =
              b.state_is
              ∙ ap (λ (l : StateView). l.counts)
              (ap (λ (l : StateView). after_all setup who l y) (sym first_view_of) ∙ sym (after_all-append setup who (view_at setup 0 who empty) (endless x) y));
        }

-- ---- the whole run

sent_some : (setup : SetupView) (begin : Begin) (lane : Lane) (p : Option Worker) (c : Option Counts) (j : Option (List Entry)) (xs : List Item) → sent_by setup begin lane p c j ≡ Some xs
    → (who : Worker) × (counts : Counts) × (journal : List Entry) × (p ≡ Some who) × (c ≡ Some counts) × (j ≡ Some journal)
    × (items_sent setup who (view_at setup begin.turned who counts) lane journal ≡ xs)
sent_some setup begin lane (Some who) (Some counts) (Some journal) xs e = (who, counts, journal, refl, refl, refl, cc)
sent_some setup begin lane (Some who) (Some counts) None xs e = absurd (cc)
sent_some setup begin lane (Some who) None j xs e = absurd (cc)
sent_some setup begin lane None c j xs e = absurd (cc)

-- what both parts have of a worker
record Both (setup : SetupView) (m : ℕ) (begin : Begin) (ja : List (List Entry)) (sa : List Counts) (jb : List (List Entry)) (sb : List Counts) (w : ℕ) : Type 0 where
  who : Worker
  x : List Entry
  y : List Entry
  s : Counts
  s' : Counts
  who_is : slice_get (workers_in setup.job) w ≡ Some who
  x_is : slice_get ja w ≡ Some x
  y_is : slice_get jb w ≡ Some y
  s_is : slice_get sa w ≡ Some s
  s'_is : slice_get sb w ≡ Some s'
  first : IsWorked (first_of setup m) (at_first (first_of setup m)) who empty x s
  second : IsWorked setup begin who s y s'

module _ (setup : SetupView) (rows : List Row) (n m : ℕ) (kept : Kept setup) (within : n ≤ length rows) (le : m ≤ length setup.requests)
    (split : AreSplit n (length rows) m (afters setup.requests)) (fa fb : List Feed) (ja jb : List (List Entry)) (sa sb : List Counts)
    (g : Running (take n rows) (ran_as (first_of setup m) fa ja sa))
    (b : IsRunFrom (record { row = n; turned = m; states = sa }) rows (ran_as setup fb jb sb))
  where
    abbrev cut : SetupView
    cut = first_of setup m

    abbrev one : Ran
    one = ran_as cut fa ja sa

    abbrev begin : Begin
    begin = record { row = n; turned = m; states = sa }

    le_plans : m ≤ length setup.plans
    le_plans = let e = kept.one_each in omega arith

    empty_there : (w : ℕ) (who : Worker) → slice_get (workers_in setup.job) w ≡ Some who → slice_get (at_first setup).states w ≡ Some empty
    empty_there w who e = slice_get-map (λ (who : Worker). empty) (workers_in setup.job) w ∙ ap (option_map (λ (who : Worker). empty)) e

    both : (w : ℕ) → w < length (workers_in setup.job) → Both setup m begin ja sa jb sb w
    both w lt =
        let p = item_at (workers_in setup.job) w lt in
        let x = item_at ja w (omega (arith, g.run.one_journal_each)) in
        let s = item_at sa w (omega (arith, g.run.one_state_each)) in
        let y = item_at jb w (omega (arith, b.one_journal_each)) in
        let s' = item_at sb w (omega (arith, b.one_state_each)) in
        record {
          who = p.0;
          x = x.0;
          y = y.0;
          s = s.0;
          s' = s'.0;
          who_is = p.1;
          x_is = x.1;
          y_is = y.1;
          s_is = s.1;
          s'_is = s'.1;
          first = g.run.worked w p.0 empty x.0 s.0 p.1 (empty_there w p.0 p.1) x.1 s.1;
          second = b.worked w p.0 s.0 y.0 s'.0 p.1 s.1 y.1 s'.1;
        }

    -- ---- feeds

    count_is : length (take m (afters setup.requests)) ≡ m
    count_is = length-take-le m (afters setup.requests) (omega (arith, length-map setup.requests (λ (request : Request). request.after)))

    rows_are : length (take n rows) ≡ n
    rows_are = length-take-le n rows within

    fa_is : fa ≡ feed_from 0 0 (take m (afters setup.requests)) n
    fa_is = g.run.feed ∙ (ap (λ k. feed_from 0 0 (afters (take m setup.requests)) k) rows_are ∙ ap (λ (l : List ℕ). feed_from 0 0 l n) (sym (take-map (λ (request : Request). request.after) m setup.requests)))

    whole_feed : unstopped fa ++ fb ≡ feed_from 0 0 (afters setup.requests) (length rows)
    whole_feed =
        let waits : List ℕ = afters setup.requests in
        let next : 1 + length (take m waits) ≡ m + 1 = omega (arith, count_is) in
        let second : issued_at_first n (length rows) (1 + length (take m waits)) (drop m waits) ++ feed_after (drop m waits) (1 + length (take m waits)) n (length rows) (length rows - n) ≡ fb =
        ap (λ k. issued_at_first n (length rows) k (drop m waits) ++ feed_after (drop m waits) k n (length rows) (length rows - n)) next ∙ sym b.feed in
        sym (ap (λ (l : List ℕ). feed_from 0 0 l (length rows)) (sym (take-append-drop m waits))
        ∙ (feeds_both (length rows) n (take m waits) (drop m waits) within split.early split.late
        ∙ (ap (λ (l : List Feed). unstopped (feed_from 0 0 (take m waits) n) ++ l) second ∙ ap (λ (l : List Feed). unstopped l ++ fb) (sym fa_is))))

    issued_is : issued_in fa ≡ m
    issued_is = ap issued_in fa_is ∙ (feed_issues n (take m (afters setup.requests)) ∙ count_is)

    fed_both : (lane : Lane) → fed setup.job rows 0 lane (unstopped fa ++ fb) ≡ fed setup.job (take n rows) 0 lane fa ++ fed setup.job rows m lane fb
    fed_both lane =
        let next : m ≡ 0 + issued_in (unstopped fa) = omega (arith, issued_in_unstopped fa, issued_is) in
        let up : FedUpTo n fa = subst (FedUpTo n) (sym fa_is) (feed_up n (take m (afters setup.requests))) in
        ap (items_on lane) (fed_puts-append setup.job rows 0 m (unstopped fa) fb next)
        ∙ (filter_map-append (item_on lane) (fed_puts setup.job rows 0 (unstopped fa)) (fed_puts setup.job rows m fb)
        ∙ ap (λ (ps : List Put). items_on lane ps ++ fed setup.job rows m lane fb) (sym (fed_puts_first setup.job rows n 0 fa up)))

    -- ---- workers

    fed_under : (w : ℕ) (x : List Entry) → w < length (workers_in setup.job) → slice_get ja w ≡ Some x → (l : ℕ) (t : Tuple) → IsIn (entry.Met l t) x → t.issued ≤ m
    fed_under w x lt e l t i =
        let k : t.issued ≤ issued_in fa = met_issued (take n rows) one g w l t lt (subst (λ (j : List Entry). IsIn (entry.Met l t) j) (sym (journal_is one w x e)) i) in
        omega (arith, k, issued_is)

    module _ (w : ℕ) (lt : w < length (workers_in setup.job)) (h : Both setup m begin ja sa jb sb w) where
      worker : IsWorker setup.job h.who
      worker = (worker_with setup.job w h.who h.who_is).1

      under : (l : ℕ) (t : Tuple) → IsIn (entry.Met l t) h.x → t.issued ≤ m
      under = fed_under w h.x lt h.x_is

      names_here : NamesUpTo m h.x
      names_here = names setup kept m le_plans h.who worker h.x h.s h.first under

      view_here : after_all setup h.who (view_at setup 0 h.who empty) (endless h.x) ≡ view_at setup m h.who h.s
      view_here = first_view_of setup kept m le_plans h.who worker h.x h.s h.first under

      worked_here : IsWorked setup (at_first setup) h.who empty (endless h.x ++ h.y) h.s'
      worked_here = joined_worked setup kept m le_plans h.who worker h.x h.s h.first under h.y h.s' begin refl h.second

      sent_here : (lane : Lane) → items_sent setup h.who (view_at setup 0 h.who empty) lane (endless h.x ++ h.y)
          ≡ no_last (items_sent cut h.who (view_at cut 0 h.who empty) lane h.x) ++ items_sent setup h.who (view_at setup m h.who h.s) lane h.y
      sent_here lane =
          sent-append setup h.who (view_at setup 0 h.who empty) lane (endless h.x) h.y
          ∙ (ap (λ (items : List Item). items ++ items_sent setup h.who (after_all setup h.who (view_at setup 0 h.who empty) (endless h.x)) lane h.y) (sym (sent_first setup m h.who (view_at cut 0 h.who empty) lane h.x names_here))
          ∙ ap (λ (l : StateView). no_last (items_sent cut h.who (view_at cut 0 h.who empty) lane h.x) ++ items_sent setup h.who l lane h.y) view_here)

    -- ---- lanes

    put_both : (lane : Lane) (sender : Option ℕ) (xs ys : List Item) → put_by (at_first cut) (take n rows) one lane sender ≡ Some xs → put_by begin rows (ran_as setup fb jb sb) lane sender ≡ Some ys
        → put_by (at_first setup) rows (ran_as setup (unstopped fa ++ fb) (map joined_journal (zip ja jb)) sb) lane sender ≡ Some (no_last xs ++ ys)
    put_both lane None xs ys p q =
        let x : fed setup.job (take n rows) 0 lane fa ++ item.Last ∷ [] ≡ xs = cc in
        let y : fed setup.job rows m lane fb ++ item.Last ∷ [] ≡ ys = cc in
        ap Some
        (ap (λ (items : List Item). items ++ item.Last ∷ []) (fed_both lane)
        ∙ (append_assoc (fed setup.job (take n rows) 0 lane fa) (fed setup.job rows m lane fb) (item.Last ∷ [])
        ∙ (ap (λ (items : List Item). items ++ (fed setup.job rows m lane fb ++ item.Last ∷ [])) (sym (fed_stays setup.job (take n rows) 0 lane fa) ∙ ap no_last x)
        ∙ ap (λ (items : List Item). no_last xs ++ items) y)))
    put_both lane (Some v) xs ys p q =
        let (who, counts, journal, who_is, counts_is, journal_is, first) = sent_some cut (at_first cut) lane (slice_get (workers_in setup.job) v) (slice_get (at_first setup).states v) (slice_get ja v) xs p in
        let (who', counts', journal', who_is', counts_is', journal_is', second) = sent_some setup begin lane (slice_get (workers_in setup.job) v) (slice_get sa v) (slice_get jb v) ys q in
        let lt : v < length (workers_in setup.job) = slice_get_within (workers_in setup.job) v who who_is in
        go lt (both v lt) p q
      where
        go : v < length (workers_in setup.job) → Both setup m begin ja sa jb sb v
            → sent_by cut (at_first cut) lane (slice_get (workers_in setup.job) v) (slice_get (at_first setup).states v) (slice_get ja v) ≡ Some xs
            → sent_by setup begin lane (slice_get (workers_in setup.job) v) (slice_get sa v) (slice_get jb v) ≡ Some ys
            → sent_by setup (at_first setup) lane (slice_get (workers_in setup.job) v) (slice_get (at_first setup).states v) (slice_get (map joined_journal (zip ja jb)) v) ≡ Some (no_last xs ++ ys)
        go lt h p q =
            let p' : Some (items_sent cut h.who (view_at cut 0 h.who empty) lane h.x) ≡ Some xs = rw (h.who_is, empty_there v h.who h.who_is, h.x_is) at p in
            let q' : Some (items_sent setup h.who (view_at setup m h.who h.s) lane h.y) ≡ Some ys = rw (h.who_is, h.s_is, h.y_is) at q in
            let x : items_sent cut h.who (view_at cut 0 h.who empty) lane h.x ≡ xs = cc in
            let y : items_sent setup h.who (view_at setup m h.who h.s) lane h.y ≡ ys = cc in
            rw (h.who_is, empty_there v h.who h.who_is, get_joined ja jb v h.x h.y h.x_is h.y_is) (
            ap Some (sent_here v lt h lane
            ∙ (ap (λ (items : List Item). no_last items ++ items_sent setup h.who (view_at setup m h.who h.s) lane h.y) x ∙ ap (λ (items : List Item). no_last xs ++ items) y)))

    pub joined_run : IsRunFrom (at_first setup) rows (ran_as setup (unstopped fa ++ fb) (map joined_journal (zip ja jb)) sb)
    joined_run = record {
      feed = whole_feed;
      one_start_each = length-map (workers_in setup.job) (λ (who : Worker). empty);
      one_journal_each =
          length-map (zip ja jb) joined_journal ∙ (length-zip ja jb ∙ (let k : min (length ja) (length jb) ≡ length (workers_in setup.job) = omega (arith, g.run.one_journal_each, b.one_journal_each) in k));
      one_state_each = b.one_state_each;
      worked = λ w who counts journal state p c j s.
          let lt : w < length (workers_in setup.job) = slice_get_within (workers_in setup.job) w who p in
          let h : Both setup m begin ja sa jb sb w = both w lt in
          let e : who ≡ h.who = same_Some who h.who (sym p ∙ h.who_is) in
          let f : counts ≡ empty = same_Some counts empty (sym c ∙ empty_there w h.who h.who_is) in
          let i : journal ≡ endless h.x ++ h.y = same_Some journal (endless h.x ++ h.y) (sym j ∙ get_joined ja jb w h.x h.y h.x_is h.y_is) in
          let k : state ≡ h.s' = same_Some state h.s' (sym s ∙ h.s'_is) in
          rw (e, f, i, k) (worked_here w lt h);
      conserved = λ k lane journal at j.
          let l : lane.receiver < length (map joined_journal (zip ja jb)) = slice_get_within (map joined_journal (zip ja jb)) lane.receiver journal j in
          let lt : lane.receiver < length (workers_in setup.job) =
          omega (arith, l, length-map (zip ja jb) joined_journal, length-zip ja jb, g.run.one_journal_each) in
          let h : Both setup m begin ja sa jb sb lane.receiver = both lane.receiver lt in
          let i : journal ≡ endless h.x ++ h.y = same_Some journal (endless h.x ++ h.y) (sym j ∙ get_joined ja jb lane.receiver h.x h.y h.x_is h.y_is) in
          rw i
          (put_both lane lane.sender (shown cut k h.x) (shown setup k h.y) (g.run.conserved k lane h.x at h.x_is) (b.conserved k lane h.y at h.y_is)
          ∙ ap Some
          (ap (λ (items : List Item). items ++ shown setup k h.y) (shown_first setup m k h.x (names_here lane.receiver lt h)) ∙ sym (shown-append setup k (endless h.x) h.y)));
    }
