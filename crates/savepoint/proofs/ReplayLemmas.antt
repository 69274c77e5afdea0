-- The replay of a journal of the first part, without its ends, in the whole setup.
use Rattle.std.proofs.Common.{◌≡◌, ◌∙◌, ◌≤◌, ◌+◌, ◌++◌, ◌==◌, ℕ, zero, suc, List, [], ◌∷◌, inl, inr, refl, sym, ap, arith, true, false, Bool, cond, not, Some, None, Option, filter, flat_map}
use Rattle.std.specs.List.{cons_option}
use Rattle.std.proofs.lemmas.List.{append-nil}
use Rattle.std.proofs.lemmas.List.Elements.{filter-append}
use Rattle.cover_planner.specs.declared.cover.Plan.{Plan}
use Rattle.jobs.specs.JobView.{JobView}
use Rattle.jobs.specs.declared.func.Func.{Func}
use Rattle.sink_journal.specs.declared.journal.Entry.{Entry}
use Rattle.sink_journal.specs.declared.journal.Entry.TheVariants as entry
use Rattle.sink_journal.specs.declared.journal.Feed.{Feed}
use Rattle.tuple_trace.specs.declared.row.Row.{Row}
use Rattle.tuple_trace.specs.declared.tuple.Item.{Item}
use Rattle.tuple_trace.specs.declared.tuple.Item.TheVariants as item
use Rattle.versions.specs.declared.request.Change.{Change}
use Rattle.versions.specs.declared.request.Request.{Request}
use Rattle.flow_model.specs.Begin.{last_after}
use Rattle.flow_model.specs.Covers.{covers, holds_edge, plan_of}
use Rattle.flow_model.specs.Feeding.{fed, fed_puts}
use Rattle.flow_model.specs.Lanes.{is_same_lane, lanes_out}
use Rattle.flow_model.specs.declared.topology.Lane.{Lane}
use Rattle.flow_model.specs.SetupView.{SetupView, Worker}
use Rattle.flow_model.specs.Points.{turned}
use Rattle.flow_model.specs.Replay.{StateView, Put, after, after_all, came_in, items_on, marker, marker_by, put_on_each, puts, items_sent, shown, after_change}
use Rattle.flow_model.specs.Requests.{change_asked, change_by, changes, func_after, func_with}
use Rattle.flow_model.specs.Duties.{numbers_from}
use Rattle.flow_model.proofs.ElementLemmas.{IsIn}
use Rattle.flow_model.proofs.PlannedLemmas.{HasCovers}
use Rattle.flow_model.proofs.RunLemmas.{in_fed_puts}
use Rattle.flow_model.proofs.SendingLemmas.{puts_come}
use Rattle.flow_model.proofs.TableLemmas.{unchanged, with_func}
use Rattle.savepoint.specs.Parts.{endless, first_of}
use Rattle.savepoint.proofs.CutLemmas.{plan_first, request_first}
use Rattle.savepoint.proofs.EndlessLemmas.{NamesUpTo}

-- ---- what is in force

-- what is in force, where no lane has ended
abbrev pub unended : StateView → StateView
unended view = record view { ended = 0 }

turn_first : (setup : SetupView) (m : ℕ) (who : Worker) (view : StateView) (r : ℕ) → r ≤ m
    → after setup who (unended view) (entry.Turned r) ≡ unended (after (first_of setup m) who view (entry.Turned r))
turn_first setup m who view r le =
    ap (λ (o : Option Request). record (after_change (change_asked o who.node) (unended view)) { last = r }) (sym (request_first setup m r le))
    ∙ go (change_by (first_of setup m) r who.node)
  where
    go : (o : Option Change) → ◌≡◌ {A = StateView} (record (after_change o (unended view)) { last = r }) (unended (record (after_change o view) { last = r }))
    go None = refl
    go (Some change) = refl

pub replay_first : (setup : SetupView) (m : ℕ) (who : Worker) (view : StateView) (journal : List Entry) → NamesUpTo m journal
    → after_all setup who (unended view) (endless journal) ≡ unended (after_all (first_of setup m) who view journal)
replay_first setup m who view [] h = refl
replay_first setup m who view (entry.Met l t ∷ more) h = replay_first setup m who (after (first_of setup m) who view (entry.Met l t)) more h
replay_first setup m who view (entry.Marked l r ∷ more) h = replay_first setup m who view more h.1
replay_first setup m who view (entry.Turned r ∷ more) h =
    ap (λ (view : StateView). after_all setup who view (endless more)) (turn_first setup m who view r h.0)
    ∙ replay_first setup m who (after (first_of setup m) who view (entry.Turned r)) more h.1
replay_first setup m who view (entry.Ended l ∷ more) h = replay_first setup m who (after (first_of setup m) who view (entry.Ended l)) more h

-- ---- items without ends

abbrev pub is_last : Item → Bool
is_last (item.Carry tuple) = false
is_last (item.Mark request cover) = false
is_last item.Last = true

abbrev pub no_last : List Item → List Item
no_last items = filter (λ (item : Item). not (is_last item)) items

no_last-append : (xs ys : List Item) → no_last (xs ++ ys) ≡ no_last xs ++ no_last ys
no_last-append xs ys = filter-append (λ (item : Item). not (is_last item)) xs ys

kept : (lane : Lane) (ps : List Put) → ((p : Put) → IsIn p ps → is_last p.item ≡ false) → no_last (items_on lane ps) ≡ items_on lane ps
kept lane [] h = refl
kept lane (p ∷ ps) h = go (is_same_lane p.lane lane) (h p (inl refl)) (kept lane ps (λ q i. h q (inr i)))
  where
    go : (b : Bool) → is_last p.item ≡ false → no_last (items_on lane ps) ≡ items_on lane ps
        → no_last (cons_option (cond b (Some p.item) None) (items_on lane ps)) ≡ cons_option (cond b (Some p.item) None) (items_on lane ps)
    go true e f = rw e (ap (λ (l : List Item). p.item ∷ l) f)
    go false e f = f

dropped : (lane : Lane) (ps : List Put) → ((p : Put) → IsIn p ps → p.item ≡ item.Last) → no_last (items_on lane ps) ≡ []
dropped lane [] h = refl
dropped lane (p ∷ ps) h = go (is_same_lane p.lane lane) (ap is_last (h p (inl refl))) (dropped lane ps (λ q i. h q (inr i)))
  where
    go : (b : Bool) → is_last p.item ≡ true → no_last (items_on lane ps) ≡ [] → no_last (cons_option (cond b (Some p.item) None) (items_on lane ps)) ≡ []
    go true e f = rw e f
    go false e f = f

-- ---- what is sent

turn_puts : (setup : SetupView) (m : ℕ) (who : Worker) (view : StateView) (r : ℕ) → r ≤ m → puts (first_of setup m) who view (entry.Turned r) ≡ puts setup who (unended view) (entry.Turned r)
turn_puts setup m who view r le =
    ap (λ (o : Option Plan). flat_map (λ mark. put_on_each mark (filter (λ (lane : Lane). holds_edge o lane.edge) (lanes_out setup.job who.number))) (marker_by r o)) (plan_first setup m r le)

pub sent_first : (setup : SetupView) (m : ℕ) (who : Worker) (view : StateView) (lane : Lane) (journal : List Entry) → NamesUpTo m journal
    → no_last (items_sent (first_of setup m) who view lane journal) ≡ items_sent setup who (unended view) lane (endless journal)
sent_first setup m who view lane [] h = refl
sent_first setup m who view lane (entry.Met l t ∷ more) h =
    let cut : SetupView = first_of setup m in
    let here : List Item = items_on lane (puts cut who view (entry.Met l t)) in
    let none : (p : Put) → IsIn p (puts cut who view (entry.Met l t)) → is_last p.item ≡ false = λ p i. ap is_last (puts_come cut who view (entry.Met l t) p i).1 in
    no_last-append here (items_sent cut who (after cut who view (entry.Met l t)) lane more)
    ∙ (ap (λ (items : List Item). items ++ no_last (items_sent cut who (after cut who view (entry.Met l t)) lane more)) (kept lane (puts cut who view (entry.Met l t)) none)
    ∙ ap (λ (items : List Item). here ++ items) (sent_first setup m who (after cut who view (entry.Met l t)) lane more h))
sent_first setup m who view lane (entry.Marked l r ∷ more) h = sent_first setup m who view lane more h.1
sent_first setup m who view lane (entry.Turned r ∷ more) h =
    let cut : SetupView = first_of setup m in
    let x : Entry = entry.Turned r in
    let none : (p : Put) → IsIn p (puts cut who view x) → is_last p.item ≡ false = λ p i. ap is_last (puts_come cut who view x p i).2 in
    let later : no_last (items_sent cut who (after cut who view x) lane more) ≡ items_sent setup who (after setup who (unended view) x) lane (endless more) =
    sent_first setup m who (after cut who view x) lane more h.1 ∙ ap (λ (view : StateView). items_sent setup who view lane (endless more)) (sym (turn_first setup m who view r h.0)) in
    no_last-append (items_on lane (puts cut who view x)) (items_sent cut who (after cut who view x) lane more)
    ∙ (ap (λ (items : List Item). items ++ no_last (items_sent cut who (after cut who view x) lane more)) (kept lane (puts cut who view x) none)
    ∙ (ap (λ (ps : List Put). items_on lane ps ++ no_last (items_sent cut who (after cut who view x) lane more)) (turn_puts setup m who view r h.0)
    ∙ ap (λ (items : List Item). items_on lane (puts setup who (unended view) x) ++ items) later))
sent_first setup m who view lane (entry.Ended n ∷ more) h =
    let cut : SetupView = first_of setup m in
    let x : Entry = entry.Ended n in
    no_last-append (items_on lane (puts cut who view x)) (items_sent cut who (after cut who view x) lane more)
    ∙ (ap (λ (items : List Item). items ++ no_last (items_sent cut who (after cut who view x) lane more)) (dropped lane (puts cut who view x) (puts_come cut who view x))
    ∙ sent_first setup m who (after cut who view x) lane more h)

-- ---- what is shown

marks_stay : (r : ℕ) (o : Option Plan) → no_last (marker_by r o) ≡ marker_by r o
marks_stay r None = refl
marks_stay r (Some plan) = refl

pub shown_first : (setup : SetupView) (m n : ℕ) (journal : List Entry) → NamesUpTo m journal → no_last (shown (first_of setup m) n journal) ≡ shown setup n (endless journal)
shown_first setup m n [] h = refl
shown_first setup m n (entry.Met l t ∷ more) h =
    no_last-append (came_in (first_of setup m) n (entry.Met l t)) (shown (first_of setup m) n more)
    ∙ (ap (λ (items : List Item). items ++ no_last (shown (first_of setup m) n more)) (go (l == n))
    ∙ ap (λ (later : List Item). came_in setup n (entry.Met l t) ++ later) (shown_first setup m n more h))
  where
    go : (b : Bool) → no_last (cond b (item.Carry t ∷ []) []) ≡ cond b (item.Carry t ∷ []) []
    go true = refl
    go false = refl
shown_first setup m n (entry.Marked l r ∷ more) h =
    no_last-append (came_in (first_of setup m) n (entry.Marked l r)) (shown (first_of setup m) n more)
    ∙ (ap (λ (items : List Item). items ++ no_last (shown (first_of setup m) n more)) (go (l == n))
    ∙ ap (λ (later : List Item). came_in setup n (entry.Marked l r) ++ later) (shown_first setup m n more h.1))
  where
    go : (b : Bool) → no_last (cond b (marker (first_of setup m) r) []) ≡ cond b (marker setup r) []
    go true = marks_stay r (plan_of (first_of setup m) r) ∙ ap (marker_by r) (plan_first setup m r h.0)
    go false = refl
shown_first setup m n (entry.Turned r ∷ more) h = shown_first setup m n more h.1
shown_first setup m n (entry.Ended l ∷ more) h =
    no_last-append (came_in (first_of setup m) n (entry.Ended l)) (shown (first_of setup m) n more)
    ∙ (ap (λ (items : List Item). items ++ no_last (shown (first_of setup m) n more)) (go (l == n)) ∙ shown_first setup m n more h)
  where
    go : (b : Bool) → no_last (cond b (item.Last ∷ []) []) ≡ []
    go true = refl
    go false = refl

pub fed_stays : (job : JobView) (rows : List Row) (issued : ℕ) (lane : Lane) (feeds : List Feed) → no_last (fed job rows issued lane feeds ++ item.Last ∷ []) ≡ fed job rows issued lane feeds
fed_stays job rows issued lane feeds =
    no_last-append (fed job rows issued lane feeds) (item.Last ∷ [])
    ∙ (append-nil (no_last (fed job rows issued lane feeds))
    ∙ kept lane (fed_puts job rows issued feeds) (λ p i. let r = in_fed_puts job rows issued feeds p i in ap (λ (p : Put). is_last p.item) r.4))

-- ---- where the second part begins

-- the function after these requests were turned, and the latest of them
abbrev pub func_by : SetupView → ℕ → Func → List ℕ → Func
func_by setup node f [] = f
func_by setup node f (r ∷ more) = func_by setup node (func_with (change_by setup r node) f) more

abbrev pub last_by : ℕ → List ℕ → ℕ
last_by last [] = last
last_by last (r ∷ more) = last_by r more

pub after_func : (setup : SetupView) (who : Worker) (view : StateView) (journal : List Entry) → (after_all setup who view journal).func ≡ func_by setup who.node view.func (turned journal)
after_func setup who view [] = refl
after_func setup who view (entry.Met l t ∷ more) = after_func setup who (after setup who view (entry.Met l t)) more
after_func setup who view (entry.Marked l r ∷ more) = after_func setup who view more
after_func setup who view (entry.Turned r ∷ more) =
    after_func setup who (after setup who view (entry.Turned r)) more
    ∙ ap (λ (f : Func). func_by setup who.node f (turned more)) (with_func (change_by setup r who.node) view)
after_func setup who view (entry.Ended l ∷ more) = after_func setup who (after setup who view (entry.Ended l)) more

pub after_last : (setup : SetupView) (who : Worker) (view : StateView) (journal : List Entry) → (after_all setup who view journal).last ≡ last_by view.last (turned journal)
after_last setup who view [] = refl
after_last setup who view (entry.Met l t ∷ more) = after_last setup who (after setup who view (entry.Met l t)) more
after_last setup who view (entry.Marked l r ∷ more) = after_last setup who view more
after_last setup who view (entry.Turned r ∷ more) = after_last setup who (after setup who view (entry.Turned r)) more
after_last setup who view (entry.Ended l ∷ more) = after_last setup who (after setup who view (entry.Ended l)) more

pub endless_turned : (journal : List Entry) → turned (endless journal) ≡ turned journal
endless_turned [] = refl
endless_turned (entry.Met l t ∷ more) = endless_turned more
endless_turned (entry.Marked l r ∷ more) = endless_turned more
endless_turned (entry.Turned r ∷ more) = ap (λ (l : List ℕ). r ∷ l) (endless_turned more)
endless_turned (entry.Ended l ∷ more) = endless_turned more

func_by-append : (setup : SetupView) (node : ℕ) (f : Func) (xs ys : List ℕ) → func_by setup node f (xs ++ ys) ≡ func_by setup node (func_by setup node f xs) ys
func_by-append setup node f [] ys = refl
func_by-append setup node f (x ∷ xs) ys = func_by-append setup node (func_with (change_by setup x node) f) xs ys

last_by-append : (last : ℕ) (xs ys : List ℕ) → last_by last (xs ++ ys) ≡ last_by (last_by last xs) ys
last_by-append last [] ys = refl
last_by-append last (x ∷ xs) ys = last_by-append x xs ys

one_more : (first count next : ℕ) → next ≡ first + count → numbers_from first (suc count) ≡ numbers_from first count ++ next ∷ []
one_more first zero next e = let f : first ≡ next = omega arith in ap (λ k. k ∷ []) f
one_more first (suc count) next e = ap (λ (l : List ℕ). first ∷ l) (one_more (first + 1) count next (omega arith))

module _ (setup : SetupView) (covered : HasCovers setup) (node : ℕ) where
  abbrev pub covering : ℕ → List ℕ
  covering m = filter (λ r. covers setup r node) (numbers_from 1 m)

  covering_more : (m : ℕ) → covering (suc m) ≡ covering m ++ filter (λ r. covers setup r node) (suc m ∷ [])
  covering_more m =
      ap (filter (λ r. covers setup r node)) (one_more 1 m (suc m) (omega arith)) ∙ filter-append (λ r. covers setup r node) (numbers_from 1 m) (suc m ∷ [])

  uncovered : (r : ℕ) → covers setup r node ≡ false → change_by setup r node ≡ None
  uncovered r h = go (changes setup r node) refl
    where
      go : (b : Bool) → changes setup r node ≡ b → change_by setup r node ≡ None
      go true e = let c : covers setup r node ≡ true = covered.asked r node (covered.changed r node e) in absurd (cc)
      go false e = unchanged setup r node e

  pub func_covering : (f : Func) (m : ℕ) → func_by setup node f (covering m) ≡ func_after setup node f m
  func_covering f zero = refl
  func_covering f (suc m) =
      ap (func_by setup node f) (covering_more m)
      ∙ (func_by-append setup node f (covering m) (filter (λ r. covers setup r node) (suc m ∷ []))
      ∙ (ap (λ (g : Func). func_by setup node g (filter (λ r. covers setup r node) (suc m ∷ []))) (func_covering f m) ∙ go (covers setup (suc m) node) refl))
    where
      go : (b : Bool) → covers setup (suc m) node ≡ b → func_by setup node (func_after setup node f m) (cond b (suc m ∷ []) []) ≡ func_with (change_by setup (suc m) node) (func_after setup node f m)
      go true e = refl
      go false e = ap (λ o. func_with o (func_after setup node f m)) (sym (uncovered (suc m) e))

  pub last_covering : (m : ℕ) → last_by 0 (covering m) ≡ last_after setup node m
  last_covering zero = refl
  last_covering (suc m) =
      ap (last_by 0) (covering_more m)
      ∙ (last_by-append 0 (covering m) (filter (λ r. covers setup r node) (suc m ∷ []))
      ∙ (ap (λ k. last_by k (filter (λ r. covers setup r node) (suc m ∷ []))) (last_covering m) ∙ go (covers setup (suc m) node)))
    where
      go : (b : Bool) → last_by (last_after setup node m) (cond b (suc m ∷ []) []) ≡ cond b (suc m) (last_after setup node m)
      go true = refl
      go false = refl
