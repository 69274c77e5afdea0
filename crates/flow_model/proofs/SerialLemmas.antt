-- In a run under which rows and requests have one order, each row comes behind some of the first requests and before all later ones.
use Rattle.std.proofs.Common.{◌≡◌, ◌∙◌, ◌<◌, ◌≤◌, ◌+◌, ◌-◌, ◌⊎◌, ℕ, zero, suc, List, inl, inr, refl, sym, subst, ap, arith, true, false, Bool, cond, not, length, Some, None, Option, slice_get}
use Rattle.std.specs.Prelude.{IsTrue}
use Rattle.std.proofs.lemmas.Bool.{and_parts, cases_eq, cases_lt}
use Rattle.std.proofs.lemmas.Option.{slice_get_within}
use Rattle.jobs.specs.Nodes.{AreFromSources}
use Rattle.jobs.specs.declared.func.Func.{Func}
use Rattle.jobs.specs.declared.func.NodeDef.{NodeDef}
use Rattle.sink_journal.specs.declared.journal.Entry.{Entry}
use Rattle.sink_journal.specs.declared.journal.Entry.TheVariants as entry
use Rattle.tuple_trace.specs.declared.row.Row.{Row}
use Rattle.tuple_trace.specs.declared.tuple.Tuple.{Tuple}
use Rattle.versions.specs.declared.request.Change.{Change}
use Rattle.versions.specs.declared.request.Request.{Request}
use Rattle.flow_model.specs.Covers.{asks}
use Rattle.flow_model.specs.OneTable.{HasNoCounts}
use Rattle.flow_model.specs.SetupView.{SetupView, Worker}
use Rattle.flow_model.specs.Requests.{change_by, changes, func_after, func_with, names}
use Rattle.flow_model.specs.Run.{Ran}
use Rattle.flow_model.specs.Serial.{IsSerial, SeesPrefix, func_of_node, newest, serial, funcs_after}
use Rattle.flow_model.specs.Whole.{IsOneSided, after_turn, any_before, asked_workers, before_turn, changed_workers, is_new, is_old, journals_at, meets_row}
use Rattle.flow_model.specs.Workers.{workers_in}
use Rattle.flow_model.proofs.ElementLemmas.{IsIn, any_in, filter_in, filter_map_in, in_any, in_filter, in_filter_map}
use Rattle.flow_model.proofs.WorkerLemmas.{IsWorker, begun, in_workers, journal_is, journal_of, who_is, worker_no, worker_is}
use Rattle.flow_model.proofs.PlannedLemmas.{dues_rise}
use Rattle.flow_model.proofs.KindLemmas.{AreAlike, alike_self, changed_alike}
use Rattle.flow_model.proofs.StoryLemmas.{Moment}
use Rattle.flow_model.proofs.RunLemmas.{HasWorker, Running, execution, start_of, duties_of}
use Rattle.flow_model.proofs.LineageLemmas.{story_of}
use Rattle.flow_model.proofs.TurnLemmas.{Early}
use Rattle.flow_model.proofs.WholeLemmas.{changed_asked, early_of, fewer_pass, one_sided}
use Rattle.flow_model.proofs.LandingLemmas.{AreTables}
use Rattle.flow_model.proofs.TableLemmas.{by_turns, early_before, early_in, func_gap, late_new, meets_of}
use Rattle.flow_model.proofs.OneTableLemmas.{same_count}

-- ---- the greatest request at which a row is new

-- it is at none behind it
newest_last : (ran : Ran) (row n r : ℕ) → newest ran row n < r → r ≤ n → is_new ran r row ≡ false
newest_last ran row zero r lt le = absurd (omega arith)
newest_last ran row (suc n) r lt le = go (is_new ran (suc n) row) refl lt (newest_last ran row n r)
  where
    go : (b : Bool) → is_new ran (suc n) row ≡ b → cond b (suc n) (newest ran row n) < r → (newest ran row n < r → r ≤ n → is_new ran r row ≡ false) → is_new ran r row ≡ false
    go true e lt later = absurd (omega arith)
    go false e lt later =
        elim (cases_eq r (suc n)) [
          | inl same ↦ ap (λ k. is_new ran k row) same ∙ e
          | inr ne ↦ later lt (omega arith)
        ]

-- it is new there, or at none
newest_is : (ran : Ran) (row n : ℕ) → (newest ran row n ≡ 0) ⊎ ((is_new ran (newest ran row n) row ≡ true) × (newest ran row n ≤ n))
newest_is ran row zero = inl refl
newest_is ran row (suc n) = go (is_new ran (suc n) row) refl (newest_is ran row n)
  where
    go : (b : Bool) → is_new ran (suc n) row ≡ b → (newest ran row n ≡ 0) ⊎ ((is_new ran (newest ran row n) row ≡ true) × (newest ran row n ≤ n))
        → (cond b (suc n) (newest ran row n) ≡ 0) ⊎ ((is_new ran (cond b (suc n) (newest ran row n)) row ≡ true) × (cond b (suc n) (newest ran row n) ≤ suc n))
    go true e h = inr (e, omega arith)
    go false e (inl h) = inl h
    go false e (inr h) = inr (h.0, omega (arith, h.1))

-- ---- a request that changes something is there

changes_within : (setup : SetupView) (r node : ℕ) → changes setup r node ≡ true → (1 ≤ r) × (r ≤ length setup.requests)
changes_within setup zero node h = absurd (cc)
changes_within setup (suc r) node h = go (slice_get setup.requests r) refl h
  where
    go : (o : Option Request) → slice_get setup.requests r ≡ o → names o node ≡ true → (1 ≤ suc r) × (suc r ≤ length setup.requests)
    go None e h = absurd (cc)
    go (Some q) e h = let lt : r < length setup.requests = slice_get_within setup.requests r q e in (omega arith, omega arith)

-- the journal of a worker of a changed node
record IsChanged (ran : Ran) (r : ℕ) (journal : List Entry) : Type 0 where
  who : Worker
  listed : IsIn who (workers_in ran.setup.job)
  there : slice_get ran.journals who.number ≡ Some journal
  changed : changes ran.setup r who.node ≡ true
  within : HasWorker ran who.number
  same : worker_no ran.setup who.number ≡ who
  journal_there : journal_of ran who.number ≡ journal

changed_journal : (ran : Ran) (r : ℕ) (journal : List Entry) → IsIn journal (journals_at ran.journals (changed_workers ran.setup r)) → IsChanged ran r journal
changed_journal ran r journal h =
    let p = in_filter_map (λ (who : Worker). slice_get ran.journals who.number) journal (changed_workers ran.setup r) h in
    let q = in_filter (λ (who : Worker). changes ran.setup r who.node) p.0 (workers_in ran.setup.job) p.1 in
    let is : IsWorker ran.setup.job p.0 = in_workers ran.setup.job p.0 q.0 in
    record {
      who = p.0;
      listed = q.0;
      there = p.2;
      changed = q.1;
      within = slice_get_within (workers_in ran.setup.job) p.0.number p.0 is.there;
      same = who_is ran.setup p.0.number p.0 is.there;
      journal_there = journal_is ran p.0.number journal p.2;
    }

-- a row that is new or met before a turn meets a changed node
new_within : (ran : Ran) (r row : ℕ) → is_new ran r row ≡ true → (1 ≤ r) × (r ≤ length ran.setup.requests)
new_within ran r row h =
    let a = any_in (λ (journal : List Entry). meets_row row (after_turn r journal)) (journals_at ran.journals (changed_workers ran.setup r)) h in
    let c : IsChanged ran r a.0 = changed_journal ran r a.0 a.1 in
    changes_within ran.setup r c.who.node c.changed

module _ (rows : List Row) (ran : Ran) (g : Running rows ran) (ordered : IsTrue ran.setup.ordered) where
  -- a row that an earlier request's node met before its turn was met before the turn of a later one too
  before_later : (row r k : ℕ) → r ≤ k → k ≤ length ran.setup.requests → any_before r row (journals_at ran.journals (changed_workers ran.setup r)) ≡ true
      → any_before k row (journals_at ran.journals (asked_workers ran.setup k)) ≡ true
  before_later row r k le last h =
      let b = any_in (λ (journal : List Entry). meets_row row (before_turn r journal)) (journals_at ran.journals (changed_workers ran.setup r)) h in
      let c : IsChanged ran r b.0 = changed_journal ran r b.0 b.1 in
      let w : ℕ = c.who.number in
      let change : changes ran.setup r (worker_no ran.setup w).node ≡ true = rw c.same c.changed in
      let e : Early ran.setup (worker_no ran.setup w) (begun ran.setup w) (journal_of ran w) row r =
      early_of rows ran g w row r c.within (g.kept.asked r (worker_no ran.setup w).node (g.kept.changed r (worker_no ran.setup w).node change)) (rw c.journal_there b.2) in
      let ahead : IsIn (entry.Met e.found.lane e.found.tuple) (before_turn k (journal_of ran w)) =
      early_in ran.setup (duties_of ran w) (worker_no ran.setup w) (start_of ran w) (begun ran.setup w) (journal_of ran w) k e.found.i e.found.lane e.found.tuple e.found.moment
      (execution rows ran g w c.within) (dues_rise ran.setup 0 (worker_no ran.setup w).node 0 (omega arith)) e.found.there e.found.met (omega (arith, e.earlier)) in
      let meets : meets_row row (before_turn k (journal_of ran w)) ≡ true = meets_of row e.found.lane e.found.tuple (before_turn k (journal_of ran w)) ahead e.found.is_row in
      let asked : asks ran.setup k c.who.node ≡ true = g.kept.ordered ordered r k c.who.node le last c.changed in
      in_any (λ (journal : List Entry). meets_row row (before_turn k journal)) b.0 (journals_at ran.journals (asked_workers ran.setup k))
      (filter_map_in (λ (who : Worker). slice_get ran.journals who.number) c.who b.0 (asked_workers ran.setup k)
      (filter_in (λ (who : Worker). asks ran.setup k who.node) c.who (workers_in ran.setup.job) c.listed asked) c.there)
      (subst (λ (l : List Entry). meets_row row (before_turn k l) ≡ true) c.journal_there meets)

  -- so where a row is new at a request, no earlier one's nodes met it before their turns
  none_before : (row r k : ℕ) → r ≤ k → k ≤ length ran.setup.requests → is_new ran k row ≡ true → any_before r row (journals_at ran.journals (changed_workers ran.setup r)) ≡ true → ⊥
  none_before row r k le last new h = go (one_sided rows ran g k row)
    where
      go : IsOneSided ran k row (asked_workers ran.setup k) → ⊥
      go (inl after) =
          let none : is_new ran k row ≡ false =
          fewer_pass (λ (journal : List Entry). meets_row row (after_turn k journal)) (journals_at ran.journals (changed_workers ran.setup k)) (journals_at ran.journals (asked_workers ran.setup k)) (changed_asked rows ran g k) after in
          absurd (cc)
      go (inr before) = let some = before_later row r k le last h in absurd (cc)

  -- where no earlier request's nodes met a row before their turns, the row isn't old
  pub sees_prefix : (row : ℕ) → SeesPrefix ran row (serial ran row)
  sees_prefix row = record { before = before; after = after }
    where
      before : (r : ℕ) → r ≤ serial ran row → is_old ran r row ≡ false
      before r le = go (is_old ran r row) refl (newest_is ran row (length ran.setup.requests))
        where
          go : (b : Bool) → is_old ran r row ≡ b → (serial ran row ≡ 0) ⊎ ((is_new ran (serial ran row) row ≡ true) × (serial ran row ≤ length ran.setup.requests)) → is_old ran r row ≡ false
          go false e h = e
          go true e h =
              let old : any_before r row (journals_at ran.journals (changed_workers ran.setup r)) ≡ true =
              (and_parts (any_before r row (journals_at ran.journals (changed_workers ran.setup r))) (not (is_new ran r row)) e).0 in
              elim h [
                | inl none ↦
                    let b = any_in (λ (journal : List Entry). meets_row row (before_turn r journal)) (journals_at ran.journals (changed_workers ran.setup r)) old in
                    let c : IsChanged ran r b.0 = changed_journal ran r b.0 b.1 in
                    let some = changes_within ran.setup r c.who.node c.changed in
                    absurd (omega (arith, some.0))
                | inr new ↦ absurd (none_before row r (serial ran row) le new.1 new.0 old)
              ]

      after : (r : ℕ) → serial ran row < r → is_new ran r row ≡ false
      after r lt = go (is_new ran r row) refl
        where
          go : (b : Bool) → is_new ran r row ≡ b → is_new ran r row ≡ false
          go false e = e
          go true e = let within = new_within ran r row e in newest_last ran row (length ran.setup.requests) r lt within.1

  -- ---- the function in force where a row is met is that of the requests that it comes behind

  in_order : (w i l : ℕ) (t : Tuple) (m : Moment) → HasWorker ran w → slice_get (story_of ran w) i ≡ Some m → slice_get (journal_of ran w) i ≡ Some (entry.Met l t)
      → m.view.func ≡ func_after ran.setup (worker_no ran.setup w).node (worker_no ran.setup w).func (serial ran t.row)
  in_order w i l t m lt at met = by_turns rows ran g w lt i l t m at met ∙ across (cases_lt m.view.last (serial ran t.row))
    where
      node : ℕ
      node = (worker_no ran.setup w).node

      F : ℕ → Func
      F r = func_after ran.setup (worker_no ran.setup w).node (worker_no ran.setup w).func r

      -- a request up to the row's place that was turned after it doesn't change the node
      none_late : (r : ℕ) → m.view.last < r → r ≤ serial ran t.row → changes ran.setup r (worker_no ran.setup w).node ≡ false
      none_late r low le = go (changes ran.setup r (worker_no ran.setup w).node) refl
        where
          go : (b : Bool) → changes ran.setup r (worker_no ran.setup w).node ≡ b → changes ran.setup r (worker_no ran.setup w).node ≡ false
          go false e = e
          go true e =
              let old = early_before rows ran g w lt i l t m at met r e low in
              elim (newest_is ran t.row (length ran.setup.requests)) [
                | inl none ↦ absurd (omega arith)
                | inr new ↦ absurd (none_before t.row r (serial ran t.row) le new.1 new.0 old)
              ]

      -- a later request that was turned before it doesn't either
      none_early : (r : ℕ) → serial ran t.row < r → r ≤ m.view.last → changes ran.setup r (worker_no ran.setup w).node ≡ false
      none_early r low le = go (changes ran.setup r (worker_no ran.setup w).node) refl
        where
          go : (b : Bool) → changes ran.setup r (worker_no ran.setup w).node ≡ b → changes ran.setup r (worker_no ran.setup w).node ≡ false
          go false e = e
          go true e =
              let new : is_new ran r t.row ≡ true = late_new rows ran g w lt i l t m at met r e le in
              let none : is_new ran r t.row ≡ false = (sees_prefix t.row).after r low in
              absurd (cc)

      across : (m.view.last < serial ran t.row) ⊎ (serial ran t.row ≤ m.view.last)
          → func_after ran.setup (worker_no ran.setup w).node (worker_no ran.setup w).func m.view.last ≡ func_after ran.setup (worker_no ran.setup w).node (worker_no ran.setup w).func (serial ran t.row)
      across (inl less) =
          let k : m.view.last + (serial ran t.row - m.view.last) ≡ serial ran t.row = omega arith in
          sym (subst (λ n. func_after ran.setup (worker_no ran.setup w).node (worker_no ran.setup w).func n ≡ func_after ran.setup (worker_no ran.setup w).node (worker_no ran.setup w).func m.view.last) k
          (func_gap ran.setup (worker_no ran.setup w).node (worker_no ran.setup w).func m.view.last (serial ran t.row - m.view.last) (λ r a b. none_late r a (omega arith))))
      across (inr more) =
          let k : serial ran t.row + (m.view.last - serial ran t.row) ≡ m.view.last = omega arith in
          subst (λ n. func_after ran.setup (worker_no ran.setup w).node (worker_no ran.setup w).func n ≡ func_after ran.setup (worker_no ran.setup w).node (worker_no ran.setup w).func (serial ran t.row)) k
          (func_gap ran.setup (worker_no ran.setup w).node (worker_no ran.setup w).func (serial ran t.row) (m.view.last - serial ran t.row) (λ r a b. none_early r a (omega arith)))

  after_alike : (node : ℕ) (def : NodeDef) (r : ℕ) → slice_get ran.setup.job.nodes node ≡ Some def → AreAlike ran.setup.job.edges node def.func (func_after ran.setup node def.func r)
  after_alike node def zero there = alike_self ran.setup.job.edges node def.func
  after_alike node def (suc r) there = go (change_by ran.setup (suc r) node) refl (after_alike node def r there)
    where
      go : (o : Option Change) → change_by ran.setup (suc r) node ≡ o → AreAlike ran.setup.job.edges node def.func (func_after ran.setup node def.func r)
          → AreAlike ran.setup.job.edges node def.func (func_with o (func_after ran.setup node def.func r))
      go None e a = a
      go (Some change) e a = changed_alike ran.setup (suc r) node def change g.kinds there e

  serial_tables : AreTables ran (λ row. funcs_after ran.setup (serial ran row))
  serial_tables = record {
    gives = λ row node def there.
        (func_after ran.setup node def.func (serial ran row), ap (func_of_node ran.setup (serial ran row) node) there, after_alike node def (serial ran row) there);
    in_force = λ w i l t m lt at met.
        let is : IsWorker ran.setup.job (worker_no ran.setup w) = (worker_is ran.setup w lt).1 in
        ap (func_of_node ran.setup (serial ran t.row) (worker_no ran.setup w).node) is.node_is
        ∙ ap Some (ap (λ (f : Func). func_after ran.setup (worker_no ran.setup w).node f (serial ran t.row)) (sym is.func_is) ∙ sym (in_order w i l t m lt at met));
  }

  pub is_serial : HasNoCounts ran.setup.job → AreFromSources ran.setup.job rows → IsSerial rows ran
  is_serial none sources test = same_count rows ran g none sources (λ row. funcs_after ran.setup (serial ran row)) serial_tables test
