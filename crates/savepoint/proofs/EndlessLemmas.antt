-- A journal of the first part, without its ends, under the law of the whole setup.
use Rattle.std.proofs.Common.{◌≡◌, ◌∙◌, ◌<◌, ◌≤◌, ◌++◌, ◌&&◌, ◌==◌, ℕ, List, [], ◌∷◌, inl, inr, refl, sym, subst, ap, arith, Contains, All, Some}
use Rattle.cover_planner.specs.declared.cover.Plan.{Plan}
use Rattle.std.specs.Prelude.{Option}
use Rattle.sink_journal.specs.declared.journal.Entry.{Entry}
use Rattle.sink_journal.specs.declared.journal.Entry.TheVariants as entry
use Rattle.tuple_trace.specs.declared.tuple.Tuple.{Tuple}
use Rattle.flow_model.specs.Covers.{heads, holds_edge, is_head}
use Rattle.flow_model.specs.Law.{IsExecution, IsInTime, Progress, Duties, after_entry, later_dues, next_due, progress_after}
use Rattle.flow_model.specs.Lanes.{lanes_that, marked_lanes}
use Rattle.flow_model.specs.declared.topology.Lane.{Lane}
use Rattle.flow_model.specs.SetupView.{SetupView, Worker}
use Rattle.flow_model.specs.Duties.{duties}
use Rattle.flow_model.proofs.ElementLemmas.{IsIn}
use Rattle.savepoint.specs.Parts.{endless, first_of}
use Rattle.savepoint.proofs.CutLemmas.{plan_first}

-- ---- dues

next_in : (dues : List ℕ) (r : ℕ) → next_due dues ≡ Some r → IsIn r dues
next_in [] r e = absurd (cc)
next_in (due ∷ dues) r e = inl (let f : r ≡ due = cc in f)

later_in : (dues : List ℕ) (r : ℕ) → IsIn r (later_dues dues) → IsIn r dues
later_in [] r h = h
later_in (due ∷ dues) r h = inr h

next_more : (dues more : List ℕ) (r : ℕ) → next_due dues ≡ Some r → next_due (dues ++ more) ≡ Some r
next_more [] more r e = absurd (cc)
next_more (due ∷ dues) more r e = e

later_more : (dues more : List ℕ) (r : ℕ) → next_due dues ≡ Some r → later_dues (dues ++ more) ≡ later_dues dues ++ more
later_more [] more r e = absurd (cc)
later_more (due ∷ dues) more r e = refl

-- ---- which requests a journal names

-- each entry names requests up to this one
abbrev pub NamesUpTo : ℕ → List Entry → Type 0
NamesUpTo m [] = Unit {0}
NamesUpTo m (entry.Met lane tuple ∷ more) = NamesUpTo m more
NamesUpTo m (entry.Marked lane request ∷ more) = (request ≤ m) × NamesUpTo m more
NamesUpTo m (entry.Turned request ∷ more) = (request ≤ m) × NamesUpTo m more
NamesUpTo m (entry.Ended lane ∷ more) = NamesUpTo m more

pub names_up_to : (m : ℕ) (duties : Duties) (progress : Progress) (journal : List Entry) → IsExecution duties progress journal → ((r : ℕ) → IsIn r progress.dues → r ≤ m) → NamesUpTo m journal
names_up_to m duties progress [] f d = tt
names_up_to m duties progress (entry.Met l t ∷ more) f d = names_up_to m duties progress more f.1 d
names_up_to m duties progress (entry.Marked l r ∷ more) f d =
    (d r (next_in progress.dues r f.0.0), names_up_to m duties (after_entry progress (entry.Marked l r)) more f.1 d)
names_up_to m duties progress (entry.Turned r ∷ more) f d =
    (d r (next_in progress.dues r f.0.0), names_up_to m duties (after_entry progress (entry.Turned r)) more f.1 (λ q h. d q (later_in progress.dues q h)))
names_up_to m duties progress (entry.Ended l ∷ more) f d = names_up_to m duties (after_entry progress (entry.Ended l)) more f.1 d

-- ---- the law goes on

-- the law asks nothing else of a worker that has turned some requests
pub same_law : (setup : SetupView) (m : ℕ) (who : Worker) (progress : Progress) (journal : List Entry) → IsExecution (duties setup m who) progress journal → IsExecution (duties setup 0 who) progress journal
same_law setup m who progress [] f = tt
same_law setup m who progress (entry.Met l t ∷ more) f = (f.0, same_law setup m who progress more f.1)
same_law setup m who progress (entry.Marked l r ∷ more) f = (f.0, same_law setup m who (after_entry progress (entry.Marked l r)) more f.1)
same_law setup m who progress (entry.Turned r ∷ more) f = (f.0, same_law setup m who (after_entry progress (entry.Turned r)) more f.1)
same_law setup m who progress (entry.Ended l ∷ more) f = (f.0, same_law setup m who (after_entry progress (entry.Ended l)) more f.1)

marked_first : (setup : SetupView) (m worker r : ℕ) → r ≤ m → marked_lanes (first_of setup m) worker r ≡ marked_lanes setup worker r
marked_first setup m worker r le =
    ap (λ (o : Option Plan). lanes_that (λ (lane : Lane). (lane.receiver == worker) && holds_edge o lane.edge) setup.job) (plan_first setup m r le)

head_first : (setup : SetupView) (m r node : ℕ) → r ≤ m → is_head (first_of setup m) r node ≡ is_head setup r node
head_first setup m r node le = ap (λ o. heads o node) (plan_first setup m r le)

module _ (setup : SetupView) (m : ℕ) (who : Worker) (later : List ℕ) (above : (r : ℕ) → IsIn r later → m < r) where
  -- with more dues, and without ends
  abbrev pub with_later : Progress → Progress
  with_later progress = record { dues = progress.dues ++ later; marked = progress.marked; ended = [] }

  in_time : (t : Tuple) (dues : List ℕ) → t.issued ≤ m → ((r : ℕ) → IsIn r dues → r ≤ m) → IsInTime (duties (first_of setup m) 0 who) t (next_due dues)
      → IsInTime (duties setup 0 who) t (next_due (dues ++ later))
  in_time t (due ∷ dues) le d h = λ head. h (rw (head_first setup m due who.node (d due (inl refl))) head)
  in_time t [] le d h = go later above
    where
      go : (more : List ℕ) → ((r : ℕ) → IsIn r more → m < r) → IsInTime (duties setup 0 who) t (next_due more)
      go [] a = tt
      go (due ∷ more) a = λ head. let lt : m < due = a due (inl refl) in omega arith

  pub goes_on : (progress : Progress) (journal : List Entry) → IsExecution (duties (first_of setup m) 0 who) progress journal
      → ((r : ℕ) → IsIn r progress.dues → r ≤ m) → ((l : ℕ) (t : Tuple) → IsIn (entry.Met l t) journal → t.issued ≤ m)
      → IsExecution (duties setup 0 who) (with_later progress) (endless journal)
  goes_on progress [] f d i = tt
  goes_on progress (entry.Met l t ∷ more) f d i =
      ((f.0.0, f.0.1, refl, in_time t progress.dues (i l t (inl refl)) d f.0.3), goes_on progress more f.1 d (λ n u h. i n u (inr h)))
  goes_on progress (entry.Marked l r ∷ more) f d i =
      let le : r ≤ m = d r (next_in progress.dues r f.0.0) in (
        (next_more progress.dues later r f.0.0, subst (λ (l' : List ℕ). Contains l' l) (marked_first setup m who.number r le) f.0.1, f.0.2, refl),
        goes_on (after_entry progress (entry.Marked l r)) more f.1 d (λ n u h. i n u (inr h)),
      )
  goes_on progress (entry.Turned r ∷ more) f d i =
      let le : r ≤ m = d r (next_in progress.dues r f.0.0) in (
        (next_more progress.dues later r f.0.0, subst (λ (l : List ℕ). All (Contains progress.marked) l) (marked_first setup m who.number r le) f.0.1, refl),
        subst (λ (dues : List ℕ). IsExecution (duties setup 0 who) (record { dues = dues; marked = []; ended = [] }) (endless more)) (sym (later_more progress.dues later r f.0.0))
            (goes_on (after_entry progress (entry.Turned r)) more f.1 (λ q h. d q (later_in progress.dues q h)) (λ n u h. i n u (inr h))),
      )
  goes_on progress (entry.Ended l ∷ more) f d i = goes_on (after_entry progress (entry.Ended l)) more f.1 d (λ n u h. i n u (inr h))

  pub goes_to : (progress : Progress) (journal : List Entry) → IsExecution (duties (first_of setup m) 0 who) progress journal
      → progress_after (with_later progress) (endless journal) ≡ with_later (progress_after progress journal)
  goes_to progress [] f = refl
  goes_to progress (entry.Met l t ∷ more) f = goes_to progress more f.1
  goes_to progress (entry.Marked l r ∷ more) f = goes_to (after_entry progress (entry.Marked l r)) more f.1
  goes_to progress (entry.Turned r ∷ more) f =
      ap (λ (dues : List ℕ). progress_after (record { dues = dues; marked = []; ended = [] }) (endless more)) (later_more progress.dues later r f.0.0)
      ∙ goes_to (after_entry progress (entry.Turned r)) more f.1
  goes_to progress (entry.Ended l ∷ more) f = goes_to (after_entry progress (entry.Ended l)) more f.1
