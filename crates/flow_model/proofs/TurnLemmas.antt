-- The entries before a turn and those after it, and that every covering request is turned.
use Rattle.std.proofs.Common.{◌≡◌, ◌∙◌, ◌<◌, ◌≤◌, ◌==◌, ℕ, suc, List, [], ◌∷◌, ◌⊎◌, inl, inr, refl, sym, ap, arith, true, false, Bool, cond, ◌||◌, Some, slice_get, Contains}
use Rattle.std.proofs.lemmas.Bool.{eq-eqb, eqb-true}
use Rattle.sink_journal.specs.Alerts.{met}
use Rattle.sink_journal.specs.declared.journal.Entry.{Entry}
use Rattle.sink_journal.specs.declared.journal.Entry.TheVariants as entry
use Rattle.tuple_trace.specs.declared.tuple.Tuple.{Tuple}
use Rattle.flow_model.specs.Law.{IsExecution, IsFinished, Progress, Duties, after_entry, initial, later_dues, next_due, progress_after}
use Rattle.flow_model.specs.SetupView.{SetupView, Worker}
use Rattle.flow_model.specs.Replay.{StateView, after}
use Rattle.flow_model.specs.Whole.{after_turn, before_turn, is_turn, meets_row, met_tuples}
use Rattle.flow_model.proofs.ElementLemmas.{Before, IsIn, any_in, at_of_all, in_filter_map, in_of_contains, in_of_place, place_of_in}
use Rattle.flow_model.proofs.StoryLemmas.{IsRising, Moment, last_rises, rising_next, story, story_at, turned_above}

-- ---- every due is turned in a finished journal

pub turned_if_due : (duties : Duties) (progress : Progress) (journal : List Entry) (r : ℕ) → IsExecution duties progress journal → IsIn r progress.dues → (progress_after progress journal).dues ≡ []
    → IsIn (entry.Turned r) journal
turned_if_due duties progress [] r f h e = absurd (rw e at h)
turned_if_due duties progress (entry.Met l t ∷ journal) r f h e = inr (turned_if_due duties progress journal r f.1 h e)
turned_if_due duties progress (entry.Marked l q ∷ journal) r f h e = inr (turned_if_due duties (after_entry progress (entry.Marked l q)) journal r f.1 h e)
turned_if_due duties progress (entry.Turned q ∷ journal) r f h e =
    elim (first progress.dues f.0.0 h) [ inl a ↦ inl (ap entry.Turned a) | inr b ↦ inr (turned_if_due duties (after_entry progress (entry.Turned q)) journal r f.1 b e) ]
  where
    first : (dues : List ℕ) → next_due dues ≡ Some q → IsIn r dues → (r ≡ q) ⊎ IsIn r (later_dues dues)
    first [] n h = absurd h
    first (d ∷ dues) n (inl a) = inl (cc)
    first (d ∷ dues) n (inr b) = inr b
turned_if_due duties progress (entry.Ended l ∷ journal) r f h e = inr (turned_if_due duties (after_entry progress (entry.Ended l)) journal r f.1 h e)

-- once a lane has ended, nothing is due
pub ended_undue : (duties : Duties) (progress : Progress) (journal : List Entry) (n : ℕ) → IsExecution duties progress journal → ((k : ℕ) → IsIn k progress.ended → progress.dues ≡ [])
    → IsIn n (progress_after progress journal).ended → (progress_after progress journal).dues ≡ []
ended_undue duties progress [] n f h i = h n i
ended_undue duties progress (entry.Met l t ∷ journal) n f h i = ended_undue duties progress journal n f.1 h i
ended_undue duties progress (entry.Marked l r ∷ journal) n f h i = ended_undue duties (after_entry progress (entry.Marked l r)) journal n f.1 h i
ended_undue duties progress (entry.Turned r ∷ journal) n f h i = ended_undue duties (after_entry progress (entry.Turned r)) journal n f.1 (λ k j. absurd (none k j)) i
  where
    none : (k : ℕ) → IsIn k progress.ended → ⊥
    none k j = let e : progress.ended ≡ [] = f.0.2 in rw e at j
ended_undue duties progress (entry.Ended l ∷ journal) n f h i = ended_undue duties (after_entry progress (entry.Ended l)) journal n f.1 (λ k j. f.0.2) i

-- a finished journal of a worker with a lane in turns every request that is due
pub turns : (duties : Duties) (journal : List Entry) (lane r : ℕ) → IsFinished duties journal → IsIn lane duties.lanes → IsIn r duties.dues → IsIn (entry.Turned r) journal
turns duties journal lane r f l d =
    let done : List ℕ = (progress_after (initial duties) journal).ended in
    let ended : IsIn lane done = in_of_contains lane done (at_of_all (Contains done) lane duties.lanes f.ended l) in
    turned_if_due duties (initial duties) journal r f.lawful.execution d
    (ended_undue duties (initial duties) journal lane f.lawful.execution (λ k j. absurd j) ended)

-- ---- an entry of a row

pub met_is : (x : Entry) (t : Tuple) → met x ≡ Some t → (l : ℕ) × (x ≡ entry.Met l t)
met_is (entry.Met l u) t e = (l, let p : u ≡ t = cc in ap (entry.Met l) p)
met_is (entry.Marked l r) t e = absurd (cc)
met_is (entry.Turned r) t e = absurd (cc)
met_is (entry.Ended l) t e = absurd (cc)

-- a journal that meets the row has an entry that does
some_met : (row : ℕ) (journal : List Entry) → meets_row row journal ≡ true → (i : ℕ) × (l : ℕ) × (t : Tuple) × (slice_get journal i ≡ Some (entry.Met l t)) × (t.row ≡ row)
some_met row journal h =
    let a = any_in (λ (tuple : Tuple). tuple.row == row) (met_tuples journal) h in
    let m = in_filter_map met a.0 journal a.1 in
    let l = met_is m.0 a.0 m.2 in
    let p = place_of_in m.0 journal m.1 in
    (p.0, l.0, a.0, p.1 ∙ ap Some l.1, eqb-true a.0.row row a.2)

pub turn_is : (r : ℕ) (e : Entry) → is_turn r e ≡ true → entry.Turned r ≡ e
turn_is r (entry.Met l t) h = absurd (cc)
turn_is r (entry.Marked l q) h = absurd (cc)
turn_is r (entry.Turned q) h = ap entry.Turned (sym (eqb-true q r h))
turn_is r (entry.Ended l) h = absurd (cc)

pub is_turn_self : (r : ℕ) (e : Entry) → entry.Turned r ≡ e → is_turn r e ≡ true
is_turn_self r (entry.Met l t) h = absurd (cc)
is_turn_self r (entry.Marked l q) h = absurd (cc)
is_turn_self r (entry.Turned q) h = let k : r ≡ q = cc in eq-eqb q r (sym k)
is_turn_self r (entry.Ended l) h = absurd (cc)

-- a turn that isn't the first entry stands behind it
pub rest_has : (r : ℕ) (x : Entry) (journal : List Entry) → is_turn r x ≡ false → IsIn (entry.Turned r) (x ∷ journal) → IsIn (entry.Turned r) journal
rest_has r x journal n (inl q) = let k : is_turn r x ≡ true = is_turn_self r x q in absurd (cc)
rest_has r x journal n (inr j) = j

-- an entry of the row, with what was in force before it
pub record Found (setup : SetupView) (who : Worker) (view : StateView) (journal : List Entry) (row : ℕ) : Type 0 where
  pub i : ℕ
  pub lane : ℕ
  pub tuple : Tuple
  pub moment : Moment
  pub there : slice_get (story setup who view journal) i ≡ Some moment
  pub met : slice_get journal i ≡ Some (entry.Met lane tuple)
  pub is_row : tuple.row ≡ row

abbrev found_later : (setup : SetupView) (who : Worker) (view : StateView) (x : Entry) (journal : List Entry) (row : ℕ) → Found setup who (after setup who view x) journal row → Found setup who view (x ∷ journal) row
found_later setup who view x journal row f =
    record { i = suc f.i; lane = f.lane; tuple = f.tuple; moment = f.moment; there = f.there; met = f.met; is_row = f.is_row }

-- an entry of the row after the turn
pub record Late (setup : SetupView) (who : Worker) (view : StateView) (journal : List Entry) (row r : ℕ) : Type 0 where
  pub found : Found setup who view journal row
  pub later : r ≤ found.moment.view.last
  pub behind : Before (entry.Turned r) (entry.Met found.lane found.tuple) journal

pub found_late : (setup : SetupView) (duties : Duties) (who : Worker) (progress : Progress) (view : StateView) (journal : List Entry) (row r : ℕ)
    → IsExecution duties progress journal → IsRising view.last progress.dues → meets_row row (after_turn r journal) ≡ true → Late setup who view journal row r
found_late setup duties who progress view [] row r f i h = absurd (cc)
found_late setup duties who progress view (e ∷ journal) row r f i h =
    go (is_turn r e) refl (found_late setup duties who (after_entry progress e) (after setup who view e) journal row r f.1 (rising_next setup duties who progress view e f.0 i).1) h
  where
    here : entry.Turned r ≡ e → meets_row row journal ≡ true → Late setup who view (e ∷ journal) row r
    here p h =
        let q = some_met row journal h in
        let m = story_at setup who (after setup who view e) journal q.0 (entry.Met q.1 q.2) q.3 in
        let last : (after setup who view e).last ≡ r = ap (λ (x : Entry). (after setup who view x).last) (sym p) in
        let le : (after setup who view e).last ≤ m.0.view.last =
        last_rises setup duties who (after_entry progress e) (after setup who view e) journal m.0 f.1 (rising_next setup duties who progress view e f.0 i).1
        (in_of_place m.0 (story setup who (after setup who view e) journal) q.0 m.1) in
        record {
          found = record { i = suc q.0; lane = q.1; tuple = q.2; moment = m.0; there = m.1; met = q.3; is_row = q.4 };
          later = omega arith;
          behind = inl (p, in_of_place (entry.Met q.1 q.2) journal q.0 q.3);
        }

    go : (b : Bool) → is_turn r e ≡ b → (meets_row row (after_turn r journal) ≡ true → Late setup who (after setup who view e) journal row r)
        → meets_row row (cond b journal (after_turn r journal)) ≡ true → Late setup who view (e ∷ journal) row r
    go true p f h = here (turn_is r e p) h
    go false p f h =
        let k : Late setup who (after setup who view e) journal row r = f h in
        record { found = found_later setup who view e journal row k.found; later = k.later; behind = inr k.behind }

-- an entry of the row before the turn
pub record Early (setup : SetupView) (who : Worker) (view : StateView) (journal : List Entry) (row r : ℕ) : Type 0 where
  pub found : Found setup who view journal row
  pub earlier : found.moment.view.last < r
  pub ahead : Before (entry.Met found.lane found.tuple) (entry.Turned r) journal

pub found_early : (setup : SetupView) (duties : Duties) (who : Worker) (progress : Progress) (view : StateView) (journal : List Entry) (row r : ℕ)
    → IsExecution duties progress journal → IsRising view.last progress.dues → IsIn (entry.Turned r) journal → meets_row row (before_turn r journal) ≡ true
    → Early setup who view journal row r
found_early setup duties who progress view [] row r f i t h = absurd t
found_early setup duties who progress view (e ∷ journal) row r f' i t h =
    go (is_turn r e) refl (found_early setup duties who (after_entry progress e) (after setup who view e) journal row r f'.1 (rising_next setup duties who progress view e f'.0 i).1) h
  where
    wrap : Early setup who (after setup who view e) journal row r → Early setup who view (e ∷ journal) row r
    wrap k = record { found = found_later setup who view e journal row k.found; earlier = k.earlier; ahead = inr k.ahead }

    at_entry : (x : Entry) → e ≡ x → IsIn (entry.Turned r) journal → (meets_row row (before_turn r journal) ≡ true → Early setup who (after setup who view e) journal row r)
        → meets_row row (x ∷ before_turn r journal) ≡ true → Early setup who view (e ∷ journal) row r
    at_entry (entry.Met l u) p j f h = met_here (u.row == row) refl h
      where
        met_here : (b : Bool) → (u.row == row) ≡ b → b || meets_row row (before_turn r journal) ≡ true → Early setup who view (e ∷ journal) row r
        met_here true q h =
            record {
              found = record { i = 0; lane = l; tuple = u; moment = record { view = view; entry = e }; there = refl; met = ap Some p; is_row = eqb-true u.row row q };
              earlier = turned_above setup duties who progress view (e ∷ journal) r f' i (inr j);
              ahead = inl (sym p, j);
            }
        met_here false q h = wrap (f h)
    at_entry (entry.Marked l q) p j f h = wrap (f h)
    at_entry (entry.Turned q) p j f h = wrap (f h)
    at_entry (entry.Ended l) p j f h = wrap (f h)

    go : (b : Bool) → is_turn r e ≡ b → (IsIn (entry.Turned r) journal → meets_row row (before_turn r journal) ≡ true → Early setup who (after setup who view e) journal row r)
        → meets_row row (cond b [] (e ∷ before_turn r journal)) ≡ true → Early setup who view (e ∷ journal) row r
    go true p f h = absurd (cc)
    go false p f h = let later = rest_has r e journal p t in at_entry e refl later (f later) h
