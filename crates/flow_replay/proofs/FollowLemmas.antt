-- What a journal gains keeps the law: meetings, turns and ends.
use Rattle.std.proofs.Common.{◌≡◌, ◌<◌, ◌+◌, ◌-◌, ◌==◌, ◌&&◌, ◌⊎◌, ℕ, zero, suc, List, [], ◌∷◌, ◌++◌, inl, inr, Bool, true, false, cond, length, map, refl, sym, ap, subst, ◌∙◌, arith}
use Rattle.std.specs.Prelude.{Contains, filter}
use Rattle.std.specs.List.{AllByRecursion}
use Rattle.sink_journal.specs.declared.journal.Entry.{Entry}
use Rattle.sink_journal.specs.declared.journal.Entry.TheVariants as entry
use Rattle.tuple_trace.specs.declared.tuple.Tuple.{Tuple}
use Rattle.flow_model.specs.Covers.{covers, covers_edge}
use Rattle.flow_model.specs.Lanes.{lanes_in, marked_lanes}
use Rattle.flow_model.specs.Law.{IsExecution, IsFinished, IsInTime, Progress, Duties, initial, next_due, progress_after}
use Rattle.flow_model.specs.declared.topology.Lane.{Lane}
use Rattle.flow_model.specs.SetupView.{SetupView, Worker}
use Rattle.flow_model.specs.Duties.{numbers_from, duties}
use Rattle.flow_model.proofs.ElementLemmas.{AreDistinct, IsIn, all_of_at, contains_of_in, in_of_contains}
use Rattle.flow_model.proofs.JournalLemmas.{IsExecution-append, progress_after-append}
use Rattle.flow_model.proofs.LaneLemmas.{lanes_that-distinct}
use Rattle.flow_replay.specs.inner.Runs.{end_block, marks, turn_block, turn_entries}
use Rattle.flow_replay.specs.inner.SoFar.{waiting}
use Rattle.flow_replay.specs.inner.Delivery.{IsMeeting}
use Rattle.flow_model.specs.Workers.{nth_worker}

-- ---- meetings

in_time : (setup : SetupView) (who : Worker) (t : Tuple) (r count : ℕ) → t.issued < r →
    IsInTime (duties setup 0 who) t (next_due (filter (λ q. covers setup q who.node)
    (numbers_from r count)))
in_time setup who t r zero h = tt
in_time setup who t r (suc count) h = go (covers setup r who.node) (in_time setup who t (r + 1)
    count (omega arith))
  where
    go : (b : Bool) → IsInTime (duties setup 0 who) t (next_due (filter (λ q. covers setup q
        who.node) (numbers_from (r + 1) count)))
        → IsInTime (duties setup 0 who) t (next_due (cond b (r ∷ filter (λ q. covers setup q
        who.node) (numbers_from (r + 1) count)) (filter (λ q. covers setup q who.node)
        (numbers_from (r + 1) count))))
    go true f = λ _. h
    go false f = f

pub meetings-follow : (setup : SetupView) (w row m : ℕ) (who : Worker) (more : List Entry) →
    who.number ≡ w → AllByRecursion (IsMeeting setup.job w row m) more
    → IsExecution (duties setup 0 who) (waiting setup who m) more × (progress_after (waiting
    setup who m) more ≡ waiting setup who m)
meetings-follow setup w row m who [] num e = (tt, refl)
meetings-follow setup w row m who (entry.Met lane t ∷ more) num e =
    let r = meetings-follow setup w row m who more num e.1 in (
      (
        (
          subst (λ (v : ℕ). Contains (lanes_in setup.job v) lane) (sym num) e.0.0,
          refl,
          refl,
          in_time
              setup who t (m + 1) (length setup.plans - m) (let i = e.0.2 in omega (arith, i)),
        ),
        r.0,
      ),
      r.1,
    )
meetings-follow setup w row m who (entry.Marked lane r ∷ more) num e = absurd e.0
meetings-follow setup w row m who (entry.Turned r ∷ more) num e = absurd e.0
meetings-follow setup w row m who (entry.Ended lane ∷ more) num e = absurd e.0

-- ---- turns

abbrev progress_with : List ℕ → List ℕ → List ℕ → Progress
progress_with dues marked ended = record { dues = dues; marked = marked; ended = ended }

marks-follow : (at : Duties) (r : ℕ) (dues done ns : List ℕ) → ((n : ℕ) → IsIn n ns →
    Contains (at.marked_lanes r) n) → AreDistinct ns → ((n : ℕ) → IsIn n ns → ¬ IsIn n done)
    → ((n : ℕ) → IsIn n (at.marked_lanes r) → IsIn n ns ⊎ IsIn n done)
    → IsExecution at (progress_with (r ∷ dues) done []) (marks r ns ++ entry.Turned r ∷ [])
    × (progress_after (progress_with (r ∷ dues) done []) (marks r ns ++ entry.Turned r ∷ [])
    ≡ progress_with dues [] [])
marks-follow at r dues done [] isin d apart all = (
  (
    (
      refl,
      all_of_at (Contains done) (at.marked_lanes r) (λ n i. contains_of_in n done (elim (all
          n i) [ inl j ↦ absurd j | inr j ↦ j ])),
      refl,
    ),
    tt,
  ),
  refl,
)
marks-follow at r dues done (n ∷ ns) isin d apart all =
    let rest = marks-follow at r dues (n ∷ done) ns (λ k i. isin k (inr i)) d.1
    (λ k i. λ h. elim h [
      | inl e ↦ d.0 (subst (λ (z : ℕ). IsIn z ns) e i)
      | inr j ↦ apart k (inr i) j
    ])
    (λ k i. elim (all k i) [
      | inl j ↦ elim j [ inl e ↦ inr (inl e) | inr q ↦ inl q ]
      | inr j ↦ inr
          (inr j)
    ]) in (
      ((refl, isin n (inl refl), (λ c. apart n (inl refl) (in_of_contains n done c)), refl), rest.0),
      rest.1,
    )

pub turn-follows : (setup : SetupView) (w m : ℕ) → (nth_worker setup.job w).number ≡ w →
    m < length setup.plans
    → IsExecution (duties setup 0 (nth_worker setup.job w)) (waiting setup (nth_worker setup.job w) m)
    (turn_block setup (m + 1) w)
    × (progress_after (waiting setup (nth_worker setup.job w) m) (turn_block setup (m + 1) w)
    ≡ waiting setup (nth_worker setup.job w) (m + 1))
turn-follows setup w m num h =
    subst (λ (c : ℕ). IsExecution (duties setup 0 who) (progress_with (filter (λ q. covers setup q
    who.node) (numbers_from (m + 1) c)) [] []) (turn_block setup (m + 1) w)
    × (progress_after (progress_with (filter (λ q. covers setup q who.node) (numbers_from (m + 1)
    c)) [] []) (turn_block setup (m + 1) w) ≡ waiting setup who (m + 1)))
    (sym count) (go (covers setup (m + 1) who.node))
  where
    who : Worker
    who = nth_worker setup.job w

    rest : List ℕ
    rest = filter (λ q. covers setup q who.node) (numbers_from (m + 1 + 1) (length setup.plans - (m
        + 1)))

    count : length setup.plans - m ≡ suc (length setup.plans - (m + 1))
    count = omega (arith, h)

    mine : (n : ℕ) → IsIn n (marked_lanes setup w (m + 1)) →
        Contains (marked_lanes setup who.number (m + 1)) n
    mine n i = subst (λ (v : ℕ). Contains (marked_lanes setup v (m + 1)) n) (sym num)
        (contains_of_in n (marked_lanes setup w (m + 1)) i)

    back : (n : ℕ) → IsIn n (marked_lanes setup who.number (m + 1)) →
        IsIn n (marked_lanes setup w (m + 1))
    back n i = subst (λ (v : ℕ). IsIn n (marked_lanes setup v (m + 1))) num i

    go : (b : Bool) → IsExecution (duties setup 0 who) (progress_with (cond b ((m + 1) ∷ rest)
        rest) [] []) (cond b (turn_entries setup (m + 1) w) [])
        × (progress_after (progress_with (cond b ((m + 1) ∷ rest) rest) [] []) (cond b (turn_entries
        setup (m + 1) w) []) ≡ progress_with rest [] [])
    go true =
        marks-follow (duties setup 0 who) (m + 1) rest [] (marked_lanes setup w (m + 1)) mine
        (lanes_that-distinct (λ (lane : Lane). (lane.receiver == w) && covers_edge setup (m + 1)
        lane.edge) setup.job) (λ n i j. j) (λ n i. inl (back n i))
    go false = (tt, refl)

-- ---- ends

abbrev pub ended_all : List ℕ → List Entry
ended_all ns = map (λ (lane : ℕ). entry.Ended lane) ns

ends-follow : (at : Duties) (done ns : List ℕ) → ((n : ℕ) → IsIn n ns → Contains at.lanes n) →
    AreDistinct ns → ((n : ℕ) → IsIn n ns → ¬ IsIn n done)
    → IsExecution at (progress_with [] [] done) (ended_all ns)
    × ((progress_after (progress_with [] [] done) (ended_all ns)).marked ≡ [])
    × ((n : ℕ) → IsIn n ns ⊎ IsIn n done → IsIn n (progress_after (progress_with [] [] done)
    (ended_all ns)).ended)
ends-follow at done [] isin d apart = (tt, refl, λ n i. elim i [ inl j ↦ absurd j | inr j ↦ j ])
ends-follow at done (n ∷ ns) isin d apart =
    let rest = ends-follow at (n ∷ done) ns (λ k i. isin k (inr i)) d.1 (λ k i. λ h. elim h [
      | inl e
          ↦ d.0 (subst (λ (z : ℕ). IsIn z ns) e i)
      | inr j ↦ apart k (inr i) j
    ]) in (
      (
        (isin n (inl refl), (λ c. apart n (inl refl) (in_of_contains n done c)), refl, refl),
        rest.0,
      ),
      rest.1,
      λ k i. rest.2 k (elim i [
        | inl j ↦ elim j [ inl e ↦ inr (inl e) | inr q ↦ inl q ]
        | inr j ↦ inr
            (inr j)
      ]),
    )

-- a worker that has turned all requests ends, and its journal is finished
pub finishes : (setup : SetupView) (w : ℕ) (journal : List Entry) → (nth_worker setup.job w).number ≡ w
    → IsExecution (duties setup 0 (nth_worker setup.job w)) (initial (duties setup 0 (nth_worker
    setup.job w))) journal
    → progress_after (initial (duties setup 0 (nth_worker setup.job w))) journal
    ≡ waiting setup (nth_worker setup.job w) (length setup.plans)
    → IsFinished (duties setup 0 (nth_worker setup.job w)) (journal ++ end_block setup.job w)
finishes setup w journal num f s = record {
  lawful = record {
    execution = (IsExecution-append at (initial at) journal (end_block setup.job w)).1 (
      f,
      subst (λ
          (x : Progress). IsExecution at x (end_block setup.job w)) (sym done) all.0,
    );
    no_open_turn = ap (λ (x : Progress). x.marked) (progress_after-append (initial at) journal
        (end_block setup.job w)) ∙ (ap (λ (x : Progress). (progress_after x (end_block setup.job
        w)).marked) done ∙ all.1);
  };
  ended = all_of_at (Contains (progress_after (initial at) (journal ++ end_block setup.job
      w)).ended) at.lanes
      (λ n i. contains_of_in n (progress_after (initial at) (journal ++ end_block setup.job
      w)).ended
      (subst (λ (x : Progress). IsIn n x.ended) (sym (progress_after-append (initial at) journal
      (end_block setup.job w)))
      (subst (λ (x : Progress). IsIn n (progress_after x (end_block setup.job w)).ended) (sym done)
      (all.2 n (inl (subst (λ (v : ℕ). IsIn n (lanes_in setup.job v)) num i))))));
}
  where
    at : Duties
    at = duties setup 0 (nth_worker setup.job w)

    none : length setup.plans - length setup.plans ≡ 0
    none = omega arith

    done : progress_after (initial at) journal ≡ progress_with [] [] []
    done = s ∙ ap (λ (c : ℕ). progress_with (filter (λ q. covers setup q (nth_worker setup.job w).node)
        (numbers_from (length setup.plans + 1) c)) [] []) none

    all : IsExecution at (progress_with [] [] []) (ended_all (lanes_in setup.job w))
        × ((progress_after (progress_with [] [] []) (ended_all (lanes_in setup.job w))).marked ≡ [])
        × ((n : ℕ) → IsIn n (lanes_in setup.job w) ⊎ IsIn n [] →
        IsIn n (progress_after (progress_with [] [] []) (ended_all (lanes_in setup.job
        w))).ended)
    all =
        ends-follow at [] (lanes_in setup.job w) (λ n i. subst (λ (v : ℕ). Contains (lanes_in
        setup.job v) n) (sym num) (contains_of_in n (lanes_in setup.job w) i))
        (lanes_that-distinct (λ (lane : Lane). lane.receiver == w) setup.job) (λ n i j. j)
