-- Nothing is left where all are finished.
use Rattle.std.proofs.Common.{◌≡◌, ◌⊎◌, ◌∙◌, ◌==◌, ◌+◌, ◌≤◌, ℕ, List, [], ◌∷◌, ◌++◌, inl, inr, refl, sym, subst, ap, true, false, Bool, cond, arith, length, map, filter, None, Option, Some, slice_get, append-nil}
use Rattle.std.specs.Prelude.{Contains, ⊤}
use Rattle.std.specs.List.{flat_map}
use Rattle.std.proofs.lemmas.Bool.{eq-eqb}
use Rattle.std.proofs.lemmas.Bool.Decides.{nat_tests}
use Rattle.std.proofs.lemmas.Option.{same_Some}
use Rattle.cover_planner.specs.declared.cover.Plan.{Plan}
use Rattle.jobs.specs.JobView.{JobView}
use Rattle.keyed_state.specs.Counts.{Counts}
use Rattle.operators.specs.declared.output.Output.{Output}
use Rattle.operators.specs.Meaning.{step}
use Rattle.sink_journal.specs.declared.journal.Entry.{Entry}
use Rattle.sink_journal.specs.declared.journal.Entry.TheVariants.{Ended, Marked, Met, Turned}
use Rattle.sink_journal.specs.declared.journal.Feed.{Feed}
use Rattle.sink_journal.specs.declared.journal.Feed.TheVariants.{Fed, Issued, Stopped}
use Rattle.tuple_trace.specs.declared.row.Row.{Row}
use Rattle.tuple_trace.specs.declared.tuple.Item.{Item}
use Rattle.tuple_trace.specs.declared.tuple.Item.TheVariants.{Carry, Last, Mark}
use Rattle.flow_model.specs.Begin.{Begin, view_at}
use Rattle.flow_model.specs.Covers.{covers_edge, plan_of}
use Rattle.flow_model.specs.Feeding.{fed, fed_put, fed_puts, row_numbered}
use Rattle.flow_model.specs.Lanes.{is_same_lane, lanes, lanes_in, lanes_out}
use Rattle.flow_model.specs.Law.{IsExecution, Progress, Duties, after_entry, initial, progress_after}
use Rattle.flow_model.specs.SetupView.{SetupView, Worker}
use Rattle.flow_model.specs.declared.topology.Lane.{Lane}
use Rattle.flow_model.specs.Replay.{StateView, Put, after, came_in, item_on, items_on, marker_by, put_on_each, put_out, puts, items_sent, shown, visit_at}
use Rattle.flow_model.specs.Run.{Ran, put_by, sent_by}
use Rattle.flow_model.specs.Duties.{duties}
use Rattle.flow_model.specs.Workers.{workers_in}
use Rattle.flow_model.proofs.ElementLemmas.{IsIn, at_of_all, in_cases, in_filter_map, in_map, in_of_contains, in_right}
use Rattle.flow_model.proofs.LaneLemmas.{LaneIs, lane_is, lanes_that_in}
use Rattle.flow_model.proofs.WorkerLemmas.{worker_with}
use Rattle.flow_model.proofs.LaneNumbers.{receiver_there}
use Rattle.flow_model.proofs.OutLanes.{goes_out, one_on, out_distinct}
use Rattle.coordinator.specs.Conservation.{AreFinished, IsConservedLane}

-- ---- lists in which nothing stands behind an end

abbrev GoesOn : Item → Type 0
GoesOn (Carry t) = ⊤
GoesOn (Mark r cover) = ⊤
GoesOn Last = ⊥

abbrev LastIsLast : List Item → Type 0
LastIsLast [] = ⊤
LastIsLast (Carry t ∷ xs) = LastIsLast xs
LastIsLast (Mark r c ∷ xs) = LastIsLast xs
LastIsLast (Last ∷ xs) = xs ≡ []

open_append : (xs ys : List Item) → ((x : Item) → IsIn x xs → GoesOn x) → LastIsLast ys → LastIsLast (xs ++ ys)
open_append [] ys o h = h
open_append (Carry t ∷ xs) ys o h = open_append xs ys (λ x i. o x (inr i)) h
open_append (Mark r c ∷ xs) ys o h = open_append xs ys (λ x i. o x (inr i)) h
open_append (Last ∷ xs) ys o h = absurd (o Last (inl refl))

none_behind : (xs ys : List Item) → xs ++ ys ≡ [] → ys ≡ []
none_behind [] ys h = h
none_behind (x ∷ xs) ys h = absurd (cc)

behind : (xs ys : List Item) → LastIsLast (xs ++ ys) → IsIn Last xs → ys ≡ []
behind [] ys h i = absurd i
behind (Carry t ∷ xs) ys h (inl e) = absurd (cc)
behind (Carry t ∷ xs) ys h (inr i) = behind xs ys h i
behind (Mark r c ∷ xs) ys h (inl e) = absurd (cc)
behind (Mark r c ∷ xs) ys h (inr i) = behind xs ys h i
behind (Last ∷ xs) ys h i = none_behind xs ys h

-- ---- a lane that ended shows its end

later : (setup : SetupView) (n : ℕ) (e : Entry) (journal : List Entry) → IsIn Last (shown setup n journal) → IsIn Last (shown setup n (e ∷ journal))
later setup n e journal h = in_right Last (came_in setup n e) (shown setup n journal) h

ended_shown : (setup : SetupView) (p : Progress) (journal : List Entry) (n : ℕ) → IsIn n (progress_after p journal).ended → IsIn n p.ended ⊎ IsIn Last (shown setup n journal)
ended_shown setup p [] n i = inl i
ended_shown setup p (Met l t ∷ journal) n i = elim (ended_shown setup p journal n i) [ inl a ↦ inl a | inr b ↦ inr (later setup n (Met l t) journal b) ]
ended_shown setup p (Marked l r ∷ journal) n i = elim (ended_shown setup (after_entry p (Marked l r)) journal n i) [ inl a ↦ inl a | inr b ↦ inr (later setup n (Marked l r) journal b) ]
ended_shown setup p (Turned r ∷ journal) n i = elim (ended_shown setup (after_entry p (Turned r)) journal n i) [ inl a ↦ inl a | inr b ↦ inr (later setup n (Turned r) journal b) ]
ended_shown setup p (Ended l ∷ journal) n i = elim (ended_shown setup (after_entry p (Ended l)) journal n i) [
  | inl (inl e) ↦ inr (here l e)
  | inl (inr a) ↦ inl a
  | inr b ↦ inr (later setup n (Ended l) journal b)
]
  where
    here : (l : ℕ) → n ≡ l → IsIn Last (cond (l == n) (Last ∷ []) [] ++ shown setup n journal)
    here l e = let q : (l == n) ≡ true = eq-eqb l n (sym e) in rw q (inl refl)

-- ---- what is put at an entry

on_lane : (lane : Lane) (x : Item) (ps : List Put) → IsIn x (items_on lane ps) → (p : Put) × IsIn p ps × (x ≡ p.item)
on_lane lane x ps i = let r = in_filter_map (item_on lane) x ps i in (r.0, r.1, go r.0 (is_same_lane r.0.lane lane) r.2)
  where
    go : (p : Put) (b : Bool) → cond b (Some p.item) None ≡ Some x → x ≡ p.item
    go p true e = sym (same_Some p.item x e)
    go p false e = absurd (cc)

tuples_go_on : (job : JobView) (post : Worker) (lane : Lane) (outputs : List Output) (x : Item) → IsIn x (items_on lane (map (put_out job post) outputs)) → GoesOn x
tuples_go_on job post lane outputs x i =
    let r = on_lane lane x (map (put_out job post) outputs) i in
    let o = in_map (put_out job post) r.0 outputs r.1 in
    subst GoesOn (sym (r.2 ∙ ap (λ (p : Put). p.item) o.2)) tt

markers_go_on : (lane : Lane) (request : ℕ) (plan : Option Plan) (ls : List Lane) (x : Item) → IsIn x (items_on lane (flat_map (λ mark. put_on_each mark ls) (marker_by request plan))) → GoesOn x
markers_go_on lane request None ls x i = absurd i
markers_go_on lane request (Some plan) ls x i =
    let r = on_lane lane x (put_on_each (Mark request plan.nodes) ls ++ []) i in
    let m : IsIn r.0 (put_on_each (Mark request plan.nodes) ls) = subst (IsIn r.0) (append-nil (put_on_each (Mark request plan.nodes) ls)) r.1 in
    let o = in_map {B = Put} (λ (l : Lane). record { lane = Some l; item = Mark request plan.nodes }) r.0 ls m in
    subst GoesOn (sym (r.2 ∙ ap (λ (p : Put). p.item) o.2)) tt

-- ---- a worker sends nothing behind its ends

too_many : (a b : ℕ) → b ≤ a → (a + 1 == b) ≡ false
too_many a b le = grind (arith, nat_tests)

just_all : (a b : ℕ) → (a + 1 == b) ≡ true → b ≤ a + 1
just_all a b e = grind (arith, nat_tests)

after_end : (setup : SetupView) (post : Worker) (lane : Lane) (at : Duties) (p : Progress) (view : StateView) (journal : List Entry) → IsExecution at p journal → (p.ended ≡ [] → ⊥)
    → length (lanes_in setup.job post.number) ≤ view.ended → items_sent setup post view lane journal ≡ []
after_end setup post lane at p view [] f n le = refl
after_end setup post lane at p view (Met l t ∷ journal) f n le = absurd (n f.0.2)
after_end setup post lane at p view (Marked l r ∷ journal) f n le = absurd (n f.0.3)
after_end setup post lane at p view (Turned r ∷ journal) f n le = absurd (n f.0.2)
after_end setup post lane at p view (Ended l ∷ journal) f n le =
    let e : (view.ended + 1 == length (lanes_in setup.job post.number)) ≡ false = too_many view.ended (length (lanes_in setup.job post.number)) le in
    ap (λ b. items_on lane (cond b (put_on_each Last (lanes_out setup.job post.number)) []) ++ items_sent setup post (after setup post view (Ended l)) lane journal) e
    ∙ after_end setup post lane at (after_entry p (Ended l)) (after setup post view (Ended l)) journal f.1 (λ h. absurd (cc)) (omega (arith, le))

sent_last : (setup : SetupView) (post : Worker) (lane : Lane) (at : Duties) (p : Progress) (view : StateView) (journal : List Entry) → IsIn lane (lanes_out setup.job post.number) → IsExecution at p journal
    → LastIsLast (items_sent setup post view lane journal)
sent_last setup post lane at p view [] out f = tt
sent_last setup post lane at p view (Met l t ∷ journal) out f =
    open_append (items_on lane (puts setup post view (Met l t))) (items_sent setup post (after setup post view (Met l t)) lane journal)
    (tuples_go_on setup.job post lane (step setup.job (visit_at post view) view.func view.counts t).1)
    (sent_last setup post lane at p (after setup post view (Met l t)) journal out f.1)
sent_last setup post lane at p view (Marked l r ∷ journal) out f = sent_last setup post lane at (after_entry p (Marked l r)) view journal out f.1
sent_last setup post lane at p view (Turned r ∷ journal) out f =
    open_append (items_on lane (puts setup post view (Turned r))) (items_sent setup post (after setup post view (Turned r)) lane journal)
    (markers_go_on lane r (plan_of setup r) (filter (λ (k : Lane). covers_edge setup r k.edge) (lanes_out setup.job post.number)))
    (sent_last setup post lane at (after_entry p (Turned r)) (after setup post view (Turned r)) journal out f.1)
sent_last setup post lane at p view (Ended l ∷ journal) out f =
    go (view.ended + 1 == length (lanes_in setup.job post.number)) refl (sent_last setup post lane at (after_entry p (Ended l)) (after setup post view (Ended l)) journal out f.1)
    (after_end setup post lane at (after_entry p (Ended l)) (after setup post view (Ended l)) journal f.1 (λ h. absurd (cc)))
  where
    go : (b : Bool) → (view.ended + 1 == length (lanes_in setup.job post.number)) ≡ b → LastIsLast (items_sent setup post (after setup post view (Ended l)) lane journal)
        → (length (lanes_in setup.job post.number) ≤ view.ended + 1 → items_sent setup post (after setup post view (Ended l)) lane journal ≡ [])
        → LastIsLast (items_on lane (cond b (put_on_each Last (lanes_out setup.job post.number)) []) ++ items_sent setup post (after setup post view (Ended l)) lane journal)
    go true e h k =
        subst (λ zs. LastIsLast (zs ++ items_sent setup post (after setup post view (Ended l)) lane journal)) (sym (one_on Last lane (lanes_out setup.job post.number) (out_distinct setup.job post.number) out))
        (k (just_all view.ended (length (lanes_in setup.job post.number)) e))
    go false e h k = h

-- ---- what the feeder puts are tuples

fed_goes_on : (job : JobView) (rows : List Row) (lane : Lane) (issued : ℕ) (feeds : List Feed) (x : Item) → IsIn x (fed job rows issued lane feeds) → GoesOn x
fed_goes_on job rows lane issued feeds x i = let r = on_lane lane x (fed_puts job rows issued feeds) i in subst GoesOn (sym r.2) (put_goes_on issued feeds r.0 r.1)
  where
    one : (issued : ℕ) (o : Option Row) (p : Put) → IsIn p (fed_put job issued o) → GoesOn p.item
    one issued None p i = absurd i
    one issued (Some row) p (inl e) = subst (λ (q : Put). GoesOn q.item) (sym e) tt
    one issued (Some row) p (inr i) = absurd i

    put_goes_on : (issued : ℕ) (feeds : List Feed) (p : Put) → IsIn p (fed_puts job rows issued feeds) → GoesOn p.item
    put_goes_on issued [] p i = absurd i
    put_goes_on issued (Fed k ∷ more) p i = elim (in_cases p (fed_put job issued (row_numbered rows k)) (fed_puts job rows issued more) i) [ inl a ↦ one issued (row_numbered rows k) p a | inr b ↦ put_goes_on issued more p b ]
    put_goes_on issued (Issued r ∷ more) p i = put_goes_on (issued + 1) more p i
    put_goes_on issued (Stopped ∷ more) p i = put_goes_on issued more p i

-- ---- one lane

module _ (begin : Begin) (rows : List Row) (ran : Ran) (n : ℕ) (lane : Lane) (finished : AreFinished begin ran) (g : slice_get (lanes ran.setup.job) n ≡ Some lane) where
  -- the receiver has taken the end
  took_last : (journal : List Entry) → slice_get ran.journals lane.receiver ≡ Some journal → IsIn Last (shown ran.setup n journal)
  took_last journal there =
      let is : LaneIs ran.setup.job lane = lane_is ran.setup.job n lane g in
      let post = receiver_there ran.setup.job lane is in
      let number = (worker_with ran.setup.job lane.receiver is.to post).0 in
      let f = finished lane.receiver is.to journal post there in
      let among : IsIn n (lanes_in ran.setup.job is.to.number) = lanes_that_in (λ (l : Lane). l.receiver == is.to.number) ran.setup.job n lane g (eq-eqb lane.receiver is.to.number (sym number)) in
      let i = in_of_contains n (progress_after (initial (duties ran.setup begin.turned is.to)) journal).ended
      (at_of_all (Contains (progress_after (initial (duties ran.setup begin.turned is.to)) journal).ended) n (lanes_in ran.setup.job is.to.number) f.ended among) in
      elim (ended_shown ran.setup (initial (duties ran.setup begin.turned is.to)) journal n i) [ inl a ↦ absurd a | inr b ↦ b ]

  -- nothing stands behind an end that was put
  put_last : (sender : Option ℕ) (items : List Item) → lane.sender ≡ sender → put_by begin rows ran lane sender ≡ Some items → LastIsLast items
  put_last None items s e =
      subst LastIsLast (same_Some (fed ran.setup.job rows begin.turned lane ran.feeds ++ Last ∷ []) items e)
      (open_append (fed ran.setup.job rows begin.turned lane ran.feeds) (Last ∷ []) (fed_goes_on ran.setup.job rows lane begin.turned ran.feeds) refl)
  put_last (Some w) items s e = go (slice_get (workers_in ran.setup.job) w) (slice_get begin.states w) (slice_get ran.journals w) refl refl e
    where
      go : (a : Option Worker) (b : Option Counts) (c : Option (List Entry)) → slice_get (workers_in ran.setup.job) w ≡ a → slice_get ran.journals w ≡ c → sent_by ran.setup begin lane a b c ≡ Some items → LastIsLast items
      go None b c p q h = absurd (cc)
      go (Some post) None c p q h = absurd (cc)
      go (Some post) (Some counts) None p q h = absurd (cc)
      go (Some post) (Some counts) (Some journal) p q h =
          let number : post.number ≡ w = (worker_with ran.setup.job w post p).0 in
          let out : IsIn lane (lanes_out ran.setup.job post.number) = goes_out ran.setup.job n lane post.number g (s ∙ ap Some (sym number)) in
          let f = finished w post journal p q in
          subst LastIsLast (same_Some (items_sent ran.setup post (view_at ran.setup begin.turned post counts) lane journal) items h)
          (sent_last ran.setup post lane (duties ran.setup begin.turned post) (initial (duties ran.setup begin.turned post)) (view_at ran.setup begin.turned post counts) journal out f.lawful.execution)

  pub lane_conserved : (journal : List Entry) (items taken left : List Item) → slice_get ran.journals lane.receiver ≡ Some journal → put_by begin rows ran lane lane.sender ≡ Some items → taken ≡ shown ran.setup n journal → items ≡ taken ++ left
      → IsConservedLane begin rows ran n lane journal left
  lane_conserved journal items taken left there put took settled =
      let none : left ≡ [] = behind taken left (subst LastIsLast settled (put_last lane.sender items refl put)) (subst (IsIn Last) (sym took) (took_last journal there)) in
      let all : items ≡ shown ran.setup n journal = settled ∙ (ap (λ zs. taken ++ zs) none ∙ (append-nil taken ∙ took)) in
      record { none_left = none; conserved = put ∙ ap Some all }
