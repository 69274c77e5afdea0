-- What is met in a run weighs what is fed and what is made, for any weight of a tuple at a node.
use Rattle.std.proofs.Common.{◌≡◌, ◌∙◌, ◌≢◌, ◌+◌, ◌++◌, ◌==◌, ◌⊎◌, ℕ, List, [], ◌∷◌, inl, inr, refl, sym, subst, ap, arith, true, false, Bool, cond, is_none, flat_map, Some, None, Option, slice_get}
use Rattle.std.specs.List.{enumerate_from}
use Rattle.std.proofs.lemmas.Bool.{eq-eqb, eqb-true}
use Rattle.std.proofs.lemmas.List.Elements.{filter_map-append}
use Rattle.std.proofs.lemmas.Option.{slice_get_within}
use Rattle.flow_dag.specs.declared.edge.Edge.{Edge}
use Rattle.jobs.specs.Nodes.{is_source_node}
use Rattle.jobs.specs.JobView.{JobView}
use Rattle.sink_journal.specs.declared.journal.Entry.{Entry}
use Rattle.sink_journal.specs.declared.journal.Entry.TheVariants as entry
use Rattle.tuple_trace.specs.declared.row.Row.{Row}
use Rattle.tuple_trace.specs.declared.tuple.Item.{Item}
use Rattle.tuple_trace.specs.declared.tuple.Item.TheVariants as item
use Rattle.tuple_trace.specs.declared.tuple.Tuple.{Tuple}
use Rattle.cover_planner.specs.declared.cover.Plan.{Plan}
use Rattle.flow_model.specs.Covers.{plan_of}
use Rattle.flow_model.specs.Feeding.{fed, fed_puts}
use Rattle.flow_model.specs.Lanes.{is_same_lane, is_sender, lanes, lanes_in}
use Rattle.flow_model.specs.declared.topology.Lane.{Lane}
use Rattle.flow_model.specs.SetupView.{SetupView, Worker}
use Rattle.flow_model.specs.Replay.{StateView, Put, after, came_in, item_on, items_on, marker, marker_by, puts, items_sent, shown}
use Rattle.flow_model.specs.Run.{Ran}
use Rattle.flow_model.specs.Workers.{workers_in}
use Rattle.flow_model.proofs.ElementLemmas.{IsIn, in_of_place}
use Rattle.flow_model.proofs.WorkerLemmas.{IsWorker, Stands, begun, in_workers, in_workers_at_node, journal_of, who_is, worker_no, workers_distinct, same_who, stands_at, worker_is}
use Rattle.flow_model.proofs.LaneLemmas.{LaneIn, LaneIs, enumerate_distinct, enumerate_in, in_enumerate, lane_in, lane_into, lane_is, lane_self, same_lane, same_number, sender_is}
use Rattle.flow_model.proofs.MarkerLemmas.{met_on_lane}
use Rattle.flow_model.proofs.StoryLemmas.{Moment, story}
use Rattle.flow_model.proofs.RunLemmas.{HasWorker, Running, execution, fed_there, sender_of, sent_there, start_of, duties_of}
use Rattle.flow_model.proofs.LineageLemmas.{puts_of, story_of}
use Rattle.flow_model.proofs.SumLemmas.{exchange, if_none, if_sum, of_some, sum_add, sum_append, sum_filter_map, sum_flat_map, sum_none, sum_only, sum_over, sum_same}

-- ---- weights

-- what a weight of tuples at nodes gives an item that comes to a node, and an entry of one of its workers
abbrev pub weigh : (ℕ → Tuple → ℕ) → ℕ → Item → ℕ
weigh V node (item.Carry t) = V node t
weigh V node (item.Mark r cover) = 0
weigh V node item.Last = 0

abbrev pub entry_weight : (ℕ → Tuple → ℕ) → ℕ → Entry → ℕ
entry_weight V node (entry.Met l t) = V node t
entry_weight V node (entry.Marked l r) = 0
entry_weight V node (entry.Turned r) = 0
entry_weight V node (entry.Ended l) = 0

abbrev pub node_to : Option Edge → ℕ
node_to None = 0
node_to (Some edge) = edge.to

-- the node to which a lane leads
abbrev pub lane_to : JobView → Lane → ℕ
lane_to job lane = node_to (slice_get job.edges lane.edge)

abbrev pub put_weight : (ℕ → Tuple → ℕ) → JobView → Put → ℕ
put_weight V job p = of_some (λ (lane : Lane). weigh V (lane_to job lane) p.item) p.lane

abbrev total : (ℕ → Tuple → ℕ) → ℕ → List Item → ℕ
total V node items = sum_over (weigh V node) items

-- the lanes with their numbers
abbrev numbered : JobView → List (ℕ × Lane)
numbered job = enumerate_from 0 (lanes job)

same_pair : (p q : ℕ × Lane) → p.0 ≡ q.0 → p.1 ≡ q.1 → p ≡ q
same_pair p q a b = λ i. (a i, b i)

-- ---- what a worker meets, lane by lane

module _ (V : ℕ → Tuple → ℕ) (setup : SetupView) (who : Worker) (is : IsWorker setup.job who) where
  abbrev brings : Entry → ℕ × Lane → ℕ
  brings x p = cond (p.1.receiver == who.number) (total V who.node (came_in setup p.0 x)) 0

  marker_weighs : (r : ℕ) → total V who.node (marker setup r) ≡ 0
  marker_weighs r = go (plan_of setup r)
    where
      go : (o : Option Plan) → total V who.node (marker_by r o) ≡ 0
      go None = refl
      go (Some plan) = refl

  if_zero : (b : Bool) (xs : List Item) → total V who.node xs ≡ 0 → total V who.node (cond b xs []) ≡ 0
  if_zero true xs h = h
  if_zero false xs h = refl

  none_delivered : (x : Entry) → ((n : ℕ) → total V who.node (came_in setup n x) ≡ 0) → sum_over (brings x) (numbered setup.job) ≡ 0
  none_delivered x h = sum_none (brings x) (numbered setup.job) (λ p i. ap (λ n. cond (p.1.receiver == who.number) n 0) (h p.0) ∙ if_none (p.1.receiver == who.number))

  -- an entry came by one lane
  one_brings : (x : Entry) → ((l : ℕ) (t : Tuple) → x ≡ entry.Met l t → IsIn l (lanes_in setup.job who.number)) → sum_over (brings x) (numbered setup.job) ≡ entry_weight V who.node x
  one_brings (entry.Met l t) h =
      let k : LaneIn setup.job who l = lane_in setup.job who l is (h l t refl) in
      sum_only (brings (entry.Met l t)) (l, k.lane) (numbered setup.job) (enumerate_distinct (lanes setup.job)) (enumerate_in 0 (lanes setup.job) l l k.lane k.numbered (omega arith)) (other k)
      ∙ here k.lane.receiver k.receiver
    where
      here : (r : ℕ) → r ≡ who.number → cond (r == who.number) (total V who.node (came_in setup l (entry.Met l t))) 0 ≡ V who.node t
      here r e = rw (eq-eqb r who.number e, eq-eqb l l refl) (omega arith)

      other : (k : LaneIn setup.job who l) (p : ℕ × Lane) → IsIn p (numbered setup.job) → p ≢ (l, k.lane) → brings (entry.Met l t) p ≡ 0
      other k p i d = go (l == p.0) refl
        where
          go : (b : Bool) → (l == p.0) ≡ b → cond (p.1.receiver == who.number) (total V who.node (cond (l == p.0) (item.Carry t ∷ []) [])) 0 ≡ 0
          go true e =
              let same : l ≡ p.0 = eqb-true l p.0 e in
              let q = in_enumerate 0 (lanes setup.job) p i in
              let at : q.0 ≡ l = omega (arith, q.1, same) in
              let x : slice_get (lanes setup.job) l ≡ Some p.1 = subst (λ n. slice_get (lanes setup.job) n ≡ Some p.1) at q.2 in
              let y = k.numbered in
              let lane : p.1 ≡ k.lane = cc in
              absurd (d (same_pair p (l, k.lane) (sym same) lane))
          go false e = rw e (if_none (p.1.receiver == who.number))
  one_brings (entry.Marked l r) h = none_delivered (entry.Marked l r) (λ n. if_zero (l == n) (marker setup r) (marker_weighs r))
  one_brings (entry.Turned r) h = none_delivered (entry.Turned r) (λ n. refl)
  one_brings (entry.Ended l) h = none_delivered (entry.Ended l) (λ n. if_zero (l == n) (item.Last ∷ []) refl)

  by_entries : (n r : ℕ) (journal : List Entry) → cond (r == who.number) (total V who.node (shown setup n journal)) 0
      ≡ sum_over (λ (x : Entry). cond (r == who.number) (total V who.node (came_in setup n x)) 0) journal
  by_entries n r journal =
      ap (λ s. cond (r == who.number) s 0) (sum_flat_map (came_in setup n) (weigh V who.node) journal)
      ∙ if_sum (r == who.number) (λ (x : Entry). total V who.node (came_in setup n x)) journal

  -- what a journal meets weighs what its lanes delivered
  pub met_by_lanes : (journal : List Entry) → ((l : ℕ) (t : Tuple) → IsIn (entry.Met l t) journal → IsIn l (lanes_in setup.job who.number))
      → sum_over (entry_weight V who.node) journal
      ≡ sum_over (λ (p : ℕ × Lane). cond (p.1.receiver == who.number) (total V who.node (shown setup p.0 journal)) 0) (numbered setup.job)
  met_by_lanes journal h =
      sym (
      sum_same (λ (p : ℕ × Lane). cond (p.1.receiver == who.number) (total V who.node (shown setup p.0 journal)) 0) (λ (p : ℕ × Lane). sum_over (λ (x : Entry). brings x p) journal) (numbered setup.job)
      (λ p i. by_entries p.0 p.1.receiver journal)
      ∙ (exchange (λ (p : ℕ × Lane) (x : Entry). brings x p) (numbered setup.job) journal
      ∙ sum_same (λ (x : Entry). sum_over (brings x) (numbered setup.job)) (entry_weight V who.node) journal
      (λ x i. one_brings x (λ l t e. h l t (subst (λ y. IsIn y journal) e i)))))

-- ---- what is put, lane by lane

-- each carried tuple goes on a lane that passes the test
abbrev pub PutsFit : JobView → (Lane → Bool) → List Put → Type 0
PutsFit job test ps =
    (p : Put) (t : Tuple) → IsIn p ps → p.item ≡ item.Carry t → (n : ℕ) × (lane : Lane) × (p.lane ≡ Some lane) × (slice_get (lanes job) n ≡ Some lane) × (test lane ≡ true)

module _ (V : ℕ → Tuple → ℕ) (job : JobView) (test : Lane → Bool) where
  abbrev takes : Option Lane → Item → ℕ × Lane → ℕ
  takes l x q = cond (test q.1) (of_some (weigh V (lane_to job q.1)) (cond (is_same_lane l q.1) (Some x) None)) 0

  no_weight : (l : Option Lane) (x : Item) → ((node : ℕ) → weigh V node x ≡ 0) → sum_over (takes l x) (numbered job) ≡ of_some (λ (lane : Lane). weigh V (lane_to job lane) x) l
  no_weight l x h = sum_none (takes l x) (numbered job) (λ q i. ap (λ n. cond (test q.1) n 0) (zero (lane_to job q.1) (is_same_lane l q.1)) ∙ if_none (test q.1)) ∙ sym (none l)
    where
      zero : (node : ℕ) (b : Bool) → of_some (weigh V node) (cond b (Some x) None) ≡ 0
      zero node true = h node
      zero node false = refl

      none : (l : Option Lane) → of_some (λ (lane : Lane). weigh V (lane_to job lane) x) l ≡ 0
      none None = refl
      none (Some lane) = h (lane_to job lane)

  -- a put goes on one lane
  one_takes : (l : Option Lane) (x : Item) → ((t : Tuple) → x ≡ item.Carry t → (n : ℕ) × (lane : Lane) × (l ≡ Some lane) × (slice_get (lanes job) n ≡ Some lane) × (test lane ≡ true))
      → sum_over (takes l x) (numbered job) ≡ of_some (λ (lane : Lane). weigh V (lane_to job lane) x) l
  one_takes l (item.Carry t) h =
      let (n, lane, on, there, passes) = h t refl in
      subst (λ (o : Option Lane). sum_over (takes o (item.Carry t)) (numbered job) ≡ of_some (λ (lane : Lane). V (lane_to job lane) t) o) (sym on)
      (sum_only (takes (Some lane) (item.Carry t)) (n, lane) (numbered job) (enumerate_distinct (lanes job)) (enumerate_in 0 (lanes job) n n lane there (omega arith)) (other n lane there)
      ∙ rw (passes, lane_self lane) refl)
    where
      other : (n : ℕ) (lane : Lane) → slice_get (lanes job) n ≡ Some lane → (q : ℕ × Lane) → IsIn q (numbered job) → q ≢ (n, lane) → takes (Some lane) (item.Carry t) q ≡ 0
      other n lane there q i d = go (is_same_lane (Some lane) q.1) refl
        where
          go : (b : Bool) → is_same_lane (Some lane) q.1 ≡ b → cond (test q.1) (of_some (weigh V (lane_to job q.1)) (cond b (Some (item.Carry t)) None)) 0 ≡ 0
          go true e =
              let x : Some lane ≡ Some q.1 = same_lane (Some lane) q.1 e in
              let same : lane ≡ q.1 = cc in
              let at = in_enumerate 0 (lanes job) q i in
              let k : n ≡ at.0 = same_number job lane q.1 n at.0 there at.2 same in
              absurd (d (same_pair q (n, lane) (omega (arith, at.1, k)) (sym same)))
          go false e = if_none (test q.1)
  one_takes l (item.Mark r cover) h = no_weight l (item.Mark r cover) (λ node. refl)
  one_takes l item.Last h = no_weight l item.Last (λ node. refl)

  by_puts : (lane : Lane) (ps : List Put) → cond (test lane) (total V (lane_to job lane) (items_on lane ps)) 0
      ≡ sum_over (λ (p : Put). cond (test lane) (of_some (weigh V (lane_to job lane)) (item_on lane p)) 0) ps
  by_puts lane ps =
      ap (λ s. cond (test lane) s 0) (sum_filter_map (item_on lane) (weigh V (lane_to job lane)) ps)
      ∙ if_sum (test lane) (λ (p : Put). of_some (weigh V (lane_to job lane)) (item_on lane p)) ps

  -- what is put weighs what the lanes take of it
  pub put_by_lanes : (ps : List Put) → PutsFit job test ps
      → sum_over (λ (q : ℕ × Lane). cond (test q.1) (total V (lane_to job q.1) (items_on q.1 ps)) 0) (numbered job) ≡ sum_over (put_weight V job) ps
  put_by_lanes ps fits =
      sum_same (λ (q : ℕ × Lane). cond (test q.1) (total V (lane_to job q.1) (items_on q.1 ps)) 0) (λ (q : ℕ × Lane). sum_over (λ (p : Put). takes p.lane p.item q) ps) (numbered job) (λ q i. by_puts q.1 ps)
      ∙ (exchange (λ (q : ℕ × Lane) (p : Put). takes p.lane p.item q) (numbered job) ps
      ∙ sum_same (λ (p : Put). sum_over (takes p.lane p.item) (numbered job)) (put_weight V job) ps (λ p i. one_takes p.lane p.item (λ t e. fits p t i e)))

-- ---- all that a worker puts

pub sent-puts : (setup : SetupView) (who : Worker) (view : StateView) (lane : Lane) (journal : List Entry)
    → items_sent setup who view lane journal ≡ items_on lane (flat_map (λ (m : Moment). puts setup who m.view m.entry) (story setup who view journal))
sent-puts setup who view lane [] = refl
sent-puts setup who view lane (x ∷ journal) =
    ap (λ (later : List Item). items_on lane (puts setup who view x) ++ later) (sent-puts setup who (after setup who view x) lane journal)
    ∙ sym (filter_map-append (item_on lane) (puts setup who view x) (flat_map (λ (m : Moment). puts setup who m.view m.entry) (story setup who (after setup who view x) journal)))

abbrev pub all_puts : Ran → ℕ → List Put
all_puts ran w = flat_map (puts_of ran w) (story_of ran w)

-- ---- a whole run

module _ (rows : List Row) (ran : Ran) (g : Running rows ran) (V : ℕ → Tuple → ℕ) where
  abbrev from_feeder : Lane → ℕ
  from_feeder lane = cond (is_none lane.sender) (total V (lane_to ran.setup.job lane) (items_on lane (fed_puts ran.setup.job rows 0 ran.feeds))) 0

  abbrev from_worker : Lane → Worker → ℕ
  from_worker lane who = cond (is_sender who.number lane.sender) (total V (lane_to ran.setup.job lane) (items_on lane (all_puts ran who.number))) 0

  abbrev to_worker : ℕ → Lane → Worker → ℕ
  to_worker n lane who = cond (lane.receiver == who.number) (total V who.node (shown ran.setup n (journal_of ran who.number))) 0

  -- the receiver's part of a lane
  received : (n : ℕ) (lane : Lane) → (is : LaneIs ran.setup.job lane) → sum_over (to_worker n lane) (workers_in ran.setup.job) ≡ total V is.edge.to (shown ran.setup n (journal_of ran is.to.number))
  received n lane is =
      let into = in_workers_at_node ran.setup.job is.edge.to is.to is.receives in
      sum_only (to_worker n lane) is.to (workers_in ran.setup.job) (workers_distinct ran.setup.job) into.0 (other into.0)
      ∙ (rw (eq-eqb lane.receiver is.to.number is.receiver) refl
      ∙ ap (λ v. total V v (shown ran.setup n (journal_of ran is.to.number))) into.1)
    where
      other : IsIn is.to (workers_in ran.setup.job) → (p : Worker) → IsIn p (workers_in ran.setup.job) → p ≢ is.to → to_worker n lane p ≡ 0
      other here p i d = go (lane.receiver == p.number) refl
        where
          go : (b : Bool) → (lane.receiver == p.number) ≡ b → cond b (total V p.node (shown ran.setup n (journal_of ran p.number))) 0 ≡ 0
          go true e = absurd (d (same_who ran.setup.job p is.to i here (sym (eqb-true lane.receiver p.number e) ∙ is.receiver)))
          go false e = refl

  -- the senders' part: the feeder's, or that of one worker
  none_sent : (lane : Lane) → lane.sender ≡ None → sum_over (from_worker lane) (workers_in ran.setup.job) ≡ 0
  none_sent lane e = sum_none (from_worker lane) (workers_in ran.setup.job) (λ p i. rw e refl)

  one_sent : (lane : Lane) (s : ℕ) → HasWorker ran s → lane.sender ≡ Some s → sum_over (from_worker lane) (workers_in ran.setup.job) ≡ total V (lane_to ran.setup.job lane) (items_on lane (all_puts ran s))
  one_sent lane s lt e =
      let is : IsWorker ran.setup.job (worker_no ran.setup s) = (worker_is ran.setup s lt).1 in
      let number : (worker_no ran.setup s).number ≡ s = (worker_is ran.setup s lt).0 in
      sum_only (from_worker lane) (worker_no ran.setup s) (workers_in ran.setup.job) (workers_distinct ran.setup.job) (in_of_place (worker_no ran.setup s) (workers_in ran.setup.job) (worker_no ran.setup s).number is.there) (other is)
      ∙ (ap (λ b. cond b (total V (lane_to ran.setup.job lane) (items_on lane (all_puts ran (worker_no ran.setup s).number))) 0)
      (ap (is_sender (worker_no ran.setup s).number) e ∙ eq-eqb s (worker_no ran.setup s).number (sym number))
      ∙ ap (λ w. total V (lane_to ran.setup.job lane) (items_on lane (all_puts ran w))) number)
    where
      other : IsWorker ran.setup.job (worker_no ran.setup s) → (p : Worker) → IsIn p (workers_in ran.setup.job) → p ≢ worker_no ran.setup s → from_worker lane p ≡ 0
      other is p i d = go (is_sender p.number lane.sender) refl
        where
          go : (b : Bool) → is_sender p.number lane.sender ≡ b → cond b (total V (lane_to ran.setup.job lane) (items_on lane (all_puts ran p.number))) 0 ≡ 0
          go true f =
              let x : Some s ≡ Some p.number = sym e ∙ sender_is p.number lane.sender f in
              let same : s ≡ p.number = cc in
              absurd (d (sym (who_is ran.setup p.number p (in_workers ran.setup.job p i).there) ∙ ap (worker_no ran.setup) (sym same)))
          go false f = refl

  to_is : (lane : Lane) → (is : LaneIs ran.setup.job lane) → lane_to ran.setup.job lane ≡ is.edge.to
  to_is lane is = ap node_to is.edge_is

  -- what comes by a lane is what was put on it
  by_lane : (n : ℕ) (lane : Lane) → slice_get (lanes ran.setup.job) n ≡ Some lane → sum_over (to_worker n lane) (workers_in ran.setup.job) ≡ from_feeder lane + sum_over (from_worker lane) (workers_in ran.setup.job)
  by_lane n lane there = go (lane_is ran.setup.job n lane there)
    where
      go : LaneIs ran.setup.job lane → sum_over (to_worker n lane) (workers_in ran.setup.job) ≡ from_feeder lane + sum_over (from_worker lane) (workers_in ran.setup.job)
      go is =
          received n lane is ∙ (ap (λ v. total V v (shown ran.setup n (journal_of ran is.to.number))) (sym (to_is lane is))
          ∙ by_sender (sender_of rows ran g is.edge.from lane.sender is.sends))
        where
          st : Stands ran.setup is.edge.to is.to.number
          st = (stands_at ran.setup is.edge.to is.to is.receives).1

          k : LaneIn ran.setup.job (worker_no ran.setup is.to.number) n
          k = lane_into ran.setup.job (worker_no ran.setup is.to.number) n lane (worker_is ran.setup is.to.number st.within).1 there (is.receiver ∙ sym (worker_is ran.setup is.to.number st.within).0)

          same : k.lane ≡ lane
          same = let x = k.numbered in let y = there in cc

          by_sender : ((lane.sender ≡ None) × (is_source_node (slice_get ran.setup.job.nodes is.edge.from) ≡ true)) ⊎ ((s : ℕ) × (lane.sender ≡ Some s) × Stands ran.setup is.edge.from s)
              → total V (lane_to ran.setup.job lane) (shown ran.setup n (journal_of ran is.to.number)) ≡ from_feeder lane + sum_over (from_worker lane) (workers_in ran.setup.job)
          by_sender (inl (none, source)) =
              let tie : shown ran.setup n (journal_of ran is.to.number) ≡ fed ran.setup.job rows 0 lane ran.feeds ++ item.Last ∷ [] =
              subst (λ (l : Lane). shown ran.setup n (journal_of ran is.to.number) ≡ fed ran.setup.job rows 0 l ran.feeds ++ item.Last ∷ []) same
              (fed_there rows ran g n is.to.number st.within k (ap (λ (l : Lane). l.sender) same ∙ none)) in
              let feeds : from_feeder lane ≡ total V (lane_to ran.setup.job lane) (fed ran.setup.job rows 0 lane ran.feeds) = rw none refl in
              ap (total V (lane_to ran.setup.job lane)) tie
              ∙ omega (arith, sum_append (weigh V (lane_to ran.setup.job lane)) (fed ran.setup.job rows 0 lane ran.feeds) (item.Last ∷ []), feeds, none_sent lane none)
          by_sender (inr (s, some, from)) =
              let tie : shown ran.setup n (journal_of ran is.to.number) ≡ items_sent ran.setup (worker_no ran.setup s) (begun ran.setup s) lane (journal_of ran s) =
              subst (λ (l : Lane). shown ran.setup n (journal_of ran is.to.number) ≡ items_sent ran.setup (worker_no ran.setup s) (begun ran.setup s) l (journal_of ran s)) same
              (sent_there rows ran g n is.to.number s st.within from.within k (ap (λ (l : Lane). l.sender) same ∙ some)) in
              let feeds : from_feeder lane ≡ 0 = rw some refl in
              ap (total V (lane_to ran.setup.job lane)) (tie ∙ sent-puts ran.setup (worker_no ran.setup s) (begun ran.setup s) lane (journal_of ran s))
              ∙ omega (arith, feeds, one_sent lane s from.within some)

  -- what is met weighs what is fed and what is made
  pub flow : PutsFit ran.setup.job (λ (lane : Lane). is_none lane.sender) (fed_puts ran.setup.job rows 0 ran.feeds)
      → ((who : Worker) → IsIn who (workers_in ran.setup.job) → PutsFit ran.setup.job (λ (lane : Lane). is_sender who.number lane.sender) (all_puts ran who.number))
      → sum_over (λ (who : Worker). sum_over (entry_weight V who.node) (journal_of ran who.number)) (workers_in ran.setup.job)
      ≡ sum_over (put_weight V ran.setup.job) (fed_puts ran.setup.job rows 0 ran.feeds)
      + sum_over (λ (who : Worker). sum_over (put_weight V ran.setup.job) (all_puts ran who.number)) (workers_in ran.setup.job)
  flow feeder_fits worker_fits =
      sum_same (λ (who : Worker). sum_over (entry_weight V who.node) (journal_of ran who.number)) (λ (who : Worker). sum_over (λ (p : ℕ × Lane). to_worker p.0 p.1 who) (numbered ran.setup.job)) (workers_in ran.setup.job) met
      ∙ (exchange (λ (who : Worker) (p : ℕ × Lane). to_worker p.0 p.1 who) (workers_in ran.setup.job) (numbered ran.setup.job)
      ∙ (sum_same (λ (p : ℕ × Lane). sum_over (to_worker p.0 p.1) (workers_in ran.setup.job)) (λ (p : ℕ × Lane). from_feeder p.1 + sum_over (from_worker p.1) (workers_in ran.setup.job)) (numbered ran.setup.job) lane_by_lane
      ∙ (sum_add (λ (p : ℕ × Lane). from_feeder p.1) (λ (p : ℕ × Lane). sum_over (from_worker p.1) (workers_in ran.setup.job)) (numbered ran.setup.job)
      ∙ omega (arith, put_by_lanes V ran.setup.job (λ (lane : Lane). is_none lane.sender) (fed_puts ran.setup.job rows 0 ran.feeds) feeder_fits, made))))
    where
      met : (who : Worker) → IsIn who (workers_in ran.setup.job) → sum_over (entry_weight V who.node) (journal_of ran who.number) ≡ sum_over (λ (p : ℕ × Lane). to_worker p.0 p.1 who) (numbered ran.setup.job)
      met who i =
          let is : IsWorker ran.setup.job who = in_workers ran.setup.job who i in
          let lt : HasWorker ran who.number = slice_get_within (workers_in ran.setup.job) who.number who is.there in
          let e : worker_no ran.setup who.number ≡ who = who_is ran.setup who.number who is.there in
          met_by_lanes V ran.setup who is (journal_of ran who.number)
          (λ l t h. subst (λ (p : Worker). IsIn l (lanes_in ran.setup.job p.number)) e
          (met_on_lane (duties_of ran who.number) (start_of ran who.number) (journal_of ran who.number) l t (execution rows ran g who.number lt) h))

      lane_by_lane : (p : ℕ × Lane) → IsIn p (numbered ran.setup.job) → sum_over (to_worker p.0 p.1) (workers_in ran.setup.job) ≡ from_feeder p.1 + sum_over (from_worker p.1) (workers_in ran.setup.job)
      lane_by_lane p i =
          let q = in_enumerate 0 (lanes ran.setup.job) p i in
          let at : q.0 ≡ p.0 = omega (arith, q.1) in
          by_lane p.0 p.1 (subst (λ n. slice_get (lanes ran.setup.job) n ≡ Some p.1) at q.2)

      made : sum_over (λ (p : ℕ × Lane). sum_over (from_worker p.1) (workers_in ran.setup.job)) (numbered ran.setup.job)
          ≡ sum_over (λ (who : Worker). sum_over (put_weight V ran.setup.job) (all_puts ran who.number)) (workers_in ran.setup.job)
      made =
          sym (exchange (λ (who : Worker) (p : ℕ × Lane). from_worker p.1 who) (workers_in ran.setup.job) (numbered ran.setup.job))
          ∙ sum_same (λ (who : Worker). sum_over (λ (p : ℕ × Lane). from_worker p.1 who) (numbered ran.setup.job)) (λ (who : Worker). sum_over (put_weight V ran.setup.job) (all_puts ran who.number)) (workers_in ran.setup.job)
          (λ who i. put_by_lanes V ran.setup.job (λ (lane : Lane). is_sender who.number lane.sender) (all_puts ran who.number) (worker_fits who i))
