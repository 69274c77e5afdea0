-- Every entry of a run from a beginning on that meets a tuple descends from the entry that first met its row, and that one is alone.
use Rattle.std.proofs.Common.{◌≡◌, ◌∙◌, ◌<◌, ◌+◌, ◌++◌, ℕ, zero, suc, List, [], ◌∷◌, ◌⊎◌, inl, inr, refl, sym, subst, ap, arith, length, flat_map, take, Some, None, slice_get}
use Rattle.flow_dag.specs.Edges.{HasEdge}
use Rattle.flow_dag.proofs.EdgeLemmas.{HasEdge-at}
use Rattle.sink_journal.specs.declared.journal.Entry.TheVariants as entry
use Rattle.tuple_trace.specs.declared.row.Row.{Row}
use Rattle.tuple_trace.specs.declared.tuple.Item.{Item}
use Rattle.tuple_trace.specs.declared.tuple.Item.TheVariants as item
use Rattle.tuple_trace.specs.declared.tuple.Tuple.{Tuple}
use Rattle.flow_model.specs.Begin.{Begin}
use Rattle.flow_model.specs.Feeding.{fed, fed_puts}
use Rattle.flow_model.specs.Lanes.{lanes}
use Rattle.flow_model.specs.declared.topology.Lane.{Lane}
use Rattle.flow_model.specs.Replay.{Put, came_in, item_on, shown}
use Rattle.flow_model.specs.Requests.{afters}
use Rattle.flow_model.specs.Run.{Ran}
use Rattle.flow_model.proofs.ElementLemmas.{in_of_place}
use Rattle.flow_model.proofs.LaneLemmas.{LaneIn, lane_in, same_number}
use Rattle.flow_model.proofs.MarkerLemmas.{met_on_lane}
use Rattle.flow_model.proofs.SendingLemmas.{on_lane}
use Rattle.flow_model.proofs.StoryLemmas.{put_then, sent-story}
use Rattle.flow_model.proofs.WorkerLemmas.{Stands, get_append, journal_of, worker_is, worker_no}
use Rattle.flow_model.proofs.PlaceLemmas.{IsFrom, IsKeptFrom, filter_map_place, flat_map_place, flat_map_same}
use Rattle.flow_model.proofs.LineageLemmas.{Address, Meets, came_in_some, delivered_before, put_before, same_address}
use Rattle.flow_model.proofs.RootLemmas.{FeedsRise, feed_rises, met_there, once_fed}
use Rattle.flow_model.proofs.RunLemmas.{HasWorker}
use Rattle.flow_laws.proofs.LineageLemmas.{Born, Child, IsChain, born, chain_push, puts_of, sent_before, story_of}
use Rattle.flow_laws.proofs.RunLemmas.{RunningFrom, begun_from, duties_from, execution, fed_there, sender_of, sent_there, start_from}

-- ---- the feeder puts each row once

-- ---- roots

-- the entry meets what the feeder put
pub record Root (begin : Begin) (rows : List Row) (ran : Ran) (a : Address) : Type 0 where
  pub n : ℕ
  pub lane : Lane
  pub numbered : slice_get (lanes ran.setup.job) n ≡ Some lane
  pub receiver : lane.receiver ≡ a.worker
  pub tuple : Tuple
  pub met : slice_get (journal_of ran a.worker) a.entry ≡ Some (entry.Met n tuple)
  pub k : ℕ
  pub put : Put
  pub put_is : slice_get (fed_puts ran.setup.job rows begin.turned ran.feeds) k ≡ Some put
  pub on : put.lane ≡ Some lane
  pub carries : item.Carry tuple ≡ put.item
  pub place : delivered_before ran n a ≡ put_before lane k (fed_puts ran.setup.job rows begin.turned ran.feeds)

pub one_root : (begin : Begin) (rows : List Row) (ran : Ran) (a b : Address) → RunningFrom begin rows ran → (p : Root begin rows ran a) (q : Root begin rows ran b) → p.tuple.row ≡ q.tuple.row → a ≡ b
one_root begin rows ran a b g p q same =
    let rise : FeedsRise begin.row ran.feeds = subst (FeedsRise begin.row) (sym g.run.feed) (feed_rises begin.row begin.turned (afters ran.setup.requests) (length rows)) in
    let k : p.k ≡ q.k = once_fed ran.setup.job rows begin.row begin.turned ran.feeds g.rows_are rise p.k q.k p.put q.put p.tuple q.tuple p.put_is q.put_is (sym p.carries) (sym q.carries) same in
    let x = p.put_is in
    let y : slice_get (fed_puts ran.setup.job rows begin.turned ran.feeds) p.k ≡ Some q.put = subst (λ k. slice_get (fed_puts ran.setup.job rows begin.turned ran.feeds) k ≡ Some q.put) (sym k) q.put_is in
    let put : p.put ≡ q.put = cc in
    let both : Some p.lane ≡ Some q.lane = sym p.on ∙ (ap (λ (p : Put). p.lane) put ∙ q.on) in
    let lane : p.lane ≡ q.lane = cc in
    let number : p.n ≡ q.n = same_number ran.setup.job p.lane q.lane p.n q.n p.numbered q.numbered lane in
    let worker : a.worker ≡ b.worker = sym p.receiver ∙ (ap (λ (l : Lane). l.receiver) lane ∙ q.receiver) in
    let place : delivered_before ran p.n a ≡ delivered_before ran q.n b =
    p.place
    ∙ (ap (λ (l : Lane). put_before l p.k (fed_puts ran.setup.job rows begin.turned ran.feeds)) lane ∙ (ap (λ k. put_before q.lane k (fed_puts ran.setup.job rows begin.turned ran.feeds)) k ∙ sym q.place)) in
    let here : delivered_before ran p.n a ≡ length (shown ran.setup p.n (take b.entry (journal_of ran a.worker))) =
    place ∙ (ap (λ n. delivered_before ran n b) (sym number) ∙ ap (λ w. length (shown ran.setup p.n (take b.entry (journal_of ran w)))) (sym worker)) in
    let met : slice_get (journal_of ran a.worker) b.entry ≡ Some (entry.Met p.n q.tuple) =
    subst (λ w. slice_get (journal_of ran w) b.entry ≡ Some (entry.Met p.n q.tuple)) (sym worker)
    (subst (λ n. slice_get (journal_of ran b.worker) b.entry ≡ Some (entry.Met n q.tuple)) (sym number) q.met) in
    same_address a b worker
    (flat_map_same (came_in ran.setup p.n) (journal_of ran a.worker) a.entry b.entry (entry.Met p.n p.tuple) (entry.Met p.n q.tuple) p.met met
    (came_in_some ran.setup p.n p.tuple) (came_in_some ran.setup p.n q.tuple) here)

-- ---- where an entry came from

-- an entry of the lane's sender
pub record Parent (begin : Begin) (ran : Ran) (c : Address) (node : ℕ) : Type 0 where
  pub parent : Address
  pub child : Child begin ran parent c
  pub stands : Stands ran.setup node parent.worker

module _ (begin : Begin) (rows : List Row) (ran : Ran) (g : RunningFrom begin rows ran) where
  from_feeder : (c : Address) (n : ℕ) (t : Tuple) → HasWorker ran c.worker → slice_get (journal_of ran c.worker) c.entry ≡ Some (entry.Met n t)
      → (k : LaneIn ran.setup.job (worker_no ran.setup c.worker) n) → k.lane.sender ≡ None → Root begin rows ran c
  from_feeder c n t lt met k none =
      let h : slice_get (fed ran.setup.job rows begin.turned k.lane ran.feeds ++ item.Last ∷ []) (delivered_before ran n c) ≡ Some (item.Carry t) =
      subst (λ (xs : List Item). slice_get xs (delivered_before ran n c) ≡ Some (item.Carry t)) (fed_there begin rows ran g n c.worker lt k none) (met_there ran.setup n c.entry t (journal_of ran c.worker) met) in
      elim (get_append (fed ran.setup.job rows begin.turned k.lane ran.feeds) (item.Last ∷ []) (delivered_before ran n c) (item.Carry t) h) [
        | inl a ↦
            let r : IsKeptFrom (item_on k.lane) (fed_puts ran.setup.job rows begin.turned ran.feeds) (delivered_before ran n c) (item.Carry t) =
            filter_map_place (item_on k.lane) (fed_puts ran.setup.job rows begin.turned ran.feeds) (delivered_before ran n c) (item.Carry t) a in
            let o = on_lane k.lane r.x (item.Carry t) r.is in
            record {
              n = n;
              lane = k.lane;
              numbered = k.numbered;
              receiver = k.receiver ∙ (worker_is ran.setup c.worker lt).0;
              tuple = t;
              met = met;
              k = r.i;
              put = r.x;
              put_is = r.there;
              on = o.0;
              carries = o.1;
              place = r.place;
            }
        | inr b ↦ absurd (no_tuple b.0 b.2)
      ]
    where
      no_tuple : (i : ℕ) → ¬ (slice_get (item.Last ∷ []) i ≡ Some (item.Carry t))
      no_tuple zero e = cc
      no_tuple (suc i) e = cc

  from_worker : (c : Address) (n : ℕ) (t : Tuple) → HasWorker ran c.worker → slice_get (journal_of ran c.worker) c.entry ≡ Some (entry.Met n t)
      → (k : LaneIn ran.setup.job (worker_no ran.setup c.worker) n) → (s : ℕ) → k.lane.sender ≡ Some s → Stands ran.setup k.edge.from s → Parent begin ran c k.edge.from
  from_worker c n t lt met k s some there =
      let same : shown ran.setup n (journal_of ran c.worker) ≡ flat_map (put_then ran.setup (worker_no ran.setup s) k.lane) (story_of begin ran s) =
      sent_there begin rows ran g n c.worker s lt there.within k some ∙ sent-story ran.setup (worker_no ran.setup s) (begun_from begin ran.setup s) k.lane (journal_of ran s) in
      let f : IsFrom (put_then ran.setup (worker_no ran.setup s) k.lane) (story_of begin ran s) (delivered_before ran n c) (item.Carry t) =
      flat_map_place (put_then ran.setup (worker_no ran.setup s) k.lane) (story_of begin ran s) (delivered_before ran n c) (item.Carry t)
      (subst (λ (xs : List Item). slice_get xs (delivered_before ran n c) ≡ Some (item.Carry t)) same (met_there ran.setup n c.entry t (journal_of ran c.worker) met)) in
      let r : IsKeptFrom (item_on k.lane) (puts_of begin ran s f.x) f.within (item.Carry t) = filter_map_place (item_on k.lane) (puts_of begin ran s f.x) f.within (item.Carry t) f.is in
      let o = on_lane k.lane r.x (item.Carry t) r.is in
      let edge : HasEdge ran.setup.job.edges (worker_no ran.setup s).node (worker_no ran.setup c.worker).node =
      subst (λ v. HasEdge ran.setup.job.edges v (worker_no ran.setup c.worker).node) (sym there.node_is)
      (subst (λ v. HasEdge ran.setup.job.edges k.edge.from v) k.to (HasEdge-at ran.setup.job.edges k.lane.edge k.edge k.edge_is)) in
      let sent : ℕ = sent_before begin ran k.lane (record { worker = s; entry = f.i }) in
      let place : delivered_before ran n c ≡ sent + put_before k.lane r.i (puts_of begin ran s f.x) = omega (arith, f.place, r.place) in
      record {
        parent = record { worker = s; entry = f.i };
        child = record {
          within = there.within;
          n = n;
          lane = k.lane;
          numbered = k.numbered;
          receiver = k.receiver ∙ (worker_is ran.setup c.worker lt).0;
          edge = edge;
          tuple = t;
          met = met;
          moment = f.x;
          there = f.there;
          k = r.i;
          put = r.x;
          put_is = r.there;
          on = o.0;
          carries = o.1;
          place = place;
        };
        stands = there;
      }

  -- the lane by which an entry met its tuple
  pub lane_of_met : (c : Address) (t : Tuple) → HasWorker ran c.worker → (m : Meets ran c t) → LaneIn ran.setup.job (worker_no ran.setup c.worker) m.0
  lane_of_met c t lt m =
      lane_in ran.setup.job (worker_no ran.setup c.worker) m.0 (worker_is ran.setup c.worker lt).1
      (met_on_lane (duties_from begin ran c.worker) (start_from begin ran c.worker) (journal_of ran c.worker) m.0 t
      (execution begin rows ran g c.worker lt) (in_of_place (entry.Met m.0 t) (journal_of ran c.worker) c.entry m.1))

  -- an entry comes from the feeder, or from an entry of the sender
  pub came_from : (c : Address) (t : Tuple) → (lt : HasWorker ran c.worker) → (m : Meets ran c t) → Root begin rows ran c ⊎ Parent begin ran c (lane_of_met c t lt m).edge.from
  came_from c t lt m = go (lane_of_met c t lt m)
    where
      go : (k : LaneIn ran.setup.job (worker_no ran.setup c.worker) m.0) → Root begin rows ran c ⊎ Parent begin ran c k.edge.from
      go k =
          elim (sender_of begin rows ran g k.edge.from k.lane.sender k.sends) [
            | inl fed ↦ inl (from_feeder c m.0 t lt m.1 k fed.0)
            | inr s ↦ inr (from_worker c m.0 t lt m.1 k s.0 s.1 s.2)
          ]

-- the root of an entry, and the chain from there
pub record Rooted (begin : Begin) (rows : List Row) (ran : Ran) (c : Address) : Type 0 where
  pub at : Address
  pub root : Root begin rows ran at
  pub chain : List Address
  pub down : IsChain begin ran at chain c

rooted_below : (begin : Begin) (rows : List Row) (ran : Ran) (g : RunningFrom begin rows ran) (bound : ℕ) (c : Address) (t : Tuple) → HasWorker ran c.worker → g.connected.rank (worker_no ran.setup c.worker).node < bound
    → Meets ran c t → Rooted begin rows ran c
rooted_below begin rows ran g zero c t l lt m = absurd (omega arith)
rooted_below begin rows ran g (suc bound) c t l lt m =
    let k : LaneIn ran.setup.job (worker_no ran.setup c.worker) m.0 = lane_of_met begin rows ran g c t l m in
    let up : g.connected.rank k.edge.from < g.connected.rank k.edge.to = g.connected.forward k.lane.edge k.edge k.edge_is in
    let here : g.connected.rank k.edge.to ≡ g.connected.rank (worker_no ran.setup c.worker).node = ap g.connected.rank k.to in
    elim (came_from begin rows ran g c t l m) [
      | inl r ↦ record { at = c; root = r; chain = []; down = refl }
      | inr q ↦
          let e : g.connected.rank (worker_no ran.setup q.parent.worker).node ≡ g.connected.rank k.edge.from = ap g.connected.rank q.stands.node_is in
          let b : Born begin ran q.parent c q.child = born begin ran q.parent c q.child in
          let r : Rooted begin rows ran q.parent = rooted_below begin rows ran g bound q.parent b.tuple q.stands.within (omega arith) b.meets in
          record { at = r.at; root = r.root; chain = r.chain ++ c ∷ []; down = chain_push begin ran r.at q.parent c r.chain r.down q.child }
    ]

pub rooted : (begin : Begin) (rows : List Row) (ran : Ran) (g : RunningFrom begin rows ran) (c : Address) (t : Tuple) → HasWorker ran c.worker → Meets ran c t → Rooted begin rows ran c
rooted begin rows ran g c t l m = rooted_below begin rows ran g (suc (g.connected.rank (worker_no ran.setup c.worker).node)) c t l (omega arith) m
