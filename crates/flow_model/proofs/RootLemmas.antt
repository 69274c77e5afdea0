-- Every entry that meets a tuple descends from the entry that first met its row, and that one is alone.
use Rattle.std.proofs.Common.{◌≡◌, ◌∙◌, ◌<◌, ◌+◌, ◌-◌, ◌++◌, ◌==◌, ℕ, zero, suc, List, [], ◌∷◌, ◌⊎◌, inl, inr, refl, sym, subst, ap, arith, true, false, Bool, cond, length, min, flat_map, drop, take, nat_le, Some, None, Option, slice_get}
use Rattle.std.proofs.lemmas.Bool.{eq-eqb}
use Rattle.flow_dag.specs.Edges.{HasEdge}
use Rattle.flow_dag.proofs.EdgeLemmas.{HasEdge-at}
use Rattle.jobs.specs.JobView.{JobView}
use Rattle.sink_journal.specs.declared.journal.Entry.{Entry}
use Rattle.sink_journal.specs.declared.journal.Entry.TheVariants as entry
use Rattle.sink_journal.specs.declared.journal.Feed.{Feed}
use Rattle.sink_journal.specs.declared.journal.Feed.TheVariants as feed
use Rattle.tuple_trace.specs.Rows.{AreRows}
use Rattle.tuple_trace.specs.declared.row.Row.{Row}
use Rattle.tuple_trace.specs.declared.tuple.Item.{Item}
use Rattle.tuple_trace.specs.declared.tuple.Item.TheVariants as item
use Rattle.tuple_trace.specs.declared.tuple.Tuple.{Tuple}
use Rattle.flow_model.specs.Feeding.{fed, fed_put, fed_puts, fed_tuple, feed_after, feed_from, issued_where, row_numbered}
use Rattle.flow_model.specs.Lanes.{lane_of, lanes}
use Rattle.flow_model.specs.declared.topology.Lane.{Lane}
use Rattle.flow_model.specs.SetupView.{SetupView}
use Rattle.flow_model.specs.Replay.{Put, came_in, item_on, shown}
use Rattle.flow_model.specs.Requests.{afters}
use Rattle.flow_model.specs.Run.{Ran}
use Rattle.flow_model.proofs.ElementLemmas.{IsIn, in_of_place}
use Rattle.flow_model.proofs.LaneLemmas.{LaneIn, lane_in, same_number}
use Rattle.flow_model.proofs.MarkerLemmas.{met_on_lane}
use Rattle.flow_model.proofs.SendingLemmas.{on_lane}
use Rattle.flow_model.proofs.StoryLemmas.{put_then, sent-story}
use Rattle.flow_model.proofs.WorkerLemmas.{Stands, begun, get_append, journal_of, worker_no, worker_is}
use Rattle.flow_model.proofs.PlaceLemmas.{IsFrom, IsKeptFrom, filter_map_place, flat_map_get, flat_map_place, flat_map_same}
use Rattle.flow_model.proofs.RunLemmas.{HasWorker, Running, execution, fed_there, row_is, sender_of, sent_there, start_of, duties_of}
use Rattle.flow_model.proofs.LineageLemmas.{Address, Born, Child, IsChain, Meets, born, delivered_before, chain_push, came_in_some, put_before, puts_of, same_address, sent_before, story_of}

-- ---- the feeder puts each row once

-- the rows that a feed names, each above the one before it, and the first above k
abbrev pub FeedsRise : ℕ → List Feed → Type 0
FeedsRise k [] = Unit {0}
FeedsRise k (feed.Fed n ∷ more) = (k < n) × FeedsRise n more
FeedsRise k (feed.Issued r ∷ more) = FeedsRise k more
FeedsRise k (feed.Stopped ∷ more) = FeedsRise k more

-- every put of a rising feed carries a tuple of a row above the bound
puts_above : (job : JobView) (rows : List Row) (k issued : ℕ) (feeds : List Feed) (p : Put) (t : Tuple) → AreRows rows → FeedsRise k feeds
    → IsIn p (fed_puts job rows issued feeds) → p.item ≡ item.Carry t → k < t.row
puts_above job rows k issued [] p t are f h e = absurd h
puts_above job rows k issued (feed.Fed n ∷ more) p t are f h e =
    go (row_numbered rows n) refl h (λ i. let lt : n < t.row = puts_above job rows n issued more p t are f.1 i e in let h = f.0 in omega arith)
  where
    go : (o : Option Row) → row_numbered rows n ≡ o → IsIn p (fed_put job issued o ++ fed_puts job rows issued more) → (IsIn p (fed_puts job rows issued more) → k < t.row) → k < t.row
    go None g i later = later i
    go (Some row) g (inl q) later =
        let c : item.Carry (fed_tuple issued row) ≡ item.Carry t = sym (ap (λ (p : Put). p.item) q) ∙ e in
        let same : fed_tuple issued row ≡ t = cc in
        let number : t.row ≡ n = sym (ap (λ (t : Tuple). t.row) same) ∙ (row_is rows n row are g).numbered in
        let h = f.0 in
        omega arith
    go (Some row) g (inr i) later = later i
puts_above job rows k issued (feed.Issued r ∷ more) p t are f h e = puts_above job rows k (issued + 1) more p t are f h e
puts_above job rows k issued (feed.Stopped ∷ more) p t are f h e = puts_above job rows k issued more p t are f h e

-- no two of these puts carry tuples of one row
abbrev pub HasRowsOnce : List Put → Type 0
HasRowsOnce ps =
    (i j : ℕ) (p q : Put) (t u : Tuple) → slice_get ps i ≡ Some p → slice_get ps j ≡ Some q → p.item ≡ item.Carry t → q.item ≡ item.Carry u → t.row ≡ u.row → i ≡ j

once_behind : (p : Put) (ps : List Put) (s : Tuple) → p.item ≡ item.Carry s → ((q : Put) (t : Tuple) → IsIn q ps → q.item ≡ item.Carry t → s.row < t.row)
    → HasRowsOnce ps → HasRowsOnce (p ∷ ps)
once_behind p ps s e above once zero zero a b t u g h c d same = refl
once_behind p ps s e above once zero (suc j) a b t u g h c d same =
    let lt : s.row < u.row = above b u (in_of_place b ps j h) d in
    let z : p ≡ a = cc in
    let f : item.Carry s ≡ item.Carry t = sym e ∙ (ap (λ (p : Put). p.item) z ∙ c) in
    let st : s ≡ t = cc in
    let r : s.row ≡ t.row = ap (λ (t : Tuple). t.row) st in
    absurd (omega arith)
once_behind p ps s e above once (suc i) zero a b t u g h c d same =
    let lt : s.row < t.row = above a t (in_of_place a ps i g) c in
    let z : p ≡ b = cc in
    let f : item.Carry s ≡ item.Carry u = sym e ∙ (ap (λ (p : Put). p.item) z ∙ d) in
    let su : s ≡ u = cc in
    let r : s.row ≡ u.row = ap (λ (t : Tuple). t.row) su in
    absurd (omega arith)
once_behind p ps s e above once (suc i) (suc j) a b t u g h c d same = ap suc (once i j a b t u g h c d same)

pub once_fed : (job : JobView) (rows : List Row) (k issued : ℕ) (feeds : List Feed) → AreRows rows → FeedsRise k feeds → HasRowsOnce (fed_puts job rows issued feeds)
once_fed job rows k issued [] are f = λ i j p q t u g h c d same. absurd (cc)
once_fed job rows k issued (feed.Fed n ∷ more) are f = go (row_numbered rows n) refl (once_fed job rows n issued more are f.1)
  where
    go : (o : Option Row) → row_numbered rows n ≡ o → HasRowsOnce (fed_puts job rows issued more) → HasRowsOnce (fed_put job issued o ++ fed_puts job rows issued more)
    go None g once = once
    go (Some row) g once =
        once_behind (record { lane = lane_of job None row.source 0 row.tuple; item = item.Carry (fed_tuple issued row) }) (fed_puts job rows issued more) (fed_tuple issued row) refl
        (λ q t i e. let lt : n < t.row = puts_above job rows n issued more q t are f.1 i e in let number : row.tuple.row ≡ n = (row_is rows n row are g).numbered in omega arith)
        once
once_fed job rows k issued (feed.Issued r ∷ more) are f = once_fed job rows k (issued + 1) more are f
once_fed job rows k issued (feed.Stopped ∷ more) are f = once_fed job rows k issued more are f

-- the feed of a run names the rows in order
issued_rise : (test : ℕ → Bool) (rows r k : ℕ) (waits : List ℕ) (more : List Feed) → FeedsRise k more → FeedsRise k (issued_where test rows r waits ++ more)
issued_rise test rows r k [] more f = f
issued_rise test rows r k (after ∷ waits) more f = go (test (min after rows)) (issued_rise test rows (r + 1) k waits more f)
  where
    go : (b : Bool) → FeedsRise k (issued_where test rows (r + 1) waits ++ more) → FeedsRise k (cond b (feed.Issued r ∷ issued_where test rows (r + 1) waits) (issued_where test rows (r + 1) waits) ++ more)
    go true h = h
    go false h = h

after_rises : (waits : List ℕ) (r row rows left : ℕ) → FeedsRise row (feed_after waits r row rows left)
after_rises waits r row rows zero = tt
after_rises waits r row rows (suc left) =
    (omega arith, issued_rise (λ after. after == row + 1) rows r (row + 1) waits (feed_after waits r (row + 1) rows left) (after_rises waits r (row + 1) rows left))

pub feed_rises : (row issued : ℕ) (waits : List ℕ) (rows : ℕ) → FeedsRise row (feed_from row issued waits rows)
feed_rises row issued waits rows =
    issued_rise (λ after. nat_le after row) rows (issued + 1) row (drop issued waits) (feed_after (drop issued waits) (issued + 1) row rows (rows - row))
    (after_rises (drop issued waits) (issued + 1) row rows (rows - row))

-- ---- roots

-- the entry meets what the feeder put
pub record Root (rows : List Row) (ran : Ran) (a : Address) : Type 0 where
  pub n : ℕ
  pub lane : Lane
  pub numbered : slice_get (lanes ran.setup.job) n ≡ Some lane
  pub receiver : lane.receiver ≡ a.worker
  pub tuple : Tuple
  pub met : slice_get (journal_of ran a.worker) a.entry ≡ Some (entry.Met n tuple)
  pub k : ℕ
  pub put : Put
  pub put_is : slice_get (fed_puts ran.setup.job rows 0 ran.feeds) k ≡ Some put
  pub on : put.lane ≡ Some lane
  pub carries : item.Carry tuple ≡ put.item
  pub place : delivered_before ran n a ≡ put_before lane k (fed_puts ran.setup.job rows 0 ran.feeds)

pub one_root : (rows : List Row) (ran : Ran) (a b : Address) → Running rows ran → (p : Root rows ran a) (q : Root rows ran b) → p.tuple.row ≡ q.tuple.row → a ≡ b
one_root rows ran a b g p q same =
    let rise : FeedsRise 0 ran.feeds = subst (FeedsRise 0) (sym g.run.feed) (feed_rises 0 0 (afters ran.setup.requests) (length rows)) in
    let k : p.k ≡ q.k = once_fed ran.setup.job rows 0 0 ran.feeds g.rows_are rise p.k q.k p.put q.put p.tuple q.tuple p.put_is q.put_is (sym p.carries) (sym q.carries) same in
    let x = p.put_is in
    let y : slice_get (fed_puts ran.setup.job rows 0 ran.feeds) p.k ≡ Some q.put = subst (λ k. slice_get (fed_puts ran.setup.job rows 0 ran.feeds) k ≡ Some q.put) (sym k) q.put_is in
    let put : p.put ≡ q.put = cc in
    let both : Some p.lane ≡ Some q.lane = sym p.on ∙ (ap (λ (p : Put). p.lane) put ∙ q.on) in
    let lane : p.lane ≡ q.lane = cc in
    let number : p.n ≡ q.n = same_number ran.setup.job p.lane q.lane p.n q.n p.numbered q.numbered lane in
    let worker : a.worker ≡ b.worker = sym p.receiver ∙ (ap (λ (l : Lane). l.receiver) lane ∙ q.receiver) in
    let place : delivered_before ran p.n a ≡ delivered_before ran q.n b =
    p.place
    ∙ (ap (λ (l : Lane). put_before l p.k (fed_puts ran.setup.job rows 0 ran.feeds)) lane ∙ (ap (λ k. put_before q.lane k (fed_puts ran.setup.job rows 0 ran.feeds)) k ∙ sym q.place)) in
    let here : delivered_before ran p.n a ≡ length (shown ran.setup p.n (take b.entry (journal_of ran a.worker))) =
    place ∙ (ap (λ n. delivered_before ran n b) (sym number) ∙ ap (λ w. length (shown ran.setup p.n (take b.entry (journal_of ran w)))) (sym worker)) in
    let met : slice_get (journal_of ran a.worker) b.entry ≡ Some (entry.Met p.n q.tuple) =
    subst (λ w. slice_get (journal_of ran w) b.entry ≡ Some (entry.Met p.n q.tuple)) (sym worker)
    (subst (λ n. slice_get (journal_of ran b.worker) b.entry ≡ Some (entry.Met n q.tuple)) (sym number) q.met) in
    same_address a b worker
    (flat_map_same (came_in ran.setup p.n) (journal_of ran a.worker) a.entry b.entry (entry.Met p.n p.tuple) (entry.Met p.n q.tuple) p.met met
    (came_in_some ran.setup p.n p.tuple) (came_in_some ran.setup p.n q.tuple) here)

-- ---- where an entry came from

-- an entry of the lane's sender
pub record Parent (ran : Ran) (c : Address) (node : ℕ) : Type 0 where
  pub parent : Address
  pub child : Child ran parent c
  pub stands : Stands ran.setup node parent.worker

pub met_there : (setup : SetupView) (n i : ℕ) (t : Tuple) (journal : List Entry) → slice_get journal i ≡ Some (entry.Met n t)
    → slice_get (shown setup n journal) (length (shown setup n (take i journal))) ≡ Some (item.Carry t)
met_there setup n i t journal g =
    let h : slice_get (came_in setup n (entry.Met n t)) 0 ≡ Some (item.Carry t) = rw (eq-eqb n n refl) refl in
    let k = flat_map_get (came_in setup n) journal i 0 (entry.Met n t) (item.Carry t) g h in
    let e : length (shown setup n (take i journal)) + 0 ≡ length (shown setup n (take i journal)) = omega arith in
    rw e at k

module _ (rows : List Row) (ran : Ran) (g : Running rows ran) where
  from_feeder : (c : Address) (n : ℕ) (t : Tuple) → HasWorker ran c.worker → slice_get (journal_of ran c.worker) c.entry ≡ Some (entry.Met n t)
      → (k : LaneIn ran.setup.job (worker_no ran.setup c.worker) n) → k.lane.sender ≡ None → Root rows ran c
  from_feeder c n t lt met k none =
      let h : slice_get (fed ran.setup.job rows 0 k.lane ran.feeds ++ item.Last ∷ []) (delivered_before ran n c) ≡ Some (item.Carry t) =
      subst (λ (xs : List Item). slice_get xs (delivered_before ran n c) ≡ Some (item.Carry t)) (fed_there rows ran g n c.worker lt k none) (met_there ran.setup n c.entry t (journal_of ran c.worker) met) in
      elim (get_append (fed ran.setup.job rows 0 k.lane ran.feeds) (item.Last ∷ []) (delivered_before ran n c) (item.Carry t) h) [
        | inl a ↦
            let r : IsKeptFrom (item_on k.lane) (fed_puts ran.setup.job rows 0 ran.feeds) (delivered_before ran n c) (item.Carry t) =
            filter_map_place (item_on k.lane) (fed_puts ran.setup.job rows 0 ran.feeds) (delivered_before ran n c) (item.Carry t) a in
            let o = on_lane k.lane r.x (item.Carry t) r.is in
            record {
              n = n;
              lane = k.lane;
              numbered = k.numbered;
              receiver = k.receiver ∙ (worker_is ran.setup c.worker lt).0;
              tuple = t;
              met = met;
              k = r.i;
              put = r.x;
              put_is = r.there;
              on = o.0;
              carries = o.1;
              place = r.place;
            }
        | inr b ↦ absurd (no_tuple b.0 b.2)
      ]
    where
      no_tuple : (i : ℕ) → ¬ (slice_get (item.Last ∷ []) i ≡ Some (item.Carry t))
      no_tuple zero e = cc
      no_tuple (suc i) e = cc

  from_worker : (c : Address) (n : ℕ) (t : Tuple) → HasWorker ran c.worker → slice_get (journal_of ran c.worker) c.entry ≡ Some (entry.Met n t)
      → (k : LaneIn ran.setup.job (worker_no ran.setup c.worker) n) → (s : ℕ) → k.lane.sender ≡ Some s → Stands ran.setup k.edge.from s → Parent ran c k.edge.from
  from_worker c n t lt met k s some there =
      let same : shown ran.setup n (journal_of ran c.worker) ≡ flat_map (put_then ran.setup (worker_no ran.setup s) k.lane) (story_of ran s) =
      sent_there rows ran g n c.worker s lt there.within k some ∙ sent-story ran.setup (worker_no ran.setup s) (begun ran.setup s) k.lane (journal_of ran s) in
      let f : IsFrom (put_then ran.setup (worker_no ran.setup s) k.lane) (story_of ran s) (delivered_before ran n c) (item.Carry t) =
      flat_map_place (put_then ran.setup (worker_no ran.setup s) k.lane) (story_of ran s) (delivered_before ran n c) (item.Carry t)
      (subst (λ (xs : List Item). slice_get xs (delivered_before ran n c) ≡ Some (item.Carry t)) same (met_there ran.setup n c.entry t (journal_of ran c.worker) met)) in
      let r : IsKeptFrom (item_on k.lane) (puts_of ran s f.x) f.within (item.Carry t) = filter_map_place (item_on k.lane) (puts_of ran s f.x) f.within (item.Carry t) f.is in
      let o = on_lane k.lane r.x (item.Carry t) r.is in
      let edge : HasEdge ran.setup.job.edges (worker_no ran.setup s).node (worker_no ran.setup c.worker).node =
      subst (λ v. HasEdge ran.setup.job.edges v (worker_no ran.setup c.worker).node) (sym there.node_is)
      (subst (λ v. HasEdge ran.setup.job.edges k.edge.from v) k.to (HasEdge-at ran.setup.job.edges k.lane.edge k.edge k.edge_is)) in
      let sent : ℕ = sent_before ran k.lane (record { worker = s; entry = f.i }) in
      let place : delivered_before ran n c ≡ sent + put_before k.lane r.i (puts_of ran s f.x) = omega (arith, f.place, r.place) in
      record {
        parent = record { worker = s; entry = f.i };
        child = record {
          within = there.within;
          n = n;
          lane = k.lane;
          numbered = k.numbered;
          receiver = k.receiver ∙ (worker_is ran.setup c.worker lt).0;
          edge = edge;
          tuple = t;
          met = met;
          moment = f.x;
          there = f.there;
          k = r.i;
          put = r.x;
          put_is = r.there;
          on = o.0;
          carries = o.1;
          place = place;
        };
        stands = there;
      }

  -- the lane by which an entry met its tuple
  pub lane_of_met : (c : Address) (t : Tuple) → HasWorker ran c.worker → (m : Meets ran c t) → LaneIn ran.setup.job (worker_no ran.setup c.worker) m.0
  lane_of_met c t lt m =
      lane_in ran.setup.job (worker_no ran.setup c.worker) m.0 (worker_is ran.setup c.worker lt).1
      (met_on_lane (duties_of ran c.worker) (start_of ran c.worker) (journal_of ran c.worker) m.0 t
      (execution rows ran g c.worker lt) (in_of_place (entry.Met m.0 t) (journal_of ran c.worker) c.entry m.1))

  -- an entry comes from the feeder, or from an entry of the sender
  pub came_from : (c : Address) (t : Tuple) → (lt : HasWorker ran c.worker) → (m : Meets ran c t) → Root rows ran c ⊎ Parent ran c (lane_of_met c t lt m).edge.from
  came_from c t lt m = go (lane_of_met c t lt m)
    where
      go : (k : LaneIn ran.setup.job (worker_no ran.setup c.worker) m.0) → Root rows ran c ⊎ Parent ran c k.edge.from
      go k =
          elim (sender_of rows ran g k.edge.from k.lane.sender k.sends) [
            | inl fed ↦ inl (from_feeder c m.0 t lt m.1 k fed.0)
            | inr s ↦ inr (from_worker c m.0 t lt m.1 k s.0 s.1 s.2)
          ]

-- the root of an entry, and the chain from there
pub record Rooted (rows : List Row) (ran : Ran) (c : Address) : Type 0 where
  pub at : Address
  pub root : Root rows ran at
  pub chain : List Address
  pub down : IsChain ran at chain c

rooted_below : (rows : List Row) (ran : Ran) (g : Running rows ran) (bound : ℕ) (c : Address) (t : Tuple) → HasWorker ran c.worker → g.connected.rank (worker_no ran.setup c.worker).node < bound
    → Meets ran c t → Rooted rows ran c
rooted_below rows ran g zero c t l lt m = absurd (omega arith)
rooted_below rows ran g (suc bound) c t l lt m =
    let k : LaneIn ran.setup.job (worker_no ran.setup c.worker) m.0 = lane_of_met rows ran g c t l m in
    let up : g.connected.rank k.edge.from < g.connected.rank k.edge.to = g.connected.forward k.lane.edge k.edge k.edge_is in
    let here : g.connected.rank k.edge.to ≡ g.connected.rank (worker_no ran.setup c.worker).node = ap g.connected.rank k.to in
    elim (came_from rows ran g c t l m) [
      | inl r ↦ record { at = c; root = r; chain = []; down = refl }
      | inr q ↦
          let e : g.connected.rank (worker_no ran.setup q.parent.worker).node ≡ g.connected.rank k.edge.from = ap g.connected.rank q.stands.node_is in
          let b : Born ran q.parent c q.child = born ran q.parent c q.child in
          let r : Rooted rows ran q.parent = rooted_below rows ran g bound q.parent b.tuple q.stands.within (omega arith) b.meets in
          record { at = r.at; root = r.root; chain = r.chain ++ c ∷ []; down = chain_push ran r.at q.parent c r.chain r.down q.child }
    ]

pub rooted : (rows : List Row) (ran : Ran) (g : Running rows ran) (c : Address) (t : Tuple) → HasWorker ran c.worker → Meets ran c t → Rooted rows ran c
rooted rows ran g c t l m = rooted_below rows ran g (suc (g.connected.rank (worker_no ran.setup c.worker).node)) c t l (omega arith) m
