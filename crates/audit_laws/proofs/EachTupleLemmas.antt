-- What is true of every tuple that is fed, and that workers keep, is true of every tuple in journals that are tied to their senders.
use Rattle.std.proofs.Common.{◌≡◌, ◌∙◌, ◌<◌, ◌++◌, ◌==◌, ℕ, zero, suc, List, [], ◌∷◌, ◌⊎◌, inl, inr, sym, ap, subst, arith, Some, None, Option, slice_get}
use Rattle.std.proofs.lemmas.Bool.{eqb-true}
use Rattle.std.proofs.lemmas.Option.{same_Some}
use Rattle.keyed_state.specs.Counts.{Counts}
use Rattle.sink_journal.specs.declared.journal.Entry.{Entry}
use Rattle.sink_journal.specs.declared.journal.Entry.TheVariants as entry
use Rattle.tuple_trace.specs.declared.row.Row.{Row}
use Rattle.tuple_trace.specs.declared.tuple.Item.{Item}
use Rattle.tuple_trace.specs.declared.tuple.Item.TheVariants as item
use Rattle.tuple_trace.specs.declared.tuple.Tuple.{Tuple}
use Rattle.flow_model.specs.declared.topology.Lane.{Lane}
use Rattle.flow_model.specs.Begin.{Begin, view_at}
use Rattle.flow_model.specs.Feeding.{fed}
use Rattle.flow_model.specs.SetupView.{SetupView, Worker}
use Rattle.flow_model.specs.Replay.{came_in, items_sent, shown}
use Rattle.flow_model.specs.Run.{put_by, ran_as, sent_by}
use Rattle.flow_model.specs.Workers.{workers_in}
use Rattle.flow_model.proofs.AgreementLemmas.{met_shown}
use Rattle.flow_model.proofs.ElementLemmas.{IsIn, flat_map_in, in_cases}
use Rattle.flow_model.proofs.JobLemmas.{IsConnected}
use Rattle.flow_model.proofs.LaneLemmas.{LaneIn, in_lanes_that, lane_into}
use Rattle.flow_model.proofs.WorkerLemmas.{worker_with}
use Rattle.audit_laws.specs.Delivered.{feed_of}
use Rattle.audit_laws.proofs.ConservedLemmas.{IsConservedAt, sender_stands}

-- every tuple of a journal has the property
abbrev pub HasEach : (Tuple → Type 0) → List Entry → Type 0
HasEach P journal = (l : ℕ) (t : Tuple) → IsIn (entry.Met l t) journal → P t

-- a worker sends only tuples that have the property, if it meets only these
abbrev pub SendsEach : Begin → SetupView → (Tuple → Type 0) → Worker → List Entry → Type 0
SendsEach begin setup P who journal =
    HasEach P journal → (counts : Counts) (lane : Lane) (t : Tuple) → IsIn (item.Carry t) (items_sent setup who (view_at setup begin.turned who counts) lane journal) → P t

module _ (begin : Begin) (setup : SetupView) (connected : IsConnected setup.job) (rows : List Row) (journals : List (List Entry))
    (conserved : (w : ℕ) (who : Worker) → slice_get (workers_in setup.job) w ≡ Some who → IsConservedAt begin setup rows journals w) (P : Tuple → Type 0)
    (feeds_each : (lane : Lane) (t : Tuple) → IsIn (item.Carry t) (fed setup.job rows begin.turned lane (feed_of begin setup rows)) → P t)
    (sends_each : (w : ℕ) (who : Worker) (journal : List Entry) → slice_get (workers_in setup.job) w ≡ Some who → slice_get journals w ≡ Some journal → SendsEach begin setup P who journal)
  where
    abbrev Before : ℕ → Type 0
    Before bound = (s : ℕ) (sender : Worker) (journal : List Entry) → slice_get (workers_in setup.job) s ≡ Some sender → connected.rank sender.node < bound → slice_get journals s ≡ Some journal
        → HasEach P journal

    has_fed : (lane : Lane) (t : Tuple) → IsIn (item.Carry t) (fed setup.job rows begin.turned lane (feed_of begin setup rows) ++ item.Last ∷ []) → P t
    has_fed lane t i =
        elim (in_cases (item.Carry t) (fed setup.job rows begin.turned lane (feed_of begin setup rows)) (item.Last ∷ []) i) [
          | inl a ↦ feeds_each lane t a
          | inr (inl e) ↦ absurd (cc)
          | inr (inr n) ↦ absurd n
        ]

    by_counts : (lane : Lane) (items : List Item) (t : Tuple) (q : Worker) (journal : List Entry) (c : Option Counts)
        → slice_get (workers_in setup.job) q.number ≡ Some q → slice_get journals q.number ≡ Some journal → HasEach P journal
        → sent_by setup begin lane (Some q) c (Some journal) ≡ Some items → IsIn (item.Carry t) items → P t
    by_counts lane items t q journal None there j h e i = absurd (cc)
    by_counts lane items t q journal (Some counts) there j h e i =
        let s : items_sent setup q (view_at setup begin.turned q counts) lane journal ≡ items =
        same_Some (items_sent setup q (view_at setup begin.turned q counts) lane journal) items e in
        sends_each q.number q journal there j h counts lane t (subst (λ (l : List Item). IsIn (item.Carry t) l) (sym s) i)

    by_sender : (bound from : ℕ) (lane : Lane) (items : List Item) (t : Tuple) (o : Option ℕ) → Before bound
        → (o ≡ None) ⊎ ((who : Worker) × (o ≡ Some who.number) × (slice_get (workers_in setup.job) who.number ≡ Some who) × (who.node ≡ from))
        → put_by begin rows (ran_as setup (feed_of begin setup rows) journals []) lane o ≡ Some items → connected.rank from < bound → IsIn (item.Carry t) items → P t
    by_sender bound from lane items t o h (inl none) e lt i =
        let f : Some (fed setup.job rows begin.turned lane (feed_of begin setup rows) ++ item.Last ∷ []) ≡ Some items =
        subst (λ o. put_by begin rows (ran_as setup (feed_of begin setup rows) journals []) lane o ≡ Some items) none e in
        has_fed lane t (subst (λ (l : List Item). IsIn (item.Carry t) l) (sym (same_Some (fed setup.job rows begin.turned lane (feed_of begin setup rows) ++ item.Last ∷ []) items f)) i)
    by_sender bound from lane items t o h (inr (q, is, there, node)) e lt i =
        let y : IsConservedAt begin setup rows journals q.number = conserved q.number q there in
        let f : put_by begin rows (ran_as setup (feed_of begin setup rows) journals []) lane (Some q.number) ≡ Some items =
        subst (λ o. put_by begin rows (ran_as setup (feed_of begin setup rows) journals []) lane o ≡ Some items) is e in
        let g : sent_by setup begin lane (Some q) (slice_get begin.states q.number) (Some y.journal) ≡ Some items = rw (there, y.there) at f in
        by_counts lane items t q y.journal (slice_get begin.states q.number) there y.there
        (h q.number q y.journal there (subst (λ v. connected.rank v < bound) (sym node) lt) y.there) g i

    has_here : (bound w : ℕ) (who : Worker) (x : IsConservedAt begin setup rows journals w) → slice_get (workers_in setup.job) w ≡ Some who → connected.rank who.node < suc bound → Before bound
        → HasEach P x.journal
    has_here bound w who x p lt h l t i =
        let k = in_lanes_that (λ (lane : Lane). lane.receiver == w) setup.job l (x.met l t i) in
        let r : k.0.receiver ≡ w = eqb-true k.0.receiver w k.2 in
        let here = worker_with setup.job w who p in
        let n : LaneIn setup.job who l = lane_into setup.job who l k.0 here.1 k.1 (r ∙ sym here.0) in
        let one : k.0 ≡ n.lane = same_Some k.0 n.lane (sym k.1 ∙ n.numbered) in
        let up : connected.rank n.edge.from < connected.rank n.edge.to = connected.forward n.lane.edge n.edge n.edge_is in
        let to : connected.rank n.edge.to ≡ connected.rank who.node = ap connected.rank n.to in
        by_sender bound n.edge.from k.0 (shown setup l x.journal) t k.0.sender h
        (subst (λ o. (o ≡ None) ⊎ ((who : Worker) × (o ≡ Some who.number) × (slice_get (workers_in setup.job) who.number ≡ Some who) × (who.node ≡ n.edge.from))) (sym (ap (λ (l : Lane). l.sender) one))
        (sender_stands setup.job n.edge.from n.lane.sender n.sends))
        (x.conserved l k.0 k.1 r) (omega arith)
        (flat_map_in (came_in setup l) (entry.Met l t) (item.Carry t) x.journal i (met_shown setup l t))

    below : (bound : ℕ) → Before bound
    below zero w who journal p lt j = absurd (omega arith)
    below (suc bound) w who journal p lt j =
        let x : IsConservedAt begin setup rows journals w = conserved w who p in
        subst (HasEach P) (same_Some x.journal journal (sym x.there ∙ j)) (has_here bound w who x p lt (below bound))

    pub each_tuple : (w : ℕ) (who : Worker) (journal : List Entry) → slice_get (workers_in setup.job) w ≡ Some who → slice_get journals w ≡ Some journal → HasEach P journal
    each_tuple w who journal p j = below (suc (connected.rank who.node)) w who journal p (omega arith) j
