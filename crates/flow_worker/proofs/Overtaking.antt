-- A poll that shows the due of a head is followed by its turn, before any tuple.
use Rattle.std.proofs.Common.{◌≡◌, ◌∙◌, ◌⊎◌, inl, inr, ℕ, ◌<◌, ◌≤◌, List, [], ◌∷◌, ◌++◌, true, length, refl, sym, ap, subst, arith, All, Contains, Option, Some, append_assoc}
use Rattle.std.specs.Prelude.{IfSome}
use Rattle.std.proofs.lemmas.List.Elements.{All-contains}
use Rattle.flow_dag.specs.Masks.{has}
use Rattle.marker_align.specs.declared.decision.Due.{Due}
use Rattle.sink_journal.specs.declared.journal.Entry.{Entry}
use Rattle.sink_journal.specs.declared.journal.Entry.TheVariants.{Met, Turned}
use Rattle.tuple_trace.specs.declared.tuple.Tuple.{Tuple}
use Rattle.flow_model.specs.Begin.{Begin}
use Rattle.flow_model.specs.Dues.{IsDueOf}
use Rattle.flow_model.specs.Planned.{IsPlanned}
use Rattle.flow_model.specs.Points.{turned}
use Rattle.flow_model.specs.SetupView.{SetupView}
use Rattle.flow_model.proofs.ElementLemmas.{IsIn, contains_of_in, in_of_contains, in_right}
use Rattle.flow_worker.specs.Pairs.{EachOne}
use Rattle.flow_worker.specs.Steps.{marked_entries}
use Rattle.flow_worker.specs.Worker.{IsWorker, WorkerIs, edges_of}
use Rattle.flow_worker.specs.Turning.{AreTurns, GrowsByOneAct, IsAsBefore, IsFromOneAct, IsTurn, Polled, TurnsNext, added}
use Rattle.flow_worker.specs.declared.worker.Turn as turn_type
use Rattle.flow_worker.specs.declared.worker.Turn.TheVariants as turn
use Rattle.flow_worker.proofs.Pairs.{each_map}
use Rattle.flow_worker.proofs.ActLemmas.{added_is, marked_none, no_turned_ends}
use Rattle.flow_worker.proofs.Acting.{head_places}

abbrev Grew : WorkerIs → WorkerIs → Type 0
Grew w v = (new : List Entry) × (v.journal ≡ w.journal ++ new)

turns_grow : (setup : SetupView) (w : WorkerIs) (later : List WorkerIs) → AreTurns setup w later → EachOne (Grew w) later
turns_grow setup w [] t = tt
turns_grow setup w (v ∷ later) t =
    let g = t.0.1.grows in
    ((g.0, g.1), each_map (Grew v) (Grew w) later (λ u k. (g.0 ++ k.0, k.1 ∙ (ap (λ xs. xs ++ k.0) g.1 ∙ append_assoc w.journal g.0 k.0))) (turns_grow setup v later t.1))

-- a head has no marker to note
turn_alone : (setup : SetupView) (begin : Begin) (w v : WorkerIs) (due : Due) → ∥ IsPlanned setup ∥₁ → IsWorker setup begin w → w.due ≡ Some due → due.head ≡ true → GrowsByOneAct w v
    → Contains (added w v) (Turned due.request) → v.journal ≡ w.journal ++ Turned due.request ∷ []
turn_alone setup begin w v due planned h e head g c = go g.0 g.1 (subst (IsIn (Turned due.request)) (added_is w v g.0 g.1) (in_of_contains (Turned due.request) (added w v) c)) g.2
  where
    its : IsDueOf setup w.node (edges_of w.ins) due
    its = subst (λ (o : Option Due). IfSome o (IsDueOf setup w.node (edges_of w.ins))) e h.due.due_is

    none : marked_entries due.lanes due.request 0 w.ins ≡ []
    none = marked_none due.lanes due.request 0 w.ins (λ k a at b. head_places setup h.who w due planned h.placed its head k a at (subst (λ m. has due.lanes m ≡ true) (omega arith) b))

    not_met : (lane : ℕ) (tuple : Tuple) → IsIn (Turned due.request) (Met lane tuple ∷ []) → ⊥
    not_met lane tuple (inl q) = cc
    not_met lane tuple (inr q) = q

    go : (new : List Entry) → v.journal ≡ w.journal ++ new → IsIn (Turned due.request) new → IsFromOneAct w new → v.journal ≡ w.journal ++ Turned due.request ∷ []
    go new j i (inl q) = absurd (subst (IsIn (Turned due.request)) q i)
    go new j i (inr (inl q)) = absurd (not_met q.0 q.1 (subst (IsIn (Turned due.request)) q.2 i))
    go new j i (inr (inr (inl q))) =
        let x : w.due ≡ Some q.0 = q.1 in
        let same : q.0 ≡ due = cc in
        let alone : new ≡ Turned due.request ∷ [] = q.2 ∙ (ap (λ (d : Due). marked_entries d.lanes d.request 0 w.ins ++ Turned d.request ∷ []) same ∙ ap (λ xs. xs ++ Turned due.request ∷ []) none) in
        j ∙ ap (λ xs. w.journal ++ xs) alone
    go new j i (inr (inr (inr q))) = absurd (no_turned_ends due.request w.ins (subst (IsIn (Turned due.request)) q i))

turned_then : (setup : SetupView) (w v : WorkerIs) (later : List WorkerIs) (r : ℕ) → AreTurns setup v later → v.journal ≡ w.journal ++ Turned r ∷ [] → EachOne (TurnsNext r w) (v ∷ later)
turned_then setup w v later r t e =
    (inr ([], e), each_map (Grew v) (TurnsNext r w) later (λ u k. inr (k.0, k.1 ∙ (ap (λ xs. xs ++ k.0) e ∙ append_assoc w.journal (Turned r ∷ []) k.0))) (turns_grow setup v later t))

module _ (setup : SetupView) (planned : ∥ IsPlanned setup ∥₁) (begin : Begin) where
  after_turn : (w v : WorkerIs) (later : List WorkerIs) (n : ℕ) (due : Due) (result : turn_type.Turn) → IsWorker setup begin w → IsTurn setup result w v → AreTurns setup v later
      → Polled w v n → w.due ≡ Some due → due.head ≡ true → w.owner.turned < n → (IsAsBefore w v → EachOne (TurnsNext due.request v) later) → EachOne (TurnsNext due.request w) (v ∷ later)
  after_turn w v later n due turn.NoMemory h t more p e head l starved =
      let same = t.cause.journal in (
        inl same,
        each_map (TurnsNext due.request v) (TurnsNext due.request w) later
            (λ u k. subst (λ (xs : List Entry). (u.journal ≡ xs) ⊎ ((new : List Entry) × (u.journal ≡ xs ++ Turned due.request ∷ new))) same k) (starved t.cause),
      )
  after_turn w v later n due turn.Moved h t more p e head l starved =
      turned_then setup w v later due.request more (turn_alone setup begin w v due planned h e head t.grows (t.at_post (λ q. cc) n due p e head l))
  after_turn w v later n due turn.Idle h t more p e head l starved =
      turned_then setup w v later due.request more (turn_alone setup begin w v due planned h e head t.grows (t.at_post (λ q. cc) n due p e head l))
  after_turn w v later n due turn.Done h t more p e head l starved =
      turned_then setup w v later due.request more (turn_alone setup begin w v due planned h e head t.grows (t.at_post (λ q. cc) n due p e head l))

  -- what was polled never falls, so it shows the due at the next turn too
  still_shown : (w v : WorkerIs) (n m : ℕ) → IsWorker setup begin w → IsWorker setup begin v → v.journal ≡ w.journal → Polled w v n → All (λ poll. poll ≤ m) v.owner.polls → w.owner.turned < n → v.owner.turned < m
  still_shown w v n m h k same p rises l =
      let in_polls : IsIn n v.owner.polls = subst (IsIn n) (sym p) (in_right n w.owner.polls (n ∷ []) (inl refl)) in
      let risen : n ≤ m = All-contains (λ poll. poll ≤ m) v.owner.polls n rises (contains_of_in n v.owner.polls in_polls) in
      let acknowledged : v.owner.turned ≡ w.owner.turned = k.turned_is ∙ (ap (λ (xs : List Entry). length (turned xs)) same ∙ sym h.turned_is) in
      omega (arith, l, risen, acknowledged)

  pub turns_next : (w v : WorkerIs) (later : List WorkerIs) (n : ℕ) (due : Due) → IsWorker setup begin w → AreTurns setup w (v ∷ later)
      → Polled w v n → w.due ≡ Some due → due.head ≡ true → w.owner.turned < n → EachOne (TurnsNext due.request w) (v ∷ later)
  turns_next w v [] n due h t p e head l = after_turn w v [] n due t.0.0 h t.0.1 t.1 p e head l (λ b. tt)
  turns_next w v (u ∷ later) n due h t p e head l =
      after_turn w v (u ∷ later) n due t.0.0 h t.0.1 t.1 p e head l
      (λ b.
      let k : IsWorker setup begin v = t.0.1.law begin h in
      let m = t.1.0.1.polls.1 b.unclosed in
      turns_next v u later m.0 due k t.1 m.1 (b.due ∙ e) head (still_shown w v n m.0 h k b.journal p m.2 l))
