use Rattle.std.proofs.Common.{◌≡◌, ◌∙◌, ◌+◌, ◌==◌, ◌++◌, ℕ, [], List, Vec, true, false, filter, flat_map, length, map, inl, inr, refl, sym, ap, subst}
use Rattle.std.specs.Vec.{with_items}
use Rattle.std.specs.Global.{Global}
use Rattle.std.proofs.lemmas.Bool.{eq-eqb}
use Rattle.std.proofs.lemmas.Bool.Decides.{eqb_tells}
use Rattle.std.proofs.lemmas.List.{with_items_is}
use Rattle.jobs.specs.JobView.{JobView}
use Rattle.operators.specs.declared.output.Output.{Output}
use Rattle.sink_journal.specs.declared.journal.Entry.{Entry}
use Rattle.sink_journal.specs.declared.journal.Entry.TheVariants as entry
use Rattle.tuple_trace.specs.declared.tuple.Item.{Item}
use Rattle.tuple_trace.specs.declared.tuple.Item.TheVariants as item
use Rattle.flow_model.specs.Covers.{covers_edge}
use Rattle.flow_model.specs.Lanes.{lanes_in, lanes_out, out_numbers}
use Rattle.flow_model.specs.declared.topology.Lane.{Lane}
use Rattle.flow_model.specs.declared.worker_state.WorkerState.{WorkerState}
use Rattle.flow_model.specs.Replay.{Put, marker, put_on_each, put_out, puts}
use Rattle.flow_model.specs.Setup.{setup_view}
use Rattle.flow_model.specs.WorkerState.{IsWorkerAt, made}
use Rattle.flow_model.specs.Workers.{nth_worker}
use Rattle.flow_model.proofs.WorkerPlaces.{worker_at}
use Rattle.flow_replay.specs.declared.replaying.Replaying.{Replaying}
use Rattle.flow_replay.specs.inner.Replays.{IsEntered, replay_view, with_puts}
use Rattle.flow_replay.proofs.EntryLemmas.{entered}
use Rattle.flow_replay.proofs.ListLemmas.{ends_on, length-out, length-with_puts, markers_on, numbers-are, with_puts-same}
use Rattle.flow_replay.proofs.replaying.Replaying.enter.Goals as goal

-- a vector that was written through its slice, with lists as many as before
kept : (job : JobView) (w : ℕ) (puts : List Put) (old : Vec (List Item) Global)
    (slice now : List (List Item)) → slice ≡ old.items → length slice ≡ old.len →
    length old.items ≡ length (out_numbers job w) →
    now ≡ with_puts (lanes_out job w) puts slice →
    (with_items old now).items ≡ with_puts (lanes_out job w) puts old.items
kept job w puts old slice now same len long is =
    let now_is : now ≡ with_puts (lanes_out job w) puts old.items =
    is ∙ ap (with_puts (lanes_out job w) puts) same in
    let longer = length-with_puts (lanes_out job w) puts old.items (long ∙ length-out job w) in
    with_items_is old now
    (ap length now_is ∙ (longer ∙ (sym (long ∙ length-out job w) ∙ (ap length (sym same) ∙ len))))
    ∙ now_is

pub returns-in-Marked : goal.returns-in-Marked
returns-in-Marked c =
    let setup = setup_view c.args.who.setup.now in
    let w = c.args.who.number in
    let who = nth_worker setup.job w in
    let old : Replaying = c.args.self.now in
    let slice = c.as_mut_slice-lists in
    let this = entry.Marked c.in-Marked.lane c.in-Marked.request in
    let new : Replaying = record {
      alloc = old.alloc;
      state = old.state;
      lists = with_items old.lists slice.result.now;
    } in
    let long : length slice.result.now ≡ length (lanes_out setup.job w) =
    ap length slice.ensures.value ∙ (c.requires.long ∙ length-out setup.job w) in
    subst (λ (e : Entry). IsEntered setup who e old new) (sym c.in-Marked.is)
    (entered setup who w this old new (worker_at setup.job w c.args.who.there).0 refl
    (kept setup.job w [] old.lists slice.result.now slice.result.now slice.ensures.value
    slice.ensures.len c.requires.long
    (sym (with_puts-same (lanes_out setup.job w) [] slice.result.now long (λ lane. refl)))))

pub returns-in_ok-send-in-Met : goal.returns-in_ok-send-in-Met
returns-in_ok-send-in-Met c =
    let setup = setup_view c.args.who.setup.now in
    let w = c.args.who.number in
    let who = nth_worker setup.job w in
    let old : Replaying = c.args.self.now in
    let slice = c.as_mut_slice-lists in
    let (number, worker) = worker_at setup.job w c.args.who.there in
    let at : IsWorkerAt setup.job c.worker_at-at.result who =
    record { there = worker.there; at_is = c.worker_at-at.ensures.at } in
    let this = entry.Met c.in-Met.lane c.in-Met.tuple in
    let new : Replaying = record {
      alloc = old.alloc;
      state = c.process.new.self;
      lists = with_items old.lists c.send.new.lists;
    } in
    let outs : List Output = made setup who (replay_view setup who old) c.in-Met.tuple in
    let outs_are : c.process.new.outs ≡ outs =
    c.in_ok-process-in-Met.ensures.outs who at
    ∙ ap (λ (o : List Output). o ++ outs) c.new-outs.ensures in
    subst (λ (e : Entry). IsEntered setup who e old new) (sym c.in-Met.is)
    (entered setup who w this old new number
    (c.in_ok-process-in-Met.ensures.state who at c.in-Met.lane)
    (kept setup.job w (map (put_out setup.job who) outs) old.lists slice.result.now
    c.send.new.lists slice.ensures.value slice.ensures.len c.requires.long
    (c.in_ok-send-in-Met.ensures
    ∙ ap (λ (o : List Output).
    with_puts (lanes_out setup.job w) (map (put_out setup.job who) o) slice.result.now)
    outs_are)))

pub returns-in_ok-mark-in-Turned : goal.returns-in_ok-mark-in-Turned
returns-in_ok-mark-in-Turned c =
    let setup = setup_view c.args.who.setup.now in
    let w = c.args.who.number in
    let who = nth_worker setup.job w in
    let old : Replaying = c.args.self.now in
    let slice = c.as_mut_slice-lists in
    let number = (worker_at setup.job w c.args.who.there).0 in
    let request = c.in-Turned.request in
    let new : Replaying = record {
      alloc = old.alloc;
      state = c.turn.new.self;
      lists = with_items old.lists c.mark.new.lists;
    } in
    let long : length slice.result.now ≡ length (lanes_out setup.job w) =
    ap length slice.ensures.value ∙ (c.requires.long ∙ length-out setup.job w) in
    let this = puts setup who (replay_view setup who old) (entry.Turned request) in
    subst (λ (e : Entry). IsEntered setup who e old new) (sym c.in-Turned.is)
    (entered setup who w (entry.Turned request) old new number
    (c.turn.ensures.view who (sym c.node.ensures.at))
    (kept setup.job w this old.lists slice.result.now c.mark.new.lists slice.ensures.value
    slice.ensures.len c.requires.long
    (c.in_ok-mark-in-Turned.ensures
    ∙ (markers_on setup w request (out_numbers setup.job w) slice.result.now
    (numbers-are setup.job w) long
    ∙ ap (λ (n : ℕ). with_puts (lanes_out setup.job w)
    (flat_map (λ mark. put_on_each mark
    (filter (λ (lane : Lane). covers_edge setup request lane.edge) (lanes_out setup.job n)))
    (marker setup request)) slice.result.now) (sym number)))))

differ : (a b : ℕ) → (a ≡ b → ⊥) → (a == b) ≡ false
differ a b ne = elim (eqb_tells a b) [ inl same ↦ absurd (ne same.1) | inr other ↦ other.0 ]

pub returns-in_ok-put_on-in-Ended : goal.returns-in_ok-put_on-in-Ended
returns-in_ok-put_on-in-Ended c =
    let setup = setup_view c.args.who.setup.now in
    let w = c.args.who.number in
    let who = nth_worker setup.job w in
    let old : Replaying = c.args.self.now in
    let slice = c.as_mut_slice-lists in
    let number = (worker_at setup.job w c.args.who.there).0 in
    let new : Replaying = record {
      alloc = old.alloc;
      state = c.end_lane.new.self;
      lists = with_items old.lists c.put_on.new.lists;
    } in
    let more : c.end_lane.new.self.ended ≡ old.state.ended + 1 =
    ap (λ (s : WorkerState). s.ended) c.end_lane.ensures.is in
    let last : (old.state.ended + 1 == length (lanes_in setup.job who.number)) ≡ true =
    eq-eqb (old.state.ended + 1) (length (lanes_in setup.job who.number))
    (sym more ∙ (c.if-self-lanes_in.true
    ∙ (ap length c.lanes_in.ensures ∙ ap (λ (n : ℕ). length (lanes_in setup.job n)) (sym number))))
    in
    let this : List Put = puts setup who (replay_view setup who old) (entry.Ended c.in-Ended.lane)
    in
    let ends : put_on_each item.Last (lanes_out setup.job w) ≡ this =
    rw last (ap (λ (n : ℕ). put_on_each item.Last (lanes_out setup.job n)) (sym number)) in
    subst (λ (e : Entry). IsEntered setup who e old new) (sym c.in-Ended.is)
    (entered setup who w (entry.Ended c.in-Ended.lane) old new number
    (c.end_lane.ensures.view setup who c.in-Ended.lane)
    (kept setup.job w this old.lists slice.result.now c.put_on.new.lists slice.ensures.value
    slice.ensures.len c.requires.long
    (c.in_ok-put_on-in-Ended.ensures
    ∙ (ends_on setup w (out_numbers setup.job w) slice.result.now (numbers-are setup.job w)
    ∙ ap (λ (x : List Put). with_puts (lanes_out setup.job w) x slice.result.now) ends))))

pub returns-else-self-lanes_in : goal.returns-else-self-lanes_in
returns-else-self-lanes_in c =
    let setup = setup_view c.args.who.setup.now in
    let w = c.args.who.number in
    let who = nth_worker setup.job w in
    let old : Replaying = c.args.self.now in
    let slice = c.as_mut_slice-lists in
    let number = (worker_at setup.job w c.args.who.there).0 in
    let new : Replaying = record {
      alloc = old.alloc;
      state = c.end_lane.new.self;
      lists = with_items old.lists slice.result.now;
    } in
    let more : c.end_lane.new.self.ended ≡ old.state.ended + 1 =
    ap (λ (s : WorkerState). s.ended) c.end_lane.ensures.is in
    let long : length slice.result.now ≡ length (lanes_out setup.job w) =
    ap length slice.ensures.value ∙ (c.requires.long ∙ length-out setup.job w) in
    let early : (old.state.ended + 1 == length (lanes_in setup.job who.number)) ≡ false =
    differ (old.state.ended + 1) (length (lanes_in setup.job who.number)) (λ e.
    c.if-self-lanes_in.false (more ∙ (e
    ∙ (ap (λ (n : ℕ). length (lanes_in setup.job n)) number
    ∙ sym (ap length c.lanes_in.ensures))))) in
    let this : List Put = puts setup who (replay_view setup who old) (entry.Ended c.in-Ended.lane)
    in
    let none : [] ≡ this = rw early refl in
    subst (λ (e : Entry). IsEntered setup who e old new) (sym c.in-Ended.is)
    (entered setup who w (entry.Ended c.in-Ended.lane) old new number
    (c.end_lane.ensures.view setup who c.in-Ended.lane)
    (kept setup.job w this old.lists slice.result.now slice.result.now slice.ensures.value
    slice.ensures.len c.requires.long
    (sym (with_puts-same (lanes_out setup.job w) [] slice.result.now long (λ lane. refl))
    ∙ ap (λ (x : List Put). with_puts (lanes_out setup.job w) x slice.result.now) none)))
