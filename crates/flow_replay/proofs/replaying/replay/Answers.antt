use Rattle.std.proofs.Common.{◌≡◌, ◌∙◌, ◌+◌, ◌++◌, ◌∷◌, [], ℕ, List, length, replicate, take, sym, ap, arith}
use Rattle.std.proofs.lemmas.List.{length-map, take_more}
use Rattle.sink_journal.specs.declared.journal.Entry.{Entry}
use Rattle.tuple_trace.specs.declared.tuple.Item.{Item}
use Rattle.flow_model.specs.Lanes.{lanes_out}
use Rattle.flow_model.specs.declared.topology.Lane.{Lane}
use Rattle.flow_model.specs.Replay.{StateView, items_sent}
use Rattle.flow_model.specs.Setup.{setup_view}
use Rattle.flow_model.specs.Workers.{nth_worker}
use Rattle.flow_model.proofs.WorkerPlaces.{worker_at}
use Rattle.flow_replay.specs.Sent.{begun_view}
use Rattle.flow_replay.proofs.EntryLemmas.{ended_grows, replayed_more, replayed_none}
use Rattle.flow_replay.proofs.ListLemmas.{length-out}
use Rattle.flow_replay.proofs.replaying.replay.Goals as goal

pub loop-entry-init : goal.loop-entry-init
loop-entry-init c =
    let setup = setup_view c.args.who.setup.now in
    let w = c.args.who.number in
    let who = nth_worker setup.job w in
    let number = (worker_at setup.job w c.args.who.there).0 in
    let view = begun_view setup c.args.start.now w in
    let begun = c.in_ok-replay.ensures in
    let lists =
    begun.lists_are ∙ ap (λ (n : ℕ). replicate {A = List Item} n [])
    (length-out setup.job w ∙ ap (λ (n : ℕ). length (lanes_out setup.job n)) (sym number)) in
    record {
      replayed = replayed_none setup who view c.in_ok-replay.replay begun.view_is lists;
      ended = let none = ap (λ (l : StateView). l.ended) begun.view_is in omega (arith, none);
    }

pub enter-requires-clause-long : goal.enter-requires-clause-long
enter-requires-clause-long c =
    let setup = setup_view c.args.who.setup.now in
    let w = c.args.who.number in
    let who = nth_worker setup.job w in
    let number = (worker_at setup.job w c.args.who.there).0 in
    ap length c.loop-entry.invariant.replayed.lists_are
    ∙ (length-map (lanes_out setup.job who.number) (λ (lane : Lane).
    items_sent setup who (begun_view setup c.args.start.now w) lane
    (take c.loop-entry.entry-index c.as_slice-entry-items.result.now))
    ∙ (ap (λ (n : ℕ). length (lanes_out setup.job n)) number ∙ sym (length-out setup.job w)))

pub loop-entry-preserved : goal.loop-entry-preserved
loop-entry-preserved c =
    let setup = setup_view c.args.who.setup.now in
    let who = nth_worker setup.job c.args.who.number in
    let view = begun_view setup c.args.start.now c.args.who.number in
    let items = c.as_slice-entry-items.result.now in
    let i = c.loop-entry.entry-index in
    let this : Entry = c.entry-item.result in
    let more : take (i + 1) items ≡ take i items ++ this ∷ [] =
    take_more items i this c.loop-entry-test.true
    ∙ ap (λ (x : Entry). take i items ++ x ∷ []) (sym c.entry-item.is) in
    let grown =
    ended_grows setup who this c.loop-entry.replay c.enter.new.self c.in_ok-enter.ensures in
    record {
      replayed = rw more (replayed_more setup who view (take i items) this c.loop-entry.replay
          c.enter.new.self c.loop-entry.invariant.replayed c.in_ok-enter.ensures);
      ended = omega (arith, grown, c.loop-entry.invariant.ended);
    }
