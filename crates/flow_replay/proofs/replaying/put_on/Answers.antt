use Rattle.std.proofs.Common.{◌<◌, ◌∙◌, get_or, length, ap, arith}
use Rattle.std.proofs.lemmas.List.{length-set}
use Rattle.flow_model.specs.Setup.{setup_view}
use Rattle.flow_replay.specs.inner.Replays.{item_if, reaches}
use Rattle.flow_replay.proofs.ListLemmas.{number_there, with_item-more}
use Rattle.flow_replay.proofs.replaying.put_on.Goals as goal

pub is_reached-requires : goal.is_reached-requires
is_reached-requires c =
    number_there (setup_view c.args.who.setup.now).job c.args.who.number c.loop-place.place
    c.lanes_out-number-items.result.now c.lanes_out-number-items.ensures c.loop-place-test.true

pub loop-place-preserved : goal.loop-place-preserved
loop-place-preserved c = record {
  long =
      length-set c.loop-place.lists c.loop-place.place c.put_if.new.list
      ∙ c.loop-place.invariant.long;
  gained =
      let i = c.loop-place.place in
      let test = reaches (setup_view c.args.who.setup.now) c.args.sending.now.onto in
      let inside : i < length c.loop-place.lists =
      omega (arith, c.loop-place-test.true, c.loop-place.invariant.long) in
      with_item-more test c.args.sending.now.item c.lanes_out-number-items.result.now
      c.loop-place.lists i 0 c.index-lists-place.result c.put_if.new.list c.loop-place-test.true
      inside
      (c.in_ok-put_if.ensures ∙ ap (λ b. item_if b c.args.sending.now.item
      (get_or c.loop-place.lists i c.index-lists-place.result)) c.is_reached.ensures)
      ∙ c.loop-place.invariant.gained;
}
