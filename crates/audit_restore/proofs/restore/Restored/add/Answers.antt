use Rattle.std.proofs.Common.{◌∙◌, List, ap, map}
use Rattle.std.specs.Prelude.{slice_set}
use Rattle.sink_journal.specs.declared.journal.Entry.{Entry}
use Rattle.tuple_trace.specs.declared.tuple.Item.{Item}
use Rattle.flow_model.specs.Lanes.{lanes_out}
use Rattle.flow_model.specs.Replay.{items_sent}
use Rattle.flow_model.specs.Run.{final_counts}
use Rattle.flow_model.specs.Setup.{setup_view}
use Rattle.flow_model.specs.Workers.{nth_worker}
use Rattle.flow_model.specs.declared.topology.Lane.{Lane}
use Rattle.flow_model.proofs.WorkerPlaces.{worker_at}
use Rattle.flow_replay.specs.Sent.{begun_counts, begun_view}
use Rattle.audit_restore.proofs.restore.Restored.add.Goals as goal

pub returns : goal.returns
returns c =
    let setup = setup_view c.args.who.setup.now in
    let w = c.args.who.number in
    let begin = c.args.start.now in
    let who = nth_worker setup.job w in
    let made : List Entry = c.in_ok-journal.journal in
    let made_is = c.in_ok-journal.ensures.journal in
    let on : Lane → List Item = λ lane. items_sent setup who (begun_view setup begin w) lane made in
    let number = (worker_at setup.job w c.args.who.there).0 in
    let sends = c.send.ensures on (c.in_ok-state.ensures.sent ∙ ap (λ v. map on (lanes_out setup.job v)) number) in
    record {
      journals = c.set.ensures ∙ ap (slice_set c.args.self.now.journals w) made_is;
      states =
          c.set-2.ensures
          ∙ ap (slice_set c.args.self.now.states w)
          (c.in_ok-state.ensures.state ∙ ap (λ (l : List Entry). final_counts setup begin who (begun_counts begin w) l) made_is);
      long = sends.long ∙ c.in_ok-journal.ensures.left.long;
      out = λ n lane g e. sends.out n lane g e ∙ ap (λ (l : List Entry). items_sent setup who (begun_view setup begin w) lane l) made_is;
      others = λ n lane g ne. sends.others n lane g ne ∙ c.in_ok-journal.ensures.left.left n;
    }
