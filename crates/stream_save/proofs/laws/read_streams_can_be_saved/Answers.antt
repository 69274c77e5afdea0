use Rattle.flow_model.specs.Setup.{setup_view}
use Rattle.stream_save.proofs.BackLemmas.{stream-can-save}
use Rattle.stream_save.proofs.laws.read_streams_can_be_saved.Goals as goal

pub returns : goal.returns
returns c bytes save is = stream-can-save (setup_view c.args.setup.now).job save bytes is
