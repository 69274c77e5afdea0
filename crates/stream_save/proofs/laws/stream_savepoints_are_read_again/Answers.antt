use Rattle.flow_model.specs.Setup.{setup_view}
use Rattle.stream_save.proofs.LawLemmas.{stream-reads}
use Rattle.stream_save.proofs.laws.stream_savepoints_are_read_again.Goals as goal

pub returns : goal.returns
returns c save can = stream-reads (setup_view c.args.setup.now).job save c.args.setup.now.job.lawful can
