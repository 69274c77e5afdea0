use Rattle.std.proofs.lemmas.Result.{IfOk-at_ok}
use Rattle.test_streams.proofs.tests.intake.saved.Goals as goal

pub returns : goal.returns
returns g c = c.read_streams_can_be_saved.ensures _ c.expect-save.result
    (IfOk-at_ok _ c.expect-save.ensures c.read_stream.ensures.ok)
