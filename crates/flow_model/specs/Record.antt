-- Records as code has them.
use Rattle.flow_model.specs.declared.record.RunRecord.{RunRecord}
use Rattle.flow_model.specs.Run.{Ran, ran_as}
use Rattle.flow_model.specs.Setup.{setup_view}

-- a record, as the definitions see it
abbrev pub record_view : RunRecord → Ran
record_view ran = ran_as (setup_view ran.setup) ran.feeds ran.journals ran.states
