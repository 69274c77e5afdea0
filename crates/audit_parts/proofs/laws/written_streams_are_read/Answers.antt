use Rattle.audit_parts.proofs.StreamLemmas.{streams_read}
use Rattle.audit_parts.proofs.laws.written_streams_are_read.Goals as goal

pub returns : goal.returns
returns c job parts all = streams_read job parts all
