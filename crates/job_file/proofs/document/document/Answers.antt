use Rattle.std.proofs.Common.{rules}
use Rattle.job_file.proofs.DocumentLemmas.{document_of-NotToml, document_of-Ok}
use Rattle.job_file.proofs.document.document.Goals as goal

pub returns-in-Ok-clause-ok : goal.returns-in-Ok-clause-ok
returns-in-Ok-clause-ok c = document_of-Ok c.args.bytes.now _ c.in-Ok.ensures.ok.0 c.in-Ok.ensures.ok.1

pub returns-else-is_memory-clause-fault : goal.returns-else-is_memory-clause-fault
returns-else-is_memory-clause-fault c _ = document_of-NotToml c.args.bytes.now (c.in-Err.ensures.refused (search rules))
