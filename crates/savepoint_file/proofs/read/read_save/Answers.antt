use Rattle.savepoint_file.proofs.read.read_save.Goals as goal

pub returns-clause-ok : goal.returns-clause-ok
returns-clause-ok c = rw c.of-records.ensures at c.read_records.ensures.ok

pub returns-clause-fault : goal.returns-clause-fault
returns-clause-fault c = rw c.of-records.ensures at c.read_records.ensures.fault
