use Rattle.audit_check.proofs.feed.check_feed.Goals as goal

pub check_records-requires : goal.check_records-requires
check_records-requires c = rw c.of-records.ensures c.requires

pub returns-clause-ok : goal.returns-clause-ok
returns-clause-ok c = rw c.of-records.ensures at c.check_records.ensures.ok

pub returns-clause-fault : goal.returns-clause-fault
returns-clause-fault c = rw c.of-records.ensures at c.check_records.ensures.fault
