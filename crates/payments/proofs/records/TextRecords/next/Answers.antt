use Rattle.csv.specs.Records.{fields_of}
use Rattle.payments.proofs.RecordLemmas.{AreUnread-read, IfOk-map_err, unread_of-next}
use Rattle.payments.proofs.records.TextRecords.next.Goals as goal

pub invariant_of-self : goal.invariant_of-self
invariant_of-self c =
    let read = c.read_byte_record.ensures in
    AreUnread-read c.self.inside.reader c.read_byte_record.new.self (fields_of c.read_byte_record.new.row) c.read_byte_record.result c.self.invariant read.failed read.reads read.ready read.goes read.fails read.goes_on

pub returns : goal.returns
returns c =
    let read = c.read_byte_record.ensures in
    let next = unread_of-next c.self.inside.reader c.read_byte_record.new.self (fields_of c.read_byte_record.new.row) c.read_byte_record.result c.self.invariant read.failed read.reads in
    IfOk-map_err c.read_byte_record.result c.map_err.result _ _ c.map_err.ensures.cases (rw (← c.self.view_is) next)
