use Rattle.std.proofs.Common.{rules}
use Rattle.flow_model.specs.Setup.{setup_view}
use Rattle.audit_laws.specs.Fits.{csv_records}
use Rattle.audit_restore.proofs.PartLemmas.{bare, first_fault}
use Rattle.audit_restore.proofs.part.read_part.Goals as goal

pub returns-in_err-told-clause-fault : goal.returns-in_err-told-clause-fault
returns-in_err-told-clause-fault c =
    let begin = c.args.start.now in
    let refused = c.args.refused.now in
    let rows = c.args.rows.now in
    let fault =
    first_fault begin (setup_view c.args.setup.now) c.args.setup.now.job.dag.order refused rows (csv_records c.args.bytes.now) c.in_err-told.field-0.0
    (c.in_err-told.ensures.fault begin refused rows) (c.in_err-told.ensures.fault (bare begin) refused rows) in
    search (rules, fault)

pub read_feed-requires : goal.read_feed-requires
read_feed-requires c = let (lines, s, tells) = c.in_ok-told.ensures.ok in (lines, s)

pub returns-clause-lines : goal.returns-clause-lines
returns-clause-lines c =
    let (lines, s, tells) = c.in_ok-told.ensures.ok in
    let told = c.in_ok-feeds.ensures.lines lines s in
    (lines, s, told.0, told.1, tells)
