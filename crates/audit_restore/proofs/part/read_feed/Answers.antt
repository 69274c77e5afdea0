use Rattle.std.proofs.Common.{◌∙◌, rules}
use Rattle.flow_model.specs.Setup.{setup_view}
use Rattle.audit_laws.specs.Fits.{csv_records}
use Rattle.audit_restore.proofs.PartLemmas.{bare, first_fault}
use Rattle.audit_restore.proofs.part.read_feed.Goals as goal

pub returns-in_err-check_refused-clause-fault : goal.returns-in_err-check_refused-clause-fault
returns-in_err-check_refused-clause-fault c =
    let begin = c.args.start.now in
    let rows = c.args.rows.now in
    let fault =
    first_fault begin (setup_view c.args.setup.now) c.args.setup.now.job.dag.order c.args.refused.now rows (csv_records c.args.bytes.now) c.in_err-check_refused.field-0.0
    (c.in_err-check_refused.ensures.fault begin rows) (c.in_err-check_refused.ensures.fault (bare begin) rows) in
    search (rules, fault)

pub check_feed-requires : goal.check_feed-requires
check_feed-requires c =
    let s = c.requires in
    (s.0, s.1, c.in_ok-check_refused.ensures.ok s.0 s.1)

pub returns-clause-lines : goal.returns-clause-lines
returns-clause-lines c lines s =
    let same = c.in_ok-check_refused.ensures.ok lines s in
    (same, c.in_ok-check_feed.ensures.ok lines s same ∙ (c.as_slice.ensures ∙ c.in_ok-feeds.ensures))

pub returns-in_err-check_feed-clause-fault : goal.returns-in_err-check_feed-clause-fault
returns-in_err-check_feed-clause-fault c =
    let begin = c.args.start.now in
    let rows = c.args.rows.now in
    let wanted = c.as_slice.ensures ∙ c.in_ok-feeds.ensures in
    let fault =
    first_fault begin (setup_view c.args.setup.now) c.args.setup.now.job.dag.order c.args.refused.now rows (csv_records c.args.bytes.now) c.in_err-check_feed.field-0.0
    (c.in_err-check_feed.ensures.fault begin rows wanted) (c.in_err-check_feed.ensures.fault (bare begin) rows wanted) in
    search (rules, fault)
