use Rattle.std.proofs.Common.{rules}
use Rattle.audit_check.proofs.text.check_text.Goals as goal

pub returns-in_err-told-clause-fault : goal.returns-in_err-told-clause-fault
returns-in_err-told-clause-fault c =
    let fault = c.in_err-told.ensures.fault c.args.start.now c.args.refused.now c.args.rows.now in
    search (rules, fault)

pub checked_feed-requires : goal.checked_feed-requires
checked_feed-requires c = let (lines, s, tells) = c.in_ok-told.ensures.ok in (lines, s)

pub returns-clause-lines : goal.returns-clause-lines
returns-clause-lines c =
    let (lines, s, tells) = c.in_ok-told.ensures.ok in
    let told = c.in_ok-feeds.ensures.lines lines s in
    (lines, s, told.0, told.1, tells)
