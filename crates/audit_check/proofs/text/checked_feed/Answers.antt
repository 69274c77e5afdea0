use Rattle.std.proofs.Common.{◌∙◌, rules}
use Rattle.audit_check.proofs.text.checked_feed.Goals as goal

pub returns-in_err-check_refused-clause-fault : goal.returns-in_err-check_refused-clause-fault
returns-in_err-check_refused-clause-fault c =
    let fault = c.in_err-check_refused.ensures.fault c.args.start.now c.args.rows.now in
    search (rules, fault)

pub check_feed-requires : goal.check_feed-requires
check_feed-requires c =
    let s = c.requires in
    (s.0, s.1, c.in_ok-check_refused.ensures.ok s.0 s.1)

pub returns-clause-lines : goal.returns-clause-lines
returns-clause-lines c lines s =
    let same = c.in_ok-check_refused.ensures.ok lines s in
    (same, c.in_ok-check_feed.ensures.ok lines s same ∙ (c.as_slice.ensures ∙ c.in_ok-feeds.ensures))

pub returns-in_err-check_feed-clause-fault : goal.returns-in_err-check_feed-clause-fault
returns-in_err-check_feed-clause-fault c =
    let fault = c.in_err-check_feed.ensures.fault c.args.start.now c.args.rows.now
    (c.as_slice.ensures ∙ c.in_ok-feeds.ensures) in
    search (rules, fault)
