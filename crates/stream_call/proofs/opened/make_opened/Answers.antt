use Rattle.std.proofs.lemmas.Result.{IfOk-weaker}
use Rattle.stream_call.proofs.opened.make_opened.Goals as goal

pub returns-clause-unread : goal.returns-clause-unread
returns-clause-unread c =
    IfOk-weaker c.boxed.result _ _ (λ opened is job. rw is (c.after.ensures.read job))
    c.boxed.ensures
