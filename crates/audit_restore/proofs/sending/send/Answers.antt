use Rattle.std.proofs.Common.{◌∙◌, ◌+◌, ◌<◌, [], List, ap, arith, get_or, length, subst, sym, take}
use Rattle.std.proofs.lemmas.List.{length-set}
use Rattle.jobs.specs.Job.{job_view}
use Rattle.tuple_trace.specs.declared.tuple.Item.{Item}
use Rattle.audit_restore.proofs.SendingLemmas.{AreSent, all_sent_on, never_empty, number_within, sent_next}
use Rattle.audit_restore.proofs.StandingLemmas.{self_drop}
use Rattle.audit_restore.proofs.sending.send.Goals.{in-Some, in_default}
use Rattle.audit_restore.proofs.sending.send.Goals as goal

pub set-requires : goal.set-requires
set-requires c =
    let lt = number_within (job_view c.args.who.setup.now.job) c.args.who.number (λ lane. []) c.lanes_out-number-items.result.now c.lanes_out-number-items.ensures c.loop-number.number-index 0 c.loop-number-test.true in
    let long = c.loop-number.invariant.long in
    omega (arith, lt, long, c.requires)

pub loop-number-preserved : goal.loop-number-preserved
loop-number-preserved c =
    let job = job_view c.args.who.setup.now.job in
    let w = c.args.who.number in
    let numbers = c.lanes_out-number-items.result.now in
    let i = c.loop-number.number-index in
    let old = c.args.standing.now in
    let mid = c.loop-number.standing in
    let inv = c.loop-number.invariant in
    elim c.match-pop_front.branch [
      | in-Some b ↦
          let is = b.standing-is ∙ b.set.ensures in
          record {
            long = ap length is ∙ (length-set mid (get_or numbers i 0) b.in-Some.list ∙ inv.long);
            sent = λ on e.
                let both = inv.sent on e in
                let lt = number_within job w on numbers c.lanes_out-number-items.ensures i 0 c.loop-number-test.true in
                let here : get_or numbers i 0 < length mid = let long = inv.long in omega (arith, lt, long, c.requires) in
                let next = sent_next job w on numbers c.lanes_out-number-items.ensures i 0 c.loop-number-test.true old mid b.in-Some.list c.pop_front.new.self.items c.loop-number.lists.items both.0 here both.1
                b.in-Some.ensures.items in
                (subst (λ (s : List (List Item)). AreSent job on (take (i + 1) numbers) old s) (sym is) next.0, next.1);
          }
      | in_default b ↦ record {
        long = ap length b.standing-is ∙ inv.long;
        sent = λ on e.
            let both = inv.sent on e in
            let items = rw b.in_default.is at c.pop_front.ensures.items in
            absurd (never_empty job w on numbers c.lanes_out-number-items.ensures i 0 c.loop-number-test.true c.loop-number.lists.items both.1
            (self_drop c.loop-number.lists.items (items ∙ c.pop_front.ensures.rest)));
      }
    ]

pub returns : goal.returns
returns c on e =
    all_sent_on (job_view c.args.who.setup.now.job) c.args.who.number on c.lanes_out-number-items.result.now c.loop-number.number-index c.args.standing.now c.loop-number.standing
    c.lanes_out-number-items.ensures c.loop-number-test.false (c.loop-number.invariant.sent on e).0
