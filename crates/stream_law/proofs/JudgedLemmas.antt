-- Appended requests change nothing in how the earlier ones are judged.
use Rattle.std.proofs.Common.{◌+◌, ◌++◌, ℕ, List, [], ◌∷◌, refl, ap, Some, None, Option}
use Rattle.jobs.specs.JobView.{JobView}
use Rattle.versions.specs.Book.{accepted, first_book}
use Rattle.versions.specs.Judged.{accepting, by_fault, judged_from, judged_within, refusing}
use Rattle.versions.specs.Judging.{fault_within}
use Rattle.versions.specs.declared.book.Current.{Current}
use Rattle.versions.specs.declared.fault.QFault.{QFault}
use Rattle.versions.specs.declared.in_order.Refused.{Refused}
use Rattle.versions.specs.declared.request.Request.{Request}
use Rattle.stream_law.specs.Later.{IsJudgedPrefix}

prefix_from : (splits : Option ℕ) (job : JobView) (book : List Current) (last place : ℕ) (old new : List Request) → IsJudgedPrefix (judged_from splits job book last place old) (judged_from splits job book last place (old ++ new))
unfolding judged_from
prefix_from splits job book last place [] new = record {
  accepted = (judged_from splits job book last place new).accepted;
  refused = (judged_from splits job book last place new).refused;
  accepted_is = refl;
  refused_is = refl;
}
prefix_from splits job book last place (r ∷ rest) new =
    go (fault_within splits book job r last) (prefix_from splits job book last (place + 1) rest new) (prefix_from splits job (accepted book r.changes) r.after (place + 1) rest new)
  where
    go : (o : Option QFault)
        → IsJudgedPrefix (judged_from splits job book last (place + 1) rest) (judged_from splits job book last (place + 1) (rest ++ new))
        → IsJudgedPrefix (judged_from splits job (accepted book r.changes) r.after (place + 1) rest) (judged_from splits job (accepted book r.changes) r.after (place + 1) (rest ++ new))
        → IsJudgedPrefix
        (by_fault o (λ fault. refusing place fault (judged_from splits job book last (place + 1) rest)) (accepting r (judged_from splits job (accepted book r.changes) r.after (place + 1) rest)))
        (by_fault o (λ fault. refusing place fault (judged_from splits job book last (place + 1) (rest ++ new))) (accepting r (judged_from splits job (accepted book r.changes) r.after (place + 1) (rest ++ new))))
    go None a b = record {
      accepted = b.accepted;
      refused = b.refused;
      accepted_is = ap (λ (l : List Request). r ∷ l) b.accepted_is;
      refused_is = b.refused_is;
    }
    go (Some q) a b = record {
      accepted = a.accepted;
      refused = a.refused;
      accepted_is = a.accepted_is;
      refused_is = ap (λ (l : List Refused). (record { place = place; fault = q }) ∷ l) a.refused_is;
    }

pub judged_prefix : (splits : Option ℕ) (job : JobView) (old new : List Request) → IsJudgedPrefix (judged_within splits job old) (judged_within splits job (old ++ new))
judged_prefix splits job old new = prefix_from splits job (first_book job.nodes) 0 1 old new
