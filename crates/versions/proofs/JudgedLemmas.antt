-- Judging on from the middle of a list.
use Rattle.std.proofs.Common.{◌≡◌, ◌≤◌, ◌+◌, ℕ, List, [], ◌∷◌, ◌++◌, length, drop, Option, Some, None, refl, sym, ap, ◌∙◌, append_assoc}
use Rattle.std.proofs.lemmas.List.{append-nil, drop_all}
use Rattle.jobs.specs.JobView.{JobView}
use Rattle.versions.specs.declared.book.Current.{Current}
use Rattle.versions.specs.declared.in_order.Bench.{Bench}
use Rattle.versions.specs.declared.in_order.Judged.{Judged}
use Rattle.versions.specs.declared.in_order.Refused.{Refused}
use Rattle.versions.specs.declared.request.Request.{Request}
use Rattle.versions.specs.declared.fault.QFault.{QFault}
use Rattle.versions.specs.Book.{accepted}
use Rattle.versions.specs.Judging.{fault_within}
use Rattle.versions.specs.Judged.{accepting, judged_from, refusing}
use Rattle.versions.specs.Young.{joined, judged_on}

joined-accepting : (a : List Request) (f : List Refused) (r : Request) (j : Judged) → joined a f (accepting r j) ≡ joined (a ++ r ∷ []) f j
joined-accepting a f r j = ap (λ (x : List Request). record { accepted = x; refused = f ++ j.refused }) (sym (append_assoc a (r ∷ []) j.accepted))

joined-refusing : (a : List Request) (f : List Refused) (place : ℕ) (q : QFault) (j : Judged) → joined a f (refusing place q j) ≡ joined a (f ++ (record { place = place; fault = q }) ∷ []) j
joined-refusing a f place q j = ap (λ (x : List Refused). record { accepted = a ++ j.accepted; refused = x }) (sym (append_assoc f ((record { place = place; fault = q }) ∷ []) j.refused))

judged_from-accepted : (splits : Option ℕ) (job : JobView) (book : List Current) (last place : ℕ) (r : Request) (rest : List Request) → fault_within splits book job r last ≡ None
    → judged_from splits job book last place (r ∷ rest) ≡ accepting r (judged_from splits job (accepted book r.changes) r.after (place + 1) rest)
unfolding judged_from
judged_from-accepted splits job book last place r rest free = rw free refl

judged_from-refused : (splits : Option ℕ) (job : JobView) (book : List Current) (last place : ℕ) (r : Request) (rest : List Request) (q : QFault) → fault_within splits book job r last ≡ Some q
    → judged_from splits job book last place (r ∷ rest) ≡ refusing place q (judged_from splits job book last (place + 1) rest)
unfolding judged_from
judged_from-refused splits job book last place r rest q wrong = rw wrong refl

pub judged_from-nil : (splits : Option ℕ) (job : JobView) (book : List Current) (last place : ℕ) → judged_from splits job book last place [] ≡ record { accepted = []; refused = [] }
unfolding judged_from
judged_from-nil splits job book last place = refl

-- the next request is accepted
pub judged_on-accepted : (job : JobView) (b : Bench) (place : ℕ) (r : Request) (rest : List Request) → fault_within b.splits b.book job r b.last_after ≡ None
    → judged_on job b place (r ∷ rest) ≡ joined (b.accepted ++ r ∷ []) b.refused (judged_from b.splits job (accepted b.book r.changes) r.after (place + 1) rest)
judged_on-accepted job b place r rest free =
    ap (joined b.accepted b.refused) (judged_from-accepted b.splits job b.book b.last_after place r rest free)
    ∙ joined-accepting b.accepted b.refused r (judged_from b.splits job (accepted b.book r.changes) r.after (place + 1) rest)

-- the next request is refused
pub judged_on-refused : (job : JobView) (b : Bench) (place : ℕ) (r : Request) (rest : List Request) (q : QFault) → fault_within b.splits b.book job r b.last_after ≡ Some q
    → judged_on job b place (r ∷ rest) ≡ joined b.accepted (b.refused ++ (record { place = place; fault = q }) ∷ []) (judged_from b.splits job b.book b.last_after (place + 1) rest)
judged_on-refused job b place r rest q wrong =
    ap (joined b.accepted b.refused) (judged_from-refused b.splits job b.book b.last_after place r rest q wrong)
    ∙ joined-refusing b.accepted b.refused place q (judged_from b.splits job b.book b.last_after (place + 1) rest)

-- no request is left
pub judged_on-end : (job : JobView) (b : Bench) (list : List Request) (i place : ℕ) → length list ≤ i → judged_on job b place (drop i list) ≡ record { accepted = b.accepted; refused = b.refused }
judged_on-end job b list i place end =
    let last : judged_from b.splits job b.book b.last_after place (drop i list) ≡ record { accepted = []; refused = [] } = rw (drop_all i list end) (judged_from-nil b.splits job b.book b.last_after place) in
    ap (joined b.accepted b.refused) last ∙ rw (append-nil b.accepted, append-nil b.refused) refl
