-- Requests that are judged after those that are known.
use Rattle.std.proofs.Common.{◌≡◌, ◌∙◌, ◌≤◌, ◌+◌, ◌-◌, ◌++◌, ℕ, zero, suc, List, [], ◌∷◌, true}
use Rattle.std.proofs.Common.{Option, None, Some, drop, length, take, refl, sym, subst, ap, arith}
use Rattle.std.proofs.Math.Seq.{drop-append_seam, drop-length, take-append_seam}
use Rattle.std.proofs.lemmas.List.{append-nil, drop_all, length-append, length-map}
use Rattle.jobs.specs.Job.{job_view}
use Rattle.jobs.specs.JobView.{JobView}
use Rattle.versions.specs.Book.{accepted, first_book}
use Rattle.versions.specs.Judged.{AreAccepted, accepting, by_fault, judged_from, judged_within}
use Rattle.versions.specs.Judged.{refusing}
use Rattle.versions.specs.Judging.{fault_within}
use Rattle.versions.specs.Waiting.{changes_of}
use Rattle.versions.specs.declared.book.Current.{Current}
use Rattle.versions.specs.declared.fault.QFault.{QFault}
use Rattle.versions.specs.declared.in_order.Judged.{Judged}
use Rattle.versions.specs.declared.in_order.Refused.{Refused}
use Rattle.versions.specs.declared.request.Change.{Change}
use Rattle.versions.specs.declared.request.Request.{Request}
use Rattle.versions.proofs.JudgedLemmas.{judged_from-nil}
use Rattle.versions.proofs.WaitingLemmas.{head_same, tail_same}
use Rattle.flow_model.specs.Requests.{afters}
use Rattle.flow_model.specs.Waiting.{with_afters}
use Rattle.stream_law.specs.Later.{IsJudgedPrefix}
use Rattle.flow_dag.specs.Masks.{Has}
use Rattle.flow_model.specs.Planned.{is_made_split}
use Rattle.flow_model.specs.declared.setup.Setup.{Setup}
use Rattle.stream_step.specs.Pending.{AreAsked, SplitWithin}
use Rattle.stream_step.specs.declared.stream.Stream.{Stream}
use Rattle.stream_step.proofs.ResumeLemmas.{made_right}
use Rattle.stream_intake.specs.Intake.{IsKnownTo, accepted_after, judged_in, known_after}
use Rattle.stream_intake.specs.Intake.{refused_after}

-- what the law of judging says
abbrev pub JudgedLater : Type 0
JudgedLater =
    (splits : Option ℕ) (job : JobView) (earlier later : List Request)
    → IsJudgedPrefix (judged_within splits job earlier)
    (judged_within splits job (earlier ++ later))

abbrev pub StayAccepted : Type 0
StayAccepted =
    (splits : Option ℕ) (job : JobView) (requests : List Request)
    → AreAccepted job (judged_within splits job requests).accepted

abbrev pub SplitsWithin : Type 0
SplitsWithin =
    (splits : ℕ) (job : JobView) (requests : List Request) (node : ℕ)
    → is_made_split (judged_within (Some splits) job requests).accepted node ≡ true
    → Has splits node

-- ---- how many are accepted and refused

abbrev all_of : Judged → ℕ
all_of done = length done.accepted + length done.refused

counts_from : (splits : Option ℕ) (job : JobView) (book : List Current) (last place : ℕ)
    (xs : List Request) → all_of (judged_from splits job book last place xs) ≡ length xs
unfolding judged_from
counts_from splits job book last place [] = refl
counts_from splits job book last place (r ∷ rest) =
    go (fault_within splits book job r last) (counts_from splits job book last (place + 1) rest)
    (counts_from splits job (accepted book r.changes) r.after (place + 1) rest)
  where
    go : (o : Option QFault) → all_of (judged_from splits job book last (place + 1) rest)
        ≡ length rest → all_of (judged_from splits job (accepted book r.changes) r.after (place + 1)
        rest) ≡ length rest
        → all_of (by_fault o (λ fault. refusing place fault
        (judged_from splits job book last (place + 1) rest))
        (accepting r (judged_from splits job (accepted book r.changes) r.after (place + 1)
        rest))) ≡ suc (length rest)
    go None a b = omega (arith, b)
    go (Some q) a b = omega (arith, a)

pub judged_counts : (splits : Option ℕ) (job : JobView) (xs : List Request)
    → length (judged_within splits job xs).accepted + length (judged_within splits job xs).refused
    ≡ length xs
judged_counts splits job xs = counts_from splits job (first_book job.nodes) 0 1 xs

-- no requests are judged: none is accepted, and none refused
pub judged_none : (splits : Option ℕ) (job : JobView) → judged_within splits job []
    ≡ record { accepted = []; refused = [] }
judged_none splits job = judged_from-nil splits job (first_book job.nodes) 0 1

-- ---- those that a stream has taken

taken_counts : (job : JobView) (taken pending all : List Request)
    → (is : AreAsked job taken pending all) → length is.earlier ≡ length taken
taken_counts job taken pending all is =
    let changes : Request → List Change = λ request. request.changes in
    sym (length-map is.earlier changes)
    ∙ (ap (λ (l : List (List Change)). length l) is.same ∙ length-map taken changes)

pub asked_counts : (job : JobView) (taken pending all : List Request)
    → AreAsked job taken pending all → length all ≡ length taken + length pending
asked_counts job taken pending all is =
    omega (
      arith,
      ap (λ (l : List Request). length l) is.all_are,
      length-append is.earlier pending,
      taken_counts job taken pending all is,
    )

-- requests with the changes of others, which wait for their rows, are the others
waiting_back : (xs ys : List Request) → changes_of xs ≡ changes_of ys → with_afters (afters ys) xs
    ≡ ys
waiting_back [] [] e = refl
waiting_back [] (y ∷ ys) e = absurd (cc)
waiting_back (x ∷ xs) [] e = absurd (cc)
waiting_back (x ∷ xs) (y ∷ ys) e =
    ap (λ (cs : List Change). (record y { changes = cs }) ∷ with_afters (afters ys) xs)
    (head_same x.changes y.changes (changes_of xs) (changes_of ys) e)
    ∙ ap (λ (l : List Request). y ∷ l)
    (waiting_back xs ys (tail_same x.changes y.changes (changes_of xs) (changes_of ys) e))

pub issued_back : (job : JobView) (taken pending all : List Request)
    → AreAsked job taken pending all → with_afters (afters taken) (take (length taken) all) ≡ taken
issued_back job taken pending all is =
    ap (λ (l : List Request). with_afters (afters taken) (take (length taken) l)) is.all_are
    ∙ (ap (λ n. with_afters (afters taken) (take n (is.earlier ++ pending)))
    (sym (taken_counts job taken pending all is))
    ∙ (ap (with_afters (afters taken)) (take-append_seam is.earlier pending)
    ∙ waiting_back is.earlier taken is.same))

pub pending_back : (job : JobView) (taken pending all : List Request)
    → AreAsked job taken pending all → drop (length taken) all ≡ pending
pending_back job taken pending all is =
    ap (drop (length taken)) is.all_are
    ∙ (ap (λ n. drop n (is.earlier ++ pending)) (sym (taken_counts job taken pending all is))
    ∙ drop-append_seam is.earlier pending)

-- the stream has as many accepted requests as are accepted of the known ones
pub known_counts : (stream : Stream) (known : List Request) → IsKnownTo known stream
    → length (judged_in stream known).accepted
    ≡ length stream.setup.judged.accepted + length stream.pending
known_counts stream known is =
    asked_counts _ stream.setup.judged.accepted stream.pending (judged_in stream known).accepted is

pub known_within : (stream : Stream) (known : List Request) → IsKnownTo known stream
    → length stream.setup.judged.accepted + length stream.pending ≤ length known
known_within stream known is =
    omega (
      arith,
      known_counts stream known is,
      judged_counts (Some stream.setup.splits)
          (job_view stream.setup.job) known,
    )

pub known_refused : (stream : Stream) (known : List Request) → IsKnownTo known stream
    → length known - (length stream.setup.judged.accepted + length stream.pending)
    ≡ length (judged_in stream known).refused
known_refused stream known is =
    omega (
      arith,
      known_counts stream known is,
      judged_counts (Some stream.setup.splits)
          (job_view stream.setup.job) known,
    )

-- ---- those after the known ones

pub accepted_both : JudgedLater → (stream : Stream) (known more : List Request)
    → (judged_in stream (known ++ more)).accepted ≡ (judged_in stream known).accepted
    ++ accepted_after stream known (known ++ more)
accepted_both later stream known more =
    let old : List Request = (judged_in stream known).accepted in
    let prefix = later _ _ known more in
    prefix.accepted_is ∙ ap (λ (l : List Request). old ++ l)
    (sym (ap (drop (length old)) prefix.accepted_is ∙ drop-append_seam old prefix.accepted))

pub refused_both : JudgedLater → (stream : Stream) (known more : List Request)
    → (judged_in stream (known ++ more)).refused ≡ (judged_in stream known).refused
    ++ refused_after stream known (known ++ more)
refused_both later stream known more =
    let old : List Refused = (judged_in stream known).refused in
    let prefix = later _ _ known more in
    prefix.refused_is ∙ ap (λ (l : List Refused). old ++ l)
    (sym (ap (drop (length old)) prefix.refused_is ∙ drop-append_seam old prefix.refused))

pub accepted_more : JudgedLater → (stream : Stream) (known more : List Request)
    → length (judged_in stream known).accepted ≤ length (judged_in stream (known ++ more)).accepted
accepted_more law stream known more =
    omega (
      arith,
      ap (λ (l : List Request). length l)
          (accepted_both law stream known more),
      length-append (judged_in stream known).accepted
          (accepted_after stream known (known ++ more)),
    )

pub refused_more : JudgedLater → (stream : Stream) (known more : List Request)
    → length (judged_in stream known).refused ≤ length (judged_in stream (known ++ more)).refused
refused_more law stream known more =
    omega (
      arith,
      ap (λ (l : List Refused). length l)
          (refused_both law stream known more),
      length-append (judged_in stream known).refused
          (refused_after stream known (known ++ more)),
    )

pub taken_fewer : (n : ℕ) (xs : List Request) → length (take n xs) ≤ length xs
taken_fewer zero xs = omega arith
taken_fewer (suc n) [] = omega arith
taken_fewer (suc n) (x ∷ xs) = omega (arith, taken_fewer n xs)

-- ---- a reading with no more than is known

pub none_beyond : (known found : List Request) → length found ≤ length known
    → known_after known found ≡ known
none_beyond known found le =
    ap (λ (l : List Request). known ++ l) (drop_all (length known) found le) ∙ append-nil known

pub none_accepted : (stream : Stream) (known found : List Request) → length found ≤ length known
    → accepted_after stream known (known_after known found) ≡ []
none_accepted stream known found le =
    ap (accepted_after stream known) (none_beyond known found le)
    ∙ drop-length (judged_in stream known).accepted

pub none_refused : (stream : Stream) (known found : List Request) → length found ≤ length known
    → refused_after stream known (known_after known found) ≡ []
none_refused stream known found le =
    ap (refused_after stream known) (none_beyond known found le)
    ∙ drop-length (judged_in stream known).refused

-- ---- a stream to which they are added

pub added_accepted : JudgedLater → StayAccepted
    → (stream : Stream) (known more later : List Request) → later
    ≡ accepted_after stream known (known ++ more)
    → AreAccepted (job_view stream.setup.job) ((judged_in stream known).accepted ++ later)
added_accepted law stay stream known more later is =
    let both =
    accepted_both law stream known more
    ∙ ap (λ (l : List Request). (judged_in stream known).accepted ++ l) (sym is) in
    subst (AreAccepted (job_view stream.setup.job)) both
    (stay (Some stream.setup.splits) (job_view stream.setup.job) (known ++ more))

pub added_within : JudgedLater → SplitsWithin → (stream : Stream) (known more later : List Request)
    → later ≡ accepted_after stream known (known ++ more) → SplitWithin stream.setup.splits later
added_within law within stream known more later is node made =
    let both =
    accepted_both law stream known more
    ∙ ap (λ (l : List Request). (judged_in stream known).accepted ++ l) (sym is) in
    within stream.setup.splits (job_view stream.setup.job) (known ++ more) node
    (subst (λ (l : List Request). is_made_split l node ≡ true) (sym both)
    (made_right (judged_in stream known).accepted later node made))

pub judged_alike : (old new : Stream) (requests : List Request) → new.setup ≡ old.setup
    → judged_in new requests ≡ judged_in old requests
judged_alike old new requests e =
    ap (λ (s : Setup). judged_within (Some s.splits) (job_view s.job) requests) e

pub added_known : JudgedLater → (old new : Stream) (known more later : List Request) → later
    ≡ accepted_after old known (known ++ more) → new.setup ≡ old.setup
    → AreAsked (job_view new.setup.job) new.setup.judged.accepted new.pending
    ((judged_in old known).accepted ++ later) → IsKnownTo (known ++ more) new
added_known law old new known more later is same asked =
    let both =
    ap (λ (l : List Request). (judged_in old known).accepted ++ l) is
    ∙ sym (accepted_both law old known more) in
    subst (AreAsked (job_view new.setup.job) new.setup.judged.accepted new.pending)
    (both ∙ sym (ap (λ (j : Judged). j.accepted) (judged_alike old new (known ++ more) same)))
    asked

-- ---- a stream to which none are known

pub none_known : (stream : Stream) → stream.setup.judged.accepted ≡ [] → stream.pending ≡ []
    → IsKnownTo [] stream
none_known stream none empty =
    let all_none : (judged_in stream []).accepted ≡ [] =
    ap (λ (j : Judged). j.accepted)
    (judged_none (Some stream.setup.splits) (job_view stream.setup.job)) in
    record {
      earlier = [];
      all_are = all_none ∙ sym empty;
      same = ap changes_of (sym none);
      accepted =
          subst (AreAccepted (job_view stream.setup.job)) (sym all_none)
          (ap (λ (j : Judged). j.refused) (judged_none None (job_view stream.setup.job)));
    }

pub first_accepted : (stream : Stream) (requests : List Request) → accepted_after stream [] requests
    ≡ (judged_in stream requests).accepted
first_accepted stream requests =
    ap (λ (j : Judged). drop (length j.accepted) (judged_in stream requests).accepted)
    (judged_none (Some stream.setup.splits) (job_view stream.setup.job))

pub first_refused : (stream : Stream) (requests : List Request) → refused_after stream [] requests
    ≡ (judged_in stream requests).refused
first_refused stream requests =
    ap (λ (j : Judged). drop (length j.refused) (judged_in stream requests).refused)
    (judged_none (Some stream.setup.splits) (job_view stream.setup.job))
