-- What is booked of a stream, turn after turn.
use Rattle.std.proofs.Common.{◌≡◌, ◌∙◌, ◌++◌, ℕ, List, [], Option, Some, ap, append-nil}
use Rattle.std.proofs.Common.{inl, inr}
use Rattle.std.proofs.Common.{append_assoc, drop, length, map, subst, sym}
use Rattle.std.proofs.Math.Seq.{drop-append_seam}
use Rattle.std.proofs.lemmas.Grind.{flat_map-append}
use Rattle.std.proofs.lemmas.List.{map-append}
use Rattle.jobs.specs.Job.{job_view}
use Rattle.jobs.specs.JobView.{JobView}
use Rattle.payments.specs.Causes.{Faults}
use Rattle.payments.specs.Files.{Files}
use Rattle.versions.specs.Judged.{judged_within}
use Rattle.versions.specs.declared.in_order.Refused.{Refused}
use Rattle.versions.specs.declared.request.Request.{Request}
use Rattle.fries_lines.specs.Lines.{noted}
use Rattle.stream_intake.specs.Intake.{refused_after}
use Rattle.stream_intake.specs.declared.known.Known.{Known}
use Rattle.stream_run.specs.Growing.{IsBooked, Written, all_counted, refused_in, told_in}
use Rattle.stream_run.specs.declared.books.Books.{Books}
use Rattle.stream_run.specs.declared.books.Tally.{Tally}
use Rattle.stream_run.proofs.GoesLemmas.{all_counted-append}
use Rattle.stream_step.specs.declared.stream.Stream.{Stream}
use Rattle.stream_step.proofs.PendingLemmas.{JudgedLater}
use Rattle.stream_turns.specs.Later.{TakesBytes, TakesFile, TakesFound, TakesNothing}
use Rattle.stream_turns.specs.Taken.{HasBooked}
use Rattle.stream_turns.specs.declared.inputs.StreamInputs.{StreamInputs}

drop-all : {X : Type 0} (xs : List X) → drop (length xs) xs ≡ []
drop-all xs =
    subst (λ l. drop (length xs) l ≡ []) (append-nil xs) (drop-append_seam xs [])

-- of requests that are known already, none is refused anew
none-after : (stream : Stream) (known : List Request) → refused_after stream known known ≡ []
none-after stream known =
    drop-all (judged_within (Some stream.setup.splits) (job_view stream.setup.job) known).refused

-- those that two readings refuse are refused by one
after-both : JudgedLater → (stream : Stream) (known first second : List Request)
    → refused_after stream known (known ++ first)
    ++ refused_after stream (known ++ first) ((known ++ first) ++ second)
    ≡ refused_after stream known ((known ++ first) ++ second)
after-both law stream known first second =
    let splits = Some stream.setup.splits in
    let job = job_view stream.setup.job in
    let one = law splits job known first in
    let two = law splits job (known ++ first) second in
    let none = (judged_within splits job known).refused in
    let some = (judged_within splits job (known ++ first)).refused in
    let first_is : drop (length none) some ≡ one.refused =
    ap (drop (length none)) one.refused_is ∙ drop-append_seam none one.refused in
    let second_is : drop (length some)
    (judged_within splits job ((known ++ first) ++ second)).refused ≡ two.refused =
    ap (drop (length some)) two.refused_is ∙ drop-append_seam some two.refused in
    let both : drop (length none)
    (judged_within splits job ((known ++ first) ++ second)).refused
    ≡ one.refused ++ two.refused =
    ap (drop (length none)) (two.refused_is
    ∙ (ap (λ l. l ++ two.refused) one.refused_is ∙ append_assoc none one.refused two.refused))
    ∙ drop-append_seam none (one.refused ++ two.refused) in
    ap (λ l. l ++ refused_after stream (known ++ first) ((known ++ first) ++ second)) first_is
    ∙ (ap (λ l. one.refused ++ l) second_is ∙ sym both)

-- a stream of the same job and mask refuses the same
after-alike : (a b : Stream) (known more : List Request) → b.setup.splits ≡ a.setup.splits
    → job_view b.setup.job ≡ job_view a.setup.job
    → refused_after b known more ≡ refused_after a known more
after-alike a b known more splits job =
    ap (λ (s : ℕ). drop (length (judged_within (Some s) (job_view b.setup.job) known).refused)
    (judged_within (Some s) (job_view b.setup.job) more).refused) splits
    ∙ ap (λ (j : JobView). drop (length (judged_within (Some a.setup.splits) j known).refused)
    (judged_within (Some a.setup.splits) j more).refused) job

module _ (law : JudgedLater) (a b : Stream) (xs ys : List Written) (r s t : StreamInputs)
    (splits : b.setup.splits ≡ a.setup.splits)
    (job : job_view b.setup.job ≡ job_view a.setup.job) (one : HasBooked a xs r s)
    (two : HasBooked b ys s t) where
  abbrev first : List Refused
  first = refused_after a r.known.requests s.known.requests

  abbrev second : List Refused
  second = refused_after b s.known.requests t.known.requests

  both : first ++ second ≡ refused_after a r.known.requests t.known.requests
  both =
      ap (λ l. first ++ l)
      (after-alike a b s.known.requests t.known.requests splits job)
      ∙ (rw (two.known, one.known)
      (after-both law a r.known.requests one.more two.more))

  pub booked-then : HasBooked a (xs ++ ys) r t
  booked-then = record {
    tally =
        two.tally
        ∙ (ap (λ (n : Tally). all_counted n ys) one.tally
        ∙ sym (all_counted-append r.books.tally xs ys));
    more = one.more ++ two.more;
    known =
        two.known
        ∙ (ap (λ l. l ++ two.more) one.known ∙ append_assoc r.known.requests one.more two.more);
    refused =
        two.refused
        ∙ (ap (λ l. l ++ second) one.refused
        ∙ (append_assoc r.refused first second ∙ ap (λ l. r.refused ++ l) both));
    told =
        ap (λ l. l ++ t.books.refused.items) (flat_map-append told_in xs ys)
        ∙ (append_assoc (refused_in xs) (refused_in ys) t.books.refused.items
        ∙ (ap (λ l. refused_in xs ++ l) two.told
        ∙ (sym (append_assoc (refused_in xs) s.books.refused.items (map noted second))
        ∙ (ap (λ l. l ++ map noted second) one.told
        ∙ (append_assoc r.books.refused.items (map noted first) (map noted second)
        ∙ (ap (λ l. r.books.refused.items ++ l) (sym (map-append noted first second))
        ∙ ap (λ l. r.books.refused.items ++ map noted l) both))))));
    read = λ is. two.read (one.read is);
  }

-- ---- the books alone

-- nothing was read, and the books count what was written
pub booked-by : (stream : Stream) (written : List Written) (r s : StreamInputs)
    → s.known ≡ r.known → s.refused ≡ r.refused → s.books.read ≡ r.books.read
    → IsBooked written r.books s.books → HasBooked stream written r s
booked-by stream written r s known refused read booked =
    let none : refused_after stream r.known.requests s.known.requests ≡ [] =
    ap (λ (k : Known). refused_after stream r.known.requests k.requests) known
    ∙ none-after stream r.known.requests in
    record {
      tally = booked.tally;
      more = [];
      known = ap (λ (k : Known). k.requests) known ∙ sym (append-nil r.known.requests);
      refused = refused ∙ (sym (append-nil r.refused) ∙ ap (λ l. r.refused ++ l) (sym none));
      told =
          booked.told ∙ (sym (append-nil r.books.refused.items)
          ∙ ap (λ l. r.books.refused.items ++ map noted l) (sym none));
      read = λ is. read ∙ (is ∙ ap (λ (k : Known). length k.requests) (sym known));
    }

-- nothing was done
pub booked-none : (stream : Stream) (r s : StreamInputs) → s.known ≡ r.known
    → s.refused ≡ r.refused → s.books ≡ r.books → HasBooked stream [] r s
booked-none stream r s known refused books =
    booked-by stream [] r s known refused (ap (λ (b : Books). b.read) books)
    (record {
      tally = ap (λ (b : Books). b.tally) books;
      told = ap (λ (b : Books). b.refused.items) books;
    })

-- what is booked of inputs is booked of others with the same requests and books
pub booked-alike : (stream : Stream) (written : List Written) (q r s : StreamInputs)
    → q.known ≡ r.known → q.refused ≡ r.refused → q.books ≡ r.books
    → HasBooked stream written q s → HasBooked stream written r s
booked-alike stream written q r s known refused books has = record {
  tally = has.tally ∙ ap (λ (b : Books). all_counted b.tally written) books;
  more = has.more;
  known = has.known ∙ ap (λ (k : Known). k.requests ++ has.more) known;
  refused = has.refused
      ∙ (ap (λ l. l ++ refused_after stream q.known.requests s.known.requests) refused
      ∙ ap (λ (k : Known). r.refused ++ refused_after stream k.requests s.known.requests) known);
  told = has.told
      ∙ (ap (λ (b : Books). b.refused.items
      ++ map noted (refused_after stream q.known.requests s.known.requests)) books
      ∙ ap (λ (k : Known). r.books.refused.items
      ++ map noted (refused_after stream k.requests s.known.requests)) known);
  read = λ is. has.read (ap (λ (b : Books). b.read) books
      ∙ (is ∙ ap (λ (k : Known). length k.requests) (sym known)));
}

-- ---- a later reading

found : (requests : List Request) (r : StreamInputs) (stream : Stream) (s : StreamInputs)
    (next : Stream) → TakesFound requests r stream s next → s.books.tally ≡ r.books.tally
    → HasBooked stream [] r s
found requests r stream s next takes tally = record {
  tally = tally;
  more = drop (length r.known.requests) requests;
  known = takes.known_are;
  refused = takes.refused_are;
  told = takes.noted_are;
  read = λ is. takes.read_are;
}

nothing : (r : StreamInputs) (stream : Stream) (s : StreamInputs) (next : Stream)
    → TakesNothing r stream s next → HasBooked stream [] r s
nothing r stream s next takes =
    booked-none stream r s takes.known_are takes.refused_are takes.books_are

by_bytes : (bytes : List ℕ) (r : StreamInputs) (stream : Stream) (s : StreamInputs)
    (next : Stream) → TakesBytes bytes r stream s next → s.books.tally ≡ r.books.tally
    → HasBooked stream [] r s
by_bytes bytes r stream s next (inl (requests, is, takes)) tally =
    found requests r stream s next takes tally
by_bytes bytes r stream s next (inr (takes, why)) tally = nothing r stream s next takes

pub booked-reading : (files : Option Files) (name : List ℕ) (before after : Faults)
    (r : StreamInputs) (stream : Stream) (s : StreamInputs) (next : Stream)
    → TakesFile files name before after r stream s next → s.books.tally ≡ r.books.tally
    → HasBooked stream [] r s
booked-reading files name before after r stream s next (inl has) tally =
    by_bytes has.bytes r stream s next has.are_so tally
booked-reading files name before after r stream s next (inr (takes, why)) tally =
    nothing r stream s next takes
