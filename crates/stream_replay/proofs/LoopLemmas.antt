-- Where the loop over the parts is.
use Rattle.std.proofs.Common.{◌≡◌, ◌∙◌, ◌+◌, ◌++◌, ℕ, List, [], ◌∷◌, ap, arith, length, refl, subst}
use Rattle.std.proofs.Common.{Some, drop, sym}
use Rattle.std.specs.Prelude.{Err, IfErr, IfOk, Ok, OnOk, Result}
use Rattle.std.proofs.lemmas.List.{append_assoc, length-append, same_from_push}
use Rattle.std.proofs.lemmas.Option.{same_Some}
use Rattle.jobs.specs.declared.job.Job.{Job}
use Rattle.audit_parts.specs.Cut.{parts_of}
use Rattle.audit_parts.specs.Texts.{IsReadAs, IsTextOf}
use Rattle.audit_parts.specs.declared.part.AuditPart.{AuditPart}
use Rattle.stream_replay.specs.InParts.{AreRunInParts, Given, Records}
use Rattle.stream_replay.specs.declared.fault.PartFault.{PartFault}
use Rattle.stream_replay.specs.declared.fault.PartFault.TheVariants as part
use Rattle.stream_replay.specs.declared.progress.Progress.{Progress}
use Rattle.stream_replay.specs.declared.whole.Whole.{Whole}
use Rattle.stream_replay.specs.inner.Progress.{HasPassed, IsCounted, IsLooseAmong, IsLooseFor}
use Rattle.stream_replay.specs.inner.Progress.{body_of}
use Rattle.stream_replay.proofs.LooseLemmas.{has_apart}
use Rattle.stream_replay.proofs.PassLemmas.{loose_among}

-- so many parts less one were looked at; of all parts, this one and those after it are left
pub record IsAt (whole : Whole) (given : Given) (all : List Records) (job : Job)
    (progress : Progress) (part : AuditPart) (left : List Records) (number : ℕ) : Type 0 where
  pub done : List Records
  pub passed : HasPassed whole given done progress
  pub counted : IsCounted part
  pub all_are : all ≡ done ++ body_of part ∷ left
  pub number_is : number ≡ length done + 1
  pub job_is : progress.setup.job ≡ job

pub at_first : (whole : Whole) (given : Given) (progress : Progress) (part : AuditPart)
    (left : List Records) → HasPassed whole given [] progress → IsCounted part
    → IsAt whole given (body_of part ∷ left) progress.setup.job progress part left 1
at_first whole given progress part left passed counted = record {
  done = [];
  passed = passed;
  counted = counted;
  all_are = refl;
  number_is = omega arith;
  job_is = refl;
}

pub at_next : (whole : Whole) (given : Given) (all : List Records) (job : Job)
    (old new : Progress) (part next : AuditPart) (left later : List Records) (number : ℕ)
    → (was : IsAt whole given all job old part left number) → left ≡ body_of next ∷ later
    → HasPassed whole given (was.done ++ body_of part ∷ []) new → IsCounted next
    → new.setup.job ≡ old.setup.job → IsAt whole given all job new next later (number + 1)
at_next whole given all job old new part next left later number was left_are passed counted same =
    record {
      done = was.done ++ body_of part ∷ [];
      passed = passed;
      counted = counted;
      all_are =
          was.all_are
          ∙ (ap (λ l. was.done ++ body_of part ∷ l) left_are
          ∙ sym (append_assoc was.done (body_of part ∷ []) (body_of next ∷ later)));
      number_is = omega (arith, was.number_is, length-append was.done (body_of part ∷ []));
      job_is = same ∙ was.job_is;
    }

-- ---- answers, among all parts

-- the last part is the one that is left
pub all_at_end : (all done left : List Records) (here : Records) → all ≡ done ++ here ∷ left
    → left ≡ [] → all ≡ done ++ here ∷ []
all_at_end all done left here are none = are ∙ ap (λ l. done ++ here ∷ l) none

-- so all parts are runs in whatever way they are written
all_runs : (given : Given) (all done : List Records) (here : Records) → all ≡ done ++ here ∷ []
    → AreRunInParts given done here → (earlier : List Records) (last : Records)
    → all ≡ earlier ++ last ∷ [] → AreRunInParts given earlier last
all_runs given all done here are runs earlier last same =
    let both = same_from_push done earlier here last (sym are ∙ same) in
    subst (λ (e : List Records). AreRunInParts given e last) both.0
    (subst (λ (r : Records). AreRunInParts given done r) both.1 runs)

pub ok_all : {T E : Type 0} (r : Result T E) (given : Given) (all done : List Records)
    (here : Records) → all ≡ done ++ here ∷ [] → OnOk r (AreRunInParts given done here)
    → IfOk r (λ back. (earlier : List Records) (last : Records) → all ≡ earlier ++ last ∷ []
    → AreRunInParts given earlier last)
ok_all (Ok back) given all done here are runs = all_runs given all done here are runs
ok_all (Err why) given all done here are runs = tt

pub err_among : {T : Type 0} (r : Result T PartFault) (given : Given) (all earlier : List Records)
    (last : Records) → all ≡ earlier ++ last ∷ [] → IfErr r (IsLooseFor given earlier last)
    → IfErr r (IsLooseAmong given all)
err_among (Ok back) given all earlier last same loose = tt
err_among (Err why) given all earlier last same loose =
    loose_among given all earlier last why same loose

-- what is given by a reader of parts
pub counted_next : (next : AuditPart) (left later : List Records)
    → (records : Records) × (left ≡ records ∷ later) × IsTextOf next records
    × IsReadAs next.text records → IsCounted next × (left ≡ body_of next ∷ later)
counted_next next left later (records, are, text, read) =
    let same : body_of next ≡ records = ap (λ (l : Records). drop 1 l) read in (
      record {
        text = subst (λ (r : Records). IsTextOf next r) (sym same) text;
        read = subst (λ (r : Records). IsReadAs next.text r) (sym same) read;
      },
      are ∙ ap (λ (r : Records). r ∷ later) (sym same),
    )

-- runs one after another aren't refused
found_for : (given : Given) (all : List Records) (earlier : List Records) (last : Records)
    → all ≡ earlier ++ last ∷ [] → AreRunInParts given earlier last → (why : PartFault)
    → IsLooseAmong given all why → why ≡ part.NoMemory
found_for given all earlier last same runs part.NoMemory loose = refl
found_for given all earlier last same runs (part.Loose number) loose =
    absurd (has_apart given all number (all_runs given all earlier last same runs) loose)

pub err_found : {T : Type 0} (r : Result T PartFault) (given : Given) (all : List Records)
    (records : Records) → parts_of records ≡ Some all → (earlier : List Records)
    (last : Records) → parts_of records ≡ Some (earlier ++ last ∷ [])
    → AreRunInParts given earlier last → IfErr r (IsLooseAmong given all)
    → IfErr r (λ why. why ≡ part.NoMemory)
err_found (Ok back) given all records are earlier last same runs loose = tt
err_found (Err why) given all records are earlier last same runs loose =
    found_for given all earlier last (same_Some all (earlier ++ last ∷ []) (sym are ∙ same)) runs
    why loose
