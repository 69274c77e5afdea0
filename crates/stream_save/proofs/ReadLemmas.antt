-- What a text tells is what is read of it step by step.
use Rattle.std.proofs.Common.{◌≡◌, ◌≢◌, ◌∙◌, ◌+◌, ℕ, List, [], ◌∷◌, Option, Some, None, Result, Ok, Err, sym, ap, drop, map}
use Rattle.jobs.specs.JobView.{JobView}
use Rattle.flow_model.specs.Begin.{Begin}
use Rattle.savepoint.specs.SaveReading.{Placed, Spelled, begin_with, placed_from, placed_of, spelled_from}
use Rattle.savepoint.specs.declared.fault.SaveFault.{SaveFault}
use Rattle.savepoint.specs.declared.fault.SaveFault.TheVariants as part
use Rattle.savepoint_file.specs.Steps.{read_from}
use Rattle.savepoint_file.proofs.ReadLemmas.{fault-spelled, read-spelled}
use Rattle.stream_save.specs.StreamReading.{Head, fault_as_saved, stream_head_read, misplaced, save_after, save_at, save_by, stream_save_in, save_unless, stream_save_with, saved_at, waits_read}
use Rattle.stream_save.specs.StreamText.{StreamSave}
use Rattle.stream_save.specs.declared.fault.StreamSaveFault.{StreamSaveFault}
use Rattle.stream_save.specs.declared.fault.StreamSaveFault.TheVariants as fault

-- ---- the first record

pub in-none : (job : JobView) (all : List (List (List ℕ))) → all ≡ [] → stream_save_in job all ≡ Err (fault.Shape 0)
in-none job all is = ap (stream_save_in job) is

pub in-headless : (job : JobView) (cells : List (List ℕ)) (all later : List (List (List ℕ))) → all ≡ cells ∷ later → stream_head_read cells ≡ None → stream_save_in job all ≡ Err (fault.Shape 0)
in-headless job cells all later is none = ap (stream_save_in job) is ∙ ap (λ o. save_after job o later) none

pub in-head : (job : JobView) (cells : List (List ℕ)) (all later : List (List (List ℕ))) (head : Head) → all ≡ cells ∷ later → stream_head_read cells ≡ Some head → stream_save_in job all ≡ save_after job (Some head) later
in-head job cells all later head is at = ap (stream_save_in job) is ∙ ap (λ o. save_after job o later) at

-- ---- faults of a part

-- a fault of the savepoint that isn't out of memory isn't out of memory in its part
pub part-told : (f : SaveFault) → fault_as_saved f ≢ fault.NoMemory → f ≢ part.NoMemory
part-told f other is = other (ap fault_as_saved is)

-- ---- the records after the first

pub after-waits : (job : JobView) (head : Head) (old : List (List (List ℕ))) (f : SaveFault) → waits_read head.turned 1 old ≡ Err f → save_after job (Some head) old ≡ Err (fault_as_saved f)
after-waits job head old f is = ap (λ o. save_by job head o (spelled_from (head.turned + 1) (drop head.turned old))) is

after_by : (job : JobView) (head : Head) (old : List (List (List ℕ))) (waits : List ℕ) (spelled : Result (List Spelled) SaveFault) → waits_read head.turned 1 old ≡ Ok waits
    → spelled_from (head.turned + 1) (drop head.turned old) ≡ spelled → save_after job (Some head) old ≡ save_by job head (Ok waits) spelled
after_by job head old waits spelled is made = ap (λ o. save_by job head o (spelled_from (head.turned + 1) (drop head.turned old))) is ∙ ap (save_by job head (Ok waits)) made

pub after-misspelled : (job : JobView) (head : Head) (old new : List (List (List ℕ))) (waits : List ℕ) (f : SaveFault) → waits_read head.turned 1 old ≡ Ok waits → new ≡ drop head.turned old
    → read_from job (head.turned + 1) new ≡ Err f → save_after job (Some head) old ≡ Err (fault_as_saved f)
after-misspelled job head old new waits f is rest made =
    after_by job head old waits (Err f) is (fault-spelled job (head.turned + 1) (drop head.turned old) f (ap (read_from job (head.turned + 1)) (sym rest) ∙ made))

pub after-read : (job : JobView) (head : Head) (old new : List (List (List ℕ))) (waits : List ℕ) (counts : List (Option Placed)) (answer : Result StreamSave StreamSaveFault)
    → waits_read head.turned 1 old ≡ Ok waits → new ≡ drop head.turned old → read_from job (head.turned + 1) new ≡ Ok counts
    → ((spelled : List Spelled) → counts ≡ map (placed_of job) spelled → save_at job head waits spelled ≡ answer) → save_after job (Some head) old ≡ answer
after-read job head old new waits counts answer is rest made h =
    let r = read-spelled job (head.turned + 1) (drop head.turned old) counts (ap (read_from job (head.turned + 1)) (sym rest) ∙ made) in
    after_by job head old waits (Ok r.spelled) is r.is ∙ h r.spelled r.counts_are

-- ---- waits and counts

abbrev begun : JobView → Head → List Spelled → Result Begin SaveFault
begun job head spelled = begin_with job head.row head.turned (placed_from job (head.turned + 1) None spelled)

pub at-misplaced : (job : JobView) (head : Head) (waits : List ℕ) (spelled : List Spelled) (number : ℕ) → misplaced head.row 1 0 waits ≡ Some number → save_at job head waits spelled ≡ Err (fault.Count number)
at-misplaced job head waits spelled number is = ap (λ o. save_unless o (stream_save_with head waits (begun job head spelled))) is

pub at-fault : (job : JobView) (head : Head) (waits : List ℕ) (spelled : List Spelled) (f : SaveFault) → misplaced head.row 1 0 waits ≡ None → begun job head spelled ≡ Err f → save_at job head waits spelled ≡ Err (fault_as_saved f)
at-fault job head waits spelled f none is = ap (λ o. save_unless o (stream_save_with head waits (begun job head spelled))) none ∙ ap (stream_save_with head waits) is

pub at-start : (job : JobView) (head : Head) (waits : List ℕ) (spelled : List Spelled) (start : Begin) → misplaced head.row 1 0 waits ≡ None → begun job head spelled ≡ Ok start
    → save_at job head waits spelled ≡ Ok (saved_at head waits start)
at-start job head waits spelled start none is = ap (λ o. save_unless o (stream_save_with head waits (begun job head spelled))) none ∙ ap (stream_save_with head waits) is
