-- What the beginning is that a savepoint tells.
use Rattle.std.proofs.Common.{◌≡◌, ◌≤◌, ◌∙◌, ℕ, Bool, List, Option, Result, true, false, [], ◌∷◌, None, Some, Ok, Err, ap, length, refl, subst, arith}
use Rattle.std.specs.Prelude.{◌==◌, map, nat_lt, if◌then◌else◌}
use Rattle.std.proofs.lemmas.Bool.{eqb-true}
use Rattle.std.proofs.lemmas.List.{length-map}
use Rattle.jobs.specs.JobView.{JobView}
use Rattle.versions.specs.declared.request.Request.{Request}
use Rattle.flow_model.specs.Begin.{Begin}
use Rattle.flow_model.specs.SetupView.{SetupView, setup_view_of}
use Rattle.flow_model.specs.Requests.{afters}
use Rattle.flow_model.specs.Workers.{workers_in}
use Rattle.csv.specs.Reading.{default_config, records, strip_bom}
use Rattle.savepoint.specs.Parts.{issued_up_to}
use Rattle.savepoint.specs.SaveReading.{Placed, Spelled, begin_at, begin_by, begin_in, begin_with, counts_at, head_of, placed_from, save_of, spelled_from}
use Rattle.savepoint.specs.declared.fault.SaveFault.{SaveFault}
use Rattle.savepoint.specs.declared.fault.SaveFault.TheVariants as fault
use Rattle.savepoint.proofs.PartsLemmas.{counted_le}

-- ---- setups of one job and the same requests read the same

at_same : (s t : SetupView) → s.job ≡ t.job → s.requests ≡ t.requests → (rows : ℕ) (head : ℕ × ℕ) (spelled : List Spelled) → begin_at s rows head spelled ≡ begin_at t rows head spelled
at_same s t job requests rows (row, turned) spelled =
    ap (λ (j : JobView). begin_at (setup_view_of j s.requests [] 0 false) rows (row, turned) spelled) job
    ∙ ap (λ (r : List Request). begin_at (setup_view_of t.job r [] 0 false) rows (row, turned) spelled) requests

by_same : (s t : SetupView) → s.job ≡ t.job → s.requests ≡ t.requests → (rows : ℕ) (head : Option (ℕ × ℕ)) (later : Result (List Spelled) SaveFault) → begin_by s rows head later ≡ begin_by t rows head later
by_same s t job requests rows None later = refl
by_same s t job requests rows (Some head) (Err why) = refl
by_same s t job requests rows (Some head) (Ok spelled) = at_same s t job requests rows head spelled

in_same : (s t : SetupView) → s.job ≡ t.job → s.requests ≡ t.requests → (rows : ℕ) (all : List (List (List ℕ))) → begin_in s rows all ≡ begin_in t rows all
in_same s t job requests rows [] = refl
in_same s t job requests rows (head ∷ later) = by_same s t job requests rows (head_of head) (spelled_from 1 later)

pub saves_same : (s t : SetupView) → s.job ≡ t.job → s.requests ≡ t.requests → (rows : ℕ) (bytes : List ℕ) → save_of s rows bytes ≡ save_of t rows bytes
saves_same s t job requests rows bytes = in_same s t job requests rows (records default_config (strip_bom bytes))

-- ---- a beginning that is read suits the setup

-- it has turned no more requests than there are, and has counts for each worker
pub record Suits (setup : SetupView) (start : Begin) : Type 0 where
  pub turned : start.turned ≤ length setup.requests
  pub states : length start.states ≡ length (workers_in setup.job)

with_suits : (s : SetupView) (row turned : ℕ) (placed : Result (List Placed) SaveFault) (start : Begin) → turned ≤ length s.requests →
    begin_with s.job row turned placed ≡ Ok start → Suits s start
with_suits s row turned (Err why) start few is = absurd (cc is)
with_suits s row turned (Ok placed) start few is =
    let same : record { row = row; turned = turned; states = map (counts_at placed) (workers_in s.job) } ≡ start = cc in
    subst (Suits s) same (record { turned = few; states = length-map (workers_in s.job) (counts_at placed) })

issued_suits : (s : SetupView) (rows row turned : ℕ) (spelled : List Spelled) (start : Begin) (b : Bool) → (turned == issued_up_to row rows (afters s.requests)) ≡ b →
    (if b then begin_with s.job row turned (placed_from s.job 1 None spelled) else Err (fault.Count (issued_up_to row rows (afters s.requests)))) ≡ Ok start → Suits s start
issued_suits s rows row turned spelled start true same is =
    with_suits s row turned (placed_from s.job 1 None spelled) start
    (let e = eqb-true turned (issued_up_to row rows (afters s.requests)) same in omega (arith, e, counted_le row rows s.requests)) is
issued_suits s rows row turned spelled start false same is = absurd (cc is)

past_suits : (s : SetupView) (rows row turned : ℕ) (spelled : List Spelled) (start : Begin) (b : Bool) →
    (if b then Err (fault.Past row) else (if turned == issued_up_to row rows (afters s.requests)
    then begin_with s.job row turned (placed_from s.job 1 None spelled)
    else Err (fault.Count (issued_up_to row rows (afters s.requests))))) ≡ Ok start → Suits s start
past_suits s rows row turned spelled start true is = absurd (cc is)
past_suits s rows row turned spelled start false is =
    issued_suits s rows row turned spelled start (turned == issued_up_to row rows (afters s.requests)) refl is

by_suits : (s : SetupView) (rows : ℕ) (head : Option (ℕ × ℕ)) (later : Result (List Spelled) SaveFault) (start : Begin) → begin_by s rows head later ≡ Ok start → Suits s start
by_suits s rows None later start is = absurd (cc is)
by_suits s rows (Some head) (Err why) start is = absurd (cc is)
by_suits s rows (Some (row, turned)) (Ok spelled) start is = past_suits s rows row turned spelled start (nat_lt rows row) is

in_suits : (s : SetupView) (rows : ℕ) (all : List (List (List ℕ))) (start : Begin) → begin_in s rows all ≡ Ok start → Suits s start
in_suits s rows [] start is = absurd (cc is)
in_suits s rows (head ∷ later) start is = by_suits s rows (head_of head) (spelled_from 1 later) start is

pub save_suits : (s : SetupView) (rows : ℕ) (bytes : List ℕ) (start : Begin) → save_of s rows bytes ≡ Ok start → Suits s start
save_suits s rows bytes start is = in_suits s rows (records default_config (strip_bom bytes)) start is
