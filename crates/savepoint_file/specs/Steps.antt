-- What a text tells, in the steps in which it is read.
use Rattle.std.specs.Prelude.{ℕ, ℤ, pos, ◌+◌, Bool, List, [], ◌∷◌, ◌++◌, Option, Some, None, Result}
use Rattle.std.specs.Prelude.{Ok, Err, min, nat_le, option_map}
use Rattle.std.specs.Cmp.Lexicographic.{slice_cmp}
use Rattle.std.specs.Ordering.{is_lt, nat_cmp}
use Rattle.jobs.specs.JobView.{JobView}
use Rattle.versions.specs.declared.request.Request.{Request}
use Rattle.flow_model.specs.SetupView.{Worker}
use Rattle.savepoint.specs.SaveReading.{Placed, Spelled, is_worker_of, one_more, one_placed}
use Rattle.savepoint.specs.SaveReading.{placed_of, spelled_of}
use Rattle.savepoint.specs.declared.fault.SaveFault.{SaveFault}
use Rattle.savepoint.specs.declared.fault.SaveFault.TheVariants as fault

abbrev pub spelled_with : List ℕ → ℤ → List ℕ → ℤ → Spelled
spelled_with name place key count =
    record { name = name; place = place; key = key; count = count }

-- the worker counts, has this node's name and this place, and is the one to which the key is led
abbrev pub takes_key : JobView → List ℕ → ℤ → List ℕ → Worker → Bool
takes_key job name place key who = is_worker_of job (spelled_with name place key (pos 0)) who

-- the key comes before the other by its bytes
abbrev pub is_before : List ℕ → List ℕ → Bool
is_before one other = is_lt (slice_cmp nat_cmp one other)

-- what a record spells, in its place, followed by the later ones
abbrev pub one_read :
    ℕ → Option (Option Placed) → Result (List (Option Placed)) SaveFault →
    Result (List (Option Placed)) SaveFault
one_read number None later = Err (fault.Shape number)
one_read number (Some placed) later = one_more placed later

-- what the records spell, each in its place, if it has one; the first has this number
abbrev pub read_from :
    JobView → ℕ → List (List (List ℕ)) → Result (List (Option Placed)) SaveFault
read_from job number [] = Ok []
read_from job number (first ∷ later) =
    one_read number (option_map (placed_of job) (spelled_of first))
    (read_from job (number + 1) later)

-- the counts, if each has a place and comes after the one before it
abbrev pub placed_in :
    ℕ → Option Placed → List (Option Placed) → Result (List Placed) SaveFault
placed_in number before [] = Ok []
placed_in number before (first ∷ later) =
    one_placed number before first (λ placed. placed_in (number + 1) (Some placed) later)

-- those that are there
abbrev pub there : {A : Type 0} → List (Option A) → List A
there [] = []
there (None ∷ more) = there more
there (Some x ∷ more) = x ∷ there more

-- items, followed by those that are still to come, or their fault
abbrev pub with_those_after : {A : Type 0} → List A
    → Result (List A) SaveFault → Result (List A) SaveFault
with_those_after first (Ok later) = Ok (first ++ later)
with_those_after first (Err fault) = Err fault

-- of `rows` rows: the request is issued up to `row`
abbrev pub is_issued_up_to : ℕ → ℕ → Request → Bool
is_issued_up_to row rows request = nat_le (min request.after rows) row
