-- The parts of the audit of a stream.
use Rattle.std.specs.Prelude.{◌≡◌, ◌≢◌, ◌&&◌, ◌||◌, ◌++◌, ℕ, Bool, false, true, not, All, List, []}
use Rattle.std.specs.Prelude.{◌∷◌, Option, None, Some, codes, nat_eq, if◌then◌else◌}
use Rattle.std.specs.Cmp.Lexicographic.{pointwise}
use Rattle.jobs.specs.JobView.{JobView}
use Rattle.keyed_state.specs.Counts.{Counts}
use Rattle.payments.specs.Reading.{begins_with}
use Rattle.sink_journal.specs.Audit.{audit_header, audit_records}
use Rattle.sink_journal.specs.declared.audit.Noted.{Noted}
use Rattle.sink_journal.specs.declared.journal.Entry.{Entry}
use Rattle.sink_journal.specs.declared.journal.Feed.{Feed}
use Rattle.sink_journal.specs.declared.journal.Feed.TheVariants as feed

-- the first field of a record says that a request was refused
abbrev pub is_refused_record : List (List ℕ) → Bool
is_refused_record fields = begins_with (codes "refused") fields

-- the first field says that the feeder fed a row
abbrev pub is_fed_record : List (List ℕ) → Bool
is_fed_record fields = begins_with (codes "fed") fields

-- the first field says that the feeder issued a request
abbrev pub is_issued_record : List (List ℕ) → Bool
is_issued_record fields = begins_with (codes "issued") fields

-- the first field says that the feeder ended its lanes
abbrev pub is_stop_record : List (List ℕ) → Bool
is_stop_record fields = begins_with (codes "stopped") fields

-- the record is of a refused request or of the feeder, whose records a part begins with
abbrev pub leads : List (List ℕ) → Bool
leads fields =
    is_refused_record fields || is_fed_record fields || is_issued_record fields
    || is_stop_record fields

-- a part may end with the record: it is the feeder's last, or no record of those that lead
abbrev pub may_end : List (List ℕ) → Bool
may_end fields = is_stop_record fields || not (leads fields)

-- a border stands between two neighbouring records
abbrev pub is_border : List (List ℕ) → List (List ℕ) → Bool
is_border fields next = leads next && may_end fields

-- parts with a record more before them: it joins the first part, unless a border stands there
abbrev pub before_parts :
    List (List ℕ) → List (List (List (List ℕ))) → List (List (List (List ℕ)))
before_parts fields [] = (fields ∷ []) ∷ []
before_parts fields ([] ∷ later) = (fields ∷ []) ∷ later
before_parts fields ((next ∷ part) ∷ later) =
    if is_border fields next then (fields ∷ []) ∷ (next ∷ part) ∷ later
    else (fields ∷ next ∷ part) ∷ later

-- the records, cut at each border
abbrev pub cut_parts : List (List (List ℕ)) → List (List (List (List ℕ)))
cut_parts [] = []
cut_parts (fields ∷ later) = before_parts fields (cut_parts later)

-- No border stands between two neighbours of these records.
abbrev pub HasNoBorder : List (List (List ℕ)) → Type 0
HasNoBorder records = (before after : List (List (List ℕ))) (fields next : List (List ℕ))
    → records ≡ before ++ fields ∷ next ∷ after → is_border fields next ≡ false

-- A border stands between the last record of each part and the first record of the next part.
abbrev pub HaveBorders : List (List (List (List ℕ))) → Type 0
HaveBorders parts = (earlier later : List (List (List (List ℕ))))
    (before after : List (List (List ℕ))) (fields next : List (List ℕ))
    → parts ≡ earlier ++ (before ++ fields ∷ []) ∷ (next ∷ after) ∷ later
    → is_border fields next ≡ true

-- the parts after the header, if the first record is the header
abbrev pub parts_of : List (List (List ℕ)) → Option (List (List (List (List ℕ))))
parts_of [] = None
parts_of (header ∷ later) =
    if pointwise (pointwise nat_eq) header audit_header then Some (cut_parts later) else None

-- The records are those of one part of a run of this job. The feeder stops last.
pub record IsPartRecords (job : JobView) (part : List (List (List ℕ))) : Type 0 where
  pub refused : List Noted
  pub steps : List Feed
  pub journals : List (List Entry)
  pub states : List Counts
  pub going : All (λ step. step ≢ feed.Stopped) steps
  pub written : part ≡ audit_records job refused (steps ++ feed.Stopped ∷ []) journals states
