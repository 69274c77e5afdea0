-- The sizes of a list of requests, and their limits.
use Rattle.std.specs.Prelude.{ℕ, List, length, codes, Option, ◌≤◌, All}
use Rattle.std.specs.Option.{option_or}
use Rattle.toml.specs.Data.{Data, Members}
use Rattle.jobs.specs.Limits.{Oversize, first_oversize, outside, oversize}
use Rattle.jobs.specs.declared.fault.Which.TheVariants as which
use Rattle.versions.specs.declared.request.Change.{Change}
use Rattle.versions.specs.declared.request.Request.{Request}
use Rattle.job_file.specs.declared.fault.Part.TheVariants as part
use Rattle.job_file.specs.Document.{optional_items_at, table_of}
use Rattle.job_file.specs.Wide.{first_found, found_in, wide_at}
use Rattle.versions.specs.declared.limits.TheConstants.{MAX_AFTER, MAX_CHANGES, MAX_REQUESTS}

-- ---- numbers that a request has no room for

-- the most pieces of a change
abbrev pub wide_change : Data → Option Oversize
wide_change d = found_in (wide_at (codes "most") which.Most) (table_of part.Change d)

-- the row of a request, else the first number of its changes
abbrev pub wide_request : Members → Option Oversize
wide_request ms =
    option_or (wide_at (codes "after") which.After ms)
    (found_in (first_found wide_change) (optional_items_at (codes "change") part.Change ms))

-- the first wide number of the request that a value spells, if it is a table
abbrev pub wide_request_item : Data → Option Oversize
wide_request_item d = found_in wide_request (table_of part.Request d)

-- the first number of the requests that is wide
abbrev pub wide_in_requests : Members → Option Oversize
wide_in_requests ms =
    found_in (first_found wide_request_item) (optional_items_at (codes "request") part.Request ms)

-- ---- sizes outside of their limits

-- the first size of a change's function that is outside of the limits of a job's functions
abbrev pub change_oversize : Change → Option Oversize
change_oversize change = oversize change.func

-- the first size of a request that is outside of its limits: it comes after row 0 to 1,048,576, and
-- has up to 64 changes
abbrev pub request_oversize : Request → Option Oversize
request_oversize request =
    option_or (outside which.After 0 MAX_AFTER request.after)
    (option_or (outside which.Changes 0 MAX_CHANGES (length request.changes))
    (first_oversize change_oversize request.changes))

-- the first size of a list of requests that is outside of its limits: there are up to `most`
abbrev pub list_oversize : ℕ → List Request → Option Oversize
list_oversize most requests =
    option_or (outside which.Requests 0 most (length requests))
    (first_oversize request_oversize requests)

-- up to `most` requests, each with so few changes that it can be judged
pub record AreUpTo (most : ℕ) (requests : List Request) : Type 0 where
  pub count : length requests ≤ most
  pub changes : All (λ (request : Request). length request.changes ≤ MAX_CHANGES) requests

-- so few requests with so few changes that they can be judged
abbrev pub AreFew : List Request → Type 0
AreFew requests = AreUpTo MAX_REQUESTS requests
