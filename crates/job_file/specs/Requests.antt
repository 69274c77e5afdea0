-- The layout of a request file.
use Rattle.std.specs.Prelude.{ℤ, List, [], ◌∷◌, codes, Result, Ok, Err, if◌then◌else◌}
use Rattle.toml.specs.Data.{Data, Members}
use Rattle.jobs.specs.JobView.{JobView}
use Rattle.versions.specs.declared.request.Change.{Change}
use Rattle.versions.specs.declared.request.Request.{Request}
use Rattle.job_file.specs.declared.fault.FormFault.{FormFault}
use Rattle.job_file.specs.declared.fault.FormFault.TheVariants as fault
use Rattle.job_file.specs.declared.fault.Part.TheVariants as part
use Rattle.job_file.specs.Changes.{change_of}
use Rattle.job_file.specs.Document.{all_of, and_then, has_only, optional_items_at, table_of}
use Rattle.job_file.specs.Document.{whole_of_key}
use Rattle.job_file.specs.Numbers.{nearest}

-- the changes of a request
abbrev pub changes_in : JobView → Members → Result (List Change) FormFault
changes_in job ms =
    and_then (optional_items_at (codes "change") part.Change ms) (all_of (change_of job))

-- the request with these parts
abbrev pub request_with : ℤ → List Change → Result Request FormFault
request_with after changes = Ok (record { after = nearest after; changes = changes })

-- the request of a table: its keys, its row and its changes
abbrev pub request_in : JobView → Members → Result Request FormFault
request_in job ms =
    if has_only (codes "after" ∷ codes "change" ∷ []) [] ms then
    and_then (whole_of_key (codes "after") part.After ms) (λ after.
    and_then (changes_in job ms) (request_with after))
    else Err (fault.Shape part.Unknown)

-- the request that a value spells, which has to be a table
abbrev pub request_of : JobView → Data → Result Request FormFault
request_of job d = and_then (table_of part.Request d) (request_in job)

-- the requests of the table of a document
abbrev pub list_in : JobView → Members → Result (List Request) FormFault
list_in job ms =
    if has_only (codes "request" ∷ []) [] ms
    then and_then (optional_items_at (codes "request") part.Request ms) (all_of (request_of job))
    else Err (fault.Shape part.Unknown)
