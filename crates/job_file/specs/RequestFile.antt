-- The requests of a file, or the first thing that is wrong with it.
use Rattle.std.specs.Prelude.{ℕ, List, Option, None, Some, Result, Ok, Err}
use Rattle.toml.specs.Data.{Members}
use Rattle.jobs.specs.Limits.{Oversize}
use Rattle.jobs.specs.JobView.{JobView}
use Rattle.versions.specs.declared.limits.TheConstants.{MAX_REQUESTS}
use Rattle.versions.specs.declared.request.Request.{Request}
use Rattle.job_file.specs.declared.fault.ReqFileFault.{ReqFileFault}
use Rattle.job_file.specs.declared.fault.ReqFileFault.TheVariants as fault
use Rattle.job_file.specs.Document.{and_then, document_of}
use Rattle.job_file.specs.Faults.{in_request_form}
use Rattle.job_file.specs.RequestSizes.{list_oversize, wide_in_requests}
use Rattle.job_file.specs.Requests.{list_in}

-- requests, unless this size is outside of its limits
abbrev pub unless_outside : Option Oversize → Result (List Request) ReqFileFault
    → Result (List Request) ReqFileFault
unless_outside None requests = requests
unless_outside (Some (size, number)) requests = Err (fault.Limit size number)

-- up to `most` requests, of which none has a size outside of its limits
abbrev pub within_limits : ℕ → List Request → Result (List Request) ReqFileFault
within_limits most requests = unless_outside (list_oversize most requests) (Ok requests)

-- the requests of the table of a document: their form, then their wide numbers, then their sizes
abbrev pub requests_in : ℕ → JobView → Members → Result (List Request) ReqFileFault
requests_in most job ms =
    and_then (in_request_form (list_in job ms))
    (λ requests. unless_outside (wide_in_requests ms) (within_limits most requests))

-- the up to `most` requests that a file makes of a job, or its first fault
abbrev pub requests_up_to : ℕ → JobView → List ℕ → Result (List Request) ReqFileFault
requests_up_to most job bytes =
    and_then (in_request_form (document_of bytes)) (requests_in most job)

-- the requests that a file makes of a job, or its first fault
abbrev pub requests_of : JobView → List ℕ → Result (List Request) ReqFileFault
requests_of job bytes = requests_up_to MAX_REQUESTS job bytes
