-- Audits of streams that have no header.
use Rattle.std.proofs.Common.{◌≡◌, ◌∷◌, ℕ, List, [], ap}
use Rattle.audit_laws.specs.Verdict.{HasNoHeader}
use Rattle.jobs.specs.JobView.{JobView}
use Rattle.sink_journal.specs.Audit.{audit_header}
use Rattle.audit_stream.specs.Together.{together}

-- put together, they have none either
pub no_header : (job : JobView) (records : List (List (List ℕ))) → HasNoHeader records →
    HasNoHeader (together job records)
no_header job [] none = none
no_header job (first ∷ body) none = λ later e.
    let same : first ≡ audit_header = cc in
    none body (ap (λ (fields : List (List ℕ)). fields ∷ body) same)
