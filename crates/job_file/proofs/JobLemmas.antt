-- A file that has a fault is no job's, and has that fault alone.
use Rattle.std.proofs.Common.{◌≡◌, ◌≢◌, ℕ, List, Result, Ok, Err, ap, sym, ◌∙◌}
use Rattle.jobs.specs.Law.{IsLawful}
use Rattle.jobs.specs.JobView.{JobView}
use Rattle.jobs.proofs.OneFaultLemmas.{IsRefused-one}
use Rattle.jobs.proofs.UnlawfulLemmas.{IsRefused-unlawful}
use Rattle.job_file.specs.declared.fault.JobFault.{JobFault}
use Rattle.job_file.specs.declared.fault.JobFault.TheVariants as fault
use Rattle.job_file.specs.Faults.{of_law}
use Rattle.job_file.specs.Job.{IsFaultIn, IsFaultOf, IsJobIn, job_of}

-- a lawful job has no fault
IsFaultOf-Ok : (f : JobFault) (job : JobView) → f ≢ fault.NoMemory → IsLawful job → IsFaultOf f (Ok job) → ⊥
IsFaultOf-Ok f job other lawful (law, is, refused) = IsRefused-unlawful law job (λ memory. other (is ∙ ap of_law memory)) lawful refused

pub IsFaultIn-no_job : (bytes : List ℕ) (f : JobFault) (job : JobView) → f ≢ fault.NoMemory → IsFaultIn bytes f → IsJobIn bytes job → ⊥
IsFaultIn-no_job bytes f job other faulty is = IsFaultOf-Ok f job other is.1 (rw is.0 at faulty)

IsFaultOf-one : (f g : JobFault) (read : Result JobView JobFault) → f ≢ fault.NoMemory → g ≢ fault.NoMemory → IsFaultOf f read → IsFaultOf g read → f ≡ g
IsFaultOf-one f g (Err first) other other' is is' = is ∙ sym is'
IsFaultOf-one f g (Ok job) other other' (law, is, refused) (law', is', refused') =
    let same = IsRefused-one law law' job (λ memory. other (is ∙ ap of_law memory)) (λ memory. other' (is' ∙ ap of_law memory)) refused refused' in
    is ∙ ap of_law same ∙ sym is'

pub IsFaultIn-one : (bytes : List ℕ) (f g : JobFault) → f ≢ fault.NoMemory → g ≢ fault.NoMemory → IsFaultIn bytes f → IsFaultIn bytes g → f ≡ g
IsFaultIn-one bytes f g = IsFaultOf-one f g (job_of bytes)
