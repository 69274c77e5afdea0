-- Arrays that have another length than a condition, a step or a carry.
use Rattle.std.proofs.Common.{◌≡◌, ◌≢◌, List, [], ◌∷◌, length, Err, refl}
use Rattle.toml.specs.View.{items_view}
use Rattle.toml.specs.declared.value.Value.{Value}
use Rattle.jobs.specs.declared.column.Column.{Column}
use Rattle.job_file.specs.declared.fault.FormFault.TheVariants as fault
use Rattle.job_file.specs.declared.fault.Part.TheVariants as part
use Rattle.job_file.specs.Carries.{carry_from}
use Rattle.job_file.specs.Conds.{cond_in}
use Rattle.job_file.specs.Steps.{step_in}

pub cond_in-length : (columns : List Column) (parts : List Value) → length parts ≢ 3 → cond_in columns (items_view parts) ≡ Err (fault.Shape part.When)
cond_in-length columns [] other = refl
cond_in-length columns (a ∷ []) other = refl
cond_in-length columns (a ∷ b ∷ []) other = refl
cond_in-length columns (a ∷ b ∷ c ∷ []) other = absurd (other refl)
cond_in-length columns (a ∷ b ∷ c ∷ d ∷ parts) other = refl

pub step_in-length : (columns : List Column) (parts : List Value) → length parts ≢ 4 → step_in columns (items_view parts) ≡ Err (fault.Shape part.Steps)
step_in-length columns [] other = refl
step_in-length columns (a ∷ []) other = refl
step_in-length columns (a ∷ b ∷ []) other = refl
step_in-length columns (a ∷ b ∷ c ∷ []) other = refl
step_in-length columns (a ∷ b ∷ c ∷ d ∷ []) other = absurd (other refl)
step_in-length columns (a ∷ b ∷ c ∷ d ∷ e ∷ parts) other = refl

pub carry_from-length : (parts : List Value) → length parts ≢ 3 → length parts ≢ 2 → carry_from (items_view parts) ≡ Err (fault.Shape part.Carry)
carry_from-length [] three two = refl
carry_from-length (a ∷ []) three two = refl
carry_from-length (a ∷ b ∷ []) three two = absurd (two refl)
carry_from-length (a ∷ b ∷ c ∷ []) three two = absurd (three refl)
carry_from-length (a ∷ b ∷ c ∷ d ∷ parts) three two = refl
