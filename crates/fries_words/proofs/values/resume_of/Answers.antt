use Rattle.std.proofs.Common.{◌≡◌, ◌∙◌, ◌||◌, Bool, None, Option, Some, codes, false, refl, subst, sym, true}
use Rattle.std.specs.Prelude.{if◌then◌else◌, option_and_then}
use Rattle.std.specs.Str.{bytes_eq}
use Rattle.std.proofs.lemmas.Option.{same_Some}
use Rattle.clap.specs.Words.{first_value, found_of}
use Rattle.fries_words.specs.Form.{Text}
use Rattle.fries_words.specs.Asked.{PlanAsked, RunAsked, run_asked}
use Rattle.fries_words.specs.Words.{engine_in, is_true, value_named, resume_with, run_over, unordered_in}
use Rattle.fries_words.specs.declared.command.EngineSize.{EngineSize}
use Rattle.fries_words.proofs.values.resume_of.Goals as goal

-- a run with these names of its alerts and its audit, if they are apart
written_over : (run : RunAsked) (save : Text) (same : Bool) → (bytes_eq run.alerts save || bytes_eq run.audit save) ≡ true →
    option_and_then (resume_with save) (if same then None else Some run) ≡ None
written_over run save true is = refl
written_over run save false is = rw is refl

-- a savepoint that the run writes
written : (plan : PlanAsked) (exact : Bool) (payments alerts audit save : Text) (size : Option EngineSize) → (bytes_eq alerts save || bytes_eq audit save) ≡ true →
    option_and_then (resume_with save) (option_and_then (run_over plan exact payments alerts audit) size) ≡ None
written plan exact payments alerts audit save None is = refl
written plan exact payments alerts audit save (Some size) is =
    written_over (record { plan = plan; payments = payments; alerts = alerts; audit = audit; size = size; exact = exact }) save (bytes_eq alerts audit) is

resumed_over : (made run : RunAsked) (save : Text) (same : Bool) → (bytes_eq made.alerts save || bytes_eq made.audit save) ≡ false →
    (if same then None else Some made) ≡ Some run →
    option_and_then (resume_with save) (if same then None else Some made) ≡ Some (record { run = run; save = save })
resumed_over made run save true is e = absurd (cc)
resumed_over made run save false is e =
    subst (λ (r : RunAsked). option_and_then (resume_with save) (Some made) ≡ Some (record { run = r; save = save })) (same_Some made run e) (rw is refl)

-- and one that it doesn't write
resumed : (plan : PlanAsked) (exact : Bool) (payments alerts audit save : Text) (size : Option EngineSize) (run : RunAsked) → (bytes_eq alerts save || bytes_eq audit save) ≡ false →
    option_and_then (run_over plan exact payments alerts audit) size ≡ Some run →
    option_and_then (resume_with save) (option_and_then (run_over plan exact payments alerts audit) size) ≡ Some (record { run = run; save = save })
resumed plan exact payments alerts audit save None run is e = absurd (cc)
resumed plan exact payments alerts audit save (Some size) run is e =
    resumed_over (record { plan = plan; payments = payments; alerts = alerts; audit = audit; size = size; exact = exact }) run save (bytes_eq alerts audit) is e

pub returns-then-writes-clause-usage : goal.returns-then-writes-clause-usage
returns-then-writes-clause-usage c =
    let v = first_value (found_of c.args.values.now) in
    let is = rw c.text_in.ensures at (sym c.writes.ensures ∙ c.if-writes.true) in
    λ other. written (unordered_in v) (is_true (v (codes "exact"))) (value_named v (codes "payments")) (value_named v (codes "alerts")) (value_named v (codes "audit")) (value_named v (codes "save")) (engine_in v) is

pub returns-clause-asked : goal.returns-clause-asked
returns-clause-asked c =
    let v = first_value (found_of c.args.values.now) in
    let is = rw c.text_in.ensures at (sym c.writes.ensures ∙ c.if-writes.false) in
    rw c.in_ok-save.ensures (resumed (unordered_in v) (is_true (v (codes "exact"))) (value_named v (codes "payments")) (value_named v (codes "alerts")) (value_named v (codes "audit")) (value_named v (codes "save")) (engine_in v) (run_asked c.in_ok-run.run') is c.in_ok-run.ensures.asked)
