-- What `save` and then `resume` run over the same files is one run.
use Rattle.std.proofs.Common.{◌≡◌, ◌⊎◌, ◌∙◌, ◌++◌, ◌∷◌, ℕ, List, [], Option, None, Some, Ok, cond, false, inl, inr, length, min, ap, subst, sym, map}
use Rattle.std.specs.Prelude.{IfSome, unwrap_or}
use Rattle.std.specs.Ordering.{is_eq}
use Rattle.std.specs.Cmp.{tied_itself}
use Rattle.std.specs.Cmp.Lexicographic.{nat_list_cmp_total}
use Rattle.std.specs.FinMap as map
use Rattle.std.specs.declared.cmp.Ordering.{Ordering}
use Rattle.jobs.specs.Job.{job_view}
use Rattle.jobs.specs.JobView.{JobView}
use Rattle.jobs.specs.Nodes.{AreFromSources}
use Rattle.job_file.specs.Job.{IsJobIn}
use Rattle.job_file.specs.RequestFile.{requests_of}
use Rattle.payments.specs.Files.{Files, bytes_of, told_bytes, with_bytes}
use Rattle.payments.specs.Reading.{rows_of}
use Rattle.payments.specs.World.{ShelfState, World}
use Rattle.tuple_trace.specs.Rows.{AreRows}
use Rattle.tuple_trace.specs.declared.row.Row.{Row}
use Rattle.versions.specs.declared.request.Request.{Request}
use Rattle.flow_model.specs.Begin.{Begin}
use Rattle.flow_model.specs.Consistent.{IsConsistent}
use Rattle.flow_model.specs.Record.{record_view}
use Rattle.flow_model.specs.Run.{IsRun, Ran}
use Rattle.flow_model.specs.Setup.{setup_view}
use Rattle.flow_model.specs.SetupView.{SetupView}
use Rattle.flow_model.specs.declared.record.RunRecord.{RunRecord}
use Rattle.flow_model.specs.declared.setup.Setup.{Setup}
use Rattle.flow_model.proofs.FreshLemmas.{is_fresh, is_fresh_before}
use Rattle.flow_model.proofs.OnceLemmas.{met_once}
use Rattle.flow_model.proofs.OneTableLemmas.{one_table}
use Rattle.flow_model.proofs.RunLemmas.{Running}
use Rattle.flow_model.proofs.SetupLemmas.{running}
use Rattle.flow_model.proofs.WholeLemmas.{whole}
use Rattle.savepoint.specs.SaveReading.{save_of}
use Rattle.fries_words.specs.Asked.{Asked, Resume, ResumeAsked, Save, SaveAsked}
use Rattle.fries_words.specs.Words.{asked_of}
use Rattle.fries_lines.specs.declared.fault.Fault.{Fault}
use Rattle.fries_lines.specs.declared.fault.FileIs.{FileIs}
use Rattle.fries_lines.specs.declared.fault.FileIs.TheVariants as file
use Rattle.fries_steps.specs.Effects.{FileText, StoresWhole}
use Rattle.fries_steps.specs.OneRun.{AreOneRun, GoesOn}
use Rattle.fries_steps.specs.Outcomes.{EndsAfterRun, EndsStoring, StopsFor, stopped}
use Rattle.fries_steps.specs.Parts.{IsFirstPart, IsRunFromStart}
use Rattle.fries_steps.specs.Reading.{AreRequestsOf, AreRowsOf, HasReadFile, IsJobOf, IsStartIn, TellsFile}
use Rattle.fries_steps.specs.Running.{Runs, alerts_of, audit_of, files_written, run_lines, saved_of}
use Rattle.fries_steps.specs.SetupFor.{AreSame, IsSetupFor}
use Rattle.fries_steps.specs.declared.answer.Answer.{Answer}
use Rattle.fries_steps.specs.declared.running.Done.{Done}
use Rattle.fries_steps.proofs.FileLemmas.{same_bytes, same_job, same_requests, same_rows, told_so}
use Rattle.fries_steps.proofs.OneRunLemmas.{are_one_run}
use Rattle.fries_call.specs.Answers.{Answered, Ends, outcome_as_view}
use Rattle.fries_call.specs.Inputs.{AreNoInputs}
use Rattle.fries_call.specs.Resume.{EndsResume, IsNoResume, IsResumedRun}
use Rattle.fries_call.specs.Save.{EndsSave, IsSavedRun}
use Rattle.fries_call.specs.declared.outcome.Outcome.{Outcome}
use Rattle.fries_law.specs.TwoCalls.{AreCallsOfOneRun, FindsSameFiles, IsCallFor, SavedCallsAreOneRun}
use Rattle.fries_law.proofs.RowLemmas.{rows_are}

-- ---- what a call answered

-- what is so of what there is
of_some : {A : Type 0} (o : Option A) (P : A → Type 0) (x : A) → o ≡ Some x → IfSome o P → P x
of_some {A} o P x is holds = subst (λ (p : Option A). IfSome p P) is holds

-- a call whose words ask for this answered so
answered : (asked : Asked) (old new : World) (outcome : Outcome) → (call : IsCallFor asked old new outcome) → Answered (Ends asked call.before call.after) old new (outcome_as_view outcome)
answered asked old new outcome call =
    of_some (asked_of call.words) (λ (found : Asked). Answered (Ends found call.before call.after) old new (outcome_as_view outcome)) asked call.words_ask call.answers

-- one of two, if it isn't the first
second_of : {A B : Type 0} → A ⊎ B → (A → ⊥) → B
second_of (inl x) none = absurd (none x)
second_of (inr y) none = y

-- ---- what `save` leaves

get_stored : (m : Files) (name bytes : List ℕ) → map.get (map.insert m name bytes) name ≡ Some bytes
get_stored m name bytes =
    map.get-insert nat_list_cmp_total m name bytes name ∙ ap (λ (o : Ordering). cond (is_eq o) (Some bytes) (map.get m name)) (tied_itself nat_list_cmp_total name)

told_after : (text : FileText) (old new : World) (m : Files) → StoresWhole text old new → old.shelf.files ≡ Some m → new.shelf.files ≡ Some (map.insert m text.name text.text)
told_after text old new m stores told = stores.files ∙ ap (λ (f : Option Files). with_bytes f text.name text.text) told

last_told : (m : Files) (name bytes : List ℕ) (files : Option Files) → files ≡ Some (map.insert m name bytes) → told_bytes files name ≡ Some bytes
last_told m name bytes files is = ap (λ (f : Option Files). told_bytes f name) is ∙ ap (λ (g : Option (List ℕ)). Some (unwrap_or g [])) (get_stored m name bytes)

-- where texts were stored one after the other, and nothing ended it, the last one stands there
last_stored : (texts : List FileText) (last : FileText) (lines : List ℕ) (old new : World) (m : Files) → old.shelf.files ≡ Some m → EndsStoring (texts ++ last ∷ []) lines old new None
    → told_bytes new.shelf.files last.name ≡ Some last.text
last_stored [] last lines old new m told (inl stops) = absurd (cc stops.answer_is)
last_stored [] last lines old new m told (inr (stored, stores, prints)) =
    ap (λ (s : ShelfState). told_bytes s.files last.name) prints.shelf ∙ last_told m last.name last.text stored.shelf.files (told_after last old stored m stores told)
last_stored (text ∷ texts) last lines old new m told (inl stops) = absurd (cc stops.answer_is)
last_stored (text ∷ texts) last lines old new m told (inr (stored, stores, rest)) =
    last_stored texts last lines stored new (map.insert m text.name text.text) (told_after text old stored m stores told) rest

save_stored : (alerts audit save lines : List ℕ) (done : Done) (old new : World) (m : Files) → old.shelf.files ≡ Some m → EndsAfterRun (files_written alerts (Some audit) (Some save) done) lines old new None
    → told_bytes new.shelf.files save ≡ Some (saved_of done)
save_stored alerts audit save lines done old new m told (inl stops) = absurd (cc stops.answer_is)
save_stored alerts audit save lines done old new m told (inr storing) =
    last_stored (record { is = file.Alerts; name = alerts; text = alerts_of done } ∷ record { is = file.Audit; name = audit; text = audit_of done } ∷ [])
    (record { is = file.Save; name = save; text = saved_of done }) lines old new m told storing

-- what `save` ran, and that its text stands there
record HasSaved (asked : SaveAsked) (old new : World) (part : RunRecord) : Type 0 where
  done : Done
  is_so : IsSavedRun asked old.shelf.files done
  ran_is : done.ran ≡ part
  save : told_bytes new.shelf.files asked.save ≡ Some (saved_of done)

-- a call that stopped ran nothing
nothing_ran : (answer : Answer) (why : Fault) (ran : RunRecord) → answer ≡ stopped why → answer.ran ≡ Some ran → ⊥
nothing_ran answer why ran stops is =
    let gone : ◌≡◌ {A = Option RunRecord} None (Some ran) = sym (ap (λ (x : Answer). x.ran) stops) ∙ is in
    absurd (cc gone)

-- what a call ran is what it answers
one_record : (answer : Answer) (done : Done) (ran : RunRecord) → answer.ran ≡ Some done.ran → answer.ran ≡ Some ran → done.ran ≡ ran
one_record answer done ran is also = let both : ◌≡◌ {A = Option RunRecord} (Some done.ran) (Some ran) = sym is ∙ also in cc

saved_there : (asked : SaveAsked) (old between new : World) (answer : Answer) (part : RunRecord) (m : Files) → old.shelf.files ≡ Some m → new.shelf ≡ between.shelf
    → Runs (IsSavedRun asked old.shelf.files) asked.run.alerts (Some asked.run.audit) (Some asked.save) None old between answer → answer.fault ≡ None → answer.ran ≡ Some part → HasSaved asked old new part
saved_there asked old between new answer part m told same r fine ran =
    let ends : EndsAfterRun (files_written asked.run.alerts (Some asked.run.audit) (Some asked.save) r.done) (run_lines r.done) old between None =
    subst (λ (f : Option Fault). EndsAfterRun (files_written asked.run.alerts (Some asked.run.audit) (Some asked.save) r.done) (run_lines r.done) old between f) fine r.outcome in
    record {
      done = r.done;
      is_so = r.is_so;
      ran_is = one_record answer r.done part r.ran ran;
      save = ap (λ (s : ShelfState). told_bytes s.files asked.save) same ∙ save_stored asked.run.alerts asked.run.audit asked.save (run_lines r.done) r.done old between m told ends;
    }

saved_after : (asked : SaveAsked) (old between new : World) (answer : Answer) (part : RunRecord) (m : Files) → old.shelf.files ≡ Some m → new.shelf ≡ between.shelf → EndsSave asked old between answer
    → answer.fault ≡ None → answer.ran ≡ Some part → HasSaved asked old new part
saved_after asked old between new answer part m told same ends fine ran =
    saved_there asked old between new answer part m told same
    (second_of ends (λ (s : StopsFor (AreNoInputs old.shelf.files asked.run.plan asked.run.payments) old between answer). nothing_ran answer s.why part s.answer_is ran)) fine ran

has_saved : (asked : SaveAsked) (old new : World) (outcome : Outcome) (part : RunRecord) (m : Files) → old.shelf.files ≡ Some m → IsCallFor (Save asked) old new outcome → outcome.fault ≡ None
    → outcome.ran ≡ Some part → HasSaved asked old new part
has_saved asked old new outcome part m told call fine ran =
    let a : Answered (Ends (Save asked) call.before call.after) old new (outcome_as_view outcome) = answered (Save asked) old new outcome call in
    saved_after asked old a.between new (outcome_as_view outcome) part m told a.prints.shelf a.ends fine ran

-- ---- what `resume` ran

record HasResumed (asked : ResumeAsked) (later : World) (rest : RunRecord) : Type 0 where
  start : Begin
  done : Done
  is_so : IsResumedRun asked later.shelf.files start done
  ran_is : done.ran ≡ rest

resumed_there : (asked : ResumeAsked) (later between : World) (start : Begin) (answer : Answer) (rest : RunRecord)
    → Runs (IsResumedRun asked later.shelf.files start) asked.run.alerts (Some asked.run.audit) None (Some start) later between answer → answer.ran ≡ Some rest → HasResumed asked later rest
resumed_there asked later between start answer rest r ran = record { start = start; done = r.done; is_so = r.is_so; ran_is = one_record answer r.done rest r.ran ran }

resumed_from : (asked : ResumeAsked) (later between : World) (answer : Answer) (rest : RunRecord)
    → ((start : Begin) × Runs (IsResumedRun asked later.shelf.files start) asked.run.alerts (Some asked.run.audit) None (Some start) later between answer) → answer.ran ≡ Some rest
    → HasResumed asked later rest
resumed_from asked later between answer rest r ran = resumed_there asked later between r.0 answer rest r.1 ran

resumed_after : (asked : ResumeAsked) (later between : World) (answer : Answer) (rest : RunRecord) → EndsResume asked later between answer → answer.ran ≡ Some rest → HasResumed asked later rest
resumed_after asked later between answer rest ends ran =
    resumed_from asked later between answer rest
    (second_of ends (λ (s : StopsFor (IsNoResume asked later.shelf.files) later between answer). nothing_ran answer s.why rest s.answer_is ran)) ran

has_resumed : (asked : ResumeAsked) (later end : World) (outcome : Outcome) (rest : RunRecord) → IsCallFor (Resume asked) later end outcome → outcome.ran ≡ Some rest → HasResumed asked later rest
has_resumed asked later end outcome rest call ran =
    let a : Answered (Ends (Resume asked) call.before call.after) later end (outcome_as_view outcome) = answered (Resume asked) later end outcome call in
    resumed_after asked later a.between (outcome_as_view outcome) rest a.ends ran

-- ---- both

-- what was read of a file stands in another one that holds the same
told_again : (is : FileIs) (P : List ℕ → Type 0) (files later : Option Files) (name other told : List ℕ) → told_bytes files name ≡ Some told → told_bytes later other ≡ told_bytes files name → HasReadFile is P files name
    → TellsFile is P later other
told_again is P files later name other told there same has = record {
  bytes = has.bytes;
  told = same ∙ (there ∙ ap Some (sym (same_bytes is files name has.bytes told has.read there)));
  short = has.read.short;
  are_so = has.are_so;
}

-- every run of a setup over rows that enter by sources is consistent
consistent_run : (setup : Setup) (rows : List Row) → AreRows rows → (ran : Ran) → IsRun (setup_view setup) rows ran → AreFromSources (setup_view setup).job rows → IsConsistent rows ran
consistent_run setup rows are ran is sources =
    let g : Running rows ran = running setup rows ran are is in
    record {
      whole = λ request row. whole rows ran g request row;
      once = λ node. met_once rows ran g node;
      fresh = is_fresh rows ran g;
      fresh_before = is_fresh_before rows ran g;
      one_table = λ none. one_table rows ran g none (subst (λ (s : SetupView). AreFromSources s.job rows) (sym is.setup_is) sources);
    }

-- what stands in files that are told
told_there : (files : Option Files) (all : Files) (name : List ℕ) → files ≡ Some all → told_bytes files name ≡ Some (bytes_of all name)
told_there files all name is = ap (λ (x : Option Files). told_bytes x name) is

-- files with the same bytes hold one job
one_job : (files later : Option Files) (all : Files) (name other : List ℕ) (job again : JobView) → files ≡ Some all → told_bytes later other ≡ told_bytes files name
    → IsJobOf files name job → IsJobOf later other again → again ≡ job
one_job files later all name other job again told same was now =
    same_job later other again job now (told_again file.Job (λ bytes. IsJobIn bytes job) files later name other (bytes_of all name) (told_there files all name told) same was)

-- and the same requests of it
one_asking : (files later : Option Files) (all : Files) (name other : List ℕ) (job again : JobView) (requests asked : List Request) → files ≡ Some all → told_bytes later other ≡ told_bytes files name
    → again ≡ job → AreRequestsOf files name job requests → AreRequestsOf later other again asked → asked ≡ requests
one_asking files later all name other job again requests asked told same jobs was now =
    same_requests later other job asked requests (subst (λ (j : JobView). AreRequestsOf later other j asked) jobs now)
    (told_again file.Requests (λ bytes. requests_of job bytes ≡ Ok requests) files later name other (bytes_of all name) (told_there files all name told) same was)

-- and the same rows
one_feed : (files later : Option Files) (all : Files) (name other : List ℕ) (job again : JobView) (rows fed : List Row) → files ≡ Some all → told_bytes later other ≡ told_bytes files name
    → again ≡ job → AreRowsOf files name job rows → AreRowsOf later other again fed → fed ≡ rows
one_feed files later all name other job again rows fed told same jobs was now =
    same_rows later other job fed rows (subst (λ (j : JobView). AreRowsOf later other j fed) jobs now)
    (told_again file.Payments (λ bytes. rows_of job bytes ≡ Ok rows) files later name other (bytes_of all name) (told_there files all name told) same was)

-- a later run with the same job, requests and rows goes on from the text that was saved
goes_on : (job again : JobView) (requests asked : List Request) (rows fed : List Row) (files : Option Files) (save : List ℕ) (start : Begin) (first second : Done)
    → again ≡ job → asked ≡ requests → fed ≡ rows → IsSetupFor AreSame false again asked second.ran.setup → IsStartIn files save (setup_view second.ran.setup) (length fed) start
    → IsRunFromStart start second.ran.setup asked fed second → told_bytes files save ≡ Some (saved_of first) → GoesOn job requests rows second.ran.setup start first second
goes_on job again requests asked rows fed files save start first second jobs asks feeds made starts run told =
    let setup : Setup = second.ran.setup in
    let of_save : IsStartIn files save (setup_view setup) (length rows) start = subst (λ (l : List Row). IsStartIn files save (setup_view setup) (length l) start) feeds starts in
    record {
      setup_is = subst (λ (r : List Request). IsSetupFor AreSame false job r setup) asks (subst (λ (j : JobView). IsSetupFor AreSame false j asked setup) jobs made);
      reads = told_so file.Save (λ bytes. save_of (setup_view setup) (length rows) bytes ≡ Ok start) files save (saved_of first) of_save told;
      run = subst (λ (l : List Row). IsRunFromStart start setup requests l second) feeds (subst (λ (r : List Request). IsRunFromStart start setup r fed second) asks run);
    }

-- so both parts are one run, since rows that were read are numbered and enter by sources
one_run_of_parts : (row : ℕ) (job : JobView) (requests : List Request) (rows : List Row) (bytes : List ℕ) (start : Begin) (first second : Done) → rows_of job bytes ≡ Ok rows
    → IsFirstPart row job requests rows first → GoesOn job requests rows second.ran.setup start first second
    → AreOneRun (setup_view second.ran.setup) rows row (record_view first.ran) (record_view second.ran)
one_run_of_parts row job requests rows bytes start first second read part on =
    let are : AreRows rows × AreFromSources job rows = rows_are job bytes rows read in
    are_one_run second.ran.setup rows are.0 (consistent_run second.ran.setup rows are.0) row job requests start first second are.1 part on

-- the job of a first part
job_of_part : (row : ℕ) (job : JobView) (requests : List Request) (rows : List Row) (done : Done) → IsFirstPart row job requests rows done → job_view done.ran.setup.job ≡ job
job_of_part row job requests rows done part = ap (λ (s : SetupView). s.job) part.cut ∙ part.setup.job_is

runs_are_one : (first : SaveAsked) (second : ResumeAsked) (old new later : Option Files) (start : Begin) (saved resumed : Done) → FindsSameFiles first second old new later
    → IsSavedRun first old saved → IsResumedRun second later start resumed → told_bytes new first.save ≡ Some (saved_of saved) → AreCallsOfOneRun first old saved.ran resumed.ran
runs_are_one first second old new later start saved resumed same a b there =
    let row : ℕ = min first.rows (length a.rows) in
    let jobs : b.job ≡ a.job = one_job old later same.files first.run.plan.job second.run.plan.job a.job b.job same.told same.job a.of_files.of_job b.of_files.of_job in
    let asks : b.requests ≡ a.requests =
    one_asking old later same.files first.run.plan.requests second.run.plan.requests a.job b.job a.requests b.requests same.told same.requests jobs a.of_files.of_requests b.of_files.of_requests in
    let feeds : b.rows ≡ a.rows =
    one_feed old later same.files first.run.payments second.run.payments a.job b.job a.rows b.rows same.told same.payments jobs a.of_files.of_rows b.of_files.of_rows in
    let on : GoesOn a.job a.requests a.rows resumed.ran.setup start saved resumed =
    goes_on a.job b.job a.requests b.requests a.rows b.rows later second.save start saved resumed jobs asks feeds b.setup b.of_save b.run (same.save ∙ there) in
    record {
      rows = a.rows;
      of_rows = subst (λ (j : JobView). AreRowsOf old first.run.payments j a.rows) (sym (job_of_part row a.job a.requests a.rows saved a.part)) a.of_files.of_rows;
      one_run = one_run_of_parts row a.job a.requests a.rows a.of_files.of_rows.bytes start saved resumed a.of_files.of_rows.are_so a.part on;
    }

-- the same of the records that the calls answered
calls_of_one_run : (first : SaveAsked) (second : ResumeAsked) (old new later : World) (part rest : RunRecord) → FindsSameFiles first second old.shelf.files new.shelf.files later.shelf.files
    → HasSaved first old new part → HasResumed second later rest → AreCallsOfOneRun first old.shelf.files part rest
calls_of_one_run first second old new later part rest same f g =
    subst (λ (r : RunRecord). AreCallsOfOneRun first old.shelf.files part r) g.ran_is
    (subst (λ (r : RunRecord). AreCallsOfOneRun first old.shelf.files r g.done.ran) f.ran_is
    (runs_are_one first second old.shelf.files new.shelf.files later.shelf.files g.start f.done g.done same f.is_so g.is_so f.save))

pub one_run_of_calls : SavedCallsAreOneRun
one_run_of_calls first second old new later end saved resumed part rest a fine ran b also same =
    calls_of_one_run first second old new later part rest same (has_saved first old new saved part same.files same.told a fine ran) (has_resumed second later end resumed rest b also)
