-- What a file that a call reads is answered by, and how the end of a call is.
use Rattle.std.proofs.Common.{◌≡◌, ◌≤◌, ◌<◌, ◌⊎◌, ◌∙◌, ◌∷◌, [], inl, inr, ℕ, List, Option, None, Some, Ok, Err, length, refl, sym, ap, subst, arith}
use Rattle.std.specs.Prelude.{IfSome}
use Rattle.jobs.specs.JobView.{JobView}
use Rattle.job_file.specs.Job.{Excludes, HaveOneFault, IsJobIn}
use Rattle.job_file.specs.RequestFile.{requests_of}
use Rattle.job_file.specs.declared.fault.JobFault.{JobFault}
use Rattle.payments.specs.Causes.{Faults}
use Rattle.payments.specs.Files.{Files, told_bytes}
use Rattle.payments.specs.Reading.{rows_of}
use Rattle.tuple_trace.specs.Counts.{Rose}
use Rattle.tuple_trace.specs.declared.row.Row.{Row}
use Rattle.versions.specs.declared.request.Request.{Request}
use Rattle.flow_model.specs.Begin.{Begin}
use Rattle.flow_model.specs.SetupView.{SetupView}
use Rattle.savepoint.specs.SaveReading.{save_of}
use Rattle.fries_steps.specs.Outcomes.{EndsAfterRun, EndsStoring, StopsStoring}
use Rattle.payments.specs.World.{ShelfState, SinkState, World, world}
use Rattle.fries_steps.specs.Effects.{FileText, IsExcused, Prints, PrintsFault}
use Rattle.fries_lines.specs.Faults.{limit_of}
use Rattle.fries_steps.specs.Reading.{AreRequestsOf, AreRowsOf, FollowsFile, HasReadFile, IsJobOf, IsRead, IsUnread, RefusesJob, RefusesRequests, RefusesRows, RefusesSave, TellsFile, TellsJob, TellsRequests, TellsRows, TellsStart}
use Rattle.fries_lines.specs.declared.fault.Fault.{Fault}
use Rattle.fries_lines.specs.declared.fault.Fault.TheVariants as fault
use Rattle.fries_lines.specs.declared.fault.FileIs.{FileIs}
use Rattle.fries_lines.specs.declared.fault.FileIs.TheVariants as file
use Rattle.fries_steps.proofs.PrintLemmas.{prints_or}

-- ---- bytes that are told

-- what was read of a file that is told are its bytes
pub same_bytes : (is : FileIs) (files : Option Files) (name bytes told : List ℕ) → IsRead is files name bytes → told_bytes files name ≡ Some told → bytes ≡ told
same_bytes is files name bytes told read e = rw e at read.told

-- a file that was read isn't too long
pub not_long : (is : FileIs) (P : List ℕ → Type 0) (files : Option Files) (name told : List ℕ) → HasReadFile is P files name → told_bytes files name ≡ Some told → limit_of is < length told → ⊥
not_long is P files name told has e above =
    let short : length told ≤ limit_of is = subst (λ (b : List ℕ). length b ≤ limit_of is) (same_bytes is files name has.bytes told has.read e) has.read.short in
    omega (arith, short, above)

-- what holds of the bytes that were read holds of those that are told
pub told_so : (is : FileIs) (P : List ℕ → Type 0) (files : Option Files) (name told : List ℕ) → HasReadFile is P files name → told_bytes files name ≡ Some told → P told
told_so is P files name told has e = subst P (same_bytes is files name has.bytes told has.read e) has.are_so

-- ---- one file

abbrev pub Apart : (List ℕ → Type 0) → (Fault → List ℕ → Type 0) → Type 0
Apart P Refuses = (why : Fault) (bytes : List ℕ) → P bytes → Refuses why bytes → ⊥

pub follows_excused : (is : FileIs) (Refuses : Fault → List ℕ → Type 0) (name : List ℕ) (old new : World) (answer : Option Fault) →
    IsExcused old new answer → FollowsFile is Refuses name old new answer
follows_excused is Refuses name old new answer why = record { long = λ bytes told above. inr why; refused = λ other tells. inr why }

-- a file that was read
pub follows_read : (is : FileIs) (P : List ℕ → Type 0) (Refuses : Fault → List ℕ → Type 0) (name : List ℕ) (old new : World) (answer : Option Fault) →
    Apart P Refuses → HasReadFile is P old.shelf.files name → FollowsFile is Refuses name old new answer
follows_read is P Refuses name old new answer apart has = record {
  long = λ bytes told above. absurd (not_long is P old.shelf.files name bytes has told above);
  refused = λ why tells. absurd (apart why tells.bytes (told_so is P old.shelf.files name tells.bytes has tells.told) tells.are_so);
}

-- bytes have one fault
abbrev pub IsSole : (Fault → List ℕ → Type 0) → Type 0
IsSole Refuses = (f g : Fault) (bytes : List ℕ) → Refuses f bytes → Refuses g bytes → f ≡ g

-- a file whose bytes are refused
pub follows_refused : (is : FileIs) (Refuses : Fault → List ℕ → Type 0) (name : List ℕ) (old new : World) (why : Fault) →
    IsSole Refuses → HasReadFile is (Refuses why) old.shelf.files name → FollowsFile is Refuses name old new (Some why)
follows_refused is Refuses name old new why sole has = record {
  long = λ bytes told above. absurd (not_long is (Refuses why) old.shelf.files name bytes has told above);
  refused = λ other tells. inl (ap Some (sole why other tells.bytes (told_so is (Refuses why) old.shelf.files name tells.bytes has tells.told) tells.are_so));
}

-- a file that is too long
pub follows_long : (is : FileIs) (Refuses : Fault → List ℕ → Type 0) (name : List ℕ) (old new : World) (which : FileIs) →
    which ≡ is → IfSome (told_bytes old.shelf.files name) (λ bytes. limit_of is < length bytes) → FollowsFile is Refuses name old new (Some (fault.Long which))
follows_long is Refuses name old new which same long = record {
  long = λ bytes told above. inl (ap (λ (f : FileIs). Some (fault.Long f)) same);
  refused = λ other tells. absurd (let above : limit_of is < length tells.bytes = rw tells.told at long in omega (arith, above, tells.short));
}

-- the counts of reads as the call left them, where it read nothing more
pub rose_reads : (old between new : World) → new.shelf ≡ between.shelf → Rose old.shelf.faults.reads between.shelf.faults.reads → Rose old.shelf.faults.reads new.shelf.faults.reads
rose_reads old between new same rose = subst (λ (s : ShelfState). Rose old.shelf.faults.reads s.faults.reads) (sym same) rose

-- a file that wasn't read
pub follows_unread : (is : FileIs) (Refuses : Fault → List ℕ → Type 0) (name : List ℕ) (old between new : World) (why : Fault) → IsSole Refuses →
    new.shelf ≡ between.shelf → IsUnread is Refuses old.shelf.files name old.shelf.faults between.shelf.faults why → FollowsFile is Refuses name old new (Some why)
follows_unread is Refuses name old between new (fault.Read which) sole same unread =
    follows_excused is Refuses name old new (Some (fault.Read which)) (inl (inl (rose_reads old between new same unread.1.rose)))
follows_unread is Refuses name old between new (fault.Long which) sole same unread = follows_long is Refuses name old new which unread.0 unread.1
follows_unread is Refuses name old between new fault.NoMemory sole same unread = follows_excused is Refuses name old new (Some fault.NoMemory) (inr refl)
follows_unread is Refuses name old between new why sole same unread = follows_refused is Refuses name old new why sole unread.0

-- a file that holds what it should is refused by no fault
pub not_refused : (is : FileIs) (P : List ℕ → Type 0) (Refuses : Fault → List ℕ → Type 0) (files : Option Files) (name : List ℕ) (why : Fault) →
    Apart P Refuses → TellsFile is P files name → HasReadFile is (Refuses why) files name → ⊥
not_refused is P Refuses files name why apart tells has = apart why tells.bytes tells.are_so (told_so is (Refuses why) files name tells.bytes has tells.told)

-- where a file holds what it should and yet wasn't read, the call is excused
pub unread_excused : (is : FileIs) (P : List ℕ → Type 0) (Refuses : Fault → List ℕ → Type 0) (name : List ℕ) (old between new : World) (why : Fault) →
    Apart P Refuses → TellsFile is P old.shelf.files name → new.shelf ≡ between.shelf → IsUnread is Refuses old.shelf.files name old.shelf.faults between.shelf.faults why → IsExcused old new (Some why)
unread_excused is P Refuses name old between new (fault.Read which) apart tells same unread = inl (inl (rose_reads old between new same unread.1.rose))
unread_excused is P Refuses name old between new (fault.Long which) apart tells same unread =
    absurd (let above : limit_of is < length tells.bytes = rw tells.told at unread.1 in omega (arith, above, tells.short))
unread_excused is P Refuses name old between new fault.NoMemory apart tells same unread = inr refl
unread_excused is P Refuses name old between new why apart tells same unread = absurd (not_refused is P Refuses old.shelf.files name why apart tells unread.0)

-- ---- what each file holds, or is refused for

pub no_job : Excludes → (job : JobView) → Apart (λ bytes. IsJobIn bytes job) RefusesJob
no_job excludes job (fault.Job code) bytes holds refused = excludes bytes code job refused.0 refused.1 holds
no_job excludes job _ bytes holds refused = absurd refused

pub no_requests : (job : JobView) (requests : List Request) → Apart (λ bytes. requests_of job bytes ≡ Ok requests) (RefusesRequests job)
no_requests job requests (fault.Requests code) bytes holds refused = absurd (let clash : Ok requests ≡ Err code = sym holds ∙ refused.1 in cc)
no_requests job requests _ bytes holds refused = absurd refused

pub no_rows : (job : JobView) (rows : List Row) → Apart (λ bytes. rows_of job bytes ≡ Ok rows) (RefusesRows job)
no_rows job rows (fault.Payments code) bytes holds refused = absurd (let clash : Ok rows ≡ Err code = sym holds ∙ refused.1 in cc)
no_rows job rows _ bytes holds refused = absurd refused

pub sole_job : HaveOneFault → IsSole RefusesJob
sole_job have (fault.Job f) (fault.Job g) bytes x y = ap (λ (code : JobFault). fault.Job code) (have bytes f g x.0 y.0 x.1 y.1)
sole_job have (fault.Job f) _ bytes x y = absurd y
sole_job have _ g bytes x y = absurd x

pub sole_requests : (job : JobView) → IsSole (RefusesRequests job)
sole_requests job (fault.Requests f) (fault.Requests g) bytes x y = let same = sym x.1 ∙ y.1 in cc
sole_requests job (fault.Requests f) _ bytes x y = absurd y
sole_requests job _ g bytes x y = absurd x

pub sole_rows : (job : JobView) → IsSole (RefusesRows job)
sole_rows job (fault.Payments f) (fault.Payments g) bytes x y = let same = sym x.1 ∙ y.1 in cc
sole_rows job (fault.Payments f) _ bytes x y = absurd y
sole_rows job _ g bytes x y = absurd x

pub no_start : (setup : SetupView) (rows : ℕ) (start : Begin) → Apart (λ bytes. save_of setup rows bytes ≡ Ok start) (RefusesSave setup rows)
no_start setup rows start (fault.Save code) bytes holds refused = absurd (let clash : Ok start ≡ Err code = sym holds ∙ refused.1 in cc)
no_start setup rows start _ bytes holds refused = absurd refused

pub sole_start : (setup : SetupView) (rows : ℕ) → IsSole (RefusesSave setup rows)
sole_start setup rows (fault.Save f) (fault.Save g) bytes x y = let same = sym x.1 ∙ y.1 in cc
sole_start setup rows (fault.Save f) _ bytes x y = absurd y
sole_start setup rows _ g bytes x y = absurd x

-- the job that was read of a file that is told is the one that the file holds
pub same_job : (files : Option Files) (name : List ℕ) (job other : JobView) → IsJobOf files name job → TellsJob files name other → job ≡ other
same_job files name job other of tells =
    let there = told_so file.Job (λ bytes. IsJobIn bytes job) files name tells.bytes of tells.told in
    let same = sym there.0 ∙ tells.are_so.0 in cc

pub same_requests : (files : Option Files) (name : List ℕ) (job : JobView) (requests other : List Request) → AreRequestsOf files name job requests → TellsRequests files name job other → requests ≡ other
same_requests files name job requests other of tells =
    let there = told_so file.Requests (λ bytes. requests_of job bytes ≡ Ok requests) files name tells.bytes of tells.told in
    let same = sym there ∙ tells.are_so in cc

pub same_rows : (files : Option Files) (name : List ℕ) (job : JobView) (rows other : List Row) → AreRowsOf files name job rows → TellsRows files name job other → rows ≡ other
same_rows files name job rows other of tells =
    let there = told_so file.Payments (λ bytes. rows_of job bytes ≡ Ok rows) files name tells.bytes of tells.told in
    let same = sym there ∙ tells.are_so in cc

-- ---- savepoints of setups that read the same

abbrev pub ReadSame : SetupView → SetupView → ℕ → Type 0
ReadSame s t rows = (bytes : List ℕ) → save_of s rows bytes ≡ save_of t rows bytes

refuses_same : (s t : SetupView) (rows : ℕ) → ReadSame s t rows → (why : Fault) (bytes : List ℕ) → RefusesSave t rows why bytes → RefusesSave s rows why bytes
refuses_same s t rows same (fault.Save code) bytes refused = (refused.0, same bytes ∙ refused.1)
refuses_same s t rows same _ bytes refused = absurd refused

pub start_follows_same : (s t : SetupView) (rows : ℕ) (name : List ℕ) (old new : World) (answer : Option Fault) → ReadSame s t rows →
    FollowsFile file.Save (RefusesSave s rows) name old new answer → FollowsFile file.Save (RefusesSave t rows) name old new answer
start_follows_same s t rows name old new answer same follows = record {
  long = follows.long;
  refused = λ why tells. follows.refused why (record { bytes = tells.bytes; told = tells.told; short = tells.short; are_so = refuses_same s t rows same why tells.bytes tells.are_so });
}

pub start_told_same : (s t : SetupView) (rows : ℕ) (files : Option Files) (name : List ℕ) (start : Begin) → ReadSame s t rows → TellsStart files name t rows start → TellsStart files name s rows start
start_told_same s t rows files name start same tells =
    record { bytes = tells.bytes; told = tells.told; short = tells.short; are_so = same tells.bytes ∙ tells.are_so }

-- ---- the end of a call

-- the count of the output as the call left it, where the output had refused
pub rose_out : (old between new : World) (answer : Option Fault) → answer ≡ Some (fault.Write file.Out) → Rose old.out.faults between.out.faults → PrintsFault answer between new → Rose old.out.faults new.out.faults
rose_out old between new answer is rose report =
    let line = rw is at report.line in
    subst (λ (s : SinkState). Rose old.out.faults s.faults) (sym line) rose

-- a call that came to printing its lines is done, or excused
pub done_or_excused : (lines : List ℕ) (old between new : World) (answer : Option Fault) →
    Prints lines old.out between.out answer → PrintsFault answer between new → (answer ≡ None) ⊎ IsExcused old new answer
done_or_excused lines old between new answer prints report =
    elim (prints_or lines old.out between.out answer prints) [
      | inl done ↦ inl done
      | inr (inl (is, rose)) ↦ inr (inl (inr (inr (rose_out old between new answer is rose report))))
      | inr (inr none) ↦ inr (inr none)
    ]

-- a call that couldn't store a text is excused
pub storing_excused : (text : FileText) (old between new : World) (answer : Option Fault) → StopsStoring text old between answer → new.shelf ≡ between.shelf → IsExcused old new answer
storing_excused text old between new answer stops same =
    elim stops.cause [
      | inl (is, failed) ↦ inl (inr (inl (subst (λ (s : ShelfState). Rose old.shelf.faults.writes s.faults.writes) (sym same) failed.rose)))
      | inr (is, kept) ↦ inr (stops.answer_is ∙ ap (λ (f : Fault). Some f) is)
    ]

-- what excuses it once texts are stored excuses it as it began, since nothing was counted
pub excused_before : (old stored new : World) (answer : Option Fault) → stored.shelf.faults ≡ old.shelf.faults → stored.out ≡ old.out →
    ((answer ≡ None) ⊎ IsExcused stored new answer) → (answer ≡ None) ⊎ IsExcused old new answer
excused_before old stored new answer shelf out excused =
    subst (λ (o : SinkState). (answer ≡ None) ⊎ IsExcused (world old.shelf o) new answer) out
    (subst (λ (f : Faults). (answer ≡ None) ⊎ IsExcused (world (record (old.shelf) { faults = f }) stored.out) new answer) shelf excused)

-- a call that came to storing texts and printing its lines is done, or excused
pub stored_or_excused : (texts : List FileText) (lines : List ℕ) (old between new : World) (answer : Option Fault) →
    EndsStoring texts lines old between answer → PrintsFault answer between new → (answer ≡ None) ⊎ IsExcused old new answer
stored_or_excused [] lines old between new answer outcome report = done_or_excused lines old between new answer outcome.prints report
stored_or_excused (text ∷ later) lines old between new answer outcome report =
    elim outcome [
      | inl stops ↦ inr (storing_excused text old between new answer stops report.shelf)
      | inr (stored, stores, rest) ↦ excused_before old stored new answer stores.faults stores.out (stored_or_excused later lines stored between new answer rest report)
    ]

-- a call whose run is complete is done, or excused
pub ran_or_excused : (texts : List FileText) (lines : List ℕ) (old between new : World) (answer : Option Fault) →
    EndsAfterRun texts lines old between answer → PrintsFault answer between new → (answer ≡ None) ⊎ IsExcused old new answer
ran_or_excused texts lines old between new answer outcome report =
    elim outcome [
      | inl stops ↦ inr (inr stops.answer_is)
      | inr outcome ↦ stored_or_excused texts lines old between new answer outcome report
    ]
