-- Why a stream is given up.
use Rattle.std.proofs.Common.{◌≡◌, ◌∙◌, ℕ, List, Option, ap, inr, refl}
use Rattle.payments.specs.Causes.{Faults}
use Rattle.payments.specs.Files.{Files}
use Rattle.fries_steps.specs.Reading.{IsUnread}
use Rattle.fries_lines.specs.declared.fault.Fault.{Fault}
use Rattle.fries_lines.specs.declared.fault.Fault.TheVariants as fault
use Rattle.fries_lines.specs.declared.fault.FileIs.{FileIs}
use Rattle.stream_run.specs.Growing.{Names}
use Rattle.stream_turns.specs.Turns.{IsGivenUp}

-- a read that failed is counted as none that was written
pub unread-writes : (is : FileIs) (Refuses : Fault → List ℕ → Type 0) (files : Option Files)
    (name : List ℕ) (old new : Faults) (why : Fault)
    → IsUnread is Refuses files name old new why → new.writes ≡ old.writes
unread-writes is Refuses files name old new (fault.Read which) p = p.1.writes
unread-writes is Refuses files name old new (fault.Long which) p =
    ap (λ (f : Faults). f.writes) p.2
unread-writes is Refuses files name old new fault.NoMemory p = ap (λ (f : Faults). f.writes) p
unread-writes is Refuses files name old new fault.Usage p = ap (λ (f : Faults). f.writes) p.1
unread-writes is Refuses files name old new (fault.Job code) p =
    ap (λ (f : Faults). f.writes) p.1
unread-writes is Refuses files name old new (fault.Requests code) p =
    ap (λ (f : Faults). f.writes) p.1
unread-writes is Refuses files name old new (fault.Payments code) p =
    ap (λ (f : Faults). f.writes) p.1
unread-writes is Refuses files name old new (fault.Save code) p =
    ap (λ (f : Faults). f.writes) p.1
unread-writes is Refuses files name old new (fault.Audit code) p =
    ap (λ (f : Faults). f.writes) p.1
unread-writes is Refuses files name old new (fault.Alerts line) p =
    ap (λ (f : Faults). f.writes) p.1
unread-writes is Refuses files name old new (fault.Part part) p =
    ap (λ (f : Faults). f.writes) p.1
unread-writes is Refuses files name old new (fault.Write which) p =
    ap (λ (f : Faults). f.writes) p.1

-- a stream that was given up later
pub given-up-later : (names : Names) (old mid new : Faults) (why : Fault)
    → mid.writes ≡ old.writes → IsGivenUp names mid new why → IsGivenUp names old new why
given-up-later names old mid new why same (before, is, unwritten) =
    (before, is ∙ same, unwritten)

-- memory ran out, and nothing was counted but reads
pub given-up-memory : (names : Names) (old new : Faults) → new.writes ≡ old.writes
    → IsGivenUp names old new fault.NoMemory
given-up-memory names old new same = (new, same, inr (inr (inr (refl, refl))))
