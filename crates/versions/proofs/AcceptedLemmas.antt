-- What accepted requests name.
use Rattle.std.proofs.Common.{◌≡◌, ◌<◌, ◌+◌, ℕ, Bool, true, false, List, [], ◌∷◌, ◌++◌, length, Option, Some, None, refl, arith}
use Rattle.std.specs.Prelude.{All, nat_le, if◌then◌else◌}
use Rattle.std.proofs.lemmas.Bool.{leb-false}
use Rattle.std.proofs.lemmas.List.Elements.{All-cons}
use Rattle.jobs.specs.JobView.{JobView}
use Rattle.jobs.proofs.LimitLemmas.{option_or-none}
use Rattle.versions.specs.declared.book.Current.{Current}
use Rattle.versions.specs.declared.judging.Code.TheVariants as code
use Rattle.versions.specs.declared.fault.QFault.{QFault}
use Rattle.versions.specs.declared.fault.QFault.TheVariants as fault
use Rattle.versions.specs.declared.request.Change.{Change}
use Rattle.versions.specs.declared.request.Request.{Request}
use Rattle.versions.specs.Book.{accepted, first_book}
use Rattle.versions.specs.Judging.{fault_of, fault_within, first_with, late_split}
use Rattle.versions.proofs.FirstLemmas.{named-none}
use Rattle.versions.specs.Judged.{AreAccepted, NameNodes, accepting, by_fault, judged_from, judged_within, refusing}

-- the change names one of so many nodes
abbrev pub IsInside : ℕ → Change → Type 0
IsInside nodes change = change.node < nodes

none-inside : (book : List Current) (job : JobView) (before changes : List Change) → first_with code.NoNode book job before changes ≡ None → All (IsInside (length job.nodes)) changes
unfolding first_with
none-inside book job before [] e = λ k d lt. absurd (omega arith)
none-inside book job before (c ∷ changes) e = go (nat_le (length job.nodes) c.node) refl e (none-inside book job (before ++ c ∷ []) changes)
  where
    go : (b : Bool) → nat_le (length job.nodes) c.node ≡ b → (if b then Some (length before) else first_with code.NoNode book job (before ++ c ∷ []) changes) ≡ None
        → (first_with code.NoNode book job (before ++ c ∷ []) changes ≡ None → All (IsInside (length job.nodes)) changes)
        → All (IsInside (length job.nodes)) (c ∷ changes)
    go true is f later = absurd (cc)
    go false is f later = All-cons (IsInside (length job.nodes)) c changes (leb-false (length job.nodes) c.node is) (later f)

free-inside : (book : List Current) (job : JobView) (request : Request) (last : ℕ) → fault_of book job request last ≡ None → All (IsInside (length job.nodes)) request.changes
free-inside book job request last free = none-inside book job [] request.changes (named-none fault.NoNode (first_with code.NoNode book job [] request.changes) (option_or-none _ _ free).0)

judged-inside : (job : JobView) (book : List Current) (last place : ℕ) (requests : List Request) → (judged_from None job book last place requests).refused ≡ []
    → NameNodes job requests
unfolding judged_from
judged-inside job book last place [] e = λ k d lt. absurd (omega arith)
judged-inside job book last place (r ∷ rest) e =
    go (fault_of book job r last) refl e (judged-inside job (accepted book r.changes) r.after (place + 1) rest)
  where
    go : (o : Option QFault) → fault_of book job r last ≡ o
        → (by_fault o (λ fault. refusing place fault (judged_from None job book last (place + 1) rest)) (accepting r (judged_from None job (accepted book r.changes) r.after (place + 1) rest))).refused ≡ []
        → ((judged_from None job (accepted book r.changes) r.after (place + 1) rest).refused ≡ [] → NameNodes job rest)
        → NameNodes job (r ∷ rest)
    go None is f later = All-cons (λ (request : Request). All (IsInside (length job.nodes)) request.changes) r rest (free-inside book job r last is) (later f)
    go (Some q) is f later = absurd (cc)

pub accepted-inside : (job : JobView) (requests : List Request) → AreAccepted job requests → NameNodes job requests
accepted-inside job requests e = judged-inside job (first_book job.nodes) 0 1 requests e

-- a request without a fault has none if any node may be a split
pub free-anywhere : (splits : Option ℕ) (book : List Current) (job : JobView) (request : Request) (last : ℕ) → fault_within splits book job request last ≡ None → fault_of book job request last ≡ None
free-anywhere None book job request last free = free
free-anywhere (Some mask) book job request last free = (option_or-none (fault_of book job request last) (late_split mask request.changes) free).0

alone : (splits : Option ℕ) (job : JobView) (book : List Current) (last place place' : ℕ) (requests : List Request)
    → (judged_from None job book last place' (judged_from splits job book last place requests).accepted).refused ≡ []
unfolding judged_from
alone splits job book last place place' [] = refl
alone splits job book last place place' (r ∷ rest) =
    go (fault_within splits book job r last) refl (alone splits job (accepted book r.changes) r.after (place + 1) (place' + 1) rest) (alone splits job book last (place + 1) place' rest)
  where
    go : (o : Option QFault) → fault_within splits book job r last ≡ o
        → (judged_from None job (accepted book r.changes) r.after (place' + 1) (judged_from splits job (accepted book r.changes) r.after (place + 1) rest).accepted).refused ≡ []
        → (judged_from None job book last place' (judged_from splits job book last (place + 1) rest).accepted).refused ≡ []
        → (judged_from None job book last place' (by_fault o (λ fault. refusing place fault (judged_from splits job book last (place + 1) rest)) (accepting r (judged_from splits job (accepted book r.changes) r.after (place + 1) rest))).accepted).refused ≡ []
    go None is taken left = rw (free-anywhere splits book job r last is) taken
    go (Some q) is taken left = left

pub accepted-alone : (splits : Option ℕ) (job : JobView) (requests : List Request) → AreAccepted job (judged_within splits job requests).accepted
accepted-alone splits job requests = alone splits job (first_book job.nodes) 0 1 1 requests
