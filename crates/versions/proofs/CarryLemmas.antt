-- Accepted requests divide counts by one or more, where they divide them.
use Rattle.std.proofs.Common.{get_or, ◌≡◌, ◌+◌, ℕ, ℤ, pos, Bool, false, List, [], ◌∷◌, Option, Some, None, refl, arith}
use Rattle.std.specs.Prelude.{int_lt, not, slice_get, ◌≤ℤ◌}
use Rattle.std.proofs.lemmas.Bool.{or_parts}
use Rattle.std.proofs.lemmas.Int.{by_lt_z, ints}
use Rattle.std.proofs.lemmas.Option.{slice_get-get_or}
use Rattle.std.proofs.lemmas.List.Elements.{All-cons, All-nil}
use Rattle.keyed_state.specs.Counts.{CanCarry}
use Rattle.keyed_state.specs.declared.carry.Carry.{Carry}
use Rattle.keyed_state.specs.declared.carry.Carry.TheVariants as carry
use Rattle.jobs.specs.JobView.{JobView}
use Rattle.versions.specs.declared.book.Current.{Current}
use Rattle.versions.specs.declared.judging.Code.TheVariants as code
use Rattle.versions.specs.declared.fault.QFault.{QFault}
use Rattle.versions.specs.declared.request.Change.{Change}
use Rattle.versions.specs.declared.request.Request.{Request}
use Rattle.versions.specs.Book.{accepted, first_book}
use Rattle.versions.specs.Judged.{AreAccepted, accepting, by_fault, judged_from, refusing}
use Rattle.versions.specs.Judging.{fault_of, is_bad_carry, is_count_at}
use Rattle.versions.specs.Kept.{CarriesWell, CarryWell}
use Rattle.versions.proofs.KeptLemmas.{free_parts}
use Rattle.versions.proofs.YoungLemmas.{none_each}

not_below : (a b : ℤ) → int_lt a b ≡ false → b ≤ℤ a
not_below a b e = by_lt_z a b (λ lt. absurd (omega (arith, ints))) (λ le. le)

good_carry : (counts : Bool) (by : Carry) → is_bad_carry counts by ≡ false → CanCarry by
good_carry counts carry.Keep e = tt
good_carry counts carry.Reset e = tt
good_carry counts (carry.Scale by over) e = not_below over (pos 1) (or_parts (not counts) (int_lt over (pos 1)) e).1
good_carry counts (carry.DropBelow least) e = tt

free-carry : (book : List Current) (job : JobView) (request : Request) (last : ℕ) → fault_of book job request last ≡ None → CarriesWell request
free-carry book job request last free =
    let none = (free_parts book job request last free).1 in
    λ i d lt.
    let change : Change = get_or request.changes i d in
    good_carry (is_count_at (slice_get job.nodes change.node)) change.carry (none_each code.BadCarry book job [] request.changes none i change (slice_get-get_or request.changes i d lt))

judged-carry : (job : JobView) (book : List Current) (last place : ℕ) (requests : List Request) → (judged_from None job book last place requests).refused ≡ [] → CarryWell requests
unfolding judged_from
judged-carry job book last place [] e = All-nil CarriesWell
judged-carry job book last place (r ∷ rest) e = go (fault_of book job r last) refl e (judged-carry job (accepted book r.changes) r.after (place + 1) rest)
  where
    go : (o : Option QFault) → fault_of book job r last ≡ o
        → (by_fault o (λ fault. refusing place fault (judged_from None job book last (place + 1) rest)) (accepting r (judged_from None job (accepted book r.changes) r.after (place + 1) rest))).refused ≡ []
        → ((judged_from None job (accepted book r.changes) r.after (place + 1) rest).refused ≡ [] → CarryWell rest)
        → CarryWell (r ∷ rest)
    go None is f later = All-cons CarriesWell r rest (free-carry book job r last is) (later f)
    go (Some q) is f later = absurd (cc)

pub accepted-carry : (job : JobView) (requests : List Request) → AreAccepted job requests → CarryWell requests
accepted-carry job requests e = judged-carry job (first_book job.nodes) 0 1 requests e
