-- Books whose versions are small, and requests that they can take.
use Rattle.std.proofs.Common.{◌≡◌, ◌<◌, ◌≤◌, ◌+◌, ◌-◌, ◌^◌, ℕ, List, [], ◌∷◌, ◌++◌, length, take, Some, None, false, refl, sym, subst, ◌∙◌, inl, inr, arith, zero, suc, slice_set, append_assoc}
use Rattle.std.proofs.lemmas.Grind.{common_steps}
use Rattle.std.proofs.lemmas.Option.{gets, same_Some, slice_get_cases, slice_get_within}
use Rattle.std.proofs.lemmas.Bool.{cases_Bool, cases_eq}
use Rattle.std.proofs.lemmas.Bool.Decides.{nat_tests}
use Rattle.std.proofs.lemmas.List.{append-nil}
use Rattle.std.specs.List.{slice_get}
use Rattle.std.specs.Prelude.{nat_le}
use Rattle.jobs.specs.JobView.{JobView}
use Rattle.jobs.specs.declared.func.NodeDef.{NodeDef}
use Rattle.jobs.proofs.LimitLemmas.{option_or-none}
use Rattle.versions.specs.declared.book.Current.{Current}
use Rattle.versions.specs.declared.judging.Code.{Code}
use Rattle.versions.specs.declared.judging.Code.TheVariants as code
use Rattle.versions.specs.declared.request.Change.{Change}
use Rattle.versions.specs.declared.fault.QFault.TheVariants as fault
use Rattle.versions.specs.declared.request.Request.{Request}
use Rattle.versions.specs.Book.{CanAccept, accepted, current_version, first_book, with_change}
use Rattle.versions.specs.Judging.{fault_of, first_with, has_fault, named}
use Rattle.versions.specs.Young.{IsBelow, IsYoung}
use Rattle.versions.proofs.BookLemmas.{long_still, other_place}
use Rattle.versions.proofs.FirstLemmas.{named-none, one_found, one_more}

pub same_place : (book : List Current) (i : ℕ) (v : Current) → i < length book → slice_get (slice_set book i v) i ≡ Some v
same_place book i v lt = grind (arith, common_steps, gets)

current_small : (book : List Current) (n bound : ℕ) → IsBelow book bound → current_version (slice_get book n) ≤ bound
current_small book n bound below =
    elim (slice_get_cases book n).1 [
      | inl (x, lt, is, at) ↦ let small : x.version ≤ bound = below n x is in rw is small
      | inr (past, is) ↦ rw is (omega arith)
    ]

below_change : (book : List Current) (v : Current) (node bound : ℕ) → v.version ≤ bound + 1 → IsBelow book bound → IsBelow (slice_set book node v) (bound + 1)
below_change book v node bound small below n current is =
    let inside : n < length book = omega (arith, slice_get_within (slice_set book node v) n current is, long_still book node v) in
    elim (cases_eq node n) [
      | inl same ↦
          let at : slice_get (slice_set book node v) n ≡ Some v = rw (← same) (same_place book node v (omega (arith, same, inside))) in
          let this : v ≡ current = same_Some v current (sym at ∙ is) in
          subst (λ (x : Current). x.version ≤ bound + 1) this small
      | inr ne ↦
          let old : current.version ≤ bound = below n current (sym (other_place book node n v ne) ∙ is) in
          omega (arith, old)
    ]

-- each change raises a version by at most one
pub IsYoung-accepted : (job : JobView) (book : List Current) (cs : List Change) (bound : ℕ) → IsYoung job book bound → IsYoung job (accepted book cs) (bound + length cs)
unfolding accepted
IsYoung-accepted job book [] bound young = record { long = young.long; below = λ n current is. omega (arith, young.below n current is) }
IsYoung-accepted job book (c ∷ cs) bound young =
    let v : Current = record { version = current_version (slice_get book c.node) + 1; func = c.func } in
    let small : v.version ≤ bound + 1 = omega (arith, current_small book c.node bound young.below) in
    let here : IsYoung job (with_change book c.node c.func) (bound + 1) = record { long = long_still book c.node v ∙ young.long; below = below_change book v c.node bound small young.below } in
    let rest = IsYoung-accepted job (with_change book c.node c.func) cs (bound + 1) here in
    record { long = rest.long; below = λ n current is. omega (arith, rest.below n current is) }

pub none_each : (k : Code) (book : List Current) (job : JobView) (before cs : List Change) → first_with k book job before cs ≡ None
    → (i : ℕ) (c : Change) → slice_get cs i ≡ Some c → has_fault k book job (before ++ take i cs) c ≡ false
none_each k book job before [] none i c at = absurd cc
none_each k book job before (d ∷ rest) none zero c at =
    elim (cases_Bool (has_fault k book job before d)) [
      | inl found ↦ let both : Some (length before) ≡ None = sym (one_found k book job before d rest found) ∙ none in absurd cc
      | inr free ↦
          let same : d ≡ c = same_Some d c at in
          rw (append-nil before, ← same) free
    ]
none_each k book job before (d ∷ rest) none (suc i) c at =
    elim (cases_Bool (has_fault k book job before d)) [
      | inl found ↦ let both : Some (length before) ≡ None = sym (one_found k book job before d rest found) ∙ none in absurd cc
      | inr free ↦
          let later = none_each k book job (before ++ d ∷ []) rest (sym (one_more k book job before d rest free) ∙ none) i c at in
          subst (λ (x : List Change). has_fault k book job x c ≡ false) (append_assoc before (d ∷ []) (take i rest)) later
    ]

pub not_above : (a b : ℕ) → nat_le a b ≡ false → b < a
not_above a b e = grind (arith, nat_tests)

-- a request without a fault can be accepted
pub CanAccept-fault_of : (job : JobView) (book : List Current) (r : Request) (last bound : ℕ) → IsYoung job book bound → bound < 2 ^ 64 - 1 → fault_of book job r last ≡ None → CanAccept book r.changes
CanAccept-fault_of job book r last bound young room free =
    let one = option_or-none (named fault.NoNode (first_with code.NoNode book job [] r.changes)) _ free in
    let two = option_or-none (named fault.Fixed (first_with code.Fixed book job [] r.changes)) _ one.1 in
    let three = option_or-none (named fault.NodeTwice (first_with code.NodeTwice book job [] r.changes)) _ two.1 in
    let there = none_each code.NoNode book job [] r.changes (named-none fault.NoNode (first_with code.NoNode book job [] r.changes) one.0) in
    let apart = none_each code.NodeTwice book job [] r.changes (named-none fault.NodeTwice (first_with code.NodeTwice book job [] r.changes) three.0) in
    record {
      there = λ i c at. omega (arith, young.long, not_above (length job.nodes) c.node (there i c at));
      room = λ i c at current is. omega (arith, room, young.below c.node current is);
      apart = λ i c at. apart i c at;
    }

first_below : (nodes : List NodeDef) → IsBelow (first_book nodes) 0
first_below [] n current is = absurd cc
first_below (x ∷ nodes) zero current is =
    let v : Current = record { version = 0; func = x.func } in
    let same : v ≡ current = same_Some v current is in
    rw (← same) (omega arith)
first_below (x ∷ nodes) (suc n) current is = first_below nodes n current is

first_long : (nodes : List NodeDef) → length (first_book nodes) ≡ length nodes
first_long [] = refl
first_long (x ∷ nodes) = omega (arith, first_long nodes)

pub IsYoung-first_book : (job : JobView) (bound : ℕ) → IsYoung job (first_book job.nodes) bound
IsYoung-first_book job bound = record { long = first_long job.nodes; below = λ n current is. omega (arith, first_below job.nodes n current is) }
