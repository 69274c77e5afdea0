-- The waits that records show fit their requests.
use Rattle.std.proofs.Common.{◌≡◌, ◌∙◌, ◌<◌, ◌≤◌, ℕ, zero, suc, List, [], ◌∷◌, Some, refl, ap, arith, get_or, length, min, slice_get}
use Rattle.std.proofs.lemmas.Option.{same_Some}
use Rattle.versions.specs.Kept.{AreInOrder}
use Rattle.versions.specs.declared.request.Request.{Request}
use Rattle.flow_model.specs.Requests.{afters}
use Rattle.flow_model.specs.Waiting.{with_afters}
use Rattle.coordinator.specs.Feeding.{AreRising}
use Rattle.flow_engine.specs.Recorded.{NoneIsEarly}
use Rattle.audit_live.specs.Shown.{wait_of, waits_from}
use Rattle.audit_live.proofs.FeedLemmas.{of_those}

-- ---- one for each request, in order, within the rows, and none early

pub waits_each : (rows least : ℕ) (requests : List Request) (shown : List ℕ) → length (waits_from rows least requests shown) ≡ length requests
waits_each rows least [] shown = refl
waits_each rows least (q ∷ qs) [] = ap suc (waits_each rows rows qs [])
waits_each rows least (q ∷ qs) (row ∷ more) = ap suc (waits_each rows (wait_of rows least q row) qs more)

pub waits_in_order : (rows least : ℕ) (requests : List Request) (shown : List ℕ) → least ≤ rows
    → AreInOrder least (with_afters (waits_from rows least requests shown) requests)
waits_in_order rows least [] shown le = tt
waits_in_order rows least (q ∷ qs) [] le = (le, waits_in_order rows rows qs [] (omega arith))
waits_in_order rows least (q ∷ qs) (row ∷ more) le =
    (omega (arith, le), waits_in_order rows (wait_of rows least q row) qs more (omega arith))

pub waits_rise : (rows least : ℕ) (requests : List Request) (shown : List ℕ) → least ≤ rows → AreRising least (waits_from rows least requests shown)
waits_rise rows least [] shown le = tt
waits_rise rows least (q ∷ qs) [] le = (le, waits_rise rows rows qs [] (omega arith))
waits_rise rows least (q ∷ qs) (row ∷ more) le =
    (omega (arith, le), waits_rise rows (wait_of rows least q row) qs more (omega arith))

pub waits_within : (rows least : ℕ) (requests : List Request) (shown : List ℕ) (k d : ℕ) → k < length (waits_from rows least requests shown)
    → get_or (waits_from rows least requests shown) k d ≤ rows
waits_within rows least [] shown k d lt = absurd (omega (arith, lt))
waits_within rows least (q ∷ qs) [] zero d lt = omega arith
waits_within rows least (q ∷ qs) [] (suc k) d lt = waits_within rows rows qs [] k d (omega (arith, lt))
waits_within rows least (q ∷ qs) (row ∷ more) zero d lt = omega arith
waits_within rows least (q ∷ qs) (row ∷ more) (suc k) d lt = waits_within rows (wait_of rows least q row) qs more k d (omega (arith, lt))

pub waits_of_those : (rows least : ℕ) (requests : List Request) (shown : List ℕ) → of_those rows (waits_from rows least requests shown) ≡ waits_from rows least requests shown
waits_of_those rows least [] shown = refl
waits_of_those rows least (q ∷ qs) [] =
    let e : min rows rows ≡ rows = omega arith in
    ap (λ z. z ∷ of_those rows (waits_from rows rows qs [])) e ∙ ap (λ l. rows ∷ l) (waits_of_those rows rows qs [])
waits_of_those rows least (q ∷ qs) (row ∷ more) =
    let w : ℕ = wait_of rows least q row in
    let e : min (wait_of rows least q row) rows ≡ wait_of rows least q row = omega arith in
    ap (λ z. z ∷ of_those rows (waits_from rows w qs more)) e ∙ ap (λ l. w ∷ l) (waits_of_those rows w qs more)

pub waits_not_early : (rows least : ℕ) (requests : List Request) (shown : List ℕ) → NoneIsEarly rows requests (with_afters (waits_from rows least requests shown) requests)
waits_not_early rows least [] shown place after waited g h = absurd (cc)
waits_not_early rows least (q ∷ qs) [] zero after waited g h = (let e = same_Some rows waited h in omega (arith, e))
waits_not_early rows least (q ∷ qs) [] (suc place) after waited g h = waits_not_early rows rows qs [] place after waited g h
waits_not_early rows least (q ∷ qs) (row ∷ more) zero after waited g h =
    (let e = same_Some (wait_of rows least q row) waited h in let f = same_Some q.after after g in omega (arith, e, f))
waits_not_early rows least (q ∷ qs) (row ∷ more) (suc place) after waited g h = waits_not_early rows (wait_of rows least q row) qs more place after waited g h

-- ---- waits that fit are shown as they are

pub waits_as_shown : (rows least : ℕ) (requests : List Request) (shown : List ℕ) → length shown ≡ length requests → AreRising least shown → of_those rows shown ≡ shown
    → ((place after waited : ℕ) → slice_get (afters requests) place ≡ Some after → slice_get shown place ≡ Some waited → min after rows ≤ waited)
    → waits_from rows least requests shown ≡ shown
waits_as_shown rows least [] [] e rise those early = refl
waits_as_shown rows least [] (w ∷ ws) e rise those early = absurd (omega (arith, e))
waits_as_shown rows least (q ∷ qs) [] e rise those early = absurd (omega (arith, e))
waits_as_shown rows least (q ∷ qs) (w ∷ ws) e rise those early =
    let here : min w rows ≡ w = cc in
    let rest : of_those rows ws ≡ ws = cc in
    let up : least ≤ w = rise.0 in
    let asked : min q.after rows ≤ w = early 0 q.after w refl refl in
    let same : wait_of rows least q w ≡ w = omega (arith, here, up, asked) in
    ap (λ k. k ∷ waits_from rows k qs ws) same
    ∙ ap (λ l. w ∷ l) (waits_as_shown rows w qs ws (omega (arith, e)) rise.1 rest (λ place after waited g h. early (suc place) after waited g h))
