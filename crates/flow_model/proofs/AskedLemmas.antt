-- What the plans of a setup ask.
use Rattle.std.proofs.Common.{◌≡◌, ◌<◌, ◌≤◌, ℕ, zero, suc, List, [], ◌∷◌, length, Option, Some, None, refl, arith}
use Rattle.std.specs.Prelude.{slice_get, IsTrue}
use Rattle.std.proofs.lemmas.Option.{slice_get_within}
use Rattle.cover_planner.specs.declared.cover.Plan.{Plan}
use Rattle.flow_dag.proofs.MaskLemmas.{has-Has}
use Rattle.versions.specs.declared.request.Request.{Request}
use Rattle.flow_model.specs.SetupView.{SetupView}
use Rattle.flow_model.specs.Covers.{asks, holds_asked}
use Rattle.flow_model.specs.Planned.{IsPlanned}
use Rattle.flow_model.specs.Requests.{changes, names}

pub past : {A : Type 0} (xs : List A) (i : ℕ) → slice_get xs i ≡ None → length xs ≤ i
past [] i e = omega arith
past (x ∷ xs) zero e = absurd (cc)
past (x ∷ xs) (suc i) e = omega (arith, past xs i e)

pub asked-changed : (setup : SetupView) → IsPlanned setup → (request node : ℕ) → IsTrue (changes setup request node) → IsTrue (asks setup request node)
asked-changed setup is zero node h = h
asked-changed setup is (suc r) node h = go (slice_get setup.requests r) refl (slice_get setup.plans r) refl h
  where
    go : (o : Option Request) → slice_get setup.requests r ≡ o → (p : Option Plan) → slice_get setup.plans r ≡ p → IsTrue (names o node) → IsTrue (holds_asked p node)
    go None e p ep h = absurd (cc)
    go (Some q) e None ep h =
        let within : r < length setup.requests = slice_get_within setup.requests r q e in
        let none : length setup.plans ≤ r = past setup.plans r ep in
        absurd (omega (arith, is.one_each))
    go (Some q) e (Some p) ep h = (has-Has p.asked node).1 ((is.plans r q p e ep).asked node h)

-- where rows and requests have one order, a plan asks what an earlier request changes
pub asked-earlier : (setup : SetupView) → IsPlanned setup → IsTrue setup.ordered → (s r node : ℕ) → s ≤ r → r ≤ length setup.requests → IsTrue (changes setup s node) → IsTrue (asks setup r node)
asked-earlier setup is o zero r node le lt h = absurd (cc)
asked-earlier setup is o (suc s) zero node le lt h = absurd (omega arith)
asked-earlier setup is o (suc s) (suc r) node le lt h = go (slice_get setup.requests s) refl (slice_get setup.plans r) refl h
  where
    go : (q : Option Request) → slice_get setup.requests s ≡ q → (p : Option Plan) → slice_get setup.plans r ≡ p → IsTrue (names q node) → IsTrue (holds_asked p node)
    go None e p ep h = absurd (cc)
    go (Some q) e None ep h =
        let none : length setup.plans ≤ r = past setup.plans r ep in
        absurd (omega (arith, is.one_each))
    go (Some q) e (Some p) ep h = (has-Has p.asked node).1 (is.ordered o s r q p (omega arith) e ep node h)
