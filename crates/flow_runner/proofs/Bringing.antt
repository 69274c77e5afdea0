-- What a pass's list names, when a runner comes or goes.
use Rattle.std.proofs.Common.{◌≡◌, ℕ, ◌<◌, ◌==◌, List, [], ◌∷◌, ◌++◌, length, slice_index_or, sym, refl, ap, subst, arith, eq-eqb}
use Rattle.std.specs.List.{All}
use Rattle.std.proofs.lemmas.List.Elements.{All-push}
use Rattle.flow_runner.specs.Runner.{RunnerIs, EndpointsIs}
use Rattle.flow_runner.specs.Rule.{one_if, times, without, numbers, HasItsEndpoints, AreListed}
use Rattle.flow_runner.proofs.Keeps.{times-append, times-push, times-without, last_and_rest}

agrees_same : (charter : List EndpointsIs) (r s : RunnerIs) → s.number ≡ r.number → s.endpoints ≡ r.endpoints → HasItsEndpoints charter r → HasItsEndpoints charter s
agrees_same charter r s e f a =
    let P : ℕ × EndpointsIs → Type 0 = λ p. (p.0 < length charter) × (slice_index_or charter p.0 p.1 ≡ p.1) in subst P (λ i. (sym e i, sym f i)) a

-- r was taken out, and s is r after a turn
pub in_hand : (charter : List EndpointsIs) (kept more : List RunnerIs) (list list' : List ℕ) (r s : RunnerIs)
    → more ≡ kept ++ s ∷ [] → list' ≡ list ++ r.number ∷ [] → s.number ≡ r.number → s.endpoints ≡ r.endpoints → HasItsEndpoints charter r → AreListed charter kept list → AreListed charter more list'
in_hand charter kept more list list' r s em el e f a b = record {
  same = λ x.
      let h = ap (λ w. times x (numbers w)) em in
      let k = ap (times x) el in
      let p = times-push x kept s in
      let q = times-append x list (r.number ∷ []) in
      let m : one_if (s.number == x) ≡ one_if (r.number == x) = ap (λ w. one_if (w == x)) e in
      let n = b.same x in omega (arith, h, k, p, q, m, n);
  agree =
      let P : List RunnerIs → Type 0 = λ w. All (HasItsEndpoints charter) w in
      subst P (sym em) (All-push (HasItsEndpoints charter) kept s b.agree (agrees_same charter r s e f a));
}

pub has : (charter : List EndpointsIs) (kept : List RunnerIs) (list : List ℕ) (s : RunnerIs) → AreListed charter (kept ++ s ∷ []) list → 0 < times s.number list
has charter kept list s b =
    let h = b.same s.number in
    let p = times-push s.number kept s in
    let m : one_if (s.number == s.number) ≡ 1 = ap one_if (eq-eqb s.number s.number refl) in omega (arith, h, p, m)

pub agreed : (charter : List EndpointsIs) (kept : List RunnerIs) (list : List ℕ) (s : RunnerIs) → AreListed charter (kept ++ s ∷ []) list → HasItsEndpoints charter s
agreed charter kept list s b = (last_and_rest (HasItsEndpoints charter) kept s b.agree).1

-- s was given back
pub given : (charter : List EndpointsIs) (kept : List RunnerIs) (list list' : List ℕ) (s : RunnerIs) → list' ≡ without s.number list → AreListed charter (kept ++ s ∷ []) list → AreListed charter kept list'
given charter kept list list' s e b = record {
  same = λ x.
      let h = b.same x in
      let p = times-push x kept s in
      let w = times-without s.number x list (has charter kept list s b) in
      let k = ap (times x) e in omega (arith, h, p, w, k);
  agree = (last_and_rest (HasItsEndpoints charter) kept s b.agree).0;
}
