-- The runners that come back, each at its place, are those of the workers that went out.
use Rattle.std.proofs.Common.{◌≡◌, ℕ, zero, suc, ◌<◌, List, [], ◌∷◌, map, length, slice_index_or, refl, sym, ap, ap₂, ◌∙◌, subst, arith, nat_lt}
use Rattle.std.specs.List.{All, range_with_len}
use Rattle.std.specs.List.Sorted.{IsPermutation, IsNonDecreasingBy}
use Rattle.std.proofs.lemmas.List.Elements.{All-head, All-tail}
use Rattle.std.proofs.lemmas.List.Sorted.{All-permutation}
use Rattle.std.proofs.lemmas.List.{get_or-map, length-map}
use Rattle.std.proofs.lemmas.List.FromFn.{get_or-range_with_len}
use Rattle.flow_worker.specs.Worker.{WorkerIs}
use Rattle.flow_runners.specs.Crew.{fixed_in, crew_number, runner_of}
use Rattle.flow_runner.specs.Runner.{EndpointsIs, RunnerIs, endpoints_of}
use Rattle.flow_runner.specs.Rule.{HasItsEndpoints, AreListed, HasEachOf, numbers, one_if, fixed_of, times, all_below}
use Rattle.flow_runner.proofs.Keeps.{times-up_to}
use Rattle.flow_runners.proofs.Crewing.{ends_runners, fixed_runners, numbers_runners}
use Rattle.flow_runners.proofs.Order.{in_order, times_range}

any_default : (xs : List EndpointsIs) (i : ℕ) (d e : EndpointsIs) → i < length xs → slice_index_or xs i d ≡ slice_index_or xs i e
any_default [] i d e lt = absurd (omega (arith, lt))
any_default (x ∷ xs) zero d e lt = refl
any_default (x ∷ xs) (suc i) d e lt = any_default xs i d e (omega (arith, lt))

one_seat : (charter : List EndpointsIs) (r o : RunnerIs) → r.number ≡ o.number → HasItsEndpoints charter r → HasItsEndpoints charter o → r.endpoints ≡ o.endpoints
one_seat charter r o e a b =
    sym a.1 ∙ (any_default charter r.number r.endpoints o.endpoints a.0 ∙ (ap (λ n. slice_index_or charter n o.endpoints) e ∙ b.1))

pub same_seats : (charter : List EndpointsIs) (rs os : List RunnerIs) → numbers rs ≡ numbers os → All (HasItsEndpoints charter) rs → All (HasItsEndpoints charter) os → map fixed_of rs ≡ map fixed_of os
same_seats charter [] [] e a b = refl
same_seats charter [] (o ∷ os) e a b = absurd (cc)
same_seats charter (r ∷ rs) [] e a b = absurd (cc)
same_seats charter (r ∷ rs) (o ∷ os) e a b =
    let head : r.number ≡ o.number = cc in
    let tail : numbers rs ≡ numbers os = cc in
    let P : RunnerIs → Type 0 = λ s. HasItsEndpoints charter s in
    ap₂ (λ x xs. x ∷ xs) (ap₂ (λ n l. (n, l)) head (one_seat charter r o head (All-head P r rs a) (All-head P o os b)))
    (same_seats charter rs os tail (All-tail P r rs a) (All-tail P o os b))

pub seated : (charter : List EndpointsIs) (os rs ys : List RunnerIs) → numbers os ≡ range_with_len 0 (length charter) → All (HasItsEndpoints charter) os
    → ((x : ℕ) → times x (numbers rs) ≡ one_if (nat_lt x (length charter))) → All (HasItsEndpoints charter) rs
    → IsPermutation rs ys → IsNonDecreasingBy (λ (r : RunnerIs). r.number) ys → map fixed_of ys ≡ map fixed_of os
seated charter os rs ys named agreed once agree p up =
    same_seats charter ys os (in_order (λ (r : RunnerIs). r.number) (length charter) rs ys p up once ∙ sym named) (All-permutation (HasItsEndpoints charter) rs ys p agree) agreed

-- at the start the first pass names all runners
pub begins : (charter : List EndpointsIs) (os : List RunnerIs) (list : List ℕ) → list ≡ all_below (length charter) → numbers os ≡ range_with_len 0 (length charter) → All (HasItsEndpoints charter) os → AreListed charter os list
begins charter os list l named agree = record {
  same = λ x. ap (times x) named ∙ (times_range x (length charter) ∙ sym (ap (times x) l ∙ times-up_to x (length charter)));
  agree = agree;
}

-- the charter that the runners themselves make
pub own_charter : (os : List RunnerIs) → numbers os ≡ range_with_len 0 (length os) → All (HasItsEndpoints (map (λ r. r.endpoints) os)) os
own_charter os named i d lt =
    let number : (slice_index_or os i d).number ≡ i =
    (let a = get_or-map (λ (r : RunnerIs). r.number) os i d 0 lt in
    let b = ap (λ w. slice_index_or w i 0) named in
    let c = get_or-range_with_len 0 (length os) i 0 lt in omega (arith, a, b, c)) in
    let long = length-map os (λ (r : RunnerIs). r.endpoints) in
    let here : slice_index_or (map (λ (r : RunnerIs). r.endpoints) os) i (slice_index_or os i d).endpoints ≡ (slice_index_or os i d).endpoints =
    get_or-map (λ (r : RunnerIs). r.endpoints) os i d (slice_index_or os i d).endpoints lt in
    (omega (arith, number, long, lt), ap (λ n. slice_index_or (map (λ (r : RunnerIs). r.endpoints) os) n (slice_index_or os i d).endpoints) number ∙ here)

module _ (charter : List EndpointsIs) (ws : List WorkerIs) (made : charter ≡ map endpoints_of ws) (named : map crew_number ws ≡ range_with_len 0 (length ws)) where
  long : length charter ≡ length ws
  long = ap (λ (es : List EndpointsIs). length es) made ∙ length-map ws endpoints_of

  pub named_runners : numbers (map runner_of ws) ≡ range_with_len 0 (length charter)
  named_runners = numbers_runners ws ∙ (named ∙ ap (range_with_len 0) (sym long))

  pub agreed_runners : All (HasItsEndpoints charter) (map runner_of ws)
  agreed_runners =
      let own = own_charter (map runner_of ws) (numbers_runners ws ∙ (named ∙ ap (range_with_len 0) (sym (length-map ws runner_of)))) in
      let P : List EndpointsIs → Type 0 = λ es. All (HasItsEndpoints es) (map runner_of ws) in
      subst P (ends_runners ws ∙ sym made) own

  -- at the start the first pass lists all runners
  pub listed_runners : (list : List ℕ) → list ≡ all_below (length charter) → AreListed charter (map runner_of ws) list
  listed_runners list l = begins charter (map runner_of ws) list l named_runners agreed_runners

  -- at the end, in order, the runners are those of the workers
  pub seated_workers : (rs ys : List RunnerIs) → HasEachOf (length charter) (numbers rs) → All (HasItsEndpoints charter) rs
      → IsPermutation rs ys → IsNonDecreasingBy (λ (r : RunnerIs). r.number) ys → map fixed_of ys ≡ map fixed_in ws
  seated_workers rs ys once agree p up = seated charter (map runner_of ws) rs ys named_runners agreed_runners once agree p up ∙ fixed_runners ws
