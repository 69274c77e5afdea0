-- What depends on the runners' seats alone.
use Rattle.std.proofs.Common.{◌≡◌, ℕ, zero, suc, ◌<◌, List, [], ◌∷◌, map, length, slice_index_or, slice_set, refl, sym, ap, ◌∙◌, subst}
use Rattle.std.specs.List.{All}
use Rattle.std.proofs.lemmas.List.Elements.{All-nil, All-cons, All-head, All-tail, All-map}
use Rattle.flow_runner.specs.Runner.{RunnerIs, EndpointsIs}
use Rattle.flow_runner.specs.Rule.{times, numbers, fixed_of, HasItsEndpoints, AreListed}

pub same_marks : {X Y : Type 0} (f : X → Y) (xs : List X) (i : ℕ) (x y : X) → x ≡ slice_index_or xs i x → f y ≡ f x → map f (slice_set xs i y) ≡ map f xs
same_marks f [] i x y e h = refl
same_marks f (z ∷ zs) zero x y e h = ap (λ w. w ∷ map f zs) (h ∙ ap f e)
same_marks f (z ∷ zs) (suc i) x y e h = ap (λ w. f z ∷ w) (same_marks f zs i x y e h)

from_map : {X Y : Type 0} (P : Y → Type 0) (f : X → Y) (xs : List X) → All P (map f xs) → All (λ x. P (f x)) xs
from_map P f [] all = All-nil (λ x. P (f x))
from_map P f (x ∷ xs) all = All-cons (λ y. P (f y)) x xs (All-head P (f x) (map f xs) all) (from_map P f xs (All-tail P (f x) (map f xs) all))

abbrev AgreesAt : List EndpointsIs → ℕ × EndpointsIs → Type 0
AgreesAt charter p = (p.0 < length charter) × (slice_index_or charter p.0 p.1 ≡ p.1)

numbers_by_seats : (rs : List RunnerIs) → numbers rs ≡ map (λ (p : ℕ × EndpointsIs). p.0) (map fixed_of rs)
numbers_by_seats [] = refl
numbers_by_seats (r ∷ rs) = ap (λ w. r.number ∷ w) (numbers_by_seats rs)

pub same_numbers : (rs bs : List RunnerIs) → map fixed_of bs ≡ map fixed_of rs → numbers bs ≡ numbers rs
same_numbers rs bs e = numbers_by_seats bs ∙ (ap (λ w. map (λ (p : ℕ × EndpointsIs). p.0) w) e ∙ sym (numbers_by_seats rs))

pub same_agree : (charter : List EndpointsIs) (rs bs : List RunnerIs) → map fixed_of bs ≡ map fixed_of rs → All (HasItsEndpoints charter) rs → All (HasItsEndpoints charter) bs
same_agree charter rs bs e all =
    let P : List (ℕ × EndpointsIs) → Type 0 = λ w. All (AgreesAt charter) w in
    from_map (AgreesAt charter) fixed_of bs (subst P (sym e) (All-map (AgreesAt charter) fixed_of rs all))

-- the same seats are named by the same list
pub same_brings : (charter : List EndpointsIs) (rs bs : List RunnerIs) (list : List ℕ) → map fixed_of bs ≡ map fixed_of rs → AreListed charter rs list → AreListed charter bs list
same_brings charter rs bs list e b = record {
  same = λ x. ap (times x) (same_numbers rs bs e) ∙ b.same x;
  agree = same_agree charter rs bs e b.agree;
}
