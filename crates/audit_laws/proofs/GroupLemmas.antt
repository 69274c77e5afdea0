-- The lines of an audit stand in the order of their groups.
use Rattle.std.proofs.Common.{◌≡◌, ◌∙◌, ◌≤◌, ◌+◌, ◌*◌, ◌++◌, ℕ, List, [], ◌∷◌, inl, inr, refl, ap, arith, map}
use Rattle.sink_journal.specs.declared.audit.Noted.{Noted}
use Rattle.sink_journal.specs.declared.journal.Feed.{Feed}
use Rattle.flow_model.proofs.ElementLemmas.{IsIn, all_of_pairs, before_cases, before_first, before_second, in_cases, in_map, pair_of_all}
use Rattle.audit_laws.specs.declared.audit.AuditEntry.{AuditEntry}
use Rattle.audit_laws.specs.declared.audit.Line.{Line}
use Rattle.audit_laws.specs.declared.audit.Line.TheVariants as line
use Rattle.audit_laws.specs.Faults.{Listed}
use Rattle.audit_laws.specs.Lines.{StandInOrder, group_of, lines_from, lines_of, worker_lines}

joined : (xs ys : List Line) → StandInOrder xs → StandInOrder ys → ((x y : Line) → IsIn x xs → IsIn y ys → group_of x ≤ group_of y) → StandInOrder (xs ++ ys)
joined xs ys p q h =
    all_of_pairs (λ a b. group_of a ≤ group_of b) (xs ++ ys) (λ x y b.
    elim (before_cases x y xs ys b) [
      | inl i ↦ pair_of_all (λ a b. group_of a ≤ group_of b) x y xs p i
      | inr (inl i) ↦ pair_of_all (λ a b. group_of a ≤ group_of b) x y ys q i
      | inr (inr i) ↦ h x y i.0 i.1
    ])

alike : (n : ℕ) (xs : List Line) → ((x : Line) → IsIn x xs → group_of x ≡ n) → StandInOrder xs
alike n xs h =
    all_of_pairs (λ a b. group_of a ≤ group_of b) xs (λ x y b.
    let p = h x (before_first x y xs b) in
    let q = h y (before_second x y xs b) in
    omega arith)

in_group : {A : Type 0} (n : ℕ) (f : A → Line) (xs : List A) → ((x : A) → group_of (f x) ≡ n) → (y : Line) → IsIn y (map f xs) → group_of y ≡ n
in_group n f xs h y i = let r = in_map f y xs i in ap group_of r.2 ∙ h r.0

steps_in : (w : ℕ) (j : List AuditEntry) (y : Line) → IsIn y (map (line.Step w) j) → group_of y ≡ 2 + 2 * w
steps_in w j = in_group (2 + 2 * w) (line.Step w) j (λ x. refl)

states_in : (w : ℕ) (s : Listed) (y : Line) → IsIn y (map (λ counted. line.State w counted.0 counted.1) s) → group_of y ≡ 3 + 2 * w
states_in w s = in_group (3 + 2 * w) (λ counted. line.State w counted.0 counted.1) s (λ x. refl)

of_worker : (w : ℕ) (j : List AuditEntry) (s : Listed) (y : Line) → IsIn y (worker_lines w j s) → (2 + 2 * w ≤ group_of y) × (group_of y ≤ 3 + 2 * w)
of_worker w j s y i =
    elim (in_cases y (map (line.Step w) j) (map (λ counted. line.State w counted.0 counted.1) s) i) [
      | inl a ↦ let e = steps_in w j y a in (omega arith, omega arith)
      | inr b ↦ let e = states_in w s y b in (omega arith, omega arith)
    ]

from_worker : (k : ℕ) (js : List (List AuditEntry)) (ss : List Listed) (y : Line) → IsIn y (lines_from k js ss) → 2 + 2 * k ≤ group_of y
from_worker k [] ss y i = absurd i
from_worker k (j ∷ js) [] y i = absurd i
from_worker k (j ∷ js) (s ∷ ss) y i =
    elim (in_cases y (worker_lines k j s) (lines_from (k + 1) js ss) i) [
      | inl a ↦ (of_worker k j s y a).0
      | inr b ↦ let le = from_worker (k + 1) js ss y b in omega arith
    ]

workers_ordered : (k : ℕ) (js : List (List AuditEntry)) (ss : List Listed) → StandInOrder (lines_from k js ss)
workers_ordered k [] ss = alike 0 [] (λ x i. absurd i)
workers_ordered k (j ∷ js) [] = alike 0 [] (λ x i. absurd i)
workers_ordered k (j ∷ js) (s ∷ ss) =
    joined (worker_lines k j s) (lines_from (k + 1) js ss)
    (joined (map (line.Step k) j) (map (λ counted. line.State k counted.0 counted.1) s) (alike (2 + 2 * k) (map (line.Step k) j) (steps_in k j))
    (alike (3 + 2 * k) (map (λ counted. line.State k counted.0 counted.1) s) (states_in k s))
    (λ x y a b. let p = steps_in k j x a in let q = states_in k s y b in omega arith))
    (workers_ordered (k + 1) js ss)
    (λ x y a b. let p = (of_worker k j s x a).1 in let q = from_worker (k + 1) js ss y b in omega arith)

pub lines_ordered : (r : List Noted) (f : List Feed) (js : List (List AuditEntry)) (ss : List Listed) → StandInOrder (lines_of r f js ss)
lines_ordered r f js ss =
    let refused_in = in_group 0 line.Refused r (λ x. refl) in
    let fed_in = in_group 1 line.Feed f (λ x. refl) in
    joined (map line.Refused r) (map line.Feed f ++ lines_from 0 js ss) (alike 0 (map line.Refused r) refused_in)
    (joined (map line.Feed f) (lines_from 0 js ss) (alike 1 (map line.Feed f) fed_in) (workers_ordered 0 js ss)
    (λ x y a b. let p = fed_in x a in let q = from_worker 0 js ss y b in omega arith))
    (λ x y a b. let p = refused_in x a in omega arith)
