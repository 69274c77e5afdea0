-- The workers of a job, as records spell them.
use Rattle.std.proofs.Common.{◌≡◌, ◌∙◌, ◌<◌, ◌≤◌, ◌+◌, ◌++◌, ℕ, zero, suc, Bool, true, false, cond, List, [], ◌∷◌, Option, Some, None, refl, sym, ap, ap₂, arith, get_or, length, map, take, inl, inr}
use Rattle.std.specs.Prelude.{bytes_eq, decimal, not, option_map, slice_get}
use Rattle.std.specs.List.{position_or_len}
use Rattle.std.proofs.lemmas.Bool.{and_parts, cases_lt}
use Rattle.std.proofs.lemmas.List.{append_assoc, flat_map_more, map-append, take_all, take_more}
use Rattle.std.proofs.lemmas.Option.{same_Some, slice_get-map}
use Rattle.std.proofs.lemmas.Slice.Eq.{bytes_eq-Decides}
use Rattle.jobs.specs.JobView.{JobView}
use Rattle.jobs.specs.Law.{IsLawful}
use Rattle.jobs.specs.Nodes.{workers_of}
use Rattle.jobs.specs.declared.func.NodeDef.{NodeDef}
use Rattle.audit_laws.specs.Names.{Named, named_at, named_workers}
use Rattle.audit_laws.proofs.NamedLemmas.{are_told}
use Rattle.audit_stream.specs.Sorting.{AreDistinct, SpelledWorker, is_spelled, number_spelled, spelled, workers_spelled}

-- ---- making them

abbrev named_as : List ℕ → ℕ → Named
named_as node place = record { node = node; place = place }

named_at-push : (node : List ℕ) (place n : ℕ) → named_at node place (suc n) ≡ named_at node place n ++ named_as node (place + n) ∷ []
named_at-push node place zero = let e : place ≡ place + 0 = omega arith in ap (λ p. named_as node p ∷ []) e
named_at-push node place (suc n) =
    let e : place + 1 + n ≡ place + suc n = omega arith in
    ap (λ (l : List Named). named_as node place ∷ l) (named_at-push node (place + 1) n ∙ ap (λ p. named_at node (place + 1) n ++ named_as node p ∷ []) e)

pub one_spelled : (start before new : List SpelledWorker) (node : List ℕ) (n : ℕ) → before ≡ start ++ map spelled (named_at node 0 n)
    → new ≡ before ++ (node, decimal n) ∷ [] → new ≡ start ++ map spelled (named_at node 0 (n + 1))
one_spelled start before new node n a b =
    let e : n + 1 ≡ suc n = omega arith in
    let z : 0 + n ≡ n = omega arith in
    let all : named_at node 0 (n + 1) ≡ named_at node 0 n ++ named_as node n ∷ [] =
    ap (named_at node 0) e ∙ (named_at-push node 0 n ∙ ap (λ p. named_at node 0 n ++ named_as node p ∷ []) z) in
    b ∙ (ap (λ (l : List SpelledWorker). l ++ (node, decimal n) ∷ []) a
    ∙ (append_assoc start (map spelled (named_at node 0 n)) ((node, decimal n) ∷ [])
    ∙ (ap (λ (l : List SpelledWorker). start ++ l) (sym (map-append spelled (named_at node 0 n) (named_as node n ∷ [])))
    ∙ ap (λ (l : List Named). start ++ map spelled l) (sym all))))

pub node_spelled : (nodes : List NodeDef) (i : ℕ) (def : NodeDef) (before new : List SpelledWorker) → i < length nodes → def ≡ get_or nodes i def
    → before ≡ map spelled (named_workers (take i nodes)) → new ≡ before ++ map spelled (named_at def.name 0 (workers_of def))
    → new ≡ map spelled (named_workers (take (i + 1) nodes))
node_spelled nodes i def before new lt at a b =
    let f : NodeDef → List Named = λ def. named_at def.name 0 (workers_of def) in
    let front : List NodeDef = take i nodes in
    b ∙ (ap (λ (l : List SpelledWorker). l ++ map spelled (f def)) a
    ∙ (sym (map-append spelled (named_workers front) (f def))
    ∙ (ap (map spelled) (flat_map_more f [] front def)
    ∙ ap (λ (l : List NodeDef). map spelled (named_workers l)) (ap (λ (d : NodeDef). front ++ d ∷ []) at ∙ sym (take_more nodes i def lt)))))

pub all_spelled : (nodes : List NodeDef) (i : ℕ) (workers : List SpelledWorker) → length nodes ≤ i → workers ≡ map spelled (named_workers (take i nodes))
    → workers ≡ map spelled (named_workers nodes)
all_spelled nodes i workers le e = e ∙ ap (λ (l : List NodeDef). map spelled (named_workers l)) (take_all i nodes le)

-- ---- looking for one

pub position_here : {A : Type 0} (p : A → Bool) (xs : List A) (i : ℕ) (x : A) → slice_get xs i ≡ Some x → p x ≡ true
    → ((k : ℕ) (y : A) → k < i → slice_get xs k ≡ Some y → p y ≡ false) → position_or_len p xs ≡ i
position_here p [] i x at here before = absurd (cc at)
position_here p (a ∷ xs) zero x at here before = rw (same_Some a x at, here) refl
position_here p (a ∷ xs) (suc i) x at here before =
    let first : p a ≡ false = before 0 a (omega arith) refl in
    let later = position_here p xs i x at here (λ k y lt there. before (suc k) y (omega arith) there) in
    rw (first, later) (omega arith)

pub position_none : {A : Type 0} (p : A → Bool) (xs : List A) → ((k : ℕ) (y : A) → slice_get xs k ≡ Some y → p y ≡ false) → position_or_len p xs ≡ length xs
position_none p [] none = refl
position_none p (a ∷ xs) none =
    let first : p a ≡ false = none 0 a refl in
    let later = position_none p xs (λ k y there. none (suc k) y there) in
    rw (first, later) (omega arith)

pub position_within : {A : Type 0} (p : A → Bool) (xs : List A) → position_or_len p xs ≤ length xs
position_within p [] = omega arith
position_within p (a ∷ xs) = go (p a) (position_within p xs)
  where
    go : (b : Bool) → position_or_len p xs ≤ length xs → cond (not b) (1 + position_or_len p xs) 0 ≤ length (a ∷ xs)
    go true le = omega arith
    go false le = omega arith

not_true : (b : Bool) → (b ≡ true → ⊥) → b ≡ false
not_true true ne = absurd (ne refl)
not_true false ne = refl

-- a worker is told by what spells it
spelled_so : (node place : List ℕ) (worker : SpelledWorker) → is_spelled node place worker ≡ true → worker ≡ (node, place)
spelled_so node place worker e =
    let both = and_parts (bytes_eq worker.0 node) (bytes_eq worker.1 place) e in
    ap₂ (λ (a b : List ℕ). (a, b)) ((bytes_eq-Decides worker.0 node).0 both.0) ((bytes_eq-Decides worker.1 place).0 both.1)

-- the one worker that is spelled so is the first
pub number_here : (workers : List SpelledWorker) → AreDistinct workers → (node place : List ℕ) (i : ℕ) (worker : SpelledWorker) → slice_get workers i ≡ Some worker
    → is_spelled node place worker ≡ true → number_spelled workers node place ≡ i
number_here workers distinct node place i worker there is =
    position_here (is_spelled node place) workers i worker there is (λ k y lt at.
    not_true (is_spelled node place y) (λ so.
    let same : y ≡ worker = spelled_so node place y so ∙ sym (spelled_so node place worker is) in
    let e : k ≡ i = distinct k i worker (at ∙ ap Some same) there in
    omega arith))

-- no worker is spelled so
pub number_none : (workers : List SpelledWorker) (node place : List ℕ) (near : ℕ)
    → ((k : ℕ) (worker : SpelledWorker) → near ≤ k → k < length workers → slice_get workers k ≡ Some worker → is_spelled node place worker ≡ true → ⊥)
    → ((k : ℕ) (worker : SpelledWorker) → 0 ≤ k → k < near → slice_get workers k ≡ Some worker → is_spelled node place worker ≡ true → ⊥)
    → number_spelled workers node place ≡ length workers
number_none workers node place near later earlier =
    position_none (is_spelled node place) workers (λ k y at.
    not_true (is_spelled node place y) (λ so. elim (cases_lt k near) [
      | inl lt ↦ earlier k y (omega arith) lt at so
      | inr le ↦ later k y le (within workers k y at) at so
    ]))
  where
    within : (xs : List SpelledWorker) (k : ℕ) (y : SpelledWorker) → slice_get xs k ≡ Some y → k < length xs
    within [] k y at = absurd (cc at)
    within (x ∷ xs) zero y at = omega arith
    within (x ∷ xs) (suc k) y at = omega (arith, within xs k y at)

-- ---- no two are spelled alike

from_mapped : (o : Option Named) (worker : SpelledWorker) → option_map spelled o ≡ Some worker → (x : Named) × (o ≡ Some x) × (spelled x ≡ worker)
from_mapped None worker e = absurd (cc e)
from_mapped (Some x) worker e = (x, refl, same_Some (spelled x) worker e)

pub are_distinct : (job : JobView) → IsLawful job → AreDistinct (workers_spelled job)
are_distinct job law i k worker g h =
    let all : List Named = named_workers job.nodes in
    let x = from_mapped (slice_get all i) worker (sym (slice_get-map spelled all i) ∙ g) in
    let y = from_mapped (slice_get all k) worker (sym (slice_get-map spelled all k) ∙ h) in
    let same : spelled x.0 ≡ spelled y.0 = x.2 ∙ sym y.2 in
    are_told job law i k x.0 y.0 x.1 y.1 (ap (λ (w : SpelledWorker). w.0) same) (ap (λ (w : SpelledWorker). w.1) same)
