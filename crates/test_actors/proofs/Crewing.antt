-- Workers keep their law while one takes a turn, and while they are made.
use Rattle.std.proofs.Common.{◌≡◌, ◌⊎◌, ◌∙◌, ℕ, zero, suc, List, [], ◌∷◌, ◌++◌, inl, inr, sym, ap, subst, set, Some, slice_get}
use Rattle.flow_model.specs.Begin.{at_first}
use Rattle.flow_model.specs.SetupView.{SetupView}
use Rattle.flow_worker.specs.Worker.{IsWorker, WorkerIs}
use Rattle.test_actors.specs.Crews.{AreLawfulWorkers}

-- an item of a list that was set at a place: it was there, or it is the new one
pub get-set : {A : Type 0} (xs : List A) (k i : ℕ) (y z : A) → slice_get (set xs k y) i ≡ Some z → (slice_get xs i ≡ Some z) ⊎ (z ≡ y)
get-set [] k i y z g = inl g
get-set (x ∷ xs) zero zero y z g = inr (let e : y ≡ z = cc in sym e)
get-set (x ∷ xs) zero (suc i) y z g = inl g
get-set (x ∷ xs) (suc k) zero y z g = inl g
get-set (x ∷ xs) (suc k) (suc i) y z g = get-set xs k i y z g

pub get-more : {A : Type 0} (xs : List A) (i : ℕ) (y z : A) → slice_get (xs ++ y ∷ []) i ≡ Some z → (slice_get xs i ≡ Some z) ⊎ (z ≡ y)
get-more [] zero y z g = inr (let e : y ≡ z = cc in sym e)
get-more [] (suc i) y z g = absurd (cc)
get-more (x ∷ xs) zero y z g = inl g
get-more (x ∷ xs) (suc i) y z g = get-more xs i y z g

pub workers_set : (setup : SetupView) (ws : List WorkerIs) (k : ℕ) (v : WorkerIs) → AreLawfulWorkers setup ws → IsWorker setup (at_first setup) v → AreLawfulWorkers setup (set ws k v)
workers_set setup ws k v are is w worker g = go (get-set ws k w v worker g)
  where
    go : (slice_get ws w ≡ Some worker) ⊎ (worker ≡ v) → IsWorker setup (at_first setup) worker
    go (inl h) = are w worker h
    go (inr e) = subst (IsWorker setup (at_first setup)) (sym e) is

pub workers_more : (setup : SetupView) (ws vs : List WorkerIs) (v : WorkerIs) → vs ≡ ws ++ v ∷ [] → AreLawfulWorkers setup ws → IsWorker setup (at_first setup) v → AreLawfulWorkers setup vs
workers_more setup ws vs v same are is w worker g = go (get-more ws w v worker (ap (λ l. slice_get l w) (sym same) ∙ g))
  where
    go : (slice_get ws w ≡ Some worker) ⊎ (worker ≡ v) → IsWorker setup (at_first setup) worker
    go (inl h) = are w worker h
    go (inr e) = subst (IsWorker setup (at_first setup)) (sym e) is

-- the first of a list of workers has its law, and so has each of the rest
pub workers_first : (setup : SetupView) (ws vs : List WorkerIs) (v : WorkerIs) → ws ≡ v ∷ vs → AreLawfulWorkers setup ws → IsWorker setup (at_first setup) v
workers_first setup ws vs v same are = are zero v (ap (λ l. slice_get l zero) same)

pub workers_rest : (setup : SetupView) (ws vs : List WorkerIs) (v : WorkerIs) → ws ≡ v ∷ vs → AreLawfulWorkers setup ws → AreLawfulWorkers setup vs
workers_rest setup ws vs v same are w worker g = are (suc w) worker (ap (λ l. slice_get l (suc w)) same ∙ g)
