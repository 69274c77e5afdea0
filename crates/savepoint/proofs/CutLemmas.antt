-- The first requests of a setup, and their plans.
use Rattle.std.proofs.Common.{◌≡◌, ◌∙◌, ◌<◌, ◌≤◌, ◌+◌, ℕ, zero, suc, List, [], ◌∷◌, refl, sym, ap, arith, drop, length, map, min, take, Some, None, Option, slice_get, Bool, true, false, ◌||◌}
use Rattle.std.specs.List.{list_any, zip}
use Rattle.std.proofs.Math.Seq.{take-length}
use Rattle.std.proofs.lemmas.List.{length-take, take-append-drop}
use Rattle.std.proofs.lemmas.List.Folds.{list_any-append}
use Rattle.cover_planner.specs.declared.cover.Plan.{Plan}
use Rattle.jobs.specs.declared.func.NodeDef.{NodeDef}
use Rattle.jobs.specs.JobView.{JobView}
use Rattle.versions.specs.Book.{accepted, first_book}
use Rattle.versions.specs.Judged.{AreAccepted, accepting, by_fault, judged_from, refusing}
use Rattle.versions.specs.Judging.{fault_of}
use Rattle.versions.specs.declared.book.Current.{Current}
use Rattle.versions.specs.declared.fault.QFault.{QFault}
use Rattle.versions.specs.declared.request.Request.{Request}
use Rattle.flow_model.specs.Covers.{plan_of}
use Rattle.flow_model.specs.SetupView.{SetupView}
use Rattle.flow_model.specs.Planned.{IsPlanned, is_made_split, is_split_node, makes_split, splits_at}
use Rattle.flow_model.specs.Requests.{request_at}
use Rattle.savepoint.specs.Parts.{first_of}

-- ---- the first of a list

pub get_take : {A : Type 0} (n k : ℕ) (xs : List A) → k < n → slice_get (take n xs) k ≡ slice_get xs k
get_take zero k xs lt = absurd (omega arith)
get_take (suc n) k [] lt = refl
get_take (suc n) zero (x ∷ xs) lt = refl
get_take (suc n) (suc k) (x ∷ xs) lt = get_take n k xs (omega arith)

pub take_get : {A : Type 0} (n k : ℕ) (xs : List A) (x : A) → slice_get (take n xs) k ≡ Some x → slice_get xs k ≡ Some x
take_get zero k xs x g = absurd (cc)
take_get (suc n) k [] x g = g
take_get (suc n) zero (y ∷ xs) x g = g
take_get (suc n) (suc k) (y ∷ xs) x g = take_get n k xs x g

-- ---- pairs

pub same_pairs : {A B : Type 0} (ps : List (A × B)) → map (λ (p : A × B). (p.0, p.1)) ps ≡ ps
same_pairs [] = refl
same_pairs (p ∷ ps) = ap (λ l. p ∷ l) (same_pairs ps)

pub get_zip : {A B : Type 0} (xs : List A) (ys : List B) (k : ℕ) (x : A) (y : B) → slice_get xs k ≡ Some x → slice_get ys k ≡ Some y → slice_get (zip xs ys) k ≡ Some (x, y)
get_zip [] ys k x y g h = absurd (cc)
get_zip (a ∷ xs) [] k x y g h = absurd (cc)
get_zip (a ∷ xs) (b ∷ ys) zero x y g h = let p : a ≡ x = cc in let q : b ≡ y = cc in cc
get_zip (a ∷ xs) (b ∷ ys) (suc k) x y g h = get_zip xs ys k x y g h

-- ---- plans and requests

pub plan_first : (setup : SetupView) (m r : ℕ) → r ≤ m → plan_of (first_of setup m) r ≡ plan_of setup r
plan_first setup m zero le = refl
plan_first setup m (suc r) le = get_take m r setup.plans (omega arith)

pub request_first : (setup : SetupView) (m r : ℕ) → r ≤ m → request_at (first_of setup m) r ≡ request_at setup r
request_first setup m zero le = refl
request_first setup m (suc r) le = get_take m r setup.requests (omega arith)

-- the first of all requests of a setup are all
pub all_first : (whole : SetupView) → length whole.plans ≡ length whole.requests → first_of whole (length whole.requests) ≡ whole
all_first whole each =
    ap (λ (l : List Request). record whole { requests = l; plans = take (length whole.requests) whole.plans }) (take-length whole.requests)
    ∙ ap (λ (l : List Plan). record whole { plans = l }) (ap (λ k. take k whole.plans) (sym each) ∙ take-length whole.plans)

any_take : {A : Type 0} (test : A → Bool) (n : ℕ) (xs : List A) → list_any test (take n xs) ≡ true → list_any test xs ≡ true
any_take test n xs e =
    ap (list_any test) (sym (take-append-drop n xs))
    ∙ (list_any-append test (take n xs) (drop n xs) ∙ ap (λ b. b || list_any test (drop n xs)) e)

pub or_weaker : (a b c : Bool) → (b ≡ true → c ≡ true) → (a || b) ≡ true → (a || c) ≡ true
or_weaker true b c f e = refl
or_weaker false b c f e = f e

-- fewer requests make fewer nodes splits
splits_take : (nodes : List NodeDef) (m : ℕ) (requests : List Request) (node : ℕ) → splits_at nodes (take m requests) node ≡ true → splits_at nodes requests node ≡ true
splits_take nodes m requests node =
    or_weaker (is_split_node (slice_get nodes node)) (is_made_split (take m requests) node) (is_made_split requests node)
    (any_take (λ (request : Request). list_any (makes_split node) request.changes) m requests)

pub IsPlanned-first_of : (setup : SetupView) (m : ℕ) → IsPlanned setup → IsPlanned (first_of setup m)
IsPlanned-first_of setup m is = record {
  splits = λ node splits. is.splits node (splits_take setup.job.nodes m setup.requests node splits);
  sources = is.sources;
  inside = is.inside;
  one_each = length-take m setup.plans ∙ (ap (min m) is.one_each ∙ sym (length-take m setup.requests));
  plans = λ r request plan g h. is.plans r request plan (take_get m r setup.requests request g) (take_get m r setup.plans plan h);
  no_source = λ r node plan g. is.no_source r node plan (take_get m r setup.plans plan g);
  ordered = λ ordered s r request plan le g h. is.ordered ordered s r request plan le (take_get m s setup.requests request g) (take_get m r setup.plans plan h);
}

judged_first : (job : JobView) (book : List Current) (last place m : ℕ) (requests : List Request) → (judged_from None job book last place requests).refused ≡ []
    → (judged_from None job book last place (take m requests)).refused ≡ []
unfolding judged_from
judged_first job book last place zero requests e = refl
judged_first job book last place (suc m) [] e = refl
judged_first job book last place (suc m) (r ∷ rest) e = go (fault_of book job r last) e (judged_first job (accepted book r.changes) r.after (place + 1) m rest)
  where
    go : (o : Option QFault)
        → (by_fault o (λ fault. refusing place fault (judged_from None job book last (place + 1) rest)) (accepting r (judged_from None job (accepted book r.changes) r.after (place + 1) rest))).refused ≡ []
        → ((judged_from None job (accepted book r.changes) r.after (place + 1) rest).refused ≡ [] → (judged_from None job (accepted book r.changes) r.after (place + 1) (take m rest)).refused ≡ [])
        → (by_fault o (λ fault. refusing place fault (judged_from None job book last (place + 1) (take m rest))) (accepting r (judged_from None job (accepted book r.changes) r.after (place + 1) (take m rest)))).refused ≡ []
    go None f later = later f
    go (Some q) f later = absurd (cc)

-- the first of requests that are accepted are accepted
pub AreAccepted-take : (job : JobView) (m : ℕ) (requests : List Request) → AreAccepted job requests → AreAccepted job (take m requests)
AreAccepted-take job m requests e = judged_first job (first_book job.nodes) 0 1 m requests e
