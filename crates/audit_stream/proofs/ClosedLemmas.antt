-- Stops and ends that a later stop follows.
use Rattle.std.proofs.Common.{◌≡◌, ◌∙◌, ◌<◌, ◌≤◌, ◌+◌, ◌++◌, ℕ, zero, suc, Bool, true, false, cond, List, [], ◌∷◌, refl, sym, ap, ap₂, arith, length}
use Rattle.std.specs.Prelude.{◌&&◌, ◌||◌, filter, not}
use Rattle.std.proofs.lemmas.List.{append_assoc, append-nil, length-append}
use Rattle.std.proofs.lemmas.List.Folds.{list_any-append}
use Rattle.flow_model.proofs.GatheredLemmas.{or_false}
use Rattle.audit_stream.specs.Together.{has_stop, tells_stop, last_ends}
use Rattle.audit_stream.specs.Sorting.{closed_from, closes, stop_place}

-- the records without all stops and ends
abbrev pub open_ones : List (List (List ℕ)) → List (List (List ℕ))
open_ones records = filter (λ fields. not (closes fields)) records

-- ---- the last stop

-- one record of a kind, chosen by two tests
if_left : {A : Type 0} (c d : Bool) (x y : A) → d ≡ true → cond (c && d) x y ≡ cond c x y
if_left true d x y e = rw e refl
if_left false d x y e = refl

kept_or_not : (c : Bool) (fields : List (List ℕ)) (xs ys : List (List (List ℕ))) → cond c (xs ++ ys) (fields ∷ (xs ++ ys)) ≡ cond (not c) (fields ∷ xs) xs ++ ys
kept_or_not true fields xs ys = refl
kept_or_not false fields xs ys = refl

either : (c : Bool) (fields : List (List ℕ)) (xs ys : List (List (List ℕ))) → cond c (xs ++ ys) (fields ∷ (xs ++ ys)) ≡ cond c xs (fields ∷ xs) ++ ys
either true fields xs ys = refl
either false fields xs ys = refl

or_true : (b : Bool) → (b || true) ≡ true
or_true true = refl
or_true false = refl

stop_later : (xs ys : List (List (List ℕ))) → has_stop ys ≡ true → has_stop (xs ++ ys) ≡ true
stop_later xs ys e = list_any-append tells_stop xs ys ∙ (rw e (or_true (has_stop xs)))

-- before records with a stop, all stops and ends are left out
pub last_ends-append : (xs ys : List (List (List ℕ))) → has_stop ys ≡ true → last_ends (xs ++ ys) ≡ open_ones xs ++ last_ends ys
last_ends-append [] ys e = refl
last_ends-append (x ∷ xs) ys e =
    let later = last_ends-append xs ys e in
    if_left (closes x) (has_stop (xs ++ ys)) (last_ends (xs ++ ys)) (x ∷ last_ends (xs ++ ys)) (stop_later xs ys e)
    ∙ (ap (λ (l : List (List (List ℕ))). cond (closes x) l (x ∷ l)) later ∙ kept_or_not (closes x) x (open_ones xs) (last_ends ys))

-- ---- records without the stops and ends among the first ones

-- a record past the first ones
pub closed_from-push : (stop : ℕ) (xs : List (List (List ℕ))) (x : List (List ℕ)) → stop ≤ length xs → closed_from stop (xs ++ x ∷ []) ≡ closed_from stop xs ++ x ∷ []
closed_from-push zero xs x le = refl
closed_from-push (suc stop) [] x le = absurd (omega arith)
closed_from-push (suc stop) (y ∷ xs) x le =
    ap (λ (l : List (List (List ℕ))). cond (closes y) l (y ∷ l)) (closed_from-push stop xs x (omega arith)) ∙ either (closes y) y (closed_from stop xs) (x ∷ [])

-- one of the first records
pub closed_from-skip : (stop : ℕ) (xs : List (List (List ℕ))) (x : List (List ℕ)) → length xs < stop → closes x ≡ true → closed_from stop (xs ++ x ∷ []) ≡ closed_from stop xs
closed_from-skip zero xs x lt e = absurd (omega arith)
closed_from-skip (suc zero) [] x lt e = rw e refl
closed_from-skip (suc (suc stop)) [] x lt e = rw e refl
closed_from-skip (suc stop) (y ∷ xs) x lt e =
    ap (λ (l : List (List (List ℕ))). cond (closes y) l (y ∷ l)) (closed_from-skip stop xs x (omega arith) e)

pub closed_from-open : (stop : ℕ) (xs : List (List (List ℕ))) (x : List (List ℕ)) → closes x ≡ false → closed_from stop (xs ++ x ∷ []) ≡ closed_from stop xs ++ x ∷ []
closed_from-open zero xs x e = refl
closed_from-open (suc zero) [] x e = rw e refl
closed_from-open (suc (suc stop)) [] x e = rw e refl
closed_from-open (suc stop) (y ∷ xs) x e =
    ap (λ (l : List (List (List ℕ))). cond (closes y) l (y ∷ l)) (closed_from-open stop xs x e) ∙ either (closes y) y (closed_from stop xs) (x ∷ [])

-- ---- the place of the last stop

pub if_last : {A : Type 0} (c b : Bool) (x y : A) → b ≡ false → cond (c && b) x y ≡ y
if_last true b x y e = rw e refl
if_last false b x y e = refl

or_later : (b c : Bool) → (b || c) ≡ false → c ≡ false
or_later true c e = absurd (cc e)
or_later false c e = e

pub no_stop : (xs : List (List (List ℕ))) → has_stop xs ≡ false → last_ends xs ≡ xs
no_stop [] e = refl
no_stop (x ∷ xs) e =
    let later : has_stop xs ≡ false = or_later (tells_stop x) (has_stop xs) e in
    if_last (closes x) (has_stop xs) (last_ends xs) (x ∷ last_ends xs) later ∙ ap (λ (l : List (List (List ℕ))). x ∷ l) (no_stop xs later)

stop_place-stop : (xs : List (List (List ℕ))) (x : List (List ℕ)) → tells_stop x ≡ true → stop_place (xs ++ x ∷ []) ≡ length xs
stop_place-stop [] x e = refl
stop_place-stop (y ∷ xs) x e =
    let here : has_stop (x ∷ []) ≡ true = rw e refl in
    ap₂ (λ (b : Bool) (n : ℕ). cond b (suc n) 0) (stop_later xs (x ∷ []) here) (stop_place-stop xs x e)

stop_place-push : (xs : List (List (List ℕ))) (x : List (List ℕ)) → tells_stop x ≡ false → stop_place (xs ++ x ∷ []) ≡ stop_place xs
stop_place-push [] x e = refl
stop_place-push (y ∷ xs) x e =
    let same : has_stop (xs ++ x ∷ []) ≡ has_stop xs = list_any-append tells_stop xs (x ∷ []) ∙ (rw e (or_false (has_stop xs))) in
    ap₂ (λ (b : Bool) (n : ℕ). cond b (suc n) 0) same (stop_place-push xs x e)

-- what the last stop leaves out stands among the records before it
pub ends_closed : (xs : List (List (List ℕ))) → last_ends xs ≡ closed_from (stop_place xs) xs
ends_closed [] = refl
ends_closed (x ∷ xs) = go x xs (has_stop xs) refl (ends_closed xs)
  where
    go : (x : List (List ℕ)) (xs : List (List (List ℕ))) (b : Bool) → has_stop xs ≡ b → last_ends xs ≡ closed_from (stop_place xs) xs
        → last_ends (x ∷ xs) ≡ closed_from (stop_place (x ∷ xs)) (x ∷ xs)
    go x xs true e later =
        if_left (closes x) (has_stop xs) (last_ends xs) (x ∷ last_ends xs) e
        ∙ (ap (λ (l : List (List (List ℕ))). cond (closes x) l (x ∷ l)) later
        ∙ sym (ap (λ (b : Bool). closed_from (cond b (suc (stop_place xs)) 0) (x ∷ xs)) e))
    go x xs false e later =
        if_last (closes x) (has_stop xs) (last_ends xs) (x ∷ last_ends xs) e
        ∙ (ap (λ (l : List (List (List ℕ))). x ∷ l) (no_stop xs e)
        ∙ sym (ap (λ (b : Bool). closed_from (cond b (suc (stop_place xs)) 0) (x ∷ xs)) e))

-- ---- reading them in turn

-- These records were read, and the others are left. So far the last stop has this place.
pub record AreReadTo (records left : List (List (List ℕ))) (number stop : ℕ) : Type 0 where
  pub above : List (List (List ℕ))
  pub records_are : records ≡ above ++ left
  pub number_is : number ≡ length above
  pub stop_is : stop ≡ stop_place above

pub read_none : (records : List (List (List ℕ))) → AreReadTo records records 0 0
read_none records = record { above = []; records_are = refl; number_is = refl; stop_is = refl }

pub one_past : (records above left : List (List (List ℕ))) (x : List (List ℕ)) → records ≡ above ++ x ∷ left → records ≡ (above ++ x ∷ []) ++ left
one_past records above left x e = e ∙ sym (append_assoc above (x ∷ []) left)

pub count_past : (above : List (List (List ℕ))) (x : List (List ℕ)) (number : ℕ) → number ≡ length above → number + 1 ≡ length (above ++ x ∷ [])
count_past above x number e = omega (arith, e, length-append above (x ∷ []))

pub read_stop : (records left : List (List (List ℕ))) (x : List (List ℕ)) (number stop : ℕ) → AreReadTo records (x ∷ left) number stop → tells_stop x ≡ true
    → AreReadTo records left (number + 1) number
read_stop records left x number stop at e = record {
  above = at.above ++ x ∷ [];
  records_are = one_past records at.above left x at.records_are;
  number_is = count_past at.above x number at.number_is;
  stop_is = at.number_is ∙ sym (stop_place-stop at.above x e);
}

pub read_other : (records left : List (List (List ℕ))) (x : List (List ℕ)) (number stop : ℕ) → AreReadTo records (x ∷ left) number stop → tells_stop x ≡ false
    → AreReadTo records left (number + 1) stop
read_other records left x number stop at e = record {
  above = at.above ++ x ∷ [];
  records_are = one_past records at.above left x at.records_are;
  number_is = count_past at.above x number at.number_is;
  stop_is = at.stop_is ∙ sym (stop_place-push at.above x e);
}

pub read_all : (records : List (List (List ℕ))) (number stop : ℕ) → AreReadTo records [] number stop → stop ≡ stop_place records
read_all records number stop at = at.stop_is ∙ ap stop_place (sym (at.records_are ∙ append-nil at.above))
