-- What stands on the lanes, as code keeps it.
use Rattle.std.proofs.Common.{◌≡◌, ◌≢◌, ◌∙◌, ◌<◌, ◌≤◌, ◌+◌, ◌++◌, ◌==◌, ℕ, zero, suc, List, [], ◌∷◌, refl, sym, ap, ap₂, subst, arith, true, false, Bool, cond, drop, length, map, get_or, replicate, option_to_list, Option, Some, None}
use Rattle.std.specs.Prelude.{MatchOption, slice_set}
use Rattle.std.proofs.lemmas.Bool.{eq-eqb, eqb-true}
use Rattle.std.proofs.lemmas.List.{length-map, length-set}
use Rattle.tuple_trace.specs.declared.tuple.Item.{Item}
use Rattle.audit_laws.specs.Restoring.{items_taken, later_items}
use Rattle.audit_check.proofs.TellingLemmas.{set_elsewhere, set_here}
use Rattle.audit_restore.specs.Standing.{HasTaken, left_on}

-- ---- lists that are seen through a function

pub map_set : {X Y : Type 0} (f : X → Y) (xs : List X) (i : ℕ) (x : X) → map f (slice_set xs i x) ≡ slice_set (map f xs) i (f x)
map_set f [] i x = refl
map_set f (y ∷ xs) zero x = refl
map_set {X} {Y} f (y ∷ xs) (suc i) x = ap (λ (l : List Y). f y ∷ l) (map_set f xs i x)

pub seen_get : {X Y : Type 0} (f : X → List Y) (xs : List X) (i : ℕ) (d : X) → i < length xs → get_or (map f xs) i [] ≡ f (get_or xs i d)
seen_get f [] i d lt = absurd (omega (arith, lt))
seen_get f (x ∷ xs) zero d lt = refl
seen_get f (x ∷ xs) (suc i) d lt = seen_get f xs i d (omega (arith, lt))

pub set_seen : {X Y : Type 0} (f : X → List Y) (xs : List X) (view : List (List Y)) (i : ℕ) (new : X) (ys : List Y) → map f xs ≡ view → f new ≡ ys → map f (slice_set xs i new) ≡ slice_set view i ys
set_seen {X} {Y} f xs view i new ys e is = map_set f xs i new ∙ ap₂ (λ (l : List (List Y)) (zs : List Y). slice_set l i zs) e is

pub put_seen : {X Y : Type 0} (f : X → List Y) (xs : List X) (view : List (List Y)) (i : ℕ) (was new : X) (y : Y) → map f xs ≡ view → i < length xs → was ≡ get_or xs i was → f new ≡ f was ++ y ∷ []
    → map f (slice_set xs i new) ≡ slice_set view i (get_or view i [] ++ y ∷ [])
put_seen {X} {Y} f xs view i was new y e lt at grown =
    set_seen f xs view i new (get_or view i [] ++ y ∷ []) e
    (grown ∙ ap (λ (l : List Y). l ++ y ∷ []) (ap f at ∙ (sym (seen_get f xs i was lt) ∙ ap (λ (l : List (List Y)). get_or l i []) e)))

pub seen_length : {X Y : Type 0} (f : X → List Y) (xs : List X) (view : List (List Y)) (i : ℕ) → map f xs ≡ view → i < length view → i < length xs
seen_length f xs view i e lt = omega (arith, lt, ap length e, length-map xs f)

pub one_more_empty : {X Y : Type 0} (f : X → List Y) (xs : List X) (n : ℕ) (x : X) → map f xs ≡ replicate n [] → f x ≡ [] → map f (xs ++ x ∷ []) ≡ replicate (n + 1) []
one_more_empty {X} {Y} f xs n x e none = map_last xs ∙ (ap₂ (λ (l : List (List Y)) (y : List Y). l ++ y ∷ []) e none ∙ more n)
  where
    map_last : (xs : List X) → map f (xs ++ x ∷ []) ≡ map f xs ++ f x ∷ []
    map_last [] = refl
    map_last (z ∷ xs) = ap (λ (l : List (List Y)). f z ∷ l) (map_last xs)

    more : (n : ℕ) → replicate {A = List Y} n [] ++ [] ∷ [] ≡ replicate (n + 1) []
    more zero = refl
    more (suc n) = let s : suc n + 1 ≡ suc (n + 1) = omega arith in ap (λ (l : List (List Y)). [] ∷ l) (more n) ∙ ap (λ (k : ℕ). replicate {A = List Y} k []) (sym s)

-- ---- what stands on a lane

pub left_get : (standing : List (List Item)) (n : ℕ) → left_on standing n ≡ get_or standing n []
left_get [] n = refl
left_get (x ∷ standing) zero = refl
left_get (x ∷ standing) (suc n) = left_get standing n

pub left_here : (standing : List (List Item)) (n : ℕ) (items : List Item) → n < length standing → left_on (slice_set standing n items) n ≡ items
left_here standing n items lt = ap items_taken (set_here standing n items lt)

pub left_elsewhere : (standing : List (List Item)) (n k : ℕ) (items : List Item) → n ≢ k → left_on (slice_set standing k items) n ≡ left_on standing n
left_elsewhere standing n k items ne = ap items_taken (set_elsewhere standing n k items ne)

pub left_past : (standing : List (List Item)) (n : ℕ) → length standing ≤ n → left_on standing n ≡ []
left_past [] n le = refl
left_past (x ∷ standing) zero le = absurd (omega (arith, le))
left_past (x ∷ standing) (suc n) le = left_past standing n (omega (arith, le))

later_drop : (items : List Item) → drop 1 items ≡ later_items items
later_drop [] = refl
later_drop (x ∷ items) = refl

pub self_drop : {A : Type 0} (items : List A) → items ≡ drop 1 items → items ≡ []
self_drop [] e = refl
self_drop (x ∷ items) e = absurd (omega (arith, ap length e))

-- the next item of a lane is taken
pub taken_set : (standing : List (List Item)) (lane : ℕ) (items : List Item) → lane < length standing → items ≡ later_items (left_on standing lane) → HasTaken lane standing (slice_set standing lane items)
taken_set standing lane items lt e = record {
  long = length-set standing lane items;
  left = λ n. go n (lane == n) refl;
}
  where
    go : (n : ℕ) (b : Bool) → (lane == n) ≡ b → left_on (slice_set standing lane items) n ≡ cond b (later_items (left_on standing n)) (left_on standing n)
    go n true t =
        let same : lane ≡ n = eqb-true lane n t in
        subst (λ k. left_on (slice_set standing lane items) k ≡ later_items (left_on standing k)) same (left_here standing lane items lt ∙ e)
    go n false f = left_elsewhere standing n lane items (λ q. let t = eq-eqb lane n (sym q) in absurd (cc))

-- there is no such lane
pub taken_none : (standing : List (List Item)) (lane : ℕ) → length standing ≤ lane → HasTaken lane standing standing
taken_none standing lane le = record {
  long = refl;
  left = λ n. go n (lane == n) refl;
}
  where
    go : (n : ℕ) (b : Bool) → (lane == n) ≡ b → left_on standing n ≡ cond b (later_items (left_on standing n)) (left_on standing n)
    go n true t =
        let none : left_on standing n ≡ [] = left_past standing n (let q = eqb-true lane n t in omega (arith, le, q)) in
        none ∙ ap later_items (sym none)
    go n false f = refl

-- as a queue gives it
pub popped : {X : Type 0} (f : X → List Item) (xs : List X) (view : List (List Item)) (lane : ℕ) (was new : X) → map f xs ≡ view → lane < length xs → was ≡ get_or xs lane was → f new ≡ drop 1 (f was)
    → HasTaken lane view (map f (slice_set xs lane new))
popped f xs view lane was new e lt at rest =
    let here : f was ≡ left_on view lane = ap f at ∙ (sym (seen_get f xs lane was lt) ∙ (ap (λ (l : List (List Item)). get_or l lane []) e ∙ sym (left_get view lane))) in
    let long : lane < length view = omega (arith, lt, ap length e, length-map xs f) in
    subst (HasTaken lane view) (sym (set_seen f xs view lane new (f new) e refl)) (taken_set view lane (f new) long (rest ∙ (later_drop (f was) ∙ ap later_items here)))

pub popped_item : {X : Type 0} (f : X → List Item) (xs : List X) (view : List (List Item)) (lane : ℕ) (was new : X) (found : Option Item) → map f xs ≡ view → lane < length xs → was ≡ get_or xs lane was
    → f was ≡ option_to_list found ++ f new → f new ≡ drop 1 (f was)
    → MatchOption found (left_on view lane ≡ []) (λ item. left_on view lane ≡ item ∷ left_on (map f (slice_set xs lane new)) lane)
popped_item f xs view lane was new found e lt at items rest = go found items
  where
    here : f was ≡ left_on view lane
    here = ap f at ∙ (sym (seen_get f xs lane was lt) ∙ (ap (λ (l : List (List Item)). get_or l lane []) e ∙ sym (left_get view lane)))

    after : left_on (map f (slice_set xs lane new)) lane ≡ f new
    after = ap (λ (l : List (List Item)). left_on l lane) (set_seen f xs view lane new (f new) e refl) ∙ left_here view lane (f new) (omega (arith, lt, ap length e, length-map xs f))

    go : (o : Option Item) → f was ≡ option_to_list o ++ f new → MatchOption o (left_on view lane ≡ []) (λ item. left_on view lane ≡ item ∷ left_on (map f (slice_set xs lane new)) lane)
    go None items = sym here ∙ self_drop (f was) (items ∙ rest)
    go (Some item) items = sym here ∙ (items ∙ ap (λ (l : List Item). item ∷ l) (sym after))
