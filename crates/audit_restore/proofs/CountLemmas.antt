-- The counts of workers, as an audit tells them.
use Rattle.std.proofs.Common.{◌≡◌, ◌≢◌, ◌∙◌, ◌<◌, ◌≤◌, ◌+◌, ◌++◌, ℕ, zero, suc, List, [], ◌∷◌, inl, inr, refl, sym, ap, subst, arith, get_or, length, map, take, Some, slice_get}
use Rattle.std.proofs.lemmas.List.{append-nil, append_assoc, length-map, length-take, take_all, take_more}
use Rattle.std.proofs.lemmas.Option.{get_or_from_slice_get, same_Some, slice_get-get_or, slice_get_within}
use Rattle.std.specs.Prelude.{All}
use Rattle.flow_model.proofs.ElementLemmas.{IsIn, all_of_at, at_of_all, in_cases}
use Rattle.audit_check.proofs.PartLemmas.{get_after}

-- Some items are the first ones of a list, and these are left.
pub record AreFirst {A : Type 0} (told all left : List A) (place : ℕ) : Type 0 where
  pub split : all ≡ take place told ++ left
  pub within : place ≤ length told

pub none_yet : {A : Type 0} (told all : List A) → AreFirst told all all 0
none_yet told all = record { split = refl; within = omega arith }

pub next_first : {A : Type 0} (told all left later : List A) (place : ℕ) (x : A) → AreFirst told all left place → left ≡ x ∷ later → slice_get told place ≡ Some x → AreFirst told all later (place + 1)
next_first {A} told all left later place x are e g =
    let lt = slice_get_within told place x g in
    record {
      split =
          are.split ∙ (ap (λ (l : List A). take place told ++ l) e ∙ (sym (append_assoc (take place told) (x ∷ []) later)
          ∙ ap (λ (l : List A). l ++ later) (ap (λ (y : A). take place told ++ y ∷ []) (sym (get_or_from_slice_get told place x x g)) ∙ sym (take_more told place x lt))));
      within = omega (arith, lt);
    }

pub other_next : {A : Type 0} (told all left later : List A) (place : ℕ) (x : A) → AreFirst told all left place → left ≡ x ∷ later → (slice_get told place ≡ Some x → ⊥) → told ≡ all → ⊥
other_next {A} told all left later place x are e ne same =
    let le = are.within in
    ne (ap (λ (l : List A). slice_get l place) (same ∙ (are.split ∙ ap (λ (l : List A). take place told ++ l) e)) ∙ get_after (take place told) x later place (length-take place told ∙ omega (arith, le)))

pub all_first : {A : Type 0} (told all left : List A) (place : ℕ) → AreFirst told all left place → left ≡ [] → place ≡ length told → told ≡ all
all_first {A} told all left place are none e =
    sym (take_all place told (omega (arith, e))) ∙ (sym (append-nil (take place told)) ∙ (ap (λ (l : List A). take place told ++ l) (sym none) ∙ sym are.split))

pub as_long : {A : Type 0} (told all left : List A) (place : ℕ) → AreFirst told all left place → left ≡ [] → told ≡ all → place ≡ length told
as_long {A} told all left place are none same =
    let le = are.within in
    let e : told ≡ take place told = same ∙ (are.split ∙ (ap (λ (l : List A). take place told ++ l) none ∙ append-nil (take place told))) in
    omega (arith, le, ap length e, length-take place told)

-- ---- two lists, place by place

pub same_more : {X Y : Type 0} (f : X → Y) (ys : List Y) (xs : List X) (i : ℕ) (y : Y) (x : X) → take i ys ≡ take i (map f xs) → i < length ys → i < length xs → get_or ys i y ≡ f (get_or xs i x)
    → take (i + 1) ys ≡ take (i + 1) (map f xs)
same_more {X} {Y} f ys xs i y x e ly lx here =
    take_more ys i y ly ∙ (ap (λ (l : List Y). l ++ get_or ys i y ∷ []) e ∙ (ap (λ (z : Y). take i (map f xs) ++ z ∷ []) (here ∙ sym (mapped xs i lx))
    ∙ sym (take_more (map f xs) i y (omega (arith, lx, length-map xs f)))))
  where
    mapped : (xs : List X) (i : ℕ) → i < length xs → get_or (map f xs) i y ≡ f (get_or xs i x)
    mapped [] i lt = absurd (omega (arith, lt))
    mapped (z ∷ xs) zero lt = refl
    mapped (z ∷ xs) (suc i) lt = mapped xs i (omega (arith, lt))

pub same_all : {X Y : Type 0} (f : X → Y) (ys : List Y) (xs : List X) (i : ℕ) → take i ys ≡ take i (map f xs) → length ys ≤ i → length xs ≤ i → ys ≡ map f xs
same_all f ys xs i e ly lx = sym (take_all i ys ly) ∙ (e ∙ take_all i (map f xs) (omega (arith, lx, length-map xs f)))

pub other_at : {X Y : Type 0} (f : X → Y) (ys : List Y) (xs : List X) (i : ℕ) (y : Y) (x : X) → i < length ys → i < length xs → (get_or ys i y ≡ f (get_or xs i x) → ⊥) → slice_get ys i ≢ slice_get (map f xs) i
other_at {X} f ys xs i y x ly lx ne e = ne (same_Some (get_or ys i y) (f (get_or xs i x)) (sym (slice_get-get_or ys i y ly) ∙ (e ∙ mapped xs i lx)))
  where
    mapped : (xs : List X) (i : ℕ) → i < length xs → slice_get (map f xs) i ≡ Some (f (get_or xs i x))
    mapped [] i lt = absurd (omega (arith, lt))
    mapped (z ∷ xs) zero lt = refl
    mapped (z ∷ xs) (suc i) lt = mapped xs i (omega (arith, lt))

-- ---- all of a list

pub all_more : {A : Type 0} (P : A → Type 0) (xs : List A) (i : ℕ) (d : A) → All P (take i xs) → i < length xs → P (get_or xs i d) → All P (take (i + 1) xs)
all_more P xs i d all lt here =
    all_of_at P (take (i + 1) xs) (λ x j.
    elim (in_cases x (take i xs) (get_or xs i d ∷ []) (subst (λ l. IsIn x l) (take_more xs i d lt) j)) [
      | inl a ↦ at_of_all P x (take i xs) all a
      | inr (inl e) ↦ subst P (sym e) here
      | inr (inr none) ↦ absurd none
    ])

pub all_there : {A : Type 0} (P : A → Type 0) (xs : List A) (i : ℕ) → All P (take i xs) → length xs ≤ i → All P xs
all_there P xs i all le = subst (All P) (take_all i xs le) all
