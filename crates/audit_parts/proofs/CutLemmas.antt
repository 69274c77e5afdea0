-- Records that are cut into parts.
use Rattle.std.proofs.Common.{◌≡◌, ◌≢◌, ◌∙◌, ◌++◌, ◌∷◌, [], ℕ, List, Bool, true, false, refl, sym, ap, append_assoc, if◌then◌else◌}
use Rattle.std.specs.Prelude.{All}
use Rattle.std.specs.List.{flat_map}
use Rattle.std.proofs.lemmas.List.Elements.{All-cons, All-nil, All-tail}
use Rattle.audit_parts.specs.Cut.{before_parts, cut_parts, is_border}

abbrev pub Fields : Type 0
Fields = List (List ℕ)

-- parts with records before the first of them
abbrev pub onto : List Fields → List (List Fields) → List (List Fields)
onto own [] = own ∷ []
onto own (part ∷ parts) = (own ++ part) ∷ parts

-- ---- the first record of the first part

abbrev pub BeginsBy : Fields → List (List Fields) → Type 0
BeginsBy x [] = ⊥
BeginsBy x ([] ∷ parts) = ⊥
BeginsBy x ((y ∷ part) ∷ parts) = y ≡ x

chosen_begins : (b : Bool) (x y : Fields) (part : List Fields) (parts : List (List Fields))
    → BeginsBy x (if b then (x ∷ []) ∷ (y ∷ part) ∷ parts else (x ∷ y ∷ part) ∷ parts)
chosen_begins true x y part parts = refl
chosen_begins false x y part parts = refl

before_begins : (x : Fields) (parts : List (List Fields)) → BeginsBy x (before_parts x parts)
before_begins x [] = refl
before_begins x ([] ∷ parts) = refl
before_begins x ((y ∷ part) ∷ parts) = chosen_begins (is_border x y) x y part parts

pub cut_begins : (x : Fields) (left : List Fields) → BeginsBy x (cut_parts (x ∷ left))
cut_begins x left = before_begins x (cut_parts left)

-- ---- a border or none

border_at : (x y : Fields) (parts : List (List Fields)) → BeginsBy y parts → is_border x y ≡ true → before_parts x parts ≡ (x ∷ []) ∷ parts
border_at x y [] begins border = absurd begins
border_at x y ([] ∷ parts) begins border = absurd begins
border_at x y ((z ∷ part) ∷ parts) begins border = rw (begins, border) refl

joined_at : (x y : Fields) (parts : List (List Fields)) → BeginsBy y parts → is_border x y ≡ false → before_parts x parts ≡ onto (x ∷ []) parts
joined_at x y [] begins none = absurd begins
joined_at x y ([] ∷ parts) begins none = absurd begins
joined_at x y ((z ∷ part) ∷ parts) begins none = rw (begins, none) refl

pub border_cuts : (x y : Fields) (left : List Fields) → is_border x y ≡ true → cut_parts (x ∷ y ∷ left) ≡ (x ∷ []) ∷ cut_parts (y ∷ left)
border_cuts x y left border = border_at x y (cut_parts (y ∷ left)) (cut_begins y left) border

pub none_joins : (x y : Fields) (left : List Fields) → is_border x y ≡ false → cut_parts (x ∷ y ∷ left) ≡ onto (x ∷ []) (cut_parts (y ∷ left))
none_joins x y left none = joined_at x y (cut_parts (y ∷ left)) (cut_begins y left) none

-- ---- records before parts

pub onto_none : (x : Fields) (left : List Fields) → cut_parts (x ∷ left) ≡ onto [] (cut_parts (x ∷ left))
onto_none x left = go (cut_parts (x ∷ left)) (cut_begins x left)
  where
    go : (parts : List (List Fields)) → BeginsBy x parts → parts ≡ onto [] parts
    go [] begins = absurd begins
    go (part ∷ parts) begins = refl

pub onto_more : (own : List Fields) (x : Fields) (parts : List (List Fields)) → onto own (onto (x ∷ []) parts) ≡ onto (own ++ x ∷ []) parts
onto_more own x [] = refl
onto_more own x (part ∷ parts) = ap (λ (p : List Fields). p ∷ parts) (sym (append_assoc own (x ∷ []) part))

-- ---- the laws

joined_choice : (b : Bool) (x y : Fields) (part : List Fields) (parts : List (List Fields))
    → flat_map (λ (p : List Fields). p) (if b then (x ∷ []) ∷ (y ∷ part) ∷ parts else (x ∷ y ∷ part) ∷ parts)
    ≡ x ∷ (y ∷ part) ++ flat_map (λ (p : List Fields). p) parts
joined_choice true x y part parts = refl
joined_choice false x y part parts = refl

before_joined : (x : Fields) (parts : List (List Fields)) → flat_map (λ (p : List Fields). p) (before_parts x parts) ≡ x ∷ flat_map (λ (p : List Fields). p) parts
before_joined x [] = refl
before_joined x ([] ∷ parts) = refl
before_joined x ((y ∷ part) ∷ parts) = joined_choice (is_border x y) x y part parts

pub cut_joined : (records : List Fields) → flat_map (λ (p : List Fields). p) (cut_parts records) ≡ records
cut_joined [] = refl
cut_joined (x ∷ records) = before_joined x (cut_parts records) ∙ ap (λ (l : List Fields). x ∷ l) (cut_joined records)

abbrev IsFull : List Fields → Type 0
IsFull part = part ≢ []

full_choice : (b : Bool) (x y : Fields) (part : List Fields) (parts : List (List Fields)) → All IsFull parts
    → All IsFull (if b then (x ∷ []) ∷ (y ∷ part) ∷ parts else (x ∷ y ∷ part) ∷ parts)
full_choice true x y part parts all = All-cons IsFull (x ∷ []) ((y ∷ part) ∷ parts) (λ e. cc e) (All-cons IsFull (y ∷ part) parts (λ e. cc e) all)
full_choice false x y part parts all = All-cons IsFull (x ∷ y ∷ part) parts (λ e. cc e) all

full_before : (x : Fields) (parts : List (List Fields)) → All IsFull parts → All IsFull (before_parts x parts)
full_before x [] all = All-cons IsFull (x ∷ []) [] (λ e. cc e) all
full_before x ([] ∷ parts) all = All-cons IsFull (x ∷ []) parts (λ e. cc e) (All-tail IsFull [] parts all)
full_before x ((y ∷ part) ∷ parts) all = full_choice (is_border x y) x y part parts (All-tail IsFull (y ∷ part) parts all)

pub cut_full : (records : List Fields) → All (λ part. part ≢ []) (cut_parts records)
cut_full [] = All-nil IsFull
cut_full (x ∷ records) = full_before x (cut_parts records) (cut_full records)
