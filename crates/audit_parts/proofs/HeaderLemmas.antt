-- The first records of an audit.
use Rattle.std.proofs.Common.{◌≡◌, ◌∙◌, ◌∷◌, [], ℕ, List, Bool, true, false, MatchBool, None, Some, refl, sym, ap, if◌then◌else◌}
use Rattle.std.specs.Prelude.{All, nat_eq}
use Rattle.std.specs.Cmp.Lexicographic.{pointwise}
use Rattle.std.proofs.lemmas.Bool.{and_parts, eqb-true, false_from_ne_true}
use Rattle.std.proofs.lemmas.List.Elements.{All-same}
use Rattle.sink_journal.specs.Audit.{audit_header}
use Rattle.audit_parts.specs.inner.Fields.{HasField}
use Rattle.audit_parts.specs.Cut.{cut_parts, parts_of}
use Rattle.audit_parts.proofs.CutLemmas.{Fields}

same_text : (xs ys : List ℕ) → pointwise nat_eq xs ys ≡ true → xs ≡ ys
same_text [] [] e = refl
same_text [] (y ∷ ys) e = absurd (cc e)
same_text (x ∷ xs) [] e = absurd (cc e)
same_text (x ∷ xs) (y ∷ ys) e =
    let both = and_parts (nat_eq x y) (pointwise nat_eq xs ys) e in
    let first : x ≡ y = eqb-true x y both.0 in
    let others : xs ≡ ys = same_text xs ys both.1 in
    cc

same_fields : (xs ys : Fields) → pointwise (pointwise nat_eq) xs ys ≡ true → xs ≡ ys
same_fields [] [] e = refl
same_fields [] (y ∷ ys) e = absurd (cc e)
same_fields (x ∷ xs) [] e = absurd (cc e)
same_fields (x ∷ xs) (y ∷ ys) e =
    let both = and_parts (pointwise nat_eq x y) (pointwise (pointwise nat_eq) xs ys) e in
    let first : x ≡ y = same_text x y both.0 in
    let others : xs ≡ ys = same_fields xs ys both.1 in
    cc

choice_none : (b : Bool) (parts : List (List Fields)) → b ≡ false → (if b then Some parts else None) ≡ None
choice_none b parts e = rw e refl

-- what begins with another record has no parts
pub no_header : (first : Fields) (left records : List Fields) → records ≡ first ∷ left → (first ≡ audit_header → ⊥) → parts_of records ≡ None
no_header first left records is other =
    ap parts_of is
    ∙ choice_none (pointwise (pointwise nat_eq) first audit_header) (cut_parts left)
    (false_from_ne_true (pointwise (pointwise nat_eq) first audit_header) (λ e. other (same_fields first audit_header e)))

-- the records that a read leaves have fields
pub left_have : (first : Fields) (left records : List Fields) → records ≡ first ∷ left → All HasField records → All HasField (first ∷ left)
left_have first left records is all = All-same HasField (first ∷ left) records (sym is) all

pub found_have : (found : Bool) (first : Fields) (left records : List Fields) → MatchBool found (records ≡ first ∷ left) (records ≡ []) → All HasField records
    → found ≡ true → All HasField (first ∷ left)
found_have true first left records is all e = left_have first left records is all
found_have false first left records is all e = absurd (cc e)
