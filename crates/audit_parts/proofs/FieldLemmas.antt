-- The text of a record, field by field.
use Rattle.std.proofs.Common.{◌≡◌, ◌==◌, ◌++◌, ◌∷◌, ◌∙◌, ◌<◌, ◌≤◌, [], ℕ, List, Bool, true, false, refl, sym, ap, arith, append_assoc, drop, get_or, length}
use Rattle.std.proofs.lemmas.Bool.{ne_eqb}
use Rattle.csv.specs.Writing.{default_writer, field_text, fields_text, is_blank, needs_quotes}
use Rattle.sink_journal.specs.Records.{record_text}

-- ---- one field more

-- one more field of those that are left, after its comma
pub one-field : (old mid new field end : List ℕ) (rest : List (List ℕ)) → mid ≡ old ++ 44 ∷ [] → new ≡ mid ++ field_text default_writer field
    → old ++ fields_text default_writer (field ∷ rest) ≡ end → new ++ fields_text default_writer rest ≡ end
unfolding fields_text
one-field old mid new field end rest comma text before =
    let F : List ℕ = field_text default_writer field in
    let G : List ℕ = fields_text default_writer rest in
    ap (λ (t : List ℕ). t ++ G) (text ∙ ap (λ (t : List ℕ). t ++ F) comma)
    ∙ append_assoc (old ++ 44 ∷ []) F G
    ∙ append_assoc old (44 ∷ []) (F ++ G)
    ∙ before

-- ---- a whole record

-- a field that is written as nothing is empty
not-empty : (b : ℕ) (rest : List ℕ) → (length (field_text default_writer (b ∷ rest)) == 0) ≡ false
not-empty b rest = go (needs_quotes default_writer (b ∷ rest)) refl
  where
    go : (q : Bool) → needs_quotes default_writer (b ∷ rest) ≡ q → (length (field_text default_writer (b ∷ rest)) == 0) ≡ false
    go true e = rw e (ne_eqb _ 0 (λ z. omega arith))
    go false e = rw e (ne_eqb _ 0 (λ z. omega arith))

-- the test of a record that shows no byte
pub blank-is : (fields : List (List ℕ)) → length fields < 2 → (length (get_or fields 0 []) == 0) ≡ is_blank default_writer fields
unfolding is_blank
blank-is [] few = refl
blank-is ([] ∷ []) few = refl
blank-is ((b ∷ rest) ∷ []) few = ne_eqb _ 0 (λ z. omega arith) ∙ sym (not-empty b rest)
blank-is (x ∷ y ∷ more) few = absurd (omega arith)

pub not-blank : (fields : List (List ℕ)) → 2 ≤ length fields → is_blank default_writer fields ≡ false
unfolding is_blank
not-blank [] many = absurd (omega arith)
not-blank (x ∷ []) many = absurd (omega arith)
not-blank (x ∷ y ∷ more) many = refl

blank-body : (fields : List (List ℕ)) → is_blank default_writer fields ≡ true → record_text fields ≡ 34 ∷ 34 ∷ 10 ∷ []
unfolding is_blank fields_text
blank-body [] blank = refl
blank-body ([] ∷ []) blank = refl
blank-body ((b ∷ rest) ∷ []) blank = absurd (cc (sym blank ∙ not-empty b rest))
blank-body (x ∷ y ∷ more) blank = absurd (cc)

-- a record that shows no byte
pub blank-record : (old new : List ℕ) (fields : List (List ℕ)) → is_blank default_writer fields ≡ true → new ≡ old ++ 34 ∷ 34 ∷ 10 ∷ [] → new ≡ old ++ record_text fields
blank-record old new fields blank text = text ∙ ap (λ (t : List ℕ). old ++ t) (sym (blank-body fields blank))

shown-body : (fields : List (List ℕ)) → is_blank default_writer fields ≡ false
    → record_text fields ≡ field_text default_writer (get_or fields 0 []) ++ (fields_text default_writer (drop 1 fields) ++ 10 ∷ [])
unfolding is_blank
shown-body [] shown = absurd (cc)
shown-body (x ∷ more) shown = rw shown (append_assoc (field_text default_writer x) (fields_text default_writer more) (10 ∷ []))

-- a record with bytes: its first field, the others, and its end
pub shown-record : (old one two new : List ℕ) (fields : List (List ℕ)) → is_blank default_writer fields ≡ false
    → one ≡ old ++ field_text default_writer (get_or fields 0 []) → two ≡ one ++ fields_text default_writer (drop 1 fields) → new ≡ two ++ 10 ∷ []
    → new ≡ old ++ record_text fields
shown-record old one two new fields shown first later end =
    let F : List ℕ = field_text default_writer (get_or fields 0 []) in
    let G : List ℕ = fields_text default_writer (drop 1 fields) in
    end ∙ ap (λ (t : List ℕ). t ++ 10 ∷ []) (later ∙ ap (λ (t : List ℕ). t ++ G) first)
    ∙ append_assoc (old ++ F) G (10 ∷ []) ∙ append_assoc old F (G ++ 10 ∷ [])
    ∙ ap (λ (t : List ℕ). old ++ t) (sym (shown-body fields shown))
