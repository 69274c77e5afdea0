-- Records of any length: a writer that lets their lengths differ writes the same text of each.
use Rattle.std.proofs.Common.{◌≡◌, ◌∙◌, ◌++◌, ◌==◌, ℕ, true, List, [], ◌∷◌, refl, ap, length, if◌then◌else◌}
use Rattle.csv.specs.Writing.{default_writer, escaped, field_text, fields_text, is_blank, needs_quotes, row_body, row_text, with_flexible}
use Rattle.csv.specs.declared.writer.WriterBuilder.{WriterBuilder}

abbrev any_length : WriterBuilder
any_length = with_flexible default_writer true

escaped_same : (field : List ℕ) → escaped any_length field ≡ escaped default_writer field
unfolding escaped
escaped_same [] = refl
escaped_same (b ∷ rest) = ap (λ l. if b == 34 then 34 ∷ b ∷ l else b ∷ l) (escaped_same rest)

field_same : (field : List ℕ) → field_text any_length field ≡ field_text default_writer field
field_same field = ap (λ l. if needs_quotes default_writer field then 34 ∷ (l ++ (34 ∷ [])) else field) (escaped_same field)

fields_same : (fields : List (List ℕ)) → fields_text any_length fields ≡ fields_text default_writer fields
unfolding fields_text
fields_same [] = refl
fields_same (field ∷ rest) =
    ap (λ l. 44 ∷ (l ++ fields_text any_length rest)) (field_same field)
    ∙ ap (λ l. 44 ∷ (field_text default_writer field ++ l)) (fields_same rest)

blank_same : (fields : List (List ℕ)) → is_blank any_length fields ≡ is_blank default_writer fields
unfolding is_blank
blank_same [] = refl
blank_same (field ∷ []) = ap (λ l. length l == 0) (field_same field)
blank_same (field ∷ next ∷ rest) = refl

body_same : (fields : List (List ℕ)) → row_body any_length fields ≡ row_body default_writer fields
body_same [] = refl
body_same (field ∷ rest) = ap (λ l. l ++ fields_text any_length rest) (field_same field) ∙ ap (λ l. field_text default_writer field ++ l) (fields_same rest)

pub row_same : (fields : List (List ℕ)) → row_text (with_flexible default_writer true) fields ≡ row_text default_writer fields
row_same fields =
    ap (λ l. l ++ ((if is_blank any_length fields then 34 ∷ 34 ∷ [] else []) ++ (10 ∷ []))) (body_same fields)
    ∙ ap (λ b. row_body default_writer fields ++ ((if b then 34 ∷ 34 ∷ [] else []) ++ (10 ∷ []))) (blank_same fields)
