-- One part, filled record by record.
use Rattle.std.proofs.Common.{◌≡◌, ◌∙◌, ◌∷◌, ◌++◌, ◌+◌, [], ℕ, List, true, false, refl, ap, arith, subst, length, length-append, sym}
use Rattle.std.specs.Prelude.{All}
use Rattle.std.proofs.lemmas.List.Elements.{All-head, All-nil, All-push, All-tail}
use Rattle.sink_journal.specs.Audit.{audit_header}
use Rattle.sink_journal.specs.Records.{records_text}
use Rattle.audit_parts.specs.inner.Fields.{HasField}
use Rattle.audit_parts.specs.Cut.{cut_parts, is_border}
use Rattle.audit_parts.specs.Texts.{IsReadAs, IsTextOf}
use Rattle.audit_parts.specs.declared.part.AuditPart.{AuditPart}
use Rattle.audit_parts.proofs.CutLemmas.{Fields, border_cuts, none_joins, onto, onto_more, onto_none}
use Rattle.audit_parts.proofs.HeaderLemmas.{left_have}
use Rattle.audit_parts.proofs.ReadLemmas.{reads_back}

-- ---- the loop

-- A part has some records. The one that was read belongs to it too.
pub record IsFilled (start : List Fields) (part : AuditPart) (x : Fields) (left : List Fields) (n : ℕ) : Type 0 where
  pub own : List Fields
  pub texts : IsTextOf part own
  pub have : All HasField own
  pub ahead : All HasField (x ∷ left)
  pub cut : cut_parts start ≡ onto own (cut_parts (x ∷ left))
  pub many : length own ≡ n

pub fill_none : (part : AuditPart) (x : Fields) (left : List Fields) → IsTextOf part [] → All HasField (x ∷ left) → IsFilled (x ∷ left) part x left 0
fill_none part x left texts all = record { own = []; texts = texts; have = All-nil HasField; ahead = all; cut = onto_none x left; many = refl }

pub fill_more : (start : List Fields) (part later : AuditPart) (x y : Fields) (left rest : List Fields) (n : ℕ) → (f : IsFilled start part x left n) → left ≡ y ∷ rest → is_border x y ≡ false
    → IsTextOf later (f.own ++ x ∷ []) → IsFilled start later y rest (n + 1)
fill_more start part later x y left rest n f is none texts = record {
  own = f.own ++ x ∷ [];
  texts = texts;
  have = All-push HasField f.own x f.have (All-head HasField x left f.ahead);
  ahead = left_have y rest left is (All-tail HasField x left f.ahead);
  cut = f.cut ∙ ap (λ (l : List Fields). onto f.own (cut_parts (x ∷ l))) is ∙ ap (onto f.own) (none_joins x y rest none) ∙ onto_more f.own x (cut_parts (y ∷ rest));
  many = omega (arith, f.many, length-append f.own (x ∷ []));
}

-- what a part says once its last record is in it
abbrev pub IsPart : List Fields → AuditPart → List (List Fields) → Type 0
IsPart start part later = (own : List Fields) × IsTextOf part own × IsReadAs part.text own × (cut_parts start ≡ own ∷ later)

full_part : (start : List Fields) (part later : AuditPart) (x : Fields) (left : List Fields) (n : ℕ) (parts : List (List Fields)) → (f : IsFilled start part x left n)
    → IsTextOf later (f.own ++ x ∷ []) → cut_parts (x ∷ left) ≡ (x ∷ []) ∷ parts → IsPart start later parts
full_part start part later x left n parts f texts cut =
    let own : List Fields = f.own ++ x ∷ [] in
    let have : All HasField own = All-push HasField f.own x f.have (All-head HasField x left f.ahead) in
    let read : IsReadAs (records_text (audit_header ∷ own)) own = reads_back own have in
    let P : List ℕ → Type 0 = λ t. IsReadAs t own in
    (own, texts, subst P (sym texts.text) read, f.cut ∙ ap (onto f.own) cut)

pub fill_last : (start : List Fields) (part later : AuditPart) (x : Fields) (left : List Fields) (n : ℕ) → (f : IsFilled start part x left n) → left ≡ []
    → IsTextOf later (f.own ++ x ∷ []) → IsPart start later []
fill_last start part later x left n f none texts = full_part start part later x left n [] f texts (ap (λ (l : List Fields). cut_parts (x ∷ l)) none)

pub fill_border : (start : List Fields) (part later : AuditPart) (x y : Fields) (left rest : List Fields) (n : ℕ) → (f : IsFilled start part x left n) → left ≡ y ∷ rest → is_border x y ≡ true
    → IsTextOf later (f.own ++ x ∷ []) → IsPart start later (cut_parts (y ∷ rest))
fill_border start part later x y left rest n f is border texts =
    full_part start part later x left n (cut_parts (y ∷ rest)) f texts (ap (λ (l : List Fields). cut_parts (x ∷ l)) is ∙ border_cuts x y rest border)
