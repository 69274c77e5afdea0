-- How an audit is read, record by record.
use Rattle.std.proofs.Common.{◌≡◌, ◌≢◌, ◌∙◌, ◌<◌, ◌≤◌, ◌+◌, ◌++◌, ℕ, List, [], ◌∷◌, inl, inr, refl, sym, ap, subst, arith}
use Rattle.std.proofs.lemmas.List.{append-nil, append_assoc, length-append, map-append}
use Rattle.jobs.specs.Law.{IsLawful}
use Rattle.jobs.specs.JobView.{JobView}
use Rattle.sink_journal.specs.Audit.{audit_header}
use Rattle.flow_model.proofs.ElementLemmas.{IsIn, all_of_at, all_of_pairs, at_of_all, before_cases, contains_of_in, in_cases, in_of_contains, in_right, pair_of_all}
use Rattle.audit_laws.specs.declared.audit.Line.{Line}
use Rattle.audit_laws.specs.Lines.{IsLawfulLine, group_of, line_fields}
use Rattle.audit_laws.specs.Names.{named_workers}
use Rattle.audit_laws.specs.Verdict.{AreInShape, HasBadShape, HasNoHeader, fields_of}
use Rattle.audit_laws.proofs.LineLemmas.{same_line}
use Rattle.audit_laws.proofs.NamedLemmas.{are_told}
use Rattle.audit_check.specs.Reading.{AreRead}

-- ---- the header

pub no_record : (records : List (List (List ℕ))) → records ≡ [] → HasNoHeader records
no_record records none later e = let some = sym none ∙ e in absurd (cc)

pub no_header : (records : List (List (List ℕ))) (cells : List (List ℕ)) (left : List (List (List ℕ))) → records ≡ cells ∷ left → cells ≢ audit_header → HasNoHeader records
no_header records cells left is ne later e = let both = sym is ∙ e in let same : cells ≡ audit_header = cc in ne same

pub begun : (job : JobView) (records : List (List (List ℕ))) (cells : List (List ℕ)) (left : List (List (List ℕ))) → records ≡ cells ∷ left → cells ≡ audit_header → AreRead job records left 1 0
begun job records cells left is header = record {
  above = [];
  fields = is ∙ ap (λ (first : List (List ℕ)). first ∷ left) header;
  number_is = refl;
  each = all_of_at (IsLawfulLine job) [] (λ x i. absurd i);
  ordered = all_of_pairs (λ a b. group_of a ≤ group_of b) [] (λ x y b. absurd b);
  below = all_of_at (λ earlier. group_of earlier ≤ 0) [] (λ x i. absurd i);
  reached = inl refl;
}

pub begun_above : (job : JobView) (records : List (List (List ℕ))) (cells : List (List ℕ)) (left : List (List (List ℕ))) (is : records ≡ cells ∷ left) (header : cells ≡ audit_header)
    → (begun job records cells left is header).above ≡ []
unfolding begun
begun_above job records cells left is header = refl

-- ---- a line

module _ (job : JobView) (records : List (List (List ℕ))) (cells : List (List ℕ)) (left : List (List (List ℕ))) (number group : ℕ) (read : AreRead job records (cells ∷ left) number group)
  where
    pub one_more : (l : Line) → IsLawfulLine job l → cells ≡ line_fields (named_workers job.nodes) l → group ≤ group_of l → AreRead job records left (number + 1) (group_of l)
    one_more l is told le =
        let up : (x : Line) → IsIn x read.above → group_of x ≤ group_of l = λ x i.
        let low = at_of_all (λ earlier. group_of earlier ≤ group) x read.above read.below i in
        omega arith in
        record {
          above = read.above ++ l ∷ [];
          fields =
              read.fields
              ∙ ap (λ (rest : List (List (List ℕ))). audit_header ∷ rest)
              (ap (λ (first : List (List ℕ)). fields_of job read.above ++ first ∷ left) told
              ∙ (sym (append_assoc (fields_of job read.above) (line_fields (named_workers job.nodes) l ∷ []) left)
              ∙ ap (λ (front : List (List (List ℕ))). front ++ left) (sym (map-append (line_fields (named_workers job.nodes)) read.above (l ∷ [])))));
          number_is = omega (arith, read.number_is, length-append read.above (l ∷ []));
          each =
              all_of_at (IsLawfulLine job) (read.above ++ l ∷ []) (λ x i.
              elim (in_cases x read.above (l ∷ []) i) [
                | inl a ↦ at_of_all (IsLawfulLine job) x read.above read.each a
                | inr (inl e) ↦ subst (IsLawfulLine job) (sym e) is
                | inr (inr none) ↦ absurd none
              ]);
          ordered =
              all_of_pairs (λ a b. group_of a ≤ group_of b) (read.above ++ l ∷ []) (λ x y b.
              elim (before_cases x y read.above (l ∷ []) b) [
                | inl i ↦ pair_of_all (λ a b. group_of a ≤ group_of b) x y read.above read.ordered i
                | inr (inl (inl i)) ↦ absurd i.1
                | inr (inl (inr i)) ↦ absurd i
                | inr (inr (i, inl e)) ↦ subst (λ (z : Line). group_of x ≤ group_of z) (sym e) (up x i)
                | inr (inr (i, inr none)) ↦ absurd none
              ]);
          below =
              all_of_at (λ earlier. group_of earlier ≤ group_of l) (read.above ++ l ∷ []) (λ x i.
              elim (in_cases x read.above (l ∷ []) i) [
                | inl a ↦ up x a
                | inr (inl e) ↦ subst (λ (z : Line). group_of z ≤ group_of l) (sym e) (omega arith)
                | inr (inr none) ↦ absurd none
              ]);
          reached = inr (l, contains_of_in l (read.above ++ l ∷ []) (in_right l read.above (l ∷ []) (inl refl)), refl);
        }

    pub one_more_above : (l : Line) (is : IsLawfulLine job l) (told : cells ≡ line_fields (named_workers job.nodes) l) (le : group ≤ group_of l)
        → (one_more l is told le).above ≡ read.above ++ l ∷ []
    unfolding one_more
    one_more_above l is told le = refl

    -- a record that tells no line is the first that breaks a rule
    pub no_such_line : ((l : Line) → IsLawfulLine job l → cells ≢ line_fields (named_workers job.nodes) l) → HasBadShape job records number
    no_such_line none = record {
      above = read.above;
      here = cells;
      later = left;
      fields = read.fields;
      place = read.number_is;
      each = read.each;
      ordered = read.ordered;
      misshapen = λ l is told order. none l is told;
    }

    -- so is a line whose group comes before that of a line above
    pub out_of_order : IsLawful job → (l : Line) → IsLawfulLine job l → cells ≡ line_fields (named_workers job.nodes) l → group_of l < group → HasBadShape job records number
    out_of_order law l is told lt = record {
      above = read.above;
      here = cells;
      later = left;
      fields = read.fields;
      place = read.number_is;
      each = read.each;
      ordered = read.ordered;
      misshapen = λ k its tells order.
          let same : k ≡ l = same_line job (are_told job law) k l its is (sym tells ∙ told) in
          let small : group_of k < group = subst (λ (z : Line). group_of z < group) (sym same) lt in
          elim read.reached [
            | inl none ↦ absurd (omega arith)
            | inr (e, i, at) ↦ let le = at_of_all (λ earlier. group_of earlier ≤ group_of k) e read.above order (in_of_contains e read.above i) in absurd (omega arith)
          ];
    }

-- ---- the end

pub all_read : (job : JobView) (records left : List (List (List ℕ))) (number group : ℕ) → AreRead job records left number group → left ≡ [] → (lines : List Line) × AreInShape job records lines
all_read job records left number group read none = (
  read.above,
  record {
    fields = read.fields ∙ ap (λ (rest : List (List (List ℕ))). audit_header ∷ rest)
        (ap (λ (l : List (List (List ℕ))). fields_of job read.above ++ l) none ∙ append-nil (fields_of job read.above));
    each = read.each;
    ordered = read.ordered;
  },
)
