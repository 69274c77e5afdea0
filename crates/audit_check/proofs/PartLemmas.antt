-- How the lines of one group are read, one after the other, beside those that are wanted.
use Rattle.std.proofs.Common.{◌≡◌, ◌≢◌, ◌∙◌, ◌<◌, ◌≤◌, ◌+◌, ◌++◌, ℕ, zero, suc, List, [], ◌∷◌, inl, inr, refl, sym, ap, ap₂, subst, arith, All, filter_map, length, take, Option, Some, None, slice_get}
use Rattle.std.proofs.lemmas.List.{append-nil, append_assoc, length-take}
use Rattle.std.proofs.lemmas.List.Elements.{filter_map-append}
use Rattle.jobs.specs.JobView.{JobView}
use Rattle.flow_model.proofs.ElementLemmas.{Before, IsIn, at_of_all, before_right, in_right, pair_of_all}
use Rattle.audit_laws.specs.declared.audit.Line.{Line}
use Rattle.audit_laws.specs.Lines.{IsLawfulLine, StandInOrder, group_of, line_fields}
use Rattle.audit_laws.specs.Names.{named_workers}
use Rattle.audit_laws.specs.Verdict.{DifferFirst, fields_of}
use Rattle.audit_laws.proofs.LineLemmas.{AreTold, same_line}
use Rattle.flow_model.proofs.TopologyLemmas.{take-next}
use Rattle.flow_model.proofs.DueLemmas.{take_end}

-- Some lines were read, and these records are left. Of the group, the lines that were read tell the
-- first of what is wanted.
pub record IsAt (job : JobView) {A : Type 0} (pick : Line → Option A) (g : ℕ) (lines : List Line) (left : List (List (List ℕ))) (wanted : List A) (k : ℕ) : Type 0 where
  pub above : List Line
  pub rest : List Line
  pub split : lines ≡ above ++ rest
  pub fields : left ≡ fields_of job rest
  pub told : filter_map pick above ≡ take k wanted
  pub within : k ≤ length wanted
  pub reached : (l : Line) → IsIn l rest → g ≤ group_of l

-- ---- lists

pub get_after : {A : Type 0} (xs : List A) (x : A) (ys : List A) (k : ℕ) → length xs ≡ k → slice_get (xs ++ x ∷ ys) k ≡ Some x
get_after [] x ys zero e = refl
get_after [] x ys (suc k) e = absurd (omega (arith, e))
get_after (z ∷ xs) x ys zero e = absurd (omega (arith, e))
get_after (z ∷ xs) x ys (suc k) e = get_after xs x ys k (omega (arith, e))

take_front : {A : Type 0} (xs ys : List A) (k : ℕ) → length xs ≡ k → take k (xs ++ ys) ≡ xs
take_front [] ys zero e = refl
take_front [] ys (suc k) e = absurd (omega (arith, e))
take_front (x ∷ xs) ys zero e = absurd (omega (arith, e))
take_front {A} (x ∷ xs) ys (suc k) e = ap (λ (l : List A). x ∷ l) (take_front xs ys k (omega (arith, e)))

front_length : {A : Type 0} (xs : List A) (k : ℕ) → k ≤ length xs → length (take k xs) ≡ k
front_length xs k le = length-take k xs ∙ omega (arith, le)

take_twice : {A : Type 0} (xs : List A) (k : ℕ) → take k (take k xs) ≡ take k xs
take_twice [] zero = refl
take_twice [] (suc k) = refl
take_twice (x ∷ xs) zero = refl
take_twice {A} (x ∷ xs) (suc k) = ap (λ (l : List A). x ∷ l) (take_twice xs k)

-- fewer than are wanted differ from them at the next place
pub fewer : {A : Type 0} (xs wanted : List A) (k : ℕ) (w : A) → xs ≡ take k wanted → slice_get wanted k ≡ Some w → DifferFirst xs wanted k
fewer {A} xs wanted k w e g = (
  ap (take k) e ∙ take_twice wanted k,
  λ h. let none = sym (ap (λ (l : List A). slice_get l k) e ∙ take_end wanted k) ∙ (h ∙ g) in absurd (cc),
)

none_past : {A : Type 0} (xs : List A) → slice_get xs (length xs) ≡ None
none_past [] = refl
none_past (x ∷ xs) = none_past xs

-- ---- one line after the other

module _ (job : JobView) (told : AreTold job) {A : Type 0} (pick : Line → Option A) (make : A → Line) (IsGood : A → Type 0) (fields : A → List (List ℕ)) (g : ℕ)
    (picked : (a : A) → pick (make a) ≡ Some a) (others : (l : Line) → (group_of l ≡ g → ⊥) → pick l ≡ None) (made : (l : Line) → group_of l ≡ g → (a : A) × (l ≡ make a))
    (good : (a : A) → IsGood a → IsLawfulLine job (make a)) (is_good : (a : A) → IsLawfulLine job (make a) → IsGood a) (spelled : (a : A) → line_fields (named_workers job.nodes) (make a) ≡ fields a)
    (lines : List Line) (each : All (IsLawfulLine job) lines) (ordered : StandInOrder lines) (wanted : List A)
  where
    -- the next line, if the next record has these fields
    pub record IsNext (k : ℕ) (left new : List (List (List ℕ))) (at : IsAt job pick g lines left wanted k) (a : A) : Type 0 where
      pub later : List Line
      pub rest_is : at.rest ≡ make a ∷ later
      pub new_is : new ≡ fields_of job later

    is_next : (k : ℕ) (left new : List (List (List ℕ))) (at : IsAt job pick g lines left wanted k) (a : A) → IsGood a → left ≡ fields a ∷ new → IsNext k left new at a
    is_next k left new at a ok e = go at.rest refl
      where
        go : (rest : List Line) → at.rest ≡ rest → IsNext k left new at a
        go [] none = let both : [] ≡ fields a ∷ new = sym (at.fields ∙ ap (fields_of job) none) ∙ e in absurd (cc)
        go (x ∷ later) is =
            let both : fields_of job (x ∷ later) ≡ fields a ∷ new = sym (at.fields ∙ ap (fields_of job) is) ∙ e in
            let first : line_fields (named_workers job.nodes) x ≡ fields a = cc in
            let last : fields_of job later ≡ new = cc in
            let in_lines : IsIn x lines =
            subst (λ (l : List Line). IsIn x l) (sym at.split) (in_right x at.above at.rest (subst (λ (l : List Line). IsIn x l) (sym is) (inl refl))) in
            let same : x ≡ make a = same_line job told x (make a) (at_of_all (IsLawfulLine job) x lines each in_lines) (good a ok) (first ∙ sym (spelled a)) in
            record { later = later; rest_is = is ∙ ap (λ (z : Line). z ∷ later) same; new_is = sym last }

    -- what the lines tell, if this is the next
    all_told : (k : ℕ) (left new : List (List (List ℕ))) (at : IsAt job pick g lines left wanted k) (a : A) (n : IsNext k left new at a)
        → filter_map pick lines ≡ take k wanted ++ a ∷ filter_map pick n.later
    all_told k left new at a n =
        ap (filter_map pick) (at.split ∙ ap (λ (l : List Line). at.above ++ l) n.rest_is)
        ∙ (filter_map-append pick at.above (make a ∷ n.later)
        ∙ ap₂ (λ (x y : List A). x ++ y) at.told (rw (picked a) refl))

    -- the next record tells what is wanted
    pub as_wanted : (k : ℕ) (left new : List (List (List ℕ))) → IsAt job pick g lines left wanted k → (a : A) → IsGood a → left ≡ fields a ∷ new → slice_get wanted k ≡ Some a → k < length wanted
        → IsAt job pick g lines new wanted (k + 1)
    as_wanted k left new at a ok e w lt =
        let n : IsNext k left new at a = is_next k left new at a ok e in
        record {
          above = at.above ++ make a ∷ [];
          rest = n.later;
          split = at.split ∙ (ap (λ (l : List Line). at.above ++ l) n.rest_is ∙ sym (append_assoc at.above (make a ∷ []) n.later));
          fields = n.new_is;
          told =
              filter_map-append pick at.above (make a ∷ [])
              ∙ (ap₂ (λ (x y : List A). x ++ y) at.told (rw (picked a) refl) ∙ sym (take-next wanted k a w));
          within = omega (arith, lt);
          reached = λ l i. at.reached l (subst (λ (r : List Line). IsIn l r) (sym n.rest_is) (inr i));
        }

    -- it tells something else
    pub something_else : (k : ℕ) (left new : List (List (List ℕ))) → IsAt job pick g lines left wanted k → (a : A) → IsGood a → left ≡ fields a ∷ new → slice_get wanted k ≢ Some a
        → DifferFirst (filter_map pick lines) wanted k
    something_else k left new at a ok e ne =
        let n : IsNext k left new at a = is_next k left new at a ok e in
        let t = all_told k left new at a n in
        let long = front_length wanted k at.within in (
          ap (take k) t ∙ take_front (take k wanted) (a ∷ filter_map pick n.later) k long,
          λ h. ne (sym h ∙ (ap (λ (l : List A). slice_get l k) t ∙ get_after (take k wanted) a (filter_map pick n.later) k long)),
        )

    none_later : (xs : List Line) → ((l : Line) → IsIn l xs → group_of l ≡ g → ⊥) → filter_map pick xs ≡ []
    none_later [] h = refl
    none_later (x ∷ xs) h = rw (others x (h x (inl refl))) (none_later xs (λ l i. h l (inr i)))

    -- it is of another group, or there is none
    pub nothing_more : (k : ℕ) (left : List (List (List ℕ))) → IsAt job pick g lines left wanted k → ((a : A) (new : List (List (List ℕ))) → IsGood a → left ≢ fields a ∷ new)
        → filter_map pick lines ≡ take k wanted
    nothing_more k left at none =
        ap (filter_map pick) at.split ∙ (filter_map-append pick at.above at.rest ∙ (ap₂ (λ (x y : List A). x ++ y) at.told (go at.rest refl) ∙ append-nil (take k wanted)))
      where
        go : (rest : List Line) → at.rest ≡ rest → filter_map pick rest ≡ []
        go [] is = refl
        go (x ∷ later) is =
            let split : lines ≡ at.above ++ x ∷ later = at.split ∙ ap (λ (l : List Line). at.above ++ l) is in
            let here : IsIn x at.rest = subst (λ (l : List Line). IsIn x l) (sym is) (inl refl) in
            let apart : group_of x ≡ g → ⊥ = λ same.
            let m = made x same in
            let line : IsLawfulLine job x = at_of_all (IsLawfulLine job) x lines each (subst (λ (l : List Line). IsIn x l) (sym at.split) (in_right x at.above at.rest here)) in
            none m.0 (fields_of job later) (is_good m.0 (subst (IsLawfulLine job) m.1 line))
            (at.fields ∙ (ap (fields_of job) is ∙ ap (λ (f : List (List ℕ)). f ∷ fields_of job later) (ap (line_fields (named_workers job.nodes)) m.1 ∙ spelled m.0))) in
            let low = at.reached x here in
            let up : (l : Line) → IsIn l (x ∷ later) → group_of x ≤ group_of l = λ l i. after x later split l i in
            none_later (x ∷ later) (λ l i same. let le = up l i in apart (omega arith))
          where
            later_both : (x l : Line) (above later : List Line) → IsIn l later → Before x l (above ++ x ∷ later)
            later_both x l above later i = before_right x l above (x ∷ later) (inl (refl, i))

            after : (x : Line) (later : List Line) → lines ≡ at.above ++ x ∷ later → (l : Line) → IsIn l (x ∷ later) → group_of x ≤ group_of l
            after x later split l (inl e) = subst (λ (z : Line). group_of x ≤ group_of z) (sym e) (omega arith)
            after x later split l (inr i) =
                pair_of_all (λ a b. group_of a ≤ group_of b) x l (at.above ++ x ∷ later) (subst StandInOrder split ordered) (later_both x l at.above later i)
