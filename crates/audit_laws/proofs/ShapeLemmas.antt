-- A text has one reading as lines, and the lines of a run tell what was kept of it.
use Rattle.std.proofs.Common.{◌≡◌, ◌∙◌, ◌<◌, ◌≤◌, ◌+◌, ◌++◌, ℕ, ℤ, zero, suc, List, [], ◌∷◌, inl, refl, sym, ap, ap₂, subst, arith, All, length, map, filter_map, Some, None, Option, slice_get}
use Rattle.std.specs.List.{AllByRecursion}
use Rattle.std.proofs.lemmas.Bool.{eq-eqb, ne_eqb}
use Rattle.std.proofs.lemmas.List.{append-nil}
use Rattle.std.proofs.lemmas.List.Elements.{filter_map-append, recursion_from_All}
use Rattle.std.proofs.lemmas.Option.{same_Some}
use Rattle.jobs.specs.JobView.{JobView}
use Rattle.sink_journal.specs.Audit.{audit_header}
use Rattle.sink_journal.specs.declared.audit.Noted.{Noted}
use Rattle.sink_journal.specs.declared.journal.Feed.{Feed}
use Rattle.flow_model.specs.Duties.{numbers_from}
use Rattle.flow_model.proofs.ElementLemmas.{all_of_at, at_of_all, before_both, in_left, in_right, pair_of_all}
use Rattle.audit_laws.specs.declared.audit.AuditEntry.{AuditEntry}
use Rattle.audit_laws.specs.declared.audit.Line.{Line}
use Rattle.audit_laws.specs.declared.audit.Line.TheVariants as line
use Rattle.audit_laws.specs.Faults.{Listed}
use Rattle.audit_laws.specs.Lines.{IsLawfulLine, StandInOrder, worker_count_in, counts_in, entry_in, feeds_in, group_of, journal_in, line_fields, lines_from, lines_of, refusal_in, refusals_in, feed_step_in, worker_lines}
use Rattle.audit_laws.specs.Names.{named_workers}
use Rattle.audit_laws.specs.Verdict.{AreInShape, DifferFirst, HasBadShape, HasNoHeader}
use Rattle.audit_laws.proofs.LineLemmas.{AreTold, same_line}

-- ---- one reading

same_lines_of : (job : JobView) → AreTold job → (a b : List Line) → AllByRecursion (IsLawfulLine job) a → AllByRecursion (IsLawfulLine job) b
    → map (line_fields (named_workers job.nodes)) a ≡ map (line_fields (named_workers job.nodes)) b → a ≡ b
same_lines_of job told [] [] p q e = refl
same_lines_of job told [] (y ∷ b) p q e = absurd (cc)
same_lines_of job told (x ∷ a) [] p q e = absurd (cc)
same_lines_of job told (x ∷ a) (y ∷ b) p q e =
    let first : line_fields (named_workers job.nodes) x ≡ line_fields (named_workers job.nodes) y = cc in
    let later : map (line_fields (named_workers job.nodes)) a ≡ map (line_fields (named_workers job.nodes)) b = cc in
    ap₂ (λ (z : Line) (zs : List Line). z ∷ zs) (same_line job told x y p.0 q.0 first) (same_lines_of job told a b p.1 q.1 later)

pub same_lines : (job : JobView) → AreTold job → (a b : List Line) → All (IsLawfulLine job) a → All (IsLawfulLine job) b
    → map (line_fields (named_workers job.nodes)) a ≡ map (line_fields (named_workers job.nodes)) b → a ≡ b
same_lines job told a b p q e = same_lines_of job told a b (recursion_from_All (IsLawfulLine job) a p) (recursion_from_All (IsLawfulLine job) b q) e

pub behind : (x y : List (List ℕ)) (a b : List (List (List ℕ))) → x ∷ a ≡ y ∷ b → a ≡ b
behind x y a b e = cc

pub one_reading : (job : JobView) → AreTold job → (records : List (List (List ℕ))) (a b : List Line) → AreInShape job records a → AreInShape job records b → a ≡ b
one_reading job told records a b p q = same_lines job told a b p.each q.each (behind audit_header audit_header _ _ (sym p.fields ∙ q.fields))

-- a list whose image is in two parts is in two parts
split_map : {A B : Type 0} (f : A → B) (ls : List A) (xs : List B) (y : B) (zs : List B) → map f ls ≡ xs ++ y ∷ zs
    → (a : List A) × (l : A) × (b : List A) × (ls ≡ a ++ l ∷ b) × (map f a ≡ xs) × (f l ≡ y)
split_map f [] [] y zs e = absurd (cc)
split_map f [] (x ∷ xs) y zs e = absurd (cc)
split_map f (l ∷ ls) [] y zs e = ([], l, ls, refl, refl, cc)
split_map {A} {B} f (l ∷ ls) (x ∷ xs) y zs e =
    let later : map f ls ≡ xs ++ y ∷ zs = cc in
    let first : f l ≡ x = cc in
    let r = split_map f ls xs y zs later in
    (l ∷ r.0, r.1, r.2, ap (λ (t : List A). l ∷ t) {y = r.0 ++ r.1 ∷ r.2} r.3, ap₂ (λ (u : B) (us : List B). u ∷ us) first r.4, r.5)

-- records in shape have no bad shape
pub no_bad_shape : (job : JobView) → AreTold job → (records : List (List (List ℕ))) (lines : List Line) (i : ℕ) → AreInShape job records lines → HasBadShape job records i → ⊥
no_bad_shape job told records lines i s h =
    let e : map (line_fields (named_workers job.nodes)) lines ≡ map (line_fields (named_workers job.nodes)) h.above ++ h.here ∷ h.later =
    behind audit_header audit_header _ _ (sym s.fields ∙ h.fields) in
    let r = split_map (line_fields (named_workers job.nodes)) lines (map (line_fields (named_workers job.nodes)) h.above) h.here h.later e in
    let each : All (IsLawfulLine job) (r.0 ++ r.1 ∷ r.2) = subst (All (IsLawfulLine job)) r.3 s.each in
    let ordered : StandInOrder (r.0 ++ r.1 ∷ r.2) = subst StandInOrder r.3 s.ordered in
    let is : IsLawfulLine job r.1 = at_of_all (IsLawfulLine job) r.1 (r.0 ++ r.1 ∷ r.2) each (in_right r.1 r.0 (r.1 ∷ r.2) (inl refl)) in
    let front : All (IsLawfulLine job) r.0 = all_of_at (IsLawfulLine job) r.0 (λ x j. at_of_all (IsLawfulLine job) x (r.0 ++ r.1 ∷ r.2) each (in_left x r.0 (r.1 ∷ r.2) j)) in
    let above : r.0 ≡ h.above = same_lines job told r.0 h.above front h.each r.4 in
    h.misshapen r.1 is (sym r.5) (
    subst (λ (ls : List Line). All (λ earlier. group_of earlier ≤ group_of r.1) ls) above (
    all_of_at (λ earlier. group_of earlier ≤ group_of r.1) r.0 (λ x j.
    pair_of_all (λ a b. group_of a ≤ group_of b) x r.1 (r.0 ++ r.1 ∷ r.2) ordered (before_both x r.1 r.0 (r.1 ∷ r.2) j (inl refl)))))

pub no_missing_header : (job : JobView) (records : List (List (List ℕ))) (lines : List Line) → AreInShape job records lines → HasNoHeader records → ⊥
no_missing_header job records lines s h = h (map (line_fields (named_workers job.nodes)) lines) s.fields

pub no_difference : {A : Type 0} (xs ys : List A) (k : ℕ) → xs ≡ ys → DifferFirst xs ys k → ⊥
no_difference {A} xs ys k e d = d.1 (ap (λ (l : List A). slice_get l k) e)

-- ---- what lines tell

-- a test that keeps none of a list's image, and one that undoes it
pub keeps_none : {A B C : Type 0} (h : B → Option C) (f : A → B) (xs : List A) → ((x : A) → h (f x) ≡ None) → filter_map h (map f xs) ≡ []
keeps_none h f [] n = refl
keeps_none h f (x ∷ xs) n = rw (n x) (keeps_none h f xs n)

keeps_all : {A B : Type 0} (h : B → Option A) (f : A → B) (xs : List A) → ((x : A) → h (f x) ≡ Some x) → filter_map h (map f xs) ≡ xs
keeps_all h f [] s = refl
keeps_all {A} h f (x ∷ xs) s = rw (s x) (ap (λ (l : List A). x ∷ l) (keeps_all h f xs s))

-- the lines of workers from a number on, of which a test keeps nothing
pick_past : {C : Type 0} (h : Line → Option C) (k : ℕ) (js : List (List AuditEntry)) (ss : List Listed)
    → ((w : ℕ) → k ≤ w → (e : AuditEntry) → h (line.Step w e) ≡ None) → ((w : ℕ) → k ≤ w → (c : List ℕ × ℤ) → h (line.State w c.0 c.1) ≡ None) → filter_map h (lines_from k js ss) ≡ []
pick_past h k [] ss a b = refl
pick_past h k (j ∷ js) [] a b = refl
pick_past {C} h k (j ∷ js) (s ∷ ss) a b =
    filter_map-append h (worker_lines k j s) (lines_from (k + 1) js ss)
    ∙ ap₂ (λ (x y : List C). x ++ y)
    (filter_map-append h (map (line.Step k) j) (map (λ counted. line.State k counted.0 counted.1) s)
    ∙ ap₂ (λ (x y : List C). x ++ y) (keeps_none h (line.Step k) j (a k (omega arith))) (keeps_none h (λ counted. line.State k counted.0 counted.1) s (b k (omega arith))))
    (pick_past h (k + 1) js ss (λ w le. a w (omega arith)) (λ w le. b w (omega arith)))

-- the lines of the one worker of which a test keeps anything
pick_at : {C : Type 0} (h : Line → Option C) (k i : ℕ) (js : List (List AuditEntry)) (ss : List Listed) (j : List AuditEntry) (s : Listed) → slice_get js i ≡ Some j → slice_get ss i ≡ Some s
    → ((w : ℕ) → (w ≡ k + i → ⊥) → (e : AuditEntry) → h (line.Step w e) ≡ None) → ((w : ℕ) → (w ≡ k + i → ⊥) → (c : List ℕ × ℤ) → h (line.State w c.0 c.1) ≡ None)
    → filter_map h (lines_from k js ss) ≡ filter_map h (worker_lines (k + i) j s)
pick_at h k i [] ss j s p q a b = absurd (cc)
pick_at h k i (x ∷ js) [] j s p q a b = absurd (cc)
pick_at {C} h k zero (x ∷ js) (y ∷ ss) j s p q a b =
    let n : k ≡ k + 0 = omega arith in
    let e : x ≡ j = same_Some x j p in
    let f : y ≡ s = same_Some y s q in
    filter_map-append h (worker_lines k x y) (lines_from (k + 1) js ss)
    ∙ (ap (λ (z : List C). filter_map h (worker_lines k x y) ++ z) (pick_past h (k + 1) js ss (λ w le. a w (λ h. omega arith)) (λ w le. b w (λ h. omega arith)))
    ∙ (append-nil (filter_map h (worker_lines k x y)) ∙ λ i. filter_map h (worker_lines (n i) (e i) (f i))))
pick_at {C} h k (suc i) (x ∷ js) (y ∷ ss) j s p q a b =
    let n : k + 1 + i ≡ k + suc i = omega arith in
    filter_map-append h (worker_lines k x y) (lines_from (k + 1) js ss)
    ∙ (ap₂ (λ (u v : List C). u ++ v)
    (filter_map-append h (map (line.Step k) x) (map (λ counted. line.State k counted.0 counted.1) y)
    ∙ ap₂ (λ (u v : List C). u ++ v) (keeps_none h (line.Step k) x (a k (λ h. omega arith))) (keeps_none h (λ counted. line.State k counted.0 counted.1) y (b k (λ h. omega arith))))
    (pick_at h (k + 1) i js ss j s p q (λ w ne. a w (λ h. ne (omega arith))) (λ w ne. b w (λ h. ne (omega arith))))
    ∙ ap (λ v. filter_map h (worker_lines v j s)) n)

module _ (r : List Noted) (f : List Feed) (js : List (List AuditEntry)) (ss : List Listed) where
  -- a test of all lines, part by part
  pub by_parts : {C : Type 0} (h : Line → Option C)
      → filter_map h (lines_of r f js ss) ≡ filter_map h (map line.Refused r) ++ (filter_map h (map line.Feed f) ++ filter_map h (lines_from 0 js ss))
  by_parts {C} h =
      filter_map-append h (map line.Refused r) (map line.Feed f ++ lines_from 0 js ss)
      ∙ ap (λ (x : List C). filter_map h (map line.Refused r) ++ x) (filter_map-append h (map line.Feed f) (lines_from 0 js ss))

  pub refusals_told : refusals_in (lines_of r f js ss) ≡ r
  refusals_told =
      by_parts refusal_in
      ∙ (ap₂ (λ (x y : List Noted). x ++ y) (keeps_all refusal_in line.Refused r (λ x. refl))
      (ap₂ (λ (x y : List Noted). x ++ y) (keeps_none refusal_in line.Feed f (λ x. refl)) (pick_past refusal_in 0 js ss (λ w le e. refl) (λ w le c. refl)))
      ∙ append-nil r)

  pub feeds_told : feeds_in (lines_of r f js ss) ≡ f
  feeds_told =
      by_parts feed_step_in
      ∙ ap₂ (λ (x y : List Feed). x ++ y) (keeps_none feed_step_in line.Refused r (λ x. refl))
      (ap₂ (λ (x y : List Feed). x ++ y) (keeps_all feed_step_in line.Feed f (λ x. refl)) (pick_past feed_step_in 0 js ss (λ w le e. refl) (λ w le c. refl)) ∙ append-nil f)

  pub journal_told : (w : ℕ) (j : List AuditEntry) (s : Listed) → slice_get js w ≡ Some j → slice_get ss w ≡ Some s → journal_in (lines_of r f js ss) w ≡ j
  journal_told w j s p q =
      by_parts (entry_in w)
      ∙ (ap₂ (λ (x y : List AuditEntry). x ++ y) (keeps_none (entry_in w) line.Refused r (λ x. refl))
      (ap₂ (λ (x y : List AuditEntry). x ++ y) (keeps_none (entry_in w) line.Feed f (λ x. refl))
      (pick_at (entry_in w) 0 w js ss j s p q (λ v ne e. rw (ne_eqb v w (λ same. ne (omega arith))) refl) (λ v ne c. refl)))
      ∙ (ap (λ v. filter_map (entry_in w) (worker_lines v j s)) zero_first
      ∙ (filter_map-append (entry_in w) (map (line.Step w) j) (map (λ counted. line.State w counted.0 counted.1) s)
      ∙ (ap₂ (λ (x y : List AuditEntry). x ++ y) (keeps_all (entry_in w) (line.Step w) j (λ x. rw (eq-eqb w w refl) refl)) (keeps_none (entry_in w) (λ counted. line.State w counted.0 counted.1) s (λ x. refl))
      ∙ append-nil j))))
    where
      zero_first : 0 + w ≡ w
      zero_first = omega arith

  pub counts_told : (w : ℕ) (j : List AuditEntry) (s : Listed) → slice_get js w ≡ Some j → slice_get ss w ≡ Some s → counts_in (lines_of r f js ss) w ≡ s
  counts_told w j s p q =
      by_parts (worker_count_in w)
      ∙ (ap₂ (λ (x y : Listed). x ++ y) (keeps_none (worker_count_in w) line.Refused r (λ x. refl))
      (ap₂ (λ (x y : Listed). x ++ y) (keeps_none (worker_count_in w) line.Feed f (λ x. refl))
      (pick_at (worker_count_in w) 0 w js ss j s p q (λ v ne e. refl) (λ v ne c. rw (ne_eqb v w (λ same. ne (omega arith))) refl)))
      ∙ (ap (λ v. filter_map (worker_count_in w) (worker_lines v j s)) zero_first
      ∙ (filter_map-append (worker_count_in w) (map (line.Step w) j) (map (λ counted. line.State w counted.0 counted.1) s)
      ∙ ap₂ (λ (x y : Listed). x ++ y) (keeps_none (worker_count_in w) (line.Step w) j (λ x. refl)) (keeps_all (worker_count_in w) (λ counted. line.State w counted.0 counted.1) s (λ x. rw (eq-eqb w w refl) refl)))))
    where
      zero_first : 0 + w ≡ w
      zero_first = omega arith

-- a list, number by number
pub mapped_numbers : {A : Type 0} (f : ℕ → A) (a n : ℕ) (xs : List A) → length xs ≡ n → ((i : ℕ) → i < n → slice_get xs i ≡ Some (f (a + i))) → map f (numbers_from a n) ≡ xs
mapped_numbers f a zero [] l h = refl
mapped_numbers f a zero (x ∷ xs) l h = absurd (omega (arith, l))
mapped_numbers f a (suc n) [] l h = absurd (omega (arith, l))
mapped_numbers {A} f a (suc n) (x ∷ xs) l h =
    let z : a + 0 ≡ a = omega arith in
    let first : x ≡ f a = same_Some x (f a) (h 0 (omega arith) ∙ ap (λ v. Some (f v)) z) in
    ap₂ (λ (y : A) (ys : List A). y ∷ ys) (sym first)
    (mapped_numbers f (a + 1) n xs (omega (arith, l)) (λ i lt. let e : a + suc i ≡ a + 1 + i = omega arith in h (suc i) (omega arith) ∙ ap (λ v. Some (f v)) e))
