-- No text has two faults.
use Rattle.std.proofs.Common.{◌≡◌, ◌∙◌, ◌<◌, ◌≤◌, ◌+◌, ◌++◌, ℕ, zero, suc, List, [], ◌∷◌, ◌⊎◌, inl, inr, refl, sym, ap, ap₂, subst, arith, All, length, map, take, slice_get}
use Rattle.std.proofs.lemmas.Bool.{cases_lt}
use Rattle.flow_dag.specs.Dag.{DagView}
use Rattle.jobs.specs.Law.{IsLawful}
use Rattle.jobs.specs.JobView.{JobView}
use Rattle.sink_journal.specs.Audit.{audit_header}
use Rattle.sink_journal.specs.declared.audit.Noted.{Noted}
use Rattle.sink_journal.specs.declared.journal.Feed.{Feed}
use Rattle.tuple_trace.specs.declared.row.Row.{Row}
use Rattle.flow_model.specs.Begin.{Begin}
use Rattle.flow_model.specs.SetupView.{SetupView}
use Rattle.flow_model.proofs.ElementLemmas.{all_of_at, at_of_all, before_both, in_left, in_right, pair_of_all}
use Rattle.flow_model.proofs.JobLemmas.{IsConnected}
use Rattle.audit_laws.specs.declared.audit.Line.{Line}
use Rattle.audit_fault.specs.declared.fault.AuditFault.{AuditFault}
use Rattle.audit_fault.specs.declared.fault.AuditFault.TheVariants as fault
use Rattle.audit_laws.specs.Delivered.{feed_of}
use Rattle.audit_laws.specs.Faults.{IsFaultOfWorkers}
use Rattle.audit_laws.specs.Lines.{IsLawfulLine, StandInOrder, counts_in, feeds_in, group_of, journal_in, line_fields, refusals_in}
use Rattle.audit_laws.specs.Names.{named_workers}
use Rattle.audit_laws.specs.Verdict.{AreInShape, DifferFirst, HasBadShape, HasNoHeader, IsFirstFault, by_worker}
use Rattle.audit_laws.proofs.LineLemmas.{AreTold}
use Rattle.audit_laws.proofs.NamedLemmas.{are_told}
use Rattle.audit_laws.proofs.OneFaultLemmas.{one_fault}
use Rattle.audit_laws.proofs.ShapeLemmas.{behind, no_bad_shape, no_difference, no_missing_header, one_reading, same_lines}

-- ---- where two lists differ first

taken_at : {A : Type 0} (xs : List A) (k l : ℕ) → k < l → slice_get (take l xs) k ≡ slice_get xs k
taken_at xs k zero lt = absurd (omega arith)
taken_at [] k (suc l) lt = refl
taken_at (x ∷ xs) zero (suc l) lt = refl
taken_at (x ∷ xs) (suc k) (suc l) lt = taken_at xs k l (omega arith)

not_before : {A : Type 0} (xs ys : List A) (k l : ℕ) → DifferFirst xs ys k → DifferFirst xs ys l → k < l → ⊥
not_before {A} xs ys k l a b lt = a.1 (sym (taken_at xs k l lt) ∙ (ap (λ (zs : List A). slice_get zs k) b.0 ∙ taken_at ys k l lt))

one_place : {A : Type 0} (xs ys : List A) (k l : ℕ) → DifferFirst xs ys k → DifferFirst xs ys l → k ≡ l
one_place xs ys k l a b =
    elim (cases_lt k l) [
      | inl lt ↦ absurd (not_before xs ys k l a b lt)
      | inr ge ↦ elim (cases_lt l k) [ inl lt ↦ absurd (not_before xs ys l k b a lt) | inr le ↦ omega arith ]
    ]

-- ---- one bad shape

-- the item after the shorter front is an image in the longer one
past_front : {A B : Type 0} (f : A → B) (fs bs : List A) (x y : B) (xs ys : List B) → map f fs ++ x ∷ xs ≡ map f bs ++ y ∷ ys → length fs < length bs
    → (c : List A) × (l : A) × (d : List A) × (bs ≡ c ++ l ∷ d) × (map f c ≡ map f fs) × (f l ≡ x)
past_front f [] [] x y xs ys e lt = absurd (omega arith)
past_front f [] (b ∷ bs) x y xs ys e lt = ([], b, bs, refl, refl, cc)
past_front f (a ∷ fs) [] x y xs ys e lt = absurd (omega arith)
past_front {A} {B} f (a ∷ fs) (b ∷ bs) x y xs ys e lt =
    let first : f b ≡ f a = cc in
    let later : map f fs ++ x ∷ xs ≡ map f bs ++ y ∷ ys = cc in
    let r = past_front f fs bs x y xs ys later (omega arith) in
    (b ∷ r.0, r.1, r.2, ap (λ (t : List A). b ∷ t) {y = r.0 ++ r.1 ∷ r.2} r.3, ap₂ (λ (u : B) (us : List B). u ∷ us) first r.4, r.5)

shape_before : (job : JobView) → AreTold job → (records : List (List (List ℕ))) (i j : ℕ) (a : HasBadShape job records i) (b : HasBadShape job records j) → length a.above < length b.above → ⊥
shape_before job told records i j a b lt =
    let e : map (line_fields (named_workers job.nodes)) a.above ++ a.here ∷ a.later ≡ map (line_fields (named_workers job.nodes)) b.above ++ b.here ∷ b.later =
    behind audit_header audit_header _ _ (sym a.fields ∙ b.fields) in
    let r = past_front (line_fields (named_workers job.nodes)) a.above b.above a.here b.here a.later b.later e lt in
    let each : All (IsLawfulLine job) (r.0 ++ r.1 ∷ r.2) = subst (All (IsLawfulLine job)) r.3 b.each in
    let ordered : StandInOrder (r.0 ++ r.1 ∷ r.2) = subst StandInOrder r.3 b.ordered in
    let is : IsLawfulLine job r.1 = at_of_all (IsLawfulLine job) r.1 (r.0 ++ r.1 ∷ r.2) each (in_right r.1 r.0 (r.1 ∷ r.2) (inl refl)) in
    let front : All (IsLawfulLine job) r.0 = all_of_at (IsLawfulLine job) r.0 (λ x j. at_of_all (IsLawfulLine job) x (r.0 ++ r.1 ∷ r.2) each (in_left x r.0 (r.1 ∷ r.2) j)) in
    let above : r.0 ≡ a.above = same_lines job told r.0 a.above front a.each r.4 in
    a.misshapen r.1 is (sym r.5) (
    subst (λ (ls : List Line). All (λ earlier. group_of earlier ≤ group_of r.1) ls) above (
    all_of_at (λ earlier. group_of earlier ≤ group_of r.1) r.0 (λ x j.
    pair_of_all (λ a b. group_of a ≤ group_of b) x r.1 (r.0 ++ r.1 ∷ r.2) ordered (before_both x r.1 r.0 (r.1 ∷ r.2) j (inl refl)))))

one_shape : (job : JobView) → AreTold job → (records : List (List (List ℕ))) (i j : ℕ) → HasBadShape job records i → HasBadShape job records j → i ≡ j
one_shape job told records i j a b =
    let p = a.place in
    let q = b.place in
    elim (cases_lt (length a.above) (length b.above)) [
      | inl lt ↦ absurd (shape_before job told records i j a b lt)
      | inr ge ↦ elim (cases_lt (length b.above) (length a.above)) [ inl lt ↦ absurd (shape_before job told records j i b a lt) | inr le ↦ omega arith ]
    ]

-- ---- the six codes

module _ (begin : Begin) (setup : SetupView) (dag : DagView) (connected : IsConnected setup.job) (lawful : IsLawful setup.job) (edges : dag.edges ≡ setup.job.edges) (nodes : dag.nodes ≡ length setup.job.nodes)
    (rows : List Row) (refused : List Noted) (records : List (List (List ℕ)))
  where
    -- the fault is one of the shape, of the refused requests, of the feed, or of the workers
    abbrev OfShape : AuditFault → Type 0
    OfShape f = (i : ℕ) × (f ≡ fault.Shape i) × (((i ≡ 0) × HasNoHeader records) ⊎ HasBadShape setup.job records i)

    abbrev OfRefused : AuditFault → Type 0
    OfRefused f = (i : ℕ) × (f ≡ fault.Refused i) × IsFirstFault begin setup dag.order refused rows records (fault.Refused i)

    abbrev OfFeed : AuditFault → Type 0
    OfFeed f = (i : ℕ) × (f ≡ fault.Feed i) × IsFirstFault begin setup dag.order refused rows records (fault.Feed i)

    abbrev OfWorkers : AuditFault → Type 0
    OfWorkers f =
        (lines : List Line) × AreInShape setup.job records lines × (refusals_in lines ≡ refused) × (feeds_in lines ≡ feed_of begin setup rows)
        × IsFaultOfWorkers begin setup dag.order rows (by_worker setup (journal_in lines)) (by_worker setup (counts_in lines)) f

    abbrev Sorted : AuditFault → Type 0
    Sorted f = OfShape f ⊎ (OfRefused f ⊎ (OfFeed f ⊎ OfWorkers f))

    sort : (f : AuditFault) → (f ≡ fault.NoMemory → ⊥) → IsFirstFault begin setup dag.order refused rows records f → Sorted f
    sort (fault.Shape i) some h = inl (i, refl, h)
    sort (fault.Refused i) some h = inr (inl (i, refl, h))
    sort (fault.Feed i) some h = inr (inr (inl (i, refl, h)))
    sort (fault.Law w) some h = inr (inr (inr h))
    sort (fault.Lane n) some h = inr (inr (inr h))
    sort (fault.State w) some h = inr (inr (inr h))
    sort fault.NoMemory some h = absurd (some refl)

    told : AreTold setup.job
    told = are_told setup.job lawful

    pub in_shape : (i : ℕ) (lines : List Line) → ((i ≡ 0) × HasNoHeader records) ⊎ HasBadShape setup.job records i → AreInShape setup.job records lines → ⊥
    in_shape i lines (inl h) s = no_missing_header setup.job records lines s h.1
    in_shape i lines (inr h) s = no_bad_shape setup.job told records lines i s h

    shapes : (i j : ℕ) → ((i ≡ 0) × HasNoHeader records) ⊎ HasBadShape setup.job records i → ((j ≡ 0) × HasNoHeader records) ⊎ HasBadShape setup.job records j → i ≡ j
    shapes i j (inl h) (inl k) = h.0 ∙ sym k.0
    shapes i j (inl h) (inr k) = absurd (h.1 (map (line_fields (named_workers setup.job.nodes)) k.above ++ k.here ∷ k.later) k.fields)
    shapes i j (inr h) (inl k) = absurd (k.1 (map (line_fields (named_workers setup.job.nodes)) h.above ++ h.here ∷ h.later) h.fields)
    shapes i j (inr h) (inr k) = one_shape setup.job told records i j h k

    -- the refused requests differ, where a later code needs them equal
    pub refused_first : (i : ℕ) (lines : List Line) → IsFirstFault begin setup dag.order refused rows records (fault.Refused i) → AreInShape setup.job records lines → refusals_in lines ≡ refused → ⊥
    refused_first i lines h s e =
        no_difference (refusals_in h.0) refused h.1 (ap refusals_in (one_reading setup.job told records h.0 lines h.2 s) ∙ e) h.4

    pub feed_first : (i : ℕ) (lines : List Line) → IsFirstFault begin setup dag.order refused rows records (fault.Feed i) → AreInShape setup.job records lines → feeds_in lines ≡ feed_of begin setup rows → ⊥
    feed_first i lines h s e =
        no_difference (feeds_in h.0) (feed_of begin setup rows) h.1 (ap feeds_in (one_reading setup.job told records h.0 lines h.2 s) ∙ e) h.5

    refusals : (i j : ℕ) → IsFirstFault begin setup dag.order refused rows records (fault.Refused i) → IsFirstFault begin setup dag.order refused rows records (fault.Refused j) → i ≡ j
    refusals i j h k =
        let e : refusals_in h.0 ≡ refusals_in k.0 = ap refusals_in (one_reading setup.job told records h.0 k.0 h.2 k.2) in
        let at : h.1 ≡ k.1 = one_place (refusals_in k.0) refused h.1 k.1 (subst (λ (l : List Noted). DifferFirst l refused h.1) e h.4) k.4 in
        h.3 ∙ (ap (λ n. 1 + n) at ∙ sym k.3)

    steps : (i j : ℕ) → IsFirstFault begin setup dag.order refused rows records (fault.Feed i) → IsFirstFault begin setup dag.order refused rows records (fault.Feed j) → i ≡ j
    steps i j h k =
        let e : feeds_in h.0 ≡ feeds_in k.0 = ap feeds_in (one_reading setup.job told records h.0 k.0 h.2 k.2) in
        let at : h.1 ≡ k.1 = one_place (feeds_in k.0) (feed_of begin setup rows) h.1 k.1 (subst (λ (l : List Feed). DifferFirst l (feed_of begin setup rows) h.1) e h.5) k.5 in
        h.4 ∙ (ap (λ n. 1 + length refused + n) at ∙ sym k.4)

    workers : (f g : AuditFault) → (f ≡ fault.NoMemory → ⊥) → (g ≡ fault.NoMemory → ⊥) → OfWorkers f → OfWorkers g → f ≡ g
    workers f g a b h k =
        let e : h.0 ≡ k.0 = one_reading setup.job told records h.0 k.0 h.1 k.1 in
        one_fault begin setup dag connected edges nodes rows (by_worker setup (journal_in k.0)) (by_worker setup (counts_in k.0)) f g a b
        (subst (λ (ls : List Line). IsFaultOfWorkers begin setup dag.order rows (by_worker setup (journal_in ls)) (by_worker setup (counts_in ls)) f) e h.4) k.4

    both : (f g : AuditFault) → (f ≡ fault.NoMemory → ⊥) → (g ≡ fault.NoMemory → ⊥) → Sorted f → Sorted g → f ≡ g
    both f g a b (inl h) (inl k) = h.1 ∙ (ap fault.Shape (shapes h.0 k.0 h.2 k.2) ∙ sym k.1)
    both f g a b (inl h) (inr (inl k)) = absurd (in_shape h.0 k.2.0 h.2 k.2.2)
    both f g a b (inl h) (inr (inr (inl k))) = absurd (in_shape h.0 k.2.0 h.2 k.2.2)
    both f g a b (inl h) (inr (inr (inr k))) = absurd (in_shape h.0 k.0 h.2 k.1)
    both f g a b (inr (inl h)) (inl k) = absurd (in_shape k.0 h.2.0 k.2 h.2.2)
    both f g a b (inr (inl h)) (inr (inl k)) = h.1 ∙ (ap fault.Refused (refusals h.0 k.0 h.2 k.2) ∙ sym k.1)
    both f g a b (inr (inl h)) (inr (inr (inl k))) = absurd (refused_first h.0 k.2.0 h.2 k.2.2 k.2.3)
    both f g a b (inr (inl h)) (inr (inr (inr k))) = absurd (refused_first h.0 k.0 h.2 k.1 k.2)
    both f g a b (inr (inr (inl h))) (inl k) = absurd (in_shape k.0 h.2.0 k.2 h.2.2)
    both f g a b (inr (inr (inl h))) (inr (inl k)) = absurd (refused_first k.0 h.2.0 k.2 h.2.2 h.2.3)
    both f g a b (inr (inr (inl h))) (inr (inr (inl k))) = h.1 ∙ (ap fault.Feed (steps h.0 k.0 h.2 k.2) ∙ sym k.1)
    both f g a b (inr (inr (inl h))) (inr (inr (inr k))) = absurd (feed_first h.0 k.0 h.2 k.1 k.3)
    both f g a b (inr (inr (inr h))) (inl k) = absurd (in_shape k.0 h.0 k.2 h.1)
    both f g a b (inr (inr (inr h))) (inr (inl k)) = absurd (refused_first k.0 h.0 k.2 h.1 h.2)
    both f g a b (inr (inr (inr h))) (inr (inr (inl k))) = absurd (feed_first k.0 h.0 k.2 h.1 h.3)
    both f g a b (inr (inr (inr h))) (inr (inr (inr k))) = workers f g a b h k

    pub one_verdict : (f g : AuditFault) → (f ≡ fault.NoMemory → ⊥) → (g ≡ fault.NoMemory → ⊥)
        → IsFirstFault begin setup dag.order refused rows records f → IsFirstFault begin setup dag.order refused rows records g → f ≡ g
    one_verdict f g a b h k = both f g a b (sort f a h) (sort g b k)
