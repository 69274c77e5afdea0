-- How the feeder's steps of an audit are read.
use Rattle.std.proofs.Common.{◌≡◌, ◌≢◌, ◌∙◌, ◌<◌, ◌≤◌, ◌+◌, ℕ, zero, suc, List, [], ◌∷◌, inl, inr, refl, sym, ap, subst, arith, drop, filter_map, get_or, length, take, Some, None, slice_get}
use Rattle.std.proofs.lemmas.List.{take-append-drop, take_all}
use Rattle.std.proofs.lemmas.Option.{get_or_from_slice_get, slice_get-get_or, slice_get_within}
use Rattle.jobs.specs.Law.{IsLawful}
use Rattle.jobs.specs.JobView.{JobView}
use Rattle.sink_journal.specs.Audit.{audit_header, feed_fields}
use Rattle.sink_journal.specs.declared.audit.Noted.{Noted}
use Rattle.sink_journal.specs.declared.journal.Feed.{Feed}
use Rattle.flow_model.proofs.ElementLemmas.{IsIn, all_of_pairs, pair_of_all}
use Rattle.audit_laws.specs.declared.audit.Line.{Line}
use Rattle.audit_laws.specs.declared.audit.Line.TheVariants as line
use Rattle.audit_laws.specs.Lines.{IsStep, StandInOrder, feeds_in, group_of, refusals_in, feed_step_in}
use Rattle.audit_laws.specs.Verdict.{AreInShape, DifferFirst, fields_of}
use Rattle.audit_laws.proofs.NamedLemmas.{are_told}
use Rattle.audit_laws.proofs.ShapeLemmas.{behind}
use Rattle.audit_check.proofs.PartLemmas.{IsAt, as_wanted, fewer, nothing_more, something_else}

-- ---- past the refused requests

-- so many lines were read
abbrev pub AfterLines : JobView → List Line → List (List (List ℕ)) → ℕ → Type 0
AfterLines job lines left k = left ≡ fields_of job (drop k lines)

pub after_header : (job : JobView) (records : List (List (List ℕ))) (lines : List Line) (cells : List (List ℕ)) (left : List (List (List ℕ)))
    → AreInShape job records lines → records ≡ cells ∷ left → AfterLines job lines left 0
after_header job records lines cells left s e = behind cells audit_header left (fields_of job lines) (sym e ∙ s.fields)

pub one_line_more : (job : JobView) (lines : List Line) (cells : List (List ℕ)) (left new : List (List (List ℕ))) (k : ℕ) → AfterLines job lines left k → left ≡ cells ∷ new → AfterLines job lines new (k + 1)
one_line_more job [] cells left new zero a e = let none = sym a ∙ e in absurd (cc)
one_line_more job [] cells left new (suc k) a e = let none = sym a ∙ e in absurd (cc)
one_line_more job (l ∷ lines) cells left new zero a e = behind cells _ new (fields_of job lines) (sym e ∙ a)
one_line_more job (l ∷ lines) cells left new (suc k) a e =
    let n : suc k + 1 ≡ suc (k + 1) = omega arith in
    one_line_more job lines cells left new k a e ∙ ap (λ m. fields_of job (drop m (l ∷ lines))) (sym n)

later_order : (l : Line) (lines : List Line) → StandInOrder (l ∷ lines) → StandInOrder lines
later_order l lines o = all_of_pairs (λ a b. group_of a ≤ group_of b) lines (λ x y b. pair_of_all (λ a b. group_of a ≤ group_of b) x y (l ∷ lines) o (inr b))

none_refused : (lines : List Line) → ((l : Line) → IsIn l lines → 1 ≤ group_of l) → refusals_in lines ≡ []
none_refused [] h = refl
none_refused (line.Refused noted ∷ lines) h = absurd (let le = h (line.Refused noted) (inl refl) in omega arith)
none_refused (line.Feed step ∷ lines) h = none_refused lines (λ l i. h l (inr i))
none_refused (line.Step w entry ∷ lines) h = none_refused lines (λ l i. h l (inr i))
none_refused (line.State w key count ∷ lines) h = none_refused lines (λ l i. h l (inr i))

-- past the refused requests no line is one, and before them there is no step
abbrev Past : List Line → ℕ → Type 0
Past lines n = (filter_map feed_step_in (take n lines) ≡ []) × ((l : Line) → IsIn l (drop n lines) → 1 ≤ group_of l)

none_before : (x : Line) (lines : List Line) (n : ℕ) → StandInOrder (x ∷ lines) → 1 ≤ group_of x → refusals_in (x ∷ lines) ≡ refusals_in lines → length (refusals_in (x ∷ lines)) ≡ n → Past (x ∷ lines) n
none_before x lines n o le same e =
    let high : (l : Line) → IsIn l (x ∷ lines) → 1 ≤ group_of l = λ l i. up l i in
    let none : refusals_in lines ≡ [] = none_refused lines (λ l i. high l (inr i)) in
    let z : n ≡ 0 = sym e ∙ ap length (same ∙ none) in
    subst (Past (x ∷ lines)) (sym z) (refl, high)
  where
    up : (l : Line) → IsIn l (x ∷ lines) → 1 ≤ group_of l
    up l (inl q) = subst (λ (z : Line). 1 ≤ group_of z) (sym q) le
    up l (inr i) = let far = pair_of_all (λ a b. group_of a ≤ group_of b) x l (x ∷ lines) o (inl (refl, i)) in omega arith

past_refused : (lines : List Line) (n : ℕ) → StandInOrder lines → length (refusals_in lines) ≡ n → Past lines n
past_refused [] zero o e = (refl, λ l i. absurd i)
past_refused [] (suc n) o e = (refl, λ l i. absurd i)
past_refused (line.Refused noted ∷ lines) zero o e = absurd (omega (arith, e))
past_refused (line.Refused noted ∷ lines) (suc n) o e = past_refused lines n (later_order (line.Refused noted) lines o) (omega (arith, e))
past_refused (line.Feed step ∷ lines) n o e = none_before (line.Feed step) lines n o (omega arith) refl e
past_refused (line.Step w entry ∷ lines) n o e = none_before (line.Step w entry) lines n o (omega arith) refl e
past_refused (line.State w key count ∷ lines) n o e = none_before (line.State w key count) lines n o (omega arith) refl e

-- ---- the steps

abbrev pub AfterSteps : JobView → List Line → List (List (List ℕ)) → List Feed → ℕ → Type 0
AfterSteps job lines left wanted k = IsAt job feed_step_in 1 lines left wanted k

pub before_steps : (job : JobView) (records : List (List (List ℕ))) (lines : List Line) (refused : List Noted) (wanted : List Feed) (left : List (List (List ℕ))) (n : ℕ)
    → AreInShape job records lines → refusals_in lines ≡ refused → length refused ≡ n → AfterLines job lines left n → AfterSteps job lines left wanted 0
before_steps job records lines refused wanted left n s same count after =
    let past : Past lines n = past_refused lines n s.ordered (ap length same ∙ count) in
    record {
      above = take n lines;
      rest = drop n lines;
      split = sym (take-append-drop n lines);
      fields = after;
      told = past.0;
      within = omega arith;
      reached = past.1;
    }

others : (l : Line) → (group_of l ≡ 1 → ⊥) → feed_step_in l ≡ None
others (line.Refused noted) h = refl
others (line.Feed step) h = absurd (h refl)
others (line.Step w entry) h = refl
others (line.State w key count) h = refl

made : (l : Line) → group_of l ≡ 1 → (step : Feed) × (l ≡ line.Feed step)
made (line.Refused noted) e = absurd (omega (arith, e))
made (line.Feed step) e = (step, refl)
made (line.Step w entry) e = absurd (omega (arith, e))
made (line.State w key count) e = absurd (omega (arith, e))

module _ (job : JobView) (law : IsLawful job) (records : List (List (List ℕ))) (lines : List Line) (s : AreInShape job records lines) (wanted : List Feed) (k : ℕ)
    (left : List (List (List ℕ))) (at : AfterSteps job lines left wanted k)
  where
    pub step_as_wanted : (new : List (List (List ℕ))) (step : Feed) → IsStep step → left ≡ feed_fields step ∷ new → slice_get wanted k ≡ Some step → k < length wanted
        → AfterSteps job lines new wanted (k + 1)
    step_as_wanted new step is e w lt =
        as_wanted job (are_told job law) feed_step_in line.Feed IsStep feed_fields 1 (λ a. refl) others made (λ a h. h) (λ a h. h) (λ a. refl) lines s.each s.ordered wanted k left new at step is e w lt

    pub other_step : (new : List (List (List ℕ))) (step : Feed) → IsStep step → left ≡ feed_fields step ∷ new → slice_get wanted k ≢ Some step → DifferFirst (feeds_in lines) wanted k
    other_step new step is e ne =
        something_else job (are_told job law) feed_step_in line.Feed IsStep feed_fields 1 (λ a. refl) others made (λ a h. h) (λ a h. h) (λ a. refl) lines s.each s.ordered wanted k left new at step is e ne

    none_more : ((step : Feed) (new : List (List (List ℕ))) → IsStep step → left ≢ feed_fields step ∷ new) → feeds_in lines ≡ take k wanted
    none_more none =
        nothing_more job (are_told job law) feed_step_in line.Feed IsStep feed_fields 1 (λ a. refl) others made (λ a h. h) (λ a h. h) (λ a. refl) lines s.each s.ordered wanted k left at none

    pub step_missing : ((step : Feed) (new : List (List (List ℕ))) → IsStep step → left ≢ feed_fields step ∷ new) → (step : Feed) → slice_get wanted k ≡ Some step → DifferFirst (feeds_in lines) wanted k
    step_missing none step w = fewer (feeds_in lines) wanted k step (none_more none) w

    pub steps_done : ((step : Feed) (new : List (List (List ℕ))) → IsStep step → left ≢ feed_fields step ∷ new) → length wanted ≤ k → feeds_in lines ≡ wanted
    steps_done none le = none_more none ∙ take_all k wanted le

-- ---- one step

pub at_place : (wanted : List Feed) (k : ℕ) (d found : Feed) → k < length wanted → get_or wanted k d ≡ found → slice_get wanted k ≡ Some found
at_place wanted k d found lt same = slice_get-get_or wanted k d lt ∙ ap Some same

pub of_place : (wanted : List Feed) (k : ℕ) (d found : Feed) → slice_get wanted k ≡ Some found → get_or wanted k d ≡ found
of_place wanted k d found g = get_or_from_slice_get wanted k found d g

pub none_past : (wanted : List Feed) (k : ℕ) (step : Feed) → length wanted ≤ k → slice_get wanted k ≢ Some step
none_past wanted k step le g = let lt = slice_get_within wanted k step g in absurd (omega arith)
