-- Where the alerts of a run and the bytes of a file differ first.
use Rattle.std.proofs.Common.{◌≡◌, ◌∙◌, ◌<◌, ◌≤◌, ◌+◌, inl, inr, ℕ, zero, suc, List, [], ◌∷◌, None, Some, ap, arith, get_or, length, refl, slice_get, subst, sym, take}
use Rattle.std.proofs.lemmas.Bool.{cases_lt}
use Rattle.std.proofs.lemmas.List.{length-take, take_all, take_more_same}
use Rattle.std.proofs.lemmas.Option.{get_or_from_slice_get, slice_get-get_or, slice_get_past, slice_get_within}
use Rattle.audit_laws.specs.Verdict.{DifferFirst}
use Rattle.audit_laws.proofs.ShapeLemmas.{no_difference}
use Rattle.fries_lines.specs.declared.fault.Fault.{Fault}
use Rattle.fries_lines.specs.declared.fault.Fault.TheVariants as fault
use Rattle.fries_verify.specs.Audits.{RefusesAlerts, line_at}

-- ---- how far two texts are the same

pub same_further : (xs ys : List ℕ) (k : ℕ) → k < length xs → take k xs ≡ take k ys →
    slice_get xs k ≡ slice_get ys k → take (k + 1) xs ≡ take (k + 1) ys
same_further xs ys k less front same =
    let there : slice_get ys k ≡ Some (get_or xs k 0) = sym same ∙ slice_get-get_or xs k 0 less in
    take_more_same xs ys k 0 less (slice_get_within ys k (get_or xs k 0) there) front
    (sym (get_or_from_slice_get ys k (get_or xs k 0) 0 there))

pub within_both : (xs ys : List ℕ) (k : ℕ) → k ≤ length xs → take k xs ≡ take k ys → k ≤ length ys
within_both xs ys k within front =
    let same : length (take k xs) ≡ length (take k ys) = ap length front in
    omega (arith, within, same, length-take k xs, length-take k ys)

pub same_texts : (xs ys : List ℕ) (k : ℕ) → length xs ≤ k → length ys ≤ length xs →
    take k xs ≡ take k ys → ys ≡ xs
same_texts xs ys k past fewer front =
    sym (take_all k ys (omega (arith, past, fewer))) ∙ (sym front ∙ take_all k xs past)

pub goes_on : (xs ys : List ℕ) (k : ℕ) → length xs ≤ k → k ≤ length xs → length xs < length ys →
    take k xs ≡ take k ys → DifferFirst xs ys (length xs)
goes_on xs ys k past within more front =
    let at : k ≡ length xs = omega (arith, past, within) in (
      subst (λ n. take n xs ≡ take n ys) at front,
      λ same. absurd (let clash : None ≡ Some (get_or ys (length xs) 0) =
          sym (slice_get_past xs (length xs) (omega arith)) ∙ (same ∙ slice_get-get_or ys (length xs) 0 more) in cc),
    )

-- two texts differ first at one place

taken_at : (xs : List ℕ) (k l : ℕ) → k < l → slice_get (take l xs) k ≡ slice_get xs k
taken_at xs k zero less = absurd (omega (arith, less))
taken_at [] k (suc l) less = refl
taken_at (x ∷ xs) zero (suc l) less = refl
taken_at (x ∷ xs) (suc k) (suc l) less = taken_at xs k l (omega (arith, less))

not_before : (xs ys : List ℕ) (k l : ℕ) → DifferFirst xs ys k → DifferFirst xs ys l → k < l → ⊥
not_before xs ys k l a b less =
    a.1 (sym (taken_at xs k l less) ∙ (ap (λ (zs : List ℕ). slice_get zs k) b.0 ∙ taken_at ys k l less))

one_place : (xs ys : List ℕ) (k l : ℕ) → DifferFirst xs ys k → DifferFirst xs ys l → k ≡ l
one_place xs ys k l a b =
    elim (cases_lt k l) [
      | inl less ↦ absurd (not_before xs ys k l a b less)
      | inr more ↦ elim (cases_lt l k) [
        | inl less ↦ absurd (not_before xs ys l k b a less)
        | inr fewer ↦ omega (arith, more, fewer)
      ]
    ]

-- ---- bytes have one verdict

-- the text itself is refused for no fault
pub alerts_apart : (text : List ℕ) (why : Fault) (bytes : List ℕ) → bytes ≡ text →
    RefusesAlerts text why bytes → ⊥
alerts_apart text (fault.Alerts line) bytes same refused = no_difference text bytes refused.0 (sym same) refused.1
alerts_apart text _ bytes same refused = absurd refused

-- other bytes are refused for one
pub alerts_sole : (text : List ℕ) (f g : Fault) (bytes : List ℕ) → RefusesAlerts text f bytes →
    RefusesAlerts text g bytes → f ≡ g
alerts_sole text (fault.Alerts k) (fault.Alerts l) bytes x y =
    let at : x.0 ≡ y.0 = one_place text bytes x.0 y.0 x.1 y.1 in
    ap (λ (line : ℕ). fault.Alerts line) (x.2 ∙ (ap (line_at bytes) at ∙ sym y.2))
alerts_sole text (fault.Alerts k) _ bytes x y = absurd y
alerts_sole text _ g bytes x y = absurd x
