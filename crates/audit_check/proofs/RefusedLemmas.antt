-- How the refused requests of an audit are read.
use Rattle.std.proofs.Common.{◌≡◌, ◌≢◌, ◌∙◌, ◌<◌, ◌≤◌, ◌+◌, ℕ, List, [], ◌∷◌, refl, sym, ap, arith, get_or, length, take, Some, None, slice_get}
use Rattle.std.proofs.lemmas.List.{take_all}
use Rattle.std.proofs.lemmas.Option.{get_or_from_slice_get, slice_get-get_or, slice_get_within}
use Rattle.jobs.specs.Law.{IsLawful}
use Rattle.jobs.specs.JobView.{JobView}
use Rattle.sink_journal.specs.Audit.{audit_header, refused_fields}
use Rattle.sink_journal.specs.declared.audit.Noted.{Noted}
use Rattle.audit_laws.specs.declared.audit.Line.{Line}
use Rattle.audit_laws.specs.declared.audit.Line.TheVariants as line
use Rattle.audit_fault.specs.Noting.{IsNoted}
use Rattle.audit_laws.specs.Lines.{group_of, refusal_in, refusals_in}
use Rattle.audit_laws.specs.Verdict.{AreInShape, DifferFirst, fields_of}
use Rattle.audit_laws.proofs.NamedLemmas.{are_told}
use Rattle.audit_laws.proofs.ShapeLemmas.{behind}
use Rattle.audit_check.proofs.PartLemmas.{IsAt, as_wanted, fewer, nothing_more, something_else}

-- after so many refused requests of the lines
abbrev pub AfterRefused : JobView → List Line → List (List (List ℕ)) → List Noted → ℕ → Type 0
AfterRefused job lines left refused k = IsAt job refusal_in 0 lines left refused k

pub after_header : (job : JobView) (records : List (List (List ℕ))) (lines : List Line) (cells : List (List ℕ)) (left : List (List (List ℕ))) (refused : List Noted)
    → AreInShape job records lines → records ≡ cells ∷ left → AfterRefused job lines left refused 0
after_header job records lines cells left refused s e = record {
  above = [];
  rest = lines;
  split = refl;
  fields = behind cells audit_header left (fields_of job lines) (sym e ∙ s.fields);
  told = refl;
  within = omega arith;
  reached = λ l i. omega arith;
}

others : (l : Line) → (group_of l ≡ 0 → ⊥) → refusal_in l ≡ None
others (line.Refused noted) h = absurd (h refl)
others (line.Feed step) h = refl
others (line.Step w entry) h = refl
others (line.State w key count) h = refl

made : (l : Line) → group_of l ≡ 0 → (noted : Noted) × (l ≡ line.Refused noted)
made (line.Refused noted) e = (noted, refl)
made (line.Feed step) e = absurd (omega (arith, e))
made (line.Step w entry) e = absurd (omega (arith, e))
made (line.State w key count) e = absurd (omega (arith, e))

module _ (job : JobView) (law : IsLawful job) (records : List (List (List ℕ))) (lines : List Line) (s : AreInShape job records lines) (refused : List Noted) (k : ℕ)
    (left : List (List (List ℕ))) (at : AfterRefused job lines left refused k)
  where
    pub refused_as_wanted : (new : List (List (List ℕ))) (noted : Noted) → IsNoted noted → left ≡ refused_fields noted ∷ new → slice_get refused k ≡ Some noted → k < length refused
        → AfterRefused job lines new refused (k + 1)
    refused_as_wanted new noted is e w lt =
        as_wanted job (are_told job law) refusal_in line.Refused IsNoted refused_fields 0 (λ a. refl) others made (λ a h. h) (λ a h. h) (λ a. refl) lines s.each s.ordered refused k left new at noted is e w lt

    pub other_refused : (new : List (List (List ℕ))) (noted : Noted) → IsNoted noted → left ≡ refused_fields noted ∷ new → slice_get refused k ≢ Some noted → DifferFirst (refusals_in lines) refused k
    other_refused new noted is e ne =
        something_else job (are_told job law) refusal_in line.Refused IsNoted refused_fields 0 (λ a. refl) others made (λ a h. h) (λ a h. h) (λ a. refl) lines s.each s.ordered refused k left new at noted is e ne

    none_more : ((noted : Noted) (new : List (List (List ℕ))) → IsNoted noted → left ≢ refused_fields noted ∷ new) → refusals_in lines ≡ take k refused
    none_more none =
        nothing_more job (are_told job law) refusal_in line.Refused IsNoted refused_fields 0 (λ a. refl) others made (λ a h. h) (λ a h. h) (λ a. refl) lines s.each s.ordered refused k left at none

    pub refused_missing : ((noted : Noted) (new : List (List (List ℕ))) → IsNoted noted → left ≢ refused_fields noted ∷ new) → (noted : Noted) → slice_get refused k ≡ Some noted → DifferFirst (refusals_in lines) refused k
    refused_missing none noted w = fewer (refusals_in lines) refused k noted (none_more none) w

    pub refused_done : ((noted : Noted) (new : List (List (List ℕ))) → IsNoted noted → left ≢ refused_fields noted ∷ new) → length refused ≤ k → refusals_in lines ≡ refused
    refused_done none le = none_more none ∙ take_all k refused le

-- ---- one request

pub at_place : (refused : List Noted) (k : ℕ) (d found : Noted) → k < length refused → ((get_or refused k d).place ≡ found.place) × ((get_or refused k d).code ≡ found.code)
    → slice_get refused k ≡ Some found
at_place refused k d found lt (a, b) =
    let same : get_or refused k d ≡ found = λ i. record { place = a i; code = b i } in
    slice_get-get_or refused k d lt ∙ ap Some same

pub of_place : (refused : List Noted) (k : ℕ) (d found : Noted) → slice_get refused k ≡ Some found
    → ((get_or refused k d).place ≡ found.place) × ((get_or refused k d).code ≡ found.code)
of_place refused k d found g =
    let same : get_or refused k d ≡ found = get_or_from_slice_get refused k found d g in
    (ap (λ (n : Noted). n.place) same, ap (λ (n : Noted). n.code) same)

pub none_past : (refused : List Noted) (k : ℕ) (noted : Noted) → length refused ≤ k → slice_get refused k ≢ Some noted
none_past refused k noted le g = let lt = slice_get_within refused k noted g in absurd (omega arith)
