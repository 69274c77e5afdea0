-- What lines tell of the workers, one line after the other.
use Rattle.std.proofs.Common.{◌≡◌, ◌≢◌, ◌∙◌, ◌<◌, ◌+◌, ◌++◌, ◌==◌, ℕ, ℤ, zero, suc, List, [], ◌∷◌, inl, inr, refl, sym, ap, subst, arith, cond, Bool, true, false, length, get_or, replicate, filter_map, Option, Some, None, slice_get}
use Rattle.std.specs.Prelude.{slice_set}
use Rattle.std.proofs.lemmas.Bool.{cases_lt, eq-eqb, ne_eqb}
use Rattle.std.proofs.lemmas.List.{append-nil, length-set}
use Rattle.std.proofs.lemmas.List.Elements.{filter_map-append}
use Rattle.std.proofs.lemmas.Option.{same_Some, slice_get-get_or}
use Rattle.audit_laws.specs.declared.audit.AuditEntry.{AuditEntry}
use Rattle.audit_laws.specs.declared.audit.Line.{Line}
use Rattle.audit_laws.specs.declared.audit.Line.TheVariants as line
use Rattle.audit_laws.specs.Faults.{Listed}
use Rattle.flow_model.specs.Workers.{workers_in}
use Rattle.jobs.specs.JobView.{JobView}
use Rattle.audit_laws.proofs.TextLemmas.{length-named}
use Rattle.audit_check.specs.Telling.{IsWithin}
use Rattle.audit_laws.specs.Lines.{IsLawfulLine, worker_count_in, counts_in, entry_in, journal_in}

-- ---- lists in which one item is set

pub set_here : {A : Type 0} (xs : List A) (w : ℕ) (a : A) → w < length xs → slice_get (slice_set xs w a) w ≡ Some a
set_here [] w a lt = absurd (omega (arith, lt))
set_here (x ∷ xs) zero a lt = refl
set_here (x ∷ xs) (suc w) a lt = set_here xs w a (omega (arith, lt))

pub set_elsewhere : {A : Type 0} (xs : List A) (v w : ℕ) (a : A) → v ≢ w → slice_get (slice_set xs w a) v ≡ slice_get xs v
set_elsewhere [] v w a ne = refl
set_elsewhere (x ∷ xs) zero zero a ne = absurd (ne refl)
set_elsewhere (x ∷ xs) (suc v) zero a ne = refl
set_elsewhere (x ∷ xs) zero (suc w) a ne = refl
set_elsewhere (x ∷ xs) (suc v) (suc w) a ne = set_elsewhere xs v w a (λ e. ne (ap suc e))

-- ---- what a list tells of each worker

-- each of the first ones is told
abbrev pub AreAt : {A : Type 0} → ℕ → List A → (ℕ → A) → Type 0
AreAt workers xs f = (v : ℕ) → v < workers → slice_get xs v ≡ Some (f v)

pub grown : {A : Type 0} (workers w : ℕ) (xs : List (List A)) (d : List A) (f g : ℕ → List A) (a : A) → w < length xs → AreAt workers xs f
    → ((v : ℕ) → v ≢ w → g v ≡ f v) → g w ≡ f w ++ a ∷ [] → AreAt workers (slice_set xs w (get_or xs w d ++ a ∷ [])) g
grown {A} workers w xs d f g a lt told same here v within = go (v == w) refl
  where
    go : (b : Bool) → (v == w) ≡ b → slice_get (slice_set xs w (get_or xs w d ++ a ∷ [])) v ≡ Some (g v)
    go true e =
        let at : v ≡ w = cases v w e in
        let was : get_or xs w d ≡ f w = same_Some (get_or xs w d) (f w) (sym (slice_get-get_or xs w d lt) ∙ subst (λ k. slice_get xs k ≡ Some (f k)) at (told v within)) in
        subst (λ k. slice_get (slice_set xs w (get_or xs w d ++ a ∷ [])) k ≡ Some (g k)) (sym at)
        (set_here xs w (get_or xs w d ++ a ∷ []) lt ∙ ap Some (ap (λ (l : List A). l ++ a ∷ []) was ∙ sym here))
      where
        cases : (v w : ℕ) → (v == w) ≡ true → v ≡ w
        cases v w e = elim (cases_lt v w) [
          | inl lt ↦ let f = ne_eqb v w (λ q. absurd (omega (arith, lt, q))) in absurd (cc)
          | inr ge ↦ elim (cases_lt w v) [
            | inl gt ↦ let f = ne_eqb v w (λ q. absurd (omega (arith, gt, q))) in absurd (cc)
            | inr le ↦ omega (arith, ge, le)
          ]
        ]
    go false e =
        let apart : v ≢ w = λ q. let t = eq-eqb v w q in absurd (cc) in
        set_elsewhere xs v w (get_or xs w d ++ a ∷ []) apart ∙ (told v within ∙ ap Some (sym (same v apart)))

pub kept : {A : Type 0} (workers : ℕ) (xs : List A) (f g : ℕ → A) → AreAt workers xs f → ((v : ℕ) → g v ≡ f v) → AreAt workers xs g
kept workers xs f g told same v within = told v within ∙ ap Some (sym (same v))

-- ---- lines

pub no_entry : (above : List Line) (l : Line) (v : ℕ) → entry_in v l ≡ None → journal_in (above ++ l ∷ []) v ≡ journal_in above v
no_entry above l v none = filter_map-append (entry_in v) above (l ∷ []) ∙ rw none (append-nil (journal_in above v))

pub one_entry : (above : List Line) (w : ℕ) (e : AuditEntry) → journal_in (above ++ line.Step w e ∷ []) w ≡ journal_in above w ++ e ∷ []
one_entry above w e = filter_map-append (entry_in w) above (line.Step w e ∷ []) ∙ rw (eq-eqb w w refl) refl

pub other_entry : (above : List Line) (v w : ℕ) (e : AuditEntry) → v ≢ w → journal_in (above ++ line.Step w e ∷ []) v ≡ journal_in above v
other_entry above v w e ne = no_entry above (line.Step w e) v (rw (ne_eqb w v (λ q. ne (sym q))) refl)

pub no_count : (above : List Line) (l : Line) (v : ℕ) → worker_count_in v l ≡ None → counts_in (above ++ l ∷ []) v ≡ counts_in above v
no_count above l v none = filter_map-append (worker_count_in v) above (l ∷ []) ∙ rw none (append-nil (counts_in above v))

pub one_count : (above : List Line) (w : ℕ) (key : List ℕ) (count : ℤ) → counts_in (above ++ line.State w key count ∷ []) w ≡ counts_in above w ++ (key, count) ∷ []
one_count above w key count = filter_map-append (worker_count_in w) above (line.State w key count ∷ []) ∙ rw (eq-eqb w w refl) refl

pub other_count : (above : List Line) (v w : ℕ) (key : List ℕ) (count : ℤ) → v ≢ w → counts_in (above ++ line.State w key count ∷ []) v ≡ counts_in above v
other_count above v w key count ne = no_count above (line.State w key count) v (rw (ne_eqb w v (λ q. ne (sym q))) refl)

-- ---- at the beginning

pub all_empty : {A : Type 0} (workers v : ℕ) → v < workers → slice_get (replicate {A = List A} workers []) v ≡ Some []
all_empty zero v lt = absurd (omega (arith, lt))
all_empty (suc workers) zero lt = refl
all_empty {A} (suc workers) (suc v) lt = all_empty {A = A} workers v (omega (arith, lt))

-- ---- the worker of a line

pub within_line : (job : JobView) (n : ℕ) (l : Line) → IsLawfulLine job l → n ≡ length (workers_in job) → IsWithin n l
within_line job n (line.Refused noted) is e = tt
within_line job n (line.Feed step) is e = tt
within_line job n (line.Step w entry) is e = let lt = is.0 in omega (arith, lt, e, length-named 0 0 job.nodes)
within_line job n (line.State w key count) is e = let lt = is.0 in (omega (arith, lt, e, length-named 0 0 job.nodes), is.1)
