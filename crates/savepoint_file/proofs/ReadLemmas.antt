-- What a text tells is what is read of it step by step.
use Rattle.std.proofs.Common.{◌≡◌, ◌≢◌, ◌∙◌, ◌<◌, ◌≤◌, ◌+◌, ◌++◌, ℕ, zero, suc, Bool, true, false, List, [], ◌∷◌, Option, Some, None, Result, Ok, Err, refl, sym, subst, ap, arith, add-one, append_assoc, drop, get_or, length, map, option_map, take, if◌then◌else◌}
use Rattle.std.proofs.lemmas.Bool.{eq-eqb, lt-ltb, ne_eqb}
use Rattle.std.proofs.lemmas.List.{append-nil, drop_more}
use Rattle.jobs.specs.JobView.{JobView}
use Rattle.keyed_state.specs.Counts.{Counts}
use Rattle.versions.proofs.WaitingLemmas.{not_below}
use Rattle.flow_model.specs.Begin.{Begin}
use Rattle.flow_model.specs.SetupView.{SetupView}
use Rattle.flow_model.specs.Requests.{afters}
use Rattle.flow_model.specs.Workers.{workers_in}
use Rattle.savepoint.specs.Parts.{issued_up_to}
use Rattle.savepoint.specs.SaveReading.{Placed, Spelled, begin_at, begin_by, begin_in, begin_with, counts_at, head_of, one_more, one_placed, one_spelled, placed_from, placed_of, spelled_from, spelled_of, stands_behind}
use Rattle.savepoint.specs.declared.fault.SaveFault.{SaveFault}
use Rattle.savepoint.specs.declared.fault.SaveFault.TheVariants as fault
use Rattle.savepoint_file.specs.Steps.{with_those_after, one_read, placed_in, read_from, there}

-- ---- records of another form

pub no_head : (cells : List (List ℕ)) → (length cells ≡ 4 → ⊥) → head_of cells ≡ None
no_head [] n = refl
no_head (a ∷ []) n = refl
no_head (a ∷ b ∷ []) n = refl
no_head (a ∷ b ∷ c ∷ []) n = refl
no_head (a ∷ b ∷ c ∷ d ∷ []) n = absurd (n refl)
no_head (a ∷ b ∷ c ∷ d ∷ e ∷ more) n = refl

pub no_spelling : (cells : List (List ℕ)) → (length cells ≡ 4 → ⊥) → spelled_of cells ≡ None
no_spelling [] n = refl
no_spelling (a ∷ []) n = refl
no_spelling (a ∷ b ∷ []) n = refl
no_spelling (a ∷ b ∷ c ∷ []) n = refl
no_spelling (a ∷ b ∷ c ∷ d ∷ []) n = absurd (n refl)
no_spelling (a ∷ b ∷ c ∷ d ∷ e ∷ more) n = refl

-- ---- what is read, and then the rest

pub after-more : {A : Type 0} (first : List A) (item : A) (later : Result (List A) SaveFault) → with_those_after first (one_more item later) ≡ with_those_after (first ++ item ∷ []) later
after-more first item (Ok later) = ap Ok (sym (append_assoc first (item ∷ []) later))
after-more first item (Err fault) = refl

-- one record more
pub read-more : (job : JobView) (number : ℕ) (counts : List (Option Placed)) (placed : Option Placed) (cells : List (List ℕ)) (old new : List (List (List ℕ)))
    → old ≡ cells ∷ new → option_map (placed_of job) (spelled_of cells) ≡ Some placed
    → with_those_after (counts ++ placed ∷ []) (read_from job (number + 1) new) ≡ with_those_after counts (read_from job number old)
read-more job number counts placed cells old new is made =
    sym (after-more counts placed (read_from job (number + 1) new))
    ∙ (ap (λ o. with_those_after counts (one_read number o (read_from job (number + 1) new))) (sym made) ∙ ap (λ rs. with_those_after counts (read_from job number rs)) (sym is))

pub read-end : (job : JobView) (number : ℕ) (counts : List (Option Placed)) (old : List (List (List ℕ))) → old ≡ [] → with_those_after counts (read_from job number old) ≡ Ok counts
read-end job number counts old is = ap (λ rs. with_those_after counts (read_from job number rs)) is ∙ ap Ok (append-nil counts)

pub read-fault : (job : JobView) (number : ℕ) (counts : List (Option Placed)) (cells : List (List ℕ)) (old new : List (List (List ℕ)))
    → old ≡ cells ∷ new → spelled_of cells ≡ None → with_those_after counts (read_from job number old) ≡ Err (fault.Shape number)
read-fault job number counts cells old new is none =
    ap (λ rs. with_those_after counts (read_from job number rs)) is
    ∙ ap (λ o. with_those_after counts (one_read number (option_map (placed_of job) o) (read_from job (number + 1) new))) none

-- ---- what is read tells what is spelled

pub record IsRead (job : JobView) (number : ℕ) (records : List (List (List ℕ))) (counts : List (Option Placed)) : Type 0 where
  pub spelled : List Spelled
  pub is : spelled_from number records ≡ Ok spelled
  pub counts_are : counts ≡ map (placed_of job) spelled

pub read-spelled : (job : JobView) (number : ℕ) (records : List (List (List ℕ))) (counts : List (Option Placed)) → read_from job number records ≡ Ok counts → IsRead job number records counts
read-spelled job number [] counts is = record { spelled = []; is = refl; counts_are = cc is }
read-spelled job number (first ∷ later) counts is = go (spelled_of first) (read_from job (number + 1) later) refl refl is (read-spelled job (number + 1) later)
  where
    go : (o : Option Spelled) (rest : Result (List (Option Placed)) SaveFault) → spelled_of first ≡ o → read_from job (number + 1) later ≡ rest
        → one_read number (option_map (placed_of job) o) rest ≡ Ok counts
        → ((more : List (Option Placed)) → read_from job (number + 1) later ≡ Ok more → IsRead job (number + 1) later more) → IsRead job number (first ∷ later) counts
    go None rest at made e rec = absurd (cc e)
    go (Some spelled) (Err f) at made e rec = absurd (cc e)
    go (Some spelled) (Ok more) at made e rec =
        let r = rec more made in
        record {
          spelled = spelled ∷ r.spelled;
          is = ap (λ o. one_spelled number o (spelled_from (number + 1) later)) at ∙ ap (one_more spelled) r.is;
          counts_are = (let f : placed_of job spelled ∷ more ≡ counts = cc e in sym f) ∙ ap (λ l. placed_of job spelled ∷ l) r.counts_are;
        }

pub fault-spelled : (job : JobView) (number : ℕ) (records : List (List (List ℕ))) (f : SaveFault) → read_from job number records ≡ Err f → spelled_from number records ≡ Err f
fault-spelled job number [] f is = absurd (cc is)
fault-spelled job number (first ∷ later) f is = go (spelled_of first) (read_from job (number + 1) later) refl refl is (fault-spelled job (number + 1) later f)
  where
    go : (o : Option Spelled) (rest : Result (List (Option Placed)) SaveFault) → spelled_of first ≡ o → read_from job (number + 1) later ≡ rest
        → one_read number (option_map (placed_of job) o) rest ≡ Err f
        → (read_from job (number + 1) later ≡ Err f → spelled_from (number + 1) later ≡ Err f) → spelled_from number (first ∷ later) ≡ Err f
    go None rest at made e rec = ap (λ o. one_spelled number o (spelled_from (number + 1) later)) at ∙ (let g : fault.Shape number ≡ f = cc e in ap Err g)
    go (Some spelled) (Ok more) at made e rec = absurd (cc e)
    go (Some spelled) (Err g) at made e rec =
        let same : g ≡ f = cc e in
        ap (λ o. one_spelled number o (spelled_from (number + 1) later)) at
        ∙ ap (one_more spelled) (rec (made ∙ ap Err same))

-- ---- the order

pub placed-steps : (job : JobView) (number : ℕ) (before : Option Placed) (spelled : List Spelled) → placed_from job number before spelled ≡ placed_in number before (map (placed_of job) spelled)
placed-steps job number before [] = refl
placed-steps job number before (first ∷ later) = one_step (placed_of job first) (λ p. placed-steps job (number + 1) (Some p) later)
  where
    same : (p : Placed) (b : Bool) → placed_from job (number + 1) (Some p) later ≡ placed_in (number + 1) (Some p) (map (placed_of job) later)
        → (if b then one_more p (placed_from job (number + 1) (Some p) later) else Err (fault.State number))
        ≡ (if b then one_more p (placed_in (number + 1) (Some p) (map (placed_of job) later)) else Err (fault.State number))
    same p true rec = ap (one_more p) rec
    same p false rec = refl

    one_step : (o : Option Placed) → ((p : Placed) → placed_from job (number + 1) (Some p) later ≡ placed_in (number + 1) (Some p) (map (placed_of job) later))
        → one_placed number before o (λ placed. placed_from job (number + 1) (Some placed) later)
        ≡ one_placed number before o (λ placed. placed_in (number + 1) (Some placed) (map (placed_of job) later))
    one_step None rec = refl
    one_step (Some p) rec = same p (stands_behind before p) (rec p)

there-append : {A : Type 0} (xs ys : List (Option A)) → there (xs ++ ys) ≡ there xs ++ there ys
there-append [] ys = refl
there-append (None ∷ xs) ys = there-append xs ys
there-append (Some x ∷ xs) ys = ap (λ l. x ∷ l) (there-append xs ys)

-- the items up to a place and the one there
take-suc : {A : Type 0} (xs : List A) (i : ℕ) (x : A) → i < length xs → get_or xs i x ≡ x → take (suc i) xs ≡ take i xs ++ x ∷ []
take-suc [] i x less is = absurd (omega (arith, less))
take-suc (y ∷ xs) zero x less is = ap (λ z. z ∷ []) is
take-suc (y ∷ xs) (suc i) x less is = ap (λ l. y ∷ l) (take-suc xs i x (omega (arith, less)) is)

take-more : {A : Type 0} (xs : List A) (i : ℕ) (x : A) → i < length xs → get_or xs i x ≡ x → take (i + 1) xs ≡ take i xs ++ x ∷ []
take-more xs i x less is = rw add-one (take-suc xs i x less is)

pub there-some : {A : Type 0} (xs : List (Option A)) (i : ℕ) (x : A) → i < length xs → get_or xs i (Some x) ≡ Some x → there (take (i + 1) xs) ≡ there (take i xs) ++ x ∷ []
there-some xs i x less is = ap there (take-more xs i (Some x) less is) ∙ there-append (take i xs) (Some x ∷ [])

pub there-none : {A : Type 0} (xs : List (Option A)) (i : ℕ) → i < length xs → get_or xs i None ≡ None → there (take (i + 1) xs) ≡ there (take i xs)
there-none xs i less is = ap there (take-more xs i None less is) ∙ (there-append (take i xs) (None ∷ []) ∙ append-nil (there (take i xs)))

-- one count more comes in order
pub order-more : (counts : List (Option Placed)) (first i : ℕ) (before : Option Placed) (p : Placed) (x : Option Placed) → i < length counts → x ≡ get_or counts i x → x ≡ Some p → stands_behind before p ≡ true
    → with_those_after (there (take (i + 1) counts)) (placed_in (first + (i + 1)) (Some p) (drop (i + 1) counts)) ≡ with_those_after (there (take i counts)) (placed_in (first + i) before (drop i counts))
order-more counts first i before p x lt is some behind =
    let at : get_or counts i (Some p) ≡ Some p = sym (subst (λ z. z ≡ get_or counts i z) some is) in
    let number : first + (i + 1) ≡ (first + i) + 1 = omega arith in
    let rest : Result (List Placed) SaveFault = placed_in ((first + i) + 1) (Some p) (drop (i + 1) counts) in
    let yes : one_placed (first + i) before (Some p) (λ placed. placed_in ((first + i) + 1) (Some placed) (drop (i + 1) counts)) ≡ one_more p rest = rw behind refl in
    let here : placed_in (first + i) before (drop i counts) ≡ one_more p rest =
    ap (placed_in (first + i) before) (drop_more counts i (Some p) lt ∙ ap (λ z. z ∷ drop (i + 1) counts) at) ∙ yes in
    ap (λ n. with_those_after (there (take (i + 1) counts)) (placed_in n (Some p) (drop (i + 1) counts))) number
    ∙ (ap (λ l. with_those_after l rest) (there-some counts i p lt at)
    ∙ (sym (after-more (there (take i counts)) p rest) ∙ ap (with_those_after (there (take i counts))) (sym here)))

-- ---- the whole text

pub begin-none : (setup : SetupView) (rows : ℕ) (all : List (List (List ℕ))) → all ≡ [] → begin_in setup rows all ≡ Err (fault.Shape 0)
begin-none setup rows all is = ap (begin_in setup rows) is

pub begin-headless : (setup : SetupView) (rows : ℕ) (cells : List (List ℕ)) (all later : List (List (List ℕ))) → all ≡ cells ∷ later → head_of cells ≡ None → begin_in setup rows all ≡ Err (fault.Shape 0)
begin-headless setup rows cells all later is none = ap (begin_in setup rows) is ∙ ap (λ o. begin_by setup rows o (spelled_from 1 later)) none

by_head : (setup : SetupView) (rows : ℕ) (cells : List (List ℕ)) (all later : List (List (List ℕ))) (head : ℕ × ℕ) (spelled : Result (List Spelled) SaveFault)
    → all ≡ cells ∷ later → head_of cells ≡ Some head → spelled_from 1 later ≡ spelled → begin_in setup rows all ≡ begin_by setup rows (Some head) spelled
by_head setup rows cells all later head spelled is at made =
    ap (begin_in setup rows) is ∙ (ap (λ o. begin_by setup rows o (spelled_from 1 later)) at ∙ ap (begin_by setup rows (Some head)) made)

pub begin-misspelled : (setup : SetupView) (rows : ℕ) (cells : List (List ℕ)) (all later : List (List (List ℕ))) (head : ℕ × ℕ) (f : SaveFault)
    → all ≡ cells ∷ later → head_of cells ≡ Some head → read_from setup.job 1 later ≡ Err f → begin_in setup rows all ≡ Err f
begin-misspelled setup rows cells all later head f is at made = by_head setup rows cells all later head (Err f) is at (fault-spelled setup.job 1 later f made)

pub begin-read : (setup : SetupView) (rows : ℕ) (cells : List (List ℕ)) (all later : List (List (List ℕ))) (head : ℕ × ℕ) (counts : List (Option Placed)) (answer : Result Begin SaveFault)
    → all ≡ cells ∷ later → head_of cells ≡ Some head → read_from setup.job 1 later ≡ Ok counts
    → ((spelled : List Spelled) → counts ≡ map (placed_of setup.job) spelled → begin_at setup rows head spelled ≡ answer) → begin_in setup rows all ≡ answer
begin-read setup rows cells all later head counts answer is at made h =
    let r = read-spelled setup.job 1 later counts made in
    by_head setup rows cells all later head (Ok r.spelled) is at r.is ∙ h r.spelled r.counts_are

-- the counts that were read were spelled
pub named-read : (job : JobView) (first : ℕ) (later : List (List (List ℕ))) (counts : List (Option Placed)) → read_from job first later ≡ Ok counts → (spelled : List Spelled) × (counts ≡ map (placed_of job) spelled)
named-read job first later counts made = let r = read-spelled job first later counts made in (r.spelled, r.counts_are)

-- ---- the beginning

pub at-past : (setup : SetupView) (rows row turned : ℕ) (spelled : List Spelled) → rows < row → begin_at setup rows (row, turned) spelled ≡ Err (fault.Past row)
at-past setup rows row turned spelled less = rw (lt-ltb rows row less) refl

abbrev issued_in : SetupView → ℕ → ℕ → ℕ
issued_in setup rows row = issued_up_to row rows (afters setup.requests)

pub at-count : (setup : SetupView) (rows row turned : ℕ) (spelled : List Spelled) → row ≤ rows → turned ≢ issued_in setup rows row
    → begin_at setup rows (row, turned) spelled ≡ Err (fault.Count (issued_in setup rows row))
at-count setup rows row turned spelled le other = rw (not_below rows row le, ne_eqb turned (issued_in setup rows row) other) refl

pub at-order : (setup : SetupView) (rows row turned : ℕ) (spelled : List Spelled) → row ≤ rows → turned ≡ issued_in setup rows row
    → begin_at setup rows (row, turned) spelled ≡ begin_with setup.job row turned (placed_from setup.job 1 None spelled)
at-order setup rows row turned spelled le same = rw (not_below rows row le, eq-eqb turned (issued_in setup rows row) same) refl

with_order : (job : JobView) (row turned first : ℕ) (counts : List (Option Placed)) (spelled : List Spelled) (made : Result (List Placed) SaveFault)
    → counts ≡ map (placed_of job) spelled → placed_in first None counts ≡ made → begin_with job row turned (placed_from job first None spelled) ≡ begin_with job row turned made
with_order job row turned first counts spelled made is order = ap (begin_with job row turned) (placed-steps job first None spelled ∙ (ap (placed_in first None) (sym is) ∙ order))

pub with-misplaced : (job : JobView) (row turned first : ℕ) (counts : List (Option Placed)) (spelled : List Spelled) (f : SaveFault)
    → counts ≡ map (placed_of job) spelled → placed_in first None counts ≡ Err f → begin_with job row turned (placed_from job first None spelled) ≡ Err f
with-misplaced job row turned first counts spelled f is order = with_order job row turned first counts spelled (Err f) is order

pub with-placed : (job : JobView) (row turned first : ℕ) (counts : List (Option Placed)) (spelled : List Spelled) (states : List Counts)
    → counts ≡ map (placed_of job) spelled → placed_in first None counts ≡ Ok (there counts) → states ≡ map (counts_at (there counts)) (workers_in job)
    → begin_with job row turned (placed_from job first None spelled) ≡ Ok (record { row = row; turned = turned; states = states })
with-placed job row turned first counts spelled states is order made =
    with_order job row turned first counts spelled (Ok (there counts)) is order
    ∙ ap (λ (s : List Counts). Ok (record { row = row; turned = turned; states = s })) (sym made)
