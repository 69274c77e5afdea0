-- How many requests are issued before a row is fed.
use Rattle.std.proofs.Common.{◌≡◌, ◌∙◌, ◌<◌, ◌≤◌, ◌+◌, ◌-◌, ◌==◌, ◌++◌, ◌⊎◌, ◌↔◌, ℕ, zero, suc, List, [], ◌∷◌, inl, inr, refl, ap, drop, subst, sym, true, false, Bool, cond, arith, length, min, Some, slice_get}
use Rattle.std.specs.Prelude.{nat_le, ⊤}
use Rattle.std.proofs.lemmas.Bool.{cases_lt, eq-eqb, le-leb, lt-leb, ne_eqb}
use Rattle.std.proofs.lemmas.List.{length-drop, length-map}
use Rattle.std.proofs.lemmas.Option.{same_Some}
use Rattle.sink_journal.specs.declared.journal.Feed.{Feed}
use Rattle.sink_journal.specs.declared.journal.Feed.TheVariants as feed
use Rattle.jobs.specs.Job.{job_view}
use Rattle.versions.specs.declared.request.Request.{Request}
use Rattle.versions.specs.Kept.{AreInOrder}
use Rattle.versions.proofs.KeptLemmas.{accepted-order}
use Rattle.flow_model.specs.declared.setup.Setup.{Setup}
use Rattle.flow_model.specs.Requests.{afters}
use Rattle.flow_model.specs.Setup.{setup_view}
use Rattle.flow_model.specs.Feeding.{feed_after, feed_from, issued_where}
use Rattle.audit_laws.specs.Drafted.{issued_before}

-- how many requests wait for a row that passes the test
abbrev pub count : (ℕ → Bool) → ℕ → List ℕ → ℕ
count test rows [] = 0
count test rows (a ∷ more) = cond (test (min a rows)) (suc (count test rows more)) (count test rows more)

abbrev pub count_up_to : ℕ → ℕ → List ℕ → ℕ
count_up_to row rows waits = count (λ a. nat_le a row) rows waits

past_issued : (test : ℕ → Bool) (rows r row : ℕ) (waits : List ℕ) (more : List Feed) (acc : ℕ) → issued_before row acc (issued_where test rows r waits ++ more) ≡ issued_before row (acc + count test rows waits) more
past_issued test rows r row [] more acc = let z : acc ≡ acc + 0 = omega arith in ap (λ (k : ℕ). issued_before row k more) z
past_issued test rows r row (a ∷ waits) more acc = go (test (min a rows)) (past_issued test rows (r + 1) row waits more)
  where
    go : (b : Bool) → ((k : ℕ) → issued_before row k (issued_where test rows (r + 1) waits ++ more) ≡ issued_before row (k + count test rows waits) more)
        → issued_before row acc (cond b (feed.Issued r ∷ issued_where test rows (r + 1) waits) (issued_where test rows (r + 1) waits) ++ more)
        ≡ issued_before row (acc + cond b (suc (count test rows waits)) (count test rows waits)) more
    go true ih = let z : acc + 1 + count test rows waits ≡ acc + suc (count test rows waits) = omega arith in ih (acc + 1) ∙ ap (λ (k : ℕ). issued_before row k more) z
    go false ih = ih acc

-- a row that isn't fed
outside : (rows row : ℕ) (waits : List ℕ) (r left k acc : ℕ) → (row ≤ k) ⊎ (k + left < row) →
    issued_before row acc (feed_after waits r k rows left) ≡ 0
outside rows row waits r zero k acc out = refl
outside rows row waits r (suc left) k acc out =
    let apart : (k + 1 == row) ≡ false =
    ne_eqb (k + 1) row (λ e. elim out [
      | inl le ↦ absurd (omega (arith, le, e))
      | inr lt ↦ absurd (omega (arith, lt, e))
    ]) in
    let later : (row ≤ k + 1) ⊎ (k + 1 + left < row) =
    elim out [ inl le ↦ inl (omega (arith, le)) | inr lt ↦ inr (omega (arith, lt)) ] in
    rw apart (past_issued (λ a. a == k + 1) rows r row waits
    (feed_after waits r (k + 1) rows left) acc
    ∙ outside rows row waits r left (k + 1) (acc + count (λ a. a == k + 1) rows waits) later)

pub count_next : (rows k : ℕ) (waits : List ℕ) → count_up_to k rows waits + count (λ a. a == k + 1) rows waits ≡ count_up_to (k + 1) rows waits
count_next rows k [] = refl
count_next rows k (a ∷ waits) = go (count_next rows k waits)
  where
    go : count_up_to k rows waits + count (λ a. a == k + 1) rows waits ≡ count_up_to (k + 1) rows waits → count_up_to k rows (a ∷ waits) + count (λ a. a == k + 1) rows (a ∷ waits) ≡ count_up_to (k + 1) rows (a ∷ waits)
    go ih = elim (cases_lt k (min a rows)) [
      | inr le ↦ rw (le-leb (min a rows) k le) (rw (ne_eqb (min a rows) (k + 1) (λ e. absurd (omega (arith, le, e)))) (rw (le-leb (min a rows) (k + 1) (omega (arith, le))) (omega (arith, ih))))
      | inl lt ↦ elim (cases_lt (k + 1) (min a rows)) [
        | inl more ↦ rw (lt-leb (min a rows) k lt) (rw (ne_eqb (min a rows) (k + 1) (λ e. absurd (omega (arith, more, e)))) (rw (lt-leb (min a rows) (k + 1) more) ih))
        | inr le ↦ rw (lt-leb (min a rows) k lt) (rw (eq-eqb (min a rows) (k + 1) (omega (arith, lt, le))) (rw (le-leb (min a rows) (k + 1) le) (omega (arith, ih))))
      ]
    ]

inside : (rows p t : ℕ) (waits : List ℕ) (r left k acc : ℕ) → k ≤ p → p < k + left →
    acc ≡ t + count_up_to k rows waits →
    issued_before (suc p) acc (feed_after waits r k rows left) ≡ t + count_up_to p rows waits
inside rows p t waits r zero k acc le lt is = absurd (omega (arith, le, lt))
inside rows p t waits r (suc left) k acc le lt is = elim (cases_lt k p) [
  | inl below ↦
      let next = count_next rows k waits in
      rw (ne_eqb (k + 1) (suc p) (λ e. absurd (omega (arith, below, e))))
      (past_issued (λ a. a == k + 1) rows r (suc p) waits (feed_after waits r (k + 1) rows left) acc
      ∙ inside rows p t waits r left (k + 1) (acc + count (λ a. a == k + 1) rows waits)
      (omega (arith, below)) (omega (arith, lt)) (omega (arith, is, next)))
  | inr above ↦
      let same : k ≡ p = omega (arith, le, above) in
      rw (eq-eqb (k + 1) (suc p) (omega (arith, same)))
      (is ∙ ap (λ (n : ℕ). t + count_up_to n rows waits) same)
]

-- how many requests the feed has issued before a row, if it follows these rows and requests
abbrev pub fed_under : (begun turned rows row : ℕ) → List ℕ → ℕ
fed_under begun turned rows row waits =
    issued_before row turned (feed_from begun turned waits rows)

whole : (b t rows row : ℕ) (waits : List ℕ) →
    fed_under b t rows row waits
    ≡ issued_before row (t + count_up_to b rows (drop t waits))
    (feed_after (drop t waits) (t + 1) b rows (rows - b))
whole b t rows row waits =
    past_issued (λ a. nat_le a b) rows (t + 1) row (drop t waits)
    (feed_after (drop t waits) (t + 1) b rows (rows - b)) t

pub issued_outside : (b t rows row : ℕ) (waits : List ℕ) → (row ≤ b) ⊎ (rows < row) →
    fed_under b t rows row waits ≡ 0
issued_outside b t rows row waits out =
    whole b t rows row waits
    ∙ outside rows row (drop t waits) (t + 1) (rows - b) b (t + count_up_to b rows (drop t waits))
    (elim (cases_lt b row) [
      | inl above ↦ elim out [
        | inl le ↦ inl le
        | inr lt ↦ inr (omega (arith, above, lt))
      ]
      | inr le ↦ inl le
    ])

issued_inside : (b t rows p : ℕ) (waits : List ℕ) → b ≤ p → p < rows →
    fed_under b t rows (suc p) waits ≡ t + count_up_to p rows (drop t waits)
issued_inside b t rows p waits le lt =
    whole b t rows (suc p) waits
    ∙ inside rows p t (drop t waits) (t + 1) (rows - b) b (t + count_up_to b rows (drop t waits)) le
    (omega (arith, le, lt)) refl

pub count_few : (test : ℕ → Bool) (rows : ℕ) (waits : List ℕ) → count test rows waits ≤ length waits
count_few test rows [] = omega arith
count_few test rows (a ∷ waits) = go (test (min a rows)) (count_few test rows waits)
  where
    go : (b : Bool) → count test rows waits ≤ length waits → cond b (suc (count test rows waits)) (count test rows waits) ≤ suc (length waits)
    go true le = omega (arith, le)
    go false le = omega (arith, le)

-- each waits for a row not before that of the one above
abbrev pub Rise : ℕ → List ℕ → Type 0
Rise low [] = ⊤
Rise low (a ∷ waits) = (low ≤ a) × Rise a waits

none_up_to : (rows k low : ℕ) (waits : List ℕ) → Rise low waits → k < min low rows → count_up_to k rows waits ≡ 0
none_up_to rows k low [] up lt = refl
none_up_to rows k low (a ∷ waits) up lt =
    let le = up.0 in
    let more : k < min a rows = omega (arith, lt, le) in
    rw (lt-leb (min a rows) k more) (none_up_to rows k a waits up.1 more)

at_least : (low place after : ℕ) (waits : List ℕ) → Rise low waits → slice_get waits place ≡ Some after → low ≤ after
at_least low place after [] up g = absurd (cc)
at_least low zero after (a ∷ waits) up g = let same : a ≡ after = same_Some a after g in let le = up.0 in omega (arith, le, same)
at_least low (suc place) after (a ∷ waits) up g = let le = up.0 in let more = at_least a place after waits up.1 g in omega (arith, le, more)

count_before : (rows k low place after : ℕ) (waits : List ℕ) → Rise low waits → slice_get waits place ≡ Some after → (count_up_to k rows waits < place + 1) ↔ (k < min after rows)
count_before rows k low place after [] up g = absurd (cc)
count_before rows k low zero after (a ∷ waits) up g =
    let same : a ≡ after = same_Some a after g in
    elim (cases_lt k (min a rows)) [
      | inl lt ↦ (λ less. omega (arith, lt, same), λ more. rw (lt-leb (min a rows) k lt) (let none = none_up_to rows k a waits up.1 lt in omega (arith, none)))
      | inr le ↦ (λ less. absurd (omega (arith, rw (le-leb (min a rows) k le) at less)), λ more. absurd (omega (arith, more, le, same)))
    ]
count_before rows k low (suc place) after (a ∷ waits) up g =
    let rest = count_before rows k a place after waits up.1 g in
    let over = at_least a place after waits up.1 g in
    elim (cases_lt k (min a rows)) [
      | inl lt ↦ (λ less. omega (arith, lt, over), λ more. rw (lt-leb (min a rows) k lt) (let none = none_up_to rows k a waits up.1 lt in omega (arith, none)))
      | inr le ↦ rw (le-leb (min a rows) k le) (λ less. rest.0 (omega (arith, less)), λ more. let less = rest.1 more in omega (arith, less))
    ]

rise_weaker : (low lower : ℕ) (waits : List ℕ) → lower ≤ low → Rise low waits → Rise lower waits
rise_weaker low lower [] le up = tt
rise_weaker low lower (a ∷ waits) le up = let first = up.0 in (omega (arith, le, first), up.1)

rise_drop : (t low : ℕ) (waits : List ℕ) → Rise low waits → Rise low (drop t waits)
rise_drop zero low waits up = up
rise_drop (suc t) low [] up = tt
rise_drop (suc t) low (a ∷ waits) up = rise_drop t low waits (rise_weaker a low waits up.0 up.1)

later_wait : (t place after : ℕ) (waits : List ℕ) → t ≤ place →
    slice_get waits place ≡ Some after → slice_get (drop t waits) (place - t) ≡ Some after
later_wait zero place after waits le g =
    let z : place - 0 ≡ place = omega arith in ap (slice_get waits) z ∙ g
later_wait (suc t) place after [] le g = absurd (cc)
later_wait (suc t) zero after (a ∷ waits) le g = absurd (omega (arith, le))
later_wait (suc t) (suc place) after (a ∷ waits) le g =
    let z : suc place - suc t ≡ place - t = omega arith in
    ap (slice_get (drop t waits)) z
    ∙ later_wait t place after waits (omega (arith, le)) g

module _ (b t rows : ℕ) (waits : List ℕ)
  where
    -- each row that is fed comes after the requests that were turned before
    pub all_turned : (p : ℕ) → b ≤ p → p < rows → t ≤ fed_under b t rows (suc p) waits
    all_turned p le lt = let some = issued_inside b t rows p waits le lt in omega (arith, some)

    -- fewer requests than this are issued before the row, if there aren't so many
    pub none_waits : (p place : ℕ) → b ≤ p → p < rows → length waits ≤ place → t ≤ place →
        fed_under b t rows (suc p) waits < place + 1
    none_waits p place le lt past turned =
        let some = issued_inside b t rows p waits le lt in
        let few = count_few (λ a. nat_le a p) rows (drop t waits) in
        let long = length-drop t waits in
        omega (arith, some, few, long, past, turned)

    -- or if the request waits for this row or a later one
    pub waits_after : (p place after low : ℕ) → b ≤ p → p < rows → Rise low waits → t ≤ place →
        slice_get waits place ≡ Some after →
        (fed_under b t rows (suc p) waits < place + 1) ↔ (suc p ≤ after)
    waits_after p place after low le lt up turned g =
        let some = issued_inside b t rows p waits le lt in
        let both = count_before rows p low (place - t) after (drop t waits)
        (rise_drop t low waits up) (later_wait t place after waits turned g) in (
          λ less. let m = both.0 (omega (arith, some, less, turned)) in omega (arith, m),
          λ more. let c = both.1 (omega (arith, lt, more)) in omega (arith, some, c, turned),
        )

-- ---- of a setup

pub rise : (low : ℕ) (requests : List Request) → AreInOrder low requests → Rise low (afters requests)
rise low [] order = tt
rise low (request ∷ requests) order = (order.0, rise request.after requests order.1)

-- a row that is fed, by the place before it
fed_place : (b rows row : ℕ) → b < row → row ≤ rows →
    (p : ℕ) × (row ≡ suc p) × (b ≤ p) × (p < rows)
fed_place b rows zero above le = absurd (omega (arith, above))
fed_place b rows (suc p) above le = (p, refl, omega (arith, above), omega (arith, le))

module _ (setup : Setup) (b t rows row : ℕ) (above : b < row) (below : row ≤ rows)
  where
    abbrev issued : ℕ
    issued = fed_under b t rows row (afters (setup_view setup).requests)

    pub early : (request : ℕ) → request ≤ t → issued < request → ⊥
    early request le less =
        let (p, is, from, to) = fed_place b rows row above below in
        let all = all_turned b t rows (afters (setup_view setup).requests) p from to in
        let all' : t ≤ issued =
        subst (λ (n : ℕ). t ≤ fed_under b t rows n (afters (setup_view setup).requests)) (sym is)
        all in
        omega (arith, all', le, less)

    pub too_many : (request : ℕ) → t < request → length (setup_view setup).requests < request →
        issued < request
    too_many request later past =
        let (p, is, from, to) = fed_place b rows row above below in
        let long =
        length-map (setup_view setup).requests (λ (request : Request). request.after) in
        let less =
        none_waits b t rows (afters (setup_view setup).requests) p (request - 1) from to
        (omega (arith, long, past)) (omega (arith, later)) in
        let one : request - 1 + 1 ≡ request = omega (arith, later) in
        subst (λ (n : ℕ). fed_under b t rows n (afters (setup_view setup).requests) < request)
        (sym is)
        (subst (λ (n : ℕ).
        fed_under b t rows (suc p) (afters (setup_view setup).requests) < n) one less)

    pub by_row : (request after : ℕ) → t < request →
        slice_get (afters (setup_view setup).requests) (request - 1) ≡ Some after →
        (issued < request) ↔ (row ≤ after)
    by_row request after later g =
        let (p, is, from, to) = fed_place b rows row above below in
        let both =
        waits_after b t rows (afters (setup_view setup).requests) p (request - 1) after 0 from to
        (rise 0 (setup_view setup).requests
        (accepted-order (job_view setup.job) setup.judged.accepted setup.accepted))
        (omega (arith, later)) g in
        let one : request - 1 + 1 ≡ request = omega (arith, later) in
        subst (λ (n : ℕ).
        (fed_under b t rows n (afters (setup_view setup).requests) < request) ↔ (n ≤ after))
        (sym is)
        (subst (λ (n : ℕ).
        (fed_under b t rows (suc p) (afters (setup_view setup).requests) < n) ↔ (suc p ≤ after))
        one both)
