-- Which requests are issued after a row, and what the feeder does.
use Rattle.std.proofs.Common.{◌≡◌, ◌<◌, ◌≤◌, ◌+◌, ◌-◌, ◌==◌, ℕ, zero, suc, List, [], ◌∷◌, ◌++◌, inl, inr, Bool, false, cond, length, drop, min, Some, refl, sym, ap, ◌∙◌, arith, append_assoc}
use Rattle.std.specs.Prelude.{nat_le, slice_get}
use Rattle.std.proofs.lemmas.Bool.{cases_lt, le-leb, lt-leb, ne_eqb}
use Rattle.std.proofs.lemmas.List.{append-nil, drop_all}
use Rattle.std.proofs.lemmas.Option.{same_Some, slice_get-get_or, slice_get_within}
use Rattle.sink_journal.specs.declared.journal.Feed.{Feed}
use Rattle.sink_journal.specs.declared.journal.Feed.TheVariants as feed
use Rattle.versions.specs.declared.request.Request.{Request}
use Rattle.versions.specs.Kept.{AreInOrder}
use Rattle.flow_model.specs.Feeding.{feed_after, feed_from, issued_after, issued_where}
use Rattle.flow_model.specs.SetupView.{SetupView}
use Rattle.flow_model.specs.Requests.{afters}
use Rattle.flow_model.proofs.FreshLemmas.{order_rises}
use Rattle.flow_model.proofs.IssueLemmas.{eqb_le, get-drop, issued-agree, issued-none}
use Rattle.flow_model.proofs.PlaceLemmas.{map_place}
use Rattle.flow_replay.specs.inner.SoFar.{AreIssuedBefore, issues}
use Rattle.flow_model.proofs.TopologyLemmas.{drop-at}

-- ---- the order of requests

pub waits-rise : (row : ℕ) (requests : List Request) (i j a b : ℕ) → AreInOrder row requests →
    i ≤ j → slice_get (afters requests) i ≡ Some a → slice_get (afters requests) j ≡ Some b → a ≤ b
waits-rise row requests i j a b order le ea eb =
    let p = map_place (λ (request : Request). request.after) requests i a ea in
    let q = map_place (λ (request : Request). request.after) requests j b eb in
    let h = order_rises row i j p.0 q.0 requests order le p.1 q.1 in
    omega (arith, h, p.2, q.2)

-- ---- what is issued

-- the first ones fail the test
issued-skip : (test : ℕ → Bool) (rows r n : ℕ) (waits : List ℕ) → n ≤ length waits → ((i a : ℕ) →
    slice_get waits i ≡ Some a → i < n → test (min a rows) ≡ false)
    → issued_where test rows r waits ≡ issued_where test rows (r + n) (drop n waits)
issued-skip test rows r zero waits le h = let z : r
    ≡ r + 0 = omega arith in ap (λ (k : ℕ). issued_where test rows k waits) z
issued-skip test rows r (suc n) [] le h = absurd (omega (arith, le))
issued-skip test rows r (suc n) (a ∷ more) le h =
    let z : r + 1 + n ≡ r + suc n = omega arith in
    rw (h 0 a refl (omega arith)) (issued-skip test rows (r + 1) n more (omega (arith, le)) (λ i b e
    lt. h (suc i) b e (omega (arith, lt))) ∙ ap (λ (k : ℕ). issued_where test rows k (drop n
    more)) z)

-- the requests that wait for a row are the next ones
pub issued_after-issues : (setup : SetupView) (rows row issued : ℕ) →
    AreIssuedBefore (afters setup.requests) rows row issued →
    issued_after row rows 1 (afters setup.requests) ≡ issues setup rows row issued
issued_after-issues setup rows row issued is =
    issued-skip (λ (a : ℕ). a == row) rows 1 issued (afters setup.requests) is.few (λ i a e lt.
    ne_eqb (min a rows) row (let h = is.past i a e lt in λ q. absurd (omega (arith, h, q))))
    ∙ (issued-agree (λ (a : ℕ). a == row) (λ (a : ℕ). nat_le a row) rows (1 + issued) (drop issued
    (afters setup.requests))
    (λ i a e. eqb_le (min a rows) row (is.left (issued + i) a (get-drop issued i a (afters
    setup.requests) e) (omega arith)))
    ∙ (let z : 1 + issued ≡ issued + 1 = omega arith in ap (λ (k : ℕ). issued_where (λ (a : ℕ).
    nat_le a row) rows k (drop issued (afters setup.requests))) z))

-- ---- one request after another

-- so far, at a place in the list
pub record AreDueUpTo (waits : List ℕ) (rows row place : ℕ) : Type 0 where
  pub few : place ≤ length waits
  pub past : (i after : ℕ) → slice_get waits i ≡ Some after → i < place → min after rows ≤ row
  pub left : (i after : ℕ) → slice_get waits i ≡ Some after → place ≤ i → row ≤ min after rows

pub due_next : (waits : List ℕ) (rows row place after : ℕ) → slice_get waits place ≡ Some after →
    min after rows ≤ row → AreDueUpTo waits rows row place → AreDueUpTo waits rows row (place + 1)
due_next waits rows row place after e le is = record {
  few = let w = slice_get_within waits place after e in omega (arith, w);
  past = λ i a g lt. elim (cases_lt i place) [
    | inl below ↦ is.past i a g below
    | inr above ↦
        let at : i ≡ place = omega (arith, lt, above) in
        let same : a ≡ after = same_Some a after (sym g ∙ (ap (slice_get waits) at ∙ e)) in
        omega (arith, le, same)
  ];
  left = λ i a g ge. is.left i a g (omega (arith, ge));
}

-- the first request that waits for a later row ends the issuing
pub due_stops : (requests : List Request) (rows row place after : ℕ) → AreInOrder 0 requests →
    slice_get (afters requests) place ≡ Some after → row < min after rows →
    AreDueUpTo (afters requests) rows row place
    → AreIssuedBefore (afters requests) rows (row + 1) place
due_stops requests rows row place after order e lt is = record {
  few = is.few;
  past = λ i a g below. let h = is.past i a g below in omega (arith, h);
  left = λ i a g ge. let h = waits-rise 0 requests place i after a order ge e g in omega (
    arith,
    h,
    lt,
  );
}

pub due_ends : (waits : List ℕ) (rows row place : ℕ) → length waits ≤ place →
    AreDueUpTo waits rows row place → AreIssuedBefore waits rows (row + 1) place
due_ends waits rows row place end is = record {
  few = is.few;
  past = λ i a g below. let h = is.past i a g below in omega (arith, h);
  left = λ i a g ge. let w = slice_get_within waits i a g in absurd (omega (arith, w, ge, end));
}

-- the steps of the feeder
pub issues-next : (setup : SetupView) (rows row place after : ℕ) (done more all : List Feed) →
    slice_get (afters setup.requests) place ≡ Some after → min after rows ≤ row → more
    ≡ done ++ feed.Issued (place + 1) ∷ []
    → done ++ issues setup rows row place ≡ all → more ++ issues setup rows row (place + 1) ≡ all
issues-next setup rows row place after done more all e le grown h =
    ap (λ (l : List Feed). l ++ issues setup rows row (place + 1)) grown
    ∙ (append_assoc done (feed.Issued (place + 1) ∷ []) (issues setup rows row (place + 1))
    ∙ (ap (λ (b : Bool). done ++ cond b (feed.Issued (place + 1) ∷ issues setup rows row (place +
    1)) (issues setup rows row (place + 1))) (sym (le-leb (min after rows) row le))
    ∙ (ap (λ (l : List ℕ). done ++ issued_where (λ (a : ℕ). nat_le a row) rows (place + 1) l) (sym
    (drop-at (afters setup.requests) place after e)) ∙ h)))

pub issues-stop : (setup : SetupView) (rows row place after : ℕ) (done all : List Feed) →
    AreInOrder 0 setup.requests → slice_get (afters setup.requests) place ≡ Some after →
    row < min after rows
    → done ++ issues setup rows row place ≡ all → done ≡ all
issues-stop setup rows row place after done all order e lt h =
    sym (append-nil done)
    ∙ (ap (λ (l : List Feed). done ++ l)
    (sym (issued-none (λ (a : ℕ). nat_le a row) rows (place + 1) (drop place (afters
    setup.requests))
    (λ i a g. lt-leb (min a rows) row (let q = waits-rise 0 setup.requests place (place + i) after a
    order (omega arith) e (get-drop place i a (afters setup.requests) g) in omega (
      arith,
      q,
      lt,
    )))))
    ∙ h)

pub issues-end : (setup : SetupView) (rows row place : ℕ) (done all : List Feed) →
    length (afters setup.requests) ≤ place → done ++ issues setup rows row place ≡ all → done ≡ all
issues-end setup rows row place done all end h =
    sym (append-nil done) ∙ (ap (λ (l : List ℕ). done ++ issued_where (λ (a : ℕ). nat_le a row) rows
    (place + 1) l) (sym (drop_all place (afters setup.requests) end)) ∙ h)

-- ---- the whole feed

-- after the last row all are issued
pub all_issued : (waits : List ℕ) (rows issued : ℕ) →
    AreIssuedBefore waits rows (rows + 1) issued → issued ≡ length waits
all_issued waits rows issued is = elim (cases_lt issued (length waits)) [
  | inl lt ↦ let h = is.left issued _ (slice_get-get_or waits issued 0 lt) (omega arith) in absurd
      (omega (arith, h))
  | inr ge ↦ let f = is.few in omega (arith, f, ge)
]

-- the feed so far and still to come
pub feed_first : (setup : SetupView) (rows : ℕ) (old new : List Feed) → old ≡ [] → new
    ≡ old ++ issues setup rows 0 0 → new ++ feed_after (afters setup.requests) 1 0 rows (rows - 0) ≡
    feed_from 0 0 (afters setup.requests) rows
feed_first setup rows old new none grown = ap (λ (l : List Feed). l ++ feed_after (afters
    setup.requests) 1 0 rows (rows - 0)) (grown ∙ ap (λ (l : List Feed). l ++ issues setup rows 0 0)
    none)

pub feed_next : (setup : SetupView) (rows k issued : ℕ) (old mid new all : List Feed) → k < rows →
    AreIssuedBefore (afters setup.requests) rows (k + 1) issued → mid ≡ old ++ feed.Fed (k + 1) ∷ []
    → new ≡ mid ++ issues setup rows (k + 1) issued →
    old ++ feed_after (afters setup.requests) 1 k rows (rows - k) ≡ all →
    new ++ feed_after (afters setup.requests) 1 (k + 1) rows (rows - (k + 1)) ≡ all
feed_next setup rows k issued old mid new all lt is m n h =
    let left : rows - k ≡ suc (rows - (k + 1)) = omega (arith, lt) in
    let rest : List Feed = feed_after (afters setup.requests) 1 (k + 1) rows (rows - (k + 1)) in
    ap (λ (l : List Feed). l ++ rest) (n ∙ ap (λ (l : List Feed). l ++ issues setup rows (k + 1)
    issued) m)
    ∙ (append_assoc (old ++ feed.Fed (k + 1) ∷ []) (issues setup rows (k + 1) issued) rest
    ∙ (append_assoc old (feed.Fed (k + 1) ∷ []) (issues setup rows (k + 1) issued ++ rest)
    ∙ (ap (λ (l : List Feed). old ++ (feed.Fed (k + 1) ∷ (l ++ rest))) (sym (issued_after-issues
    setup rows (k + 1) issued is))
    ∙ (ap (λ (x : ℕ). old ++ feed_after (afters setup.requests) 1 k rows x) (sym left) ∙ h))))

pub feed_last : (setup : SetupView) (rows k : ℕ) (old new all : List Feed) → rows ≤ k → new
    ≡ old ++ feed.Stopped ∷ [] → old ++ feed_after (afters setup.requests) 1 k rows (rows - k)
    ≡ all → new ≡ all
feed_last setup rows k old new all end n h =
    let z : rows - k ≡ 0 = omega (arith, end) in
    n ∙ (ap (λ (x : ℕ). old ++ feed_after (afters setup.requests) 1 k rows x) (sym z) ∙ h)
