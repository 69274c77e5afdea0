-- Which requests the feeder issues, and what it does in all.
use Rattle.std.proofs.Common.{◌≡◌, ◌<◌, ◌≤◌, ◌+◌, ◌-◌, ◌==◌, ℕ, zero, suc, List, [], ◌∷◌, ◌++◌}
use Rattle.std.proofs.Common.{inl, inr, Bool, false, cond, drop, min, Some, refl, sym, ap}
use Rattle.std.proofs.Common.{◌∙◌, arith, append_assoc}
use Rattle.std.specs.Prelude.{nat_le, slice_get}
use Rattle.std.proofs.lemmas.Bool.{cases_lt, le-leb, lt-leb, ne_eqb}
use Rattle.std.proofs.lemmas.List.{append-nil, drop_all}
use Rattle.std.proofs.lemmas.Option.{same_Some}
use Rattle.sink_journal.specs.declared.journal.Feed.{Feed}
use Rattle.sink_journal.specs.declared.journal.Feed.TheVariants as feed
use Rattle.versions.specs.declared.request.Request.{Request}
use Rattle.versions.specs.Kept.{AreInOrder}
use Rattle.flow_model.specs.Feeding.{feed_after, issued_after, issued_where}
use Rattle.flow_model.specs.Requests.{afters}
use Rattle.flow_model.proofs.FreshLemmas.{order_rises}
use Rattle.flow_model.proofs.IssueLemmas.{eqb_le, get-drop, issued-agree, issued-none}
use Rattle.flow_model.proofs.PlaceLemmas.{map_place}
use Rattle.flow_model.proofs.TopologyLemmas.{drop-at}
use Rattle.audit_check.specs.Issuing.{AreIssuedUpTo, issues}

-- ---- what is issued

-- the first ones fail the test
issued-skip : (test : ℕ → Bool) (rows r n : ℕ) (waits : List ℕ)
    → ((i a : ℕ) → slice_get waits i ≡ Some a → i < n → test (min a rows) ≡ false)
    → issued_where test rows r waits ≡ issued_where test rows (r + n) (drop n waits)
issued-skip test rows r zero waits h =
    let z : r ≡ r + 0 = omega arith in
    ap (λ (k : ℕ). issued_where test rows k waits) z
issued-skip test rows r (suc n) [] h = refl
issued-skip test rows r (suc n) (a ∷ more) h =
    let z : r + 1 + n ≡ r + suc n = omega arith in
    rw (h 0 a refl (omega arith)) (
    issued-skip test rows (r + 1) n more (λ i b e lt. h (suc i) b e (omega (arith, lt)))
    ∙ ap (λ (k : ℕ). issued_where test rows k (drop n more)) z)

drop-twice : (m n : ℕ) (waits : List ℕ) → drop n (drop m waits) ≡ drop (m + n) waits
drop-twice zero n waits = let z : n ≡ 0 + n = omega arith in ap (λ k. drop k waits) z
drop-twice (suc m) n [] =
    let none : List ℕ = [] in
    drop_all n none (omega arith) ∙ sym (drop_all (suc m + n) none (omega arith))
drop-twice (suc m) n (x ∷ xs) =
    let z : suc (m + n) ≡ suc m + n = omega arith in
    drop-twice m n xs ∙ ap (λ k. drop k (x ∷ xs)) z

-- the requests that wait for the next row are the next ones
issued_after-issues : (waits : List ℕ) (rows row turned issued : ℕ)
    → AreIssuedUpTo waits rows row turned issued
    → issued_after (row + 1) rows (turned + 1) (drop turned waits)
    ≡ issues waits rows (row + 1) issued
issued_after-issues waits rows row turned issued is =
    issued-skip (λ (a : ℕ). a == row + 1) rows (turned + 1) (issued - turned) (drop turned waits)
    (λ i a e lt. ne_eqb (min a rows) (row + 1) (λ q.
    let there = get-drop turned i a waits e in
    let h = is.past (turned + i) a there (omega arith) (omega (arith, lt)) in
    absurd (omega (arith, h, q))))
    ∙ (ap (λ (l : List ℕ). issued_where (λ (a : ℕ). a == row + 1) rows
    (turned + 1 + (issued - turned)) l) (drop-twice turned (issued - turned) waits)
    ∙ (ap (λ (k : ℕ). issued_where (λ (a : ℕ). a == row + 1) rows (turned + 1 + (issued - turned))
    (drop k waits)) here
    ∙ (ap (λ (k : ℕ). issued_where (λ (a : ℕ). a == row + 1) rows k (drop issued waits)) next
    ∙ issued-agree (λ (a : ℕ). a == row + 1) (λ (a : ℕ). nat_le a (row + 1)) rows (issued + 1)
    (drop issued waits) (λ i a e.
    let h = is.left (issued + i) a (get-drop issued i a waits e) (omega arith) in
    eqb_le (min a rows) (row + 1) (omega (arith, h))))))
  where
    here : turned + (issued - turned) ≡ issued
    here = omega (arith, is.more)

    next : turned + 1 + (issued - turned) ≡ issued + 1
    next = omega (arith, is.more)

-- ---- one request after another

-- the first request that waits for a later row ends the issuing
pub due_stops : (requests : List Request) (rows row issued place after : ℕ) → AreInOrder 0 requests
    → slice_get (afters requests) place ≡ Some after → row < min after rows → issued ≤ place
    → ((i a : ℕ) → slice_get (afters requests) i ≡ Some a → issued ≤ i → i < place
    → min a rows ≤ row) → AreIssuedUpTo (afters requests) rows row issued place
due_stops requests rows row issued place after order e lt le past = record {
  more = le;
  past = past;
  left = λ i a g ge.
      let p = map_place (λ (request : Request). request.after) requests place after e in
      let q = map_place (λ (request : Request). request.after) requests i a g in
      let h = order_rises 0 place i p.0 q.0 requests order ge p.1 q.1 in
      omega (arith, h, lt, p.2, q.2);
}

pub due_next : (waits : List ℕ) (rows row issued place after : ℕ)
    → slice_get waits place ≡ Some after → min after rows ≤ row
    → ((i a : ℕ) → slice_get waits i ≡ Some a → issued ≤ i → i < place → min a rows ≤ row)
    → (i a : ℕ) → slice_get waits i ≡ Some a → issued ≤ i → i < place + 1 → min a rows ≤ row
due_next waits rows row issued place after e le past i a g ge lt =
    elim (cases_lt i place) [
      | inl below ↦ past i a g ge below
      | inr above ↦
          let at : i ≡ place = omega (arith, lt, above) in
          let same : a ≡ after = same_Some a after (sym g ∙ (ap (slice_get waits) at ∙ e)) in
          omega (arith, le, same)
    ]

-- the steps of the feeder
pub issues-next : (waits : List ℕ) (rows row place after : ℕ) (done more all : List Feed)
    → slice_get waits place ≡ Some after → min after rows ≤ row
    → more ≡ done ++ feed.Issued (place + 1) ∷ [] → done ++ issues waits rows row place ≡ all
    → more ++ issues waits rows row (place + 1) ≡ all
issues-next waits rows row place after done more all e le grown h =
    ap (λ (l : List Feed). l ++ issues waits rows row (place + 1)) grown
    ∙ (append_assoc done (feed.Issued (place + 1) ∷ []) (issues waits rows row (place + 1))
    ∙ (ap (λ (b : Bool). done ++ cond b
    (feed.Issued (place + 1) ∷ issues waits rows row (place + 1))
    (issues waits rows row (place + 1))) (sym (le-leb (min after rows) row le))
    ∙ (ap (λ (l : List ℕ). done ++ issued_where (λ (a : ℕ). nat_le a row) rows (place + 1) l)
    (sym (drop-at waits place after e)) ∙ h)))

pub issues-stop : (waits : List ℕ) (rows row issued place : ℕ) (done all : List Feed)
    → AreIssuedUpTo waits rows row issued place → done ++ issues waits rows row place ≡ all
    → done ≡ all
issues-stop waits rows row issued place done all is h =
    sym (append-nil done)
    ∙ (ap (λ (l : List Feed). done ++ l)
    (sym (issued-none (λ (a : ℕ). nat_le a row) rows (place + 1) (drop place waits) (λ i a g.
    lt-leb (min a rows) row (is.left (place + i) a (get-drop place i a waits g) (omega arith)))))
    ∙ h)

-- ---- the whole feed

-- what was issued up to an earlier row, and what up to this one
pub issued_on : (waits : List ℕ) (rows row turned issued now : ℕ)
    → AreIssuedUpTo waits rows row turned issued → AreIssuedUpTo waits rows (row + 1) issued now
    → AreIssuedUpTo waits rows (row + 1) turned now
issued_on waits rows row turned issued now a b = record {
  more = let le = a.more in let ge = b.more in omega (arith, le, ge);
  past = λ i after g ge lt.
      elim (cases_lt i issued) [
        | inl below ↦ let h = a.past i after g ge below in omega (arith, h)
        | inr above ↦ b.past i after g above lt
      ];
  left = b.left;
}

-- the feed so far and still to come
pub feed_next : (waits : List ℕ) (rows row turned issued : ℕ) (old mid new all : List Feed)
    → row < rows → AreIssuedUpTo waits rows row turned issued
    → mid ≡ old ++ feed.Fed (row + 1) ∷ [] → new ≡ mid ++ issues waits rows (row + 1) issued
    → old ++ feed_after (drop turned waits) (turned + 1) row rows (rows - row) ≡ all
    → new ++ feed_after (drop turned waits) (turned + 1) (row + 1) rows (rows - (row + 1)) ≡ all
feed_next waits rows row turned issued old mid new all lt is m n h =
    let left : rows - row ≡ suc (rows - (row + 1)) = omega (arith, lt) in
    let rest : List Feed =
    feed_after (drop turned waits) (turned + 1) (row + 1) rows (rows - (row + 1)) in
    ap (λ (l : List Feed). l ++ rest)
    (n ∙ ap (λ (l : List Feed). l ++ issues waits rows (row + 1) issued) m)
    ∙ (append_assoc (old ++ feed.Fed (row + 1) ∷ []) (issues waits rows (row + 1) issued) rest
    ∙ (append_assoc old (feed.Fed (row + 1) ∷ []) (issues waits rows (row + 1) issued ++ rest)
    ∙ (ap (λ (l : List Feed). old ++ (feed.Fed (row + 1) ∷ (l ++ rest)))
    (sym (issued_after-issues waits rows row turned issued is))
    ∙ (ap (λ (x : ℕ). old ++ feed_after (drop turned waits) (turned + 1) row rows x) (sym left)
    ∙ h))))
