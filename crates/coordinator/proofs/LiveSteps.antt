-- What a step of a live feeder keeps.
use Rattle.std.proofs.Common.{◌≡◌, ◌≢◌, ◌⊎◌, ◌∙◌, ◌+◌, ◌-◌, ◌<◌, ◌≤◌, ℕ, suc, List, [], ◌∷◌, ◌++◌, inl, inr, refl, sym, subst, ap, false, add-one, arith, length, min, Some, slice_get, append-nil}
use Rattle.std.specs.Prelude.{Contains, replicate}
use Rattle.std.proofs.lemmas.List.{length-append}
use Rattle.sink_journal.specs.declared.journal.Feed.{Feed}
use Rattle.sink_journal.specs.declared.journal.Feed.TheVariants.{Fed, Issued, Stopped}
use Rattle.tuple_trace.specs.declared.row.Row.{Row}
use Rattle.flow_model.specs.Begin.{Begin}
use Rattle.flow_model.specs.SetupView.{SetupView}
use Rattle.flow_model.specs.Requests.{afters}
use Rattle.flow_model.proofs.ElementLemmas.{IsIn, contains_of_in, in_cases, in_of_contains}
use Rattle.coordinator.specs.Boxes.{LastAtLeast}
use Rattle.coordinator.specs.Feeding.{IsFeeding, issue_rows, issued_in}
use Rattle.coordinator.specs.Live.{AreHeard, Hears, IsFromFirst, fed_in, released_rows}
use Rattle.coordinator.specs.Steps.{IsAhead, IsReached, Steps}
use Rattle.coordinator.specs.Views.{FeederIs}
use Rattle.coordinator.specs.declared.feeding.FeedTurn.{FeedTurn}
use Rattle.coordinator.specs.declared.feeding.FeedTurn.TheVariants.{Done, Idle, Moved, NoMemory}
use Rattle.coordinator.proofs.Keeping.{keeps, law_boxes}
use Rattle.coordinator.proofs.LiveLemmas.{at_released, fed_in-append, issue_rows-append, numbered_fed, numbered_issued}
use Rattle.coordinator.proofs.Telling.{issued_told}
use Rattle.coordinator.proofs.Loading.{heard_more, heard_same, last_kept, shown_released}
use Rattle.coordinator.proofs.Waiting.{ahead_plain, law_due, left_of, not_before_next, plain}

-- ---- all steps

rows_as : (setup : SetupView) (rows : List Row) (old new : FeederIs) → issue_rows 0 new.feeds ≡ issue_rows 0 old.feeds → new.issued ≡ old.issued → plain setup rows new ≡ plain setup rows old
rows_as setup rows old new e i = ap (λ l. l ++ replicate (length setup.requests - new.issued) (length rows)) e ∙ ap (λ k. issue_rows 0 old.feeds ++ replicate (length setup.requests - k) (length rows)) i

nothing_more : (feeds : List Feed) (e : Feed) → issue_rows (0 + fed_in feeds) (e ∷ []) ≡ [] → issue_rows 0 (feeds ++ e ∷ []) ≡ issue_rows 0 feeds
nothing_more feeds e none = issue_rows-append 0 feeds (e ∷ []) ∙ (ap (λ l. issue_rows 0 feeds ++ l) none ∙ append-nil (issue_rows 0 feeds))

module _ (setup : SetupView) (rows : List Row) (xs : List ℕ) where
  -- a step that isn't the issue of a request leaves the rows that the requests wait for
  plain_kept : (old new : FeederIs) (turn : FeedTurn) → Steps setup xs rows old new turn → ((r : ℕ) → new.feeds ≢ old.feeds ++ Issued r ∷ []) → plain setup rows new ≡ plain setup rows old
  plain_kept old new turn (inl h) n = ap (plain setup rows) h.1
  plain_kept old new Moved (inr (inl h)) n = absurd (n (old.issued + 1) (ap (λ f. f.feeds) h.2.3))
  plain_kept old new Idle (inr (inl h)) n = ap (plain setup rows) h.2.4
  plain_kept old new Done (inr (inl h)) n = absurd h.2
  plain_kept old new NoMemory (inr (inl h)) n = ap (plain setup rows) h.2
  plain_kept old new Moved (inr (inr (inl h))) n = rows_as setup rows old new (ap (λ f. issue_rows 0 f.feeds) h.3.6 ∙ nothing_more old.feeds (Fed (old.row + 1)) refl) (ap (λ f. f.issued) h.3.6)
  plain_kept old new Idle (inr (inr (inl h))) n = ap (plain setup rows) h.3.8
  plain_kept old new Done (inr (inr (inl h))) n = absurd h.3
  plain_kept old new NoMemory (inr (inr (inl h))) n = ap (plain setup rows) h.3
  plain_kept old new Moved (inr (inr (inr h))) n = ap (plain setup rows) h.3.2
  plain_kept old new Idle (inr (inr (inr h))) n = ap (plain setup rows) h.3.4
  plain_kept old new Done (inr (inr (inr h))) n = rows_as setup rows old new (ap (λ f. issue_rows 0 f.feeds) h.3.1 ∙ nothing_more old.feeds Stopped refl) (ap (λ f. f.issued) h.3.1)
  plain_kept old new NoMemory (inr (inr (inr h))) n = ap (plain setup rows) h.3

  -- a feeder that began at the first row
  pub first_kept : (old new : FeederIs) (turn : FeedTurn) → Steps setup xs rows old new turn → old.issued ≡ issued_in old.feeds → IsFromFirst old → IsFromFirst new
  first_kept old new turn (inl h) is first = subst IsFromFirst (sym h.1) first
  first_kept old new Moved (inr (inl h)) is first =
      subst IsFromFirst (sym h.2.3) (record {
        row_first = first.row_first;
        turned_first = first.turned_first;
        row_is = (let a = first.row_is in let b = fed_in-append old.feeds (Issued (old.issued + 1) ∷ []) in omega (arith, a, b));
        numbered = λ s. numbered_issued 0 0 (old.issued + 1) old.feeds (first.numbered s) (omega (arith, is));
      })
  first_kept old new Idle (inr (inl h)) is first = subst IsFromFirst (sym h.2.4) (first_as first)
    where
      first_as : IsFromFirst old → IsFromFirst (record old { boxes = new.boxes })
      first_as first = record { row_first = first.row_first; turned_first = first.turned_first; row_is = first.row_is; numbered = first.numbered }
  first_kept old new Done (inr (inl h)) is first = absurd h.2
  first_kept old new NoMemory (inr (inl h)) is first = subst IsFromFirst (sym h.2) first
  first_kept old new Moved (inr (inr (inl h))) is first =
      subst IsFromFirst (sym h.3.6) (record {
        row_first = first.row_first;
        turned_first = first.turned_first;
        row_is = (let a = first.row_is in let b = fed_in-append old.feeds (Fed (old.row + 1) ∷ []) in omega (arith, a, b));
        numbered = λ s. numbered_fed 0 0 (old.row + 1) old.feeds (first.numbered s) (let a = first.row_is in omega (arith, a));
      })
  first_kept old new Idle (inr (inr (inl h))) is first =
      subst IsFromFirst (sym h.3.8) (record { row_first = first.row_first; turned_first = first.turned_first; row_is = first.row_is; numbered = first.numbered })
  first_kept old new Done (inr (inr (inl h))) is first = absurd h.3
  first_kept old new NoMemory (inr (inr (inl h))) is first = subst IsFromFirst (sym h.3) first
  first_kept old new Moved (inr (inr (inr h))) is first =
      subst IsFromFirst (sym h.3.2) (record { row_first = first.row_first; turned_first = first.turned_first; row_is = first.row_is; numbered = first.numbered })
  first_kept old new Idle (inr (inr (inr h))) is first =
      subst IsFromFirst (sym h.3.4) (record { row_first = first.row_first; turned_first = first.turned_first; row_is = first.row_is; numbered = first.numbered })
  first_kept old new Done (inr (inr (inr h))) is first =
      subst IsFromFirst (sym h.3.1) (record {
        row_first = first.row_first;
        turned_first = first.turned_first;
        row_is = (let a = first.row_is in let b = fed_in-append old.feeds (Stopped ∷ []) in omega (arith, a, b));
        numbered = λ s. absurd (cc);
      })
  first_kept old new NoMemory (inr (inr (inr h))) is first = subst IsFromFirst (sym h.3) first

  -- what a step adds to the feed: nothing, a request, a row that is left, or the end
  abbrev Adds : FeederIs → FeederIs → Type 0
  Adds old new =
      (new.feeds ≡ old.feeds) × (new.row ≡ old.row)
      ⊎ ((IsReached xs (length rows) old.row old.issued × (new.feeds ≡ old.feeds ++ Issued (old.issued + 1) ∷ []) × (new.row ≡ old.row))
      ⊎ (((old.row < length rows) × (new.feeds ≡ old.feeds ++ Fed (old.row + 1) ∷ []) × (new.row ≡ old.row + 1))
      ⊎ ((length rows ≤ old.row) × (new.feeds ≡ old.feeds ++ Stopped ∷ []) × (new.row ≡ old.row))))

  adds : (old new : FeederIs) (turn : FeedTurn) → Steps setup xs rows old new turn → Adds old new
  adds old new turn (inl h) = inl (ap (λ f. f.feeds) h.1, ap (λ f. f.row) h.1)
  adds old new Moved (inr (inl h)) = inr (inl (h.1, ap (λ f. f.feeds) h.2.3, ap (λ f. f.row) h.2.3))
  adds old new Idle (inr (inl h)) = inl (ap (λ f. f.feeds) h.2.4, ap (λ f. f.row) h.2.4)
  adds old new Done (inr (inl h)) = absurd h.2
  adds old new NoMemory (inr (inl h)) = inl (ap (λ f. f.feeds) h.2, ap (λ f. f.row) h.2)
  adds old new Moved (inr (inr (inl h))) = inr (inr (inl (h.2, ap (λ f. f.feeds) h.3.6, ap (λ f. f.row) h.3.6)))
  adds old new Idle (inr (inr (inl h))) = inl (ap (λ f. f.feeds) h.3.8, ap (λ f. f.row) h.3.8)
  adds old new Done (inr (inr (inl h))) = absurd h.3
  adds old new NoMemory (inr (inr (inl h))) = inl (ap (λ f. f.feeds) h.3, ap (λ f. f.row) h.3)
  adds old new Moved (inr (inr (inr h))) = inl (ap (λ f. f.feeds) h.3.2, ap (λ f. f.row) h.3.2)
  adds old new Idle (inr (inr (inr h))) = inl (ap (λ f. f.feeds) h.3.4, ap (λ f. f.row) h.3.4)
  adds old new Done (inr (inr (inr h))) = inr (inr (inr (h.2, ap (λ f. f.feeds) h.3.1, ap (λ f. f.row) h.3.1)))
  adds old new NoMemory (inr (inr (inr h))) = inl (ap (λ f. f.feeds) h.3, ap (λ f. f.row) h.3)

not_both : (xs : List ℕ) (rows row issued : ℕ) → IsAhead xs rows row issued → IsReached xs rows row issued → ⊥
not_both xs rows row issued ahead (a, g, le) = let lt = ahead a g in absurd (omega (arith, lt, le))

snoc_same : (feeds : List Feed) (r n : ℕ) → feeds ++ Issued n ∷ [] ≡ feeds → ⊥
snoc_same feeds r n e = let a = ap (λ (l : List Feed). length l) e in let b = length-append feeds (Issued n ∷ []) in absurd (omega (arith, a, b))

-- a step issues no request, or it issues the next one
feeds_are : (setup : SetupView) (rows : List Row) (xs : List ℕ) (old new : FeederIs) (turn : FeedTurn) → Steps setup xs rows old new turn
    → ((r : ℕ) → new.feeds ≢ old.feeds ++ Issued r ∷ [])
    ⊎ ((old.stopped ≡ false) × IsReached xs (length rows) old.row old.issued × (new ≡ record old { feeds = old.feeds ++ Issued (suc old.issued) ∷ []; issued = suc old.issued; boxes = new.boxes }))
feeds_are setup rows xs old new turn (inl h) = inl (λ r e. snoc_same old.feeds r r (sym e ∙ ap (λ f. f.feeds) h.1))
feeds_are setup rows xs old new Moved (inr (inl h)) =
    inr (h.0, h.1, rw add-one at h.2.3)
feeds_are setup rows xs old new Idle (inr (inl h)) = inl (λ r e. snoc_same old.feeds r r (sym e ∙ ap (λ f. f.feeds) h.2.4))
feeds_are setup rows xs old new Done (inr (inl h)) = absurd h.2
feeds_are setup rows xs old new NoMemory (inr (inl h)) = inl (λ r e. snoc_same old.feeds r r (sym e ∙ ap (λ f. f.feeds) h.2))
feeds_are setup rows xs old new turn (inr (inr (inl h))) =
    inl (λ r e. not_both xs (length rows) old.row old.issued h.1 (issued_told setup xs rows old new turn (inr (inr (inl h))) r e).0)
feeds_are setup rows xs old new turn (inr (inr (inr h))) =
    inl (λ r e. not_both xs (length rows) old.row old.issued h.1 (issued_told setup xs rows old new turn (inr (inr (inr h))) r e).0)

-- ---- the law after a step

module _ (setup : SetupView) (begin : Begin) (rows : List Row) (released : ℕ) where
  abbrev pub waiting : List ℕ
  waiting = released_rows released (length rows) (afters setup.requests)

  module _ (old new : FeederIs) (first : IsFromFirst old) (law : IsFeeding setup begin (plain setup rows old) rows old) where
    ahead_yet : IsAhead waiting (length rows) old.row old.issued → IsAhead (plain setup rows old) (length rows) old.row old.issued
    ahead_yet ahead = ahead_plain setup begin rows (plain setup rows old) old first law released refl ahead

    not_issued : (turn : FeedTurn) → Steps setup (plain setup rows old) rows old new turn → ((r : ℕ) → new.feeds ≢ old.feeds ++ Issued r ∷ []) → IsFeeding setup begin (plain setup rows new) rows new
    not_issued turn s n =
        subst (λ zs. IsFeeding setup begin zs rows new) (sym (plain_kept setup rows (plain setup rows old) old new turn s n)) (keeps setup begin (plain setup rows old) rows old new turn s law)

    law_of : {f : FeederIs} → new ≡ f → IsFeeding setup begin (plain setup rows f) rows f
        → IsFeeding setup begin (plain setup rows new) rows new
    law_of e kept = subst (λ f. IsFeeding setup begin (plain setup rows f) rows f) (sym e) kept

    pub feeding_kept : (turn : FeedTurn) → Steps setup waiting rows old new turn → IsFeeding setup begin (plain setup rows new) rows new
    feeding_kept turn (inl h) = law_of h.1 law
    feeding_kept Moved (inr (inl h)) =
        law_of (rw add-one at h.2.3)
        (law_due setup begin rows (plain setup rows old) old first law released h.0 h.1 new.boxes
        refl (rw (add-one, law.begun.turned_begun) at h.2.2))
    feeding_kept Idle (inr (inl h)) =
        law_of h.2.4 (law_boxes setup begin (plain setup rows old) rows old new.boxes law
        (rw law.begun.turned_begun at h.2.3))
    feeding_kept Done (inr (inl h)) = absurd h.2
    feeding_kept NoMemory (inr (inl h)) = law_of h.2 law
    feeding_kept turn (inr (inr (inl h))) =
        let s : Steps setup (plain setup rows old) rows old new turn = inr (inr (inl (h.0, ahead_yet h.1, h.2, h.3))) in
        not_issued turn s (λ r e. not_both (plain setup rows old) (length rows) old.row old.issued (ahead_yet h.1) (issued_told setup (plain setup rows old) rows old new turn s r e).0)
    feeding_kept turn (inr (inr (inr h))) =
        let s : Steps setup (plain setup rows old) rows old new turn = inr (inr (inr (h.0, ahead_yet h.1, h.2, h.3))) in
        not_issued turn s (λ r e. not_both (plain setup rows old) (length rows) old.row old.issued (ahead_yet h.1) (issued_told setup (plain setup rows old) rows old new turn s r e).0)

    -- there is a request for each number that is issued
    pub exist_kept : (turn : FeedTurn) → Steps setup waiting rows old new turn → old.issued ≤ length setup.requests → new.issued ≤ length setup.requests
    exist_kept turn (inl h) le = let e = ap (λ f. f.issued) h.1 in omega (arith, le, e)
    exist_kept Moved (inr (inl h)) le =
        let lt = left_of setup begin rows (plain setup rows old) old first law released h.0 h.1 in
        let e = ap (λ f. f.issued) h.2.3 in
        omega (arith, lt, e)
    exist_kept Idle (inr (inl h)) le = let e = ap (λ f. f.issued) h.2.4 in omega (arith, le, e)
    exist_kept Done (inr (inl h)) le = absurd h.2
    exist_kept NoMemory (inr (inl h)) le = let e = ap (λ f. f.issued) h.2 in omega (arith, le, e)
    exist_kept Moved (inr (inr (inl h))) le = let e = ap (λ f. f.issued) h.3.6 in omega (arith, le, e)
    exist_kept Idle (inr (inr (inl h))) le = let e = ap (λ f. f.issued) h.3.8 in omega (arith, le, e)
    exist_kept Done (inr (inr (inl h))) le = absurd h.3
    exist_kept NoMemory (inr (inr (inl h))) le = let e = ap (λ f. f.issued) h.3 in omega (arith, le, e)
    exist_kept Moved (inr (inr (inr h))) le = let e = ap (λ f. f.issued) h.3.2 in omega (arith, le, e)
    exist_kept Idle (inr (inr (inr h))) le = let e = ap (λ f. f.issued) h.3.4 in omega (arith, le, e)
    exist_kept Done (inr (inr (inr h))) le = let e = ap (λ f. f.issued) h.3.1 in omega (arith, le, e)
    exist_kept NoMemory (inr (inr (inr h))) le = let e = ap (λ f. f.issued) h.3 in omega (arith, le, e)

    -- none of the rows is before the one that the setup asks for
    abbrev NotBefore : FeederIs → Type 0
    NotBefore f = (place after waited : ℕ) → slice_get (afters setup.requests) place ≡ Some after → slice_get (plain setup rows f) place ≡ Some waited → min after (length rows) ≤ waited

    pub not_before_kept : (turn : FeedTurn) → Steps setup waiting rows old new turn → NotBefore old → NotBefore new
    not_before_kept turn s before = go (feeds_are setup rows waiting old new turn s)
      where
        go : (((r : ℕ) → new.feeds ≢ old.feeds ++ Issued r ∷ [])) ⊎ ((old.stopped ≡ false) × IsReached waiting (length rows) old.row old.issued × (new ≡ record old { feeds = old.feeds ++ Issued (suc old.issued) ∷ []; issued = suc old.issued; boxes = new.boxes })) → NotBefore new
        go (inl n) = λ place after waited g h. before place after waited g (ap (λ (l : List ℕ). slice_get l place) (sym (plain_kept setup rows waiting old new turn s n)) ∙ h)
        go (inr h) = subst NotBefore (sym h.2) (not_before_next setup begin rows (plain setup rows old) old first law released h.0 h.1 new.boxes before)

    -- what is issued before the last row is released
    pub released_kept : (turn : FeedTurn) (requests : ℕ) (lo ln : List ℕ) → Steps setup waiting rows old new turn → Hears requests released lo ln
        → (old.row < length rows → (r : ℕ) → Contains old.feeds (Issued r) → LastAtLeast r lo) → new.row < length rows → (r : ℕ) → Contains new.feeds (Issued r) → LastAtLeast r ln
    released_kept turn requests lo ln s hears old_released lt r c = go (adds setup rows waiting old new turn s)
      where
        earlier : old.row < length rows → IsIn (Issued r) old.feeds → LastAtLeast r ln
        earlier lt i = last_kept requests released lo ln r hears (old_released lt r (contains_of_in (Issued r) old.feeds i))

        go : Adds setup rows waiting old new → LastAtLeast r ln
        go (inl h) = earlier (let e = h.1 in omega (arith, lt, e)) (subst (IsIn (Issued r)) h.0 (in_of_contains (Issued r) new.feeds c))
        go (inr (inl h)) =
            let below : old.row < length rows = (let e = h.2 in omega (arith, lt, e)) in
            elim (in_cases (Issued r) old.feeds (Issued (old.issued + 1) ∷ []) (subst (IsIn (Issued r)) h.1 (in_of_contains (Issued r) new.feeds c))) [
              | inl i ↦ earlier below i
              | inr j ↦ elim j [
                | inl e ↦ issued_now below h.0 (same_issue e)
                | inr none ↦ absurd none
              ]
            ]
          where
            same_issue : Issued r ≡ Issued (old.issued + 1) → r ≡ old.issued + 1
            same_issue e = cc

            issued_now : old.row < length rows → IsReached waiting (length rows) old.row old.issued → r ≡ old.issued + 1 → LastAtLeast r ln
            issued_now below (b, g, le) is =
                let at = at_released released (length rows) (afters setup.requests) old.issued b g in
                elim at.2 [
                  | inl p ↦ shown_released requests released lo ln r hears (omega (arith, is)) (let lt = p.0 in omega (arith, is, lt))
                  | inr p ↦ (let e = p.1 in absurd (omega (arith, e, le, below)))
                ]
        go (inr (inr (inl h))) =
            elim (in_cases (Issued r) old.feeds (Fed (old.row + 1) ∷ []) (subst (IsIn (Issued r)) h.1 (in_of_contains (Issued r) new.feeds c))) [
              | inl i ↦ earlier h.0 i
              | inr j ↦ elim j [ inl e ↦ absurd (cc) | inr none ↦ absurd none ]
            ]
        go (inr (inr (inr h))) = (let le = h.0 in let e = h.2 in absurd (omega (arith, le, e, lt)))

    pub heard_kept : (turn : FeedTurn) (requests : ℕ) (lo ln : List ℕ) → Steps setup waiting rows old new turn → Hears requests released lo ln
        → (old.row < length rows → (r : ℕ) → Contains old.feeds (Issued r) → LastAtLeast r lo) → AreHeard lo old.feeds → AreHeard ln new.feeds
    heard_kept turn requests lo ln s hears old_released heard = go (adds setup rows waiting old new turn s)
      where
        kept : (r : ℕ) → LastAtLeast r lo → LastAtLeast r ln
        kept r last = last_kept requests released lo ln r hears last

        go : Adds setup rows waiting old new → AreHeard ln new.feeds
        go (inl h) = heard_same lo ln old.feeds new.feeds heard kept h.0
        go (inr (inl h)) = subst (AreHeard ln) (sym h.1) (heard_more lo ln old.feeds (Issued (old.issued + 1)) heard kept (λ n e. absurd (cc)))
        go (inr (inr (inl h))) =
            subst (AreHeard ln) (sym h.1) (heard_more lo ln old.feeds (Fed (old.row + 1)) heard kept (λ n e r i. kept r (old_released h.0 r (contains_of_in (Issued r) old.feeds i))))
        go (inr (inr (inr h))) = subst (AreHeard ln) (sym h.1) (heard_more lo ln old.feeds Stopped heard kept (λ n e. absurd (cc)))
