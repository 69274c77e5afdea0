-- The rows that the requests of a live feeder wait for.
use Rattle.std.proofs.Common.{◌≡◌, ◌∙◌, ◌+◌, ◌-◌, ◌<◌, ◌≤◌, ℕ, suc, List, [], ◌∷◌, ◌++◌, inl, inr, refl, sym, subst, ap, true, false, arith, length, min, Some, slice_get, append_assoc}
use Rattle.std.specs.Prelude.{replicate}
use Rattle.std.proofs.lemmas.List.{length-append, length-map}
use Rattle.std.proofs.lemmas.Option.{same_Some, slice_get_within}
use Rattle.sink_journal.specs.declared.journal.Feed.TheVariants.{Issued}
use Rattle.tuple_trace.specs.declared.row.Row.{Row}
use Rattle.versions.specs.declared.request.Request.{Request}
use Rattle.flow_model.specs.Begin.{Begin}
use Rattle.flow_model.specs.Feeding.{feed_from}
use Rattle.flow_model.specs.SetupView.{SetupView}
use Rattle.flow_model.specs.Requests.{afters}
use Rattle.coordinator.specs.Boxes.{AreBoxes}
use Rattle.coordinator.specs.Feeding.{AreEnded, AreRising, IsFeeding, issue_rows, issued_in, waits}
use Rattle.coordinator.specs.Live.{IsFromFirst, fed_in, released_rows}
use Rattle.coordinator.specs.Steps.{IsAhead, IsReached}
use Rattle.coordinator.specs.Views.{BoxesIs, FeederIs}
use Rattle.coordinator.proofs.Keeping.{law_beside, law_issue}
use Rattle.coordinator.proofs.ListLemmas.{also_in}
use Rattle.coordinator.proofs.LiveLemmas.{at_released, at_swapped, at_waiting, fed_within, feed_of_rows, get_past, issue_rows-append, length_issue_rows, length_released, length_replicate, rising_last, rising_rest}

-- the rows that the requests wait for, at a feeder that began at the first row
abbrev pub plain : SetupView → List Row → FeederIs → List ℕ
plain setup rows f = issue_rows 0 f.feeds ++ replicate (length setup.requests - f.issued) (length rows)

pub waits_from : (setup : SetupView) (rows : List Row) (f : FeederIs) → f.begin_row ≡ 0
    → f.begin_turned ≡ 0 → waits true setup (length rows) f ≡ plain setup rows f
waits_from setup rows f no_row none_turned = rw (none_turned, no_row) refl

-- ---- the law of a feeder that is seen with other loads, and of one whose requests wait for other rows

module _ (setup : SetupView) (begin : Begin) (rows : List Row) where
  pub law_loads : (xs : List ℕ) (f : FeederIs) (loads : List ℕ) → IsFeeding setup begin xs rows f → IsFeeding setup begin xs rows (record f { loads = loads })
  law_loads xs f loads law =
      law_beside setup begin xs rows f f.boxes f.held loads law law.boxes law.held

  pub law_unloads : (xs : List ℕ) (f : FeederIs) (loads : List ℕ) → IsFeeding setup begin xs rows (record f { loads = loads }) → IsFeeding setup begin xs rows f
  law_unloads xs f loads law = law_loads xs (record f { loads = loads }) f.loads law

  law_rows : (xs ys : List ℕ) (f : FeederIs) → IsFeeding setup begin xs rows f → f.stopped ≡ false → AreRising 0 ys → length ys ≡ length xs
      → feed_from begin.row begin.turned ys (length rows) ≡ f.feeds ++ feed_from f.row f.issued ys (length rows) → IsFeeding setup begin ys rows f
  law_rows xs ys f law s rise as_many going = record {
    begun = law.begun;
    course = record {
      in_order = rise;
      issued_within = omega (arith, law.course.issued_within, as_many);
      counted = law.course.counted;
      going = λ _. going;
      stopped = λ t. absurd (cc);
    };
    lanes = law.lanes;
    ended =
        subst (λ n. AreEnded n (length rows) (length f.outs) f.row f.issued f.ended f.stopped)
        (sym as_many) law.ended;
    boxes = law.boxes;
    held = law.held;
  }

  -- ---- the rows that the requests wait for, at a feeder that began at the first row

  pub waits_plain : (f : FeederIs) → IsFromFirst f → waits true setup (length rows) f ≡ plain setup rows f
  waits_plain f first = waits_from setup rows f first.row_first first.turned_first

  as_many_afters : length (afters setup.requests) ≡ length setup.requests
  as_many_afters = length-map setup.requests (λ (request : Request). request.after)

  module _ (xs : List ℕ) (f : FeederIs) (first : IsFromFirst f) (law : IsFeeding setup begin xs rows f) where
    row_none : begin.row ≡ 0
    row_none = sym law.begun.row_begun ∙ first.row_first

    turned_none : begin.turned ≡ 0
    turned_none = sym law.begun.turned_begun ∙ first.turned_first

    pub issued_is : f.issued ≡ issued_in f.feeds
    issued_is = omega (arith, law.course.counted, turned_none)

    length_plain : length (issue_rows 0 f.feeds) ≡ f.issued
    length_plain = length_issue_rows 0 f.feeds ∙ sym issued_is

    rows_within : f.stopped ≡ false → f.row ≤ length rows
    rows_within s =
        fed_within f.issued (length rows) xs f.feeds f.row first.row_is
        (rw (row_none, turned_none) at (law.course.going s))

    -- the feed so far goes on as well if the later requests wait for other rows
    goes_on : (rest : List ℕ) → f.stopped ≡ false → AreRising f.row rest
        → feed_from begin.row begin.turned (issue_rows 0 f.feeds ++ rest) (length rows) ≡ f.feeds ++ feed_from f.row f.issued (issue_rows 0 f.feeds ++ rest) (length rows)
    goes_on rest s rise =
        let ys : List ℕ = issue_rows 0 f.feeds ++ rest in
        let n : ℕ = length rows in
        let row : 0 + fed_in f.feeds ≡ f.row = (let e = first.row_is in omega (arith, e)) in
        let issued : 0 + issued_in f.feeds ≡ f.issued = (let e = issued_is in omega (arith, e)) in
        let within : 0 + fed_in f.feeds ≤ n = (let le = rows_within s in omega (arith, le, row)) in
        let all = feed_of_rows 0 0 n f.feeds [] rest (first.numbered s) within refl (subst (λ r. AreRising r rest) (sym row) rise) in
        rw (row_none, turned_none) (rw (row, issued) at all)

    -- ---- a request that is due

    module _ (released : ℕ) (s : f.stopped ≡ false) (due : IsReached (released_rows released (length rows) (afters setup.requests)) (length rows) f.row f.issued) where
      pub left_of : f.issued < length setup.requests
      left_of =
          let at = at_released released (length rows) (afters setup.requests) f.issued due.0 due.1 in
          let lt = slice_get_within (afters setup.requests) f.issued at.0 at.1 in
          let e = as_many_afters in omega (arith, lt, e)

      -- the row of the next request is fed
      row_reached : (after : ℕ) → slice_get (afters setup.requests) f.issued ≡ Some after → min after (length rows) ≤ f.row
      row_reached after g =
          let at = at_released released (length rows) (afters setup.requests) f.issued due.0 due.1 in
          let same : at.0 ≡ after = same_Some at.0 after (sym at.1 ∙ g) in
          let le = due.2 in
          elim at.2 [ inl p ↦ (let e = p.1 in omega (arith, e, same, le)) | inr p ↦ (let e = p.1 in omega (arith, e, le)) ]

      abbrev pub behind : List ℕ
      behind = replicate (length setup.requests - suc f.issued) (length rows)

      plain_next : (b : BoxesIs) → issue_rows 0 f.feeds ++ (f.row ∷ behind) ≡ plain setup rows (record f { feeds = f.feeds ++ Issued (suc f.issued) ∷ []; issued = suc f.issued; boxes = b })
      plain_next b =
          let row : f.row ≡ 0 + fed_in f.feeds = (let e = first.row_is in omega (arith, e)) in
          ap (λ r. issue_rows 0 f.feeds ++ (r ∷ behind)) row
          ∙ (sym (append_assoc (issue_rows 0 f.feeds) ((0 + fed_in f.feeds) ∷ []) behind)
          ∙ ap (λ l. l ++ behind) (sym (issue_rows-append 0 f.feeds (Issued (suc f.issued) ∷ []))))

      pub law_due : (b : BoxesIs) → xs ≡ plain setup rows f → AreBoxes setup begin.turned (suc f.issued) b
          → IsFeeding setup begin (plain setup rows (record f { feeds = f.feeds ++ Issued (suc f.issued) ∷ []; issued = suc f.issued; boxes = b })) rows (record f { feeds = f.feeds ++ Issued (suc f.issued) ∷ []; issued = suc f.issued; boxes = b })
      law_due b are boxes =
          let n : ℕ = length rows in
          let ys : List ℕ = issue_rows 0 f.feeds ++ (f.row ∷ behind) in
          let within = rows_within s in
          let rise : AreRising f.row (f.row ∷ behind) = (omega arith, rising_last f.row n (length setup.requests - suc f.issued) within) in
          let row : 0 + fed_in f.feeds ≡ f.row = (let e = first.row_is in omega (arith, e)) in
          let rise_all : AreRising 0 ys = rising_rest 0 0 f.feeds (f.row ∷ behind) (omega arith) (subst (λ r. AreRising r (f.row ∷ behind)) (sym row) rise) in
          let as_many : length ys ≡ length xs =
          (let a = length-append (issue_rows 0 f.feeds) (f.row ∷ behind) in
          let b = length-append (issue_rows 0 f.feeds) (replicate (length setup.requests - f.issued) n) in
          let c = length_replicate (length setup.requests - suc f.issued) n in
          let d = length_replicate (length setup.requests - f.issued) n in
          let e = ap (λ (l : List ℕ). length l) are in
          let lt = left_of in
          omega (arith, a, b, c, d, e, lt)) in
          let law' : IsFeeding setup begin ys rows f = law_rows xs ys f law s rise_all as_many (goes_on (f.row ∷ behind) s rise) in
          let here : slice_get ys f.issued ≡ Some f.row = get_past (issue_rows 0 f.feeds) f.issued f.row behind length_plain in
          subst (λ zs. IsFeeding setup begin zs rows (record f { feeds = f.feeds ++ Issued (suc f.issued) ∷ []; issued = suc f.issued; boxes = b })) (plain_next b)
          (law_issue setup begin ys rows f b law' s (f.row, here, omega arith) boxes)

      -- none of the rows is before the one that the setup asks for
      pub not_before_next : (b : BoxesIs) → ((place after waited : ℕ) → slice_get (afters setup.requests) place ≡ Some after → slice_get (plain setup rows f) place ≡ Some waited → min after (length rows) ≤ waited)
          → (place after waited : ℕ) → slice_get (afters setup.requests) place ≡ Some after
          → slice_get (plain setup rows (record f { feeds = f.feeds ++ Issued (suc f.issued) ∷ []; issued = suc f.issued; boxes = b })) place ≡ Some waited → min after (length rows) ≤ waited
      not_before_next b before place after waited g h =
          elim (at_swapped (issue_rows 0 f.feeds) f.row (length rows) behind place waited (ap (λ l. slice_get l place) (plain_next b) ∙ h)) [
            | inl p ↦ (let le = row_reached after (ap (slice_get (afters setup.requests)) (sym (p.0 ∙ length_plain)) ∙ g) in let e = p.1 in omega (arith, le, e))
            | inr old ↦ before place after waited g (ap (λ (l : List ℕ). slice_get l place) one_more_waits ∙ old)
          ]
        where
          one_more_waits : plain setup rows f ≡ issue_rows 0 f.feeds ++ (length rows ∷ behind)
          one_more_waits =
              let lt = left_of in
              let k : length setup.requests - f.issued ≡ suc (length setup.requests - suc f.issued) = omega (arith, lt) in
              ap (λ k. issue_rows 0 f.feeds ++ replicate k (length rows)) k

    -- ---- no request that is due

    pub ahead_plain : (released : ℕ) → xs ≡ plain setup rows f → IsAhead (released_rows released (length rows) (afters setup.requests)) (length rows) f.row f.issued → IsAhead (plain setup rows f) (length rows) f.row f.issued
    ahead_plain released are ahead a g =
        let n : ℕ = length rows in
        let here : slice_get (plain setup rows f) (length (issue_rows 0 f.feeds)) ≡ Some a = ap (slice_get (plain setup rows f)) length_plain ∙ g in
        let at = at_waiting (issue_rows 0 f.feeds) (length setup.requests - f.issued) n a here in
        let lt : f.issued < length (afters setup.requests) = (let some = at.1 in let e = as_many_afters in omega (arith, some, e)) in
        let there = also_in (afters setup.requests) (released_rows released n (afters setup.requests)) f.issued (length_released released n (afters setup.requests)) lt in
        let below = ahead there.0 there.1 in
        let e = at.0 in
        omega (arith, below, e)
