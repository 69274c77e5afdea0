-- In journals that are tied to those of their senders every tuple was issued as the feed says of its row.
use Rattle.std.proofs.Common.{◌≡◌, ◌∙◌, ◌<◌, ◌+◌, ◌++◌, ◌==◌, ℕ, List, [], ◌∷◌, inl, inr, refl, sym, ap, arith, cond, length, Some, None, Option, slice_get}
use Rattle.std.proofs.lemmas.Bool.{eq-eqb, ne_eqb}
use Rattle.jobs.specs.JobView.{JobView}
use Rattle.operators.specs.Laws.{IsMadeOf}
use Rattle.operators.specs.Meaning.{step}
use Rattle.operators.proofs.OutputLemmas.{outputs_made}
use Rattle.sink_journal.specs.declared.journal.Entry.{Entry}
use Rattle.sink_journal.specs.declared.journal.Entry.TheVariants as entry
use Rattle.sink_journal.specs.declared.journal.Feed.{Feed}
use Rattle.sink_journal.specs.declared.journal.Feed.TheVariants as feed
use Rattle.tuple_trace.specs.Rows.{AreRows}
use Rattle.tuple_trace.specs.declared.row.Row.{Row}
use Rattle.tuple_trace.specs.declared.tuple.Item.TheVariants as item
use Rattle.tuple_trace.specs.declared.tuple.Tuple.{Tuple}
use Rattle.flow_model.specs.Begin.{Begin, view_at}
use Rattle.flow_model.specs.Feeding.{fed, fed_put, fed_puts, fed_tuple, row_numbered}
use Rattle.flow_model.specs.SetupView.{SetupView, Worker}
use Rattle.flow_model.specs.declared.topology.Lane.{Lane}
use Rattle.flow_model.specs.Replay.{StateView, Put, after, items_on, put_out, puts, items_sent, visit_at}
use Rattle.flow_model.specs.Requests.{afters}
use Rattle.flow_model.specs.Workers.{workers_in}
use Rattle.flow_model.proofs.ElementLemmas.{IsIn, in_cases, in_map, place_of_in}
use Rattle.flow_model.proofs.JobLemmas.{IsConnected}
use Rattle.flow_model.proofs.RootLemmas.{FeedsRise, feed_rises}
use Rattle.flow_model.proofs.RunLemmas.{row_is}
use Rattle.flow_model.proofs.SendingLemmas.{in_items, puts_come}
use Rattle.audit_laws.specs.Delivered.{feed_of}
use Rattle.audit_laws.specs.Drafted.{issued_before}
use Rattle.audit_laws.proofs.DraftLemmas.{IssuedRight}
use Rattle.audit_laws.proofs.EachTupleLemmas.{SendsEach, each_tuple}
use Rattle.audit_laws.proofs.ConservedLemmas.{IsConservedAt}

-- ---- what the feeder puts

-- a put of a rising feed carries a tuple of a row above the bound, issued as the feed says of the row
put_issued : (job : JobView) (rows : List Row) (k issued : ℕ) (feeds : List Feed) (p : Put) (t : Tuple) → AreRows rows → FeedsRise k feeds
    → IsIn p (fed_puts job rows issued feeds) → p.item ≡ item.Carry t → (k < t.row) × (t.issued ≡ issued_before t.row issued feeds)
put_issued job rows k issued [] p t are f h e = absurd h
put_issued job rows k issued (feed.Fed n ∷ more) p t are f h e =
    go (row_numbered rows n) refl h (λ i. later (put_issued job rows n issued more p t are f.1 i e))
  where
    later : (n < t.row) × (t.issued ≡ issued_before t.row issued more) → (k < t.row) × (t.issued ≡ cond (n == t.row) issued (issued_before t.row issued more))
    later r =
        let lt : n < t.row = r.0 in
        let up : k < n = f.0 in
        (omega arith, rw (ne_eqb n t.row (λ same. omega arith)) r.1)

    go : (o : Option Row) → row_numbered rows n ≡ o → IsIn p (fed_put job issued o ++ fed_puts job rows issued more)
        → (IsIn p (fed_puts job rows issued more) → (k < t.row) × (t.issued ≡ cond (n == t.row) issued (issued_before t.row issued more)))
        → (k < t.row) × (t.issued ≡ cond (n == t.row) issued (issued_before t.row issued more))
    go None g i later = later i
    go (Some row) g (inl q) later =
        let c : item.Carry (fed_tuple issued row) ≡ item.Carry t = sym (ap (λ (p : Put). p.item) q) ∙ e in
        let same : fed_tuple issued row ≡ t = cc in
        let number : t.row ≡ n = sym (ap (λ (t : Tuple). t.row) same) ∙ (row_is rows n row are g).numbered in
        let up : k < n = f.0 in
        (omega arith, rw (eq-eqb n t.row (sym number)) (sym (ap (λ (t : Tuple). t.issued) same)))
    go (Some row) g (inr i) later = later i
put_issued job rows k issued (feed.Issued r ∷ more) p t are f h e = put_issued job rows k (issued + 1) more p t are f h e
put_issued job rows k issued (feed.Stopped ∷ more) p t are f h e = put_issued job rows k issued more p t are f h e

-- ---- what a worker sends

-- a tuple that is sent is of a row that was met, issued like the tuple met
pub record IsSentOf (journal : List Entry) (t : Tuple) : Type 0 where
  pub lane : ℕ
  pub tuple : Tuple
  pub met : IsIn (entry.Met lane tuple) journal
  pub row : t.row ≡ tuple.row
  pub issued : t.issued ≡ tuple.issued

carried_put : (setup : SetupView) (who : Worker) (view : StateView) (x : Entry) (p : Put) (t : Tuple) → IsIn p (puts setup who view x) → p.item ≡ item.Carry t → IsSentOf (x ∷ []) t
carried_put setup who view (entry.Met l u) p t i e =
    let s = in_map (put_out setup.job who) p (step setup.job (visit_at who view) view.func view.counts u).1 i in
    let k = place_of_in s.0 (step setup.job (visit_at who view) view.func view.counts u).1 s.1 in
    let o : IsMadeOf setup.job.edges (visit_at who view) view.func u k.0 s.0 = outputs_made setup.job (visit_at who view) view.func view.counts u k.0 s.0 k.1 in
    let c : item.Carry s.0.tuple ≡ item.Carry t = sym (ap (λ (p : Put). p.item) s.2) ∙ e in
    let same : s.0.tuple ≡ t = cc in
    record {
      lane = l;
      tuple = u;
      met = inl refl;
      row = sym (ap (λ (t : Tuple). t.row) same) ∙ o.row;
      issued = sym (ap (λ (t : Tuple). t.issued) same) ∙ o.issued;
    }
carried_put setup who view (entry.Marked l r) p t i e = absurd i
carried_put setup who view (entry.Turned r) p t i e = let m = (puts_come setup who view (entry.Turned r) p i).2 in absurd (cc)
carried_put setup who view (entry.Ended l) p t i e = let m = puts_come setup who view (entry.Ended l) p i in absurd (cc)

carried_sent : (setup : SetupView) (who : Worker) (view : StateView) (lane : Lane) (xs : List Entry) (t : Tuple) → IsIn (item.Carry t) (items_sent setup who view lane xs) → IsSentOf xs t
carried_sent setup who view lane [] t i = absurd i
carried_sent setup who view lane (x ∷ xs) t i =
    elim (in_cases (item.Carry t) (items_on lane (puts setup who view x)) (items_sent setup who (after setup who view x) lane xs) i) [
      | inl a ↦
          let p = in_items lane (puts setup who view x) (item.Carry t) a in
          let r : IsSentOf (x ∷ []) t = carried_put setup who view x p.0 t p.1 (sym p.3) in
          record { lane = r.lane; tuple = r.tuple; met = first r.met; row = r.row; issued = r.issued }
      | inr b ↦
          let r : IsSentOf xs t = carried_sent setup who (after setup who view x) lane xs t b in
          record { lane = r.lane; tuple = r.tuple; met = inr r.met; row = r.row; issued = r.issued }
    ]
  where
    first : {y : Entry} → IsIn y (x ∷ []) → IsIn y (x ∷ xs)
    first (inl e) = inl e
    first (inr n) = absurd n

-- ---- all workers

module _ (begin : Begin) (setup : SetupView) (connected : IsConnected setup.job) (rows : List Row) (are : AreRows rows) (journals : List (List Entry))
    (conserved : (w : ℕ) (who : Worker) → slice_get (workers_in setup.job) w ≡ Some who → IsConservedAt begin setup rows journals w)
  where
    abbrev IsRight : Tuple → Type 0
    IsRight t = t.issued ≡ issued_before t.row begin.turned (feed_of begin setup rows)

    right_fed : (lane : Lane) (t : Tuple) → IsIn (item.Carry t) (fed setup.job rows begin.turned lane (feed_of begin setup rows)) → IsRight t
    right_fed lane t i =
        let p = in_items lane (fed_puts setup.job rows begin.turned (feed_of begin setup rows)) (item.Carry t) i in
        (put_issued setup.job rows begin.row begin.turned (feed_of begin setup rows) p.0 t are (feed_rises begin.row begin.turned (afters setup.requests) (length rows)) p.1 (sym p.3)).1

    right_sent : (who : Worker) (journal : List Entry) → SendsEach begin setup IsRight who journal
    right_sent who journal h counts lane t i =
        let k : IsSentOf journal t = carried_sent setup who (view_at setup begin.turned who counts) lane journal t i in
        k.issued ∙ (h k.lane k.tuple k.met ∙ ap (λ n. issued_before n begin.turned (feed_of begin setup rows)) (sym k.row))

    pub issued_right : (w : ℕ) (who : Worker) (journal : List Entry) → slice_get (workers_in setup.job) w ≡ Some who → slice_get journals w ≡ Some journal → IssuedRight begin.turned (feed_of begin setup rows) journal
    issued_right = each_tuple begin setup connected rows journals conserved IsRight right_fed (λ w who journal p j. right_sent who journal)
