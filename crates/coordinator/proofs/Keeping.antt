-- Each step keeps the law.
use Rattle.std.proofs.Common.{◌≡◌, ◌≢◌, ◌∙◌, ◌+◌, ◌<◌, ◌≤◌, ℕ, suc, List, [], ◌∷◌, ◌++◌, Bool}
use Rattle.std.proofs.Common.{Option, None, Some, inl, inr, refl, sym, subst, ap, true, false, cond}
use Rattle.std.proofs.Common.{nat_lt, add-one, arith, length, set, slice_get, append-nil}
use Rattle.std.proofs.lemmas.Bool.{cases_lt}
use Rattle.std.proofs.lemmas.Bool.Decides.{nat_tests}
use Rattle.std.proofs.lemmas.Option.{same_Some, slice_get_within}
use Rattle.flow_dag.specs.declared.graph.Graph.{Graph}
use Rattle.jobs.specs.JobView.{JobView}
use Rattle.sink_journal.specs.declared.journal.Feed.{Feed}
use Rattle.sink_journal.specs.declared.journal.Feed.TheVariants.{Fed, Issued, Stopped}
use Rattle.tuple_trace.specs.declared.row.Row.{Row}
use Rattle.tuple_trace.specs.declared.tuple.Item.{Item}
use Rattle.tuple_trace.specs.declared.tuple.Tuple.{Tuple}
use Rattle.tuple_trace.specs.declared.tuple.Item.TheVariants.{Last}
use Rattle.versions.proofs.WaitingLemmas.{not_below}
use Rattle.flow_model.specs.Begin.{Begin}
use Rattle.flow_model.specs.Feeding.{fed, fed_puts, fed_tuple}
use Rattle.flow_model.specs.Lanes.{lane_of}
use Rattle.flow_model.specs.SetupView.{SetupView}
use Rattle.flow_model.specs.declared.topology.Lane.{Lane}
use Rattle.coordinator.specs.Boxes.{AreBoxes}
use Rattle.coordinator.specs.Views.{BoxesIs, FeederIs}
use Rattle.lane_core.specs.Lane.{EndpointIs}
use Rattle.coordinator.specs.Feeding.{AreEnded, AreOuts, IsFeeding, IsNextHeld, IsOut, end_at}
use Rattle.coordinator.specs.Feeding.{fed_lanes, issued_in}
use Rattle.coordinator.specs.Steps.{IsReached, IsAhead, Steps, fed_item}
use Rattle.coordinator.specs.declared.feeding.FeedTurn.{FeedTurn}
use Rattle.coordinator.specs.declared.feeding.FeedTurn.TheVariants.{Done, Idle, Moved, NoMemory}
use Rattle.coordinator.proofs.ListLemmas.{Pairs, length_set, one_more, pairs_set}
use Rattle.coordinator.proofs.Rests.{all_issued, later_behind, rest_feed, rest_issue, rest_stop}
use Rattle.coordinator.proofs.Sents.{fed_more, fed_same, issued_append, one_place, row_else, row_here}

lt_test : (a b : ℕ) → a < b → nat_lt a b ≡ true
lt_test a b p = grind (arith, nat_tests)

pub no_end : (k e : ℕ) → e ≤ k → end_at k e ≡ []
no_end k e q = ap (λ t. cond t (Last ∷ []) []) (not_below k e q)

pub an_end : (k e : ℕ) → k < e → end_at k e ≡ Last ∷ []
an_end k e q = ap (λ t. cond t (Last ∷ []) []) (lt_test k e q)

-- the end of another lane
end_kept : (k e : ℕ) → e ≢ k → end_at k e ≡ end_at k (suc e)
end_kept k e n = elim (cases_lt k e) [
  | inl lt ↦ an_end k e lt ∙ sym (an_end k (suc e) (omega (arith, lt)))
  | inr ge ↦ no_end k e ge ∙ sym (no_end k (suc e) (omega (arith, n, ge)))
]

-- ---- the lanes that are ended

-- none is ended
pub none_ended : {requests rows outs row issued ended : ℕ} {stopped : Bool} → ended ≤ 0
    → stopped ≡ false → AreEnded requests rows outs row issued ended stopped
none_ended none s = record {
  ended_within = omega (arith, none);
  ending = λ p. absurd (omega (arith, none, p));
  all_ended = λ t. absurd (cc);
}

-- none is while a request or a row is left
none_yet : {requests rows outs row issued ended : ℕ} {stopped : Bool}
    → AreEnded requests rows outs row issued ended stopped
    → (issued ≡ requests → rows ≤ row → ⊥) → ended ≤ 0
none_yet {ended = ended} are left =
    elim (cases_lt 0 ended) [ inl p ↦ absurd (left (are.ending p).1 (are.ending p).0) | inr q ↦ q ]

-- ---- the endpoints

module _ (job : JobView) (turned : ℕ) (rows : List Row) (graph : Graph) where
  -- what is sent on a lane by a feed
  abbrev sent : List Feed → ℕ → ℕ → Lane → List Item
  sent feeds ended place lane = fed job rows turned lane feeds ++ end_at place ended

  -- where the lane isn't ended
  sent_open : (feeds : List Feed) (ended place : ℕ) (lane : Lane) → ended ≤ place
      → sent feeds ended place lane ≡ fed job rows turned lane feeds
  sent_open feeds ended place lane le =
      ap (λ l. fed job rows turned lane feeds ++ l) (no_end place ended le)
      ∙ append-nil (fed job rows turned lane feeds)

  -- an entry that puts nothing on any lane
  outs_same : (feeds : List Feed) (e : Feed) (ended : ℕ) (outs : List EndpointIs)
      → ((n : ℕ) → fed_puts job rows n (e ∷ []) ≡ [])
      → AreOuts job turned rows graph feeds ended outs
      → AreOuts job turned rows graph (feeds ++ e ∷ []) ended outs
  outs_same feeds e ended outs none are = record {
    outs_are = are.outs_are;
    outs = λ k lane out g h.
        let o = are.outs k lane out g h in
        let same = fed_same job rows turned lane feeds e none in
        record {
          endpoint = o.endpoint;
          sent_is = o.sent_is ∙ ap (λ l. l ++ end_at k ended) (sym same);
        };
  }

  -- one endpoint changes
  outs_set : (feeds more : List Feed) (ended later k : ℕ) (outs : List EndpointIs)
      (o : EndpointIs) (items : List Item) (stalls : ℕ) → slice_get outs k ≡ Some o
      → ((j : ℕ) (lane : Lane) → k ≢ j → slice_get (fed_lanes job) j ≡ Some lane
      → sent feeds ended j lane ≡ sent more later j lane)
      → ((lane : Lane) → slice_get (fed_lanes job) k ≡ Some lane
      → o.items ≡ sent feeds ended k lane → items ≡ sent more later k lane)
      → AreOuts job turned rows graph feeds ended outs
      → AreOuts job turned rows graph more later
      (set outs k (record o { items = items; stalls = stalls }))
  outs_set feeds more ended later k outs o items stalls h other here are =
      let q : EndpointIs = record o { items = items; stalls = stalls } in
      let pairs : Pairs (IsOut job turned rows graph more later) (fed_lanes job) (set outs k q) =
      pairs_set (IsOut job turned rows graph feeds ended) (IsOut job turned rows graph more later)
      (fed_lanes job) outs k o q (are.outs_are, are.outs) h
      (λ j lane out n a w. record {
        endpoint = w.endpoint;
        sent_is = w.sent_is ∙ other j lane n a;
      })
      (λ lane a w. record { endpoint = w.endpoint; sent_is = here lane a w.sent_is }) in
      record { outs_are = pairs.0; outs = pairs.1 }

  -- a row is fed, while no lane is ended
  outs_feed : (feeds : List Feed) (ended issued i k : ℕ) (row : Row) (found : Lane)
      (outs : List EndpointIs) (o : EndpointIs) → issued ≡ turned + issued_in feeds → ended ≤ 0
      → slice_get rows i ≡ Some row → lane_of job None row.source 0 row.tuple ≡ Some found
      → slice_get (fed_lanes job) k ≡ Some found → slice_get outs k ≡ Some o
      → AreOuts job turned rows graph feeds ended outs
      → AreOuts job turned rows graph (feeds ++ Fed (suc i) ∷ []) ended
      (set outs k (record o { items = o.items ++ fed_item issued row ∷ [] }))
  outs_feed feeds ended issued i k row found outs o is none g by l h are =
      outs_set feeds (feeds ++ Fed (suc i) ∷ []) ended ended k outs o
      (o.items ++ fed_item issued row ∷ []) o.stalls h
      (λ j lane n a. ap (λ t. t ++ end_at j ended) (elsewhere lane
      (λ e. n (one_place job k j lane (l ∙ ap Some e) a))))
      (λ lane a was. here lane (by ∙ (sym l ∙ a)) was) are
    where
      elsewhere : (lane : Lane) → (found ≡ lane → ⊥)
          → fed job rows turned lane feeds ≡ fed job rows turned lane (feeds ++ Fed (suc i) ∷ [])
      elsewhere lane n =
          let none = row_else job rows (turned + issued_in feeds) i row found lane g by n in
          sym (fed_more job rows turned lane feeds (Fed (suc i))
          ∙ (ap (λ t. fed job rows turned lane feeds ++ t) none
          ∙ append-nil (fed job rows turned lane feeds)))

      here : (lane : Lane) → lane_of job None row.source 0 row.tuple ≡ Some lane
          → o.items ≡ sent feeds ended k lane
          → o.items ++ fed_item issued row ∷ [] ≡ sent (feeds ++ Fed (suc i) ∷ []) ended k lane
      here lane to was =
          let le : ended ≤ k = omega (arith, none) in
          let one = row_here job rows (turned + issued_in feeds) i row lane g to in
          ap (λ t. t ++ fed_item issued row ∷ []) (was ∙ sent_open feeds ended k lane le)
          ∙ (ap (λ n. fed job rows turned lane feeds ++ fed_item n row ∷ []) is
          ∙ (ap (λ t. fed job rows turned lane feeds ++ t) (sym one)
          ∙ (sym (fed_more job rows turned lane feeds (Fed (suc i)))
          ∙ sym (sent_open (feeds ++ Fed (suc i) ∷ []) ended k lane le))))

  -- the next lane is ended
  outs_end : (feeds : List Feed) (k : ℕ) (outs : List EndpointIs) (o : EndpointIs)
      → slice_get outs k ≡ Some o → AreOuts job turned rows graph feeds k outs
      → AreOuts job turned rows graph feeds (suc k)
      (set outs k (record o { items = o.items ++ Last ∷ [] }))
  outs_end feeds k outs o h =
      outs_set feeds feeds k (suc k) k outs o (o.items ++ Last ∷ []) o.stalls h
      (λ j lane n a. ap (λ t. fed job rows turned lane feeds ++ t) (end_kept j k n))
      (λ lane a was. ap (λ t. t ++ Last ∷ []) (was ∙ sent_open feeds k k lane (omega arith))
      ∙ ap (λ t. fed job rows turned lane feeds ++ t) (sym (an_end k (suc k) (omega arith))))

module _ (setup : SetupView) (begin : Begin) (xs : List ℕ) (rows : List Row) where
  -- ---- the issue of a request

  pub law_issue : (f : FeederIs) (b : BoxesIs) → IsFeeding setup begin xs rows f → f.stopped ≡ false → IsReached xs (length rows) f.row f.issued
      → AreBoxes setup begin.turned (suc f.issued) b
      → IsFeeding setup begin xs rows (record f { feeds = f.feeds ++ Issued (suc f.issued) ∷ []; issued = suc f.issued; boxes = b })
  law_issue f b law s due boxes =
      let e : Feed = Issued (suc f.issued) in
      let left = slice_get_within xs f.issued due.0 due.1 in
      record {
        begun = law.begun;
        course = record {
          in_order = law.course.in_order;
          issued_within = left;
          counted = omega (arith, law.course.counted, issued_append f.feeds (e ∷ []));
          going = λ _. one_more f.feeds (law.course.going s)
              (rest_issue xs (length rows) f.row f.issued due.0 due.1 due.2);
          stopped = λ t. absurd (cc);
        };
        lanes = outs_same setup.job begin.turned rows law.begun.graph f.feeds e f.ended f.outs
            (λ n. refl) law.lanes;
        ended = none_ended (none_yet law.ended (λ all _. omega (arith, all, left))) s;
        boxes = boxes;
        held = λ t row h g.
            ap (λ (z : Tuple). record z { issued = suc f.issued }) (law.held t row h g);
      }

  -- ---- a row

  pub law_feed : (f : FeederIs) (row : Row) (k : ℕ) (found : Lane) (o : EndpointIs) → IsFeeding setup begin xs rows f → f.stopped ≡ false → IsAhead xs (length rows) f.row f.issued → f.row < length rows
      → slice_get rows f.row ≡ Some row → lane_of setup.job None row.source 0 row.tuple ≡ Some found → slice_get (fed_lanes setup.job) k ≡ Some found → slice_get f.outs k ≡ Some o
      → IsFeeding setup begin xs rows (record f { feeds = f.feeds ++ Fed (suc f.row) ∷ []; row = suc f.row; outs = set f.outs k (record o { items = o.items ++ fed_item f.issued row ∷ [] }); held = None })
  law_feed f row k found o law s undue lt g by l h =
      let none = none_yet law.ended (λ _ le. omega (arith, le, lt)) in
      let later = later_behind xs 0 (length rows) f.row f.issued law.course.in_order undue in
      record {
        begun = law.begun;
        course = record {
          in_order = law.course.in_order;
          issued_within = law.course.issued_within;
          counted = omega (arith, law.course.counted, issued_append f.feeds (Fed (suc f.row) ∷ []));
          going = λ _. one_more f.feeds (law.course.going s)
              (rest_feed xs (length rows) f.row f.issued lt later);
          stopped = λ t. absurd (cc);
        };
        lanes = outs_feed setup.job begin.turned rows law.begun.graph f.feeds f.ended f.issued
            f.row k row found f.outs o law.course.counted none g by l h law.lanes;
        ended = none_ended none s;
        boxes = law.boxes;
        held = λ t next held there. absurd (cc);
      }

  -- ---- a lane's end

  pub law_end : (f : FeederIs) (o : EndpointIs) → IsFeeding setup begin xs rows f → f.stopped ≡ false → IsAhead xs (length rows) f.row f.issued → length rows ≤ f.row → slice_get f.outs f.ended ≡ Some o
      → IsFeeding setup begin xs rows (record f { outs = set f.outs f.ended (record o { items = o.items ++ Last ∷ [] }); ended = suc f.ended })
  law_end f o law s undue le h =
      let q : EndpointIs = record o { items = o.items ++ Last ∷ [] } in
      let all = all_issued xs (length rows) f.row f.issued le law.course.issued_within undue in
      let within = slice_get_within f.outs f.ended o h in
      record {
        begun = law.begun;
        course = law.course;
        lanes = outs_end setup.job begin.turned rows law.begun.graph f.feeds f.ended f.outs o h
            law.lanes;
        ended = record {
          ended_within = omega (arith, length_set f.outs f.ended q, within);
          ending = λ p. (le, all);
          all_ended = λ t. absurd (cc);
        };
        boxes = law.boxes;
        held = law.held;
      }

  -- ---- the end of the feed

  pub law_stop : (f : FeederIs) → IsFeeding setup begin xs rows f → f.stopped ≡ false → IsAhead xs (length rows) f.row f.issued → length rows ≤ f.row → f.ended ≡ length f.outs
      → IsFeeding setup begin xs rows (record f { feeds = f.feeds ++ Stopped ∷ []; stopped = true })
  law_stop f law s undue le e =
      let all = all_issued xs (length rows) f.row f.issued le law.course.issued_within undue in
      let stop = rest_stop xs (length rows) f.row f.issued le all in
      record {
        begun = law.begun;
        course = record {
          in_order = law.course.in_order;
          issued_within = law.course.issued_within;
          counted = omega (arith, law.course.counted, issued_append f.feeds (Stopped ∷ []));
          going = λ t. absurd (cc);
          stopped = λ _.
              sym (one_more f.feeds (law.course.going s) stop
              ∙ append-nil (f.feeds ++ Stopped ∷ []));
        };
        lanes = outs_same setup.job begin.turned rows law.begun.graph f.feeds Stopped f.ended
            f.outs (λ n. refl) law.lanes;
        ended = record {
          ended_within = law.ended.ended_within;
          ending = law.ended.ending;
          all_ended = λ _. e;
        };
        boxes = law.boxes;
        held = law.held;
      }

  -- ---- what waits

  pub law_full : (f : FeederIs) (k n : ℕ) (o : EndpointIs) → IsFeeding setup begin xs rows f → slice_get f.outs k ≡ Some o → IsFeeding setup begin xs rows (record f { outs = set f.outs k (record o { stalls = n }) })
  law_full f k n o law h = record {
    begun = law.begun;
    course = law.course;
    lanes = outs_set setup.job begin.turned rows law.begun.graph f.feeds f.feeds f.ended f.ended k
        f.outs o o.items n h (λ j lane m a. refl) (λ lane a was. was) law.lanes;
    ended = subst (λ outs. AreEnded (length xs) (length rows) outs f.row f.issued f.ended f.stopped)
        (sym (length_set f.outs k (record o { stalls = n }))) law.ended;
    boxes = law.boxes;
    held = law.held;
  }

  -- the boxes change, the tuple that is held, or the loads
  pub law_beside : (f : FeederIs) (b : BoxesIs) (held : Option Tuple) (loads : List ℕ)
      → IsFeeding setup begin xs rows f → AreBoxes setup begin.turned f.issued b
      → IsNextHeld rows f.row f.issued held
      → IsFeeding setup begin xs rows (record f { boxes = b; held = held; loads = loads })
  law_beside f b held loads law boxes next = record {
    begun = law.begun;
    course = law.course;
    lanes = law.lanes;
    ended = law.ended;
    boxes = boxes;
    held = next;
  }

  pub law_boxes : (f : FeederIs) (b : BoxesIs) → IsFeeding setup begin xs rows f → AreBoxes setup begin.turned f.issued b → IsFeeding setup begin xs rows (record f { boxes = b })
  law_boxes f b law boxes = law_beside f b f.held f.loads law boxes law.held

  -- a row that waits is held
  pub law_held : (f : FeederIs) (row : Row) → IsFeeding setup begin xs rows f → slice_get rows f.row ≡ Some row → IsFeeding setup begin xs rows (record f { held = Some (fed_tuple f.issued row) })
  law_held f row law by =
      let held : Option Tuple = Some (fed_tuple f.issued row) in
      law_beside f f.boxes held f.loads law law.boxes (λ t other h g.
      let t' : fed_tuple f.issued row ≡ t = same_Some (fed_tuple f.issued row) t h in
      let r : row ≡ other = same_Some row other (sym by ∙ g) in
      subst (λ (z : Tuple). record z { issued = f.issued } ≡ fed_tuple f.issued other) t'
      (ap (fed_tuple f.issued) r))

  -- ---- all together

  law_of : {f new : FeederIs} → new ≡ f → IsFeeding setup begin xs rows f
      → IsFeeding setup begin xs rows new
  law_of e law = subst (IsFeeding setup begin xs rows) (sym e) law

  pub keeps : (old new : FeederIs) (answer : FeedTurn) → Steps setup xs rows old new answer → IsFeeding setup begin xs rows old → IsFeeding setup begin xs rows new
  keeps old new answer (inl h) law = law_of h.1 law
  keeps old new Moved (inr (inl h)) law =
      law_of (rw add-one at h.2.3) (law_issue old new.boxes law h.0 h.1
      (rw (add-one, law.begun.turned_begun) at h.2.2))
  keeps old new Idle (inr (inl h)) law =
      law_of h.2.4 (law_boxes old new.boxes law (rw law.begun.turned_begun at h.2.3))
  keeps old new Done (inr (inl h)) law = absurd h.2
  keeps old new NoMemory (inr (inl h)) law = law_of h.2 law
  keeps old new Moved (inr (inr (inl h))) law =
      law_of (rw add-one at h.3.6) (law_feed old h.3.0 h.3.1 h.3.4.0 h.3.2 law h.0 h.1 h.2 h.3.3
      h.3.4.1 h.3.4.2 h.3.5)
  keeps old new Idle (inr (inr (inl h))) law =
      let o : EndpointIs = record h.3.2 { stalls = h.3.3 } in
      law_of h.3.8 (law_held (record old { outs = set old.outs h.3.1 o }) h.3.0
      (law_full old h.3.1 h.3.3 h.3.2 law h.3.6) h.3.4)
  keeps old new Done (inr (inr (inl h))) law = absurd h.3
  keeps old new NoMemory (inr (inr (inl h))) law = law_of h.3 law
  keeps old new Moved (inr (inr (inr h))) law =
      law_of (rw add-one at h.3.2) (law_end old h.3.0 law h.0 h.1 h.2 h.3.1)
  keeps old new Idle (inr (inr (inr h))) law =
      law_of h.3.4 (law_full old old.ended h.3.1 h.3.0 law h.3.2)
  keeps old new Done (inr (inr (inr h))) law =
      law_of h.3.1 (law_stop old law h.0 h.1 h.2 h.3.0)
  keeps old new NoMemory (inr (inr (inr h))) law = law_of h.3 law
