-- What the steps of a turn come to.
use Rattle.std.proofs.Common.{◌≡◌, ◌∙◌, ◌⊎◌, inl, inr, ℕ, ◌<◌, ◌≤◌, List, [], ◌∷◌, ◌++◌, Bool, true, false, ◌||◌, cond, length, refl, sym, ap, subst, arith, Option, Some, append-nil}
use Rattle.std.specs.Prelude.{◌↔◌, All, IfSome, IsTrue}
use Rattle.std.specs.List.{list_any}
use Rattle.std.proofs.lemmas.Bool.Decides.{nat_tests}
use Rattle.control_box.specs.Endpoints.{OwnerIs}
use Rattle.flow_dag.specs.Masks.{has}
use Rattle.marker_align.specs.Decision.{decided, is_aligned, may_turn}
use Rattle.marker_align.specs.Hands.{is_issued}
use Rattle.marker_align.specs.declared.decision.Act.{Act}
use Rattle.marker_align.specs.declared.decision.Act.TheVariants.{Turn}
use Rattle.marker_align.specs.declared.decision.Due.{Due}
use Rattle.sink_journal.specs.declared.journal.Entry.TheVariants.{Met, Turned}
use Rattle.tuple_trace.specs.declared.tuple.Item.{Item}
use Rattle.flow_model.specs.Begin.{Begin}
use Rattle.flow_model.specs.SetupView.{SetupView, Worker as WorkerOf}
use Rattle.flow_model.specs.Planned.{IsPlanned}
use Rattle.flow_worker.specs.Pairs.{EachOne, EachPair}
use Rattle.flow_worker.specs.Endpoints.{Filled, Flushed, LaneInIs, LaneOutIs, SameButMemory, SameIn, SameOut, sent_in_all, all_taken, is_waiting, planned}
use Rattle.flow_model.specs.Dues.{IsDueOf}
use Rattle.flow_worker.specs.Worker.{IsPlaced, IsWorker, WorkerIs, edges_of, hands}
use Rattle.flow_worker.specs.Steps.{MemoryOnly, PollsOnly, PutsOnly, TakesOnly}
use Rattle.flow_worker.specs.Turning.{DryWhereEmpty, FullWhereWaiting, HasCause, HasDone, IsDone, IsHeld, IsTurn, NotEarly, Overtakes, Polled, PollsOnce, SameEndpoints, TurnsAtPost, moves}
use Rattle.flow_worker.specs.declared.worker.Turn as turn_type
use Rattle.flow_worker.specs.declared.worker.Turn.TheVariants as turn
use Rattle.flow_worker.proofs.Pairs.{each_same, not_moved, pairs_keep, pairs_then}
use Rattle.flow_worker.proofs.Keeping.{keeps_memory, keeps_poll, keeps_puts, keeps_takes}
use Rattle.flow_worker.proofs.Steadying.{KeepsAgreement, KeepsSteady, worker_agreement}
use Rattle.flow_worker.proofs.Deciding.{all_hands, turn_first, turns_if}
use Rattle.flow_worker.proofs.Acting.{done_law, head_places}
use Rattle.flow_worker.proofs.ActLemmas.{acts_done, done_turned, emptied_none, ends_done, grew_done, in_then, memory_same, met_done, none_added, one_longer, out_then, pairs_map, polls_done, same_in, total_grows, turned_done}

-- ---- what waits

pub waiting_some : (outs : List LaneOutIs) → list_any is_waiting outs ≡ true → EachOne (λ (o : LaneOutIs). o.waiting ≡ []) outs → ⊥
waiting_some [] e n = cc
waiting_some (o ∷ more) e n = waiting_some more (go (is_waiting o) (idle o n.0) e) n.1
  where
    idle : (o : LaneOutIs) → o.waiting ≡ [] → is_waiting o ≡ false
    idle o q = rw q refl

    go : (b : Bool) → b ≡ false → b || list_any is_waiting more ≡ true → list_any is_waiting more ≡ true
    go true q e = absurd (cc)
    go false q e = e

pub waiting_none : (outs : List LaneOutIs) → list_any is_waiting outs ≡ false → EachOne (λ (o : LaneOutIs). o.waiting ≡ []) outs
waiting_none [] e = tt
waiting_none (o ∷ more) e = let p = parts (is_waiting o) (list_any is_waiting more) e in (none o.waiting refl p.0, waiting_none more p.1)
  where
    parts : (x y : Bool) → (x || y) ≡ false → (x ≡ false) × (y ≡ false)
    parts true y e = absurd (cc)
    parts false y e = (refl, e)

    none : (items : List Item) → o.waiting ≡ items → is_waiting o ≡ false → o.waiting ≡ []
    none [] q e = q
    none (x ∷ xs) q e = absurd (let l : 0 < length o.waiting = rw q (omega arith) in let t : is_waiting o ≡ true = grind (arith, nat_tests) in cc)

-- ---- nothing was put or taken

pub put_none : (w v : WorkerIs) (put : Bool) → PutsOnly w v → (IsTrue put ↔ (sent_in_all w.outs < sent_in_all v.outs)) → put ≡ false → sent_in_all v.outs ≡ sent_in_all w.outs
put_none w v put p moved none =
    not_moved (sent_in_all w.outs) (sent_in_all v.outs) put (total_grows Flushed (λ (o : LaneOutIs). length o.sent) w.outs v.outs (λ a b f. f.grew) p.outs) moved none

pub took_none : (w v : WorkerIs) (took : Bool) → TakesOnly w v → (IsTrue took ↔ (all_taken w.ins < all_taken v.ins)) → took ≡ false → all_taken v.ins ≡ all_taken w.ins
took_none w v took p moved none =
    not_moved (all_taken w.ins) (all_taken v.ins) took (total_grows Filled (λ (a : LaneInIs). length a.taken) w.ins v.ins (λ a b f. f.grew) p.ins) moved none

-- ---- a worker that has closed

module _ (setup : SetupView) (agrees : KeepsAgreement setup) (w v : WorkerIs) (law : (begin : Begin) × IsWorker setup begin w) (p : PutsOnly w v) (closed : w.closed ≡ true) where
  same_journal : v.journal ≡ w.journal
  same_journal = ap (λ (x : WorkerIs). x.journal) p.rest

  still : v.closed ≡ true
  still = ap (λ (x : WorkerIs). x.closed) p.rest ∙ closed

  no_poll : (n : ℕ) → Polled w v n → ⊥
  no_poll n q = one_longer w.owner.polls n (sym (ap (λ (x : WorkerIs). x.owner.polls) p.rest) ∙ q)

  still_polls : v.owner.polls ≡ w.owner.polls
  still_polls = ap (λ (x : WorkerIs). x.owner.polls) p.rest

  pub closed_turn : (result : turn_type.Turn) → HasCause result w v → IsTurn setup result w v
  closed_turn result cause = record {
    law = λ begin h. keeps_puts setup begin w v p h;
    agreement = worker_agreement setup law.0 v agrees (keeps_puts setup law.0 w v p law.1);
    endpoints = record {
      number = ap (λ (x : WorkerIs). x.number) p.rest;
      ins = subst (EachPair SameIn w.ins) (sym (ap (λ (x : WorkerIs). x.ins) p.rest)) (each_same SameIn w.ins same_in);
      outs = pairs_map Flushed SameOut w.outs v.outs (λ a b f. f.same) p.outs;
      within = ap (λ (x : WorkerIs). x.owner.within) p.rest;
    };
    grows = ([], same_journal ∙ sym (append-nil w.journal), inl refl);
    polls = ((λ c. still_polls), (λ c. absurd (cc (c, closed))));
    overtakes = λ l t c. absurd (none_added w v (Met l t) same_journal c);
    at_post = λ ne n due q. absurd (no_poll n q);
    early = λ r due c. absurd (none_added w v (Turned r) same_journal c);
    cause = cause;
  }

  pub closed_done : list_any is_waiting v.outs ≡ false → IsTurn setup turn.Done w v
  closed_done e = closed_turn turn.Done (still, waiting_none v.outs e)

  pub closed_moved : list_any is_waiting v.outs ≡ true → sent_in_all w.outs < sent_in_all v.outs → IsTurn setup turn.Moved w v
  closed_moved e more =
      closed_turn turn.Moved (
        let j : length v.journal ≡ length w.journal = ap length same_journal in
            let t : all_taken v.ins ≡ all_taken w.ins = ap all_taken (ap (λ (x : WorkerIs). x.ins) p.rest) in omega (arith, j, t, more),
        λ d. waiting_some v.outs e d.1,
      )

  pub closed_idle : list_any is_waiting v.outs ≡ true → sent_in_all v.outs ≡ sent_in_all w.outs → IsTurn setup turn.Idle w v
  closed_idle e same = closed_turn turn.Idle (
    (λ c. absurd (cc (c, closed))),
    (λ c. pairs_map Flushed FullWhereWaiting w.outs v.outs (λ a b f. f.full) p.outs),
    (let j : length v.journal ≡ length w.journal = ap length same_journal in
        let t : all_taken v.ins ≡ all_taken w.ins = ap all_taken (ap (λ (x : WorkerIs). x.ins) p.rest) in (omega (arith, j, t, same), same_journal)),
    (λ d. waiting_some v.outs e d.1),
  )

-- ---- a worker that has not

module _ (setup : SetupView) (agrees : KeepsAgreement setup) (keeps : KeepsSteady setup) (planned_is : ∥ IsPlanned setup ∥₁) (w w1 w2 w3 : WorkerIs) (n : ℕ) (posted : Bool)
    (law : (begin : Begin) × IsWorker setup begin w) (open_ : w.closed ≡ false) (puts : PutsOnly w w1) (takes : TakesOnly w1 w2) (polls : PollsOnly w2 w3 n)
    (posted_is : IsTrue posted ↔ (w2.owner.turned < n))
  where
    rest3 : w3 ≡ record w { outs = w1.outs; ins = w2.ins; owner = w3.owner }
    rest3 = polls.rest ∙ ap (λ (x : WorkerIs). record x { owner = w3.owner }) (takes.rest ∙ ap (λ (x : WorkerIs). record x { ins = w2.ins }) puts.rest)

    closed3 : w3.closed ≡ false
    closed3 = ap (λ (x : WorkerIs). x.closed) rest3 ∙ open_

    journal3 : w3.journal ≡ w.journal
    journal3 = ap (λ (x : WorkerIs). x.journal) rest3

    due3 : w3.due ≡ w.due
    due3 = ap (λ (x : WorkerIs). x.due) rest3

    owner2 : w2.owner ≡ w.owner
    owner2 = ap (λ (x : WorkerIs). x.owner) takes.rest ∙ ap (λ (x : WorkerIs). x.owner) puts.rest

    turned3 : w3.owner.turned ≡ w.owner.turned
    turned3 = polls.turned ∙ ap (λ (o : OwnerIs). o.turned) owner2

    polls3 : Polled w w3 n
    polls3 = polls.polls ∙ ap (λ (o : OwnerIs). o.polls ++ n ∷ []) owner2

    rises3 : All (λ poll. poll ≤ n) w.owner.polls
    rises3 = subst (λ (o : OwnerIs). All (λ poll. poll ≤ n) o.polls) owner2 polls.rises

    polls_once : (v : WorkerIs) → v.owner.polls ≡ w3.owner.polls → PollsOnce w v
    polls_once v same = ((λ c. absurd (cc (c, open_))), (λ c. (n, same ∙ polls3, rises3)))

    ins3 : w3.ins ≡ w2.ins
    ins3 = ap (λ (x : WorkerIs). x.ins) polls.rest

    outs3 : w3.outs ≡ w1.outs
    outs3 = ap (λ (x : WorkerIs). x.outs) polls.rest ∙ ap (λ (x : WorkerIs). x.outs) takes.rest

    filled : EachPair Filled w.ins w3.ins
    filled = subst (λ xs. EachPair Filled xs w3.ins) (ap (λ (x : WorkerIs). x.ins) puts.rest) (subst (EachPair Filled w1.ins) (sym ins3) takes.ins)

    flushed : EachPair Flushed w.outs w3.outs
    flushed = subst (EachPair Flushed w.outs) (sym outs3) puts.outs

    yes_posted : w.owner.turned < n → posted ≡ true
    yes_posted l = posted_is.1 (subst (λ (o : OwnerIs). o.turned < n) (sym owner2) l)

    was_posted : posted ≡ true → w.owner.turned < n
    was_posted e = subst (λ (o : OwnerIs). o.turned < n) owner2 (posted_is.0 e)

    pub law3 : (begin : Begin) → IsWorker setup begin w → IsWorker setup begin w3
    law3 begin h =
        keeps_poll setup begin w2 w3 n polls
        (keeps_takes setup begin w1 w2 takes (ap (λ (x : WorkerIs). x.closed) puts.rest ∙ open_) (keeps_puts setup begin w w1 puts h))

    ends3 : SameEndpoints w w3
    ends3 = record {
      number = ap (λ (x : WorkerIs). x.number) rest3;
      ins = pairs_map Filled SameIn w.ins w3.ins (λ a b f. f.same) filled;
      outs = pairs_map Flushed SameOut w.outs w3.outs (λ a b f. f.same) flushed;
      within = polls.within ∙ ap (λ (o : OwnerIs). o.within) owner2;
    }

    ends_then : (v : WorkerIs) → SameEndpoints w3 v → SameEndpoints w v
    ends_then v e = record {
      number = e.number ∙ ends3.number;
      ins = pairs_then SameIn SameIn SameIn w.ins w3.ins v.ins in_then ends3.ins e.ins;
      outs = pairs_then SameOut SameOut SameOut w.outs w3.outs v.outs out_then ends3.outs e.outs;
      within = e.within ∙ ends3.within;
    }

    moves_least : moves w ≤ moves w3
    moves_least =
        let j : length w3.journal ≡ length w.journal = ap length journal3 in
        let t = total_grows Filled (λ (a : LaneInIs). length a.taken) w.ins w3.ins (λ a b f. f.grew) filled in
        let s = total_grows Flushed (λ (o : LaneOutIs). length o.sent) w.outs w3.outs (λ a b f. f.grew) flushed in
        omega (arith, j, t, s)

    pub moves_put : sent_in_all w.outs < sent_in_all w1.outs → moves w < moves w3
    moves_put more =
        let j : length w3.journal ≡ length w.journal = ap length journal3 in
        let t = total_grows Filled (λ (a : LaneInIs). length a.taken) w.ins w3.ins (λ a b f. f.grew) filled in
        let s : sent_in_all w3.outs ≡ sent_in_all w1.outs = ap sent_in_all outs3 in
        omega (arith, j, t, s, more)

    pub moves_took : all_taken w1.ins < all_taken w2.ins → moves w < moves w3
    moves_took more =
        let j : length w3.journal ≡ length w.journal = ap length journal3 in
        let s = total_grows Flushed (λ (o : LaneOutIs). length o.sent) w.outs w3.outs (λ a b f. f.grew) flushed in
        let t : all_taken w3.ins ≡ all_taken w2.ins = ap all_taken ins3 in
        let u : all_taken w1.ins ≡ all_taken w.ins = ap all_taken (ap (λ (x : WorkerIs). x.ins) puts.rest) in
        omega (arith, j, t, s, u, more)

    pub moves_none : sent_in_all w1.outs ≡ sent_in_all w.outs → all_taken w2.ins ≡ all_taken w1.ins → moves w3 ≡ moves w
    moves_none no_put no_take =
        let j : length w3.journal ≡ length w.journal = ap length journal3 in
        let s : sent_in_all w3.outs ≡ sent_in_all w1.outs = ap sent_in_all outs3 in
        let t : all_taken w3.ins ≡ all_taken w2.ins = ap all_taken ins3 in
        let u : all_taken w1.ins ≡ all_taken w.ins = ap all_taken (ap (λ (x : WorkerIs). x.ins) puts.rest) in
        omega (arith, j, s, t, u, no_put, no_take)

    -- where the poll shows a due of a head, the decision is its turn
    head_turns : (due : Due) → w.due ≡ Some due → due.head ≡ true → w.owner.turned < n → decided (hands w3) w3.due posted w3.next ≡ Turn due.request
    head_turns due e head l =
        let yes : posted ≡ true = yes_posted l in
        let may : may_turn (hands w3) due posted ≡ true = rw (head, yes) refl in
        subst (λ (o : Option Due). decided (hands w3) o posted w3.next ≡ Turn due.request) (sym (due3 ∙ e)) (turn_first (hands w3) due posted w3.next may)

    -- ---- out of memory

    pub starved_turn : (v : WorkerIs) → MemoryOnly w3 v → IsTurn setup turn.NoMemory w v
    starved_turn v m =
        let same : v.journal ≡ w.journal = ap (λ (x : WorkerIs). x.journal) m.rest ∙ journal3 in
        record {
          law = λ begin h. keeps_memory setup begin w3 v m (law3 begin h);
          agreement = worker_agreement setup law.0 v agrees (keeps_memory setup law.0 w3 v m (law3 law.0 law.1));
          endpoints = ends_then v (record {
            number = ap (λ (x : WorkerIs). x.number) m.rest;
            ins = subst (EachPair SameIn w3.ins) (sym (ap (λ (x : WorkerIs). x.ins) m.rest)) (each_same SameIn w3.ins same_in);
            outs = pairs_map SameButMemory SameOut w3.outs v.outs memory_same m.outs;
            within = ap (λ (x : WorkerIs). x.owner.within) m.rest;
          });
          grows = ([], same ∙ sym (append-nil w.journal), inl refl);
          polls = polls_once v (ap (λ (x : WorkerIs). x.owner.polls) m.rest);
          overtakes = λ l t c. absurd (none_added w v (Met l t) same c);
          at_post = λ ne. absurd (ne refl);
          early = λ r due c. absurd (none_added w v (Turned r) same c);
          cause = record {
            journal = same;
            due = ap (λ (x : WorkerIs). x.due) m.rest ∙ due3;
            in_force = ap (λ (x : WorkerIs). x.in_force) m.rest ∙ ap (λ (x : WorkerIs). x.in_force) rest3;
            counts = ap (λ (x : WorkerIs). x.counts) m.rest ∙ ap (λ (x : WorkerIs). x.counts) rest3;
            planned_is = pairs_keep SameButMemory planned w3.outs v.outs (λ a b e. ap planned e) m.outs ∙ pairs_keep Flushed planned w.outs w3.outs (λ a b f. f.planned_is) flushed;
            unclosed = ap (λ (x : WorkerIs). x.closed) m.rest ∙ closed3;
          };
        }

    -- ---- no act

    not_done : IsDone w3 → ⊥
    not_done d = let a = d.0 in let b = closed3 in cc

    held_turn : (result : turn_type.Turn) → IsHeld (decided (hands w3) w3.due posted w3.next) w3 → HasCause result w w3 → IsTurn setup result w w3
    held_turn result held cause = record {
      law = law3;
      agreement = worker_agreement setup law.0 w3 agrees (law3 law.0 law.1);
      endpoints = ends3;
      grows = ([], journal3 ∙ sym (append-nil w.journal), inl refl);
      polls = polls_once w3 refl;
      overtakes = λ l t c. absurd (none_added w w3 (Met l t) journal3 c);
      at_post = λ ne m due q e head l. absurd (subst (λ (a : Act). IsHeld a w3) (head_turns due e head (same_poll m q l)) held);
      early = λ r due c. absurd (none_added w w3 (Turned r) journal3 c);
      cause = cause;
    }
      where
        same_poll : (m : ℕ) → Polled w w3 m → w.owner.turned < m → w.owner.turned < n
        same_poll m q l = let same : m ≡ n = last_same w.owner.polls m n (sym q ∙ polls3) in subst (λ k. w.owner.turned < k) same l
          where
            last_same : (xs : List ℕ) (a b : ℕ) → xs ++ a ∷ [] ≡ xs ++ b ∷ [] → a ≡ b
            last_same [] a b e = cc
            last_same (x ∷ xs) a b e = last_same xs a b (let r : xs ++ a ∷ [] ≡ xs ++ b ∷ [] = cc in r)

    pub held_moved : IsHeld (decided (hands w3) w3.due posted w3.next) w3 → moves w < moves w3 → IsTurn setup turn.Moved w w3
    held_moved held more = held_turn turn.Moved held (more, not_done)

    pub held_idle : IsHeld (decided (hands w3) w3.due posted w3.next) w3 → moves w3 ≡ moves w → IsTurn setup turn.Idle w w3
    held_idle held same = held_turn turn.Idle held (
      (λ c. record {
        dry = pairs_map Filled DryWhereEmpty w.ins w3.ins (λ a b f. f.dry) filled;
        full = pairs_map Flushed FullWhereWaiting w.outs w3.outs (λ a b f. f.full) flushed;
        number = n;
        polled = polls3;
        no_head = λ s. subst (λ (a : Act). IsHeld a w3) (head_turns s.0 s.1 s.2 s.3) held;
        posted = posted;
        posted_is = (was_posted, yes_posted);
        nothing = held;
      }),
      (λ c. absurd (cc (c, open_))),
      (same, journal3),
      not_done,
    )

    -- ---- an act

    module _ (v : WorkerIs) (act : Act) (acted : (who : WorkerOf) → IsPlaced setup who w3 → HasDone setup who w3.due act w3 v) (is : act ≡ decided (hands w3) w3.due posted w3.next) where
      h3 : IsWorker setup law.0 w3
      h3 = law3 law.0 law.1

      done : HasDone setup h3.who w3.due act w3 v
      done = acted h3.who h3.placed

      polled : Polled w v n
      polled = polls_done setup h3.who w3.due act w3 v done ∙ polls3

      same_poll : (m : ℕ) → Polled w v m → m ≡ n
      same_poll m q = last_same w.owner.polls m n (sym q ∙ polled)
        where
          last_same : (xs : List ℕ) (a b : ℕ) → xs ++ a ∷ [] ≡ xs ++ b ∷ [] → a ≡ b
          last_same [] a b e = cc
          last_same (x ∷ xs) a b e = last_same xs a b (let r : xs ++ a ∷ [] ≡ xs ++ b ∷ [] = cc in r)

      law_v : (begin : Begin) → IsWorker setup begin w → IsWorker setup begin v
      law_v begin h = let k = law3 begin h in done_law setup begin w3 v act posted keeps planned_is k closed3 is (acted k.who k.placed)

      overtakes_v : Overtakes w v
      overtakes_v l t c =
          let p = met_done setup h3.who w3.due act w3 v w l t journal3 done c in
          (n, polled, λ s. let turns : decided (hands w3) w3.due posted w3.next ≡ Turn s.0.request = head_turns s.0 s.1 s.2 s.3 in let met = p.1 in cc)

      at_post_v : TurnsAtPost w v
      at_post_v m due q e head l =
          let less : w.owner.turned < n = subst (λ k. w.owner.turned < k) (same_poll m q) l in
          done_turned setup h3.who w3.due due act w3 v w journal3 (due3 ∙ e) (is ∙ head_turns due e head less) done

      early_v : NotEarly w v
      early_v r due c e head =
          let t = turned_done setup h3.who w3.due act w3 v w r journal3 done c in
          let its : Due = t.0 in
          let x = t.1 in
          let same : its ≡ due = let y : w3.due ≡ Some due = due3 ∙ e in cc in
          let at : decided (hands w3) (Some its) posted w3.next ≡ Turn t.3.0 = subst (λ (o : Option Due). decided (hands w3) o posted w3.next ≡ Turn t.3.0) t.1 (sym is ∙ t.3.1) in
          let may : may_turn (hands w3) its posted ≡ true = (turns_if (hands w3) its posted w3.next t.3.0 at).0 in
          let its_head : its.head ≡ true = ap (λ (d : Due). d.head) same ∙ head in
          let either : posted || list_any (is_issued its.request) (hands w3) ≡ true =
          subst (λ (b : Bool). cond b (posted || list_any (is_issued its.request) (hands w3)) (is_aligned its (hands w3)) ≡ true) its_head may in
          let its_due : IsDueOf setup w3.node (edges_of w3.ins) its = subst (λ (o : Option Due). IfSome o (IsDueOf setup w3.node (edges_of w3.ins))) t.1 h3.due.due_is in
          let ins : v.ins ≡ w3.ins = t.4.ins ∙ emptied_none its.lanes 0 w3.ins
          (λ k a g b. head_places setup h3.who w3 its planned_is h3.placed its_due its_head k a g (subst (λ m. has its.lanes m ≡ true) (omega arith) b)) in
          go posted refl its either (ap all_hands ins) t.2
        where
          go : (b : Bool) → posted ≡ b → (its : Due) → b || list_any (is_issued its.request) (hands w3) ≡ true → hands v ≡ hands w3 → r ≡ its.request
              → ((m : ℕ) × Polled w v m × (w.owner.turned < m)) ⊎ IsTrue (list_any (is_issued r) (hands v))
          go true p its either ins q = inl (n, polled, was_posted p)
          go false p its either ins q = inr (rw (ins, q) either)

      pub did_turn : (result : turn_type.Turn) → HasCause result w v → IsTurn setup result w v
      did_turn result cause = record {
        law = law_v;
        agreement = worker_agreement setup law.0 v agrees (law_v law.0 law.1);
        endpoints = ends_then v (ends_done setup h3.who w3.due act w3 v done);
        grows = acts_done setup h3.who w3.due act w3 v w journal3 due3 ends3.ins done;
        polls = polls_once v (polls_done setup h3.who w3.due act w3 v done);
        overtakes = overtakes_v;
        at_post = λ ne. at_post_v;
        early = early_v;
        cause = cause;
      }

      pub did_moved : (IsDone v → ⊥) → IsTurn setup turn.Moved w v
      did_moved not = did_turn turn.Moved
          ((let grew = grew_done setup h3.who w3.due act w3 v (let s = h3.placed.ins.some in omega arith) done in let least = moves_least in omega (arith, grew, least)), not)

      pub did_done : v.closed ≡ true → list_any is_waiting v.outs ≡ false → IsTurn setup turn.Done w v
      did_done closed e = did_turn turn.Done (closed, waiting_none v.outs e)
