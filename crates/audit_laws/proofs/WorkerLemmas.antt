-- The journal of a worker is restored: the law says by which lanes entries come, and the replays which markers are brought.
use Rattle.std.proofs.Common.{◌≡◌, ◌∙◌, ◌==◌, ◌&&◌, ◌++◌, ℕ, List, [], ◌∷◌, inl, inr, sym, ap, subst, Some, None, Option, slice_get}
use Rattle.std.proofs.lemmas.Bool.{and_parts, eq-eqb, eqb-true}
use Rattle.std.proofs.lemmas.Option.{same_Some}
use Rattle.cover_planner.specs.declared.cover.Plan.{Plan}
use Rattle.keyed_state.specs.Counts.{Counts}
use Rattle.sink_journal.specs.declared.journal.Entry.{Entry}
use Rattle.sink_journal.specs.declared.journal.Entry.TheVariants as entry
use Rattle.sink_journal.specs.declared.journal.Feed.{Feed}
use Rattle.tuple_trace.specs.declared.row.Row.{Row}
use Rattle.tuple_trace.specs.declared.tuple.Item.{Item}
use Rattle.tuple_trace.specs.declared.tuple.Item.TheVariants as item
use Rattle.flow_model.specs.Begin.{Begin, view_at}
use Rattle.flow_model.specs.Covers.{covers_edge, plan_of}
use Rattle.flow_model.specs.Feeding.{fed, fed_puts}
use Rattle.flow_model.specs.Lanes.{lanes, lanes_in, marked_lanes}
use Rattle.flow_model.specs.Law.{IsExecution, Progress, after_entry, initial}
use Rattle.flow_model.specs.SetupView.{SetupView, Worker}
use Rattle.flow_model.specs.declared.topology.Lane.{Lane}
use Rattle.flow_model.specs.Replay.{StateView, after, items_on, marker, marker_by, puts, items_sent}
use Rattle.flow_model.specs.Run.{put_by, ran_as, sent_by}
use Rattle.flow_model.specs.Duties.{duties}
use Rattle.flow_model.specs.Workers.{workers_in}
use Rattle.flow_model.proofs.ElementLemmas.{IsIn, in_cases, in_of_contains}
use Rattle.flow_model.proofs.LaneLemmas.{in_lanes_that, lanes_that_in}
use Rattle.flow_model.proofs.RunLemmas.{in_fed_puts}
use Rattle.flow_model.proofs.SendingLemmas.{comes_of, in_items}
use Rattle.flow_model.proofs.WorkerLemmas.{worker_with}
use Rattle.audit_laws.specs.declared.audit.AuditEntry.{AuditEntry}
use Rattle.audit_laws.specs.declared.audit.AuditEntry.TheVariants as kept
use Rattle.audit_laws.specs.Delivered.{delivered, feed_of}
use Rattle.audit_laws.specs.Checked.{IsFinishedDraft, ShowsDelivered}
use Rattle.audit_laws.specs.Drafted.{drafted}
use Rattle.audit_laws.specs.Faults.{AreItems}
use Rattle.audit_laws.specs.Restoring.{LanesAgree, delivered_by, delivered_on, items_taken, restored}
use Rattle.audit_laws.specs.Trimmed.{trimmed}
use Rattle.audit_laws.proofs.RestoringLemmas.{ComeBy, IsRightMark, restored_sought}

-- ---- by which lanes entries come

marked_in : (setup : SetupView) (w r n : ℕ) → IsIn n (marked_lanes setup w r) → IsIn n (lanes_in setup.job w)
marked_in setup w r n i =
    let l = in_lanes_that (λ (lane : Lane). (lane.receiver == w) && covers_edge setup r lane.edge) setup.job n i in
    lanes_that_in (λ (lane : Lane). lane.receiver == w) setup.job n l.0 l.1 (and_parts (l.0.receiver == w) (covers_edge setup r l.0.edge) l.2).0

pub come_by : (setup : SetupView) (turned : ℕ) (feeds : List Feed) (who : Worker) (progress : Progress) (journal : List AuditEntry) → IsExecution (duties setup turned who) progress (drafted turned feeds journal)
    → ComeBy (lanes_in setup.job who.number) journal
come_by setup turned feeds who progress [] law = tt
come_by setup turned feeds who progress (kept.Met l row birth ∷ more) law = (in_of_contains l (lanes_in setup.job who.number) law.0.0, come_by setup turned feeds who progress more law.1)
come_by setup turned feeds who progress (kept.Marked l r ∷ more) law =
    (marked_in setup who.number r l (in_of_contains l (marked_lanes setup who.number r) law.0.1), come_by setup turned feeds who (after_entry progress (entry.Marked l r)) more law.1)
come_by setup turned feeds who progress (kept.Turned r ∷ more) law = come_by setup turned feeds who (after_entry progress (entry.Turned r)) more law.1
come_by setup turned feeds who progress (kept.Ended l ∷ more) law =
    (in_of_contains l (lanes_in setup.job who.number) law.0.0, come_by setup turned feeds who (after_entry progress (entry.Ended l)) more law.1)

-- ---- which markers are brought

mark_by_plan : (setup : SetupView) (q r c : ℕ) (plan : Plan) → plan_of setup q ≡ Some plan → item.Mark r c ≡ item.Mark q plan.nodes → marker setup r ≡ item.Mark r c ∷ []
mark_by_plan setup q r c plan there e =
    let request : r ≡ q = cc in
    let cover : c ≡ plan.nodes = cc in
    ap (λ v. marker setup v) request ∙ (ap (marker_by q) there ∙ ap (λ (x : Item). x ∷ []) (sym e))

right_put : (setup : SetupView) (who : Worker) (lane : Lane) (view : StateView) (x : Entry) (y : Item) → IsIn y (items_on lane (puts setup who view x)) → IsRightMark setup y
right_put setup who lane view x (item.Carry t) i = tt
right_put setup who lane view x item.Last i = tt
right_put setup who lane view (entry.Met l t) (item.Mark r c) i = let m = (comes_of setup who lane view (entry.Met l t) (item.Mark r c) i).1 in absurd (cc)
right_put setup who lane view (entry.Marked l q) (item.Mark r c) i = absurd (comes_of setup who lane view (entry.Marked l q) (item.Mark r c) i)
right_put setup who lane view (entry.Turned q) (item.Mark r c) i =
    let m = comes_of setup who lane view (entry.Turned q) (item.Mark r c) i in
    mark_by_plan setup q r c m.0 m.1 m.2
right_put setup who lane view (entry.Ended l) (item.Mark r c) i = let m = comes_of setup who lane view (entry.Ended l) (item.Mark r c) i in absurd (cc)

right_sent : (setup : SetupView) (who : Worker) (lane : Lane) (view : StateView) (xs : List Entry) (y : Item) → IsIn y (items_sent setup who view lane xs) → IsRightMark setup y
right_sent setup who lane view [] y i = absurd i
right_sent setup who lane view (x ∷ xs) y i =
    elim (in_cases y (items_on lane (puts setup who view x)) (items_sent setup who (after setup who view x) lane xs) i) [
      | inl a ↦ right_put setup who lane view x y a
      | inr b ↦ right_sent setup who lane (after setup who view x) xs y b
    ]

right_fed : (setup : SetupView) (issued : ℕ) (rows : List Row) (feeds : List Feed) (lane : Lane) (y : Item) → IsIn y (fed setup.job rows issued lane feeds ++ item.Last ∷ []) → IsRightMark setup y
right_fed setup issued rows feeds lane (item.Carry t) i = tt
right_fed setup issued rows feeds lane item.Last i = tt
right_fed setup issued rows feeds lane (item.Mark r c) i =
    elim (in_cases (item.Mark r c) (fed setup.job rows issued lane feeds) (item.Last ∷ []) i) [
      | inl a ↦
          let p = in_items lane (fed_puts setup.job rows issued feeds) (item.Mark r c) a in
          let f = in_fed_puts setup.job rows issued feeds p.0 p.1 in
          let e : item.Mark r c ≡ item.Carry _ = p.3 ∙ ap (λ p. p.item) f.4 in
          absurd (cc)
      | inr (inl e) ↦ absurd (cc)
      | inr (inr n) ↦ absurd n
    ]

pub right_delivered : (begin : Begin) (setup : SetupView) (rows : List Row) (journals : List (List Entry)) (lane : Lane) (items : List Item) (y : Item) → delivered begin setup rows journals lane ≡ Some items → IsIn y items
    → IsRightMark setup y
right_delivered begin setup rows journals lane items y e i = by_sender lane.sender e
  where
    by_parts : (a : Option Worker) (b : Option Counts) (c : Option (List Entry)) → sent_by setup begin lane a b c ≡ Some items → IsRightMark setup y
    by_parts None b c e = absurd (cc)
    by_parts (Some q) None c e = absurd (cc)
    by_parts (Some q) (Some counts) None e = absurd (cc)
    by_parts (Some q) (Some counts) (Some journal) e =
        right_sent setup q lane (view_at setup begin.turned q counts) journal y
        (subst (λ (l : List Item). IsIn y l) (sym (same_Some (items_sent setup q (view_at setup begin.turned q counts) lane journal) items e)) i)

    by_sender : (o : Option ℕ) → put_by begin rows (ran_as setup (feed_of begin setup rows) journals []) lane o ≡ Some items → IsRightMark setup y
    by_sender None e =
        right_fed setup begin.turned rows (feed_of begin setup rows) lane y
        (subst (λ (l : List Item). IsIn y l) (sym (same_Some (fed setup.job rows begin.turned lane (feed_of begin setup rows) ++ item.Last ∷ []) items e)) i)
    by_sender (Some s) e = by_parts (slice_get (workers_in setup.job) s) (slice_get begin.states s) (slice_get journals s) e

-- ---- a worker

pub worker_restored : (begin : Begin) (setup : SetupView) (rows : List Row) (journals : List (List Entry)) (w : ℕ) (who : Worker) (journal : List AuditEntry) → slice_get (workers_in setup.job) w ≡ Some who
    → IsFinishedDraft begin setup rows who journal → LanesAgree begin setup rows journals w journal
    → (trimmed (restored (delivered_on begin setup rows journals) journal) ≡ journal) × ShowsDelivered begin setup rows journals w (restored (delivered_on begin setup rows journals) journal)
worker_restored begin setup rows journals w who journal p law agree =
    let number : who.number ≡ w = (worker_with setup.job w who p).0 in
    let come : ComeBy (lanes_in setup.job w) journal =
    subst (λ v. ComeBy (lanes_in setup.job v) journal) number (come_by setup begin.turned (feed_of begin setup rows) who (initial (duties setup begin.turned who)) journal law.lawful.execution) in
    let sought = restored_sought setup (lanes_in setup.job w) (delivered_on begin setup rows journals) journal come (λ n i. (on n i).3)
    (λ n x i j. let o = on n i in right_delivered begin setup rows journals o.0 o.1 x o.2 (subst (λ (l : List Item). IsIn x l) o.4 j)) in (
      sought.0,
      λ n lane g r.
          let a = agree n lane g r in
          a.1 ∙ ap Some (sym (sought.1 n (lanes_that_in (λ (lane : Lane). lane.receiver == w) setup.job n lane g (eq-eqb lane.receiver w r)) ∙ at n lane a.0 g a.1)),
    )
  where
    at : (n : ℕ) (lane : Lane) (items : List Item) → slice_get (lanes setup.job) n ≡ Some lane → delivered begin setup rows journals lane ≡ Some items → delivered_on begin setup rows journals n ≡ items
    at n lane items g e = ap (delivered_by begin setup rows journals) g ∙ ap items_taken e

    on : (n : ℕ) → IsIn n (lanes_in setup.job w)
        → (lane : Lane) × (items : List Item) × (delivered begin setup rows journals lane ≡ Some items) × AreItems n (delivered_on begin setup rows journals n) journal × (delivered_on begin setup rows journals n ≡ items)
    on n i =
        let l = in_lanes_that (λ (lane : Lane). lane.receiver == w) setup.job n i in
        let a = agree n l.0 l.1 (eqb-true l.0.receiver w l.2) in
        let e : delivered_on begin setup rows journals n ≡ a.0 = at n l.0 a.0 l.1 a.1 in
        (l.0, a.0, a.1, subst (λ x. AreItems n x journal) (sym e) a.2, e)
