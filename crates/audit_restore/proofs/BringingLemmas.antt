-- What entries take from lanes, and what lanes bring.
use Rattle.std.proofs.Common.{◌≡◌, ◌∙◌, ◌==◌, ◌++◌, ℕ, List, [], ◌∷◌, refl, ap, ap₂, subst, true, false, Bool, cond, filter, Option, Some, None, slice_get}
use Rattle.std.specs.Prelude.{slice_set}
use Rattle.std.proofs.lemmas.Bool.{eqb-true}
use Rattle.keyed_state.specs.Counts.{Counts}
use Rattle.sink_journal.specs.declared.journal.Entry.{Entry}
use Rattle.sink_journal.specs.declared.journal.Entry.TheVariants as entry
use Rattle.tuple_trace.specs.declared.row.Row.{Row}
use Rattle.tuple_trace.specs.declared.tuple.Item.{Item}
use Rattle.flow_model.specs.Begin.{Begin, view_at}
use Rattle.flow_model.specs.Lanes.{lanes}
use Rattle.flow_model.specs.declared.topology.Lane.{Lane}
use Rattle.flow_model.specs.SetupView.{SetupView, Worker}
use Rattle.flow_model.specs.Replay.{items_sent}
use Rattle.flow_model.specs.Run.{put_by, ran_as, sent_by}
use Rattle.flow_model.specs.Workers.{workers_in}
use Rattle.flow_model.proofs.ElementLemmas.{IsIn}
use Rattle.audit_laws.specs.declared.audit.AuditEntry.{AuditEntry}
use Rattle.audit_laws.specs.declared.audit.AuditEntry.TheVariants as kept
use Rattle.audit_laws.specs.Delivered.{delivered, feed_of}
use Rattle.audit_laws.specs.Faults.{comes_by}
use Rattle.audit_laws.specs.Restoring.{later_items, restored, taken_from, took_next}
use Rattle.audit_laws.proofs.RestoringLemmas.{ComeBy}
use Rattle.audit_check.proofs.TellingLemmas.{set_elsewhere}

-- ---- what entries take

-- entries that come by some lanes take from these alone
pub restored_same : (lanes : List ℕ) (a b : ℕ → List Item) (journal : List AuditEntry) → ComeBy lanes journal → ((n : ℕ) → IsIn n lanes → a n ≡ b n) → restored a journal ≡ restored b journal
restored_same lanes a b [] come same = refl
restored_same lanes a b (kept.Met lane row birth ∷ more) come same =
    ap₂ (λ (x y : List Entry). x ++ y) (ap (took_next lane) (same lane come.0))
    (restored_same lanes (taken_from lane a) (taken_from lane b) more come.1 (λ n i. ap (λ (l : List Item). cond (lane == n) (later_items l) l) (same n i)))
restored_same lanes a b (kept.Marked lane request ∷ more) come same =
    ap₂ (λ (x y : List Entry). x ++ y) (ap (took_next lane) (same lane come.0))
    (restored_same lanes (taken_from lane a) (taken_from lane b) more come.1 (λ n i. ap (λ (l : List Item). cond (lane == n) (later_items l) l) (same n i)))
restored_same lanes a b (kept.Turned request ∷ more) come same = ap (λ (l : List Entry). entry.Turned request ∷ l) (restored_same lanes a b more come same)
restored_same lanes a b (kept.Ended lane ∷ more) come same =
    ap₂ (λ (x y : List Entry). x ++ y) (ap (took_next lane) (same lane come.0))
    (restored_same lanes (taken_from lane a) (taken_from lane b) more come.1 (λ n i. ap (λ (l : List Item). cond (lane == n) (later_items l) l) (same n i)))

-- no entry comes by another lane
pub by_others : (lanes : List ℕ) (journal : List AuditEntry) (n : ℕ) → ComeBy lanes journal → (IsIn n lanes → ⊥) → filter (comes_by n) journal ≡ []
by_others lanes [] n come out = refl
by_others lanes (kept.Met lane row birth ∷ more) n come out = go (lane == n) refl (by_others lanes more n come.1 out)
  where
    go : (b : Bool) → (lane == n) ≡ b → filter (comes_by n) more ≡ [] → cond b (kept.Met lane row birth ∷ filter (comes_by n) more) (filter (comes_by n) more) ≡ []
    go true t rest = absurd (out (subst (λ k. IsIn k lanes) (eqb-true lane n t) come.0))
    go false f rest = rest
by_others lanes (kept.Marked lane request ∷ more) n come out = go (lane == n) refl (by_others lanes more n come.1 out)
  where
    go : (b : Bool) → (lane == n) ≡ b → filter (comes_by n) more ≡ [] → cond b (kept.Marked lane request ∷ filter (comes_by n) more) (filter (comes_by n) more) ≡ []
    go true t rest = absurd (out (subst (λ k. IsIn k lanes) (eqb-true lane n t) come.0))
    go false f rest = rest
by_others lanes (kept.Turned request ∷ more) n come out = by_others lanes more n come out
by_others lanes (kept.Ended lane ∷ more) n come out = go (lane == n) refl (by_others lanes more n come.1 out)
  where
    go : (b : Bool) → (lane == n) ≡ b → filter (comes_by n) more ≡ [] → cond b (kept.Ended lane ∷ filter (comes_by n) more) (filter (comes_by n) more) ≡ []
    go true t rest = absurd (out (subst (λ k. IsIn k lanes) (eqb-true lane n t) come.0))
    go false f rest = rest

-- ---- what lanes bring

module _ (begin : Begin) (setup : SetupView) (rows : List Row)
  where
    -- a journal that is set changes what its worker's lanes bring, and no other
    pub delivered_elsewhere : (journals : List (List Entry)) (w : ℕ) (journal : List Entry)
        (lane : Lane) → (lane.sender ≡ Some w → ⊥) →
        delivered begin setup rows (slice_set journals w journal) lane
        ≡ delivered begin setup rows journals lane
    delivered_elsewhere journals w journal lane apart = go lane.sender apart
      where
        by : List (List Entry) → Option ℕ → Option (List Item)
        by js o = put_by begin rows (ran_as setup (feed_of begin setup rows) js []) lane o

        go : (o : Option ℕ) → (o ≡ Some w → ⊥) → by (slice_set journals w journal) o ≡ by journals o
        go None other = refl
        go (Some s) other =
            ap (λ (j : Option (List Entry)).
            sent_by setup begin lane (slice_get (workers_in setup.job) s)
            (slice_get begin.states s) j)
            (set_elsewhere journals s w journal (λ e. other (ap Some e)))

    -- its own lanes bring what its replay sends
    pub delivered_here : (journals : List (List Entry)) (w : ℕ) (who : Worker) (counts : Counts)
        (journal : List Entry) (lane : Lane) → slice_get (workers_in setup.job) w ≡ Some who →
        slice_get begin.states w ≡ Some counts → slice_get journals w ≡ Some journal →
        lane.sender ≡ Some w →
        delivered begin setup rows journals lane
        ≡ Some (items_sent setup who (view_at setup begin.turned who counts) lane journal)
    delivered_here journals w who counts journal lane p q j e =
        ap (put_by begin rows (ran_as setup (feed_of begin setup rows) journals []) lane) e
        ∙ (ap (λ (x : Option Worker).
        sent_by setup begin lane x (slice_get begin.states w) (slice_get journals w)) p
        ∙ (ap (λ (x : Option Counts).
        sent_by setup begin lane (Some who) x (slice_get journals w)) q
        ∙ ap (λ (x : Option (List Entry)). sent_by setup begin lane (Some who) (Some counts) x) j))
