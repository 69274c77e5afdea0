-- A replay that goes on by one entry.
use Rattle.std.proofs.Common.{◌≡◌, ◌∙◌, ◌+◌, ◌≤◌, ℕ, [], ◌∷◌, ◌++◌, List, length, map, replicate, Option, None, Some, refl, sym, ap, arith}
use Rattle.std.proofs.lemmas.List.{append-nil}
use Rattle.sink_journal.specs.declared.journal.Entry.{Entry}
use Rattle.sink_journal.specs.declared.journal.Entry.TheVariants as entry
use Rattle.tuple_trace.specs.declared.tuple.Item.{Item}
use Rattle.flow_model.specs.Lanes.{lanes_out}
use Rattle.flow_model.specs.declared.topology.Lane.{Lane}
use Rattle.flow_model.specs.SetupView.{SetupView, Worker}
use Rattle.flow_model.specs.Replay.{Put, StateView, after, after_all, items_on, puts, items_sent, after_change}
use Rattle.flow_model.specs.Requests.{change_by}
use Rattle.versions.specs.declared.request.Change.{Change}
use Rattle.flow_replay.specs.declared.replaying.Replaying.{Replaying}
use Rattle.flow_replay.specs.inner.Replays.{IsEntered, IsReplayed, replay_view, with_puts}
use Rattle.flow_model.proofs.JournalLemmas.{after_all-append, sent-append}
use Rattle.flow_replay.proofs.ListLemmas.{with_puts-map}

-- an entry is what it is: the lists gain what it puts, and what is in force is what it leaves
pub entered : (setup : SetupView) (who : Worker) (w : ℕ) (this : Entry) (old new : Replaying) →
    who.number ≡ w → replay_view setup who new ≡ after setup who (replay_view setup who old)
    this
    → new.lists.items ≡ with_puts (lanes_out setup.job w) (puts setup who (replay_view setup who
    old) this) old.lists.items → IsEntered setup who this old new
entered setup who w this old new number view lists =
    record {
      view = view;
      lists = lists ∙ ap (λ (n : ℕ). with_puts (lanes_out setup.job n) (puts
          setup who (replay_view setup who old) this) old.lists.items) (sym number);
    }

-- a replay that has gone through no entry
pub replayed_none : (setup : SetupView) (who : Worker) (view : StateView) (replay : Replaying) →
    replay_view setup who replay ≡ view →
    replay.lists.items ≡ replicate (length (lanes_out setup.job who.number)) [] →
    IsReplayed setup who view [] replay
replayed_none setup who view replay begun lists = record {
  view_is = begun;
  lists_are = lists ∙ none (lanes_out setup.job who.number);
}
  where
    none : (xs : List Lane) → replicate (length xs) []
        ≡ map (λ (lane : Lane). items_sent setup who view lane []) xs
    none [] = refl
    none (x ∷ xs) = ap (λ (rest : List (List Item)). [] ∷ rest) (none xs)

-- a replay that has gone through one entry more
pub replayed_more : (setup : SetupView) (who : Worker) (view : StateView) (journal : List Entry)
    (this : Entry) (old new : Replaying) → IsReplayed setup who view journal old →
    IsEntered setup who this old new → IsReplayed setup who view (journal ++ this ∷ []) new
replayed_more setup who view journal this old new so_far step = record {
  view_is = step.view ∙ (ap (λ (l : StateView). after setup who l this) so_far.view_is
      ∙ sym (after_all-append setup who view journal (this ∷ [])));
  lists_are =
      step.lists ∙ (ap (λ (l : StateView). with_puts (lanes_out setup.job who.number)
      (puts setup who l this) old.lists.items) so_far.view_is
      ∙ (ap (with_puts (lanes_out setup.job who.number) these) so_far.lists_are
      ∙ (with_puts-map (λ (lane : Lane). items_sent setup who view lane journal) these
      (lanes_out setup.job who.number)
      ∙ more (lanes_out setup.job who.number))));
}
  where
    these : List Put
    these = puts setup who (after_all setup who view journal) this

    more : (xs : List Lane) →
        map (λ (lane : Lane). items_sent setup who view lane journal ++ items_on lane these) xs
        ≡ map (λ (lane : Lane). items_sent setup who view lane (journal ++ this ∷ [])) xs
    more [] = refl
    more (x ∷ xs) =
        rw (more xs) (ap (λ (list : List Item).
        list ∷ map (λ (lane : Lane). items_sent setup who view lane (journal ++ this ∷ [])) xs)
        (sym (sent-append setup who view x journal (this ∷ [])
        ∙ ap (λ (rest : List Item). items_sent setup who view x journal ++ rest)
        (append-nil (items_on x these)))))

-- an entry ends at most one lane
pub ended_grows : (setup : SetupView) (who : Worker) (this : Entry) (old new : Replaying) →
    IsEntered setup who this old new → new.state.ended ≤ old.state.ended + 1
ended_grows setup who this old new step =
    let same : new.state.ended ≡ (after setup who (replay_view setup who old) this).ended = ap (λ
    (l : StateView). l.ended) step.view in
    omega (arith, same, go this)
  where
    kept : (change : Option Change) → (after_change change (replay_view setup who old)).ended
        ≡ old.state.ended
    kept None = refl
    kept (Some change) = refl

    go : (e : Entry) → (after setup who (replay_view setup who old) e).ended ≤ old.state.ended + 1
    go (entry.Met lane tuple) = omega arith
    go (entry.Marked lane request) = omega arith
    go (entry.Turned request) = omega (arith, kept (change_by setup request who.node))
    go (entry.Ended lane) = omega arith
