-- How many lanes have ended.
use Rattle.std.proofs.Common.{◌≡◌, ◌∙◌, ◌+◌, ℕ, suc, arith, List, [], ◌∷◌, length, Option, Some, None, refl, ap}
use Rattle.sink_journal.specs.declared.journal.Entry.{Entry}
use Rattle.sink_journal.specs.declared.journal.Entry.TheVariants.{Met, Marked, Turned, Ended}
use Rattle.versions.specs.declared.request.Change.{Change}
use Rattle.flow_model.specs.Law.{Progress, after_entry, progress_after}
use Rattle.flow_model.specs.SetupView.{SetupView, Worker}
use Rattle.flow_model.specs.Replay.{StateView, after, after_all, after_change}
use Rattle.flow_model.specs.Requests.{change_by}

ended_with : (o : Option Change) (view : StateView) → (after_change o view).ended ≡ view.ended
ended_with None view = refl
ended_with (Some change) view = refl

-- how many lanes have ended by the replay, and by the law
pub ended_counts : (setup : SetupView) (who : Worker) (view : StateView) (p : Progress)
    (journal : List Entry) →
    (after_all setup who view journal).ended + length p.ended
    ≡ view.ended + length (progress_after p journal).ended
ended_counts setup who view p [] = refl
ended_counts setup who view p (Met l t ∷ more) =
    ended_counts setup who (after setup who view (Met l t)) p more
ended_counts setup who view p (Marked l r ∷ more) =
    ended_counts setup who view (after_entry p (Marked l r)) more
ended_counts setup who view p (Turned r ∷ more) =
    ended_counts setup who (after setup who view (Turned r)) (after_entry p (Turned r)) more
    ∙ ap (λ n. n + length (progress_after (after_entry p (Turned r)) more).ended)
    (ended_with (change_by setup r who.node) view)
ended_counts setup who view p (Ended l ∷ more) =
    shift (after_all setup who (record view { ended = view.ended + 1 }) more).ended
    (length p.ended) view.ended
    (length (progress_after (after_entry p (Ended l)) more).ended)
    (ended_counts setup who (record view { ended = view.ended + 1 })
    (after_entry p (Ended l)) more)
  where
    shift : (a b c d : ℕ) → a + suc b ≡ (c + 1) + d → a + b ≡ c + d
    shift a b c d h = omega arith
