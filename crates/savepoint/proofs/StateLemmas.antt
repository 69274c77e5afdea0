-- What a run leaves to save: counts at counts alone.
use Rattle.std.proofs.Common.{◌≡◌, ◌∙◌, ◌<◌, ℕ, List, [], ◌∷◌, refl, sym, subst, ap, arith, false, length, option_map, Some, None, Option, slice_get}
use Rattle.std.specs.Prelude.{ℤ}
use Rattle.std.specs.Cmp.Lexicographic.{nat_list_cmp_total, slice_cmp}
use Rattle.std.specs.FinMap.{empty, entries, from_entries, get-empty, get-from_entries, len, len-empty, len-entries, nat_cmp-IsAntisymmetric, same_map, slice_cmp-IsAntisymmetric}
use Rattle.std.specs.Ordering.{nat_cmp}
use Rattle.std.proofs.lemmas.List.{nil_from_length}
use Rattle.std.proofs.lemmas.Option.{slice_get-map, slice_get_within}
use Rattle.jobs.specs.Nodes.{is_count}
use Rattle.jobs.specs.declared.func.Func.{Func}
use Rattle.jobs.specs.declared.func.NodeDef.{NodeDef}
use Rattle.keyed_state.specs.Counts.{Counts, carried}
use Rattle.keyed_state.specs.declared.carry.Carry.{Carry}
use Rattle.keyed_state.specs.declared.carry.Carry.TheVariants as carry
use Rattle.operators.proofs.CountLemmas.{counts_kept}
use Rattle.sink_journal.specs.declared.journal.Entry.{Entry}
use Rattle.sink_journal.specs.declared.journal.Entry.TheVariants as entry
use Rattle.tuple_trace.specs.declared.row.Row.{Row}
use Rattle.versions.specs.Kept.{KeepKinds}
use Rattle.versions.specs.declared.request.Change.{Change}
use Rattle.flow_model.specs.Begin.{at_first, view_at}
use Rattle.flow_model.specs.SetupView.{SetupView, Worker}
use Rattle.flow_model.specs.Replay.{StateView, after, after_all, after_change}
use Rattle.flow_model.specs.Requests.{change_by}
use Rattle.flow_model.specs.Run.{Ran}
use Rattle.flow_model.specs.Workers.{workers_in}
use Rattle.flow_model.proofs.KindLemmas.{AreAlike, alike_self, changed_alike}
use Rattle.flow_model.proofs.RunLemmas.{Running}
use Rattle.flow_model.proofs.WorkerLemmas.{IsWorker, item_at, worker_with}

none_made : ◌≡◌ {A = Counts} (from_entries []) empty
none_made =
    same_map nat_list_cmp_total (slice_cmp-IsAntisymmetric nat_cmp-IsAntisymmetric) (from_entries []) empty
    (λ q. get-from_entries nat_list_cmp_total [] q ∙ sym (get-empty (slice_cmp nat_cmp) q))

pub none_there : (counts : Counts) → counts ≡ empty → entries counts ≡ []
none_there counts e = nil_from_length (entries counts) (sym (len-entries counts) ∙ (ap len e ∙ len-empty (slice_cmp nat_cmp) ℤ))

carried_none : (c : Carry) (counts : Counts) → counts ≡ empty → carried c counts ≡ empty
carried_none carry.Keep counts e = e
carried_none carry.Reset counts e = refl
carried_none (carry.Scale by over) counts e = rw (none_there counts e) none_made
carried_none (carry.DropBelow least) counts e = rw (none_there counts e) none_made

module _ (setup : SetupView) (kinds : KeepKinds setup.job setup.requests) (who : Worker) (def : NodeDef) (there : slice_get setup.job.nodes who.node ≡ Some def) (none : is_count def.func ≡ false) where
  stay_none : (view : StateView) (journal : List Entry) → AreAlike setup.job.edges who.node def.func view.func → view.counts ≡ empty → (after_all setup who view journal).counts ≡ empty
  stay_none view [] a e = e
  stay_none view (entry.Met l t ∷ more) a e =
      stay_none (after setup who view (entry.Met l t)) more a (counts_kept setup.job view.func view.counts t (a.count ∙ none) ∙ e)
  stay_none view (entry.Marked l r ∷ more) a e = stay_none view more a e
  stay_none view (entry.Turned r ∷ more) a e =
      let k = turned (change_by setup r who.node) refl in
      stay_none (after setup who view (entry.Turned r)) more k.0 k.1
    where
      turned : (o : Option Change) → change_by setup r who.node ≡ o → AreAlike setup.job.edges who.node def.func (after_change o view).func × ((after_change o view).counts ≡ empty)
      turned None g = (a, e)
      turned (Some change) g = (changed_alike setup r who.node def change kinds there g, carried_none change.carry view.counts e)
  stay_none view (entry.Ended l ∷ more) a e = stay_none (after setup who view (entry.Ended l)) more a e

-- at the end of a run only workers of counts have counts
pub counts-alone : (rows : List Row) (ran : Ran) (g : Running rows ran) (w : ℕ) (who : Worker) (state : Counts) → slice_get (workers_in ran.setup.job) w ≡ Some who → slice_get ran.states w ≡ Some state
    → is_count who.func ≡ false → entries state ≡ []
counts-alone rows ran g w who state p s n =
    let is : IsWorker ran.setup.job who = (worker_with ran.setup.job w who p).1 in
    let lt : w < length (workers_in ran.setup.job) = slice_get_within (workers_in ran.setup.job) w who p in
    let journal = item_at ran.journals w (omega (arith, g.run.one_journal_each)) in
    let at : slice_get (at_first ran.setup).states w ≡ Some empty = slice_get-map (λ (who : Worker). empty) (workers_in ran.setup.job) w ∙ ap (option_map (λ (who : Worker). empty)) p in
    let worked = g.run.worked w who empty journal.0 state p at journal.1 s in
    let none : is_count is.def.func ≡ false = ap is_count (sym is.func_is) ∙ n in
    let alike : AreAlike ran.setup.job.edges who.node is.def.func who.func =
    subst (λ (f : Func). AreAlike ran.setup.job.edges who.node is.def.func f) (sym is.func_is) (alike_self ran.setup.job.edges who.node is.def.func) in
    none_there state (worked.state_is ∙ stay_none ran.setup g.kinds who is.def is.node_is none (view_at ran.setup 0 who empty) journal.0 alike refl)
