-- Whatever is put in a run fits: it goes on a lane of the job, from the one that puts it.
use Rattle.std.proofs.Common.{◌≡◌, ◌∙◌, ℕ, zero, suc, List, inl, refl, sym, subst, ap, true, false, is_none, Some, None, Option, slice_get}
use Rattle.std.proofs.lemmas.Bool.{eq-eqb}
use Rattle.std.proofs.lemmas.Option.{slice_get_within}
use Rattle.jobs.specs.Nodes.{AreFromSources, IsSourceOf, is_source_node}
use Rattle.jobs.specs.Ports.{are_ports}
use Rattle.jobs.specs.declared.func.Func.{Func}
use Rattle.jobs.specs.declared.func.NodeDef.{NodeDef}
use Rattle.operators.specs.declared.output.Output.{Output}
use Rattle.operators.proofs.EdgeLemmas.{outputs_leave}
use Rattle.sink_journal.specs.declared.journal.Entry.{Entry}
use Rattle.sink_journal.specs.declared.journal.Entry.TheVariants as entry
use Rattle.tuple_trace.specs.declared.row.Row.{Row}
use Rattle.tuple_trace.specs.declared.tuple.Item.TheVariants as item
use Rattle.tuple_trace.specs.declared.tuple.Tuple.{Tuple}
use Rattle.flow_model.specs.Feeding.{fed_puts, row_numbered}
use Rattle.flow_model.specs.Lanes.{is_sender, lanes, senders}
use Rattle.flow_model.specs.declared.topology.Lane.{Lane}
use Rattle.flow_model.specs.SetupView.{Worker}
use Rattle.flow_model.specs.Replay.{Put, put_out, puts, visit_at}
use Rattle.flow_model.specs.Run.{Ran}
use Rattle.flow_model.specs.Workers.{workers_in, workers_at_node}
use Rattle.flow_model.proofs.ElementLemmas.{IsIn, at_of_all, in_flat_map, in_map, in_of_place, map_in, place_of_in}
use Rattle.flow_model.proofs.WorkerLemmas.{IsWorker, begun, in_workers, journal_of, who_is, worker_no, workers_at_node_in, worker_is}
use Rattle.flow_model.proofs.StoryLemmas.{Moment}
use Rattle.flow_model.proofs.SendingLemmas.{ComesOf, made, puts_come}
use Rattle.flow_model.proofs.KindLemmas.{AreAlike, alike_then}
use Rattle.flow_model.proofs.RunLemmas.{HasWorker, Running, in_fed_puts}
use Rattle.flow_model.proofs.LineageLemmas.{puts_of, story_of}
use Rattle.flow_model.proofs.FitLemmas.{GoesOn, goes_on, source_port}
use Rattle.flow_model.proofs.FlowLemmas.{PutsFit, all_puts}

-- ---- a worker's moments

-- a worker of the run, with what is in force at one of its moments
pub record AtWork (ran : Ran) (w : ℕ) (m : Moment) : Type 0 where
  pub is : IsWorker ran.setup.job (worker_no ran.setup w)
  pub within : HasWorker ran w
  pub number : (worker_no ran.setup w).number ≡ w
  pub i : ℕ
  pub there : slice_get (story_of ran w) i ≡ Some m
  pub alike : AreAlike ran.setup.job.edges (worker_no ran.setup w).node (worker_no ran.setup w).func m.view.func
  pub ports : are_ports ran.setup.job.edges (worker_no ran.setup w).node m.view.func ≡ true

module _ (rows : List Row) (ran : Ran) (g : Running rows ran) where
  pub at_work : (w : ℕ) (m : Moment) → HasWorker ran w → IsIn m (story_of ran w) → AtWork ran w m
  at_work w m lt h =
      let is : IsWorker ran.setup.job (worker_no ran.setup w) = (worker_is ran.setup w lt).1 in
      let i = place_of_in m (story_of ran w) h in
      let alike : AreAlike ran.setup.job.edges (worker_no ran.setup w).node is.def.func m.view.func =
      alike_then ran.setup (worker_no ran.setup w) is.def (begun ran.setup w) (journal_of ran w) i.0 m g.kinds is.node_is (sym is.func_is) i.1 in
      record {
        is = is;
        within = lt;
        number = (worker_is ran.setup w lt).0;
        i = i.0;
        there = i.1;
        alike = subst (λ (f : Func). AreAlike ran.setup.job.edges (worker_no ran.setup w).node f m.view.func) (sym is.func_is) alike;
        ports = alike.ports (g.connected.ports (worker_no ran.setup w).node is.def is.node_is);
      }

  sends : (w : ℕ) → IsWorker ran.setup.job (worker_no ran.setup w) → IsIn (Some (worker_no ran.setup w).number) (senders ran.setup.job (worker_no ran.setup w).node)
  sends w is =
      let source : is_source_node (slice_get ran.setup.job.nodes (worker_no ran.setup w).node) ≡ false = ap is_source_node is.node_is ∙ is.no_source in
      rw source (map_in (λ (who : Worker). Some who.number) (worker_no ran.setup w) (workers_at_node ran.setup.job (worker_no ran.setup w).node)
      (workers_at_node_in ran.setup.job (worker_no ran.setup w).node (worker_no ran.setup w) (in_of_place (worker_no ran.setup w) (workers_in ran.setup.job) (worker_no ran.setup w).number is.there) refl))

  -- the lane of an output
  pub out_goes : (w : ℕ) (m : Moment) (u : Tuple) (o : Output) → AtWork ran w m → IsIn o (made ran.setup (worker_no ran.setup w) m.view u)
      → GoesOn ran.setup.job (Some (worker_no ran.setup w).number) (worker_no ran.setup w).node o.port o.tuple
  out_goes w m u o a i =
      let k = place_of_in o (made ran.setup (worker_no ran.setup w) m.view u) i in
      goes_on ran.setup.job g.connected (Some (worker_no ran.setup w).number) (worker_no ran.setup w).node o.port o.tuple
      (outputs_leave ran.setup.job (visit_at (worker_no ran.setup w) m.view) m.view.func m.view.counts u a.ports k.0 o k.1) (sends w a.is)

  -- ---- what is put fits

  moment_fits : (w : ℕ) (m : Moment) (p : Put) (t : Tuple) → AtWork ran w m → IsIn p (puts_of ran w m) → p.item ≡ item.Carry t
      → (n : ℕ) × (lane : Lane) × (p.lane ≡ Some lane) × (slice_get (lanes ran.setup.job) n ≡ Some lane) × (is_sender (worker_no ran.setup w).number lane.sender ≡ true)
  moment_fits w m p t a h c = go m.entry h (puts_come ran.setup (worker_no ran.setup w) m.view m.entry p h)
    where
      go : (e : Entry) → IsIn p (puts ran.setup (worker_no ran.setup w) m.view e) → ComesOf ran.setup (worker_no ran.setup w) m.view e p.item
          → (n : ℕ) × (lane : Lane) × (p.lane ≡ Some lane) × (slice_get (lanes ran.setup.job) n ≡ Some lane) × (is_sender (worker_no ran.setup w).number lane.sender ≡ true)
      go (entry.Met l u) h k =
          let o = in_map (put_out ran.setup.job (worker_no ran.setup w)) p (made ran.setup (worker_no ran.setup w) m.view u) h in
          let on : GoesOn ran.setup.job (Some (worker_no ran.setup w).number) (worker_no ran.setup w).node o.0.port o.0.tuple = out_goes w m u o.0 a o.1 in (
            on.n,
            on.lane,
            ap (λ (p : Put). p.lane) o.2 ∙ on.lane_is,
            on.there,
            ap (is_sender (worker_no ran.setup w).number) on.sent_by ∙ eq-eqb (worker_no ran.setup w).number (worker_no ran.setup w).number refl,
          )
      go (entry.Marked l r) h k = absurd k
      go (entry.Turned r) h k = let x = k.2 in absurd (cc)
      go (entry.Ended l) h k = absurd (cc)

  pub worker_fits : (who : Worker) → IsIn who (workers_in ran.setup.job) → PutsFit ran.setup.job (λ (lane : Lane). is_sender who.number lane.sender) (all_puts ran who.number)
  worker_fits who i p t h c =
      let is : IsWorker ran.setup.job who = in_workers ran.setup.job who i in
      let lt : HasWorker ran who.number = slice_get_within (workers_in ran.setup.job) who.number who is.there in
      let same : worker_no ran.setup who.number ≡ who = who_is ran.setup who.number who is.there in
      let m = in_flat_map (puts_of ran who.number) p (story_of ran who.number) h in
      let fit = moment_fits who.number m.0 p t (at_work who.number m.0 lt m.1) m.2 c in
      (fit.0, fit.1, fit.2, fit.3, subst (λ (x : Worker). is_sender x.number fit.1.sender ≡ true) same fit.4)

module _ (rows : List Row) (ran : Ran) (g : Running rows ran)
    (sources : AreFromSources ran.setup.job rows) where
  -- the lane of a row
  pub row_goes : (number : ℕ) (row : Row) → row_numbered rows number ≡ Some row → GoesOn ran.setup.job None row.source 0 row.tuple
  row_goes zero row e = absurd (cc)
  row_goes (suc place) row e =
      let source : is_source_node (slice_get ran.setup.job.nodes row.source) ≡ true = at_of_all (λ (row : Row). IsSourceOf ran.setup.job row.source) row rows sources (in_of_place row rows place e) in
      go (slice_get ran.setup.job.nodes row.source) refl source
    where
      go : (o : Option NodeDef) → slice_get ran.setup.job.nodes row.source ≡ o → is_source_node o ≡ true → GoesOn ran.setup.job None row.source 0 row.tuple
      go None there s = absurd (cc)
      go (Some def) there s =
          let all : is_source_node (slice_get ran.setup.job.nodes row.source) ≡ true = ap is_source_node there ∙ s in
          goes_on ran.setup.job g.connected None row.source 0 row.tuple (source_port ran.setup.job.edges row.source def.func s (g.connected.ports row.source def there)) (rw all (inl refl))

  pub feeder_fits : PutsFit ran.setup.job (λ (lane : Lane). is_none lane.sender) (fed_puts ran.setup.job rows 0 ran.feeds)
  feeder_fits p t h c =
      let (number, row, count, there, is) = in_fed_puts ran.setup.job rows 0 ran.feeds p h in
      let on : GoesOn ran.setup.job None row.source 0 row.tuple = row_goes number row there in
      (on.n, on.lane, ap (λ (p : Put). p.lane) is ∙ on.lane_is, on.there, ap is_none on.sent_by)
