-- What an entry of a lawful journal names.
use Rattle.std.proofs.Common.{◌<◌, ◌≤◌, ◌+◌, ◌-◌, ◌==◌, ◌&&◌, ℕ, zero, suc, List, [], ◌∷◌, inl, inr, sym, subst, arith}
use Rattle.std.proofs.Common.{length}
use Rattle.std.proofs.lemmas.Bool.{and_parts, eqb-true}
use Rattle.std.proofs.lemmas.Option.{slice_get_within}
use Rattle.jobs.specs.Law.{IsLawful}
use Rattle.jobs.specs.JobView.{JobView}
use Rattle.sink_journal.specs.declared.journal.Entry.{Entry}
use Rattle.sink_journal.specs.declared.journal.Entry.TheVariants as entry
use Rattle.flow_model.specs.declared.topology.Lane.{Lane}
use Rattle.flow_model.specs.Covers.{covers, covers_edge}
use Rattle.flow_model.specs.Lanes.{lanes, lanes_in, marked_lanes}
use Rattle.flow_model.specs.Law.{IsEnabled, IsExecution, Progress, Duties, after_entry}
use Rattle.flow_model.specs.SetupView.{SetupView, Worker}
use Rattle.flow_model.specs.Duties.{dues_after, numbers_from, duties}
use Rattle.flow_model.proofs.ElementLemmas.{IsIn, in_filter, in_of_contains}
use Rattle.flow_model.proofs.LaneLemmas.{in_lanes_that}
use Rattle.flow_model.proofs.MarkerLemmas.{due_in, later_in}
use Rattle.flow_model.proofs.SizeLemmas.{lanes-few}
use Rattle.audit_laws.specs.Lines.{LeadsTo}

fewer_dues : (progress : Progress) (x : Entry) (r : ℕ) → IsIn r (after_entry progress x).dues → IsIn r progress.dues
fewer_dues progress (entry.Met l t) r i = i
fewer_dues progress (entry.Marked l q) r i = i
fewer_dues progress (entry.Turned q) r i = later_in r progress.dues i
fewer_dues progress (entry.Ended l) r i = i

-- each entry was enabled, when what was due then was due at first
enabled_at : (duties : Duties) (progress : Progress) (xs : List Entry) (x : Entry) → IsExecution duties progress xs → IsIn x xs
    → (p : Progress) × IsEnabled duties p x × ((r : ℕ) → IsIn r p.dues → IsIn r progress.dues)
enabled_at duties progress [] x f i = absurd i
enabled_at duties progress (y ∷ xs) x f (inl e) = (progress, subst (IsEnabled duties progress) (sym e) f.0, λ r i. i)
enabled_at duties progress (y ∷ xs) x f (inr i) =
    let q = enabled_at duties (after_entry progress y) xs x f.1 i in
    (q.0, q.1, λ r j. fewer_dues progress y r (q.2 r j))

-- the lane into a worker that an entry names leads to the worker, and the request is one of the setup
abbrev pub Names : SetupView → ℕ → Entry → Type 0
Names setup w (entry.Met l t) = LeadsTo setup.job w l
Names setup w (entry.Marked l r) = LeadsTo setup.job w l × (r ≤ length setup.plans)
Names setup w (entry.Turned r) = r ≤ length setup.plans
Names setup w (entry.Ended l) = LeadsTo setup.job w l

numbers_below : (first count r : ℕ) → IsIn r (numbers_from first count) → (0 < count) × (r < first + count)
numbers_below first zero r i = absurd i
numbers_below first (suc count) r (inl e) = (omega arith, omega arith)
numbers_below first (suc count) r (inr i) = let lt = (numbers_below (first + 1) count r i).1 in (omega arith, omega arith)

due_within : (setup : SetupView) (turned node r : ℕ) → IsIn r (dues_after setup turned node) → r ≤ length setup.plans
due_within setup turned node r i =
    let j = (in_filter (λ r. covers setup r node) r (numbers_from (turned + 1) (length setup.plans - turned)) i).0 in
    let few = numbers_below (turned + 1) (length setup.plans - turned) r j in
    omega (arith, few.0, few.1)

lane_leads : (job : JobView) (w l : ℕ) → IsLawful job → IsIn l (lanes_in job w) → LeadsTo job w l
lane_leads job w l law i =
    let k = in_lanes_that (λ (lane : Lane). lane.receiver == w) job l i in
    let lt = slice_get_within (lanes job) l k.0 k.1 in
    let few = lanes-few job law in
    (omega arith, k.0, k.1, eqb-true k.0.receiver w k.2)

marked_leads : (setup : SetupView) (w r l : ℕ) → IsLawful setup.job → IsIn l (marked_lanes setup w r) → LeadsTo setup.job w l
marked_leads setup w r l law i =
    let k = in_lanes_that (λ (lane : Lane). (lane.receiver == w) && covers_edge setup r lane.edge) setup.job l i in
    let lt = slice_get_within (lanes setup.job) l k.0 k.1 in
    let few = lanes-few setup.job law in
    (omega arith, k.0, k.1, eqb-true k.0.receiver w (and_parts (k.0.receiver == w) (covers_edge setup r k.0.edge) k.2).0)

-- the entries of a lawful journal name lanes into their worker, and requests of the setup
pub law_names : (setup : SetupView) (turned : ℕ) (who : Worker) (progress : Progress) (xs : List Entry) (x : Entry) → IsLawful setup.job
    → IsExecution (duties setup turned who) progress xs → ((r : ℕ) → IsIn r progress.dues → IsIn r (dues_after setup turned who.node)) → IsIn x xs → Names setup who.number x
law_names setup turned who progress xs x law f due i =
    let q = enabled_at (duties setup turned who) progress xs x f i in
    go x q.0 q.1 (λ r j. due_within setup turned who.node r (due r (q.2 r j)))
  where
    go : (x : Entry) (p : Progress) → IsEnabled (duties setup turned who) p x → ((r : ℕ) → IsIn r p.dues → r ≤ length setup.plans) → Names setup who.number x
    go (entry.Met l t) p h few = lane_leads setup.job who.number l law (in_of_contains l (lanes_in setup.job who.number) h.0)
    go (entry.Marked l r) p h few = (
      marked_leads setup who.number r l law (in_of_contains l (marked_lanes setup who.number r) h.1),
      few r (due_in r p.dues h.0),
    )
    go (entry.Turned r) p h few = few r (due_in r p.dues h.0)
    go (entry.Ended l) p h few = lane_leads setup.job who.number l law (in_of_contains l (lanes_in setup.job who.number) h.0)
