-- In a run from a beginning on each identity is met once at the workers of a node.
use Rattle.std.proofs.Common.{◌≡◌, ◌∙◌, ◌≢◌, ◌<◌, ◌≤◌, ◌++◌, ℕ, List, [], ◌∷◌, inl, inr, refl, sym, subst, ap, arith, length, take, flat_map, filter_map, Some, None, Option, slice_get}
use Rattle.std.specs.List.{cons_option}
use Rattle.std.proofs.lemmas.Option.{slice_get-get_or}
use Rattle.sink_journal.specs.Alerts.{met}
use Rattle.sink_journal.specs.declared.journal.Entry.{Entry}
use Rattle.sink_journal.specs.declared.journal.Entry.TheVariants as entry
use Rattle.tuple_trace.specs.declared.row.Row.{Row}
use Rattle.flow_model.specs.Begin.{Begin}
use Rattle.flow_model.specs.SetupView.{Worker}
use Rattle.flow_model.specs.Run.{Ran}
use Rattle.flow_model.specs.Whole.{IsMetOnce, identities, journals_at}
use Rattle.flow_model.specs.Workers.{workers_at_node}
use Rattle.flow_model.proofs.ElementLemmas.{AreDistinct, IsIn, distinct_append, distinct_by_place, distinct_pairs, in_filter_map, in_flat_map, place_of_in}
use Rattle.flow_model.proofs.WorkerLemmas.{Stands, journal_is, journal_of, worker_no, workers_at_node_distinct, in_workers_at_node, same_who, stands_at}
use Rattle.flow_model.proofs.StoryLemmas.{story_at}
use Rattle.flow_model.proofs.KindLemmas.{ArePieces, pieces_stay_apart}
use Rattle.flow_model.proofs.LineageLemmas.{Address, Passed}
use Rattle.flow_model.proofs.OnceLemmas.{IsNamed, named}
use Rattle.flow_laws.proofs.LineageLemmas.{Child, IsChain, Parted, ShareRoot, parted, passed}
use Rattle.flow_laws.proofs.RunLemmas.{RunningFrom, begun_from}
use Rattle.flow_laws.proofs.WholeLemmas.{HasParted, Meeting, has_parted, share_root_of_row}

-- ---- ranks rise down a chain

child_rises : (begin : Begin) (rows : List Row) (ran : Ran) (g : RunningFrom begin rows ran) (p c : Address) → Child begin ran p c → g.connected.rank (worker_no ran.setup p.worker).node < g.connected.rank (worker_no ran.setup c.worker).node
child_rises begin rows ran g p c k =
    let (i, edge, lt, at, (from, to)) = k.edge in
    let up : g.connected.rank edge.from < g.connected.rank edge.to = g.connected.forward i edge (slice_get-get_or ran.setup.job.edges i edge lt ∙ ap Some at) in
    let a : g.connected.rank edge.from ≡ g.connected.rank (worker_no ran.setup p.worker).node = ap g.connected.rank from in
    let b : g.connected.rank edge.to ≡ g.connected.rank (worker_no ran.setup c.worker).node = ap g.connected.rank to in
    omega arith

chain_rises : (begin : Begin) (rows : List Row) (ran : Ran) (g : RunningFrom begin rows ran) (p c : Address) (chain : List Address) → IsChain begin ran p chain c
    → g.connected.rank (worker_no ran.setup p.worker).node ≤ g.connected.rank (worker_no ran.setup c.worker).node
chain_rises begin rows ran g p c [] h =
    let e : g.connected.rank (worker_no ran.setup p.worker).node ≡ g.connected.rank (worker_no ran.setup c.worker).node = ap (λ (x : Address). g.connected.rank (worker_no ran.setup x.worker).node) h in omega arith
chain_rises begin rows ran g p c (a ∷ chain) h =
    let lt = child_rises begin rows ran g p a h.0 in
    let le = chain_rises begin rows ran g a c chain h.1 in
    omega (arith, lt, le)

-- down a chain to the same node there is no step
stays : (begin : Begin) (rows : List Row) (ran : Ran) (g : RunningFrom begin rows ran) (p c : Address) (chain : List Address) → (worker_no ran.setup p.worker).node ≡ (worker_no ran.setup c.worker).node → IsChain begin ran p chain c → p ≡ c
stays begin rows ran g p c [] e h = h
stays begin rows ran g p c (a ∷ chain) e h =
    let lt = child_rises begin rows ran g p a h.0 in
    let le = chain_rises begin rows ran g a c chain h.1 in
    let q : g.connected.rank (worker_no ran.setup p.worker).node ≡ g.connected.rank (worker_no ran.setup c.worker).node = ap g.connected.rank e in
    absurd (omega (arith, lt, le))

-- ---- two entries with one identity at one node are one

module _ (begin : Begin) (rows : List Row) (ran : Ran) (g : RunningFrom begin rows ran) (row : ℕ) (c d : Address) (m : Meeting begin ran row c) (n : Meeting begin ran row d)
    (node : (worker_no ran.setup c.worker).node ≡ (worker_no ran.setup d.worker).node) (birth : m.tuple.birth ≡ n.tuple.birth)
  where
    between : (p a b : Address) → Child begin ran p a → Child begin ran p b → a ≢ b → (s t : List Address) → IsChain begin ran a s c → IsChain begin ran b t d → ⊥
    between p a b x y differ s t u v =
        let k : Parted begin ran p a b = parted begin ran p a b x y differ in
        let h : HasParted begin ran p a b k = has_parted begin rows ran g p a b k in
        let q : ArePieces h.func h.tuple.birth k.first.tuple.birth k.second.tuple.birth = h.pieces in
        let pc : Passed k.first.tuple m.tuple = passed begin ran a c s k.first.tuple m.tuple u (k.first.n, k.first.met) m.meets in
        let pd : Passed k.second.tuple n.tuple = passed begin ran b d t k.second.tuple n.tuple v (k.second.n, k.second.met) n.meets in
        let bc : m.tuple.birth ≡ (h.tuple.birth ++ q.one ∷ []) ++ pc.pieces = pc.birth ∙ ap (λ (xs : List ℕ). xs ++ pc.pieces) q.first_is in
        let bd : n.tuple.birth ≡ (h.tuple.birth ++ q.other ∷ []) ++ pd.pieces = pd.birth ∙ ap (λ (xs : List ℕ). xs ++ pd.pieces) q.second_is in
        q.differ (pieces_stay_apart h.tuple.birth q.one q.other m.tuple.birth n.tuple.birth pc.pieces pd.pieces bc bd birth)

    by_root : ShareRoot begin ran c d → c ≡ d
    by_root (inl h) = stays begin rows ran g c d h.0 node h.1
    by_root (inr (inl h)) = sym (stays begin rows ran g d c h.0 (sym node) h.1)
    by_root (inr (inr h)) = absurd (between h.0 h.1 h.2 h.3 h.4 h.5 h.6.0 h.7.0 h.6.1 h.7.1)

    pub one_entry : c ≡ d
    one_entry = by_root (share_root_of_row begin rows ran g row c d m n)

-- ---- the list of identities

-- two places of two workers of a node with one identity are one place of one worker
same_identity : (begin : Begin) (rows : List Row) (ran : Ran) (g : RunningFrom begin rows ran) (node w v i j : ℕ) (x : ℕ × List ℕ) → Stands ran.setup node w → Stands ran.setup node v
    → slice_get (identities (journal_of ran w)) i ≡ Some x → slice_get (identities (journal_of ran v)) j ≡ Some x → (w ≡ v) × (i ≡ j)
same_identity begin rows ran g node w v i j x sw sv a b =
    let p : IsNamed (journal_of ran w) i x = named (journal_of ran w) i x a in
    let q : IsNamed (journal_of ran v) j x = named (journal_of ran v) j x b in
    let mw = story_at ran.setup (worker_no ran.setup w) (begun_from begin ran.setup w) (journal_of ran w) p.i (entry.Met p.lane p.tuple) p.met_there in
    let mv = story_at ran.setup (worker_no ran.setup v) (begun_from begin ran.setup v) (journal_of ran v) q.i (entry.Met q.lane q.tuple) q.met_there in
    let row : q.tuple.row ≡ p.tuple.row = ap (λ (x : ℕ × List ℕ). x.0) (sym q.is ∙ p.is) in
    let birth : p.tuple.birth ≡ q.tuple.birth = ap (λ (x : ℕ × List ℕ). x.1) (sym p.is ∙ q.is) in
    let one : ◌≡◌ {A = Address} (record { worker = w; entry = p.i }) (record { worker = v; entry = q.i }) =
    one_entry begin rows ran g p.tuple.row (record { worker = w; entry = p.i }) (record { worker = v; entry = q.i })
    (record { tuple = p.tuple; meets = (p.lane, p.met_there); is_row = refl; moment = mw.0; there = mw.1; within = sw.within })
    (record { tuple = q.tuple; meets = (q.lane, q.met_there); is_row = row; moment = mv.0; there = mv.1; within = sv.within })
    (sw.node_is ∙ sym sv.node_is) birth in
    let ew : w ≡ v = ap (λ (a : Address). a.worker) one in
    let ei : p.i ≡ q.i = ap (λ (a : Address). a.entry) one in
    (ew, p.place ∙ (ap (λ i. length (filter_map met (take i (journal_of ran w)))) ei ∙ (ap (λ w. length (filter_map met (take q.i (journal_of ran w)))) ew ∙ sym q.place)))

pub met_once : (begin : Begin) (rows : List Row) (ran : Ran) (g : RunningFrom begin rows ran) (node : ℕ) → IsMetOnce ran node
met_once begin rows ran g node =
    distinct_pairs (flat_map identities (journals_at ran.journals (workers_at_node ran.setup.job node))) (each (workers_at_node ran.setup.job node) (λ p h. h) (workers_at_node_distinct ran.setup.job node))
  where
    each : (ps : List Worker) → ((p : Worker) → IsIn p ps → IsIn p (workers_at_node ran.setup.job node)) → AreDistinct ps → AreDistinct (flat_map identities (journals_at ran.journals ps))
    each [] h d = tt
    each (p ∷ ps) h d = go (slice_get ran.journals p.number) refl (each ps (λ q k. h q (inr k)) d.1)
      where
        go : (o : Option (List Entry)) → slice_get ran.journals p.number ≡ o → AreDistinct (flat_map identities (journals_at ran.journals ps))
            → AreDistinct (flat_map identities (cons_option o (journals_at ran.journals ps)))
        go None e rest = rest
        go (Some journal) e rest =
            let here : journal_of ran p.number ≡ journal = journal_is ran p.number journal e in
            let st : Stands ran.setup node p.number = (stands_at ran.setup node p (h p (inl refl))).1 in
            let in_here : (i : ℕ) (x : ℕ × List ℕ) → slice_get (identities journal) i ≡ Some x → slice_get (identities (journal_of ran p.number)) i ≡ Some x =
            λ i x a. subst (λ (l : List Entry). slice_get (identities l) i ≡ Some x) (sym here) a in
            distinct_append (identities journal) (flat_map identities (journals_at ran.journals ps))
            (distinct_by_place (identities journal) (λ i j x a b. (same_identity begin rows ran g node p.number p.number i j x st st (in_here i x a) (in_here j x b)).1))
            rest
            (λ x a b.
            let f = in_flat_map identities x (journals_at ran.journals ps) b in
            let q = in_filter_map (λ (who : Worker). slice_get ran.journals who.number) f.0 ps f.1 in
            let there : journal_of ran q.0.number ≡ f.0 = journal_is ran q.0.number f.0 q.2 in
            let sq : Stands ran.setup node q.0.number = (stands_at ran.setup node q.0 (h q.0 (inr q.1))).1 in
            let i = place_of_in x (identities journal) a in
            let j = place_of_in x (identities f.0) f.2 in
            let e = same_identity begin rows ran g node p.number q.0.number i.0 j.0 x st sq (in_here i.0 x i.1)
            (subst (λ (l : List Entry). slice_get (identities l) j.0 ≡ Some x) (sym there) j.1) in
            d.0 (subst (λ (y : Worker). IsIn y ps) (same_who ran.setup.job q.0 p (in_workers_at_node ran.setup.job node q.0 (h q.0 (inr q.1))).0 (in_workers_at_node ran.setup.job node p (h p (inl refl))).0 (sym e.0)) q.1))
