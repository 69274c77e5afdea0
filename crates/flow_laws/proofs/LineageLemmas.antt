-- Which entry descends from which in a run from a beginning on: chains of entries, and how two of them part.
use Rattle.std.proofs.Common.{◌≡◌, ◌∙◌, ◌≢◌, ◌<◌, ◌+◌, ◌++◌, ℕ, List, [], ◌∷◌, ◌⊎◌, inl, inr, refl, sym, subst, ap, length, take, flat_map, Some, slice_get, append-nil}
use Rattle.flow_dag.specs.Edges.{HasEdge}
use Rattle.operators.specs.Laws.{IsMadeOf}
use Rattle.operators.specs.declared.output.Output.{Output}
use Rattle.operators.proofs.OutputLemmas.{outputs_made}
use Rattle.sink_journal.specs.declared.journal.Entry.{Entry}
use Rattle.sink_journal.specs.declared.journal.Entry.TheVariants as entry
use Rattle.tuple_trace.specs.declared.tuple.Item.TheVariants as item
use Rattle.tuple_trace.specs.declared.tuple.Tuple.{Tuple}
use Rattle.tuple_trace.specs.declared.tuple.Visit.{Visit}
use Rattle.flow_model.specs.Begin.{Begin}
use Rattle.flow_model.specs.Lanes.{lanes}
use Rattle.flow_model.specs.declared.topology.Lane.{Lane}
use Rattle.flow_model.specs.Replay.{Put, came_in, put_out, puts, shown, visit_at}
use Rattle.flow_model.specs.Run.{Ran}
use Rattle.flow_model.specs.Workers.{workers_in}
use Rattle.flow_model.proofs.ElementLemmas.{IsIn, in_left, in_of_place, in_right}
use Rattle.flow_model.proofs.LaneLemmas.{same_number}
use Rattle.flow_model.proofs.StoryLemmas.{Moment, put_then, story, story_get}
use Rattle.flow_model.proofs.SendingLemmas.{ComesOf, made, puts_come}
use Rattle.flow_model.proofs.WorkerLemmas.{journal_of, worker_no}
use Rattle.flow_model.proofs.PlaceLemmas.{flat_map_same, map_place}
use Rattle.flow_model.proofs.KindLemmas.{birth_grows}
use Rattle.flow_model.proofs.LineageLemmas.{Address, Meets, Passed, came_in_some, decide_address, delivered_before, meets_one, passed_then, put_before, same_address}
use Rattle.flow_laws.proofs.RunLemmas.{begun_from}

-- the moments of a worker of a run
abbrev pub story_of : Begin → Ran → ℕ → List Moment
story_of begin ran w = story ran.setup (worker_no ran.setup w) (begun_from begin ran.setup w) (journal_of ran w)

-- what a worker puts at a moment
abbrev pub puts_of : Begin → Ran → ℕ → Moment → List Put
puts_of begin ran w m = puts ran.setup (worker_no ran.setup w) m.view m.entry

-- how many items a worker has put on a lane before an entry
abbrev pub sent_before : Begin → Ran → Lane → Address → ℕ
sent_before begin ran lane p = length (flat_map (put_then ran.setup (worker_no ran.setup p.worker) lane) (take p.entry (story_of begin ran p.worker)))

-- ---- who descends from whom

-- what is met at c was put at p, and was delivered to c by this lane
pub record Child (begin : Begin) (ran : Ran) (p c : Address) : Type 0 where
  pub within : p.worker < length (workers_in ran.setup.job)
  pub n : ℕ
  pub lane : Lane
  pub numbered : slice_get (lanes ran.setup.job) n ≡ Some lane
  pub receiver : lane.receiver ≡ c.worker
  pub edge : HasEdge ran.setup.job.edges (worker_no ran.setup p.worker).node (worker_no ran.setup c.worker).node
  pub tuple : Tuple
  pub met : slice_get (journal_of ran c.worker) c.entry ≡ Some (entry.Met n tuple)
  pub moment : Moment
  pub there : slice_get (story_of begin ran p.worker) p.entry ≡ Some moment
  pub k : ℕ
  pub put : Put
  pub put_is : slice_get (puts_of begin ran p.worker moment) k ≡ Some put
  pub on : put.lane ≡ Some lane
  pub carries : item.Carry tuple ≡ put.item
  pub place : delivered_before ran n c ≡ sent_before begin ran lane p + put_before lane k (puts_of begin ran p.worker moment)

-- what a child has of its parent
pub record Born (begin : Begin) (ran : Ran) (p c : Address) (k : Child begin ran p c) : Type 0 where
  pub tuple : Tuple
  pub meets : Meets ran p tuple
  pub out : Output
  pub made_so : slice_get (made ran.setup (worker_no ran.setup p.worker) k.moment.view tuple) k.k ≡ Some out
  pub is : k.tuple ≡ out.tuple
  pub put_so : k.put ≡ put_out ran.setup.job (worker_no ran.setup p.worker) out
  pub made_of : IsMadeOf ran.setup.job.edges (visit_at (worker_no ran.setup p.worker) k.moment.view) k.moment.view.func tuple k.k out

pub born : (begin : Begin) (ran : Ran) (p c : Address) (k : Child begin ran p c) → Born begin ran p c k
born begin ran p c k =
    go k.moment.entry refl k.put_is
    (subst (λ x. ComesOf ran.setup (worker_no ran.setup p.worker) k.moment.view k.moment.entry x) (sym k.carries)
    (puts_come ran.setup (worker_no ran.setup p.worker) k.moment.view k.moment.entry k.put (in_of_place k.put (puts_of begin ran p.worker k.moment) k.k k.put_is)))
  where
    go : (e : Entry) → k.moment.entry ≡ e → slice_get (puts ran.setup (worker_no ran.setup p.worker) k.moment.view e) k.k ≡ Some k.put
        → ComesOf ran.setup (worker_no ran.setup p.worker) k.moment.view e (item.Carry k.tuple) → Born begin ran p c k
    go (entry.Met l t) e g h =
        let r = map_place (put_out ran.setup.job (worker_no ran.setup p.worker)) (made ran.setup (worker_no ran.setup p.worker) k.moment.view t) k.k k.put g in
        let same : item.Carry k.tuple ≡ item.Carry r.0.tuple = k.carries ∙ ap (λ (p : Put). p.item) r.2 in
        record {
          tuple = t;
          meets = (l, story_get ran.setup (worker_no ran.setup p.worker) (begun_from begin ran.setup p.worker) (journal_of ran p.worker) p.entry k.moment k.there ∙ ap Some e);
          out = r.0;
          made_so = r.1;
          is = cc;
          put_so = r.2;
          made_of = outputs_made ran.setup.job (visit_at (worker_no ran.setup p.worker) k.moment.view) k.moment.view.func k.moment.view.counts t k.k r.0 r.1;
        }
    go (entry.Marked l r) e g h = absurd h
    go (entry.Turned r) e g h = let x = h.2 in absurd (cc)
    go (entry.Ended l) e g h = absurd (cc)

-- ---- two children of one entry

-- different children are different outputs
pub record Parted (begin : Begin) (ran : Ran) (p a b : Address) : Type 0 where
  pub first : Child begin ran p a
  pub second : Child begin ran p b
  pub same_moment : first.moment ≡ second.moment
  pub other_output : first.k ≢ second.k

pub parted : (begin : Begin) (ran : Ran) (p a b : Address) → Child begin ran p a → Child begin ran p b → a ≢ b → Parted begin ran p a b
parted begin ran p a b c d differ = record { first = c; second = d; same_moment = one; other_output = λ e. differ (same e) }
  where
    one : c.moment ≡ d.moment
    one = let x = c.there in let y = d.there in cc

    same_put : c.k ≡ d.k → c.put ≡ d.put
    same_put e =
        let x = c.put_is in
        let y : slice_get (puts_of begin ran p.worker c.moment) d.k ≡ Some d.put = subst (λ (m : Moment). slice_get (puts_of begin ran p.worker m) d.k ≡ Some d.put) (sym one) d.put_is in
        let z : slice_get (puts_of begin ran p.worker c.moment) c.k ≡ Some d.put = subst (λ k. slice_get (puts_of begin ran p.worker c.moment) k ≡ Some d.put) (sym e) y in
        cc

    same_lane : c.k ≡ d.k → c.lane ≡ d.lane
    same_lane e =
        let x : c.put ≡ d.put = same_put e in
        let y : Some c.lane ≡ Some d.lane = sym c.on ∙ (ap (λ (p : Put). p.lane) x ∙ d.on) in
        cc

    same : c.k ≡ d.k → a ≡ b
    same e =
        let lane : c.lane ≡ d.lane = same_lane e in
        let number : c.n ≡ d.n = same_number ran.setup.job c.lane d.lane c.n d.n c.numbered d.numbered lane in
        let worker : a.worker ≡ b.worker = sym c.receiver ∙ (ap (λ (l : Lane). l.receiver) lane ∙ d.receiver) in
        let place : delivered_before ran c.n a ≡ delivered_before ran d.n b =
        c.place
        ∙ (ap (λ (l : Lane). sent_before begin ran l p + put_before l c.k (puts_of begin ran p.worker c.moment)) lane
        ∙ (ap (λ k. sent_before begin ran d.lane p + put_before d.lane k (puts_of begin ran p.worker c.moment)) e
        ∙ (ap (λ (m : Moment). sent_before begin ran d.lane p + put_before d.lane d.k (puts_of begin ran p.worker m)) one ∙ sym d.place))) in
        let here : delivered_before ran c.n a ≡ length (shown ran.setup c.n (take b.entry (journal_of ran a.worker))) =
        place
        ∙ (ap (λ n. delivered_before ran n b) (sym number) ∙ ap (λ w. length (shown ran.setup c.n (take b.entry (journal_of ran w)))) (sym worker)) in
        let met : slice_get (journal_of ran a.worker) b.entry ≡ Some (entry.Met c.n d.tuple) =
        subst (λ w. slice_get (journal_of ran w) b.entry ≡ Some (entry.Met c.n d.tuple)) (sym worker) (subst (λ n. slice_get (journal_of ran b.worker) b.entry ≡ Some (entry.Met n d.tuple)) (sym number) d.met) in
        same_address a b worker
        (flat_map_same (came_in ran.setup c.n) (journal_of ran a.worker) a.entry b.entry (entry.Met c.n c.tuple) (entry.Met c.n d.tuple) c.met met
        (came_in_some ran.setup c.n c.tuple) (came_in_some ran.setup c.n d.tuple) here)

-- ---- chains

-- each of these is a child of the one before it, from p down to c
abbrev pub IsChain : Begin → Ran → Address → List Address → Address → Type 0
IsChain begin ran p [] c = p ≡ c
IsChain begin ran p (a ∷ more) c = Child begin ran p a × IsChain begin ran a more c

pub chain_push : (begin : Begin) (ran : Ran) (p c d : Address) (chain : List Address) → IsChain begin ran p chain c → Child begin ran c d → IsChain begin ran p (chain ++ d ∷ []) d
chain_push begin ran p c d [] h k = (subst (λ x. Child begin ran x d) (sym h) k, refl)
chain_push begin ran p c d (a ∷ chain) h k = (h.0, chain_push begin ran a c d chain h.1 k)

passed_child : (begin : Begin) (ran : Ran) (p c : Address) (k : Child begin ran p c) → Passed (born begin ran p c k).tuple k.tuple
passed_child begin ran p c k =
    let b : Born begin ran p c k = born begin ran p c k in
    let g = birth_grows k.moment.view.func b.tuple.birth k.k b.out.port in
    record {
      row = ap (λ (t : Tuple). t.row) b.is ∙ b.made_of.row;
      issued = ap (λ (t : Tuple). t.issued) b.is ∙ b.made_of.issued;
      later = visit_at (worker_no ran.setup p.worker) k.moment.view ∷ [];
      trace = ap (λ (t : Tuple). t.trace) b.is ∙ b.made_of.trace;
      pieces = g.0;
      birth = ap (λ (t : Tuple). t.birth) b.is ∙ (b.made_of.birth ∙ g.1);
    }

pub passed : (begin : Begin) (ran : Ran) (p c : Address) (chain : List Address) (t u : Tuple) → IsChain begin ran p chain c → Meets ran p t → Meets ran c u → Passed t u
passed begin ran p c [] t u h m n =
    let e : u ≡ t = sym (meets_one ran c t u (subst (λ a. Meets ran a t) h m) n) in
    record {
      row = ap (λ (t : Tuple). t.row) e;
      issued = ap (λ (t : Tuple). t.issued) e;
      later = [];
      trace = ap (λ (t : Tuple). t.trace) e ∙ sym (append-nil t.trace);
      pieces = [];
      birth = ap (λ (t : Tuple). t.birth) e ∙ sym (append-nil t.birth);
    }
passed begin ran p c (a ∷ chain) t u h m n =
    let k : Child begin ran p a = h.0 in
    let e : (born begin ran p a k).tuple ≡ t = meets_one ran p (born begin ran p a k).tuple t (born begin ran p a k).meets m in
    passed_then t k.tuple u (subst (λ x. Passed x k.tuple) e (passed_child begin ran p a k)) (passed begin ran a c chain k.tuple u h.1 (k.n, k.met) n)

-- the visit at p is in the trace of its descendants
pub visit_of : (begin : Begin) (ran : Ran) (p a c : Address) (chain : List Address) (u : Tuple) (k : Child begin ran p a) → IsChain begin ran a chain c → Meets ran c u
    → IsIn (visit_at (worker_no ran.setup p.worker) k.moment.view) u.trace
visit_of begin ran p a c chain u k h n =
    let v : Visit = visit_at (worker_no ran.setup p.worker) k.moment.view in
    let q : Passed k.tuple u = passed begin ran a c chain k.tuple u h (k.n, k.met) n in
    let b : Born begin ran p a k = born begin ran p a k in
    subst (λ (l : List Visit). IsIn v l) (sym q.trace) (in_left v k.tuple.trace q.later
    (subst (λ (l : List Visit). IsIn v l) (sym (ap (λ (t : Tuple). t.trace) b.is ∙ b.made_of.trace)) (in_right v b.tuple.trace (v ∷ []) (inl refl))))

-- ---- two entries that share a root

-- of two entries that come of one, one comes of the other, or they parted at an entry between
abbrev pub ShareRoot : Begin → Ran → Address → Address → Type 0
ShareRoot begin ran c d =
    ((chain : List Address) × IsChain begin ran c chain d)
    ⊎ (((chain : List Address) × IsChain begin ran d chain c)
    ⊎ ((p : Address) × (a : Address) × (b : Address) × Child begin ran p a × Child begin ran p b × (a ≢ b)
    × ((chain : List Address) × IsChain begin ran a chain c) × ((chain : List Address) × IsChain begin ran b chain d)))

pub share_root : (begin : Begin) (ran : Ran) (root c d : Address) (first second : List Address) → IsChain begin ran root first c → IsChain begin ran root second d → ShareRoot begin ran c d
share_root begin ran root c d [] second h k = inl (second, subst (λ a. IsChain begin ran a second d) h k)
share_root begin ran root c d (a ∷ first) [] h k = inr (inl (a ∷ first, subst (λ x. IsChain begin ran x (a ∷ first) c) k h))
share_root begin ran root c d (a ∷ first) (b ∷ second) h k =
    elim (decide_address a b) [
      | inl e ↦ share_root begin ran a c d first second h.1 (subst (λ x. IsChain begin ran x second d) (sym e) k.1)
      | inr n ↦ inr (inr (root, a, b, h.0, k.0, n, (first, h.1), (second, k.1)))
    ]
