-- Where the outputs of a worker go.
use Rattle.std.proofs.Common.{◌≡◌, ◌∙◌, ◌+◌, ◌==◌, ◌<◌, ◌≤◌, ℕ, zero, suc, List, [], ◌∷◌, ◌++◌, Bool, true, false, cond, map, length, set, get_or, refl, sym, ap, subst, arith, Some, None, Option, slice_get, append_assoc, append-nil, length-append}
use Rattle.std.specs.List.{cons_option}
use Rattle.std.proofs.lemmas.List.{length-map}
use Rattle.std.proofs.lemmas.Bool.{eq-eqb, eqb-true}
use Rattle.std.proofs.lemmas.Bool.Decides.{nat_tests}
use Rattle.std.proofs.lemmas.List.Elements.{filter_map-append}
use Rattle.std.proofs.lemmas.Option.{same_Some}
use Rattle.jobs.specs.Law.{IsLawful}
use Rattle.jobs.specs.JobView.{JobView}
use Rattle.operators.specs.declared.output.Output.{Output}
use Rattle.tuple_trace.specs.declared.tuple.Item.{Item}
use Rattle.tuple_trace.specs.declared.tuple.Item.TheVariants.{Carry}
use Rattle.tuple_trace.specs.declared.tuple.Tuple.{Tuple}
use Rattle.flow_model.specs.Lanes.{is_same_lane, lane_of, lanes, lanes_out, out_numbers}
use Rattle.flow_model.specs.declared.topology.Lane.{Lane}
use Rattle.flow_model.specs.SetupView.{Worker as WorkerOf}
use Rattle.flow_model.specs.Replay.{item_on, put_out}
use Rattle.flow_model.proofs.ElementLemmas.{same_place}
use Rattle.flow_model.proofs.LaneLemmas.{lane_self, same_lane}
use Rattle.flow_model.specs.Topology.{out_edges}
use Rattle.flow_model.specs.declared.topology.OutEdge.{OutEdge}
use Rattle.flow_model.proofs.OutLanes.{out_distinct}
use Rattle.flow_worker.specs.Pairs.{EachOne, EachPair}
use Rattle.flow_worker.specs.Endpoints.{Appended, HasRoomFor, LaneOutIs}
use Rattle.flow_worker.specs.Steps.{items_at, items_if, place_from}
use Rattle.flow_worker.specs.Worker.{IsSenderAt, lane_numbers_out}
use Rattle.sink_journal.proofs.SmallLemmas.{get_mapped}
use Rattle.flow_worker.proofs.OutputPlaces.{lane_at, no_route, place_below, route}

-- ---- one output

abbrev pub puts_at : JobView → WorkerOf → List Output → ℕ → List Item
puts_at job who made number = items_at job (map (put_out job who) made) number

-- the output goes to the lane at its place alone
one_at : (job : JobView) (who : WorkerOf) (output : Output) (place j number : ℕ) (lane : Lane) → lane_of job (Some who.number) who.node output.port output.tuple ≡ Some lane
    → slice_get (lanes_out job who.number) place ≡ Some lane → slice_get (out_numbers job who.number) j ≡ Some number
    → puts_at job who (output ∷ []) number ≡ cond (j == place) (Carry output.tuple ∷ []) []
one_at job who output place j number lane of at g = rw (here.2, of) (go (is_same_lane (Some lane) here.0) refl (j == place) refl)
  where
    here : (l : Lane) × (slice_get (lanes_out job who.number) j ≡ Some l) × (slice_get (lanes job) number ≡ Some l)
    here = lane_at job who.number j number g

    go : (a : Bool) → is_same_lane (Some lane) here.0 ≡ a → (b : Bool) → (j == place) ≡ b
        → cons_option (cond a (Some (Carry output.tuple)) None) [] ≡ cond b (Carry output.tuple ∷ []) []
    go true s true p = refl
    go false s false p = refl
    go true s false p =
        let equal : lane ≡ here.0 = same_Some lane here.0 (same_lane (Some lane) here.0 s) in
        let same : slice_get (lanes_out job who.number) j ≡ Some lane = here.1 ∙ ap Some (sym equal) in
        let k : j ≡ place = same_place lane j place (lanes_out job who.number) (out_distinct job who.number) same at in
        absurd (let t : (j == place) ≡ true = eq-eqb j place k in cc)
    go false s true p =
        let k : j ≡ place = eqb-true j place p in
        let same : slice_get (lanes_out job who.number) place ≡ Some here.0 = subst (λ n. slice_get (lanes_out job who.number) n ≡ Some here.0) k here.1 in
        let equal : here.0 ≡ lane = cc in
        absurd (let t : is_same_lane (Some lane) here.0 ≡ true = rw equal (lane_self lane) in cc)

more_puts : (job : JobView) (who : WorkerOf) (output : Output) (rest : List Output) (number : ℕ) → puts_at job who (output ∷ rest) number ≡ puts_at job who (output ∷ []) number ++ puts_at job who rest number
more_puts job who output rest number = go (slice_get (lanes job) number)
  where
    go : (o : Option Lane) → items_if o (map (put_out job who) (output ∷ rest)) ≡ items_if o (map (put_out job who) (output ∷ [])) ++ items_if o (map (put_out job who) rest)
    go None = refl
    go (Some lane) = filter_map-append (item_on lane) (put_out job who output ∷ []) (map (put_out job who) rest)

-- ---- outputs, one after another

-- what still has to come completes what the lane gained, and there is memory for it
abbrev pub Comes : JobView → WorkerOf → List Output → List Output → LaneOutIs → LaneOutIs → Type 0
Comes job who all left a b =
    (items : List Item) × (b ≡ record a { waiting = a.waiting ++ items }) × (items ++ puts_at job who left a.number ≡ puts_at job who all a.number) × (length b.waiting + length left ≤ b.memory)

pub comes_first : (job : JobView) (who : WorkerOf) (all : List Output) (outs : List LaneOutIs) → EachOne (HasRoomFor (length all)) outs → EachPair (Comes job who all all) outs outs
comes_first job who all [] e = tt
comes_first job who all (a ∷ more) e = (([], ap (λ xs. record a { waiting = xs }) (sym (append-nil a.waiting)), refl, e.0), comes_first job who all more e.1)

no_puts : (job : JobView) (who : WorkerOf) (number : ℕ) → puts_at job who [] number ≡ []
no_puts job who number = go (slice_get (lanes job) number)
  where
    go : (o : Option Lane) → items_if o [] ≡ []
    go None = refl
    go (Some lane) = refl

pub comes_last : (job : JobView) (who : WorkerOf) (all : List Output) (outs now : List LaneOutIs) → EachPair (Comes job who all []) outs now → EachPair (Appended (λ (o : LaneOutIs). puts_at job who all o.number)) outs now
comes_last job who all [] [] p = tt
comes_last job who all [] (b ∷ bs) p = absurd p
comes_last job who all (a ∷ more) [] p = absurd p
comes_last job who all (a ∷ more) (b ∷ bs) p =
    (subst (λ xs. b ≡ record a { waiting = a.waiting ++ xs }) (sym (append-nil p.0.0) ∙ (ap (λ xs. p.0.0 ++ xs) (sym (no_puts job who a.number)) ∙ p.0.2)) p.0.1, comes_last job who all more bs p.1)

-- the output is for none of these lanes
comes_skip : (job : JobView) (who : WorkerOf) (all rest : List Output) (output : Output) (a b : LaneOutIs) → puts_at job who (output ∷ []) a.number ≡ [] → Comes job who all (output ∷ rest) a b → Comes job who all rest a b
comes_skip job who all rest output a b none p =
    (p.0, p.1, ap (λ xs. p.0 ++ xs) (sym (more_puts job who output rest a.number ∙ ap (λ xs. xs ++ puts_at job who rest a.number) none)) ∙ p.2, (let l = p.3 in omega arith))

pub comes_none : (job : JobView) (who : WorkerOf) (all rest : List Output) (output : Output) (outs now : List LaneOutIs) → ((number : ℕ) → puts_at job who (output ∷ []) number ≡ [])
    → EachPair (Comes job who all (output ∷ rest)) outs now → EachPair (Comes job who all rest) outs now
comes_none job who all rest output [] [] none p = tt
comes_none job who all rest output [] (b ∷ bs) none p = absurd p
comes_none job who all rest output (a ∷ more) [] none p = absurd p
comes_none job who all rest output (a ∷ more) (b ∷ bs) none p = (comes_skip job who all rest output a b (none a.number) p.0, comes_none job who all rest output more bs none p.1)

-- the output waits on the lane at k now
comes_one : (job : JobView) (who : WorkerOf) (all rest : List Output) (output : Output) (a b z : LaneOutIs) → puts_at job who (output ∷ []) a.number ≡ Carry output.tuple ∷ []
    → z ≡ record b { waiting = b.waiting ++ Carry output.tuple ∷ [] } → Comes job who all (output ∷ rest) a b → Comes job who all rest a z
comes_one job who all rest output a b z one h p =
    let item : Item = Carry output.tuple in
    let waits : z.waiting ≡ b.waiting ++ item ∷ [] = ap (λ (o : LaneOutIs). o.waiting) h in
    let mem : z.memory ≡ b.memory = ap (λ (o : LaneOutIs). o.memory) h in
    let len : length z.waiting ≡ length b.waiting + 1 = ap length waits ∙ length-append b.waiting (item ∷ []) in
    let room : length b.waiting + length (output ∷ rest) ≤ b.memory = p.3 in (
      p.0 ++ item ∷ [],
      h ∙ (ap (λ (o : LaneOutIs). record o { waiting = o.waiting ++ item ∷ [] }) p.1 ∙ ap (λ xs. record a { waiting = xs }) (append_assoc a.waiting p.0 (item ∷ []))),
      append_assoc p.0 (item ∷ []) (puts_at job who rest a.number) ∙ (ap (λ xs. p.0 ++ xs) (ap (λ xs. xs ++ puts_at job who rest a.number) (sym one) ∙ sym (more_puts job who output rest a.number)) ∙ p.2),
      omega (arith, len, mem, room),
    )

comes_at : (job : JobView) (who : WorkerOf) (all rest : List Output) (output : Output) (i k : ℕ) (d z : LaneOutIs) (outs now : List LaneOutIs)
    → ((j : ℕ) (a : LaneOutIs) → slice_get outs j ≡ Some a → puts_at job who (output ∷ []) a.number ≡ cond (i + j == i + k) (Carry output.tuple ∷ []) [])
    → k < length now → z ≡ record (get_or now k d) { waiting = (get_or now k d).waiting ++ Carry output.tuple ∷ [] } → EachPair (Comes job who all (output ∷ rest)) outs now
    → EachPair (Comes job who all rest) outs (set now k z)
comes_at job who all rest output i k d z [] [] f l h p = absurd (omega arith)
comes_at job who all rest output i k d z [] (b ∷ bs) f l h p = absurd p
comes_at job who all rest output i k d z (a ∷ more) [] f l h p = absurd p
comes_at job who all rest output i zero d z (a ∷ more) (b ∷ bs) f l h p =
    let t : (i + 0 == i + 0) ≡ true = eq-eqb (i + 0) (i + 0) refl in
    (comes_one job who all rest output a b z (f 0 a refl ∙ ap (λ c. cond c (Carry output.tuple ∷ []) []) t) h p.0, skip_all 0 more bs (λ j x g. f (suc j) x g ∙ ap (λ n. cond (i + suc n == i + 0) (Carry output.tuple ∷ []) []) (omega arith)) p.1)
  where
    skip_all : (m : ℕ) (outs now : List LaneOutIs) → ((j : ℕ) (a : LaneOutIs) → slice_get outs j ≡ Some a → puts_at job who (output ∷ []) a.number ≡ cond (i + suc (m + j) == i + 0) (Carry output.tuple ∷ []) [])
        → EachPair (Comes job who all (output ∷ rest)) outs now → EachPair (Comes job who all rest) outs now
    skip_all m [] [] f p = tt
    skip_all m [] (b ∷ bs) f p = absurd p
    skip_all m (a ∷ more) [] f p = absurd p
    skip_all m (a ∷ more) (b ∷ bs) f p =
        let t : (i + suc (m + 0) == i + 0) ≡ false = grind (arith, nat_tests) in (
          comes_skip job who all rest output a b (f 0 a refl ∙ ap (λ c. cond c (Carry output.tuple ∷ []) []) t) p.0,
          skip_all (suc m) more bs (λ j x g. f (suc j) x g ∙ ap (λ n. cond (i + suc n == i + 0) (Carry output.tuple ∷ []) []) (omega arith)) p.1,
        )
comes_at job who all rest output i (suc k) d z (a ∷ more) (b ∷ bs) f l h p =
    let t : (i + 0 == i + suc k) ≡ false = grind (arith, nat_tests) in (
      comes_skip job who all rest output a b (f 0 a refl ∙ ap (λ c. cond c (Carry output.tuple ∷ []) []) t) p.0,
      comes_at job who all rest output (i + 1) k d z more bs
          (λ j x g. f (suc j) x g ∙ (ap (λ n. cond (n == i + suc k) (Carry output.tuple ∷ []) []) (omega arith) ∙ ap (λ n. cond ((i + 1) + j == n) (Carry output.tuple ∷ []) []) (omega arith)))
          (omega arith) h p.1,
    )

pub comes_room : (job : JobView) (who : WorkerOf) (all rest : List Output) (output : Output) (k : ℕ) (d : LaneOutIs) (outs now : List LaneOutIs) → k < length now → EachPair (Comes job who all (output ∷ rest)) outs now
    → length (get_or now k d).waiting < (get_or now k d).memory
comes_room job who all rest output k d [] [] l p = absurd (omega arith)
comes_room job who all rest output k d [] (b ∷ bs) l p = absurd p
comes_room job who all rest output k d (a ∷ more) [] l p = absurd p
comes_room job who all rest output zero d (a ∷ more) (b ∷ bs) l p = let r : length b.waiting + length (output ∷ rest) ≤ b.memory = p.0.3 in omega (arith, r)
comes_room job who all rest output (suc k) d (a ∷ more) (b ∷ bs) l p = comes_room job who all rest output k d more bs (omega arith) p.1

-- ---- together

module _ (job : JobView) (node : ℕ) (law : IsLawful job) (who : WorkerOf) (outs : List LaneOutIs) (is : IsSenderAt job node who (lane_numbers_out outs)) where
  exits_same : out_edges job node ≡ out_edges job who.node
  exits_same = ap (out_edges job) (sym is.node_is)

  pub place_within : (port : ℕ) (tuple : Tuple) (place : ℕ) (exits : List OutEdge) → exits ≡ out_edges job node → place_from job 0 exits port tuple ≡ Some place → place < length outs
  place_within port tuple place exits same e =
      let r = route job who port tuple place law is.there (subst (λ xs. place_from job 0 xs port tuple ≡ Some place) (same ∙ exits_same) e) in
      let l = place_below job who.number place r.0 (lane_numbers_out outs) is.numbers_are r.2 in
      omega (arith, l, length-map outs (λ (o : LaneOutIs). o.number))

  pub delivers : (all rest : List Output) (output : Output) (place : ℕ) (exits : List OutEdge) (d z : LaneOutIs) (now : List LaneOutIs) → exits ≡ out_edges job node
      → place_from job 0 exits output.port output.tuple ≡ Some place → place < length now → z ≡ record (get_or now place d) { waiting = (get_or now place d).waiting ++ Carry output.tuple ∷ [] }
      → EachPair (Comes job who all (output ∷ rest)) outs now → EachPair (Comes job who all rest) outs (set now place z)
  delivers all rest output place exits d z now same e l h p =
      let r = route job who output.port output.tuple place law is.there (subst (λ xs. place_from job 0 xs output.port output.tuple ≡ Some place) (same ∙ exits_same) e) in
      comes_at job who all rest output 0 place d z outs now
      (λ j a g.
      let number : slice_get (out_numbers job who.number) j ≡ Some a.number = subst (λ (ns : List ℕ). slice_get ns j ≡ Some a.number) is.numbers_are (get_mapped (λ (o : LaneOutIs). o.number) outs j a g) in
      one_at job who output place j a.number r.0 r.1 r.2 number
      ∙ (ap (λ n. cond (n == place) (Carry output.tuple ∷ []) []) (omega arith) ∙ ap (λ n. cond (0 + j == n) (Carry output.tuple ∷ []) []) (omega arith)))
      l h p

  pub drops : (all rest : List Output) (output : Output) (exits : List OutEdge) (now : List LaneOutIs) → exits ≡ out_edges job node → place_from job 0 exits output.port output.tuple ≡ None
      → EachPair (Comes job who all (output ∷ rest)) outs now → EachPair (Comes job who all rest) outs now
  drops all rest output exits now same e p =
      let none = no_route job who output.port output.tuple (subst (λ xs. place_from job 0 xs output.port output.tuple ≡ None) (same ∙ exits_same) e) in
      comes_none job who all rest output outs now (λ number. nowhere number none) p
    where
      nowhere : (number : ℕ) → lane_of job (Some who.number) who.node output.port output.tuple ≡ None → puts_at job who (output ∷ []) number ≡ []
      nowhere number none = rw none (go (slice_get (lanes job) number))
        where
          go : (o : Option Lane) → items_if o (record { lane = None; item = Carry output.tuple } ∷ []) ≡ []
          go None = refl
          go (Some lane) = refl
