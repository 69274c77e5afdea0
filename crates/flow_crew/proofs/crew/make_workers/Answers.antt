use Rattle.std.proofs.Common.{◌≡◌, ◌∙◌, ◌+◌, ◌++◌, ◌∷◌, [], ℕ, List, Some, ap, arith, drop, length, length-append, rules, slice_get, subst, sym, map}
use Rattle.std.specs.Vec.Iter.{into_iter_items}
use Rattle.control_box.specs.Endpoints.{OwnerIs, PosterIs}
use Rattle.keyed_state.specs.Counts.{Counts}
use Rattle.flow_model.specs.Begin.{Begin}
use Rattle.flow_model.specs.Setup.{setup_view}
use Rattle.flow_model.proofs.SizeLemmas.{workers-few}
use Rattle.flow_worker.specs.Parts.{AreNewEndpoints}
use Rattle.lane_core.specs.Lane.{EndpointIs}
use Rattle.flow_worker.specs.Worker.{IsWorker, WorkerIs}
use Rattle.flow_crew.specs.Sides.{SideIs, worker_side}
use Rattle.flow_crew.proofs.Crewing.{all_made, has_number, next_counts, next_side, placed_more, share_more, side_is, side_made, some_counts}
use Rattle.flow_crew.proofs.crew.make_workers.Goals as goal

pub overflow_cast-number : goal.overflow_cast-number
overflow_cast-number g c =
    let few = workers-few (setup_view c.args.setup.now).job c.args.setup.now.job.lawful in
    let long = next_side c.loop-side.workers.items c.args.sides.items (into_iter_items c.loop-side.side-iterator) (into_iter_items c.next.new.self) c.in-Some.side c.loop-side.invariant.sides c.in-Some.ensures.steps.0 in
    omega (arith, few, c.requires.many, long.0, c.len-number.ensures, c.loop-side.workers.ok.0)

pub take_counts-counts-requires : goal.take_counts-counts-requires
take_counts-counts-requires g c =
    let workers = c.loop-side.workers.items in
    let inv = c.loop-side.invariant in
    let at = next_side workers c.args.sides.items (into_iter_items c.loop-side.side-iterator) (into_iter_items c.next.new.self) c.in-Some.side inv.sides c.in-Some.ensures.steps.0 in
    let some = some_counts c.args.start.states (into_iter_items c.loop-side.left) (length workers) inv.left_are (omega (arith, at.0, c.requires.many, c.requires.states)) in
    omega (arith, some, inv.left_counted)

pub make_from-requires-clause-ends : goal.make_from-requires-clause-ends
make_from-requires-clause-ends g c κs within =
    let job = (setup_view c.args.setup.now).job in
    let workers = c.loop-side.workers.items in
    let number : c.len-number.result ≡ length workers = c.len-number.ensures ∙ c.loop-side.workers.ok.0 in
    let at = next_side workers c.args.sides.items _ (into_iter_items c.next.new.self) c.in-Some.side c.loop-side.invariant.sides c.in-Some.ensures.steps.0 in
    let new : AreNewEndpoints job (length workers) c.in-Some.side.ins c.in-Some.side.outs = c.requires.sides (length workers) c.in-Some.side at.1 in
    let I : List EndpointIs = map g.L.Rx.Rx.state c.open-ins.result.0.items in
    let O : List EndpointIs = map g.L.Tx.Tx.state c.open-ins.result.1.items in
    subst (λ (n : ℕ). AreNewEndpoints job n I O) (sym number)
    (subst (λ (xs : List EndpointIs). AreNewEndpoints job (length workers) xs O) (sym c.open-ins.ensures.ins)
    (subst (λ (xs : List EndpointIs). AreNewEndpoints job (length workers) c.in-Some.side.ins xs) (sym c.open-ins.ensures.outs) new))

pub loop-side-init : goal.loop-side-init
loop-side-init g c =
    let gives = c.into_iter-left.ensures.into_iter_gives in
    record {
      may = tt;
      finite = tt;
      counted = search rules;
      left_counted = let a = ap (λ (l : List Counts). length l) gives.0 in omega (arith, a, gives.1);
      left_are =
          let all : into_iter_items c.into_iter-left.result ≡ c.args.start.states = gives.0 ∙ ap (λ (b : Begin). b.states) c.start.view_is in
          let none : c.new-workers.result.items ≡ [] = search rules in
          rw none all;
      sides = search rules;
      made = search rules;
      boxes = search rules;
      unused = search rules;
      shared = search rules;
    }

pub loop-side-preserved : goal.loop-side-preserved
loop-side-preserved g c =
    let setup = setup_view c.args.setup.now in
    let workers = c.loop-side.workers.items in
    let posters = c.loop-side.posters.items in
    let its = into_iter_items c.loop-side.side-iterator in
    let rest = into_iter_items c.next.new.self in
    let side = c.in-Some.side in
    let worker = c.in_ok-worker.worker in
    let inv = c.loop-side.invariant in
    let next = c.in-Some.ensures.steps in
    let pushed : c.push.new.self.items ≡ workers ++ worker ∷ [] = c.in_ok-push.ensures.items in
    let boxed : c.push-in-loop-side.new.self.items ≡ posters ++ c.in_ok-poster.poster ∷ [] = c.in_ok-push-2.ensures.items in
    let same : worker_side worker ≡ side = side_is worker side (c.in_ok-worker.ensures.ins ∙ c.open-ins.ensures.ins) (c.in_ok-worker.ensures.outs ∙ c.open-ins.ensures.outs) in
    let at = next_side workers c.args.sides.items its rest side inv.sides next.0 in
    let new = c.requires.sides (length workers) side at.1 in
    let place : c.len-number.result ≡ length workers = c.len-number.ensures ∙ c.loop-side.workers.ok.0 in
    let counts = c.take_counts-counts.result in
    let left = c.take_counts-counts.ensures in
    let here = next_counts c.args.start.states (into_iter_items c.loop-side.left) (into_iter_items c.take_counts-counts.new.left) (length workers) counts inv.left_are left.items in
    let law : IsWorker setup c.args.start worker =
    c.in_ok-worker.ensures.law c.args.start (record {
      turned_is = ap (λ (b : Begin). b.turned) c.start.view_is;
      counts_are = subst (λ (n : ℕ). slice_get c.args.start.states n ≡ Some counts) (sym place) here.0;
    }) in
    let long : length c.push.new.self.items ≡ length workers + 1 = ap (λ (ws : List WorkerIs). length ws) pushed ∙ length-append workers (worker ∷ []) in
    let number : worker.number ≡ length workers = has_number setup c.args.start worker side.ins (length workers) law (c.in_ok-worker.ensures.ins ∙ c.open-ins.ensures.ins) new.ins_are in
    record {
      may = tt;
      finite = tt;
      counted = let b = ap (λ (xs : List SideIs). length xs) next.0 in omega (arith, next.1, b, inv.counted);
      left_counted = let b = ap (λ (xs : List Counts). length xs) left.items in omega (arith, left.fewer, b, inv.left_counted);
      left_are = here.1 ∙ ap (λ (n : ℕ). drop n c.args.start.states) (sym long);
      sides = side_made workers c.push.new.self.items worker c.args.sides.items its rest side inv.sides next.0 pushed same;
      made = placed_more (λ w v. (v.number ≡ w) × IsWorker setup c.args.start v) workers c.push.new.self.items worker pushed inv.made (number, law);
      boxes =
          let a = ap (λ (ws : List WorkerIs). length ws) pushed in
          let b = ap (λ (ps : List PosterIs). length ps) boxed in
          let d = length-append workers (worker ∷ []) in
          let e = length-append posters (c.in_ok-poster.poster ∷ []) in
          omega (arith, a, b, d, e, inv.boxes);
      unused = placed_more (λ w (p : PosterIs). (p.posted ≡ 0) × (p.loads ≡ [])) posters c.push-in-loop-side.new.self.items c.in_ok-poster.poster boxed inv.unused c.in_ok-poster.ensures.poster;
      shared =
          let same = c.in_ok-poster.ensures.same ∙ ap (λ (o : OwnerIs). o.within) (sym c.in_ok-worker.ensures.owner) in
          share_more posters c.push-in-loop-side.new.self.items workers c.push.new.self.items c.in_ok-poster.poster worker boxed pushed same inv.shared;
    }

pub returns-clause-workers : goal.returns-clause-workers
returns-clause-workers g c =
    let inv = c.loop-side.invariant in
    let none = c.in-None.ensures.steps.0 in
    let all = all_made c.loop-side.workers.items c.args.sides.items (into_iter_items c.loop-side.side-iterator) inv.sides (omega (arith, none, inv.counted)) in
    record {
      many = all.0 ∙ c.requires.many;
      number = λ w worker at. (inv.made w worker at).0;
      law = λ w worker at. (inv.made w worker at).1;
    }

pub returns-clause-posters : goal.returns-clause-posters
returns-clause-posters g c =
    let inv = c.loop-side.invariant in
    let none = c.in-None.ensures.steps.0 in
    let all = all_made c.loop-side.workers.items c.args.sides.items (into_iter_items c.loop-side.side-iterator) inv.sides (omega (arith, none, inv.counted)) in
    (inv.boxes ∙ (all.0 ∙ c.requires.many), inv.unused)

pub returns-clause-boxes : goal.returns-clause-boxes
returns-clause-boxes g c = c.loop-side.invariant.shared

pub returns-clause-sides : goal.returns-clause-sides
returns-clause-sides g c =
    let inv = c.loop-side.invariant in
    let none = c.in-None.ensures.steps.0 in
    (all_made c.loop-side.workers.items c.args.sides.items (into_iter_items c.loop-side.side-iterator) inv.sides (omega (arith, none, inv.counted))).1
