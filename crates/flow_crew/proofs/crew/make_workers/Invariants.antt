use Rattle.std.proofs.Common.{◌≡◌, ◌++◌, ℕ, [], drop, map, length, Some, slice_get}
use Rattle.std.specs.Vec.Iter.{into_iter_items, into_iter_len}
use Rattle.control_box.specs.Endpoints.{PosterIs, ShareBoxes}
use Rattle.flow_model.specs.Setup.{setup_view}
use Rattle.flow_worker.specs.Worker.{IsWorker, WorkerIs}
use Rattle.flow_crew.specs.Sides.{worker_side}
use Rattle.flow_crew.proofs.crew.make_workers.Given as goal

-- the workers so far have their numbers and their law, and each has a box, of which the poster has
-- its place; the sides and the counts that are left are those of the others
abbrev pub invariant-loop-side : goal.invariant-loop-side
invariant-loop-side g l = record {
  may : (goal.iterator-loop-side g).can_next l.side-iterator;
  finite : (goal.iterator-loop-side g).is_finite l.side-iterator;
  counted : into_iter_len l.side-iterator ≡ length (into_iter_items l.side-iterator);
  left_counted : into_iter_len l.left ≡ length (into_iter_items l.left);
  left_are : into_iter_items l.left ≡ drop (length l.workers.items) l.fn.start.states;
  sides : map worker_side l.workers.items ++ into_iter_items l.side-iterator ≡ l.fn.sides.items;
  made :
      (w : ℕ) (worker : WorkerIs) → slice_get l.workers.items w ≡ Some worker →
      (worker.number ≡ w) × IsWorker (setup_view l.setup) l.fn.start worker;
  boxes : length l.posters.items ≡ length l.workers.items;
  unused :
      (w : ℕ) (p : PosterIs) → slice_get l.posters.items w ≡ Some p → (p.posted ≡ 0) × (p.loads ≡ []);
  shared : ShareBoxes l.posters.items (map (λ (w : WorkerIs). w.owner) l.workers.items);
}
