-- What was made and done for a setup is so for any setup that differs in the rows that its requests wait for.
use Rattle.std.proofs.Common.{◌≡◌, ◌∙◌, ◌-◌, ℕ, zero, suc, List, [], ◌∷◌, cond, length, refl, sym, ap, arith}
use Rattle.tuple_trace.specs.declared.row.Row.{Row}
use Rattle.versions.specs.Kept.{AreInOrder}
use Rattle.versions.specs.declared.request.Request.{Request}
use Rattle.flow_model.specs.Begin.{Begin}
use Rattle.flow_model.specs.Covers.{covers, is_head}
use Rattle.flow_model.specs.Requests.{afters}
use Rattle.flow_model.specs.SetupView.{SetupView}
use Rattle.flow_model.specs.Waiting.{with_afters}
use Rattle.coordinator.specs.Boxes.{AreBoxes}
use Rattle.coordinator.specs.Feeding.{AreRising, IsFeeding}
use Rattle.coordinator.specs.Numbers.{covered_to, covering_count, node_at, posted_number}
use Rattle.coordinator.specs.Views.{BoxesIs, FeederIs}

-- ---- the rows

pub afters_are : (waits : List ℕ) (requests : List Request) → length waits ≡ length requests → afters (with_afters waits requests) ≡ waits
afters_are [] [] e = refl
afters_are [] (q ∷ qs) e = absurd (omega (arith, e))
afters_are (w ∷ ws) [] e = absurd (omega (arith, e))
afters_are (w ∷ ws) (q ∷ qs) e = ap (λ l. w ∷ l) (afters_are ws qs (omega (arith, e)))

pub in_order : (row : ℕ) (waits : List ℕ) (requests : List Request) → length waits ≡ length requests → AreRising row waits → AreInOrder row (with_afters waits requests)
in_order row [] [] e rise = tt
in_order row [] (q ∷ qs) e rise = absurd (omega (arith, e))
in_order row (w ∷ ws) [] e rise = absurd (omega (arith, e))
in_order row (w ∷ ws) (q ∷ qs) e rise = (rise.0, in_order w ws qs (omega (arith, e)) rise.1)

-- ---- the feeder

module _ (setup : SetupView) (requests : List Request) where
  abbrev moved : SetupView
  moved = record setup { requests = requests }

  covered_same : (node r : ℕ) → covered_to moved node r ≡ covered_to setup node r
  covered_same node zero = refl
  covered_same node (suc r) = ap (λ k. cond (covers setup (suc r) node) (suc k) k) (covered_same node r)

  number_same : (turned w r : ℕ) → covering_count moved turned w r ≡ covering_count setup turned w r
  number_same turned w r = λ i. covered_same (node_at setup w) r i - covered_same (node_at setup w) turned i

  posted_same : (turned w r : ℕ) → posted_number moved turned w r ≡ posted_number setup turned w r
  posted_same turned w zero = refl
  posted_same turned w (suc r) = λ i. cond (is_head setup (suc r) (node_at setup w)) (number_same turned w (suc r) i) (posted_same turned w r i)

  boxes_moved : (turned issued : ℕ) (b : BoxesIs) → AreBoxes setup turned issued b → AreBoxes moved turned issued b
  boxes_moved turned issued b h = record {
    one_each = h.one_each;
    one_number_each = h.one_number_each;
    counted = λ w n g. h.counted w n g ∙ sym (number_same turned w issued);
    posted = λ w p g. h.posted w p g ∙ sym (posted_same turned w issued);
    ready_within = h.ready_within;
    ready_are = h.ready_are;
  }

  pub feeding_moved : (begin : Begin) (xs : List ℕ) (rows : List Row) (f : FeederIs) → IsFeeding setup begin xs rows f → IsFeeding moved begin xs rows f
  feeding_moved begin xs rows f law = record {
    begun = law.begun;
    course = law.course;
    lanes = law.lanes;
    ended = law.ended;
    boxes = boxes_moved begin.turned f.issued f.boxes law.boxes;
    held = law.held;
  }
