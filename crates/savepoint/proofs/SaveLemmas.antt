-- A savepoint that is written is read again.
use Rattle.std.proofs.Common.{FitsSigned, IsTrue, w64, ◌≡◌, ◌∙◌, ◌<◌, ◌≤◌, ◌^◌, ℕ, ℤ, zero, suc, List, [], ◌∷◌, inl, inr, refl, sym, subst, ap, arith, true, false, Bool, length, map, nat_eq, nat_lt, Some, None, Ok, All, slice_get, take}
use Rattle.std.specs.Prelude.{not}
use Rattle.std.specs.Cmp.Lexicographic.{pointwise}
use Rattle.std.specs.FinMap.{entries}
use Rattle.std.specs.List.{list_any, zip}
use Rattle.std.proofs.lemmas.Bool.{cases_lt, eq-eqb}
use Rattle.std.proofs.lemmas.Bool.Decides.{nat_tests}
use Rattle.jobs.specs.Law.{IsLawful}
use Rattle.jobs.proofs.RoleLemmas.{kind_row}
use Rattle.jobs.specs.Nodes.{is_count, most_workers}
use Rattle.jobs.specs.JobView.{JobView}
use Rattle.jobs.specs.declared.func.NodeDef.{NodeDef}
use Rattle.keyed_state.specs.Counts.{Counts}
use Rattle.flow_model.specs.Begin.{Begin}
use Rattle.flow_model.specs.SetupView.{SetupView, Worker}
use Rattle.flow_model.specs.Requests.{afters}
use Rattle.flow_model.specs.Workers.{workers_in}
use Rattle.flow_model.proofs.ElementLemmas.{IsIn, at_of_all, in_any, in_flat_map, in_map, in_of_place, place_of_in}
use Rattle.flow_model.proofs.WorkerLemmas.{IsWorker, all_workers, worker_with}
use Rattle.savepoint.specs.Parts.{issued_up_to}
use Rattle.savepoint.specs.SaveReading.{CanSave, CanSaveCounts, begin_by, begin_in, begin_with, counts_at, head_of, is_led_to, placed_from, save_of, spelled_from}
use Rattle.savepoint.specs.SaveText.{head_record, save_text}
use Rattle.savepoint.proofs.CutLemmas.{get_take, get_zip}
use Rattle.savepoint.proofs.NumberLemmas.{head-decimal}
use Rattle.savepoint.proofs.SaveReadLemmas.{AreNumbered, Count, HasDistinctNames, all-placed, all-spelled, all_behind, counts-back, placed-count, placed_as, same_self, spelled_as}
use Rattle.savepoint.proofs.SaveTextLemmas.{all_counts, counts_of, reads-save, record_by}

-- ---- what a lawful job keeps

small_place : (job : JobView) → IsLawful job → (who : Worker) → IsWorker job who → who.place < 2 ^ 63
small_place job is who w =
    let node = at_of_all (λ (node : NodeDef). (1 ≤ node.workers) × (node.workers ≤ most_workers node.func)) w.def job.nodes is.limits.workers (in_of_place w.def job.nodes who.node w.node_is) in
    omega (arith, w.place, all_workers w.def w.no_source, node.1, (kind_row w.def.func).few_workers)

distinct_names : (job : JobView) → IsLawful job → HasDistinctNames job
distinct_names job is i j a b g h e =
    elim (cases_lt i j) [
      | inl lt ↦ absurd (twice i j a b g h lt e)
      | inr ge ↦ elim (cases_lt j i) [
        | inl lt ↦ absurd (twice j i b a h g lt (sym e))
        | inr le ↦ omega arith
      ]
    ]
  where
    twice : (i j : ℕ) (a b : NodeDef) → slice_get job.nodes i ≡ Some a → slice_get job.nodes j ≡ Some b → i < j → a.name ≡ b.name → ⊥
    twice i j a b g h lt e =
        let there : IsIn a (take j job.nodes) = in_of_place a (take j job.nodes) i (get_take j i job.nodes lt ∙ g) in
        let same : pointwise nat_eq a.name b.name ≡ true = subst (λ (n : List ℕ). pointwise nat_eq a.name n ≡ true) e (same_self a.name) in
        let named : list_any (λ (n : NodeDef). pointwise nat_eq n.name b.name) (take j job.nodes) ≡ true = in_any (λ (n : NodeDef). pointwise nat_eq n.name b.name) a (take j job.nodes) there same in
        let fresh : not (list_any (λ (n : NodeDef). pointwise nat_eq n.name b.name) (take j job.nodes)) ≡ true = is.node_names j b h in
        cc

-- ---- pairs

zip_get : {A B : Type 0} (xs : List A) (ys : List B) (k : ℕ) (p : A × B) → slice_get (zip xs ys) k ≡ Some p → (slice_get xs k ≡ Some p.0) × (slice_get ys k ≡ Some p.1)
zip_get [] ys k p g = absurd (cc)
zip_get (x ∷ xs) [] k p g = absurd (cc)
zip_get {A} {B} (x ∷ xs) (y ∷ ys) zero p g =
    let e : ◌≡◌ {A = A × B} (x, y) p = cc in
    (ap (λ (q : A × B). Some q.0) e, ap (λ (q : A × B). Some q.1) e)
zip_get (x ∷ xs) (y ∷ ys) (suc k) p g = zip_get xs ys k p g

mapped_back : {A B : Type 0} (f : A → B) (xs : List A) (ys : List B) → length ys ≡ length xs → ((k : ℕ) (x : A) (y : B) → slice_get xs k ≡ Some x → slice_get ys k ≡ Some y → f x ≡ y) → map f xs ≡ ys
mapped_back f [] [] l h = refl
mapped_back f [] (y ∷ ys) l h = absurd (omega (arith, l))
mapped_back f (x ∷ xs) [] l h = absurd (omega (arith, l))
mapped_back {A} {B} f (x ∷ xs) (y ∷ ys) l h =
    ap (λ (z : B). z ∷ map f xs) (h 0 x y refl refl) ∙ ap (λ (l : List B). y ∷ l) (mapped_back f xs ys (omega (arith, l)) (λ k a b g i. h (suc k) a b g i))

-- ---- the counts

-- the counts of a lawful job are read again, whatever number the first record has
module _ (job : JobView) (states : List Counts) (number : ℕ) (lawful : IsLawful job) (can : CanSaveCounts job states) where
  abbrev workers : List (Worker × Counts)
  workers = zip (workers_in job) states

  numbered : AreNumbered 0 workers
  numbered k p g =
      let z = zip_get (workers_in job) states k p g in
      let n = (worker_with job k p.0 z.0).0 in
      omega (arith, n)

  -- a count is of a worker that counts and to which its text is led, with a short text and a small number
  of_worker : (q : Count) → IsIn q (all_counts workers) → IsWorker job q.0 × (is_count q.0.func ≡ true) × (length q.1.0 ≤ 48) × FitsSigned w64 q.1.1 × (is_led_to job q.1.0 q.0 ≡ true)
  of_worker q i =
      let p = in_flat_map counts_of q workers i in
      let e = in_map (λ (e : List ℕ × ℤ). (p.0.0, e)) q (entries p.0.1) p.2 in
      let k = place_of_in p.0 workers p.1 in
      let z = zip_get (workers_in job) states k.0 p.0 k.1 in
      let who : q.0 ≡ p.0.0 = ap (λ (r : Count). r.0) e.2 in
      let entry : q.1 ≡ e.0 = ap (λ (r : Count). r.1) e.2 in
      let each = at_of_all (λ (counts : Counts). All (λ (e : List ℕ × ℤ). (length e.0 ≤ 48) × FitsSigned w64 e.1) (entries counts)) p.0.1 states can.short (in_of_place p.0.1 states k.0 z.1) in
      let one = at_of_all (λ (e : List ℕ × ℤ). (length e.0 ≤ 48) × FitsSigned w64 e.1) e.0 (entries p.0.1) each e.1 in
      let led : is_led_to job e.0.0 p.0.0 ≡ true =
      at_of_all (λ (e : List ℕ × ℤ). IsTrue (is_led_to job e.0 p.0.0)) e.0 (entries p.0.1) (can.led k.0 p.0.0 p.0.1 z.0 z.1) e.1 in (
        subst (IsWorker job) (sym who) (worker_with job k.0 p.0.0 z.0).1,
        ap (λ (r : Worker). is_count r.func) who ∙ counts_here p.0 k.0 z.0 z.1 e.0 e.1 (is_count p.0.0.func) refl,
        subst (λ (e : List ℕ × ℤ). length e.0 ≤ 48) (sym entry) one.0,
        subst (λ (e : List ℕ × ℤ). FitsSigned w64 e.1) (sym entry) one.1,
        subst (λ (r : Worker). is_led_to job q.1.0 r ≡ true) (sym who) (subst (λ (e : List ℕ × ℤ). is_led_to job e.0 p.0.0 ≡ true) (sym entry) led),
      )
    where
      counts_here : (p : Worker × Counts) (k : ℕ) → slice_get (workers_in job) k ≡ Some p.0 → slice_get states k ≡ Some p.1 → (e : List ℕ × ℤ) → IsIn e (entries p.1)
          → (b : Bool) → is_count p.0.func ≡ b → is_count p.0.func ≡ true
      counts_here p k g h e i true is = is
      counts_here p k g h e i false is = let none : entries p.1 ≡ [] = can.counts k p.0 p.1 g h is in absurd (rw none at i)

  pub counts-spelled : spelled_from number (map (record_by job) (all_counts workers)) ≡ Ok (map (spelled_as job) (all_counts workers))
  counts-spelled = all-spelled job number (all_counts workers) (λ q i. let w = of_worker q i in (small_place job lawful q.0 w.0, w.3))

  placed : placed_from job number None (map (spelled_as job) (all_counts workers)) ≡ Ok (map placed_as (all_counts workers))
  placed =
      all-placed job number None (all_counts workers) (λ q i. let w = of_worker q i in placed-count job (distinct_names job lawful) q w.0 w.1 w.2 w.4)
      (all_behind 0 workers None tt numbered)

  back : map (counts_at (map placed_as (all_counts workers))) (workers_in job) ≡ states
  back =
      mapped_back (counts_at (map placed_as (all_counts workers))) (workers_in job) states can.one_each (λ k who counts g h.
      let n : who.number ≡ k = (worker_with job k who g).0 in
      counts-back workers who counts numbered (subst (λ j. slice_get workers j ≡ Some (who, counts)) (sym n) (get_zip (workers_in job) states k who counts g h)))

  -- where a run goes on with these counts
  pub counts-begin : (row turned : ℕ) → begin_with job row turned (placed_from job number None (map (spelled_as job) (all_counts workers))) ≡ Ok (record { row = row; turned = turned; states = states })
  counts-begin row turned = rw (placed, back) refl

-- ---- the savepoint

module _ (setup : SetupView) (rows : ℕ) (begin : Begin) (lawful : IsLawful setup.job) (can : CanSave setup rows begin) where
  abbrev counted : List Count
  counted = all_counts (zip (workers_in setup.job) begin.states)

  head : head_of (head_record begin.row begin.turned) ≡ Some (begin.row, begin.turned)
  head = rw (head-decimal begin.row can.row, head-decimal begin.turned can.turned) refl

  not_past : nat_lt rows begin.row ≡ false
  not_past = grind (arith, nat_tests, can.within)

  pub save-reads : save_of setup rows (save_text setup.job begin) ≡ Ok begin
  save-reads =
      ap (begin_in setup rows) (reads-save setup.job begin)
      ∙ (ap (λ o. begin_by setup rows o (spelled_from 1 (map (record_by setup.job) counted))) head
      ∙ (ap (begin_by setup rows (Some (begin.row, begin.turned))) (counts-spelled setup.job begin.states 1 lawful can.states)
      ∙ rw (not_past, eq-eqb begin.turned (issued_up_to begin.row rows (afters setup.requests)) can.issued) (counts-begin setup.job begin.states 1 lawful can.states begin.row begin.turned)))
