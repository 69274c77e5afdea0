-- What the feed puts on a lane.
use Rattle.std.proofs.Common.{◌≡◌, ◌∙◌, ◌+◌, ℕ, suc, List, [], ◌∷◌, ◌++◌, refl, sym, ap, true, false, Bool, arith, Option, Some, None, slice_get, append_assoc, append-nil}
use Rattle.std.proofs.lemmas.Option.{same_Some}
use Rattle.jobs.specs.JobView.{JobView}
use Rattle.sink_journal.specs.declared.journal.Feed.{Feed}
use Rattle.sink_journal.specs.declared.journal.Feed.TheVariants.{Fed, Issued, Stopped}
use Rattle.tuple_trace.specs.declared.row.Row.{Row}
use Rattle.tuple_trace.specs.declared.tuple.Item.{Item}
use Rattle.flow_model.specs.Feeding.{fed, fed_put, fed_puts, row_numbered}
use Rattle.flow_model.specs.Lanes.{is_same_lane, is_same_sender, lane_of, lanes}
use Rattle.flow_model.specs.declared.topology.Lane.{Lane}
use Rattle.flow_model.specs.Replay.{Put, items_on}
use Rattle.flow_model.proofs.ElementLemmas.{distinct_filter, same_place}
use Rattle.flow_model.proofs.LaneLemmas.{lane_self, lanes_distinct, same_lane}
use Rattle.coordinator.specs.Feeding.{fed_lanes, issued_in}
use Rattle.coordinator.specs.Steps.{fed_item}

pub items_append : (lane : Lane) (ps qs : List Put) → items_on lane (ps ++ qs) ≡ items_on lane ps ++ items_on lane qs
items_append lane [] qs = refl
items_append lane (p ∷ ps) qs = go (is_same_lane p.lane lane) refl (items_append lane ps qs)
  where
    go : (b : Bool) → is_same_lane p.lane lane ≡ b → items_on lane (ps ++ qs) ≡ items_on lane ps ++ items_on lane qs → items_on lane (p ∷ (ps ++ qs)) ≡ items_on lane (p ∷ ps) ++ items_on lane qs
    go true e h = rw e (ap (λ l. p.item ∷ l) h)
    go false e h = rw e h

pub puts_append : (job : JobView) (rows : List Row) (issued : ℕ) (xs ys : List Feed) → fed_puts job rows issued (xs ++ ys) ≡ fed_puts job rows issued xs ++ fed_puts job rows (issued + issued_in xs) ys
puts_append job rows issued [] ys = let e : issued ≡ issued + 0 = omega arith in ap (λ n. fed_puts job rows n ys) e
puts_append job rows issued (Fed k ∷ xs) ys =
    ap (λ l. fed_put job issued (row_numbered rows k) ++ l) (puts_append job rows issued xs ys)
    ∙ sym (append_assoc (fed_put job issued (row_numbered rows k)) (fed_puts job rows issued xs) (fed_puts job rows (issued + issued_in xs) ys))
puts_append job rows issued (Issued r ∷ xs) ys =
    let e : issued + 1 + issued_in xs ≡ issued + suc (issued_in xs) = omega arith in
    puts_append job rows (issued + 1) xs ys ∙ ap (λ n. fed_puts job rows (issued + 1) xs ++ fed_puts job rows n ys) e
puts_append job rows issued (Stopped ∷ xs) ys = puts_append job rows issued xs ys

pub issued_append : (xs ys : List Feed) → issued_in (xs ++ ys) ≡ issued_in xs + issued_in ys
issued_append [] ys = omega arith
issued_append (Fed k ∷ xs) ys = issued_append xs ys
issued_append (Issued r ∷ xs) ys = let h = issued_append xs ys in omega (arith, h)
issued_append (Stopped ∷ xs) ys = issued_append xs ys

-- one entry more
pub fed_more : (job : JobView) (rows : List Row) (begun : ℕ) (lane : Lane) (xs : List Feed) (e : Feed) → fed job rows begun lane (xs ++ e ∷ []) ≡ fed job rows begun lane xs ++ items_on lane (fed_puts job rows (begun + issued_in xs) (e ∷ []))
fed_more job rows begun lane xs e =
    ap (items_on lane) (puts_append job rows begun xs (e ∷ [])) ∙ items_append lane (fed_puts job rows begun xs) (fed_puts job rows (begun + issued_in xs) (e ∷ []))

-- a request puts nothing there, and neither does the end
pub fed_same : (job : JobView) (rows : List Row) (begun : ℕ) (lane : Lane) (xs : List Feed) (e : Feed) → ((n : ℕ) → fed_puts job rows n (e ∷ []) ≡ []) → fed job rows begun lane (xs ++ e ∷ []) ≡ fed job rows begun lane xs
fed_same job rows begun lane xs e none =
    fed_more job rows begun lane xs e ∙ (ap (λ l. fed job rows begun lane xs ++ items_on lane l) (none (begun + issued_in xs)) ∙ append-nil (fed job rows begun lane xs))

abbrev put_there : Option Lane → Item → List Put
put_there o x = record { lane = o; item = x } ∷ []

puts_row : (job : JobView) (rows : List Row) (issued i : ℕ) (row : Row) (found : Lane) → slice_get rows i ≡ Some row → lane_of job None row.source 0 row.tuple ≡ Some found
    → fed_puts job rows issued (Fed (suc i) ∷ []) ≡ record { lane = Some found; item = fed_item issued row } ∷ []
puts_row job rows issued i row found g l =
    ap (λ o. fed_put job issued o ++ []) g ∙ ap (λ o. put_there o (fed_item issued row)) l

-- a row puts one tuple on its lane, and none on any other
pub row_here : (job : JobView) (rows : List Row) (issued i : ℕ) (row : Row) (lane : Lane) → slice_get rows i ≡ Some row → lane_of job None row.source 0 row.tuple ≡ Some lane
    → items_on lane (fed_puts job rows issued (Fed (suc i) ∷ [])) ≡ fed_item issued row ∷ []
row_here job rows issued i row lane g l =
    ap (items_on lane) (puts_row job rows issued i row lane g l) ∙ here (is_same_lane (Some lane) lane) refl (lane_self lane)
  where
    here : (b : Bool) → is_same_lane (Some lane) lane ≡ b → b ≡ true → items_on lane (record { lane = Some lane; item = fed_item issued row } ∷ []) ≡ fed_item issued row ∷ []
    here true e t = rw e refl
    here false e t = absurd (cc)

pub row_else : (job : JobView) (rows : List Row) (issued i : ℕ) (row : Row) (found lane : Lane) → slice_get rows i ≡ Some row → lane_of job None row.source 0 row.tuple ≡ Some found → (found ≡ lane → ⊥)
    → items_on lane (fed_puts job rows issued (Fed (suc i) ∷ [])) ≡ []
row_else job rows issued i row found lane g l n =
    ap (items_on lane) (puts_row job rows issued i row found g l) ∙ there (is_same_lane (Some found) lane) refl
  where
    there : (b : Bool) → is_same_lane (Some found) lane ≡ b → items_on lane (record { lane = Some found; item = fed_item issued row } ∷ []) ≡ []
    there true e = absurd (n (same_Some found lane (same_lane (Some found) lane e)))
    there false e = rw e refl

pub one_place : (job : JobView) (i j : ℕ) (lane : Lane) → slice_get (fed_lanes job) i ≡ Some lane → slice_get (fed_lanes job) j ≡ Some lane → i ≡ j
one_place job i j lane g h = same_place lane i j (fed_lanes job) (distinct_filter (λ (l : Lane). is_same_sender None l.sender) (lanes job) (lanes_distinct job)) g h
