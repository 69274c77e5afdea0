-- Lists that gain what is put on their lanes.
use Rattle.std.proofs.Common.{◌≡◌, ◌<◌, ◌+◌, ◌==◌, ℕ, suc, Bool, true, false, List, [], ◌∷◌, ◌++◌, length, map, cond, drop, take, set, get_or, filter, inl, inr, Option, Some, None, refl, sym, ap, subst, ◌∙◌, arith, append_assoc}
use Rattle.std.specs.Prelude.{All, slice_get}
use Rattle.std.specs.List.{enumerate_from, flat_map}
use Rattle.std.proofs.lemmas.Bool.{eqb-false, eqb-true}
use Rattle.std.proofs.lemmas.List.Elements.{All-cons, All-nil, filter_map-append}
use Rattle.std.proofs.lemmas.Option.{get_or_from_slice_get, same_Some, slice_get_within}
use Rattle.std.proofs.lemmas.List.{append-nil, drop-set-lt, drop_more, take_more_set}
use Rattle.jobs.specs.JobView.{JobView}
use Rattle.tuple_trace.specs.declared.tuple.Item.{Item}
use Rattle.tuple_trace.specs.declared.tuple.Item.TheVariants as item
use Rattle.cover_planner.specs.declared.cover.Plan.{Plan}
use Rattle.flow_model.specs.Covers.{covers_edge, plan_of}
use Rattle.flow_model.specs.Lanes.{is_same_lane, is_sender, lanes, lanes_out, no_lane, out_numbers}
use Rattle.flow_model.specs.declared.topology.Lane.{Lane}
use Rattle.flow_model.specs.SetupView.{SetupView}
use Rattle.flow_model.specs.Replay.{Put, item_on, items_on, marker, marker_by, put_on_each}
use Rattle.flow_model.proofs.ElementLemmas.{IsIn}
use Rattle.flow_model.proofs.LaneLemmas.{lane_self, same_lane, same_number}
use Rattle.flow_model.proofs.OutLanes.{on_passing, one_on, out_distinct}
use Rattle.flow_replay.specs.declared.replaying.Onto.TheVariants as onto
use Rattle.flow_replay.specs.inner.Replays.{AreNumbersOf, item_if, reaches, with_item, with_marker_of, with_markers, with_puts}

-- ---- one list on

-- one more of the lists has what it gains
pub with_item-more : (test : ℕ → Bool) (item : Item) (numbers : List ℕ) (lists : List (List Item))
    (i : ℕ) (d : ℕ) (e new : List Item)
    → i < length numbers → i < length lists → new ≡ item_if (test (get_or numbers i d)) item (get_or
    lists i e)
    → take (i + 1) (set lists i new) ++ with_item test item (drop (i + 1) numbers) (drop (i + 1)
    (set lists i new)) ≡ take i lists ++ with_item test item (drop i numbers) (drop i lists)
with_item-more test item numbers lists i d e new lt lt' is =
    let here = drop_more numbers i d lt in
    let there = drop_more lists i e lt' in
    let taken : take (i + 1) (set lists i new) ≡ take i lists ++ new ∷ [] = take_more_set lists i
    new lt' in
    let left : drop (i + 1) (set lists i new) ≡ drop (i + 1) lists = drop-set-lt (i + 1) lists i new
    (omega arith) in
    rw (taken, left, here, there, ← is) (append_assoc (take i lists) (new ∷ []) (with_item test item
    (drop (i + 1) numbers) (drop (i + 1) lists)))

-- ---- items on lanes

-- a list for each lane, of what it is told of the lane
pub with_puts-map : (f : Lane → List Item) (puts : List Put) (lanes' : List Lane) →
    with_puts lanes' puts (map f lanes') ≡ map (λ (lane : Lane). f lane ++ items_on lane puts)
    lanes'
with_puts-map f puts [] = refl
with_puts-map f puts (lane ∷ lanes') = ap (λ (x : List (List Item)). (f lane ++ items_on lane puts)
    ∷ x) (with_puts-map f puts lanes')

-- what is put first, and then more
pub with_puts-append : (lanes' : List Lane) (xs ys : List Put) (lists : List (List Item)) →
    with_puts lanes' (xs ++ ys) lists ≡ with_puts lanes' ys (with_puts lanes' xs lists)
with_puts-append [] xs ys lists = refl
with_puts-append (lane ∷ lanes') xs ys [] = refl
with_puts-append (lane ∷ lanes') xs ys (list ∷ lists) =
    let here : list ++ items_on lane (xs ++ ys) ≡ (list ++ items_on lane xs) ++ items_on lane ys =
    ap (λ (x : List Item). list ++ x) (filter_map-append (item_on lane) xs ys)
    ∙ sym (append_assoc list (items_on lane xs) (items_on lane ys)) in
    rw (here, with_puts-append lanes' xs ys lists) refl

-- where nothing is put on any of the lanes, the lists stay
pub with_puts-same : (lanes' : List Lane) (puts : List Put) (lists : List (List Item)) →
    length lists ≡ length lanes' → ((lane : Lane) → items_on lane puts ≡ []) →
    with_puts lanes' puts lists ≡ lists
with_puts-same [] puts [] e none = refl
with_puts-same [] puts (list ∷ lists) e none = absurd (omega (arith, e))
with_puts-same (lane ∷ lanes') puts [] e none = absurd (omega (arith, e))
with_puts-same (lane ∷ lanes') puts (list ∷ lists) e none = rw (
  none lane,
  append-nil list,
  with_puts-same lanes' puts lists (omega (arith, e)) none,
) refl

pub length-with_puts : (lanes' : List Lane) (puts : List Put) (lists : List (List Item)) →
    length lists ≡ length lanes' → length (with_puts lanes' puts lists) ≡ length lanes'
length-with_puts [] puts lists e = refl
length-with_puts (lane ∷ lanes') puts [] e = absurd (omega (arith, e))
length-with_puts (lane ∷ lanes') puts (list ∷ lists) e = ap suc (length-with_puts lanes' puts lists
    (omega (arith, e)))

pub length-numbers : (job : JobView) (lanes' : List Lane) (numbers : List ℕ) →
    AreNumbersOf job lanes' numbers → length numbers ≡ length lanes'
length-numbers job [] [] are = refl
length-numbers job [] (number ∷ numbers) are = absurd are
length-numbers job (lane ∷ lanes') [] are = absurd are
length-numbers job (lane ∷ lanes') (number ∷ numbers) are = ap suc (length-numbers job lanes'
    numbers are.1)

-- where the numbers that pass a test are those of the lanes that the puts put one item on, the
-- lists gain the same
pub with_item-puts : (job : JobView) (test : ℕ → Bool) (item : Item) (puts : List Put) (lanes' :
    List Lane) (numbers : List ℕ) (lists : List (List Item)) → AreNumbersOf job lanes' numbers
    → ((lane : Lane) (number : ℕ) → IsIn lane lanes' → slice_get (lanes job) number ≡ Some lane →
    items_on lane puts ≡ item_if (test number) item [])
    → with_item test item numbers lists ≡ with_puts lanes' puts lists
with_item-puts job test item puts [] [] lists are same = refl
with_item-puts job test item puts [] (number ∷ numbers) lists are same = absurd are
with_item-puts job test item puts (lane ∷ lanes') [] lists are same = absurd are
with_item-puts job test item puts (lane ∷ lanes') (number ∷ numbers) [] are same = refl
with_item-puts job test item puts (lane ∷ lanes') (number ∷ numbers) (list ∷ lists) are same =
    rw (
      same lane number (inl refl) are.0,
      with_item-puts job test item puts lanes' numbers lists
          are.1 (λ l o i. same l o (inr i)),
    ) (go (test number))
  where
    go : (b : Bool) → (item_if b item list ∷ with_puts lanes' puts lists)
        ≡ ((list ++ item_if b item []) ∷ with_puts lanes' puts lists)
    go true = refl
    go false = rw (append-nil list) refl

-- one tuple on its lane
pub items_on-lane : (job : JobView) (to lane : Lane) (n : ℕ) (at_number : ℕ) (item : Item) →
    slice_get (lanes job) n ≡ Some to → slice_get (lanes job) at_number ≡ Some lane
    → items_on lane (record { lane = Some to; item = item } ∷ []) ≡ item_if (at_number == n) item []
items_on-lane job to lane n at_number item at there = go (is_same_lane (Some to) lane) refl
    (at_number == n) refl
  where
    go : (a : Bool) → is_same_lane (Some to) lane ≡ a → (b : Bool) → (at_number == n) ≡ b →
        items_on lane (record { lane = Some to; item = item } ∷ []) ≡ item_if b item []
    go true same true number = rw same refl
    go false other false number = rw other refl
    go true same false number =
        let equal : to ≡ lane = same_Some to lane (same_lane (Some to) lane same) in
        let numbers : at_number ≡ n = same_number job lane to at_number n there at (sym equal) in
        absurd (eqb-false at_number n number numbers)
    go false other true number =
        let numbers : at_number ≡ n = eqb-true at_number n number in
        let equal : to ≡ lane = same_Some to lane (sym at
        ∙ ap (slice_get (lanes job)) (sym numbers) ∙ there) in
        let same : is_same_lane (Some to) lane ≡ true = rw equal (lane_self lane) in
        absurd (cc)

-- one output, on its lane
pub put_on : (job : JobView) (lanes' : List Lane) (numbers : List ℕ) (lists : List (List Item))
    (found : Option Lane) (item : Item) (n : ℕ) (to : Lane) → AreNumbersOf job lanes' numbers
    → found ≡ Some to → slice_get (lanes job) n ≡ Some to
    → with_item (λ (number : ℕ). number == n) item numbers lists
    ≡ with_puts lanes' (record { lane = found; item = item } ∷ []) lists
put_on job lanes' numbers lists found item n to are is at =
    rw is (with_item-puts job (λ (number : ℕ). number == n) item (record {
      lane = Some to;
      item =
          item;
    } ∷ []) lanes' numbers lists are (λ lane number i there. items_on-lane job to lane n
    number item at there))

-- these numbers are numbers of lanes
pub numbers-within : (job : JobView) (lanes' : List Lane) (numbers : List ℕ) →
    AreNumbersOf job lanes' numbers → All (λ (number : ℕ). number < length (lanes job)) numbers
numbers-within job [] [] are = All-nil (λ (number : ℕ). number < length (lanes job))
numbers-within job [] (number ∷ numbers) are = absurd are
numbers-within job (lane ∷ lanes') [] are = absurd are
numbers-within job (lane ∷ lanes') (number ∷ numbers) are =
    All-cons (λ (number : ℕ). number < length (lanes job)) number numbers (slice_get_within (lanes
    job) number lane are.0) (numbers-within job lanes' numbers are.1)

-- the numbers of the lanes out of a worker are those of its lanes out
numbered : (job : JobView) (test : Lane → Bool) (all : List Lane) (first : ℕ) →
    ((k : ℕ) (lane : Lane) → slice_get all k ≡ Some lane → slice_get (lanes job) (first + k)
    ≡ Some lane)
    → AreNumbersOf job (filter test all) (map (λ (p : ℕ × Lane). p.0) (filter (λ (p : ℕ × Lane).
    test p.1) (enumerate_from first all)))
numbered job test [] first there = tt
numbered job test (lane ∷ all) first there =
    go (test lane) (numbered job test all (first + 1) (λ k l e. let z : first + suc k
    ≡ first + 1 + k = omega arith in subst (λ (n : ℕ). slice_get (lanes job) n
    ≡ Some l) z (there (suc k) l e)))
  where
    go : (b : Bool) → AreNumbersOf job (filter test all) (map (λ (p : ℕ × Lane). p.0) (filter (λ (p
        : ℕ × Lane). test p.1) (enumerate_from (first + 1) all)))
        → AreNumbersOf job (cond b (lane ∷ filter test all) (filter test all))
        (map (λ (p : ℕ × Lane). p.0) (cond b ((first, lane) ∷ filter (λ (p : ℕ × Lane). test p.1)
        (enumerate_from (first + 1) all)) (filter (λ (p : ℕ × Lane). test p.1) (enumerate_from
        (first + 1) all))))
    go true rest = (
      let z : first + 0 ≡ first = omega arith in subst (λ (n : ℕ). slice_get (lanes
          job) n ≡ Some lane) z (there 0 lane refl),
      rest,
    )
    go false rest = rest

pub numbers-are : (job : JobView) (w : ℕ) → AreNumbersOf job (lanes_out job w) (out_numbers job w)
numbers-are job w = numbered job (λ (lane : Lane). is_sender w lane.sender) (lanes job) 0 (λ k lane
    e. let z : k ≡ 0 + k = omega arith in subst (λ (n : ℕ). slice_get (lanes job) n
    ≡ Some lane) z e)

-- a number at a place is that of a lane
pub number_there : (job : JobView) (w i : ℕ) (numbers : List ℕ) → numbers ≡ out_numbers job w →
    i < length numbers → get_or numbers i 0 < length (lanes job)
number_there job w i numbers is lt =
    let all = numbers-within job (lanes_out job w) (out_numbers job w) (numbers-are job w) in
    subst (λ (xs : List ℕ). i < length xs → get_or xs i 0 < length (lanes job)) (sym is) (λ l. all i
    0 l) lt

-- as many numbers as lanes
pub length-out : (job : JobView) (w : ℕ) → length (out_numbers job w) ≡ length (lanes_out job w)
length-out job w = length-numbers job (lanes_out job w) (out_numbers job w) (numbers-are job w)

-- ---- markers and ends

-- the marker of a request on the lanes out that it covers
pub markers_on : (setup : SetupView) (w r : ℕ) (numbers : List ℕ) (lists : List (List Item)) →
    AreNumbersOf setup.job (lanes_out setup.job w) numbers → length lists
    ≡ length (lanes_out setup.job w)
    → with_markers setup r numbers lists
    ≡ with_puts (lanes_out setup.job w) (flat_map (λ mark. put_on_each mark (filter (λ (lane :
    Lane). covers_edge setup r lane.edge) (lanes_out setup.job w))) (marker setup r)) lists
markers_on setup w r numbers lists are long = go (plan_of setup r)
  where
    go : (o : Option Plan) → with_marker_of setup r o numbers lists
        ≡ with_puts (lanes_out setup.job w) (flat_map (λ mark. put_on_each mark (filter (λ (lane :
        Lane). covers_edge setup r lane.edge) (lanes_out setup.job w))) (marker_by r o)) lists
    go None = sym (with_puts-same (lanes_out setup.job w) [] lists long (λ lane. refl))
    go (Some plan) =
        rw (append-nil (put_on_each (item.Mark r plan.nodes) (filter (λ (lane : Lane). covers_edge
        setup r lane.edge) (lanes_out setup.job w))))
        (with_item-puts setup.job (reaches setup (onto.Covered r)) (item.Mark r plan.nodes) _
        (lanes_out setup.job w) numbers lists are (λ lane number i there.
        on_passing (λ (l : Lane). covers_edge setup r l.edge) (item.Mark r plan.nodes) lane
        (lanes_out setup.job w) (out_distinct setup.job w) i
        ∙ ap (λ (l : Lane). item_if (covers_edge setup r l.edge) (item.Mark r plan.nodes) []) (sym
        (get_or_from_slice_get (lanes setup.job) number lane no_lane there))))

-- an end on each lane out
pub ends_on : (setup : SetupView) (w : ℕ) (numbers : List ℕ) (lists : List (List Item)) →
    AreNumbersOf setup.job (lanes_out setup.job w) numbers
    → with_item (reaches setup onto.All) item.Last numbers lists
    ≡ with_puts (lanes_out setup.job w) (put_on_each item.Last (lanes_out setup.job w)) lists
ends_on setup w numbers lists are =
    with_item-puts setup.job (reaches setup onto.All) item.Last (put_on_each item.Last (lanes_out
    setup.job w)) (lanes_out setup.job w) numbers lists are (λ lane number i there.
    one_on item.Last lane (lanes_out setup.job w) (out_distinct setup.job w) i)
