-- The places of records, sorted into lists.
use Rattle.std.proofs.Common.{◌≡◌, ◌∙◌, ◌<◌, ◌≤◌, ◌+◌, ◌-◌, ◌++◌, ℕ, suc, Bool, true, false, cond, List, [], ◌∷◌, refl, sym, ap, ap₂, subst, arith, get_or, length, map, set}
use Rattle.std.specs.Prelude.{◌==◌, ◌&&◌, ◌||◌, not, nat_lt}
use Rattle.std.specs.List.{concat, flat_map, range_with_len}
use Rattle.std.proofs.lemmas.Bool.{and_from, eq-eqb, lt-ltb, ne_eqb}
use Rattle.std.proofs.lemmas.List.{append_assoc, append-nil, map-append}
use Rattle.std.proofs.lemmas.List.FromFn.{get_or-map-range_with_len, length-map-range_with_len}
use Rattle.jobs.specs.JobView.{JobView}
use Rattle.audit_laws.specs.Names.{named_workers}
use Rattle.audit_stream.specs.Places.{last_places, places_together}
use Rattle.audit_stream.specs.Together.{group_count, record_group, has_stop, in_group, tells_stop, last_ends, together}
use Rattle.audit_stream.specs.Sorting.{SpelledWorker, closes, group_among, is_left_out, place_lists, places_from, stop_place, workers_spelled}
use Rattle.audit_stream.proofs.ClosedLemmas.{count_past, one_past}
use Rattle.audit_stream.proofs.SortLemmas.{get_or-any, group_same, map_same, map_set, mapped_long}

-- ---- one more record

one_or_not : (c : Bool) (place : ℕ) (xs ys : List ℕ) → cond c (xs ++ ys) (place ∷ (xs ++ ys)) ≡ cond c xs (place ∷ xs) ++ ys
one_or_not true place xs ys = refl
one_or_not false place xs ys = refl

places_append : (workers : List SpelledWorker) (g stop place : ℕ) (xs ys : List (List (List ℕ)))
    → places_from workers g stop place (xs ++ ys) ≡ places_from workers g stop place xs ++ places_from workers g (stop - length xs) (place + length xs) ys
places_append workers g stop place [] ys =
    let s : stop ≡ stop - 0 = omega arith in
    let p : place ≡ place + 0 = omega arith in
    ap₂ (λ a b. places_from workers g a b ys) s p
places_append workers g stop place (x ∷ xs) ys =
    let c : Bool = is_left_out stop x || not (group_among workers x == g) in
    let s : stop - 1 - length xs ≡ stop - suc (length xs) = omega arith in
    let p : place + 1 + length xs ≡ place + suc (length xs) = omega arith in
    let later = places_append workers g (stop - 1) (place + 1) xs ys ∙ ap₂ (λ a b. places_from workers g (stop - 1) (place + 1) xs ++ places_from workers g a b ys) s p in
    ap (λ (l : List ℕ). cond c l (place ∷ l)) later
    ∙ one_or_not c place (places_from workers g (stop - 1) (place + 1) xs) (places_from workers g (stop - suc (length xs)) (place + suc (length xs)) ys)

abbrev place_text : List SpelledWorker → ℕ → List (List (List ℕ)) → ℕ → List ℕ
place_text workers stop records g = places_from workers g stop 1 records

-- what is left out stands in no list
left_same : (workers : List SpelledWorker) (stop : ℕ) (above : List (List (List ℕ))) (x : List (List ℕ)) → is_left_out (stop - length above) x ≡ true → (k : ℕ)
    → place_text workers stop (above ++ x ∷ []) k ≡ place_text workers stop above k
left_same workers stop above x is k =
    places_append workers k stop 1 above (x ∷ [])
    ∙ (ap (λ (b : Bool). place_text workers stop above k ++ cond (b || not (group_among workers x == k)) [] ((1 + length above) ∷ [])) is
    ∙ append-nil (place_text workers stop above k))

own_place : (workers : List SpelledWorker) (stop : ℕ) (above : List (List (List ℕ))) (x : List (List ℕ)) → is_left_out (stop - length above) x ≡ false
    → place_text workers stop (above ++ x ∷ []) (group_among workers x) ≡ place_text workers stop above (group_among workers x) ++ (1 + length above) ∷ []
own_place workers stop above x isnt =
    let g : ℕ = group_among workers x in
    places_append workers g stop 1 above (x ∷ [])
    ∙ ap₂ (λ (b c : Bool). place_text workers stop above g ++ cond (b || not c) [] ((1 + length above) ∷ [])) isnt (eq-eqb g g refl)

other_place : (workers : List SpelledWorker) (stop : ℕ) (above : List (List (List ℕ))) (x : List (List ℕ)) → is_left_out (stop - length above) x ≡ false → (k : ℕ)
    → (k ≡ group_among workers x → ⊥) → place_text workers stop (above ++ x ∷ []) k ≡ place_text workers stop above k
other_place workers stop above x isnt k ne =
    places_append workers k stop 1 above (x ∷ [])
    ∙ (ap₂ (λ (b c : Bool). place_text workers stop above k ++ cond (b || not c) [] ((1 + length above) ∷ [])) isnt (ne_eqb (group_among workers x) k (λ e. ne (sym e)))
    ∙ append-nil (place_text workers stop above k))

-- ---- sorting them in turn

-- The places of these records were sorted, and the others are left.
pub record ArePlacedTo (workers : List SpelledWorker) (stop : ℕ) (records left : List (List (List ℕ))) (number : ℕ) (lists : List (List ℕ)) : Type 0 where
  pub above : List (List (List ℕ))
  pub records_are : records ≡ above ++ left
  pub number_is : number ≡ length above
  pub lists_are : lists ≡ place_lists workers stop above

pub placed_none : (workers : List SpelledWorker) (stop : ℕ) (records : List (List (List ℕ))) (lists : List (List ℕ)) → lists ≡ place_lists workers stop []
    → ArePlacedTo workers stop records records 0 lists
placed_none workers stop records lists e = record { above = []; records_are = refl; number_is = refl; lists_are = e }

pub lists_long : (workers : List SpelledWorker) (stop : ℕ) (above : List (List (List ℕ))) → length (place_lists workers stop above) ≡ 3 + length workers
lists_long workers stop above = length-map-range_with_len (place_text workers stop above) 0 (3 + length workers)

placed_by : (workers : List SpelledWorker) (stop : ℕ) (records left : List (List (List ℕ))) (x : List (List ℕ)) (number : ℕ) (lists new : List (List ℕ))
    → (at : ArePlacedTo workers stop records (x ∷ left) number lists) → new ≡ place_lists workers stop (at.above ++ x ∷ [])
    → ArePlacedTo workers stop records left (number + 1) new
placed_by workers stop records left x number lists new at e = record {
  above = at.above ++ x ∷ [];
  records_are = one_past records at.above left x at.records_are;
  number_is = count_past at.above x number at.number_is;
  lists_are = e;
}

and_none : (b c : Bool) → c ≡ false → (b && c) ≡ false
and_none true c e = e
and_none false c e = refl

pub placed_skip : (workers : List SpelledWorker) (stop : ℕ) (records left : List (List (List ℕ))) (x : List (List ℕ)) (number : ℕ) (lists : List (List ℕ))
    → ArePlacedTo workers stop records (x ∷ left) number lists → number < stop → closes x ≡ true
    → ArePlacedTo workers stop records left (number + 1) lists
placed_skip workers stop records left x number lists at lt is =
    let n = at.number_is in
    let more : 0 < stop - length at.above = omega arith in
    let out : is_left_out (stop - length at.above) x ≡ true = and_from (nat_lt 0 (stop - length at.above)) (closes x) (lt-ltb 0 (stop - length at.above) more) is in
    placed_by workers stop records left x number lists lists at
    (at.lists_are ∙ sym (map_same (place_text workers stop at.above) (place_text workers stop (at.above ++ x ∷ [])) 0 (3 + length workers) (λ k le. left_same workers stop at.above x out k)))

kept_so : (workers : List SpelledWorker) (stop : ℕ) (records left : List (List (List ℕ))) (x : List (List ℕ)) (number g : ℕ) (lists new : List (List ℕ))
    → (at : ArePlacedTo workers stop records (x ∷ left) number lists) → is_left_out (stop - length at.above) x ≡ false → g ≡ group_among workers x → g < 3 + length workers
    → new ≡ set lists g (get_or lists g [] ++ (number + 1) ∷ []) → ArePlacedTo workers stop records left (number + 1) new
kept_so workers stop records left x number g lists new at isnt own lt added =
    let above : List (List (List ℕ)) = at.above in
    let i : ℕ = group_among workers x in
    let n : ℕ = 3 + length workers in
    let few : i < n = subst (λ m. m < n) own lt in
    let place : number + 1 ≡ 1 + length above = omega (arith, at.number_is) in
    let old : get_or (place_lists workers stop above) i [] ≡ place_text workers stop above i = get_or-map-range_with_len (place_text workers stop above) 0 n i i [] few (omega arith) in
    let value : List ℕ = get_or (place_lists workers stop above) i [] ++ (1 + length above) ∷ [] in
    let step : place_lists workers stop (above ++ x ∷ []) ≡ set (place_lists workers stop above) i value =
    map_set (place_text workers stop above) (place_text workers stop (above ++ x ∷ [])) 0 n i i value few (omega arith)
    (own_place workers stop above x isnt ∙ ap (λ (l : List ℕ). l ++ (1 + length above) ∷ []) (sym old)) (other_place workers stop above x isnt) in
    placed_by workers stop records left x number lists new at
    (added ∙ (ap₂ (λ (l : List (List ℕ)) (m : ℕ). set l m (get_or l m [] ++ (number + 1) ∷ [])) at.lists_are own
    ∙ (ap (λ p. set (place_lists workers stop above) i (get_or (place_lists workers stop above) i [] ++ p ∷ [])) place ∙ sym step)))

-- a place is appended to a list
pub pushed_at : (lists : List (List ℕ)) (g : ℕ) (part : List ℕ) (place : ℕ) (new : List ℕ) (pushed : List (List ℕ)) → g < length lists → pushed ≡ set lists g new
    → new ≡ get_or lists g part ++ place ∷ [] → pushed ≡ set lists g (get_or lists g [] ++ place ∷ [])
pushed_at lists g part place new pushed lt at added =
    at ∙ ap (set lists g) (added ∙ ap (λ (l : List ℕ). l ++ place ∷ []) (get_or-any lists g part [] lt))

pub placed_late : (workers : List SpelledWorker) (stop : ℕ) (records left : List (List (List ℕ))) (x : List (List ℕ)) (number g : ℕ) (lists new : List (List ℕ))
    → ArePlacedTo workers stop records (x ∷ left) number lists → stop ≤ number → g ≡ group_among workers x → g < 3 + length workers
    → new ≡ set lists g (get_or lists g [] ++ (number + 1) ∷ []) → ArePlacedTo workers stop records left (number + 1) new
placed_late workers stop records left x number g lists new at le own lt added =
    let n = at.number_is in
    let none : stop - length at.above ≡ 0 = omega arith in
    kept_so workers stop records left x number g lists new at (ap (λ s. is_left_out s x) none) own lt added

pub placed_open : (workers : List SpelledWorker) (stop : ℕ) (records left : List (List (List ℕ))) (x : List (List ℕ)) (number g : ℕ) (lists new : List (List ℕ))
    → ArePlacedTo workers stop records (x ∷ left) number lists → closes x ≡ false → g ≡ group_among workers x → g < 3 + length workers
    → new ≡ set lists g (get_or lists g [] ++ (number + 1) ∷ []) → ArePlacedTo workers stop records left (number + 1) new
placed_open workers stop records left x number g lists new at isnt own lt added =
    kept_so workers stop records left x number g lists new at (and_none (nat_lt 0 (stop - length at.above)) (closes x) isnt) own lt added

pub placed_all : (workers : List SpelledWorker) (stop : ℕ) (records : List (List (List ℕ))) (number : ℕ) (lists : List (List ℕ)) → ArePlacedTo workers stop records [] number lists
    → lists ≡ place_lists workers stop records
placed_all workers stop records number lists at =
    at.lists_are ∙ ap (place_lists workers stop) (sym (at.records_are ∙ append-nil at.above))

-- ---- the places of what is put together

and_true : (c : Bool) → (c && true) ≡ c
and_true true = refl
and_true false = refl

and_false : (c : Bool) → (c && false) ≡ false
and_false true = refl
and_false false = refl

or_later : (b c : Bool) → (b || c) ≡ false → c ≡ false
or_later true c e = absurd (cc e)
or_later false c e = e

stop_none : (xs : List (List (List ℕ))) → has_stop xs ≡ false → stop_place xs ≡ 0
stop_none [] e = refl
stop_none (x ∷ xs) e = ap (λ (b : Bool). cond b (suc (stop_place xs)) 0) (or_later (tells_stop x) (has_stop xs) e)

out_same : (x : List (List ℕ)) (later : List (List (List ℕ))) (b : Bool) → has_stop later ≡ b → (closes x && has_stop later) ≡ is_left_out (stop_place (x ∷ later)) x
out_same x later true e =
    let s : stop_place (x ∷ later) ≡ suc (stop_place later) = ap (λ (b : Bool). cond b (suc (stop_place later)) 0) e in
    ap (λ (b : Bool). closes x && b) e ∙ (and_true (closes x)
    ∙ sym (ap (λ n. nat_lt 0 n && closes x) s ∙ ap (λ (b : Bool). b && closes x) (lt-ltb 0 (suc (stop_place later)) (omega arith))))
out_same x later false e =
    let s : stop_place (x ∷ later) ≡ 0 = ap (λ (b : Bool). cond b (suc (stop_place later)) 0) e in
    ap (λ (b : Bool). closes x && b) e ∙ (and_false (closes x) ∙ sym (ap (λ n. nat_lt 0 n && closes x) s))

next_same : (x : List (List ℕ)) (later : List (List (List ℕ))) (b : Bool) → has_stop later ≡ b → stop_place later ≡ stop_place (x ∷ later) - 1
next_same x later true e =
    let s : stop_place (x ∷ later) ≡ suc (stop_place later) = ap (λ (b : Bool). cond b (suc (stop_place later)) 0) e in
    omega arith
next_same x later false e =
    let s : stop_place (x ∷ later) ≡ 0 = ap (λ (b : Bool). cond b (suc (stop_place later)) 0) e in
    let n : stop_place later ≡ 0 = stop_none later e in
    omega arith

places_same : (job : JobView) (g place : ℕ) (records : List (List (List ℕ)))
    → last_places job g place records ≡ places_from (workers_spelled job) g (stop_place records) place records
places_same job g place [] = refl
places_same job g place (x ∷ later) =
    let workers : List SpelledWorker = workers_spelled job in
    let rest = places_same job g (place + 1) later ∙ ap (λ s. places_from workers g s (place + 1) later) (next_same x later (has_stop later) refl) in
    let out = ap₂ (λ (b : Bool) (n : ℕ). b || not (n == g)) (out_same x later (has_stop later) refl) (sym (group_same job x)) in
    ap₂ (λ (b : Bool) (l : List ℕ). cond b l (place ∷ l)) out rest

joined_lists : (f h : ℕ → List ℕ) → ((k : ℕ) → f k ≡ h k) → (ks : List ℕ) → concat (map f ks) ≡ flat_map h ks
joined_lists f h same [] = refl
joined_lists f h same (k ∷ ks) = ap₂ (λ (a b : List ℕ). a ++ b) (same k) (joined_lists f h same ks)

pub places_so : (job : JobView) (records : List (List (List ℕ))) (first : List (List ℕ)) (body : List (List (List ℕ))) → records ≡ first ∷ body
    → 0 ∷ concat (place_lists (workers_spelled job) (stop_place body) body) ≡ places_together job records
places_so job records first body e =
    let workers : List SpelledWorker = workers_spelled job in
    ap (λ n. 0 ∷ concat (map (place_text workers (stop_place body) body) (range_with_len 0 (3 + n)))) (mapped_long (named_workers job.nodes))
    ∙ (ap (λ (l : List ℕ). 0 ∷ l) (joined_lists (place_text workers (stop_place body) body) (λ g. last_places job g 1 body) (λ g. sym (places_same job g 1 body)) (range_with_len 0 (group_count job)))
    ∙ sym (ap (places_together job) e))

-- ---- the records at these places

get_mid : (above : List (List (List ℕ))) (x : List (List ℕ)) (later : List (List (List ℕ))) → get_or (above ++ x ∷ later) (length above) [] ≡ x
get_mid [] x later = refl
get_mid (y ∷ above) x later = get_mid above x later

abbrev read_at : List (List (List ℕ)) → ℕ → List (List ℕ)
read_at records place = get_or records place []

listed : (job : JobView) (g place : ℕ) (above rest : List (List (List ℕ))) → place ≡ length above
    → map (read_at (above ++ rest)) (last_places job g place rest) ≡ in_group job (last_ends rest) g
listed job g place above [] e = refl
listed job g place above (x ∷ later) e =
    let all : List (List (List ℕ)) = above ++ x ∷ later in
    let here : read_at all place ≡ x = ap (read_at all) e ∙ get_mid above x later in
    let next : map (read_at all) (last_places job g (place + 1) later) ≡ in_group job (last_ends later) g =
    ap (λ (l : List (List (List ℕ))). map (read_at l) (last_places job g (place + 1) later)) (sym (append_assoc above (x ∷ []) later))
    ∙ listed job g (place + 1) (above ++ x ∷ []) later (count_past above x place e) in
    by_cases job g place all x (last_places job g (place + 1) later) (last_ends later) (closes x && has_stop later) (record_group job x == g) refl here next
  where
    by_cases : (job : JobView) (g place : ℕ) (all : List (List (List ℕ))) (x : List (List ℕ)) (places : List ℕ) (ends : List (List (List ℕ))) (c d : Bool)
        → (record_group job x == g) ≡ d → read_at all place ≡ x → map (read_at all) places ≡ in_group job ends g
        → map (read_at all) (cond (c || not (record_group job x == g)) places (place ∷ places)) ≡ in_group job (cond c ends (x ∷ ends)) g
    by_cases job g place all x places ends true d e here next = next
    by_cases job g place all x places ends false true e here next = rw e (ap₂ (λ (a : List (List ℕ)) (l : List (List (List ℕ))). a ∷ l) here next)
    by_cases job g place all x places ends false false e here next = rw e next

each_listed : (job : JobView) (first : List (List ℕ)) (body : List (List (List ℕ))) (gs : List ℕ)
    → map (read_at (first ∷ body)) (flat_map (λ g. last_places job g 1 body) gs) ≡ flat_map (in_group job (last_ends body)) gs
each_listed job first body [] = refl
each_listed job first body (g ∷ gs) =
    map-append (read_at (first ∷ body)) (last_places job g 1 body) (flat_map (λ g. last_places job g 1 body) gs)
    ∙ ap₂ (λ (a b : List (List (List ℕ))). a ++ b) (listed job g 1 (first ∷ []) body refl) (each_listed job first body gs)

-- the records at the places are those that are put together
pub records_listed : (job : JobView) (records : List (List (List ℕ))) → map (λ place. get_or records place []) (places_together job records) ≡ together job records
records_listed job [] = refl
records_listed job (first ∷ body) = ap (λ (l : List (List (List ℕ))). first ∷ l) (each_listed job first body (range_with_len 0 (group_count job)))
