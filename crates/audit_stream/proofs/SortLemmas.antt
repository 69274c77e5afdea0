-- Records, sorted into the texts of their groups.
use Rattle.std.proofs.Common.{◌≡◌, ◌∙◌, ◌<◌, ◌≤◌, ◌+◌, ◌++◌, ℕ, zero, suc, Bool, true, false, cond, List, [], ◌∷◌, refl, sym, ap, ap₂, subst, arith, get_or, length, map, set}
use Rattle.std.specs.Prelude.{◌==◌, MatchBool, codes, filter, if◌then◌else◌, not}
use Rattle.std.specs.List.{concat, flat_map, position_or_len, range_with_len}
use Rattle.std.proofs.lemmas.Bool.{eq-eqb, ne_eqb}
use Rattle.std.proofs.lemmas.List.{append_assoc, append-nil}
use Rattle.std.proofs.lemmas.List.Concat.{flat_map-append}
use Rattle.std.proofs.lemmas.List.Elements.{filter-append}
use Rattle.std.proofs.lemmas.List.FromFn.{get_or-map-range_with_len, length-map-range_with_len}
use Rattle.jobs.specs.JobView.{JobView}
use Rattle.sink_journal.specs.Records.{record_text, records_text}
use Rattle.audit_laws.specs.Names.{Named, named_workers}
use Rattle.payments.specs.Reading.{begins_with}
use Rattle.audit_stream.specs.Together.{by_group, field, group_count, record_group, in_group, tells_step, is_of_worker}
use Rattle.audit_stream.specs.Sorting.{SpelledWorker, closed_from, closes, group_among, group_text, group_texts, number_spelled, spelled, workers_spelled}
use Rattle.audit_stream.proofs.ClosedLemmas.{closed_from-open, closed_from-push, closed_from-skip, count_past, one_past}

-- ---- one more record

pub map_same : (f h : ℕ → List ℕ) (a n : ℕ) → ((k : ℕ) → a ≤ k → h k ≡ f k) → map h (range_with_len a n) ≡ map f (range_with_len a n)
map_same f h a zero same = refl
map_same f h a (suc n) same = ap₂ (λ (x : List ℕ) (xs : List (List ℕ)). x ∷ xs) (same a (omega arith)) (map_same f h (a + 1) n (λ k le. same k (omega arith)))

pub map_set : (f h : ℕ → List ℕ) (a n i j : ℕ) (v : List ℕ) → i < n → j ≡ a + i → h j ≡ v → ((k : ℕ) → (k ≡ j → ⊥) → h k ≡ f k)
    → map h (range_with_len a n) ≡ set (map f (range_with_len a n)) i v
map_set f h a zero i j v lt e own other = absurd (omega arith)
map_set f h a (suc n) zero j v lt e own other =
    let same : a ≡ j = omega arith in
    ap₂ (λ (x : List ℕ) (xs : List (List ℕ)). x ∷ xs) (ap h same ∙ own) (map_same f h (a + 1) n (λ k le. other k (λ z. omega arith)))
map_set f h a (suc n) (suc i) j v lt e own other =
    ap₂ (λ (x : List ℕ) (xs : List (List ℕ)). x ∷ xs) (other a (λ z. omega arith)) (map_set f h (a + 1) n i j v (omega arith) (omega arith) own other)

own_text : (workers : List SpelledWorker) (above : List (List (List ℕ))) (x : List (List ℕ)) → group_text workers (above ++ x ∷ []) (group_among workers x)
    ≡ group_text workers above (group_among workers x) ++ record_text x
own_text workers above x =
    let g : ℕ = group_among workers x in
    let p : List (List ℕ) → Bool = λ fields. group_among workers fields == g in
    let own : p x ≡ true = eq-eqb g g refl in
    ap records_text (filter-append p above (x ∷ []) ∙ ap (λ (b : Bool). filter p above ++ cond b (x ∷ []) []) own)
    ∙ (flat_map-append record_text (filter p above) (x ∷ []) ∙ ap (λ (t : List ℕ). records_text (filter p above) ++ t) (append-nil (record_text x)))

other_text : (workers : List SpelledWorker) (above : List (List (List ℕ))) (x : List (List ℕ)) (k : ℕ) → (k ≡ group_among workers x → ⊥)
    → group_text workers (above ++ x ∷ []) k ≡ group_text workers above k
other_text workers above x k ne =
    let p : List (List ℕ) → Bool = λ fields. group_among workers fields == k in
    let other : p x ≡ false = ne_eqb (group_among workers x) k (λ e. ne (sym e)) in
    ap records_text (filter-append p above (x ∷ []) ∙ (ap (λ (b : Bool). filter p above ++ cond b (x ∷ []) []) other ∙ append-nil (filter p above)))

-- a record is appended to the text of its group
pub one_sorted : (workers : List SpelledWorker) (above : List (List (List ℕ))) (x : List (List ℕ)) → group_among workers x < 3 + length workers
    → group_texts workers (above ++ x ∷ [])
    ≡ set (group_texts workers above) (group_among workers x) (get_or (group_texts workers above) (group_among workers x) [] ++ record_text x)
one_sorted workers above x lt =
    let g : ℕ = group_among workers x in
    let n : ℕ = 3 + length workers in
    let old : get_or (group_texts workers above) g [] ≡ group_text workers above g = get_or-map-range_with_len (group_text workers above) 0 n g g [] lt (omega arith) in
    map_set (group_text workers above) (group_text workers (above ++ x ∷ [])) 0 n g g (get_or (group_texts workers above) g [] ++ record_text x) lt (omega arith)
    (own_text workers above x ∙ ap (λ (t : List ℕ). t ++ record_text x) (sym old)) (other_text workers above x)

pub texts_long : (workers : List SpelledWorker) (above : List (List (List ℕ))) → length (group_texts workers above) ≡ 3 + length workers
texts_long workers above = length-map-range_with_len (group_text workers above) 0 (3 + length workers)

pub get_or-any : (xs : List (List ℕ)) (i : ℕ) (d e : List ℕ) → i < length xs → get_or xs i d ≡ get_or xs i e
get_or-any [] i d e lt = absurd (omega arith)
get_or-any (x ∷ xs) zero d e lt = refl
get_or-any (x ∷ xs) (suc i) d e lt = get_or-any xs i d e (omega arith)

pub set_sorted : (workers : List SpelledWorker) (above : List (List (List ℕ))) (x : List (List ℕ)) (texts : List (List ℕ)) (g : ℕ) (part new : List ℕ)
    → texts ≡ group_texts workers above → g ≡ group_among workers x → g < 3 + length workers → part ≡ get_or texts g part → new ≡ part ++ record_text x
    → set texts g new ≡ group_texts workers (above ++ x ∷ [])
set_sorted workers above x texts g part new same own lt read added =
    let long : length texts ≡ 3 + length workers = ap length same ∙ texts_long workers above in
    let old : part ≡ get_or texts g [] = read ∙ get_or-any texts g part [] (omega arith) in
    let few : group_among workers x < 3 + length workers = subst (λ n. n < 3 + length workers) own lt in
    ap (set texts g) (added ∙ ap (λ (t : List ℕ). t ++ record_text x) old)
    ∙ (ap₂ (λ (l : List (List ℕ)) (n : ℕ). set l n (get_or l n [] ++ record_text x)) same own ∙ sym (one_sorted workers above x few))

-- ---- sorting them in turn

-- These records were sorted, and the others are left.
pub record AreSortedTo (workers : List SpelledWorker) (stop : ℕ) (records left : List (List (List ℕ))) (number : ℕ) (texts : List (List ℕ)) : Type 0 where
  pub above : List (List (List ℕ))
  pub records_are : records ≡ above ++ left
  pub number_is : number ≡ length above
  pub texts_are : texts ≡ group_texts workers (closed_from stop above)

closed_none : (stop : ℕ) → closed_from stop [] ≡ []
closed_none zero = refl
closed_none (suc stop) = refl

pub sorted_none : (workers : List SpelledWorker) (stop : ℕ) (records : List (List (List ℕ))) (texts : List (List ℕ)) → texts ≡ group_texts workers []
    → AreSortedTo workers stop records records 0 texts
sorted_none workers stop records texts e =
    record { above = []; records_are = refl; number_is = refl; texts_are = e ∙ ap (group_texts workers) (sym (closed_none stop)) }

sorted_by : (workers : List SpelledWorker) (stop : ℕ) (records left : List (List (List ℕ))) (x : List (List ℕ)) (number : ℕ) (texts new : List (List ℕ))
    → (at : AreSortedTo workers stop records (x ∷ left) number texts) → new ≡ group_texts workers (closed_from stop (at.above ++ x ∷ []))
    → AreSortedTo workers stop records left (number + 1) new
sorted_by workers stop records left x number texts new at e = record {
  above = at.above ++ x ∷ [];
  records_are = one_past records at.above left x at.records_are;
  number_is = count_past at.above x number at.number_is;
  texts_are = e;
}

pub sorted_late : (workers : List SpelledWorker) (stop : ℕ) (records left : List (List (List ℕ))) (x : List (List ℕ)) (number : ℕ) (texts new : List (List ℕ))
    → AreSortedTo workers stop records (x ∷ left) number texts → stop ≤ number
    → ((above : List (List (List ℕ))) → texts ≡ group_texts workers above → new ≡ group_texts workers (above ++ x ∷ []))
    → AreSortedTo workers stop records left (number + 1) new
sorted_late workers stop records left x number texts new at le add =
    let n = at.number_is in
    sorted_by workers stop records left x number texts new at
    (add (closed_from stop at.above) at.texts_are ∙ ap (group_texts workers) (sym (closed_from-push stop at.above x (omega arith))))

pub sorted_open : (workers : List SpelledWorker) (stop : ℕ) (records left : List (List (List ℕ))) (x : List (List ℕ)) (number : ℕ) (texts new : List (List ℕ))
    → AreSortedTo workers stop records (x ∷ left) number texts → closes x ≡ false
    → ((above : List (List (List ℕ))) → texts ≡ group_texts workers above → new ≡ group_texts workers (above ++ x ∷ []))
    → AreSortedTo workers stop records left (number + 1) new
sorted_open workers stop records left x number texts new at isnt add =
    sorted_by workers stop records left x number texts new at
    (add (closed_from stop at.above) at.texts_are ∙ ap (group_texts workers) (sym (closed_from-open stop at.above x isnt)))

pub sorted_skip : (workers : List SpelledWorker) (stop : ℕ) (records left : List (List (List ℕ))) (x : List (List ℕ)) (number : ℕ) (texts : List (List ℕ))
    → AreSortedTo workers stop records (x ∷ left) number texts → number < stop → closes x ≡ true
    → AreSortedTo workers stop records left (number + 1) texts
sorted_skip workers stop records left x number texts at lt is =
    let n = at.number_is in
    sorted_by workers stop records left x number texts texts at
    (at.texts_are ∙ ap (group_texts workers) (sym (closed_from-skip stop at.above x (omega arith) is)))

pub sorted_all : (workers : List SpelledWorker) (stop : ℕ) (records : List (List (List ℕ))) (number : ℕ) (texts : List (List ℕ)) → AreSortedTo workers stop records [] number texts
    → texts ≡ group_texts workers (closed_from stop records)
sorted_all workers stop records number texts at =
    at.texts_are ∙ ap (λ (l : List (List (List ℕ))). group_texts workers (closed_from stop l)) (sym (at.records_are ∙ append-nil at.above))

-- the records after the first one
pub body_is : (found : Bool) (records left : List (List (List ℕ))) (fields first : List (List ℕ)) (body : List (List (List ℕ)))
    → MatchBool found (records ≡ fields ∷ left) (records ≡ []) → records ≡ first ∷ body → left ≡ body
body_is true records left fields first body h e = cc
body_is false records left fields first body h e = absurd (cc)

-- ---- the texts one after another

pub one_joined : (now new part end : List ℕ) (rest : List (List ℕ)) → new ≡ now ++ part → now ++ concat (part ∷ rest) ≡ end → new ++ concat rest ≡ end
one_joined now new part end rest added before =
    ap (λ (t : List ℕ). t ++ concat rest) added ∙ (append_assoc now part (concat rest) ∙ before)

number_same : (fields : List (List ℕ)) (workers : List Named) → number_spelled (map spelled workers) (field 1 fields) (field 2 fields) ≡ position_or_len (is_of_worker fields) workers
number_same fields [] = refl
number_same fields (x ∷ workers) = ap (λ (n : ℕ). cond (not (is_of_worker fields x)) (1 + n) 0) (number_same fields workers)

pub group_same : (job : JobView) (fields : List (List ℕ)) → group_among (workers_spelled job) fields ≡ record_group job fields
group_same job fields =
    ap (λ (n : ℕ). if begins_with (codes "refused") fields then 0 else (if tells_step fields then 1 else 2 + n)) (number_same fields (named_workers job.nodes))

filter_same : {A : Type 0} (p q : A → Bool) → ((x : A) → p x ≡ q x) → (xs : List A) → filter p xs ≡ filter q xs
filter_same p q same [] = refl
filter_same {A} p q same (x ∷ xs) = ap₂ (λ (b : Bool) (l : List A). cond b (x ∷ l) l) (same x) (filter_same p q same xs)

joined_texts : (f : ℕ → List ℕ) (g : ℕ → List (List (List ℕ))) → ((k : ℕ) → f k ≡ records_text (g k)) → (ks : List ℕ) → concat (map f ks) ≡ records_text (flat_map g ks)
joined_texts f g same [] = refl
joined_texts f g same (k ∷ ks) =
    ap₂ (λ (a b : List ℕ). a ++ b) (same k) (joined_texts f g same ks) ∙ sym (flat_map-append record_text (g k) (flat_map g ks))

pub mapped_long : (workers : List Named) → length (map spelled workers) ≡ length workers
mapped_long [] = refl
mapped_long (x ∷ workers) = ap suc (mapped_long workers)

-- the texts of the groups are the text of the records by their groups
pub texts_by_group : (job : JobView) (records : List (List (List ℕ))) → concat (group_texts (workers_spelled job) records) ≡ records_text (by_group job records)
texts_by_group job records =
    let workers : List SpelledWorker = workers_spelled job in
    ap (λ n. concat (map (group_text workers records) (range_with_len 0 (3 + n)))) (mapped_long (named_workers job.nodes))
    ∙ joined_texts (group_text workers records) (in_group job records) (λ k.
    ap records_text (filter_same (λ fields. group_among workers fields == k) (λ fields. record_group job fields == k) (λ fields. ap (λ g. g == k) (group_same job fields)) records))
    (range_with_len 0 (group_count job))
