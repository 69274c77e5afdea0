-- What the sinks show of joined journals is what they show of the first and of the second, in another order.
use Rattle.std.proofs.Common.{◌≡◌, ◌∙◌, ◌++◌, ℕ, zero, suc, List, [], ◌∷◌, refl, sym, subst, ap, arith, append_assoc, drop, length, map, take, Option}
use Rattle.std.specs.List.{filter_map, flat_map, zip}
use Rattle.std.specs.List.Sorted.{IsPermutation}
use Rattle.std.proofs.lemmas.List.{map-append}
use Rattle.std.proofs.lemmas.List.Elements.{filter_map-append}
use Rattle.std.proofs.lemmas.List.Sorted.{IsPermutation-append, IsPermutation-append_comm, IsPermutation-append_left, IsPermutation-append_right, IsPermutation-refl, IsPermutation-trans}
use Rattle.jobs.specs.Nodes.{workers_of}
use Rattle.jobs.specs.declared.column.Column.{Column}
use Rattle.jobs.specs.declared.column.ColumnKind.{ColumnKind}
use Rattle.jobs.specs.declared.func.Func.{Func}
use Rattle.jobs.specs.declared.func.Func.TheVariants as func
use Rattle.jobs.specs.declared.func.NodeDef.{NodeDef}
use Rattle.tuple_trace.specs.declared.tuple.Tuple.{Tuple}
use Rattle.sink_journal.specs.Alerts.{alert, alerts_by, all_alerts, layout, met, node_alerts, sink_alerts}
use Rattle.sink_journal.specs.declared.journal.Entry.{Entry}
use Rattle.sink_journal.specs.declared.journal.Entry.TheVariants as entry
use Rattle.savepoint.specs.Parts.{endless, joined_journal}

-- ---- one journal

met_endless : (journal : List Entry) → filter_map met (endless journal) ≡ filter_map met journal
met_endless [] = refl
met_endless (entry.Met l t ∷ more) = ap (λ (ts : List Tuple). t ∷ ts) (met_endless more)
met_endless (entry.Marked l r ∷ more) = met_endless more
met_endless (entry.Turned r ∷ more) = met_endless more
met_endless (entry.Ended l ∷ more) = met_endless more

shown_both : (name : List ℕ) (shape : List (Option ColumnKind)) (x y : List Entry) → sink_alerts name shape (joined_journal (x, y)) ≡ sink_alerts name shape x ++ sink_alerts name shape y
shown_both name shape x y =
    ap (map (alert name shape)) (filter_map-append met (endless x) y ∙ ap (λ (ts : List Tuple). ts ++ filter_map met y) (met_endless x))
    ∙ map-append (alert name shape) (filter_map met x) (filter_map met y)

-- ---- many journals

-- two pairs of lists, the inner two exchanged
mixed : {A : Type 0} (a b c d : List A) → IsPermutation ((a ++ b) ++ (c ++ d)) ((a ++ c) ++ (b ++ d))
mixed a b c d =
    let left : (a ++ b) ++ (c ++ d) ≡ a ++ ((b ++ c) ++ d) = append_assoc a b (c ++ d) ∙ ap (λ l. a ++ l) (sym (append_assoc b c d)) in
    let right : a ++ ((c ++ b) ++ d) ≡ (a ++ c) ++ (b ++ d) = ap (λ l. a ++ l) (append_assoc c b d) ∙ sym (append_assoc a c (b ++ d)) in
    subst (λ l. IsPermutation l ((a ++ c) ++ (b ++ d))) (sym left)
    (subst (IsPermutation (a ++ ((b ++ c) ++ d))) right
    (IsPermutation-append_right a ((b ++ c) ++ d) ((c ++ b) ++ d) (IsPermutation-append_left d (b ++ c) (c ++ b) (IsPermutation-append_comm b c))))

flat_both : {A : Type 0} (f : List Entry → List A) → ((x y : List Entry) → f (joined_journal (x, y)) ≡ f x ++ f y) → (xs ys : List (List Entry)) → length xs ≡ length ys
    → IsPermutation (flat_map f (map joined_journal (zip xs ys))) (flat_map f xs ++ flat_map f ys)
flat_both f both [] [] e = IsPermutation-refl []
flat_both f both [] (y ∷ ys) e = absurd (omega (arith, e))
flat_both f both (x ∷ xs) [] e = absurd (omega (arith, e))
flat_both f both (x ∷ xs) (y ∷ ys) e =
    let later = flat_both f both xs ys (omega (arith, e)) in
    let first = IsPermutation-append_right (f x ++ f y) (flat_map f (map joined_journal (zip xs ys))) (flat_map f xs ++ flat_map f ys) later in
    subst (λ l. IsPermutation (l ++ flat_map f (map joined_journal (zip xs ys))) ((f x ++ flat_map f xs) ++ (f y ++ flat_map f ys))) (sym (both x y))
    (IsPermutation-trans ((f x ++ f y) ++ flat_map f (map joined_journal (zip xs ys))) ((f x ++ f y) ++ (flat_map f xs ++ flat_map f ys)) ((f x ++ flat_map f xs) ++ (f y ++ flat_map f ys)) first
    (mixed (f x) (f y) (flat_map f xs) (flat_map f ys)))

take_both : (n : ℕ) (xs ys : List (List Entry)) → take n (map joined_journal (zip xs ys)) ≡ map joined_journal (zip (take n xs) (take n ys))
take_both zero xs ys = refl
take_both (suc n) [] ys = refl
take_both (suc n) (x ∷ xs) [] = refl
take_both (suc n) (x ∷ xs) (y ∷ ys) = ap (λ (l : List (List Entry)). joined_journal (x, y) ∷ l) (take_both n xs ys)

drop_both : (n : ℕ) (xs ys : List (List Entry)) → length xs ≡ length ys → drop n (map joined_journal (zip xs ys)) ≡ map joined_journal (zip (drop n xs) (drop n ys))
drop_both zero xs ys e = refl
drop_both (suc n) [] [] e = refl
drop_both (suc n) [] (y ∷ ys) e = absurd (omega (arith, e))
drop_both (suc n) (x ∷ xs) [] e = absurd (omega (arith, e))
drop_both (suc n) (x ∷ xs) (y ∷ ys) e = drop_both n xs ys (omega (arith, e))

take_long : (n : ℕ) (xs ys : List (List Entry)) → length xs ≡ length ys → length (take n xs) ≡ length (take n ys)
take_long zero xs ys e = refl
take_long (suc n) [] [] e = refl
take_long (suc n) [] (y ∷ ys) e = absurd (omega (arith, e))
take_long (suc n) (x ∷ xs) [] e = absurd (omega (arith, e))
take_long (suc n) (x ∷ xs) (y ∷ ys) e = ap suc (take_long n xs ys (omega (arith, e)))

drop_long : (n : ℕ) (xs ys : List (List Entry)) → length xs ≡ length ys → length (drop n xs) ≡ length (drop n ys)
drop_long zero xs ys e = e
drop_long (suc n) [] [] e = refl
drop_long (suc n) [] (y ∷ ys) e = absurd (omega (arith, e))
drop_long (suc n) (x ∷ xs) [] e = absurd (omega (arith, e))
drop_long (suc n) (x ∷ xs) (y ∷ ys) e = drop_long n xs ys (omega (arith, e))

-- ---- nodes

node_both : (columns : List Column) (f : Func) (name : List ℕ) (xs ys : List (List Entry)) → length xs ≡ length ys
    → IsPermutation (alerts_by f columns name (map joined_journal (zip xs ys))) (alerts_by f columns name xs ++ alerts_by f columns name ys)
node_both columns (func.Sink listed) name xs ys e = flat_both (sink_alerts name (layout columns listed)) (shown_both name (layout columns listed)) xs ys e
node_both columns _ name xs ys e = IsPermutation-refl []

pub alerts_both : (columns : List Column) (nodes : List NodeDef) (xs ys : List (List Entry)) → length xs ≡ length ys
    → IsPermutation (all_alerts columns nodes (map joined_journal (zip xs ys))) (all_alerts columns nodes xs ++ all_alerts columns nodes ys)
alerts_both columns [] xs ys e = IsPermutation-refl []
alerts_both columns (node ∷ nodes) xs ys e =
    let n : ℕ = workers_of node in
    let here = node_both columns node.func node.name (take n xs) (take n ys) (take_long n xs ys e) in
    let there = alerts_both columns nodes (drop n xs) (drop n ys) (drop_long n xs ys e) in
    let all = map joined_journal (zip xs ys) in
    let first = node_alerts columns node (map joined_journal (zip (take n xs) (take n ys))) in
    let rest = all_alerts columns nodes (map joined_journal (zip (drop n xs) (drop n ys))) in
    let a = node_alerts columns node (take n xs) in
    let b = node_alerts columns node (take n ys) in
    let c = all_alerts columns nodes (drop n xs) in
    let d = all_alerts columns nodes (drop n ys) in
    let is : all_alerts columns (node ∷ nodes) all ≡ first ++ rest =
    ap (λ (l : List (List Entry)). node_alerts columns node l ++ all_alerts columns nodes (drop n all)) (take_both n xs ys)
    ∙ ap (λ (l : List (List Entry)). first ++ all_alerts columns nodes l) (drop_both n xs ys e) in
    subst (λ l. IsPermutation l ((a ++ c) ++ (b ++ d))) (sym is)
    (IsPermutation-trans (first ++ rest) ((a ++ b) ++ (c ++ d)) ((a ++ c) ++ (b ++ d)) (IsPermutation-append first (a ++ b) rest (c ++ d) here there) (mixed a b c d))
