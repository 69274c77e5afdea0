-- Rows that are numbered on, in two pieces.
use Rattle.std.proofs.Common.{◌≡◌, ◌∙◌, ◌+◌, ◌-◌, ◌≤◌, ◌++◌, ◌==◌, ℕ, Bool, List, [], ◌∷◌, Some, ap}
use Rattle.std.proofs.Common.{append_assoc, arith, drop, length, refl, subst, suc, sym, take}
use Rattle.std.proofs.Common.{take-append-drop, true, zero}
use Rattle.std.proofs.lemmas.Bool.Decides.{nat_tests}
use Rattle.std.proofs.lemmas.Grind.{common_steps}
use Rattle.std.proofs.lemmas.List.{nil_from_length}
use Rattle.std.specs.Prelude.{slice_get}
use Rattle.tuple_trace.specs.FeedRows.{AreRowsAfter}
use Rattle.tuple_trace.specs.Rows.{IsRow}
use Rattle.tuple_trace.specs.declared.row.Row.{Row}
use Rattle.stream_run.specs.Parts.{KeepsAsked}
use Rattle.stream_step.specs.declared.stream.Stream.{Stream}

get-drop : {X : Type 0} (n : ℕ) (xs : List X) (i : ℕ) → slice_get (drop n xs) i
    ≡ slice_get xs (n + i)
get-drop zero xs i = ap (slice_get xs) (omega arith)
get-drop (suc n) [] i = refl
get-drop (suc n) (x ∷ xs) i =
    let same : suc (n + i) ≡ suc n + i = omega arith in
    get-drop n xs i ∙ ap (slice_get (x ∷ xs)) same

get-take : {X : Type 0} (n : ℕ) (xs : List X) (i : ℕ) (x : X) → slice_get (take n xs) i ≡ Some x
    → slice_get xs i ≡ Some x
get-take zero xs i x is = absurd (cc is)
get-take (suc n) [] i x is = is
get-take (suc n) (y ∷ xs) zero x is = is
get-take (suc n) (y ∷ xs) (suc i) x is = get-take n xs i x is

pub length-take : {X : Type 0} (n : ℕ) (xs : List X) → n ≤ length xs → length (take n xs) ≡ n
length-take n xs within = grind (arith, common_steps)

pub after-take : (fed n : ℕ) (rows : List Row) → AreRowsAfter fed rows
    → AreRowsAfter fed (take n rows)
after-take fed n rows are i row is = are i row (get-take n rows i row is)

pub after-drop : (fed n : ℕ) (rows : List Row) → AreRowsAfter fed rows
    → AreRowsAfter (fed + n) (drop n rows)
after-drop fed n rows are i row is =
    let same : fed + (n + i) + 1 ≡ fed + n + i + 1 = omega (arith) in
    subst (λ k. IsRow k row) same (are (n + i) row (sym (get-drop n rows i) ∙ is))

-- nothing is left
pub emptied : {X : Type 0} (xs : List X) (b : Bool) → b ≡ (length xs == 0) → b ≡ true → xs ≡ []
emptied xs b is full =
    let test : (length xs == 0) ≡ true = sym is ∙ full in
    let none : length xs ≡ 0 = grind (arith, nat_tests) in
    nil_from_length xs none

later : {X : Type 0} (n : ℕ) (rest : List X) → take (length rest - n) (drop n rest) ≡ drop n rest
later n rest = grind (arith, common_steps)

-- the first items are done too, and the later ones are left
pub done-more : {X : Type 0} (all done rest : List X) (n : ℕ) → all ≡ done ++ rest → all
    ≡ (done ++ take n rest) ++ take (length rest - n) (drop n rest)
done-more all done rest n is =
    rw (later n rest) (is ∙ (ap (λ r. done ++ r) (sym (take-append-drop n rest)) ∙ sym
    (append_assoc done (take n rest) (drop n rest))))

-- the later rows are numbered on
pub after-done : (row next n : ℕ) (rest : List Row) → n ≤ length rest → next
    ≡ row + length (take n rest) → AreRowsAfter row rest
    → AreRowsAfter next (take (length rest - n) (drop n rest))
after-done row next n rest within is are =
    let same : next ≡ row + n = is ∙ ap (λ k. row + k) (length-take n rest within) in
    subst (λ k. AreRowsAfter k (take (length rest - n) (drop n rest))) (sym same)
    (after-take (row + n) (length rest - n) (drop n rest) (after-drop row n rest are))

pub kept-none : (a : Stream) → KeepsAsked a a
kept-none a =
    record { asked = λ all of. of; job_is = refl; splits_are = refl; exact_is = refl }

pub kept-then : (a b c : Stream) → KeepsAsked a b → KeepsAsked b c → KeepsAsked a c
kept-then a b c one two =
    record {
      asked = λ all of. two.asked all (one.asked all of);
      job_is = two.job_is
          ∙ one.job_is;
      splits_are = two.splits_are ∙ one.splits_are;
      exact_is = two.exact_is ∙ one.exact_is;
    }
