-- The first change with a fault, one change on.
use Rattle.std.proofs.Common.{◌≡◌, Option, ◌<◌, ◌≤◌, ◌+◌, ℕ, List, [], ◌∷◌, ◌++◌, length, drop, take, get_or, Some, None, true, false, refl, sym, ap, ◌∙◌, arith}
use Rattle.std.proofs.lemmas.List.{drop_all, drop_more, length-take, take_more}
use Rattle.jobs.specs.JobView.{JobView}
use Rattle.versions.specs.declared.book.Current.{Current}
use Rattle.versions.specs.declared.judging.Code.{Code}
use Rattle.versions.specs.declared.request.Change.{Change}
use Rattle.versions.specs.declared.fault.QFault.{QFault}
use Rattle.versions.specs.Judging.{first_with, has_fault, named}

pub one_more : (k : Code) (book : List Current) (job : JobView) (before : List Change) (c : Change) (rest : List Change) → has_fault k book job before c ≡ false
    → first_with k book job before (c ∷ rest) ≡ first_with k book job (before ++ c ∷ []) rest
unfolding first_with
one_more k book job before c rest none = rw none refl

pub one_found : (k : Code) (book : List Current) (job : JobView) (before : List Change) (c : Change) (rest : List Change) → has_fault k book job before c ≡ true
    → first_with k book job before (c ∷ rest) ≡ Some (length before)
unfolding first_with
one_found k book job before c rest found = rw found refl

no_more : (k : Code) (book : List Current) (job : JobView) (before : List Change) → first_with k book job before [] ≡ None
unfolding first_with
no_more k book job before = refl

pub first_more : (k : Code) (book : List Current) (job : JobView) (cs : List Change) (i : ℕ) (c : Change) → i < length cs → c ≡ get_or cs i c → has_fault k book job (take i cs) c ≡ false
    → first_with k book job (take i cs) (drop i cs) ≡ first_with k book job (take (i + 1) cs) (drop (i + 1) cs)
first_more k book job cs i c lt same none =
    let here : drop i cs ≡ c ∷ drop (i + 1) cs = drop_more cs i c lt ∙ ap (λ (x : Change). x ∷ drop (i + 1) cs) (sym same) in
    let more : take (i + 1) cs ≡ take i cs ++ (c ∷ []) = take_more cs i c lt ∙ ap (λ (x : Change). take i cs ++ (x ∷ [])) (sym same) in
    rw (here, more) (one_more k book job (take i cs) c (drop (i + 1) cs) none)

pub first_here : (k : Code) (book : List Current) (job : JobView) (cs : List Change) (i : ℕ) (c : Change) → i < length cs → c ≡ get_or cs i c → has_fault k book job (take i cs) c ≡ true
    → first_with k book job (take i cs) (drop i cs) ≡ Some i
first_here k book job cs i c lt same found =
    let here : drop i cs ≡ c ∷ drop (i + 1) cs = drop_more cs i c lt ∙ ap (λ (x : Change). x ∷ drop (i + 1) cs) (sym same) in
    let long : length (take i cs) ≡ i = omega (arith, length-take i cs) in
    rw here (one_found k book job (take i cs) c (drop (i + 1) cs) found) ∙ ap Some long

pub first_end : (k : Code) (book : List Current) (job : JobView) (cs : List Change) (i : ℕ) → length cs ≤ i → first_with k book job (take i cs) (drop i cs) ≡ None
first_end k book job cs i end = rw (drop_all i cs end) (no_more k book job (take i cs))

pub named-none : (f : ℕ → QFault) (o : Option ℕ) → named f o ≡ None → o ≡ None
named-none f None e = refl
named-none f (Some i) e = absurd cc
