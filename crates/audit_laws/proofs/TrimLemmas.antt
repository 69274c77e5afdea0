-- A journal is told by what is kept of it and by what its lanes show.
use Rattle.std.proofs.Common.{◌≡◌, ◌∙◌, ◌++◌, ℕ, List, [], ◌∷◌, inl, inr, refl, sym, ap, ap₂}
use Rattle.std.proofs.lemmas.Bool.{eq-eqb}
use Rattle.std.proofs.lemmas.List.{append_cancel_left}
use Rattle.sink_journal.specs.declared.journal.Entry.{Entry}
use Rattle.sink_journal.specs.declared.journal.Entry.TheVariants as entry
use Rattle.tuple_trace.specs.declared.tuple.Item.{Item}
use Rattle.tuple_trace.specs.declared.tuple.Item.TheVariants as item
use Rattle.tuple_trace.specs.declared.tuple.Tuple.{Tuple}
use Rattle.flow_model.specs.SetupView.{SetupView}
use Rattle.flow_model.specs.Replay.{came_in, shown}
use Rattle.flow_model.proofs.ElementLemmas.{IsIn}
use Rattle.audit_laws.specs.Trimmed.{trim, trimmed}

-- a tuple that is met is the next item of its lane
pub met_next : (setup : SetupView) (l : ℕ) (t : Tuple) (xs : List Entry) → shown setup l (entry.Met l t ∷ xs) ≡ item.Carry t ∷ shown setup l xs
met_next setup l t xs = rw (eq-eqb l l refl) refl

same_tuple : (t u : Tuple) (xs ys : List Item) → item.Carry t ∷ xs ≡ item.Carry u ∷ ys → t ≡ u
same_tuple t u xs ys e = cc

-- the lanes in show the same
abbrev pub ShowSame : SetupView → List ℕ → List Entry → List Entry → Type 0
ShowSame setup lanes xs ys = (n : ℕ) → IsIn n lanes → shown setup n xs ≡ shown setup n ys

-- tuples come by these lanes
abbrev pub MetOn : List ℕ → List Entry → Type 0
MetOn lanes xs = (l : ℕ) (t : Tuple) → IsIn (entry.Met l t) xs → IsIn l lanes

same_entry : (setup : SetupView) (lanes : List ℕ) (x y : Entry) (xs ys : List Entry) → trim x ≡ trim y → MetOn lanes (x ∷ xs) → ShowSame setup lanes (x ∷ xs) (y ∷ ys) → x ≡ y
same_entry setup lanes (entry.Met l t) (entry.Met k u) xs ys e m s =
    let lane : l ≡ k = cc in
    let shows : item.Carry t ∷ shown setup l xs ≡ item.Carry u ∷ shown setup l ys =
    sym (met_next setup l t xs) ∙ (s l (m l t (inl refl)) ∙ (ap (λ (n : ℕ). shown setup l (entry.Met n u ∷ ys)) (sym lane) ∙ met_next setup l u ys)) in
    ap₂ entry.Met lane (same_tuple t u (shown setup l xs) (shown setup l ys) shows)
same_entry setup lanes (entry.Met l t) (entry.Marked k r) xs ys e m s = absurd (cc)
same_entry setup lanes (entry.Met l t) (entry.Turned r) xs ys e m s = absurd (cc)
same_entry setup lanes (entry.Met l t) (entry.Ended k) xs ys e m s = absurd (cc)
same_entry setup lanes (entry.Marked l r) (entry.Met k u) xs ys e m s = absurd (cc)
same_entry setup lanes (entry.Marked l r) (entry.Marked k q) xs ys e m s = let a : l ≡ k = cc in let b : r ≡ q = cc in ap₂ entry.Marked a b
same_entry setup lanes (entry.Marked l r) (entry.Turned q) xs ys e m s = absurd (cc)
same_entry setup lanes (entry.Marked l r) (entry.Ended k) xs ys e m s = absurd (cc)
same_entry setup lanes (entry.Turned r) (entry.Met k u) xs ys e m s = absurd (cc)
same_entry setup lanes (entry.Turned r) (entry.Marked k q) xs ys e m s = absurd (cc)
same_entry setup lanes (entry.Turned r) (entry.Turned q) xs ys e m s = let a : r ≡ q = cc in ap entry.Turned a
same_entry setup lanes (entry.Turned r) (entry.Ended k) xs ys e m s = absurd (cc)
same_entry setup lanes (entry.Ended l) (entry.Met k u) xs ys e m s = absurd (cc)
same_entry setup lanes (entry.Ended l) (entry.Marked k q) xs ys e m s = absurd (cc)
same_entry setup lanes (entry.Ended l) (entry.Turned q) xs ys e m s = absurd (cc)
same_entry setup lanes (entry.Ended l) (entry.Ended k) xs ys e m s = let a : l ≡ k = cc in ap entry.Ended a

-- two journals are the same that are so once trimmed, and whose lanes show the same
pub same_journal : (setup : SetupView) (lanes : List ℕ) (xs ys : List Entry) → trimmed xs ≡ trimmed ys → MetOn lanes xs → ShowSame setup lanes xs ys → xs ≡ ys
same_journal setup lanes [] [] e m s = refl
same_journal setup lanes [] (y ∷ ys) e m s = absurd (cc)
same_journal setup lanes (x ∷ xs) [] e m s = absurd (cc)
same_journal setup lanes (x ∷ xs) (y ∷ ys) e m s =
    let first : trim x ≡ trim y = cc in
    let later : trimmed xs ≡ trimmed ys = cc in
    let same : x ≡ y = same_entry setup lanes x y xs ys first m s in
    ap₂ (λ (z : Entry) (zs : List Entry). z ∷ zs) same (
    same_journal setup lanes xs ys later (λ l t i. m l t (inr i)) (λ n i.
    append_cancel_left (came_in setup n x) (shown setup n xs) (shown setup n ys) (
    s n i ∙ ap (λ (z : Entry). came_in setup n z ++ shown setup n ys) (sym same))))
