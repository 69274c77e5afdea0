-- A book after one more change.
use Rattle.std.proofs.Common.{◌≡◌, ◌<◌, ◌≤◌, ◌+◌, ℕ, List, [], ◌∷◌, ◌++◌, length, drop, take, get_or, Bool, true, false, ◌||◌, ◌==◌, refl, sym, ap, ◌∙◌, arith, slice_set, inl, inr}
use Rattle.std.proofs.lemmas.Grind.{common_steps}
use Rattle.std.proofs.lemmas.Option.{gets}
use Rattle.std.specs.List.{slice_get}
use Rattle.std.proofs.lemmas.Bool.{cases_Bool, eqb-false}
use Rattle.std.proofs.lemmas.List.{drop_all, drop_more, take_more}
use Rattle.versions.specs.declared.book.Current.{Current}
use Rattle.versions.specs.declared.request.Change.{Change}
use Rattle.versions.specs.Book.{accepted, is_named, with_change}

pub long_still : (book : List Current) (node : ℕ) (v : Current) → length (slice_set book node v) ≡ length book
long_still book node v = grind (arith, common_steps, gets)

pub other_place : (book : List Current) (i j : ℕ) (v : Current) → (i ≡ j → ⊥) → slice_get (slice_set book i v) j ≡ slice_get book j
other_place book i j v ne = grind (arith, common_steps, gets)

twice_push : (cs : List Change) (c : Change) (node : ℕ) → is_named (cs ++ c ∷ []) node ≡ (is_named cs node || (c.node == node))
twice_push [] c node = elim (cases_Bool (c.node == node)) [ inl e ↦ rw e refl | inr e ↦ rw e refl ]
twice_push (d ∷ cs) c node = elim (cases_Bool (d.node == node)) [ inl e ↦ rw e refl | inr e ↦ rw e (twice_push cs c node) ]

pub neither : (a b : Bool) → (a || b) ≡ false → (a ≡ false) × (b ≡ false)
neither true b e = absurd cc
neither false b e = (refl, e)

pub twice_more : (cs : List Change) (i : ℕ) (c : Change) (node : ℕ) → i < length cs → c ≡ get_or cs i c → is_named (take (i + 1) cs) node ≡ false → (is_named (take i cs) node ≡ false) × ((c.node == node) ≡ false)
twice_more cs i c node lt same none =
    let more : take (i + 1) cs ≡ take i cs ++ (c ∷ []) = take_more cs i c lt ∙ ap (λ (x : Change). take i cs ++ (x ∷ [])) (sym same) in
    neither (is_named (take i cs) node) (c.node == node) (sym (twice_push (take i cs) c node) ∙ (ap (λ (x : List Change). is_named x node) (sym more) ∙ none))

pub accepted_more : (book : List Current) (cs : List Change) (i : ℕ) (c : Change) → i < length cs → c ≡ get_or cs i c → accepted book (drop i cs) ≡ accepted (with_change book c.node c.func) (drop (i + 1) cs)
unfolding accepted
accepted_more book cs i c lt same =
    let here : drop i cs ≡ c ∷ drop (i + 1) cs = drop_more cs i c lt ∙ ap (λ (x : Change). x ∷ drop (i + 1) cs) (sym same) in
    rw here refl

pub accepted_end : (book : List Current) (cs : List Change) (i : ℕ) → length cs ≤ i → accepted book (drop i cs) ≡ book
unfolding accepted
accepted_end book cs i end = rw (drop_all i cs end) refl

pub eq_apart : (a b : ℕ) → (a == b) ≡ false → a ≡ b → ⊥
eq_apart a b other same = eqb-false a b other same
