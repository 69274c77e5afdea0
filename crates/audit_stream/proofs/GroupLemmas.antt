-- Records that stand group by group.
use Rattle.std.proofs.Common.{◌≡◌, ◌∙◌, ◌<◌, ◌≤◌, ◌+◌, ◌++◌, ◌⊎◌, ℕ, zero, suc, Bool, true, false, cond, List, [], ◌∷◌, refl, sym, ap, ap₂, arith, length, map, inl, inr}
use Rattle.std.specs.Prelude.{◌==◌, ⊤, filter, not}
use Rattle.std.specs.List.{flat_map, range_with_len}
use Rattle.std.proofs.lemmas.Bool.{cases_Bool, eq-eqb, eqb-true, false≢true, ne_eqb}
use Rattle.std.proofs.lemmas.List.{append_assoc, append-nil}
use Rattle.std.proofs.lemmas.List.Elements.{filter-append}
use Rattle.jobs.specs.JobView.{JobView}
use Rattle.audit_stream.specs.Together.{record_group, in_group}
use Rattle.audit_stream.specs.Sorting.{closes}
use Rattle.audit_stream.proofs.ClosedLemmas.{open_ones}

-- ---- sections: the records of each group, from a group on

abbrev pub Section : Type 0
Section = List (List (List ℕ))

-- each record is of the group
abbrev pub AllIn : JobView → ℕ → Section → Type 0
AllIn job g [] = ⊤
AllIn job g (x ∷ xs) = (record_group job x ≡ g) × AllIn job g xs

-- no record is of the group
abbrev pub NoneIn : JobView → ℕ → Section → Type 0
NoneIn job g [] = ⊤
NoneIn job g (x ∷ xs) = (record_group job x ≡ g → ⊥) × NoneIn job g xs

-- each record is of an earlier group
abbrev AllBefore : JobView → ℕ → Section → Type 0
AllBefore job g [] = ⊤
AllBefore job g (x ∷ xs) = (record_group job x < g) × AllBefore job g xs

-- the sections are those of the groups from this one on
abbrev pub AreSections : JobView → ℕ → List Section → Type 0
AreSections job g [] = ⊤
AreSections job g (s ∷ sections) = AllIn job g s × AreSections job (g + 1) sections

-- the records of all sections
abbrev pub joined_of : List Section → Section
joined_of [] = []
joined_of (s ∷ sections) = s ++ joined_of sections

pub all_map : {A : Type 0} (job : JobView) (g : ℕ) (f : A → List (List ℕ)) → ((x : A) → record_group job (f x) ≡ g) → (xs : List A) → AllIn job g (map f xs)
all_map job g f h [] = tt
all_map job g f h (x ∷ xs) = (h x, all_map job g f h xs)

pub all_both : (job : JobView) (g : ℕ) (a b : Section) → AllIn job g a → AllIn job g b → AllIn job g (a ++ b)
all_both job g [] b h k = k
all_both job g (x ∷ a) b h k = (h.0, all_both job g a b h.1 k)

none_both : (job : JobView) (g : ℕ) (a b : Section) → NoneIn job g a → NoneIn job g b → NoneIn job g (a ++ b)
none_both job g [] b h k = k
none_both job g (x ∷ a) b h k = (h.0, none_both job g a b h.1 k)

before_both : (job : JobView) (g : ℕ) (a b : Section) → AllBefore job g a → AllBefore job g b → AllBefore job g (a ++ b)
before_both job g [] b h k = k
before_both job g (x ∷ a) b h k = (h.0, before_both job g a b h.1 k)

before_more : (job : JobView) (g : ℕ) (a : Section) → AllBefore job g a → AllBefore job (g + 1) a
before_more job g [] h = tt
before_more job g (x ∷ a) h = let lt = h.0 in (omega arith, before_more job g a h.1)

in_before : (job : JobView) (g : ℕ) (a : Section) → AllIn job g a → AllBefore job (g + 1) a
in_before job g [] h = tt
in_before job g (x ∷ a) h = let e = h.0 in (omega arith, in_before job g a h.1)

before_none : (job : JobView) (g : ℕ) (a : Section) → AllBefore job g a → NoneIn job g a
before_none job g [] h = tt
before_none job g (x ∷ a) h = let lt = h.0 in (λ e. omega arith, before_none job g a h.1)

other_none : (job : JobView) (g k : ℕ) (a : Section) → AllIn job g a → (k ≡ g → ⊥) → NoneIn job k a
other_none job g k [] h ne = tt
other_none job g k (x ∷ a) h ne = (λ e. ne (sym e ∙ h.0), other_none job g k a h.1 ne)

later_none : (job : JobView) (g k : ℕ) (sections : List Section) → AreSections job g sections → k < g → NoneIn job k (joined_of sections)
later_none job g k [] h lt = tt
later_none job g k (s ∷ sections) h lt =
    none_both job k s (joined_of sections) (other_none job g k s h.0 (λ e. omega arith)) (later_none job (g + 1) k sections h.1 (omega arith))

pub in_all : (job : JobView) (g : ℕ) (a : Section) → AllIn job g a → in_group job a g ≡ a
in_all job g [] h = refl
in_all job g (x ∷ a) h =
    ap₂ (λ (b : Bool) (l : Section). cond b (x ∷ l) l) (eq-eqb (record_group job x) g h.0) (in_all job g a h.1)

pub in_none : (job : JobView) (g : ℕ) (a : Section) → NoneIn job g a → in_group job a g ≡ []
in_none job g [] h = refl
in_none job g (x ∷ a) h =
    ap₂ (λ (b : Bool) (l : Section). cond b (x ∷ l) l) (ne_eqb (record_group job x) g h.0) (in_none job g a h.1)

pub in_both : (job : JobView) (g : ℕ) (a b : Section) → in_group job (a ++ b) g ≡ in_group job a g ++ in_group job b g
in_both job g a b = filter-append (λ fields. record_group job fields == g) a b

-- ---- sections stay in order

none_left : (a b : Section) → a ≡ [] → a ++ b ≡ b
none_left a b e = ap (λ (l : Section). l ++ b) e

none_right : (a b : Section) → b ≡ [] → a ++ b ≡ a
none_right a b e = ap (λ (l : Section). a ++ l) e ∙ append-nil a

pub sections_back : (job : JobView) (g count : ℕ) (above : Section) (sections : List Section) → AllBefore job g above → AreSections job g sections → length sections ≤ count
    → flat_map (in_group job (above ++ joined_of sections)) (range_with_len g count) ≡ joined_of sections
sections_back job g zero above [] before are le = refl
sections_back job g zero above (s ∷ sections) before are le = absurd (omega arith)
sections_back job g (suc count) above [] before are le =
    let here : in_group job (above ++ []) g ≡ [] =
    ap (λ (l : Section). in_group job l g) (append-nil above) ∙ in_none job g above (before_none job g above before) in
    none_left (in_group job (above ++ []) g) (flat_map (in_group job (above ++ [])) (range_with_len (g + 1) count)) here
    ∙ sections_back job (g + 1) count above [] (before_more job g above before) tt (omega arith)
sections_back job g (suc count) above (s ∷ sections) before are le =
    let rest : Section = joined_of sections in
    let whole : Section = above ++ (s ++ rest) in
    let front = in_none job g above (before_none job g above before) in
    let back = in_none job g rest (later_none job (g + 1) g sections are.1 (omega arith)) in
    let here : in_group job whole g ≡ s =
    in_both job g above (s ++ rest)
    ∙ (none_left (in_group job above g) (in_group job (s ++ rest) g) front
    ∙ (in_both job g s rest ∙ (none_right (in_group job s g) (in_group job rest g) back ∙ in_all job g s are.0))) in
    let later =
    sections_back job (g + 1) count (above ++ s) sections (before_both job (g + 1) above s (before_more job g above before) (in_before job g s are.0)) are.1 (omega arith) in
    ap₂ (λ (a b : Section). a ++ b) here
    (ap (λ (l : Section). flat_map (in_group job l) (range_with_len (g + 1) count)) (sym (append_assoc above s rest)) ∙ later)

pub groups_back : (job : JobView) (count : ℕ) (sections : List Section) → AreSections job 0 sections → length sections ≤ count
    → flat_map (in_group job (joined_of sections)) (range_with_len 0 count) ≡ joined_of sections
groups_back job count sections are le = sections_back job 0 count [] sections tt are le

pub groups_same : (job : JobView) (a b : Section) → ((g : ℕ) → in_group job a g ≡ in_group job b g) → (gs : List ℕ) → flat_map (in_group job a) gs ≡ flat_map (in_group job b) gs
groups_same job a b same [] = refl
groups_same job a b same (g ∷ gs) = ap₂ (λ (x y : Section). x ++ y) (same g) (groups_same job a b same gs)

-- ---- sections of two parts

-- each section, followed by the other's
abbrev pub both_sections : List Section → List Section → List Section
both_sections [] others = []
both_sections (a ∷ sections) [] = []
both_sections (a ∷ sections) (b ∷ others) = (a ++ b) ∷ both_sections sections others

decided : (g k : ℕ) → (g ≡ k) ⊎ (g ≡ k → ⊥)
decided g k = elim (cases_Bool (g == k)) [
  | inl is ↦ inl (eqb-true g k is)
  | inr isnt ↦ inr (λ e. false≢true (sym isnt ∙ eq-eqb g k e))
]

pub in_two : (job : JobView) (g k : ℕ) (sections others : List Section) → AreSections job g sections → AreSections job g others → length sections ≡ length others
    → in_group job (joined_of (both_sections sections others)) k ≡ in_group job (joined_of sections) k ++ in_group job (joined_of others) k
in_two job g k [] [] h i e = refl
in_two job g k [] (b ∷ others) h i e = absurd (omega arith)
in_two job g k (a ∷ sections) [] h i e = absurd (omega arith)
in_two job g k (a ∷ sections) (b ∷ others) h i e =
    let f : Section → Section = λ l. in_group job l k in
    let xs : Section = joined_of sections in
    let ys : Section = joined_of others in
    let later = in_two job (g + 1) k sections others h.1 i.1 (omega arith) in
    let left : f ((a ++ b) ++ joined_of (both_sections sections others)) ≡ (f a ++ f b) ++ (f xs ++ f ys) =
    in_both job k (a ++ b) (joined_of (both_sections sections others)) ∙ ap₂ (λ (x y : Section). x ++ y) (in_both job k a b) later in
    let right : f (a ++ xs) ++ f (b ++ ys) ≡ (f a ++ f xs) ++ (f b ++ f ys) =
    ap₂ (λ (x y : Section). x ++ y) (in_both job k a xs) (in_both job k b ys) in
    left ∙ (swapped (f a) (f b) (f xs) (f ys) (one_is_none job g k b sections i.0 h.1 (decided k g)) ∙ sym right)
  where
    one_is_none : (job : JobView) (g k : ℕ) (b : Section) (sections : List Section) → AllIn job g b → AreSections job (g + 1) sections → (k ≡ g) ⊎ (k ≡ g → ⊥)
        → (in_group job b k ≡ []) ⊎ (in_group job (joined_of sections) k ≡ [])
    one_is_none job g k b sections h i (inl same) = inr (in_none job k (joined_of sections) (later_none job (g + 1) k sections i (omega arith)))
    one_is_none job g k b sections h i (inr other) = inl (in_none job k b (other_none job g k b h other))

    swapped : (a b c d : Section) → (b ≡ []) ⊎ (c ≡ []) → (a ++ b) ++ (c ++ d) ≡ (a ++ c) ++ (b ++ d)
    swapped a b c d (inl e) =
        ap (λ (l : Section). l ++ (c ++ d)) (none_right a b e) ∙ (sym (append_assoc a c d) ∙ ap (λ (l : Section). (a ++ c) ++ l) (sym (none_left b d e)))
    swapped a b c d (inr e) =
        ap (λ (l : Section). (a ++ b) ++ l) (none_left c d e) ∙ (append_assoc a b d ∙ ap (λ (l : Section). l ++ (b ++ d)) (sym (none_right a c e)))

-- ---- without stops and ends

pub open_both : (a b : Section) → open_ones (a ++ b) ≡ open_ones a ++ open_ones b
open_both a b = filter-append (λ fields. not (closes fields)) a b

pub open_joined : (sections : List Section) → open_ones (joined_of sections) ≡ joined_of (map open_ones sections)
open_joined [] = refl
open_joined (s ∷ sections) = open_both s (joined_of sections) ∙ ap (λ (l : Section). open_ones s ++ l) (open_joined sections)

open_in : (job : JobView) (g : ℕ) (a : Section) → AllIn job g a → AllIn job g (open_ones a)
open_in job g [] h = tt
open_in job g (x ∷ a) h = go (closes x) (open_in job g a h.1)
  where
    go : (b : Bool) → AllIn job g (open_ones a) → AllIn job g (cond (not b) (x ∷ open_ones a) (open_ones a))
    go true later = later
    go false later = (h.0, later)

pub open_sections : (job : JobView) (g : ℕ) (sections : List Section) → AreSections job g sections → AreSections job g (map open_ones sections)
open_sections job g [] h = tt
open_sections job g (s ∷ sections) h = (open_in job g s h.0, open_sections job (g + 1) sections h.1)

-- filters change places
filters : (p q : List (List ℕ) → Bool) (a : Section) → filter p (filter q a) ≡ filter q (filter p a)
filters p q [] = refl
filters p q (x ∷ a) = go (p x) (q x) refl refl (filters p q a)
  where
    go : (b c : Bool) → p x ≡ b → q x ≡ c → filter p (filter q a) ≡ filter q (filter p a)
        → filter p (cond (q x) (x ∷ filter q a) (filter q a)) ≡ filter q (cond (p x) (x ∷ filter p a) (filter p a))
    go true true e f later = rw (e, f) (rw e (ap (λ (l : Section). x ∷ l) later))
    go true false e f later = rw (e, f) later
    go false true e f later = rw (e, f) (rw e later)
    go false false e f later = rw (e, f) later

twice : (p : List (List ℕ) → Bool) (a : Section) → filter p (filter p a) ≡ filter p a
twice p [] = refl
twice p (x ∷ a) = go (p x) refl (twice p a)
  where
    go : (b : Bool) → p x ≡ b → filter p (filter p a) ≡ filter p a → filter p (cond (p x) (x ∷ filter p a) (filter p a)) ≡ cond (p x) (x ∷ filter p a) (filter p a)
    go true e later = rw e (rw e (ap (λ (l : Section). x ∷ l) later))
    go false e later = rw e later

pub open_in_group : (job : JobView) (g : ℕ) (a : Section) → in_group job (open_ones a) g ≡ open_ones (in_group job a g)
open_in_group job g a = filters (λ fields. record_group job fields == g) (λ fields. not (closes fields)) a

pub open_twice : (a : Section) → open_ones (open_ones a) ≡ open_ones a
open_twice a = twice (λ fields. not (closes fields)) a
