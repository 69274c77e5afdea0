-- Numbers of words and slots, and lists of views and items.
use Rattle.std.proofs.Common.{◌≡◌, ◌≢◌, ℕ, zero, suc, ◌+◌, ◌*◌, ◌%◌, ◌≤◌, ◌<◌, List, [], ◌∷◌, ◌++◌, map, length, set, replicate, Option, Some, None, sym, refl, ap, subst, ⊎_elim, arith}
use Rattle.std.proofs.Math.Nat.{mod-add-mod, mod-mod_of_dvd, dvd-mul_left}
use mathlib.Core.Option.{some, some-ne-none, some-injective}
use lib.ListN.{get_elem?}
use Rattle.atomic_table.proofs.Lists.{at_set, one_turn}
use Rattle.tuple_trace.specs.declared.tuple.Item.{Item}
use Rattle.lane_ring.specs.declared.rule.View.{View}
use Rattle.lane_ring.specs.Rule.{word_at, Slots, free_slot, full_slot}

-- ---- numbers

-- two numbers in one turn of the ring have slots of their own
pub apart : (r p q : ℕ) → p < q → q < p + r → p % r ≢ q % r
apart r p q lt near e = let same : p ≡ q = one_turn p q r (omega arith) near e in omega arith

pub apart_up : (r p q : ℕ) → p < q → q < p + r → q % r ≢ p % r
apart_up r p q lt near e = apart r p q lt near (sym e)

pub word_at-next : (r a : ℕ) → (word_at r a + 1) % (2 * r) ≡ word_at r (a + 1)
word_at-next r a = mod-add-mod a (2 * r) 1

pub slot-word_at : (r a : ℕ) → word_at r a % r ≡ a % r
slot-word_at r a = mod-mod_of_dvd r a (dvd-mul_left r 2)

-- two numbers at most one lane apart are one where their words are
pub word_at-same : (r a n : ℕ) → n ≤ r → 0 < r → word_at r a ≡ word_at r (a + n) → n ≡ 0
word_at-same r a n few pos e = let same : a ≡ a + n = one_turn a (a + n) (2 * r) (omega arith) (omega arith) e in omega arith

-- ---- lists

abbrev pub blank : Option Item
blank = None

pub set-twice : (l : List View) (i : ℕ) (a b : View) → set (set l i a) i b ≡ set l i b
set-twice [] i a b = refl
set-twice (x ∷ l) zero a b = refl
set-twice (x ∷ l) (suc i) a b = ap (λ m. x ∷ m) (set-twice l i a b)

pub set-at : (l : List View) (i : ℕ) (a b : View) → get_elem? l i ≡ some a → get_elem? (set l i b) i ≡ some b
set-at [] i a b at = absurd (some-ne-none a (sym at))
set-at (x ∷ l) zero a b at = refl
set-at (x ∷ l) (suc i) a b at = set-at l i a b at

-- what holds of each seat and its view
abbrev pub Each : (ℕ → View → Type 0) → List View → Type 0
Each F views = (seat : ℕ) (v : View) → get_elem? views seat ≡ some v → F seat v

pub each-set : (F : ℕ → View → Type 0) (views : List View) (seat : ℕ) (w : View) → F seat w → ((other : ℕ) (v : View) → other ≢ seat → get_elem? views other ≡ some v → F other v)
    → Each F (set views seat w)
each-set F views seat w mine others other v at = ⊎_elim (λ (x : (other ≡ seat) × (w ≡ v)). subst (λ (y : ℕ × View). F y.0 y.1) (λ i. (sym x.0 i, x.1 i)) mine)
    (λ (x : (other ≢ seat) × (get_elem? views other ≡ some v)). others other v x.0 x.1) (at_set views seat other w v at)

pub each-one : (F : ℕ → View → Type 0) (w : View) → F 0 w → Each F (w ∷ [])
each-one F w mine zero v at = subst (λ (y : View). F 0 y) (some-injective w v at) mine
each-one F w mine (suc seat) v at = absurd (some-ne-none v (sym at))

-- the seat that was not there before is the last
pub at_end : (views : List View) (a b : View) (seat : ℕ) → get_elem? views seat ≢ some b → get_elem? (views ++ a ∷ []) seat ≡ some b → seat ≡ length views
at_end [] a b zero other at = refl
at_end [] a b (suc seat) other at = absurd (some-ne-none b (sym at))
at_end (v ∷ views) a b zero other at = absurd (other at)
at_end (v ∷ views) a b (suc seat) other at = ap suc (at_end views a b seat other at)

pub vacant_at : (n i : ℕ) → i < n → get_elem? (map some (replicate n blank)) i ≡ some (some None)
vacant_at zero i lt = absurd (omega arith)
vacant_at (suc n) zero lt = refl
vacant_at (suc n) (suc i) lt = vacant_at n i (omega arith)

-- the item behind a list is the first of what follows
pub at_seam : (xs ys : List Item) (x : Item) → get_elem? (xs ++ x ∷ ys) (length xs) ≡ some x
at_seam [] ys x = refl
at_seam (y ∷ xs) ys x = at_seam xs ys x

at_first : (xs ys : List Item) (x : Item) → get_elem? (xs ++ ys) (length xs) ≡ some x → (more : List Item) × (ys ≡ x ∷ more)
at_first [] [] x at = absurd (some-ne-none x (sym at))
at_first [] (y ∷ ys) x at = (ys, λ i. some-injective y x at i ∷ ys)
at_first (z ∷ xs) ys x at = at_first xs ys x at

pub none_long : (xs : List Item) → length xs ≡ 0 → xs ≡ []
none_long [] e = refl
none_long (x ∷ xs) e = absurd (omega arith)

pub some_long : (xs : List Item) → 0 < length xs → (x : Item) × (more : List Item) × (xs ≡ x ∷ more)
some_long [] e = absurd (omega arith)
some_long (x ∷ xs) e = (x, xs, refl)

pub free_slot-some : (slot n : ℕ) → 0 < n → free_slot slot n ≡ (slot, None) ∷ []
free_slot-some slot zero e = absurd (omega arith)
free_slot-some slot (suc n) e = refl

pub full_slot-first : (slot : ℕ) (ahead : List Item) (x : Item) (more : List Item) → ahead ≡ x ∷ more → full_slot slot ahead ≡ (slot, Some x) ∷ []
full_slot-first slot ahead x more split = ap (full_slot slot) split

pub some_spare : (n : ℕ) → 0 < n → (more : ℕ) × (n ≡ suc more)
some_spare zero e = absurd (omega arith)
some_spare (suc n) e = (n, refl)

-- the value of the slot that a seat took last
abbrev pub value_of : Slots → Item → Item
value_of [] d = d
value_of (a ∷ l) d = elim (a.1) [ Some y ↦ y | None ↦ d ]

abbrev pub head_of : List Item → Item → Item
head_of [] d = d
head_of (x ∷ xs) d = x

abbrev pub tail_of : List Item → List Item
tail_of [] = []
tail_of (x ∷ xs) = xs
