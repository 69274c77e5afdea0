-- Lanes are made of endpoints, one after another.
use Rattle.std.proofs.Common.{◌≡◌, ◌∙◌, ℕ, zero, suc, List, [], ◌∷◌, ◌++◌, append_assoc, ap, drop, get_or, map, subst, sym, Some, slice_get}
use Rattle.std.proofs.lemmas.List.{map-append}
use Rattle.jobs.specs.JobView.{JobView}
use Rattle.flow_model.specs.Lanes.{lanes}
use Rattle.flow_model.specs.declared.topology.Lane.{Lane}
use Rattle.flow_worker.specs.Pairs.{EachOne}

-- one item goes from the one list to the other
pub moved_over : {A B E : Type 0} (f : A → E) (g : B → E) (xs new : List A) (a : A) (its rest : List B) (b : B) (all : List E) → new ≡ xs ++ a ∷ [] → its ≡ b ∷ rest → f a ≡ g b →
    map f xs ++ map g its ≡ all → map f new ++ map g rest ≡ all
moved_over f g xs new a its rest b all n i same h =
    ap (λ l. map f l ++ map g rest) n
    ∙ (ap (λ l. l ++ map g rest) (map-append f xs (a ∷ []))
    ∙ (append_assoc (map f xs) (f a ∷ []) (map g rest)
    ∙ (ap (λ e. map f xs ++ e ∷ map g rest) same ∙ (ap (λ l. map f xs ++ map g l) (sym i) ∙ h))))

pub get-drop : {A : Type 0} (xs : List A) (n : ℕ) (x : A) (rest : List A) → drop n xs ≡ x ∷ rest → slice_get xs n ≡ Some x
get-drop [] zero x rest e = absurd (cc)
get-drop [] (suc n) x rest e = absurd (cc)
get-drop (y ∷ ys) zero x rest e = let s : y ≡ x = cc in ap Some s
get-drop (y ∷ ys) (suc n) x rest e = get-drop ys n x rest e

pub drop-rest : {A : Type 0} (xs : List A) (n : ℕ) (x : A) (rest : List A) → drop n xs ≡ x ∷ rest → drop (suc n) xs ≡ rest
drop-rest [] zero x rest e = absurd (cc)
drop-rest [] (suc n) x rest e = absurd (cc)
drop-rest (y ∷ ys) zero x rest e = cc
drop-rest (y ∷ ys) (suc n) x rest e = drop-rest ys n x rest e

pub each_more : {A : Type 0} (P : A → Type 0) (xs new : List A) (x : A) → new ≡ xs ++ x ∷ [] → EachOne P xs → P x → EachOne P new
each_more {A = A} P xs new x same e p = subst (EachOne P) (sym same) (go xs e)
  where
    go : (ys : List A) → EachOne P ys → EachOne P (ys ++ x ∷ [])
    go [] h = (p, tt)
    go (y ∷ ys) h = (h.0, go ys h.1)

-- a lane that was looked up by the number at a place
pub on_lane : (job : JobView) (numbers : List ℕ) (n k e d : ℕ) (lane : Lane) → slice_get numbers n ≡ Some e → k ≡ n → slice_get (lanes job) (get_or numbers k d) ≡ Some lane → slice_get (lanes job) e ≡ Some lane
on_lane job numbers n k e d lane at same found = subst (λ m. slice_get (lanes job) m ≡ Some lane) (ap (λ i. get_or numbers i d) same ∙ here numbers n e at) found
  where
    here : (xs : List ℕ) (i x : ℕ) → slice_get xs i ≡ Some x → get_or xs i d ≡ x
    here [] i x g = absurd (cc)
    here (y ∷ ys) zero x g = cc
    here (y ∷ ys) (suc i) x g = here ys i x g
