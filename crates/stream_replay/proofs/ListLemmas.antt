-- Lists with a last item.
use Rattle.std.proofs.Common.{◌≡◌, ◌++◌, List, [], ◌∷◌, ap, refl}

-- a list with an item has a last one
pub record HasLast {A : Type 0} (all : List A) : Type 0 where
  pub front : List A
  pub end : A
  pub all_are : all ≡ front ++ end ∷ []

after : {A : Type 0} (x : A) (all : List A) → HasLast all → HasLast (x ∷ all)
after x all of =
    record { front = x ∷ of.front; end = of.end; all_are = ap (λ l. x ∷ l) of.all_are }

pub last_of : {A : Type 0} (x : A) (xs : List A) → HasLast (x ∷ xs)
last_of x [] = record { front = []; end = x; all_are = refl }
last_of x (y ∷ ys) = after x (y ∷ ys) (last_of y ys)
