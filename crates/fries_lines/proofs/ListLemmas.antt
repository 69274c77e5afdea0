-- Texts, and lists of them.
use Rattle.std.proofs.Common.{◌≡◌, ◌<◌, ◌+◌, ◌++◌, ◌∷◌, [], ℕ, List, append_assoc, drop, false, get_or, length, refl, sym, true}
use Rattle.std.specs.List.{join_with_byte}
use Rattle.std.proofs.lemmas.List.{drop_more}
use Rattle.flow_dag.specs.Masks.{has}
use Rattle.fries_lines.specs.Lines.{names_from}

-- ---- texts that are joined

-- the first two texts may be joined first
pub join_two : (byte : ℕ) (first second : List ℕ) (later : List (List ℕ)) →
    join_with_byte byte (first ∷ second ∷ later) ≡ join_with_byte byte ((first ++ byte ∷ second) ∷ later)
join_two byte first second [] = refl
join_two byte first second (third ∷ later) = sym (append_assoc first (byte ∷ second) (byte ∷ join_with_byte byte (third ∷ later)))

-- a text to which pieces were added two by two, and then one more
pub added_by_twos : (text a b c d e f g h i j k l m : List ℕ) →
    ((((((text ++ a ++ b) ++ c ++ d) ++ e ++ f) ++ g ++ h) ++ i ++ j) ++ k ++ l) ++ m ≡ text ++ (a ++ b ++ c ++ d ++ e ++ f ++ g ++ h ++ i ++ j ++ k ++ l ++ m)
added_by_twos text a b c d e f g h i j k l m = simp append_assoc

-- ---- names of the items of a mask

-- an item whose number the mask has gives its name
pub names_with : {X : Type 0} → (name : X → List ℕ) (mask number : ℕ) (items : List X) (item : X) → number < length items → has mask number ≡ true →
    names_from name mask number (drop number items) ≡ name (get_or items number item) ∷ names_from name mask (number + 1) (drop (number + 1) items)
names_with name mask number items item lt is = rw (drop_more items number item lt, is) refl

-- and none where the mask doesn't have its number
pub names_without : {X : Type 0} → (name : X → List ℕ) (mask number : ℕ) (items : List X) (item : X) → number < length items → has mask number ≡ false →
    names_from name mask number (drop number items) ≡ names_from name mask (number + 1) (drop (number + 1) items)
names_without name mask number items item lt is = rw (drop_more items number item lt, is) refl
