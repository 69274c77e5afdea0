-- Lists that are gone through item by item: what was read, and then the rest or its first fault.
use Rattle.std.proofs.Common.{ℕ, suc, ◌+◌, ◌<◌, length, drop, get_or, add-one, drop-cons, ◌≡◌, List, [], ◌∷◌, ◌++◌, Result, Ok, Err, refl, sym, ◌∙◌, ap, append_assoc}
use Rattle.std.proofs.lemmas.List.{append-nil}
use Rattle.payments.specs.declared.read.PFault.{PFault}
use Rattle.payments.specs.Reading.{before}

-- items, and then those that are still to come, or their fault
abbrev pub after : {A : Type 0} → List A → Result (List A) PFault → Result (List A) PFault
after first (Ok later) = Ok (first ++ later)
after first (Err fault) = Err fault

pub after-before : {A : Type 0} (first : List A) (item : A) (later : Result (List A) PFault) → after first (before (Ok item) later) ≡ after (first ++ item ∷ []) later
after-before first item (Ok later) = ap Ok (sym (append_assoc first (item ∷ []) later))
after-before first item (Err fault) = refl

pub after-end : {A : Type 0} (first : List A) → after first (Ok []) ≡ Ok first
after-end first = ap Ok (append-nil first)

-- the items from a place on begin with the one there
pub drop-item : {A : Type 0} (items : List A) (i : ℕ) (item : A) → i < length items → item ≡ get_or items i item → drop i items ≡ item ∷ drop (i + 1) items
drop-item items i item less is = rw add-one (drop-cons items i item less ∙ ap (λ first. first ∷ drop (suc i) items) (sym is))
