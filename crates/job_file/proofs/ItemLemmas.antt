-- How the items of an array are read one after another.
use Rattle.std.proofs.Common.{◌≡◌, ◌<◌, ◌≤◌, ◌+◌, ℕ, List, [], ◌∷◌, ◌++◌, length, drop, get_or, Result, Ok, Err, refl, sym, ap, append_assoc}
use Rattle.std.proofs.lemmas.List.{append-nil, drop_all}
use Rattle.toml.specs.Data.{Data}
use Rattle.toml.specs.View.{items_view, view}
use Rattle.toml.specs.declared.value.Value.{Value}
use Rattle.toml.proofs.Views.{items_view-drop}
use Rattle.job_file.specs.declared.fault.FormFault.{FormFault}
use Rattle.job_file.specs.Document.{all_of, item_before}

-- what was read, and then what is read of the rest
abbrev pub after : {A : Type 0} → List A → Result (List A) FormFault → Result (List A) FormFault
after xs (Ok later) = Ok (xs ++ later)
after xs (Err fault) = Err fault

pub after-before : {A : Type 0} (xs : List A) (x : A) (later : Result (List A) FormFault) → after xs (item_before (Ok x) later) ≡ after (xs ++ x ∷ []) later
after-before xs x (Ok later) = ap Ok (sym (append_assoc xs (x ∷ []) later))
after-before xs x (Err fault) = refl

pub after-nil : {A : Type 0} (later : Result (List A) FormFault) → after [] later ≡ later
after-nil (Ok later) = refl
after-nil (Err fault) = refl

-- one more item
pub all_of-Ok : {A : Type 0} (read : Data → Result A FormFault) (xs : List A) (values : List Value) (i : ℕ) (value : Value) (x : A) → i < length values → value ≡ get_or values i value → read (view value) ≡ Ok x
    → after xs (all_of read (items_view (drop i values))) ≡ after (xs ++ x ∷ []) (all_of read (items_view (drop (i + 1) values)))
unfolding all_of
all_of-Ok read xs values i value x inside is ok = rw (items_view-drop values i value inside, ← is, ok) (after-before xs x (all_of read (items_view (drop (i + 1) values))))

-- the first fault
pub all_of-Err : {A : Type 0} (read : Data → Result A FormFault) (xs : List A) (values : List Value) (i : ℕ) (value : Value) (fault : FormFault) → i < length values → value ≡ get_or values i value → read (view value) ≡ Err fault
    → after xs (all_of read (items_view (drop i values))) ≡ Err fault
unfolding all_of
all_of-Err read xs values i value fault inside is err = rw (items_view-drop values i value inside, ← is, err) refl

-- no item is left
pub all_of-end : {A : Type 0} (read : Data → Result A FormFault) (xs : List A) (values : List Value) (i : ℕ) → length values ≤ i → after xs (all_of read (items_view (drop i values))) ≡ Ok xs
unfolding all_of
all_of-end read xs values i end = rw (drop_all i values end) (ap Ok (append-nil xs))
