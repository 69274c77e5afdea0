-- How words are taken apart, one after another.
use Rattle.std.proofs.Common.{◌≡◌, ◌∙◌, ◌<◌, ◌≤◌, ◌+◌, ◌-◌, take, ℕ, List, [], ◌∷◌, ◌++◌, Bool, true, false, Option, Some, Bor, length, get_or, drop, map, refl, ap, arith, append_assoc}
use Rattle.std.proofs.lemmas.List.{drop_all, drop_more, length-drop, take_all}
use Rattle.std.proofs.lemmas.Option.{get_or_from_slice_get, slice_get_within}
use Rattle.std.specs.Prelude.{find, option_and_then, slice_get}
use Rattle.std.specs.Str.{bytes_eq}
use Rattle.fries_words.specs.Form.{Form, Parts, Text, at_end, found_after, is_found, with_word}
use Rattle.fries_words.specs.Views.{pair_view, texts}
use Rattle.fries_words.specs.declared.form.Flag.{Flag as FlagIs}
use Rattle.fries_words.specs.declared.form.ValueOption.{ValueOption as ValueOptionIs}

-- ---- what is looked for in a list

module _ {A B : Type 0} (view : A → B) (p : B → Bool) where
  pub find_here : (xs : List A) (i : ℕ) (d : A) → i < length xs → p (view (get_or xs i d)) ≡ true → find p (map view (drop i xs)) ≡ Some (view (get_or xs i d))
  find_here xs i d less passes = rw (drop_more xs i d less, passes) refl

  pub find_later : (xs : List A) (i : ℕ) (d : A) → i < length xs → p (view (get_or xs i d)) ≡ false → find p (map view (drop (i + 1) xs)) ≡ find p (map view (drop i xs))
  find_later xs i d less fails = rw (drop_more xs i d less, fails) refl

-- ---- word after word

pub found_after-more : (form : Form) (parts : Parts) (words : List (Bor Text)) (i : ℕ) (d : Bor Text) (word : Text) (next : Option Parts) → i < length words → word ≡ (get_or words i d).now
    → with_word form parts parts.waiting word ≡ next
    → found_after form parts (texts (drop i words)) ≡ option_and_then (λ after. found_after form after (texts (drop (i + 1) words))) next
unfolding found_after
found_after-more form parts words i d word next less is made = rw (drop_more words i d less, ← is, made) refl

pub found_after-end : (form : Form) (parts : Parts) (words : List (Bor Text)) (i : ℕ) → length words ≤ i → found_after form parts (texts (drop i words)) ≡ at_end parts.names parts.waiting parts.found
unfolding found_after
found_after-end form parts words i past = rw (drop_all i words past) refl

-- ---- pairs that were found

pub any_here : (id : Text) (pairs : List (Bor Text × Bor Text)) (i : ℕ) (d : Bor Text × Bor Text) → i < length pairs → bytes_eq (get_or pairs i d).0.now id ≡ true
    → is_found id (map pair_view (drop i pairs)) ≡ true
any_here id pairs i d less same = rw (drop_more pairs i d less, same) refl

pub any_later : (id : Text) (pairs : List (Bor Text × Bor Text)) (i : ℕ) (d : Bor Text × Bor Text) → i < length pairs → bytes_eq (get_or pairs i d).0.now id ≡ false
    → is_found id (map pair_view (drop (i + 1) pairs)) ≡ is_found id (map pair_view (drop i pairs))
any_later id pairs i d less other = rw (drop_more pairs i d less, other) refl

pub any_end : (id : Text) (pairs : List (Bor Text × Bor Text)) (i : ℕ) → length pairs ≤ i → is_found id (map pair_view (drop i pairs)) ≡ false
any_end id pairs i past = rw (drop_all i pairs past) refl

-- ---- names that are still to come

pub texts-next : (names : List (Bor Text)) (i : ℕ) (name : Bor Text) → slice_get names i ≡ Some name → texts (drop i names) ≡ name.now ∷ texts (drop (i + 1) names)
texts-next names i name at = let is = get_or_from_slice_get names i name name at in
    rw (drop_more names i name (slice_get_within names i name at), is) refl

pub texts-none : (names : List (Bor Text)) (i : ℕ) → length names ≤ i → texts (drop i names) ≡ []
texts-none names i past = rw (drop_all i names past) refl

-- ---- lists with one more

pub map-more : {A B : Type 0} (view : A → B) (xs : List A) (x : A) → map view (xs ++ x ∷ []) ≡ map view xs ++ view x ∷ []
map-more view [] x = refl
map-more view (first ∷ xs) x = ap (λ rest. view first ∷ rest) (map-more view xs x)

pub texts-more : (strings : List (Bor Text)) (string : Bor Text) (words : List Text) (i : ℕ) (d : Text) → i < length words → string.now ≡ get_or words i d
    → texts (strings ++ string ∷ []) ++ drop (i + 1) words ≡ texts strings ++ drop i words
texts-more strings string words i d less is =
    rw (map-more (λ (text : Bor Text). text.now) strings string, drop_more words i d less, is) (append_assoc (texts strings) (get_or words i d ∷ []) (drop (i + 1) words))

-- ---- what a place past the end of a list reads as

abbrev pub no_text : Bor Text
no_text = record { ref_ptr = (0, 0); now = [] }

abbrev pub no_option : ValueOptionIs
no_option = record { id = no_text; word = no_text; start = no_text }

abbrev pub no_flag : FlagIs
no_flag = record { id = no_text; word = no_text }

-- the first text, and those behind it
pub texts-split : (words : List (Bor Text)) → 1 ≤ length words → texts words ≡ (get_or words 0 no_text).now ∷ drop 1 (texts words)
texts-split [] some = absurd (omega (arith, some))
texts-split (word ∷ words) some = refl

behind : (words : List (Bor Text)) → take (length words - 1) (drop 1 words) ≡ drop 1 words
behind words = take_all (length words - 1) (drop 1 words) (omega (arith, length-drop 1 words))

texts-drop : (words : List (Bor Text)) → texts (drop 1 words) ≡ drop 1 (texts words)
texts-drop [] = refl
texts-drop (word ∷ words) = refl

-- the words behind the first, as a slice has them
pub texts-behind : (words : List (Bor Text)) → texts (take (length words - 1) (drop 1 words)) ≡ drop 1 (texts words)
texts-behind words = ap texts (behind words) ∙ texts-drop words
