-- Numbers are read as they are printed.
use Rattle.std.proofs.Common.{◌≡◌, ◌≢◌, ◌∙◌, ◌<◌, ◌≤◌, ◌-◌, ◌^◌, ◌==◌, ℕ, ℤ, zero, suc, List, [], ◌∷◌, Bool, true, false, Option, Some, None, All, refl, sym, ap, arith, cond, decimal, get_or, length, map}
use Rattle.std.specs.Borrow.{Bor}
use Rattle.std.specs.Prelude.{nat_le}
use Rattle.std.specs.Fmt.{signed_decimal}
use Rattle.std.specs.Int.Signed.{mag}
use Rattle.std.specs.List.{AllByRecursion, join_with_byte}
use Rattle.std.proofs.lemmas.Bool.{le-leb, leb-true, ne_eqb}
use Rattle.std.proofs.lemmas.List.Elements.{All-from_recursion, recursion_from_All}
use Rattle.std.proofs.lemmas.List.Splits.{join_with_byte-slice_split, slice_split_at, slice_split_none}
use Rattle.std.proofs.lemmas.Option.{same_Some}
use Rattle.tuple_trace.specs.Digits.{at_most, digits_of}
use Rattle.payments.specs.Spelling.{number_in_text}
use Rattle.savepoint.proofs.NumberLemmas.{digits-decimal, number-signed}
use Rattle.sink_journal.specs.Audit.{dotted}
use Rattle.audit_laws.proofs.BirthLemmas.{Dotless, dotless}
use Rattle.audit_check.specs.Parts.{parts_at_dots, texts_of}

-- ---- numbers

read_back : (limit n : ℕ) → limit < 2 ^ 64 → n ≤ limit → at_most limit (digits_of (decimal n)) ≡ Some n
read_back limit n lt le = rw (digits-decimal n (omega arith), le-leb n limit le) refl

pub within_limit : (limit n : ℕ) (o : Option ℕ) → at_most limit o ≡ Some n → n ≤ limit
within_limit limit n None e = absurd (cc)
within_limit limit n (Some m) e = go (nat_le m limit) refl e
  where
    go : (b : Bool) → nat_le m limit ≡ b → cond b (Some m) None ≡ Some n → n ≤ limit
    go true is f = let same : m ≡ n = cc in let le = leb-true m limit is in omega arith
    go false is f = absurd (cc)

-- what isn't read is no number that is printed
pub no_number : (text : List ℕ) (limit : ℕ) → limit < 2 ^ 64 → at_most limit (digits_of text) ≡ None → (n : ℕ) → n ≤ limit → text ≢ decimal n
no_number text limit lt none n le e = let some = ap (λ t. at_most limit (digits_of t)) e ∙ read_back limit n lt le in absurd (cc)

-- what is read, and isn't printed so, is no other number that is printed
pub other_number : (text : List ℕ) (limit found : ℕ) → limit < 2 ^ 64 → at_most limit (digits_of text) ≡ Some found → text ≢ decimal found → (n : ℕ) → n ≤ limit → text ≢ decimal n
other_number text limit found lt is ne n le e =
    let same : found ≡ n = same_Some found n (sym is ∙ (ap (λ t. at_most limit (digits_of t)) e ∙ read_back limit n lt le)) in
    ne (e ∙ ap decimal (sym same))

signed_back : (z : ℤ) → mag z < 2 ^ 63 → number_in_text (signed_decimal z) ≡ Some z
signed_back z lt = number-signed z (record { sfits = lt })

pub no_signed : (text : List ℕ) → number_in_text text ≡ None → (z : ℤ) → mag z < 2 ^ 63 → text ≢ signed_decimal z
no_signed text none z lt e = let some = ap number_in_text e ∙ signed_back z lt in absurd (cc)

pub other_signed : (text : List ℕ) (found : ℤ) → number_in_text text ≡ Some found → text ≢ signed_decimal found → (z : ℤ) → mag z < 2 ^ 63 → text ≢ signed_decimal z
other_signed text found is ne z lt e =
    let same : found ≡ z = same_Some found z (sym is ∙ (ap number_in_text e ∙ signed_back z lt)) in
    ne (e ∙ ap signed_decimal (sym same))

-- ---- births

no_dots : (cs : List ℕ) → Dotless cs → AllByRecursion (λ c. (c == 46) ≡ false) cs
no_dots [] h = tt
no_dots (c ∷ cs) h = (ne_eqb c 46 h.0, no_dots cs h.1)

undotted : (n : ℕ) → n < 2 ^ 32 → All (λ c. (c == 46) ≡ false) (decimal n)
undotted n lt = All-from_recursion (λ c. (c == 46) ≡ false) (decimal n) (no_dots (decimal n) (dotless n (omega arith)))

parts_again : (n : ℕ) (ns : List ℕ) → AllByRecursion (λ birth. birth < 2 ^ 32) (n ∷ ns) → parts_at_dots (dotted (n ∷ ns)) ≡ map decimal (n ∷ ns)
parts_again n [] h = slice_split_none (λ c. c == 46) (decimal n) (undotted n h.0)
parts_again n (m ∷ ns) h =
    slice_split_at (λ c. c == 46) (decimal n) 46 (dotted (m ∷ ns)) (undotted n h.0) refl
    ∙ ap (λ (parts : List (List ℕ)). decimal n ∷ parts) (parts_again m ns h.1)

-- the parts of a cell with births are these
pub births_parts : (text births : List ℕ) → text ≢ [] → All (λ birth. birth < 2 ^ 32) births → text ≡ dotted births → parts_at_dots text ≡ map decimal births
births_parts text [] some h e = absurd (some e)
births_parts text (n ∷ ns) some h e = ap parts_at_dots e ∙ parts_again n ns (recursion_from_All (λ birth. birth < 2 ^ 32) (n ∷ ns) h)

-- a cell whose parts are these births spells them
pub parts_births : (text births : List ℕ) → parts_at_dots text ≡ map decimal births → text ≡ dotted births
parts_births text births e = sym (join_with_byte-slice_split 46 text) ∙ ap (join_with_byte 46) e

-- each part of a cell with births is one of them
pub part_number : (parts : List (Bor (List ℕ))) (i : ℕ) (d : Bor (List ℕ)) (births : List ℕ) → i < length parts → All (λ birth. birth < 2 ^ 32) births → texts_of parts ≡ map decimal births
    → (n : ℕ) × (n < 2 ^ 32) × ((get_or parts i d).now ≡ decimal n)
part_number parts i d births lt h e = go parts i births lt (recursion_from_All (λ birth. birth < 2 ^ 32) births h) e
  where
    go : (parts : List (Bor (List ℕ))) (i : ℕ) (births : List ℕ) → i < length parts → AllByRecursion (λ birth. birth < 2 ^ 32) births → texts_of parts ≡ map decimal births
        → (n : ℕ) × (n < 2 ^ 32) × ((get_or parts i d).now ≡ decimal n)
    go [] i births lt h e = absurd (omega arith)
    go (p ∷ parts) i [] lt h e = absurd (cc)
    go (p ∷ parts) zero (b ∷ births) lt h e = (b, h.0, cc)
    go (p ∷ parts) (suc i) (b ∷ births) lt h e = let later : texts_of parts ≡ map decimal births = cc in go parts i births (omega arith) h.1 later
