-- The text of fields and of records, part by part.
use Rattle.std.proofs.Common.{rules, ◌≡◌, ◌==◌, ◌++◌, ◌∷◌, ◌∙◌, ◌<◌, ◌^◌, [], ℕ, ℤ, pos, negsuc, List, Bool, refl, sym, ap, true, false, append_assoc, arith, slice_index_or, drop, length, ◌≤◌, suc, Fits, w32, w64, true≢false}
use Rattle.std.specs.Prelude.{◌/◌, ◌%◌, unsigned_abs, Result, Ok, Err, OnOk, FitsSigned, codes, decimal, if◌then◌else◌}
use Rattle.std.specs.Fmt.{signed_decimal}
use Rattle.std.specs.Int.{IsInRange, is_negative}
use Rattle.std.specs.List.{flat_map}
use Rattle.std.specs.Str.Parse.{AllDigits}
use Rattle.std.proofs.lemmas.Bool.{ne_eqb}
use Rattle.std.proofs.lemmas.Fmt.{digits_decimal}
use Rattle.std.proofs.lemmas.List.{append-nil, drop_all}
use Rattle.std.proofs.lemmas.List.Folds.{list_any-append}
use Rattle.std.proofs.lemmas.Str.Parse.{numerals_by_value, tells_digits}
use Rattle.csv.specs.Writing.{default_writer, escaped, field_text, fields_text, is_blank, needs_byte, needs_quotes}
use Rattle.sink_journal.specs.Audit.{audit_header, dotted, feed_fields}
use Rattle.sink_journal.specs.declared.journal.Feed.TheVariants as feed
use Rattle.sink_journal.specs.Printed.{cents_of, hundredths}
use Rattle.sink_journal.specs.Records.{record_text}

-- what follows from a fact of a call that went well
pub on-ok : {T E : Type 0} {P Q : Type 0} (r : Result T E) → (P → Q) → OnOk r P → OnOk r Q
on-ok (Ok v) f p = f p
on-ok (Err e) f p = tt

-- a field that asks for no quotes stands for itself
pub plain-field : (field : List ℕ) → needs_quotes default_writer field ≡ false → fields_text default_writer (field ∷ []) ≡ 44 ∷ field
unfolding fields_text
plain-field field plain = rw (plain, append-nil field) refl

-- fields one after the other
pub fields-cons : (field : List ℕ) (rest : List (List ℕ)) → fields_text default_writer (field ∷ rest) ≡ fields_text default_writer (field ∷ []) ++ fields_text default_writer rest
unfolding fields_text
fields-cons field rest = rw (append-nil (field_text default_writer field)) refl

-- a record of at least two fields
pub record-parts : (first second : List ℕ) (rest : List (List ℕ))
    → record_text (first ∷ second ∷ rest) ≡ field_text default_writer first ++ (fields_text default_writer (second ∷ rest) ++ 10 ∷ [])
unfolding is_blank
record-parts first second rest = append_assoc (field_text default_writer first) (fields_text default_writer (second ∷ rest)) (10 ∷ [])

-- the numbers after the first, each behind a dot
abbrev pub later_text : List ℕ → List ℕ
later_text numbers = flat_map (λ n. 46 ∷ decimal n) numbers

-- numbers with dots between them, from the first on
pub dotted-cons : (first : ℕ) (later : List ℕ) → dotted (first ∷ later) ≡ decimal first ++ later_text later
dotted-cons first [] = sym (append-nil (decimal first))
dotted-cons first (next ∷ later) = ap (λ (t : List ℕ). decimal first ++ 46 ∷ t) (dotted-cons next later)

-- a byte of a digit asks for no quotes
digit-plain : (b : ℕ) → IsInRange 48 57 b → needs_byte default_writer b ≡ false
digit-plain b within =
    let comma = ne_eqb b 44 (λ e. omega arith) in
    let quote = ne_eqb b 34 (λ e. omega arith) in
    let feed = ne_eqb b 10 (λ e. omega arith) in
    let back = ne_eqb b 13 (λ e. omega arith) in
    rw (comma, quote, feed, back) refl

plain-digits : (ds : List ℕ) → AllDigits 10 ds → needs_quotes default_writer ds ≡ false
plain-digits [] all = refl
plain-digits (d ∷ ds) all =
    let parts = tells_digits.parts d ds all in
    rw (digit-plain d parts.0) (plain-digits ds parts.1)

-- the digits of a number ask for no quotes
pub decimal-plain : (n : ℕ) → n < 2 ^ 64 → needs_quotes default_writer (decimal n) ≡ false
decimal-plain n within = plain-digits (decimal n) (digits_decimal (numerals_by_value (AllDigits 10) tells_digits) n within)

-- a comma and then a field with no quotes
pub field-onto : (old inside mid new front rest : List ℕ) → inside ≡ old → mid ≡ inside ++ 44 ∷ front → new ≡ mid ++ rest
    → needs_quotes default_writer (front ++ rest) ≡ false → new ≡ old ++ fields_text default_writer ((front ++ rest) ∷ [])
field-onto old inside mid new front rest view push text plain =
    rw (plain-field (front ++ rest) plain) (text ∙ ap (λ (t : List ℕ). t ++ rest) (push ∙ ap (λ (t : List ℕ). t ++ 44 ∷ front) view) ∙ append_assoc old (44 ∷ front) rest)

-- a comma and then a field
pub any-field : (field : List ℕ) → fields_text default_writer (field ∷ []) ≡ 44 ∷ field_text default_writer field
unfolding fields_text
any-field field = rw (append-nil (field_text default_writer field)) refl

pub text-onto : (old inside mid new field : List ℕ) → inside ≡ old → mid ≡ inside ++ 44 ∷ [] → new ≡ mid ++ field_text default_writer field
    → new ≡ old ++ fields_text default_writer (field ∷ [])
text-onto old inside mid new field view push text =
    rw (any-field field) (text ∙ ap (λ (t : List ℕ). t ++ field_text default_writer field) (push ∙ ap (λ (t : List ℕ). t ++ 44 ∷ []) view) ∙ append_assoc old (44 ∷ []) (field_text default_writer field))

-- one byte between quotes, and then the others
split-choice : (t : Bool) (q b : ℕ) (rest : List ℕ) → (if t then q ∷ b ∷ rest else b ∷ rest) ≡ (if t then q ∷ b ∷ [] else b ∷ []) ++ rest
split-choice true q b rest = refl
split-choice false q b rest = refl

pub escaped-cons : (b : ℕ) (rest : List ℕ) → escaped default_writer (b ∷ rest) ≡ escaped default_writer (b ∷ []) ++ escaped default_writer rest
unfolding escaped
escaped-cons b rest = split-choice (b == 34) 34 b (escaped default_writer rest)

pub escaped-same : (b : ℕ) → (b == 34) ≡ true → escaped default_writer (b ∷ []) ≡ 34 ∷ b ∷ []
unfolding escaped
escaped-same b e = rw e refl

pub escaped-other : (b : ℕ) → (b == 34) ≡ false → escaped default_writer (b ∷ []) ≡ b ∷ []
unfolding escaped
escaped-other b e = rw e refl

-- a number with a sign
pub signed-plain : (n : ℤ) → FitsSigned w64 n → needs_quotes default_writer (signed_decimal n) ≡ false
signed-plain (pos n) fits = decimal-plain n (omega (arith, fits))
signed-plain (negsuc n) fits = decimal-plain (suc n) (omega (arith, fits))

-- an amount of cents
sign-plain : (b : Bool) → needs_quotes default_writer (if b then codes "-" else []) ≡ false
sign-plain true = refl
sign-plain false = refl

-- texts that ask for no quotes, one after the other
any-both : (xs ys : List ℕ) → needs_quotes default_writer xs ≡ false → needs_quotes default_writer ys ≡ false → needs_quotes default_writer (xs ++ ys) ≡ false
any-both xs ys a b = rw (list_any-append (needs_byte default_writer) xs ys, a, b) refl

hundredths-plain : (n : ℕ) → n < 2 ^ 64 → needs_quotes default_writer (hundredths n) ≡ false
hundredths-plain n fits =
    let whole = decimal-plain (n / 100) (omega arith) in
    let tens = decimal-plain (n / 10 % 10) (omega arith) in
    let ones = decimal-plain (n % 10) (omega arith) in
    let front = any-both (decimal (n / 100)) (codes ".") whole refl in
    any-both (decimal (n / 100) ++ codes "." ++ decimal (n / 10 % 10)) (decimal (n % 10)) (any-both (decimal (n / 100) ++ codes ".") (decimal (n / 10 % 10)) front tens) ones

small-abs : (amount : ℤ) → FitsSigned w64 amount → unsigned_abs amount < 2 ^ 64
small-abs (pos n) fits = omega (arith, fits)
small-abs (negsuc n) fits = omega (arith, fits)

pub cents-plain : (amount : ℤ) → FitsSigned w64 amount → needs_quotes default_writer (cents_of amount) ≡ false
cents-plain amount fits =
    any-both (if is_negative amount then codes "-" else []) (hundredths (unsigned_abs amount)) (sign-plain (is_negative amount)) (hundredths-plain (unsigned_abs amount) (small-abs amount fits))

later-plain : (ns : List ℕ) → ((i : ℕ) → Fits w32 (slice_index_or ns i 0)) → needs_quotes default_writer (later_text ns) ≡ false
later-plain [] all = refl
later-plain (n ∷ ns) all = any-both (decimal n) (later_text ns) (decimal-plain n (omega (arith, all 0))) (later-plain ns (λ i. all (suc i)))

-- numbers with dots between them
pub dotted-plain : (ns : List ℕ) → ((i : ℕ) → Fits w32 (slice_index_or ns i 0)) → needs_quotes default_writer (dotted ns) ≡ false
dotted-plain [] all = refl
dotted-plain (n ∷ ns) all =
    rw (dotted-cons n ns) (any-both (decimal n) (later_text ns) (decimal-plain n (omega (arith, all 0))) (later-plain ns (λ i. all (suc i))))

-- all bytes are written between the quotes
pub escaped-done : (text start field : List ℕ) (i : ℕ) → length field ≤ i → text ++ escaped default_writer (drop i field) ≡ start ++ 34 ∷ escaped default_writer field
    → text ≡ start ++ 34 ∷ escaped default_writer field
unfolding escaped
escaped-done text start field i far written = sym (append-nil text) ∙ (rw (drop_all i field far) at written)

-- fields in two parts
pub fields-append : (xs ys : List (List ℕ)) → fields_text default_writer (xs ++ ys) ≡ fields_text default_writer xs ++ fields_text default_writer ys
unfolding fields_text
fields-append [] ys = refl
fields-append (x ∷ xs) ys =
    rw (fields-append xs ys) (ap (λ (t : List ℕ). 44 ∷ t) (sym (append_assoc (field_text default_writer x) (fields_text default_writer xs) (fields_text default_writer ys))))

-- a record of six fields, of which the first asks for no quotes
pub six-text : (entry node worker lane number extra : List ℕ) → needs_quotes default_writer entry ≡ false
    → record_text (entry ∷ node ∷ worker ∷ lane ∷ number ∷ extra ∷ [])
    ≡ (entry ++ fields_text default_writer (node ∷ worker ∷ []))
    ++ (fields_text default_writer (lane ∷ []) ++ (fields_text default_writer (number ∷ []) ++ (fields_text default_writer (extra ∷ []) ++ 10 ∷ [])))
six-text entry node worker lane number extra plain =
    let F : List (List ℕ) → List ℕ = fields_text default_writer in
    let tail = F (lane ∷ []) ++ (F (number ∷ []) ++ (F (extra ∷ []) ++ 10 ∷ [])) in
    rw (record-parts entry node (worker ∷ lane ∷ number ∷ extra ∷ []), plain, fields-append (node ∷ worker ∷ []) (lane ∷ number ∷ extra ∷ []), fields-cons lane (number ∷ extra ∷ []), fields-cons number (extra ∷ []))
    (search (append_assoc, rules))

pub header-text : record_text audit_header ≡ codes "entry,node,worker,lane,number,extra\n"
unfolding fields_text is_blank
header-text = refl

-- fields with nothing in them
pub one-empty : fields_text default_writer ([] ∷ []) ≡ 44 ∷ []
unfolding fields_text
one-empty = refl

pub two-empty : fields_text default_writer ([] ∷ [] ∷ []) ≡ 44 ∷ 44 ∷ []
unfolding fields_text
two-empty = refl

-- parts that were appended in turn
four-parts : (old s t u v a b c d : List ℕ) → s ≡ old ++ a → t ≡ s ++ b → u ≡ t ++ c → v ≡ u ++ d → v ≡ old ++ (a ++ (b ++ (c ++ d)))
four-parts old s t u v a b c d first second third fourth =
    fourth ∙ ap (λ (x : List ℕ). x ++ d) (third ∙ ap (λ (x : List ℕ). x ++ c) (second ∙ ap (λ (x : List ℕ). x ++ b) first))
    ∙ append_assoc ((old ++ a) ++ b) c d ∙ append_assoc (old ++ a) b (c ++ d) ∙ append_assoc old a (b ++ (c ++ d))

-- the record of a refused request
pub noted-record : (old s t u v place code : List ℕ) → s ≡ old ++ codes "refused,,," → t ≡ s ++ fields_text default_writer (place ∷ [])
    → u ≡ t ++ fields_text default_writer (code ∷ []) → v ≡ u ++ 10 ∷ []
    → v ≡ old ++ record_text (codes "refused" ∷ [] ∷ [] ∷ [] ∷ place ∷ code ∷ [])
noted-record old s t u v place code first second third fourth =
    rw (six-text (codes "refused") [] [] [] place code refl, two-empty, one-empty)
    (four-parts old s t u v (codes "refused,,,") (fields_text default_writer (place ∷ [])) (fields_text default_writer (code ∷ [])) (10 ∷ []) first second third fourth)

-- the record of a step of the feeder
pub fed-text : (entry number : List ℕ) → needs_quotes default_writer entry ≡ false
    → record_text (entry ∷ [] ∷ [] ∷ [] ∷ number ∷ [] ∷ []) ≡ (entry ++ 44 ∷ 44 ∷ 44 ∷ []) ++ (fields_text default_writer (number ∷ []) ++ 44 ∷ 10 ∷ [])
fed-text entry number plain =
    let rest = fields_text default_writer (number ∷ []) ++ 44 ∷ 10 ∷ [] in
    rw (six-text entry [] [] [] number [] plain, two-empty, one-empty)
    (append_assoc entry (44 ∷ 44 ∷ []) (44 ∷ rest) ∙ sym (append_assoc entry (44 ∷ 44 ∷ 44 ∷ []) rest))

-- the record of a step or of a count of a worker
pub step-record : (old s t u v w entry worker node place lane number extra : List ℕ) → needs_quotes default_writer entry ≡ false
    → worker ≡ fields_text default_writer (node ∷ place ∷ []) → s ≡ old ++ (entry ++ worker) → t ≡ s ++ fields_text default_writer (lane ∷ [])
    → u ≡ t ++ fields_text default_writer (number ∷ []) → v ≡ u ++ fields_text default_writer (extra ∷ []) → w ≡ v ++ 10 ∷ []
    → w ≡ old ++ record_text (entry ∷ node ∷ place ∷ lane ∷ number ∷ extra ∷ [])
step-record old s t u v w entry worker node place lane number extra plain who first second third fourth fifth =
    let F : List (List ℕ) → List ℕ = fields_text default_writer in
    let all = four-parts old s t u v (entry ++ worker) (F (lane ∷ [])) (F (number ∷ [])) (F (extra ∷ [])) first second third fourth in
    let tail = F (lane ∷ []) ++ (F (number ∷ []) ++ F (extra ∷ [])) in
    let whole : F (lane ∷ []) ++ (F (number ∷ []) ++ (F (extra ∷ []) ++ 10 ∷ [])) ≡ tail ++ 10 ∷ [] =
    sym (append_assoc (F (lane ∷ [])) (F (number ∷ []) ++ F (extra ∷ [])) (10 ∷ []) ∙ ap (λ (x : List ℕ). F (lane ∷ []) ++ x) (append_assoc (F (number ∷ [])) (F (extra ∷ [])) (10 ∷ []))) in
    rw (six-text entry node place lane number extra plain, sym who, whole)
    (fifth ∙ ap (λ (x : List ℕ). x ++ 10 ∷ []) all ∙ append_assoc old ((entry ++ worker) ++ tail) (10 ∷ []) ∙ ap (λ (x : List ℕ). old ++ x) (append_assoc (entry ++ worker) tail (10 ∷ [])))

pub stopped-text : record_text (feed_fields feed.Stopped) ≡ codes "stopped,,,,,\n"
unfolding fields_text is_blank
stopped-text = refl

-- one more field of those that are left
pub fields-step : (now new field end : List ℕ) (rest : List (List ℕ)) → new ≡ now ++ fields_text default_writer (field ∷ [])
    → now ++ fields_text default_writer (field ∷ rest) ≡ end → new ++ fields_text default_writer rest ≡ end
fields-step now new field end rest added before =
    let F : List (List ℕ) → List ℕ = fields_text default_writer in
    ap (λ (x : List ℕ). x ++ F rest) added ∙ append_assoc now (F (field ∷ [])) (F rest) ∙ ap (λ (x : List ℕ). now ++ x) (sym (fields-cons field rest)) ∙ before

-- no field is left
pub fields-none : (now end : List ℕ) → now ++ fields_text default_writer [] ≡ end → now ≡ end
unfolding fields_text
fields-none now end before = sym (append-nil now) ∙ before

-- a record that was appended in parts
pub parts-record : (old s t u v first second : List ℕ) (rest : List (List ℕ)) → s ≡ old ++ field_text default_writer first
    → t ≡ s ++ fields_text default_writer (second ∷ []) → u ≡ t ++ fields_text default_writer rest → v ≡ u ++ 10 ∷ []
    → v ≡ old ++ record_text (first ∷ second ∷ rest)
parts-record old s t u v first second rest begun more others ended =
    let F : List (List ℕ) → List ℕ = fields_text default_writer in
    rw (record-parts first second rest, fields-cons second rest, append_assoc (F (second ∷ [])) (F rest) (10 ∷ []))
    (four-parts old s t u v (field_text default_writer first) (F (second ∷ [])) (F rest) (10 ∷ []) begun more others ended)

-- no numbers
none-dotted : (birth : List ℕ) → (length birth == 0) ≡ true → dotted birth ≡ []
none-dotted [] none = refl
none-dotted (n ∷ ns) none = absurd (true≢false (sym none ∙ ne_eqb (length (n ∷ ns)) 0 (λ e. omega arith)))

-- the record of a tuple that a worker met, if it has no birth
pub met-record : (old inside new node worker met place lane number birth : List ℕ) → inside ≡ old → met ≡ codes "met" ++ worker
    → worker ≡ fields_text default_writer (node ∷ place ∷ []) → (length birth == 0) ≡ true
    → new ≡ inside ++ (met ++ (fields_text default_writer (lane ∷ []) ++ (fields_text default_writer (number ∷ []) ++ 44 ∷ 10 ∷ [])))
    → new ≡ old ++ record_text (codes "met" ∷ node ∷ place ∷ lane ∷ number ∷ dotted birth ∷ [])
met-record old inside new node worker met place lane number birth view front who none text =
    let rest = fields_text default_writer (lane ∷ []) ++ (fields_text default_writer (number ∷ []) ++ 44 ∷ 10 ∷ []) in
    let begun = ap (λ (x : List ℕ). x ++ (met ++ rest)) view ∙ ap (λ (x : List ℕ). old ++ (x ++ rest)) (front ∙ ap (λ (x : List ℕ). codes "met" ++ x) who) in
    rw (none-dotted birth none, six-text (codes "met") node place lane number [] refl, one-empty) (text ∙ begun)
