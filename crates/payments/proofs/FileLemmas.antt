-- Files that are written piece by piece.
use Rattle.std.proofs.Common.{◌+◌, ◌<◌, ◌≤◌, get_or, subst, ◌≡◌, ℕ, List, [], ◌++◌, Option, None, Some, Bool, true, false, cond, refl, sym, ◌∙◌, ap, take, drop, length, ◌-◌, arith, take-append-drop, append_assoc, true≢false}
use Rattle.std.proofs.lemmas.Grind.{common_steps}
use Rattle.std.proofs.lemmas.List.{drop_all}
use Rattle.std.specs.Prelude.{unwrap_or, nat_eq, option_map, IfSome, IsSome}
use Rattle.std.specs.Ordering.{nat_cmp, eq_by_cmp, is_eq}
use Rattle.std.specs.Cmp.{tied_itself, unsigned_ties}
use Rattle.std.specs.Cmp.Lexicographic.{slice_cmp, pointwise, nat_list_cmp_total, lists_ties}
use Rattle.std.specs.FinMap as map
use Rattle.payments.specs.Memory.{stored_files}
use Rattle.payments.specs.declared.memory.File.{File}
use Rattle.payments.proofs.Rest.{drop-item}
use Rattle.payments.specs.Files.{Draft, Files, draft_name, draft_with, longer_draft, with_bytes, with_more}

twice : {X : Type 0} (b : Bool) (x y z : X) → cond b x (cond b y z) ≡ cond b x z
twice true x y z = refl
twice false x y z = refl

-- the later of two bytes under one name counts
insert-insert : (m : Files) (k a b : List ℕ) → map.insert (map.insert m k a) k b ≡ map.insert m k b
insert-insert m k a b =
    map.same_map nat_list_cmp_total (map.slice_cmp-IsAntisymmetric map.nat_cmp-IsAntisymmetric) _ _
    (λ q. map.get-insert nat_list_cmp_total (map.insert m k a) k b q
    ∙ ap (λ r. cond (eq_by_cmp (slice_cmp nat_cmp) q k) (Some b) r) (map.get-insert nat_list_cmp_total m k a q)
    ∙ twice (eq_by_cmp (slice_cmp nat_cmp) q k) (Some b) (Some a) (map.get m q)
    ∙ sym (map.get-insert nat_list_cmp_total m k b q))

get-insert_same : (m : Files) (k a : List ℕ) → map.get (map.insert m k a) k ≡ Some a
get-insert_same m k a = map.get-insert nat_list_cmp_total m k a k ∙ ap (λ o. cond (is_eq o) (Some a) (map.get m k)) (tied_itself nat_list_cmp_total k)

-- one more piece of a file that has been begun
pub with_more-with_bytes : (old now : Option Files) (name done piece : List ℕ) → now ≡ with_bytes old name done → with_more now name piece ≡ with_bytes old name (done ++ piece)
with_more-with_bytes None now name done piece is = ap (λ files. with_more files name piece) is
with_more-with_bytes (Some m) now name done piece is =
    ap (λ files. with_more files name piece) is
    ∙ ap (λ g. Some (map.insert (map.insert m name done) name (unwrap_or g [] ++ piece))) (get-insert_same m name done)
    ∙ ap (λ f. Some f) (insert-insert m name done (done ++ piece))

-- the part that is done grows by the front of the rest
pub append-take : (text done rest : List ℕ) (n : ℕ) → text ≡ done ++ rest → text ≡ (done ++ take n rest) ++ take (length rest - n) (drop n rest)
append-take text done rest n is =
    let all : take (length rest - n) (drop n rest) ≡ drop n rest = grind (arith, common_steps) in
    rw all (is ∙ ap (λ r. done ++ r) (sym (take-append-drop n rest)) ∙ sym (append_assoc done (take n rest) (drop n rest)))

-- a look for a name goes by the newest entry
get-insert : (m : Files) (k v q : List ℕ) → map.get (map.insert m k v) q ≡ cond (pointwise nat_eq q k) (Some v) (map.get m q)
get-insert m k v q = map.get-insert nat_list_cmp_total m k v q ∙ ap (λ b. cond b (Some v) (map.get m q)) (sym (lists_ties nat_cmp unsigned_ties q k))

-- one more piece of a text that has been begun
pub option_map-append : (old now : Option (List ℕ)) (done piece : List ℕ) → now ≡ option_map (λ w. w ++ done) old → option_map (λ w. w ++ piece) now ≡ option_map (λ w. w ++ (done ++ piece)) old
option_map-append None now done piece is = ap (λ w. option_map (λ w. w ++ piece) w) is
option_map-append (Some w) now done piece is = ap (λ w. option_map (λ w. w ++ piece) w) is ∙ ap (λ t. Some t) (append_assoc w done piece)

-- a draft that has been begun, with one more piece
pub draft_grown : (old : Option Files) (name done piece : List ℕ) → Some (longer_draft (draft_with old name done) piece) ≡ Some (draft_with old name (done ++ piece))
draft_grown old name done piece =
    let made : Option Files → Option Draft = λ files. Some (record { name = name; files = files }) in
    ap made (with_more-with_bytes old (with_bytes old name done) name done piece refl)

-- a draft with one more piece of a text behind what was begun and done
pub draft_longer : (old new : Option Draft) (files : Option Files)
    (name begun done piece : List ℕ) → old ≡ Some (draft_with files name (begun ++ done))
    → IfSome old (λ draft. new ≡ Some (longer_draft draft piece))
    → new ≡ Some (draft_with files name (begun ++ (done ++ piece)))
draft_longer old new files name begun done piece is more =
    let now = subst (λ (d : Option Draft). IfSome d (λ draft. new ≡ Some (longer_draft draft piece)))
    is more in
    now ∙ draft_grown files name (begun ++ done) piece
    ∙ ap (λ t. Some (draft_with files name t)) (append_assoc begun done piece)

-- a draft with one more piece is a draft
pub draft_open : (old new : Option Draft) (piece : List ℕ) → IsSome old
    → IfSome old (λ draft. new ≡ Some (longer_draft draft piece)) → IsSome new
draft_open None new piece there more = absurd (true≢false (sym there))
draft_open (Some draft) new piece there more =
    subst (λ (d : Option Draft). IsSome d) (sym more) refl

-- and has the same name
pub draft_named : (old new : Option Draft) (piece : List ℕ) → IsSome old
    → IfSome old (λ draft. new ≡ Some (longer_draft draft piece))
    → draft_name new ≡ draft_name old
draft_named None new piece there more = absurd (true≢false (sym there))
draft_named (Some draft) new piece there more = ap (λ d. draft_name d) more

-- a file in memory has grown, and so has the draft that it is
pub memory_grown : (files : Files) (file new : File) (piece : List ℕ) → new ≡ record file { bytes = file.bytes ++ piece }
    → Some (draft_with (Some files) new.name new.bytes) ≡ Some (longer_draft (draft_with (Some files) file.name file.bytes) piece)
memory_grown files file new piece is =
    subst (λ (f : File). Some (draft_with (Some files) f.name f.bytes) ≡ Some (longer_draft (draft_with (Some files) file.name file.bytes) piece)) (sym is)
    (sym (draft_grown (Some files) file.name file.bytes piece))

pub get-insert_found : (m : Files) (k v q : List ℕ) → pointwise nat_eq q k ≡ true → map.get (map.insert m k v) q ≡ Some v
get-insert_found m k v q same = get-insert m k v q ∙ ap (λ b. cond b (Some v) (map.get m q)) same

pub get-insert_passed : (m : Files) (k v q : List ℕ) → pointwise nat_eq q k ≡ false → map.get (map.insert m k v) q ≡ map.get m q
get-insert_passed m k v q other = get-insert m k v q ∙ ap (λ b. cond b (Some v) (map.get m q)) other

pub get-stored_found : (files : List File) (i : ℕ) (file : File) (q : List ℕ) → i < length files → file ≡ get_or files i file → pointwise nat_eq q file.name ≡ true → map.get (stored_files (drop i files)) q ≡ Some file.bytes
get-stored_found files i file q lt is same = ap (λ fs. map.get (stored_files fs) q) (drop-item files i file lt is) ∙ get-insert_found (stored_files (drop (i + 1) files)) file.name file.bytes q same

pub get-stored_passed : (files : List File) (i : ℕ) (file : File) (q : List ℕ) → i < length files → file ≡ get_or files i file → pointwise nat_eq q file.name ≡ false → map.get (stored_files (drop i files)) q ≡ map.get (stored_files (drop (i + 1) files)) q
get-stored_passed files i file q lt is other = ap (λ fs. map.get (stored_files fs) q) (drop-item files i file lt is) ∙ get-insert_passed (stored_files (drop (i + 1) files)) file.name file.bytes q other

pub get-stored_end : (files : List File) (i : ℕ) (q : List ℕ) → length files ≤ i → map.get (stored_files (drop i files)) q ≡ None
get-stored_end files i q past = ap (λ fs. map.get (stored_files fs) q) (drop_all i files past) ∙ map.get-empty (slice_cmp nat_cmp) q
