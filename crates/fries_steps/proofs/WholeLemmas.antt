-- Files are as before or whole, however a call ends.
use Rattle.std.proofs.Common.{◌≡◌, ◌⊎◌, ◌∙◌, ◌∷◌, [], inl, inr, ℕ, List, Option, None, Some, cond, refl, sym, ap, subst}
use Rattle.std.specs.Prelude.{IfSome}
use Rattle.std.specs.Ordering.{is_eq, nat_cmp}
use Rattle.std.specs.Cmp.Lexicographic.{slice_cmp, nat_list_cmp_total}
use Rattle.std.specs.FinMap as map
use Rattle.std.specs.declared.cmp.Ordering.{Ordering}
use Rattle.std.specs.declared.cmp.Ordering.TheVariants.{Less, Equal, Greater}
use Rattle.std.proofs.lemmas.List.Elements.{Contains-append_left, Contains-append_right, Contains-push}
use Rattle.payments.specs.Files.{Files, with_bytes}
use Rattle.payments.specs.World.{ShelfState, World}
use Rattle.fries_steps.specs.Effects.{FileText, StoresWhole}
use Rattle.fries_steps.specs.Outcomes.{EndsStoring, FilesEndWhole, IsAsBeforeOrWhole, told_file}
use Rattle.fries_lines.specs.declared.fault.Fault.{Fault}

-- a file that is stored: what stands under another name stays
told_by : (m : Files) (k v q : List ℕ) (o : Ordering) → slice_cmp nat_cmp q k ≡ o
    → (told_file (with_bytes (Some m) k v) q ≡ told_file (Some m) q) ⊎ ((k ≡ q) × IfSome (told_file (with_bytes (Some m) k v) q) (λ file. file ≡ Some v))
told_by m k v q Equal is =
    let got = map.get-insert nat_list_cmp_total m k v q ∙ ap (λ (o : Ordering). cond (is_eq o) (Some v) (map.get m q)) is in
    inr (sym (map.slice_cmp-IsAntisymmetric map.nat_cmp-IsAntisymmetric q k is), got)
told_by m k v q Less is =
    let got = map.get-insert nat_list_cmp_total m k v q ∙ ap (λ (o : Ordering). cond (is_eq o) (Some v) (map.get m q)) is in
    inl (ap (λ (g : Option (List ℕ)). Some g) got)
told_by m k v q Greater is =
    let got = map.get-insert nat_list_cmp_total m k v q ∙ ap (λ (o : Ordering). cond (is_eq o) (Some v) (map.get m q)) is in
    inl (ap (λ (g : Option (List ℕ)). Some g) got)

told_with : (files : Option Files) (k v q : List ℕ)
    → (told_file (with_bytes files k v) q ≡ told_file files q) ⊎ ((k ≡ q) × IfSome (told_file (with_bytes files k v) q) (λ file. file ≡ Some v))
told_with None k v q = inl refl
told_with (Some m) k v q = told_by m k v q (slice_cmp nat_cmp q k) refl

told_same : (files other : Option Files) (q : List ℕ) → files ≡ other → told_file files q ≡ told_file other q
told_same files other q same = ap (λ (f : Option Files). told_file f q) same

-- one text more before the others
before : (text : FileText) (later : List FileText) (old stored new : World) (name : List ℕ) → StoresWhole text old stored
    → IsAsBeforeOrWhole later stored.shelf.files new.shelf.files name → IsAsBeforeOrWhole (text ∷ later) old.shelf.files new.shelf.files name
before text later old stored new name stores (inr (other, within, is, whole)) = inr (other, Contains-append_right (text ∷ []) later other within, is, whole)
before text later old stored new name stores (inl same) =
    let since = same ∙ told_same stored.shelf.files (with_bytes old.shelf.files text.name text.text) name stores.files in
    elim (told_with old.shelf.files text.name text.text name) [
      | inl kept ↦ inl (since ∙ kept)
      | inr (is, whole) ↦ inr (
        text,
        Contains-append_left (text ∷ []) later text (Contains-push [] text),
        is,
        subst (λ (told : Option (Option (List ℕ))). IfSome told (λ file. file ≡ Some text.text)) (sym since) whole,
      )
    ]

storing_whole : (texts : List FileText) (lines : List ℕ) (old new : World) (answer : Option Fault) → EndsStoring texts lines old new answer
    → (name : List ℕ) → IsAsBeforeOrWhole texts old.shelf.files new.shelf.files name
storing_whole [] lines old new answer ends name = inl (ap (λ (s : ShelfState). told_file s.files name) ends.shelf)
storing_whole (text ∷ later) lines old new answer ends name =
    elim ends [
      | inl stops ↦ inl (told_same new.shelf.files old.shelf.files name stops.files)
      | inr (stored, stores, rest) ↦ before text later old stored new name stores (storing_whole later lines stored new answer rest name)
    ]

pub files_whole : FilesEndWhole
files_whole texts lines old new answer ends name =
    elim ends [
      | inl stops ↦ inl (ap (λ (w : World). told_file w.shelf.files name) stops.same)
      | inr stores ↦ storing_whole texts lines old new answer stores name
    ]
