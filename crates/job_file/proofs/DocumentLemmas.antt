-- Documents, and the keys of a table.
use Rattle.std.proofs.Common.{◌≡◌, ℕ, List, [], ◌∷◌, map, ◌||◌, Some, None, Ok, Err, refl, inl, inr, Bor, String, Global, string_bytes}
use Rattle.std.proofs.lemmas.Bool.{cases_Bool}
use Rattle.std.proofs.lemmas.Str.{IsUtf8-from_is_utf8, is_utf8-from_IsUtf8}
use Rattle.std.specs.List.{list_all, list_any}
use Rattle.std.specs.Map.{keys_of}
use Rattle.std.specs.Str.{IsUtf8, bytes_eq, is_utf8}
use Rattle.toml.specs.Data.{Members}
use Rattle.toml.specs.Parse.{parse_document}
use Rattle.toml.specs.View.{members_view}
use Rattle.toml.specs.declared.value.Value.{Value}
use Rattle.job_file.specs.Document.{document_of, has_only}
use Rattle.job_file.specs.declared.fault.FormFault.TheVariants as fault

pub document_of-Ok : (bytes : List ℕ) (ms : Members) → IsUtf8 bytes → parse_document bytes ≡ Some ms → document_of bytes ≡ Ok ms
unfolding document_of
document_of-Ok bytes ms text parsed = rw (is_utf8-from_IsUtf8 bytes text, parsed) refl

pub document_of-NotToml : (bytes : List ℕ) → (IsUtf8 bytes → parse_document bytes ≡ None) → document_of bytes ≡ Err fault.NotToml
unfolding document_of
document_of-NotToml bytes refused =
    elim (cases_Bool (is_utf8 bytes)) [
      | inl text ↦ rw (text, refused (IsUtf8-from_is_utf8 bytes text)) refl
      | inr other ↦ rw other refl
    ]

any-now : (key : List ℕ) (keys : List (Bor (List ℕ))) → list_any (λ k. bytes_eq k.now key) keys ≡ list_any (λ k. bytes_eq k key) (map (λ k. k.now) keys)
any-now key [] = refl
any-now key (k ∷ keys) = rw (any-now key keys) refl

-- the keys of a map are those of the table that it is seen as
pub has_only-keys_of : (these those : List (Bor (List ℕ))) (entries : List (String Global × Value))
    → list_all (λ key. list_any (λ k. bytes_eq k.now (string_bytes key)) these || list_any (λ k. bytes_eq k.now (string_bytes key)) those) (keys_of entries)
    ≡ has_only (map (λ k. k.now) these) (map (λ k. k.now) those) (members_view entries)
has_only-keys_of these those [] = refl
has_only-keys_of these those (e ∷ entries) = rw (any-now (string_bytes e.0) these, any-now (string_bytes e.0) those, has_only-keys_of these those entries) refl
