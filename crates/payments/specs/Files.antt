-- Files by their names.
use Rattle.std.specs.Prelude.{ℕ, List, [], ◌++◌, Option, option_map, unwrap_or}
use Rattle.std.specs.Cmp.Lexicographic.{slice_cmp}
use Rattle.std.specs.Ordering.{nat_cmp}
use Rattle.std.specs.FinMap as map

-- the bytes under each name
abbrev pub Files : Type 0
Files = map.FinMap (slice_cmp nat_cmp) (List ℕ)

-- the bytes under a name, none where there is no such file
abbrev pub bytes_of : Files → List ℕ → List ℕ
bytes_of files name = unwrap_or (map.get files name) []

-- the bytes under a name, if the files are told
abbrev pub told_bytes : Option Files → List ℕ → Option (List ℕ)
told_bytes files name = option_map (λ files. bytes_of files name) files

-- the files with these bytes under a name, where they are told
abbrev pub with_bytes : Option Files → List ℕ → List ℕ → Option Files
with_bytes files name bytes = option_map (λ files. map.insert files name bytes) files

-- the files with more bytes at the end of one
abbrev pub with_more : Option Files → List ℕ → List ℕ → Option Files
with_more files name bytes =
    option_map (λ files. map.insert files name (bytes_of files name ++ bytes)) files

-- a file that is being written: its name, and the files as they are once it is kept, if they are
-- told
pub record Draft : Type 0 where
  pub name : List ℕ
  pub files : Option Files

-- the name of a draft, if there is one
abbrev pub draft_name : Option Draft → Option (List ℕ)
draft_name draft = option_map (λ draft. draft.name) draft

-- a draft of a file with these bytes
abbrev pub draft_with : Option Files → List ℕ → List ℕ → Draft
draft_with files name bytes = record { name = name; files = with_bytes files name bytes }

-- a draft with more bytes at its end
abbrev pub longer_draft : Draft → List ℕ → Draft
longer_draft draft bytes = record draft { files = with_more draft.files draft.name bytes }
