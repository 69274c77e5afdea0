-- Files that grow in their places, and are cut there.
use Rattle.std.specs.Prelude.{◌≡◌, ◌<◌, ◌++◌, ℕ, List, [], ◌∷◌, Option, option_map, length, take}
use Rattle.std.specs.FinMap as map
use Rattle.payments.specs.Files.{Files, bytes_of, with_more}

-- the files once one of them has its first bytes only, of this number
abbrev pub with_cut : Option Files → List ℕ → ℕ → Option Files
with_cut files name size =
    option_map (λ files. map.insert files name (take size (bytes_of files name))) files

-- the files with a text at the end of one; an empty text begins no file
abbrev pub with_text : Option Files → List ℕ → List ℕ → Option Files
with_text files name [] = files
with_text files name (byte ∷ bytes) = with_more files name (byte ∷ bytes)

-- a file has the first bytes of a text at its end, but not all of them; no other file has changed
pub record GrowsByProperPrefix (old new : Option Files) (name text : List ℕ) : Type 0 where
  pub done : List ℕ
  pub left : List ℕ
  pub text_is : text ≡ done ++ left
  pub some : 0 < length left
  pub holds : new ≡ with_text old name done
