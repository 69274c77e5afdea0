-- How keys spread over the workers of a counter.
use Rattle.std.specs.Prelude.{◌+◌, ◌*◌, ◌%◌, ◌^◌, ℕ, List, fold}

-- the hash with one more byte
abbrev pub hash_after : ℕ → ℕ → ℕ
hash_after hash byte = (31 * hash + byte) % 2 ^ 32

-- the worker that a key belongs to, among so many
abbrev pub spread_of : List ℕ → ℕ → ℕ
spread_of text workers = fold hash_after 0 text % workers
