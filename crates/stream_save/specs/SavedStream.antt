-- A worked savepoint of a stream. Its job counts one key, and its request is issued after row 1.
use Rattle.std.specs.Prelude.{ℕ, List, [], ◌∷◌, codes}
use Rattle.savepoint.specs.TwoHalves.{half_way, saved_count}
use Rattle.stream_save.specs.StreamText.{StreamSave}

-- the first half is done: 3 requests were read, and the files count up to 40 and 200 bytes
abbrev pub half_saved : StreamSave
half_saved =
    record { start = half_way; read = 3; waits = 1 ∷ []; alerts = 40; audit = 200 }

-- a first record with this row and number of requests that were turned
abbrev pub stream_first : List ℕ → List ℕ → List (List ℕ)
stream_first row turned =
    codes "fries" ∷ codes "stream" ∷ row ∷ turned
    ∷ codes "3" ∷ codes "40" ∷ codes "200" ∷ []

-- the wait of the request with this number
abbrev pub saved_wait : List ℕ → List ℕ → List (List ℕ)
saved_wait number row = codes "wait" ∷ number ∷ row ∷ []

-- the records of the savepoint
abbrev pub half_records : List (List (List ℕ))
half_records =
    stream_first (codes "1") (codes "1")
    ∷ saved_wait (codes "1") (codes "1")
    ∷ saved_count (codes "ann") (codes "1")
    ∷ []
