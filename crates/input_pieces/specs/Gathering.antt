-- What pieces keep of the bytes that were read, and what a call gives of them.
use Rattle.std.specs.Prelude.{◌≡◌, ◌++◌, ℕ, Bool, List, [], ◌∷◌, Option, None, Some, Result, Ok, Err}
use Rattle.std.specs.Io.KnownBytes.{Consumes}
use Rattle.tuple_trace.specs.Counts.{Rose}
use Rattle.input_pieces.specs.declared.fault.PieceFault.{PieceFault}
use Rattle.input_pieces.specs.declared.fault.PieceFault.TheVariants as fault
use Rattle.input_pieces.specs.declared.pieces.Pieces.{Pieces}

-- the bytes that were read and not given yet
abbrev pub kept_of : Pieces → List ℕ
kept_of pieces = pieces.kept.items

-- the input has ended
abbrev pub is_over : Pieces → Bool
is_over pieces = pieces.over

-- the bytes that an answer gives
abbrev pub given_by : Result (Option (List ℕ)) PieceFault → List ℕ
given_by (Ok (Some piece)) = piece
given_by (Ok None) = []
given_by (Err fault) = []

-- A call takes bytes of a tap. Behind what was kept, they are what it gives and then keeps.
abbrev pub Gathers : Option (List ℕ) → Option (List ℕ) → List ℕ → List ℕ → List ℕ → Type 0
Gathers left still kept given keeps =
    (read : List ℕ) × Consumes left still read × (kept ++ read ≡ given ++ keeps)

-- what a call leaves of the count of failures
abbrev pub PieceCause : {T : Type 0} → Result T PieceFault → ℕ → ℕ → Type 0
PieceCause (Ok value) before now = now ≡ before
PieceCause (Err fault.Failed) before now = Rose before now
PieceCause (Err fault.Long) before now = now ≡ before
PieceCause (Err fault.NoMemory) before now = now ≡ before

-- the bytes that a call read, and those that it gave
pub record Call : Type 0 where
  pub read : List ℕ
  pub given : List ℕ

-- calls one after another, from what was kept before the first to what is kept after the last
abbrev pub AreCalls : List ℕ → List Call → List ℕ → Type 0
AreCalls kept [] keeps = kept ≡ keeps
AreCalls kept (call ∷ calls) keeps = (next : List ℕ) × (kept ++ call.read ≡ call.given ++ next)
    × AreCalls next calls keeps
