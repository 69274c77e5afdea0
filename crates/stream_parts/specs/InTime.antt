-- Which requests a stream issues while it runs rows.
use Rattle.std.specs.Prelude.{◌≡◌, ◌≤◌, ◌++◌, ℕ, All, List, map}
use Rattle.versions.specs.declared.request.Request.{Request}
use Rattle.stream_step.specs.Pending.{lifted}
use Rattle.stream_step.specs.declared.stream.Stream.{Stream}

-- Of the pending requests the first were issued, each after the last row that was fed before, or
-- after the later row that it asks for. None of them asks for a row after `last`.
pub record IssuesFirst (old : Stream) (last : ℕ) (new : Stream) : Type 0 where
  pub now : List Request
  pub pending_are : old.pending ≡ now ++ new.pending
  pub issued : new.setup.judged.accepted
      ≡ old.setup.judged.accepted ++ map (lifted old.start.row) now
  pub due : All (λ (request : Request). request.after ≤ last) now

-- the pending requests ask for no row before this one
abbrev pub NoneAsksBefore : ℕ → Stream → Type 0
NoneAsksBefore row stream = All (λ (request : Request). row ≤ request.after) stream.pending
