-- The parts of a stream as one run, and as its audit tells them.
use Rattle.std.proofs.Common.{◌≡◌, ◌∙◌, ◌+◌, ◌-◌, ◌++◌, ℕ, List, [], ◌∷◌, None, Some, ap}
use Rattle.std.proofs.Common.{ap₂}
use Rattle.std.proofs.Common.{append-nil, append_assoc, arith, drop, length, map, refl, slice_range}
use Rattle.std.proofs.Common.{sym, take}
use Rattle.std.specs.List.{zip}
use Rattle.std.proofs.Math.Seq.{drop-append_seam, take-append_seam}
use Rattle.std.proofs.lemmas.List.{length-append}
use Rattle.sink_journal.specs.declared.audit.Noted.{Noted}
use Rattle.sink_journal.specs.declared.journal.Entry.{Entry}
use Rattle.sink_journal.specs.declared.journal.Feed.{Feed}
use Rattle.flow_model.specs.Run.{Ran}
use Rattle.savepoint.specs.Parts.{joined_journal, unstopped}
use Rattle.stream_law.specs.Stream.{SoFar}
use Rattle.stream_replay.specs.InParts.{Given, PartStart}
use Rattle.stream_replay.specs.Runs.{start_past}
use Rattle.audit_stream.specs.Told.{PartTold, told_after, told_in_all, told_with}
use Rattle.fries_verify.specs.Streams.{told_in_turn, told_to}
use Rattle.stream_run.specs.Growing.{Ended}
use Rattle.stream_run.specs.Parts.{Part, with_all, with_one}
use Rattle.fries_verify.specs.Whole.{ended_parts, ended_refused}
use Rattle.fries_verify.proofs.WholeLemmas.{end_of, ends_of}

-- what is told of a part is what it left
pub record Tells (told : PartTold) (ran : Ran) : Type 0 where
  pub feeds : told.feeds ≡ ran.feeds
  pub journals : told.journals ≡ ran.journals

-- a part more
tells_with : (acc told : PartTold) (so_far : SoFar) (part : Part) → Tells acc so_far.ran
    → Tells told part.left → Tells (told_with acc told) (with_one (Some so_far) part).ran
tells_with acc told so_far part f g = record {
  feeds = ap₂ (λ (x y : List Feed). unstopped x ++ y) f.feeds g.feeds;
  journals = ap₂ (λ (x y : List (List Entry)). map joined_journal (zip x y)) f.journals g.journals;
}

-- all parts after one, and then the last one
pub record IsOne (told : PartTold) (ran : Ran) : Type 0 where
  pub tells : Tells told ran
  pub states : told.states ≡ ran.states

module _ (given : Given) where
  one_after : (acc : PartTold) (so_far : SoFar) (ended : List Ended) (start : PartStart)
      (told row : ℕ) (last : Part) (end : PartTold) → Tells acc so_far.ran → IsOne end last.left
      → IsOne (told_with (told_after acc (told_in_turn given start (ends_of told row ended))) end)
      (with_one (with_all (Some so_far) (ended_parts ended)) last).ran
  one_after acc so_far [] start told row last end f g =
      record { tells = tells_with acc end so_far last f g.tells; states = g.states }
  one_after acc so_far (e ∷ later) start told row last end f g =
      one_after (told_with acc (told_to given start (end_of told row e)))
      (with_one (Some so_far) e.part) later (start_past (end_of told row e))
      (told + length e.refused) (row + length e.part.rows) last end
      (tells_with acc (told_to given start (end_of told row e)) so_far e.part f
      (record { feeds = refl; journals = refl })) g

  pub one_run : (ended : List Ended) (start : PartStart) (told row : ℕ) (last : Part)
      (end : PartTold) → IsOne end last.left
      → IsOne (told_in_all (told_in_turn given start (ends_of told row ended)) end)
      (with_one (with_all None (ended_parts ended)) last).ran
  one_run [] start told row last end g = g
  one_run (e ∷ later) start told row last end g =
      one_after (told_to given start (end_of told row e)) (with_one None e.part) later
      (start_past (end_of told row e)) (told + length e.refused) (row + length e.part.rows) last
      end (record { feeds = refl; journals = refl }) g

  -- ---- refused requests

  pub slice_is : (before own post : List Noted) → given.refused ≡ before ++ (own ++ post)
      → (from to : ℕ) → from ≡ length before → to ≡ from + length own
      → slice_range given.refused from to ≡ own
  slice_is before own post are from to a b =
      let many : to - from ≡ length own = omega (arith, b) in
      ap (λ k. take k (drop from given.refused)) many
      ∙ (ap (λ (l : List Noted). take (length own) (drop from l)) are
      ∙ (ap (λ k. take (length own) (drop k (before ++ (own ++ post)))) a
      ∙ (ap (take (length own)) (drop-append_seam before (own ++ post))
      ∙ take-append_seam own post)))

  refused_after : (acc : PartTold) (ended : List Ended) (start : PartStart) (row : ℕ)
      (before post : List Noted) → acc.refused ≡ before → start.told ≡ length before
      → given.refused ≡ before ++ (ended_refused ended ++ post)
      → (told_after acc (told_in_turn given start (ends_of start.told row ended))).refused
      ≡ before ++ ended_refused ended
  refused_after acc [] start row before post own at are = own ∙ sym (append-nil before)
  refused_after acc (e ∷ later) start row before post own at are =
      let end = end_of start.told row e in
      let here : given.refused ≡ before ++ (e.refused ++ (ended_refused later ++ post)) =
      are ∙ ap (λ (l : List Noted). before ++ l) (append_assoc e.refused (ended_refused later) post)
      in
      let own_is : slice_range given.refused start.told end.told ≡ e.refused =
      slice_is before e.refused (ended_refused later ++ post) here start.told end.told at refl in
      refused_after (told_with acc (told_to given start end)) later (start_past end)
      (row + length e.part.rows) (before ++ e.refused) post
      (ap₂ (λ (x y : List Noted). x ++ y) own own_is)
      (omega (arith, at, length-append before e.refused))
      (here ∙ sym (append_assoc before e.refused (ended_refused later ++ post)))
      ∙ append_assoc before e.refused (ended_refused later)

  pub all_refused : (ended : List Ended) (start : PartStart) (row : ℕ) (post : List Noted)
      (end : PartTold) → end.refused ≡ post → start.told ≡ 0
      → given.refused ≡ ended_refused ended ++ post
      → (told_in_all (told_in_turn given start (ends_of start.told row ended)) end).refused
      ≡ given.refused
  all_refused [] start row post end own at are = own ∙ sym are
  all_refused (e ∷ later) start row post end own at are =
      let end_here = end_of start.told row e in
      let here : given.refused ≡ e.refused ++ (ended_refused later ++ post) =
      are ∙ append_assoc e.refused (ended_refused later) post in
      let own_is : slice_range given.refused start.told end_here.told ≡ e.refused =
      slice_is [] e.refused (ended_refused later ++ post) here start.told end_here.told at refl in
      ap₂ (λ (x y : List Noted). x ++ y)
      (refused_after (told_to given start end_here) later (start_past end_here)
      (row + length e.part.rows) e.refused post own_is (omega (arith, at)) here) own
      ∙ sym are
