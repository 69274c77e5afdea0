-- One hand is laid down.
use Rattle.std.proofs.Common.{◌≡◌, ℕ, zero, suc, ◌<◌, List, [], ◌∷◌, set, get_or, length, refl, ap, ◌∙◌, arith, Some, slice_get}
use Rattle.std.proofs.lemmas.Option.{get_or_from_slice_get}
use Rattle.tuple_trace.specs.declared.tuple.Tuple.{Tuple}
use Rattle.tuple_trace.specs.declared.tuple.Item.TheVariants.{Carry}
use Rattle.marker_align.specs.declared.held.Hand.TheVariants.{Empty, Holds}
use Rattle.flow_worker.specs.Endpoints.{LaneInIs}
use Rattle.flow_worker.specs.Steps.{HasTuple, laid_down}

pub set_laid : (ins : List LaneInIs) (k : ℕ) (d z : LaneInIs) → k < length ins → z ≡ record (get_or ins k d) { hand = Empty } → set ins k z ≡ laid_down k ins
set_laid [] k d z l e = absurd (omega arith)
set_laid (a ∷ more) zero d z l e = ap (λ x. x ∷ more) e
set_laid (a ∷ more) (suc k) d z l e = ap (λ xs. a ∷ xs) (set_laid more k d z (omega arith) e)

pub hand_at : (ins : List LaneInIs) (k : ℕ) (d : LaneInIs) (h : HasTuple ins k) → (get_or ins k d).hand ≡ Holds (Carry h.1)
hand_at ins k d h = ap (λ (a : LaneInIs). a.hand) (get_or_from_slice_get ins k h.0 d h.2) ∙ h.3

pub same_at : (ins : List LaneInIs) (k : ℕ) (d a : LaneInIs) → slice_get ins k ≡ Some a → get_or ins k d ≡ a
same_at ins k d a g = get_or_from_slice_get ins k a d g

pub same_tuple : (a : LaneInIs) (t u : Tuple) → a.hand ≡ Holds (Carry t) → a.hand ≡ Holds (Carry u) → t ≡ u
same_tuple a t u p q = cc

pub length_laid : (k : ℕ) (ins : List LaneInIs) → length (laid_down k ins) ≡ length ins
length_laid k [] = refl
length_laid zero (a ∷ more) = refl
length_laid (suc k) (a ∷ more) = ap suc (length_laid k more)
