-- A list is steady where it is empty, or is a steady list followed by an item that may follow it.
use Rattle.std.proofs.Common.{◌≡◌, ◌<◌, ℕ, List, [], ◌∷◌, ◌++◌, length, get_or, subst, arith}
use Rattle.std.proofs.lemmas.List.{length-append, get_or_append_left}
use Rattle.std.proofs.lemmas.List.Elements.{All-nil, All-push}
use Rattle.std.proofs.lemmas.List.Quantifiers.{all_pairs_push}
use Rattle.std.proofs.Math.Seq.{get_or-append_seam}
use Rattle.tuple_trace.specs.declared.tuple.Item.{Item}
use Rattle.tuple_trace.specs.declared.tuple.Item.TheVariants.{Carry, Mark, Last}
use Rattle.lane_core.specs.declared.form.Origin.{Origin}
use Rattle.lane_core.specs.Steady.{Agrees, HasComeTo, IsSteady, MayFollow}

pub IsSteady-nil : (origin : Origin) → IsSteady origin []
IsSteady-nil origin = record { come = All-nil (HasComeTo origin); agree = λ i j d below within. absurd (omega (arith, within)) }

pub IsSteady-push : (origin : Origin) (items : List Item) (item : Item) → IsSteady origin items → MayFollow origin items item → IsSteady origin (items ++ item ∷ [])
IsSteady-push origin items item steady follows = record {
  come = All-push (HasComeTo origin) items item steady.come follows.0;
  agree = all_pairs_push Agrees items item steady.agree follows.1;
}

-- the beginning of a steady list
pub IsSteady-front : (origin : Origin) (items more : List Item) → IsSteady origin (items ++ more) → IsSteady origin items
IsSteady-front origin items more steady =
    let longer = length-append items more in
    let same : (k : ℕ) (d : Item) → k < length items → get_or (items ++ more) k d ≡ get_or items k d = λ k d within. get_or_append_left items more d k within in
    record {
      come = λ k d within. subst (HasComeTo origin) (same k d within) (steady.come k d (omega (arith, longer, within)));
      agree = λ i j d below within. subst (λ (pair : Item × Item). Agrees pair.0 pair.1) (λ s. (same i d (omega (arith, below, within)) s, same j d within s)) (steady.agree i j d below (omega (arith, longer, within)));
    }

-- an item of a steady list
pub MayFollow-in_steady : (origin : Origin) (before : List Item) (item : Item) (after : List Item) → IsSteady origin (before ++ item ∷ after) → MayFollow origin before item
MayFollow-in_steady origin before item after steady =
    let longer = length-append before (item ∷ after) in
    let here : (d : Item) → get_or (before ++ item ∷ after) (length before) d ≡ item = λ d. get_or-append_seam before item after d in (
      subst (HasComeTo origin) (here item) (steady.come (length before) item (omega (arith, longer))),
      λ k d within. subst (λ (pair : Item × Item). Agrees pair.0 pair.1) (λ s. (get_or_append_left before (item ∷ after) d k within s, here d s)) (steady.agree k (length before) d within (omega (arith, longer))),
    )

-- the end of a lane agrees with whatever stands before it
Agrees-last : (earlier : Item) → Agrees earlier Last
Agrees-last (Carry tuple) = tt
Agrees-last (Mark request cover) = tt
Agrees-last Last = tt

-- so it may follow every list
pub MayFollow-last : (origin : Origin) (before : List Item) → MayFollow origin before Last
MayFollow-last origin before = (tt, λ k d within. Agrees-last (get_or before k d))
