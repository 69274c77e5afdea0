-- What a turn's answer tells.
use Rattle.std.proofs.Common.{◌≡◌, ◌≢◌, ◌∙◌, ◌↔◌, ◌+◌, ◌<◌, ℕ, zero, suc, arith, min, List, [], ◌∷◌, ◌++◌, inl, inr, refl, sym, subst, ap, true, false, length, map, set, Some, slice_get}
use Rattle.std.proofs.lemmas.Option.{same_Some, slice_get_within}
use Rattle.control_box.specs.Endpoints.{PosterIs}
use Rattle.std.proofs.lemmas.List.{length-map}
use Rattle.sink_journal.specs.declared.journal.Feed.TheVariants.{Fed, Issued, Stopped}
use Rattle.tuple_trace.specs.declared.row.Row.{Row}
use Rattle.tuple_trace.specs.declared.tuple.Item.TheVariants.{Last}
use Rattle.flow_model.specs.Begin.{Begin}
use Rattle.flow_model.specs.SetupView.{SetupView}
use Rattle.flow_model.specs.Requests.{afters}
use Rattle.coordinator.specs.Boxes.{AsIssued, SameBoxes, SamePosts}
use Rattle.coordinator.specs.Views.{FeederIs}
use Rattle.lane_core.specs.Lane.{EndpointIs, end_of}
use Rattle.coordinator.specs.Due.{HasHeard, IsDue, NoneIsDue}
use Rattle.coordinator.specs.Feeding.{IsFeeder, IsFeeding}
use Rattle.coordinator.specs.Steps.{IsAhead, IsReached, Steps, fed_item}
use Rattle.coordinator.specs.Turning.{AtMostOneMore, Grew, IsFeederTurn, Waits}
use Rattle.coordinator.specs.declared.feeding.FeedTurn.{FeedTurn}
use Rattle.coordinator.specs.declared.feeding.FeedTurn.TheVariants.{Done, Idle, Moved, NoMemory}
use Rattle.coordinator.proofs.Keeping.{keeps}
use Rattle.coordinator.proofs.ListLemmas.{get_set_same}

-- ---- ends

map_kept : (xs : List EndpointIs) (k : ℕ) (o q : EndpointIs) → slice_get xs k ≡ Some o → end_of q ≡ end_of o → map end_of (set xs k q) ≡ map end_of xs
map_kept [] k o q h e = absurd (cc)
map_kept (x ∷ xs) zero o q h e = let p : x ≡ o = cc in ap (λ t. t ∷ map end_of xs) (e ∙ sym (ap end_of p))
map_kept (x ∷ xs) (suc k) o q h e = ap (λ l. end_of x ∷ l) (map_kept xs k o q h e)

pub ends_kept : (setup : SetupView) (xs : List ℕ) (rows : List Row) (old new : FeederIs) (turn : FeedTurn) → Steps setup xs rows old new turn → map end_of new.outs ≡ map end_of old.outs
ends_kept setup xs rows old new turn (inl h) = ap (λ f. map end_of f.outs) h.1
ends_kept setup xs rows old new Moved (inr (inl h)) = ap (λ f. map end_of f.outs) h.2.3
ends_kept setup xs rows old new Idle (inr (inl h)) = ap (λ f. map end_of f.outs) h.2.4
ends_kept setup xs rows old new Done (inr (inl h)) = absurd h.2
ends_kept setup xs rows old new NoMemory (inr (inl h)) = ap (λ f. map end_of f.outs) h.2
ends_kept setup xs rows old new Moved (inr (inr (inl h))) =
    let o : EndpointIs = h.3.2 in
    ap (λ f. map end_of f.outs) h.3.6 ∙ map_kept old.outs h.3.1 o (record o { items = o.items ++ fed_item old.issued h.3.0 ∷ [] }) h.3.5 refl
ends_kept setup xs rows old new Idle (inr (inr (inl h))) =
    let o : EndpointIs = h.3.2 in
    ap (λ f. map end_of f.outs) h.3.8 ∙ map_kept old.outs h.3.1 o (record o { stalls = h.3.3 }) h.3.6 refl
ends_kept setup xs rows old new Done (inr (inr (inl h))) = absurd h.3
ends_kept setup xs rows old new NoMemory (inr (inr (inl h))) = ap (λ f. map end_of f.outs) h.3
ends_kept setup xs rows old new Moved (inr (inr (inr h))) =
    let o : EndpointIs = h.3.0 in
    ap (λ f. map end_of f.outs) h.3.2 ∙ map_kept old.outs old.ended o (record o { items = o.items ++ Last ∷ [] }) h.3.1 refl
ends_kept setup xs rows old new Idle (inr (inr (inr h))) =
    let o : EndpointIs = h.3.0 in
    ap (λ f. map end_of f.outs) h.3.4 ∙ map_kept old.outs old.ended o (record o { stalls = h.3.1 }) h.3.2 refl
ends_kept setup xs rows old new Done (inr (inr (inr h))) = ap (λ f. map end_of f.outs) h.3.1
ends_kept setup xs rows old new NoMemory (inr (inr (inr h))) = ap (λ f. map end_of f.outs) h.3

-- ---- entries

pub entries_told : (setup : SetupView) (xs : List ℕ) (rows : List Row) (old new : FeederIs) (turn : FeedTurn) → Steps setup xs rows old new turn → AtMostOneMore old.feeds new.feeds
entries_told setup xs rows old new turn (inl h) = inl (ap (λ f. f.feeds) h.1)
entries_told setup xs rows old new Moved (inr (inl h)) = inr (Issued (old.issued + 1), ap (λ f. f.feeds) h.2.3)
entries_told setup xs rows old new Idle (inr (inl h)) = inl (ap (λ f. f.feeds) h.2.4)
entries_told setup xs rows old new Done (inr (inl h)) = absurd h.2
entries_told setup xs rows old new NoMemory (inr (inl h)) = inl (ap (λ f. f.feeds) h.2)
entries_told setup xs rows old new Moved (inr (inr (inl h))) = inr (Fed (old.row + 1), ap (λ f. f.feeds) h.3.6)
entries_told setup xs rows old new Idle (inr (inr (inl h))) = inl (ap (λ f. f.feeds) h.3.8)
entries_told setup xs rows old new Done (inr (inr (inl h))) = absurd h.3
entries_told setup xs rows old new NoMemory (inr (inr (inl h))) = inl (ap (λ f. f.feeds) h.3)
entries_told setup xs rows old new Moved (inr (inr (inr h))) = inl (ap (λ f. f.feeds) h.3.2)
entries_told setup xs rows old new Idle (inr (inr (inr h))) = inl (ap (λ f. f.feeds) h.3.4)
entries_told setup xs rows old new Done (inr (inr (inr h))) = inr (Stopped, ap (λ f. f.feeds) h.3.1)
entries_told setup xs rows old new NoMemory (inr (inr (inr h))) = inl (ap (λ f. f.feeds) h.3)

-- ---- issues

one_last : {A : Type 0} (xs : List A) (x y : A) → xs ++ x ∷ [] ≡ xs ++ y ∷ [] → x ≡ y
one_last [] x y e = cc
one_last (z ∷ xs) x y e = one_last xs x y (cc)

no_more : {A : Type 0} (xs : List A) (x : A) → xs ≡ xs ++ x ∷ [] → ⊥
no_more [] x e = absurd (cc)
no_more (z ∷ xs) x e = no_more xs x (cc)

pub issued_told : (setup : SetupView) (xs : List ℕ) (rows : List Row) (old new : FeederIs) (turn : FeedTurn) → Steps setup xs rows old new turn → (r : ℕ) → new.feeds ≡ old.feeds ++ Issued r ∷ []
    → IsReached xs (length rows) old.row old.issued × AsIssued setup old.begin_turned r old.boxes.posters new.boxes.posters
issued_told setup xs rows old new turn (inl h) r e = absurd (no_more old.feeds (Issued r) (sym (ap (λ f. f.feeds) h.1) ∙ e))
issued_told setup xs rows old new Moved (inr (inl h)) r e =
    let s = one_last old.feeds (Issued (old.issued + 1)) (Issued r) (sym (ap (λ f. f.feeds) h.2.3) ∙ e) in
    let n : old.issued + 1 ≡ r = cc in
    (h.1, subst (λ r. AsIssued setup old.begin_turned r old.boxes.posters new.boxes.posters) n h.2.0)
issued_told setup xs rows old new Idle (inr (inl h)) r e = absurd (no_more old.feeds (Issued r) (sym (ap (λ f. f.feeds) h.2.4) ∙ e))
issued_told setup xs rows old new Done (inr (inl h)) r e = absurd h.2
issued_told setup xs rows old new NoMemory (inr (inl h)) r e = absurd (no_more old.feeds (Issued r) (sym (ap (λ f. f.feeds) h.2) ∙ e))
issued_told setup xs rows old new Moved (inr (inr (inl h))) r e = let s = one_last old.feeds (Fed (old.row + 1)) (Issued r) (sym (ap (λ f. f.feeds) h.3.6) ∙ e) in absurd (cc)
issued_told setup xs rows old new Idle (inr (inr (inl h))) r e = absurd (no_more old.feeds (Issued r) (sym (ap (λ f. f.feeds) h.3.8) ∙ e))
issued_told setup xs rows old new Done (inr (inr (inl h))) r e = absurd h.3
issued_told setup xs rows old new NoMemory (inr (inr (inl h))) r e = absurd (no_more old.feeds (Issued r) (sym (ap (λ f. f.feeds) h.3) ∙ e))
issued_told setup xs rows old new Moved (inr (inr (inr h))) r e = absurd (no_more old.feeds (Issued r) (sym (ap (λ f. f.feeds) h.3.2) ∙ e))
issued_told setup xs rows old new Idle (inr (inr (inr h))) r e = absurd (no_more old.feeds (Issued r) (sym (ap (λ f. f.feeds) h.3.4) ∙ e))
issued_told setup xs rows old new Done (inr (inr (inr h))) r e = let s = one_last old.feeds Stopped (Issued r) (sym (ap (λ f. f.feeds) h.3.1) ∙ e) in absurd (cc)
issued_told setup xs rows old new NoMemory (inr (inr (inr h))) r e = absurd (no_more old.feeds (Issued r) (sym (ap (λ f. f.feeds) h.3) ∙ e))

-- ---- causes

pub moved_grew : (setup : SetupView) (xs : List ℕ) (rows : List Row) (old new : FeederIs) → Steps setup xs rows old new Moved → Grew old new
moved_grew setup xs rows old new (inl h) = let e = h.2 in absurd (cc)
moved_grew setup xs rows old new (inr (inl h)) = inl (Issued (old.issued + 1), ap (λ f. f.feeds) h.2.3)
moved_grew setup xs rows old new (inr (inr (inl h))) = inl (Fed (old.row + 1), ap (λ f. f.feeds) h.3.6)
moved_grew setup xs rows old new (inr (inr (inr h))) =
    let o : EndpointIs = h.3.0 in
    inr (old.ended, o, record o { items = o.items ++ Last ∷ [] }, Last, h.3.1, ap (λ f. slice_get f.outs old.ended) h.3.2 ∙ get_set_same old.outs old.ended o (record o { items = o.items ++ Last ∷ [] }) h.3.1, refl)

-- ---- boxes

same_boxes : (ps : List PosterIs) → SameBoxes ps ps
same_boxes ps = (refl, λ w p q a b. ap (λ (z : PosterIs). z.within) (same_Some q p (sym b ∙ a)))

same_posts : (ps : List PosterIs) → SamePosts ps ps
same_posts ps = λ w p q a b. ap (λ (z : PosterIs). z.posted) (same_Some q p (sym b ∙ a))

boxes_as : (old new : FeederIs) → new.boxes.posters ≡ old.boxes.posters → SameBoxes old.boxes.posters new.boxes.posters
boxes_as old new e = subst (SameBoxes old.boxes.posters) (sym e) (same_boxes old.boxes.posters)

posts_as : (old new : FeederIs) → new.boxes.posters ≡ old.boxes.posters → SamePosts old.boxes.posters new.boxes.posters
posts_as old new e = subst (SamePosts old.boxes.posters) (sym e) (same_posts old.boxes.posters)

pub boxes_kept : (setup : SetupView) (xs : List ℕ) (rows : List Row) (old new : FeederIs) (turn : FeedTurn) → Steps setup xs rows old new turn → SameBoxes old.boxes.posters new.boxes.posters
boxes_kept setup xs rows old new turn (inl h) = boxes_as old new (ap (λ f. f.boxes.posters) h.1)
boxes_kept setup xs rows old new Moved (inr (inl h)) = h.2.1
boxes_kept setup xs rows old new Idle (inr (inl h)) = h.2.2
boxes_kept setup xs rows old new Done (inr (inl h)) = absurd h.2
boxes_kept setup xs rows old new NoMemory (inr (inl h)) = boxes_as old new (ap (λ f. f.boxes.posters) h.2)
boxes_kept setup xs rows old new Moved (inr (inr (inl h))) = boxes_as old new (ap (λ f. f.boxes.posters) h.3.6)
boxes_kept setup xs rows old new Idle (inr (inr (inl h))) = boxes_as old new (ap (λ f. f.boxes.posters) h.3.8)
boxes_kept setup xs rows old new Done (inr (inr (inl h))) = absurd h.3
boxes_kept setup xs rows old new NoMemory (inr (inr (inl h))) = boxes_as old new (ap (λ f. f.boxes.posters) h.3)
boxes_kept setup xs rows old new Moved (inr (inr (inr h))) = boxes_as old new (ap (λ f. f.boxes.posters) h.3.2)
boxes_kept setup xs rows old new Idle (inr (inr (inr h))) = boxes_as old new (ap (λ f. f.boxes.posters) h.3.4)
boxes_kept setup xs rows old new Done (inr (inr (inr h))) = boxes_as old new (ap (λ f. f.boxes.posters) h.3.1)
boxes_kept setup xs rows old new NoMemory (inr (inr (inr h))) = boxes_as old new (ap (λ f. f.boxes.posters) h.3)

pub posts_kept : (setup : SetupView) (xs : List ℕ) (rows : List Row) (old new : FeederIs) (turn : FeedTurn) → Steps setup xs rows old new turn → ((r : ℕ) → new.feeds ≢ old.feeds ++ Issued r ∷ []) → SamePosts old.boxes.posters new.boxes.posters
posts_kept setup xs rows old new turn (inl h) n = posts_as old new (ap (λ f. f.boxes.posters) h.1)
posts_kept setup xs rows old new Moved (inr (inl h)) n = absurd (n (old.issued + 1) (ap (λ f. f.feeds) h.2.3))
posts_kept setup xs rows old new Idle (inr (inl h)) n = h.2.1
posts_kept setup xs rows old new Done (inr (inl h)) n = absurd h.2
posts_kept setup xs rows old new NoMemory (inr (inl h)) n = posts_as old new (ap (λ f. f.boxes.posters) h.2)
posts_kept setup xs rows old new Moved (inr (inr (inl h))) n = posts_as old new (ap (λ f. f.boxes.posters) h.3.6)
posts_kept setup xs rows old new Idle (inr (inr (inl h))) n = posts_as old new (ap (λ f. f.boxes.posters) h.3.8)
posts_kept setup xs rows old new Done (inr (inr (inl h))) n = absurd h.3
posts_kept setup xs rows old new NoMemory (inr (inr (inl h))) n = posts_as old new (ap (λ f. f.boxes.posters) h.3)
posts_kept setup xs rows old new Moved (inr (inr (inr h))) n = posts_as old new (ap (λ f. f.boxes.posters) h.3.2)
posts_kept setup xs rows old new Idle (inr (inr (inr h))) n = posts_as old new (ap (λ f. f.boxes.posters) h.3.4)
posts_kept setup xs rows old new Done (inr (inr (inr h))) n = posts_as old new (ap (λ f. f.boxes.posters) h.3.1)
posts_kept setup xs rows old new NoMemory (inr (inr (inr h))) n = posts_as old new (ap (λ f. f.boxes.posters) h.3)

-- ---- the beginning

pub begun_kept : (setup : SetupView) (xs : List ℕ) (rows : List Row) (old new : FeederIs) (turn : FeedTurn) → Steps setup xs rows old new turn → (new.begin_row ≡ old.begin_row) × (new.begin_turned ≡ old.begin_turned)
begun_kept setup xs rows old new turn (inl h) = (ap (λ f. f.begin_row) h.1, ap (λ f. f.begin_turned) h.1)
begun_kept setup xs rows old new Moved (inr (inl h)) = (ap (λ f. f.begin_row) h.2.3, ap (λ f. f.begin_turned) h.2.3)
begun_kept setup xs rows old new Idle (inr (inl h)) = (ap (λ f. f.begin_row) h.2.4, ap (λ f. f.begin_turned) h.2.4)
begun_kept setup xs rows old new Done (inr (inl h)) = absurd h.2
begun_kept setup xs rows old new NoMemory (inr (inl h)) = (ap (λ f. f.begin_row) h.2, ap (λ f. f.begin_turned) h.2)
begun_kept setup xs rows old new Moved (inr (inr (inl h))) = (ap (λ f. f.begin_row) h.3.6, ap (λ f. f.begin_turned) h.3.6)
begun_kept setup xs rows old new Idle (inr (inr (inl h))) = (ap (λ f. f.begin_row) h.3.8, ap (λ f. f.begin_turned) h.3.8)
begun_kept setup xs rows old new Done (inr (inr (inl h))) = absurd h.3
begun_kept setup xs rows old new NoMemory (inr (inr (inl h))) = (ap (λ f. f.begin_row) h.3, ap (λ f. f.begin_turned) h.3)
begun_kept setup xs rows old new Moved (inr (inr (inr h))) = (ap (λ f. f.begin_row) h.3.2, ap (λ f. f.begin_turned) h.3.2)
begun_kept setup xs rows old new Idle (inr (inr (inr h))) = (ap (λ f. f.begin_row) h.3.4, ap (λ f. f.begin_turned) h.3.4)
begun_kept setup xs rows old new Done (inr (inr (inr h))) = (ap (λ f. f.begin_row) h.3.1, ap (λ f. f.begin_turned) h.3.1)
begun_kept setup xs rows old new NoMemory (inr (inr (inr h))) = (ap (λ f. f.begin_row) h.3, ap (λ f. f.begin_turned) h.3)

-- ---- the end

still : (old new : FeederIs) (turn : FeedTurn) → old.stopped ≡ false → new.stopped ≡ old.stopped → (turn ≡ Done → ⊥) → (turn ≡ Done) ↔ (new.stopped ≡ true)
still old new turn s e n = ((λ d. absurd (n d)), (λ t. absurd (cc)))

not_moved : Moved ≡ Done → ⊥
not_moved e = absurd (cc)

not_idle : Idle ≡ Done → ⊥
not_idle e = absurd (cc)

not_memory : NoMemory ≡ Done → ⊥
not_memory e = absurd (cc)

pub done_stopped : (setup : SetupView) (xs : List ℕ) (rows : List Row) (old new : FeederIs) (turn : FeedTurn) → Steps setup xs rows old new turn → (turn ≡ Done) ↔ (new.stopped ≡ true)
done_stopped setup xs rows old new turn (inl h) = ((λ d. ap (λ f. f.stopped) h.1 ∙ h.0), (λ t. h.2))
done_stopped setup xs rows old new Moved (inr (inl h)) = still old new Moved h.0 (ap (λ f. f.stopped) h.2.3) not_moved
done_stopped setup xs rows old new Idle (inr (inl h)) = still old new Idle h.0 (ap (λ f. f.stopped) h.2.4) not_idle
done_stopped setup xs rows old new Done (inr (inl h)) = absurd h.2
done_stopped setup xs rows old new NoMemory (inr (inl h)) = still old new NoMemory h.0 (ap (λ f. f.stopped) h.2) not_memory
done_stopped setup xs rows old new Moved (inr (inr (inl h))) = still old new Moved h.0 (ap (λ f. f.stopped) h.3.6) not_moved
done_stopped setup xs rows old new Idle (inr (inr (inl h))) = still old new Idle h.0 (ap (λ f. f.stopped) h.3.8) not_idle
done_stopped setup xs rows old new Done (inr (inr (inl h))) = absurd h.3
done_stopped setup xs rows old new NoMemory (inr (inr (inl h))) = still old new NoMemory h.0 (ap (λ f. f.stopped) h.3) not_memory
done_stopped setup xs rows old new Moved (inr (inr (inr h))) = still old new Moved h.0 (ap (λ f. f.stopped) h.3.2) not_moved
done_stopped setup xs rows old new Idle (inr (inr (inr h))) = still old new Idle h.0 (ap (λ f. f.stopped) h.3.4) not_idle
done_stopped setup xs rows old new Done (inr (inr (inr h))) = ((λ d. ap (λ f. f.stopped) h.3.1), (λ t. refl))
done_stopped setup xs rows old new NoMemory (inr (inr (inr h))) = still old new NoMemory h.0 (ap (λ f. f.stopped) h.3) not_memory

pub starved : (setup : SetupView) (xs : List ℕ) (rows : List Row) (old new : FeederIs) → Steps setup xs rows old new NoMemory → new ≡ old
starved setup xs rows old new (inl h) = h.1
starved setup xs rows old new (inr (inl h)) = h.2
starved setup xs rows old new (inr (inr (inl h))) = h.3
starved setup xs rows old new (inr (inr (inr h))) = h.3

-- ---- loads

pub loads_kept : (setup : SetupView) (xs : List ℕ) (rows : List Row) (old new : FeederIs) (turn : FeedTurn) → Steps setup xs rows old new turn → new.loads ≡ old.loads
loads_kept setup xs rows old new turn (inl h) = ap (λ f. f.loads) h.1
loads_kept setup xs rows old new Moved (inr (inl h)) = ap (λ f. f.loads) h.2.3
loads_kept setup xs rows old new Idle (inr (inl h)) = ap (λ f. f.loads) h.2.4
loads_kept setup xs rows old new Done (inr (inl h)) = absurd h.2
loads_kept setup xs rows old new NoMemory (inr (inl h)) = ap (λ f. f.loads) h.2
loads_kept setup xs rows old new Moved (inr (inr (inl h))) = ap (λ f. f.loads) h.3.6
loads_kept setup xs rows old new Idle (inr (inr (inl h))) = ap (λ f. f.loads) h.3.8
loads_kept setup xs rows old new Done (inr (inr (inl h))) = absurd h.3
loads_kept setup xs rows old new NoMemory (inr (inr (inl h))) = ap (λ f. f.loads) h.3
loads_kept setup xs rows old new Moved (inr (inr (inr h))) = ap (λ f. f.loads) h.3.2
loads_kept setup xs rows old new Idle (inr (inr (inr h))) = ap (λ f. f.loads) h.3.4
loads_kept setup xs rows old new Done (inr (inr (inr h))) = ap (λ f. f.loads) h.3.1
loads_kept setup xs rows old new NoMemory (inr (inr (inr h))) = ap (λ f. f.loads) h.3

-- ---- rows and ends wait for requests that are due

pub fed_told : (setup : SetupView) (xs : List ℕ) (rows : List Row) (old new : FeederIs) (turn : FeedTurn) → Steps setup xs rows old new turn → (r : ℕ) → new.feeds ≡ old.feeds ++ Fed r ∷ [] → IsAhead xs (length rows) old.row old.issued
fed_told setup xs rows old new turn (inl h) r e = absurd (no_more old.feeds (Fed r) (sym (ap (λ f. f.feeds) h.1) ∙ e))
fed_told setup xs rows old new Moved (inr (inl h)) r e = let s = one_last old.feeds (Issued (old.issued + 1)) (Fed r) (sym (ap (λ f. f.feeds) h.2.3) ∙ e) in absurd (cc)
fed_told setup xs rows old new Idle (inr (inl h)) r e = absurd (no_more old.feeds (Fed r) (sym (ap (λ f. f.feeds) h.2.4) ∙ e))
fed_told setup xs rows old new Done (inr (inl h)) r e = absurd h.2
fed_told setup xs rows old new NoMemory (inr (inl h)) r e = absurd (no_more old.feeds (Fed r) (sym (ap (λ f. f.feeds) h.2) ∙ e))
fed_told setup xs rows old new Moved (inr (inr (inl h))) r e = h.1
fed_told setup xs rows old new Idle (inr (inr (inl h))) r e = absurd (no_more old.feeds (Fed r) (sym (ap (λ f. f.feeds) h.3.8) ∙ e))
fed_told setup xs rows old new Done (inr (inr (inl h))) r e = absurd h.3
fed_told setup xs rows old new NoMemory (inr (inr (inl h))) r e = absurd (no_more old.feeds (Fed r) (sym (ap (λ f. f.feeds) h.3) ∙ e))
fed_told setup xs rows old new Moved (inr (inr (inr h))) r e = absurd (no_more old.feeds (Fed r) (sym (ap (λ f. f.feeds) h.3.2) ∙ e))
fed_told setup xs rows old new Idle (inr (inr (inr h))) r e = absurd (no_more old.feeds (Fed r) (sym (ap (λ f. f.feeds) h.3.4) ∙ e))
fed_told setup xs rows old new Done (inr (inr (inr h))) r e = let s = one_last old.feeds Stopped (Fed r) (sym (ap (λ f. f.feeds) h.3.1) ∙ e) in absurd (cc)
fed_told setup xs rows old new NoMemory (inr (inr (inr h))) r e = absurd (no_more old.feeds (Fed r) (sym (ap (λ f. f.feeds) h.3) ∙ e))

not_more : {m n : ℕ} → n ≡ m → m < n → ⊥
not_more e lt = absurd (omega (arith, e, lt))

pub ended_told : (setup : SetupView) (xs : List ℕ) (rows : List Row) (old new : FeederIs) (turn : FeedTurn) → Steps setup xs rows old new turn → old.ended < new.ended → IsAhead xs (length rows) old.row old.issued
ended_told setup xs rows old new turn (inl h) lt = absurd (not_more (ap (λ f. f.ended) h.1) lt)
ended_told setup xs rows old new Moved (inr (inl h)) lt = absurd (not_more (ap (λ f. f.ended) h.2.3) lt)
ended_told setup xs rows old new Idle (inr (inl h)) lt = absurd (not_more (ap (λ f. f.ended) h.2.4) lt)
ended_told setup xs rows old new Done (inr (inl h)) lt = absurd h.2
ended_told setup xs rows old new NoMemory (inr (inl h)) lt = absurd (not_more (ap (λ f. f.ended) h.2) lt)
ended_told setup xs rows old new Moved (inr (inr (inl h))) lt = absurd (not_more (ap (λ f. f.ended) h.3.6) lt)
ended_told setup xs rows old new Idle (inr (inr (inl h))) lt = absurd (not_more (ap (λ f. f.ended) h.3.8) lt)
ended_told setup xs rows old new Done (inr (inr (inl h))) lt = absurd h.3
ended_told setup xs rows old new NoMemory (inr (inr (inl h))) lt = absurd (not_more (ap (λ f. f.ended) h.3) lt)
ended_told setup xs rows old new Moved (inr (inr (inr h))) lt = h.1
ended_told setup xs rows old new Idle (inr (inr (inr h))) lt = absurd (not_more (ap (λ f. f.ended) h.3.4) lt)
ended_told setup xs rows old new Done (inr (inr (inr h))) lt = absurd (not_more (ap (λ f. f.ended) h.3.1) lt)
ended_told setup xs rows old new NoMemory (inr (inr (inr h))) lt = absurd (not_more (ap (λ f. f.ended) h.3) lt)

-- ---- the law and what is due, at a feeder that isn't live

pub is_feeder : (setup : SetupView) (begin : Begin) (rows : List Row) (f : FeederIs) → IsFeeding setup begin (afters setup.requests) rows f → IsFeeder false setup begin rows f
is_feeder setup begin rows f law = record {
  feeding = law;
  issued_exist =
      let e : length (afters setup.requests) ≡ length setup.requests = length-map setup.requests _ in
      omega (arith, law.course.issued_within, e);
  not_before = λ k a b g h. (let e = same_Some a b (sym g ∙ h) in omega (arith, e));
  released = λ e. absurd (cc);
}

due_now : (setup : SetupView) (rows : List Row) (loads : List ℕ) (f : FeederIs) → IsReached (afters setup.requests) (length rows) f.row f.issued → IsDue false setup rows loads f
due_now setup rows loads f h = (h.0, h.1, inl (tt, h.2))

below_both : (row a n : ℕ) → row < min a n → row < n
below_both row a n lt = omega (arith, lt)

none_due : (setup : SetupView) (rows : List Row) (loads : List ℕ) (f : FeederIs) → IsAhead (afters setup.requests) (length rows) f.row f.issued → NoneIsDue false setup rows loads f
none_due setup rows loads f h = λ a g. (below_both f.row a (length rows) (h a g), λ _. h a g)

none_heard : (setup : SetupView) (rows : List Row) (old new : FeederIs) → IsAhead (afters setup.requests) (length rows) old.row old.issued → HasHeard setup rows old new
none_heard setup rows old new h = λ a g le. absurd (let lt = h a g in omega (arith, lt, le))

-- ---- what waits

pub idle_waits : (setup : SetupView) (rows : List Row) (old new : FeederIs) → Steps setup (afters setup.requests) rows old new Idle → (new.feeds ≡ old.feeds) × Waits false setup rows old new
idle_waits setup rows old new (inl h) = let e = h.2 in absurd (cc)
idle_waits setup rows old new (inr (inl h)) = (ap (λ f. f.feeds) h.2.4, inl (due_now setup rows new.loads old h.1, h.2.0))
idle_waits setup rows old new (inr (inr (inl h))) =
    let o : EndpointIs = h.3.2 in (
      ap (λ f. f.feeds) h.3.8,
      inr (inl (
        h.3.0,
        h.3.1,
        h.3.4,
        none_due setup rows new.loads old h.1,
        none_heard setup rows old new h.1,
        h.3.5,
        (o, record o { stalls = h.3.3 }, h.3.6, ap (λ f. slice_get f.outs h.3.1) h.3.8 ∙ get_set_same old.outs h.3.1 o (record o { stalls = h.3.3 }) h.3.6, h.3.7),
      )),
    )
idle_waits setup rows old new (inr (inr (inr h))) =
    let o : EndpointIs = h.3.0 in (
      ap (λ f. f.feeds) h.3.4,
      inr (inr (
        none_due setup rows new.loads old h.1,
        h.2,
        slice_get_within old.outs old.ended o h.3.2,
        (o, record o { stalls = h.3.1 }, h.3.2, ap (λ f. slice_get f.outs old.ended) h.3.4 ∙ get_set_same old.outs old.ended o (record o { stalls = h.3.1 }) h.3.2, h.3.3),
      )),
    )

-- ---- all of a turn

as_before : (old new : FeederIs) → new ≡ old → new ≡ record old { loads = new.loads }
as_before old new e = subst (λ (z : FeederIs). z ≡ record old { loads = z.loads }) (sym e) refl

pub is_turn : (setup : SetupView) (rows : List Row) (old new : FeederIs) (turn : FeedTurn) → Steps setup (afters setup.requests) rows old new turn → IsFeederTurn false setup rows turn old new
is_turn setup rows old new turn s =
    let xs : List ℕ = afters setup.requests in
    record {
      law = λ begin held. is_feeder setup begin rows new (keeps setup begin xs rows old new turn s held.feeding);
      endpoints = ends_kept setup xs rows old new turn s;
      boxes = boxes_kept setup xs rows old new turn s;
      begun = begun_kept setup xs rows old new turn s;
      loads = inl (loads_kept setup xs rows old new turn s);
      one_entry = entries_told setup xs rows old new turn s;
      issued = λ r e. let t = issued_told setup xs rows old new turn s r e in (due_now setup rows new.loads old t.0, t.1);
      unissued = posts_kept setup xs rows old new turn s;
      fed = λ r e. let t = fed_told setup xs rows old new turn s r e in (none_due setup rows new.loads old t, none_heard setup rows old new t);
      ended = λ lt. none_due setup rows new.loads old (ended_told setup xs rows old new turn s lt);
      moved = λ e. moved_grew setup xs rows old new (subst (Steps setup xs rows old new) e s);
      idle = λ e. idle_waits setup rows old new (subst (Steps setup xs rows old new) e s);
      done = done_stopped setup xs rows old new turn s;
      no_memory = λ e. as_before old new (starved setup xs rows old new (subst (Steps setup xs rows old new) e s));
    }
