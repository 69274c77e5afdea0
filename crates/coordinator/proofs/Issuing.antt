-- The issue of a request, over all boxes.
use Rattle.std.proofs.Common.{◌≡◌, ◌∙◌, ◌+◌, ◌-◌, ◌<◌, ◌≤◌, ◌^◌, ℕ, zero, suc, List, [], ◌∷◌, ◌++◌, Bool, true, false, refl, sym, subst, ap, cond, arith, length, Some, slice_get}
use Rattle.std.specs.Prelude.{replicate}
use Rattle.std.proofs.lemmas.Option.{slice_get_within}
use Rattle.control_box.specs.Endpoints.{HasShownReady, PosterIs}
use Rattle.sink_journal.specs.declared.journal.Feed.{Feed}
use Rattle.sink_journal.specs.declared.journal.Feed.TheVariants.{Issued}
use Rattle.tuple_trace.specs.declared.row.Row.{Row}
use Rattle.flow_model.specs.Begin.{Begin}
use Rattle.flow_model.specs.Covers.{covers, is_head}
use Rattle.flow_model.specs.SetupView.{SetupView}
use Rattle.flow_model.specs.Workers.{workers_in}
use Rattle.coordinator.specs.Boxes.{AreBoxes, AreCountedWith, ArePosted, AreReady, AsIssued, IsUnready, LastAtLeast, SameBoxes, SameLoads, SamePosts, SomeBelow}
use Rattle.coordinator.specs.Feeding.{IsFeeding}
use Rattle.coordinator.specs.Numbers.{node_at, covering_count, posted_number}
use Rattle.coordinator.specs.Steps.{Issues}
use Rattle.coordinator.specs.Views.{BoxesIs, FeederIs}
use Rattle.coordinator.specs.declared.feeding.FeedTurn.TheVariants.{Idle, Moved}
use Rattle.coordinator.proofs.Asking.{none_posted, number_covered, number_uncovered, number_within, posted_within, shown_ready}
use Rattle.coordinator.proofs.ListLemmas.{also_in, also_there}

pub few_covered : (setup : SetupView) (turned issued : ℕ) (b : BoxesIs) → AreBoxes setup turned issued b → issued < 2 ^ 64 - 1 → (w n : ℕ) → slice_get b.covered w ≡ Some n → n < 2 ^ 64 - 1
few_covered setup turned issued b law lt w n g = let e = law.counted w n g in let h = number_within setup turned w issued in omega (arith, e, h, lt)

-- the boxes were asked
pub asked_boxes_are : (setup : SetupView) (turned issued : ℕ) (old mid : BoxesIs) → AreBoxes setup turned issued old → mid.covered ≡ old.covered → SameBoxes old.posters mid.posters → SamePosts old.posters mid.posters
    → mid.ready ≤ length mid.posters → AreReady old.covered mid.ready mid.posters → AreBoxes setup turned issued mid
asked_boxes_are setup turned issued old mid law e b s le ready = record {
  one_each = b.0 ∙ law.one_each;
  one_number_each = ap (λ (l : List ℕ). length l) e ∙ (law.one_number_each ∙ sym b.0);
  counted = λ w n g. law.counted w n (ap (λ (l : List ℕ). slice_get l w) (sym e) ∙ g);
  posted = λ w p g.
      let r = also_there mid.posters old.posters w (sym b.0) (slice_get_within mid.posters w p g) in
      s w r.0 p r.1 g ∙ law.posted w r.0 r.1;
  ready_within = le;
  ready_are = subst (λ (c : List ℕ). AreReady c mid.ready mid.posters) (sym e) ready;
}

-- what a box has, with its number
number_there : (setup : SetupView) (turned issued : ℕ) (b : BoxesIs) → AreBoxes setup turned issued b → (w : ℕ) (p : PosterIs) → slice_get b.posters w ≡ Some p → slice_get b.covered w ≡ Some (covering_count setup turned w issued)
number_there setup turned issued b law w p g =
    let r = also_in b.posters b.covered w law.one_number_each (slice_get_within b.posters w p g) in
    r.1 ∙ ap Some (law.counted w r.0 r.1)

pub all_shown : (setup : SetupView) (turned issued : ℕ) (b : BoxesIs) → AreBoxes setup turned issued b → b.ready ≡ length b.posters → (w : ℕ) (p : PosterIs) → slice_get b.posters w ≡ Some p → LastAtLeast (covering_count setup turned w issued) p.loads
all_shown setup turned issued b law e w p g =
    law.ready_are w (covering_count setup turned w issued) p (let lt = slice_get_within b.posters w p g in omega (arith, lt, e)) (number_there setup turned issued b law w p g) g

-- the next number may be posted
pub may_post : (setup : SetupView) (turned issued : ℕ) (b : BoxesIs) → AreBoxes setup turned issued b → b.ready ≡ length b.posters
    → (w n : ℕ) (p : PosterIs) → slice_get b.covered w ≡ Some n → slice_get b.posters w ≡ Some p → HasShownReady (n + 1) p.loads × (p.posted ≤ n)
may_post setup turned issued b law e w n p c g =
    let is = law.counted w n c in
    (shown_ready n p.loads (subst (λ k. LastAtLeast k p.loads) (sym is) (all_shown setup turned issued b law e w p g)), (let same = law.posted w p g in let le = posted_within setup turned w issued in omega (arith, same, le, is)))

-- the boxes after the issue of the next request
module _ (setup : SetupView) (turned issued : ℕ) (mid new : BoxesIs) (law : AreBoxes setup turned issued mid) (le : turned ≤ issued)
    (counts : AreCountedWith setup (issued + 1) mid.covered new.covered) (boxes : SameBoxes mid.posters new.posters) (posts_are : ArePosted setup (issued + 1) new.covered mid.posters new.posters) where
  one : issued + 1 ≡ suc issued
  one = omega arith

  number_next : (w m n : ℕ) (b : Bool) → covers setup (issued + 1) (node_at setup w) ≡ b → m ≡ covering_count setup turned w issued → n ≡ cond b (m + 1) m → n ≡ covering_count setup turned w (issued + 1)
  number_next w m n true c is e =
      e ∙ (number_covered setup turned w issued m le (ap (λ k. covers setup k (node_at setup w)) (sym one) ∙ c) is ∙ ap (covering_count setup turned w) (sym one))
  number_next w m n false c is e =
      e ∙ (number_uncovered setup turned w issued m (ap (λ k. covers setup k (node_at setup w)) (sym one) ∙ c) is ∙ ap (covering_count setup turned w) (sym one))

  counted_next : (w n : ℕ) → slice_get new.covered w ≡ Some n → n ≡ covering_count setup turned w (issued + 1)
  counted_next w n g =
      let r = also_there new.covered mid.covered w (sym counts.0) (slice_get_within new.covered w n g) in
      number_next w r.0 n (covers setup (issued + 1) (node_at setup w)) refl (law.counted w r.0 r.1) (counts.1 w r.0 n r.1 g)

  -- the number of a box that is there
  new_number : (w : ℕ) (q : PosterIs) → slice_get new.posters w ≡ Some q → slice_get new.covered w ≡ Some (covering_count setup turned w (issued + 1))
  new_number w q g =
      let as_many : length new.covered ≡ length new.posters = counts.0 ∙ (law.one_number_each ∙ sym boxes.0) in
      let r = also_in new.posters new.covered w as_many (slice_get_within new.posters w q g) in
      r.1 ∙ ap Some (counted_next w r.0 r.1)

  posted_next : (w : ℕ) (p q : PosterIs) → slice_get mid.posters w ≡ Some p → q.posted ≡ cond (is_head setup (issued + 1) (node_at setup w)) (covering_count setup turned w (issued + 1)) p.posted
      → q.posted ≡ posted_number setup turned w (issued + 1)
  posted_next w p q g e =
      e ∙ (ap (cond (is_head setup (issued + 1) (node_at setup w)) (covering_count setup turned w (issued + 1))) (law.posted w p g)
      ∙ (ap (λ k. cond (is_head setup k (node_at setup w)) (covering_count setup turned w k) (posted_number setup turned w issued)) one
      ∙ ap (posted_number setup turned w) (sym one)))

  pub next_boxes : new.ready ≡ 0 → AreBoxes setup turned (issued + 1) new
  next_boxes none = record {
    one_each = boxes.0 ∙ law.one_each;
    one_number_each = counts.0 ∙ (law.one_number_each ∙ sym boxes.0);
    counted = counted_next;
    posted = λ w q g.
        let r = also_there new.posters mid.posters w (sym boxes.0) (slice_get_within new.posters w q g) in
        posted_next w r.0 q r.1 (posts_are w (covering_count setup turned w (issued + 1)) r.0 q (new_number w q g) r.1 g);
    ready_within = omega (arith, none);
    ready_are = λ w n p lt c g. absurd (omega (arith, lt, none));
  }

  pub as_issued : (old : List PosterIs) → SameBoxes old mid.posters → SamePosts old mid.posters → SameLoads mid.posters new.posters → mid.ready ≡ length mid.posters
      → AsIssued setup turned (issued + 1) old new.posters × SameBoxes old new.posters
  as_issued old b s l e = (
    (λ w p q a c.
        let r = also_there old mid.posters w b.0 (slice_get_within old w p a) in
        let m : PosterIs = r.0 in
        let back : issued + 1 - 1 ≡ issued = omega arith in
        let last : LastAtLeast (covering_count setup turned w issued) q.loads = subst (LastAtLeast (covering_count setup turned w issued)) (sym (l w m q r.1 c)) (all_shown setup turned issued mid law e w m r.1) in (
          subst (λ k. LastAtLeast (covering_count setup turned w k) q.loads) (sym back) last,
          posts_are w (covering_count setup turned w (issued + 1)) m q (new_number w q c) r.1 c ∙ ap (cond (is_head setup (issued + 1) (node_at setup w)) (covering_count setup turned w (issued + 1))) (s w p m a r.1),
        )),
    (boxes.0 ∙ b.0, λ w p q a c. let r = also_there old mid.posters w b.0 (slice_get_within old w p a) in boxes.1 w r.0 q r.1 c ∙ b.1 w p r.0 a r.1),
  )

pub issue_moved : (setup : SetupView) (v old : FeederIs) (mid new : BoxesIs) (fs : List Feed) → v ≡ old → AreBoxes setup v.begin_turned v.issued v.boxes → v.begin_turned ≤ v.issued
    → mid.covered ≡ v.boxes.covered → SameBoxes v.boxes.posters mid.posters → SamePosts v.boxes.posters mid.posters → mid.ready ≤ length mid.posters → AreReady v.boxes.covered mid.ready mid.posters → mid.ready ≡ length mid.posters
    → AreCountedWith setup (v.issued + 1) mid.covered new.covered → SameBoxes mid.posters new.posters → SameLoads mid.posters new.posters → ArePosted setup (v.issued + 1) new.covered mid.posters new.posters → new.ready ≡ 0
    → fs ≡ v.feeds ++ Issued (v.issued + 1) ∷ [] → Issues setup old (record v { feeds = fs; issued = v.issued + 1; boxes = new }) Moved
issue_moved setup v old mid new fs e law le c b s w r all counts b' l' t none f =
    let law' = asked_boxes_are setup v.begin_turned v.issued v.boxes mid law c b s w r in
    let i = as_issued setup v.begin_turned v.issued mid new law' le counts b' t v.boxes.posters b s l' all in
    subst (λ o. Issues setup o (record v { feeds = fs; issued = v.issued + 1; boxes = new }) Moved) e
    (i.0, i.1, next_boxes setup v.begin_turned v.issued mid new law' le counts b' t none, ap (λ x. record v { feeds = x; issued = v.issued + 1; boxes = new }) f)

pub issue_idle : (setup : SetupView) (v old : FeederIs) (mid : BoxesIs) (fs : List Feed) → v ≡ old → AreBoxes setup v.begin_turned v.issued v.boxes
    → mid.covered ≡ v.boxes.covered → SameBoxes v.boxes.posters mid.posters → SamePosts v.boxes.posters mid.posters → mid.ready ≤ length mid.posters → AreReady v.boxes.covered mid.ready mid.posters
    → IsUnready v.boxes.covered mid.ready v.boxes.posters mid.posters → fs ≡ v.feeds → Issues setup old (record v { feeds = fs; boxes = mid }) Idle
issue_idle setup v old mid fs e law c b s w r (n, p, q, d, g, h, below) f =
    let is = law.counted mid.ready n d in
    let some : SomeBelow setup v.begin_turned v.issued v.boxes.posters mid.posters = (mid.ready, p, q, g, h, (below.0, below.1, (let lt = below.2 in omega (arith, lt, is)))) in
    subst (λ o. Issues setup o (record v { feeds = fs; boxes = mid }) Idle) e (some, s, b, asked_boxes_are setup v.begin_turned v.issued v.boxes mid law c b s w r, ap (λ x. record v { feeds = x; boxes = mid }) f)

abbrev zeros : ℕ → List ℕ
zeros k = replicate k 0

length_zeros : (k : ℕ) → length (zeros k) ≡ k
length_zeros zero = refl
length_zeros (suc k) = ap suc (length_zeros k)

all_zero : (k w m : ℕ) → slice_get (zeros k) w ≡ Some m → m ≡ 0
all_zero zero w m g = absurd (cc)
all_zero (suc k) zero m g = let h : 0 ≡ m = cc in omega (arith, h)
all_zero (suc k) (suc w) m g = all_zero k w m g

-- the boxes before any request is issued
pub first_boxes : (setup : SetupView) (turned : ℕ) (b : BoxesIs) (ps : List PosterIs) → b ≡ record { posters = ps; covered = replicate (length ps) 0; ready = 0 } → length ps ≡ length (workers_in setup.job)
    → ((w : ℕ) (p : PosterIs) → slice_get ps w ≡ Some p → p.posted ≡ 0) → AreBoxes setup turned turned b
first_boxes setup turned b ps e n none = subst (AreBoxes setup turned turned) (sym e) (record {
  one_each = n;
  one_number_each = length_zeros (length ps);
  counted = λ w m g. (let z = all_zero (length ps) w m g in omega (arith, z));
  posted = λ w p g. none w p g ∙ sym (none_posted setup turned w turned (omega arith));
  ready_within = omega arith;
  ready_are = λ w m p lt c g. absurd (omega (arith, lt));
})

-- the boxes of a feeder that is seen so
pub boxes_of : (setup : SetupView) (begin : Begin) (xs : List ℕ) (rows : List Row) (v old : FeederIs) → v ≡ old → IsFeeding setup begin xs rows old → AreBoxes setup v.begin_turned v.issued v.boxes
boxes_of setup begin xs rows v old e law =
    let law' = subst (IsFeeding setup begin xs rows) (sym e) law in
    subst (λ t. AreBoxes setup t v.issued v.boxes) (sym law'.begun.turned_begun) law'.boxes

pub turned_first : (setup : SetupView) (begin : Begin) (xs : List ℕ) (rows : List Row) (v old : FeederIs) → v ≡ old → IsFeeding setup begin xs rows old → v.begin_turned ≤ v.issued
turned_first setup begin xs rows v old e law =
    let law' = subst (IsFeeding setup begin xs rows) (sym e) law in
    omega (arith, law'.begun.turned_begun, law'.course.counted)
