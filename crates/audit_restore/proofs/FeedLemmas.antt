-- What the feeder puts on its lanes.
use Rattle.std.proofs.Common.{◌≡◌, ◌≢◌, ◌∙◌, ◌<◌, ◌≤◌, ◌+◌, ◌^◌, ◌==◌, ◌++◌, ℕ, zero, suc, List, [], ◌∷◌, inl, inr, refl, sym, ap, subst, arith, true, false, Bool, cond, drop, get_or, length, replicate, append_assoc, Option, Some, None, slice_get}
use Rattle.std.specs.Prelude.{slice_set}
use Rattle.std.proofs.lemmas.Bool.{cases_lt, eq-eqb, eqb-true}
use Rattle.std.proofs.lemmas.List.{append-nil, drop_all, drop_more, length-set}
use Rattle.std.proofs.lemmas.List.Elements.{filter_map-append}
use Rattle.std.proofs.lemmas.Option.{same_Some, slice_get_within}
use Rattle.jobs.specs.JobView.{JobView}
use Rattle.sink_journal.specs.declared.journal.Feed.{Feed}
use Rattle.sink_journal.specs.declared.journal.Feed.TheVariants as feed
use Rattle.tuple_trace.specs.declared.row.Row.{Row}
use Rattle.tuple_trace.specs.declared.tuple.Item.{Item}
use Rattle.tuple_trace.specs.declared.tuple.Item.TheVariants as item
use Rattle.flow_model.specs.declared.topology.Lane.{Lane}
use Rattle.flow_model.specs.Feeding.{fed_put, fed_puts, row_numbered}
use Rattle.flow_model.specs.Lanes.{is_same_lane, lanes}
use Rattle.flow_model.specs.Replay.{Put, item_on, items_on}
use Rattle.flow_model.proofs.LaneLemmas.{lane_self, same_lane, same_number}
use Rattle.audit_restore.specs.Standing.{AreAtTheirEnd, HoldsLanes, HoldsFeed, feeder_end, left_on}
use Rattle.audit_restore.proofs.IssueLemmas.{issues_in}
use Rattle.audit_restore.proofs.StandingLemmas.{left_elsewhere, left_get, left_here}

length_none : (n : ℕ) → length (replicate {A = List Item} n []) ≡ n
length_none zero = refl
length_none (suc n) = ap suc (length_none n)

left_none : (n k : ℕ) → left_on (replicate {A = List Item} n []) k ≡ []
left_none zero k = refl
left_none (suc n) zero = refl
left_none (suc n) (suc k) = left_none n k

pub holds_nothing : (job : JobView) (standing : List (List Item)) (n : ℕ) → standing ≡ replicate n [] → n ≡ length (lanes job) → HoldsLanes job standing []
holds_nothing job standing n e long = record {
  long = ap length e ∙ (length_none n ∙ long);
  each = λ k lane g. ap (λ (l : List (List Item)). left_on l k) e ∙ left_none n k;
}

one_on : (lane : Lane) (puts : List Put) (put : Put) (b : Bool) → is_same_lane put.lane lane ≡ b → items_on lane (puts ++ put ∷ []) ≡ items_on lane puts ++ cond b (put.item ∷ []) []
one_on lane puts put true e = filter_map-append (item_on lane) puts (put ∷ []) ∙ rw e refl
one_on lane puts put false e = filter_map-append (item_on lane) puts (put ∷ []) ∙ rw e refl

-- an item that is put on a lane stands there
pub holds_more : (job : JobView) (standing : List (List Item)) (puts : List Put) (n : ℕ) (lane : Lane) (put : Put) → HoldsLanes job standing puts → slice_get (lanes job) n ≡ Some lane → put.lane ≡ Some lane
    → HoldsLanes job (slice_set standing n (get_or standing n [] ++ put.item ∷ [])) (puts ++ put ∷ [])
holds_more job standing puts n lane put holds g on = record {
  long = length-set standing n (get_or standing n [] ++ put.item ∷ []) ∙ holds.long;
  each = λ k other h. go k other h (n == k) refl;
}
  where
    go : (k : ℕ) (other : Lane) → slice_get (lanes job) k ≡ Some other → (b : Bool) → (n == k) ≡ b
        → left_on (slice_set standing n (get_or standing n [] ++ put.item ∷ [])) k ≡ items_on other (puts ++ put ∷ [])
    go k other h true t =
        let same : n ≡ k = eqb-true n k t in
        let lane_is : lane ≡ other = same_Some lane other (sym g ∙ (ap (slice_get (lanes job)) same ∙ h)) in
        let there : n < length standing = let lt = slice_get_within (lanes job) n lane g in omega (arith, lt, holds.long) in
        let self : is_same_lane put.lane other ≡ true = ap (λ (o : Option Lane). is_same_lane o other) (on ∙ ap Some lane_is) ∙ lane_self other in
        subst (λ j. left_on (slice_set standing n (get_or standing n [] ++ put.item ∷ [])) j ≡ items_on other (puts ++ put ∷ [])) same
        (left_here standing n (get_or standing n [] ++ put.item ∷ []) there
        ∙ (ap (λ (l : List Item). l ++ put.item ∷ []) (sym (left_get standing n) ∙ (holds.each n lane g ∙ ap (λ (l : Lane). items_on l puts) lane_is))
        ∙ sym (one_on other puts put true self)))
    go k other h false f =
        let apart : n ≢ k = λ q. let t = eq-eqb n k q in absurd (cc) in
        left_elsewhere standing k n (get_or standing n [] ++ put.item ∷ []) (λ q. apart (sym q))
        ∙ (holds.each k other h ∙ (sym (append-nil (items_on other puts)) ∙ sym (one_on other puts put false (differs (is_same_lane put.lane other) refl))))
      where
        differs : (b : Bool) → is_same_lane put.lane other ≡ b → is_same_lane put.lane other ≡ false
        differs true t =
            let e : lane ≡ other = same_Some lane other (sym on ∙ same_lane put.lane other t) in
            let same = same_number job lane other n k g h e in
            let eq = eq-eqb n k same in absurd (cc)
        differs false f = f

pub holds_none : (job : JobView) (standing : List (List Item)) (puts : List Put) (put : Put) → HoldsLanes job standing puts → put.lane ≡ None → HoldsLanes job standing (puts ++ put ∷ [])
holds_none job standing puts put holds on = record {
  long = holds.long;
  each = λ k other h. holds.each k other h ∙ (sym (append-nil (items_on other puts)) ∙ sym (one_on other puts put false (ap (λ (o : Option Lane). is_same_lane o other) on)));
}

pub holds_same : (job : JobView) (standing : List (List Item)) (puts more : List Put) → HoldsLanes job standing puts → more ≡ [] → HoldsLanes job standing (puts ++ more)
holds_same job standing puts more holds e = subst (HoldsLanes job standing) (sym (ap (λ (l : List Put). puts ++ l) e ∙ append-nil puts)) holds

-- ---- step by step

-- what was put, and what the later steps put, is what the whole feed puts
pub record AreFed (job : JobView) (rows : List Row) (begun : ℕ) (feeds : List Feed) (i issued : ℕ) (standing : List (List Item)) : Type 0 where
  pub puts : List Put
  pub holds : HoldsLanes job standing puts
  pub all : puts ++ fed_puts job rows issued (drop i feeds) ≡ fed_puts job rows begun feeds
  pub few : issued + issues_in (drop i feeds) < 2 ^ 64

pub fed_first : (job : JobView) (rows : List Row) (begun issued : ℕ) (feeds : List Feed) (standing : List (List Item)) → HoldsLanes job standing [] → issued ≡ begun → begun + issues_in feeds < 2 ^ 64
    → AreFed job rows begun feeds 0 issued standing
fed_first job rows begun issued feeds standing holds is few = record {
  puts = [];
  holds = holds;
  all = ap (λ (n : ℕ). fed_puts job rows n feeds) is;
  few = subst (λ (n : ℕ). n + issues_in feeds < 2 ^ 64) (sym is) few;
}

module _ (job : JobView) (rows : List Row) (begun : ℕ) (feeds : List Feed) (i issued : ℕ) (d : Feed) (old : List (List Item)) (are : AreFed job rows begun feeds i issued old) (lt : i < length feeds)
  where
    -- the issues that are left, by the next step
    left : (x : Feed) → get_or feeds i d ≡ x → issued + issues_in (x ∷ drop (i + 1) feeds) < 2 ^ 64
    left x e =
        subst (λ (l : List Feed). issued + issues_in l < 2 ^ 64)
        (drop_more feeds i d lt ∙ ap (λ (y : Feed). y ∷ drop (i + 1) feeds) e) are.few

    -- the count of issued requests stays in range
    pub may_issue : (request : ℕ) → get_or feeds i d ≡ feed.Issued request → issued + 1 < 2 ^ 64
    may_issue request e = let few = left (feed.Issued request) e in omega (arith, few)

    next : fed_puts job rows issued (drop i feeds) ≡ fed_puts job rows issued (get_or feeds i d ∷ drop (i + 1) feeds)
    next = ap (fed_puts job rows issued) (drop_more feeds i d lt)

    pub fed_row : (row : ℕ) (new : List (List Item)) → get_or feeds i d ≡ feed.Fed row → HoldsLanes job new (are.puts ++ fed_put job issued (row_numbered rows row)) → AreFed job rows begun feeds (i + 1) issued new
    fed_row row new e holds = record {
      puts = are.puts ++ fed_put job issued (row_numbered rows row);
      holds = holds;
      all =
          append_assoc are.puts (fed_put job issued (row_numbered rows row)) (fed_puts job rows issued (drop (i + 1) feeds))
          ∙ (ap (λ (l : List Put). are.puts ++ l) (sym (next ∙ ap (λ (x : Feed). fed_puts job rows issued (x ∷ drop (i + 1) feeds)) e)) ∙ are.all);
      few = left (feed.Fed row) e;
    }

    pub fed_request : (request : ℕ) → get_or feeds i d ≡ feed.Issued request → AreFed job rows begun feeds (i + 1) (issued + 1) old
    fed_request request e = record {
      puts = are.puts;
      holds = are.holds;
      all = ap (λ (l : List Put). are.puts ++ l) (sym (next ∙ ap (λ (x : Feed). fed_puts job rows issued (x ∷ drop (i + 1) feeds)) e)) ∙ are.all;
      few = let few = left (feed.Issued request) e in omega (arith, few);
    }

    pub fed_stopped : get_or feeds i d ≡ feed.Stopped → AreFed job rows begun feeds (i + 1) issued old
    fed_stopped e = record {
      puts = are.puts;
      holds = are.holds;
      all = ap (λ (l : List Put). are.puts ++ l) (sym (next ∙ ap (λ (x : Feed). fed_puts job rows issued (x ∷ drop (i + 1) feeds)) e)) ∙ are.all;
      few = left feed.Stopped e;
    }

pub fed_last : (job : JobView) (rows : List Row) (begun : ℕ) (feeds : List Feed) (i issued : ℕ) (old new : List (List Item)) → AreFed job rows begun feeds i issued old → length feeds ≤ i → AreAtTheirEnd job old new → HoldsFeed job rows begun feeds new
fed_last job rows begun feeds i issued old new are past ends = record {
  long = ends.long ∙ are.holds.long;
  each = λ n lane g none.
      ends.each n lane g
      ∙ (ap (λ (o : Option ℕ). left_on old n ++ feeder_end o) none
      ∙ ap (λ (l : List Item). l ++ item.Last ∷ []) (are.holds.each n lane g ∙ ap (items_on lane) puts));
}
  where
    rest : drop i feeds ≡ []
    rest = drop_all i feeds past

    puts : are.puts ≡ fed_puts job rows begun feeds
    puts = sym (append-nil are.puts) ∙ (ap (λ (l : List Feed). are.puts ++ fed_puts job rows issued l) (sym rest) ∙ are.all)

-- ---- the ends

-- the ends of the lanes below this number were put
pub record AreEnded (job : JobView) (n : ℕ) (old new : List (List Item)) : Type 0 where
  pub long : length new ≡ length old
  pub below : (k : ℕ) (lane : Lane) → k < n → slice_get (lanes job) k ≡ Some lane → left_on new k ≡ left_on old k ++ feeder_end lane.sender
  pub above : (k : ℕ) → n ≤ k → left_on new k ≡ left_on old k

pub none_ended : (job : JobView) (old : List (List Item)) → AreEnded job 0 old old
none_ended job old = record { long = refl; below = λ k lane lt g. absurd (omega (arith, lt)); above = λ k le. refl }

pub one_ended : (job : JobView) (n : ℕ) (old mid : List (List Item)) (lane : Lane) → AreEnded job n old mid → n < length mid → slice_get (lanes job) n ≡ Some lane → lane.sender ≡ None
    → AreEnded job (n + 1) old (slice_set mid n (get_or mid n [] ++ item.Last ∷ []))
one_ended job n old mid lane are lt g none = record {
  long = length-set mid n (get_or mid n [] ++ item.Last ∷ []) ∙ are.long;
  below = λ k other le h. elim (cases_lt k n) [
    | inl less ↦ left_elsewhere mid k n (get_or mid n [] ++ item.Last ∷ []) (λ q. absurd (omega (arith, less, q))) ∙ are.below k other less h
    | inr more ↦
        let same : n ≡ k = omega (arith, le, more) in
        let lane_is : lane ≡ other = same_Some lane other (sym g ∙ (ap (slice_get (lanes job)) same ∙ h)) in
        subst (λ j. left_on (slice_set mid n (get_or mid n [] ++ item.Last ∷ [])) j ≡ left_on old j ++ feeder_end other.sender) same
        (left_here mid n (get_or mid n [] ++ item.Last ∷ []) lt
        ∙ (ap (λ (l : List Item). l ++ item.Last ∷ []) (sym (left_get mid n) ∙ are.above n (omega arith))
        ∙ ap (λ (o : Option ℕ). left_on old n ++ feeder_end o) (sym none ∙ ap (λ (l : Lane). l.sender) lane_is)))
  ];
  above = λ k le. left_elsewhere mid k n (get_or mid n [] ++ item.Last ∷ []) (λ q. absurd (omega (arith, le, q))) ∙ are.above k (omega (arith, le));
}

pub one_not_ended : (job : JobView) (n : ℕ) (old mid : List (List Item)) (lane : Lane) → AreEnded job n old mid → slice_get (lanes job) n ≡ Some lane → (lane.sender ≡ None → ⊥) → AreEnded job (n + 1) old mid
one_not_ended job n old mid lane are g some = record {
  long = are.long;
  below = λ k other le h. elim (cases_lt k n) [
    | inl less ↦ are.below k other less h
    | inr more ↦
        let same : n ≡ k = omega (arith, le, more) in
        let lane_is : lane ≡ other = same_Some lane other (sym g ∙ (ap (slice_get (lanes job)) same ∙ h)) in
        are.above k (omega (arith, more)) ∙ (sym (append-nil (left_on old k)) ∙ ap (λ (l : List Item). left_on old k ++ l) (sym (no_end other.sender (λ e. some (ap (λ (l : Lane). l.sender) lane_is ∙ e)))))
  ];
  above = λ k le. are.above k (omega (arith, le));
}
  where
    no_end : (o : Option ℕ) → (o ≡ None → ⊥) → feeder_end o ≡ []
    no_end None some = absurd (some refl)
    no_end (Some s) some = refl

pub all_ended : (job : JobView) (n : ℕ) (old new : List (List Item)) → AreEnded job n old new → length (lanes job) ≤ n → AreAtTheirEnd job old new
all_ended job n old new are le = record {
  long = are.long;
  each = λ k lane g. are.below k lane (let lt = slice_get_within (lanes job) k lane g in omega (arith, lt, le)) g;
}
