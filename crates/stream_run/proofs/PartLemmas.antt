-- What a stream has run, part by part.
use Rattle.std.proofs.Common.{◌≡◌, ◌∙◌, ◌≤◌, ◌+◌, ◌++◌, ◌&&◌, ℕ, zero, suc, Bool, true, false, List}
use Rattle.std.proofs.Common.{[], ◌∷◌, Option, None, nat_le}
use Rattle.std.proofs.Common.{IfSome, Some, drop, length, map, refl, sym, subst, ap, arith}
use Rattle.std.specs.List.{range_with_len}
use Rattle.std.proofs.Math.Seq.{drop-append_seam}
use Rattle.std.proofs.lemmas.List.{length-append}
use Rattle.std.proofs.lemmas.List.FromFn.{length-map-range_with_len}
use Rattle.std.proofs.lemmas.List.Elements.{All-append, All-cons, All-nil}
use Rattle.jobs.specs.JobView.{JobView}
use Rattle.jobs.specs.Nodes.{AreFromSources, IsSourceOf}
use Rattle.tuple_trace.specs.FeedRows.{blank, blanks}
use Rattle.tuple_trace.specs.declared.row.Row.{Row}
use Rattle.versions.specs.declared.request.Request.{Request}
use Rattle.flow_model.specs.Begin.{Begin, at_first}
use Rattle.flow_model.specs.Run.{Ran}
use Rattle.flow_model.specs.Setup.{setup_view}
use Rattle.flow_model.specs.SetupView.{SetupView}
use Rattle.flow_model.specs.declared.setup.Setup.{Setup}
use Rattle.savepoint.specs.Parts.{start_of}
use Rattle.stream_law.specs.Stream.{RunPart, SoFar, with_part}
use Rattle.stream_law.specs.Border.{AreExactAfter}
use Rattle.stream_step.specs.Parts.{HasRun, IsBetweenRows, IsFirstRun, IsPartAfter, IsRunOn}
use Rattle.stream_step.specs.Parts.{first_part}
use Rattle.stream_step.specs.declared.stream.Stream.{Stream}
use Rattle.stream_step.proofs.PartLemmas.{exact_first, goes_on_after}
use Rattle.stream_step.proofs.PendingLemmas.{are_fed, fed_due}
use Rattle.stream_run.specs.Parts.{AreRunInTurn, Front, HasCome, HaveRun, IsRunAt, Part}
use Rattle.stream_run.specs.Parts.{front_after, front_of, with_all, with_one}

abbrev front_with : SetupView → Begin → Front
front_with setup start = record { setup = setup; start = start }

-- ---- parts one after another

pub with_all-append : (before : Option SoFar) (xs ys : List Part) → with_all before (xs ++ ys)
    ≡ with_all (with_all before xs) ys
with_all-append before [] ys = refl
with_all-append before (x ∷ xs) ys = with_all-append (Some (with_one before x)) xs ys

turn-then : (xs ys : List Part) (a b c : Front) → AreRunInTurn a xs b → AreRunInTurn b ys c
    → AreRunInTurn a (xs ++ ys) c
turn-then [] ys a b c f g = subst (λ (x : Front). AreRunInTurn x ys c) f g
turn-then (x ∷ xs) ys a b c f g = (f.0, turn-then xs ys (front_after a x) b c f.1 g)

pub have_run-then : (a b c : Stream) (xs ys : List Part) → HaveRun a xs b → HaveRun b ys c
    → HaveRun a (xs ++ ys) c
have_run-then a b c xs ys f g = record {
  in_turn = turn-then xs ys (front_of a) (front_of b) (front_of c) f.in_turn g.in_turn;
  as_one = λ before come.
      subst (λ s. HasCome c s) (sym (with_all-append before xs ys))
      (g.as_one (with_all before xs) (f.as_one before come));
}

-- what a stream has run stays, while requests are added to it
come_same : (a b : Stream) → b.setup ≡ a.setup → b.start ≡ a.start → b.exact ≡ a.exact
    → (before : Option SoFar) → HasCome a before → HasCome b before
come_same a b s t e None come = t ∙ come ∙ ap (λ (x : Setup). at_first (setup_view x)) (sym s)
come_same a b s t e (Some so_far) come = record {
  run = come.run;
  numbered = come.numbered;
  sources = come.sources;
  setup_is = come.setup_is ∙ ap setup_view (sym s);
  start_is = t ∙ come.start_is;
  exact = subst (λ o. IfSome o (λ base. AreExactAfter base so_far)) (sym e) come.exact;
}

front_as : (setup made : SetupView) (start begin : Begin) → made ≡ setup → begin ≡ start
    → front_with made begin ≡ front_with setup start
front_as setup made start begin s t =
    ap (λ x. front_with x begin) s ∙ ap (λ x. front_with setup x) t

pub have_run-none : (a b : Stream) → b.setup ≡ a.setup → b.start ≡ a.start → b.exact ≡ a.exact
    → HaveRun a [] b
have_run-none a b s t e = record {
  in_turn =
      front_as (setup_view a.setup) (setup_view b.setup) a.start b.start (ap setup_view s) t;
  as_one = come_same a b s t e;
}

-- ---- a part that was run

rows_behind : (source k n : ℕ) (rows : List Row) → n ≡ k → drop n (blanks source k ++ rows) ≡ rows
rows_behind source k n rows e =
    subst (λ m. drop m (blanks source k ++ rows) ≡ rows) (length-map-range_with_len (blank source) 0 k ∙ sym e)
    (drop-append_seam (blanks source k) rows)

part_as : (part : RunPart) (s : Setup) (r : List Row) (l : Ran) → part.setup ≡ s → part.rows ≡ r
    → part.left ≡ l → part ≡ record { setup = s; rows = r; left = l }
part_as part s r l es er el =
    ap (λ x. record { setup = x; rows = part.rows; left = part.left }) es
    ∙ (ap (λ x. record { setup = s; rows = x; left = part.left }) er
    ∙ ap (λ x. record { setup = s; rows = r; left = x }) el)

-- what the law of parts says
abbrev pub Later : Type 0
Later = (stream : Stream) (so_far : SoFar) (requests : List Request) (rows : List Row)
    (setup : Setup) (left : Ran) → HasRun stream so_far → IsRunOn stream requests rows setup left
    → (part : RunPart) × IsPartAfter so_far requests rows setup left part

abbrev pub First : Type 0
First = (stream : Stream) (requests : List Request) (rows : List Row) (setup : Setup) (left : Ran)
    → stream.start ≡ at_first (setup_view stream.setup) → IsRunOn stream requests rows setup left
    → IsFirstRun requests setup rows left

-- where the stream goes on after the part
abbrev GoesOnAt : ℕ → Stream → Ran → Type 0
GoesOnAt row next left = next.start ≡ start_of row left

pub length-fed : (stream : Stream) (source : ℕ) (rows : List Row)
    → length (blanks source stream.start.row ++ rows) ≡ stream.start.row + length rows
length-fed stream source rows =
    length-append (blanks source stream.start.row) rows
    ∙ ap (λ k. k + length rows) (length-map-range_with_len (blank source) 0 stream.start.row)

-- the later of two lists of requests wait for no later row than this, if both do
fed_second : (last : ℕ) (xs ys : List Request) → are_fed last (xs ++ ys) ≡ true
    → are_fed last ys ≡ true
fed_second last [] ys e = e
fed_second last (x ∷ xs) ys e =
    fed_second last xs ys (second (nat_le x.after last) (are_fed last (xs ++ ys)) e)
  where
    second : (a b : Bool) → (a && b) ≡ true → b ≡ true
    second true b e = e
    second false b e = absurd (cc)

-- what holds of a value, if there is one
pub if_some : (o : Option ℕ) (P : ℕ → Type 0) → ((n : ℕ) → o ≡ Some n → P n) → IfSome o P
if_some None P so = tt
if_some (Some n) P so = so n refl

module _ (later : Later) (first : First) (stream next : Stream) (requests : List Request)
    (source : ℕ) (rows : List Row) (left : Ran) (exact_is : next.exact ≡ stream.exact) where
  abbrev fed : List Row
  fed = blanks source stream.start.row ++ rows

  -- if the stream is exact, the part has no row or no request
  abbrev IsBetween : Type 0
  IsBetween = IfSome stream.exact (λ base. IsBetweenRows stream.start.row requests fed)

  first_part_run : IsBetween → IsRunOn stream requests fed next.setup left
      → GoesOnAt (stream.start.row + length rows) next left
      → stream.start ≡ at_first (setup_view stream.setup)
      → HasCome next (Some (with_one None (record {
        setup = next.setup;
        rows = rows;
        left = left;
      })))
  first_part_run between on start_is come =
      let none : stream.start.row ≡ 0 = ap (λ (b : Begin). b.row) come in
      let rows_are : fed ≡ rows = ap (λ k. blanks source k ++ rows) none in
      let is = subst (λ r. IsFirstRun requests next.setup r left) rows_are
      (first stream requests fed next.setup left come on) in
      record {
        run = is.run;
        numbered = is.numbered;
        sources = is.sources;
        setup_is = refl;
        start_is =
            start_is ∙ (ap (λ k. start_of (k + length rows) left) none
            ∙ (let same : 0 + length rows ≡ length rows = omega arith in ap (λ k. start_of k left)
            same));
        exact =
            subst (λ o. IfSome o (λ base. AreExactAfter base (first_part next.setup rows left)))
            (sym exact_is)
            (exact_first stream.exact requests next.setup rows left is
            (subst (λ r. IfSome stream.exact (λ base. IsBetweenRows 0 requests r)) rows_are
            (subst (λ k. IfSome stream.exact (λ base. IsBetweenRows k requests fed)) none
            between)));
      }

  later_part_run : IsBetween → IsRunOn stream requests fed next.setup left
      → GoesOnAt (stream.start.row + length rows) next left → left.setup ≡ setup_view next.setup
      → (so_far : SoFar) → HasRun stream so_far
      → HasCome next (Some (with_one (Some so_far)
      (record { setup = next.setup; rows = rows; left = left })))
  later_part_run between on start_is setup_is so_far has =
      let both = later stream so_far requests fed next.setup left has on in
      let row_is : stream.start.row ≡ length so_far.rows = ap (λ (b : Begin). b.row) has.start_is in
      let le : length so_far.rows ≤ length fed = omega (arith, row_is, length-fed stream source rows) in
      let run =
      goes_on_after stream so_far requests fed next left both.0 has both.1 le
      (start_is ∙ ap (λ k. start_of k left) (sym (length-fed stream source rows))) setup_is
      exact_is between in
      let rows_are : both.0.rows ≡ so_far.rows ++ rows =
      both.1.is_run.rows_are ∙ ap (λ r. so_far.rows ++ r)
      (rows_behind source stream.start.row (length so_far.rows) rows (sym row_is)) in
      subst (λ p. HasRun next (with_part so_far p))
      (part_as both.0 next.setup (so_far.rows ++ rows) left both.1.setup_is rows_are
      both.1.left_is) run

  abbrev part : Part
  part = record { setup = next.setup; rows = rows; left = left }

  -- the part by itself, and where the stream goes on after it
  run_here : IsRunOn stream requests fed next.setup left
      → GoesOnAt (stream.start.row + length rows) next left → IsRunAt (front_of stream) part
  run_here on start_is =
      let requests_are : next.setup.judged.accepted ≡ stream.setup.judged.accepted ++ requests =
      ap (λ (s : SetupView). s.requests) on.followed.extended_is in
      let row_is : next.start.row ≡ stream.start.row + length rows =
      ap (λ (b : Begin). b.row) start_is in
      record {
        requests = requests;
        others = blanks source stream.start.row;
        followed = on.followed;
        wait = on.wait;
        due =
            fed_due (stream.start.row + length rows) requests
            (fed_second (stream.start.row + length rows) stream.setup.judged.accepted requests
            (subst (λ (l : List Request). are_fed (stream.start.row + length rows) l ≡ true)
            requests_are
            (subst (λ k. are_fed k next.setup.judged.accepted ≡ true) row_is next.due)));
        as_many = length-map-range_with_len (blank source) 0 stream.start.row;
        run = on.run;
      }

  front_is : GoesOnAt (stream.start.row + length rows) next left
      → front_of next ≡ front_after (front_of stream) part
  front_is start_is =
      ap (λ (b : Begin). front_with (setup_view next.setup) b) start_is

  pub have_run-one : IsBetween → IsRunOn stream requests fed next.setup left
      → GoesOnAt (stream.start.row + length rows) next left → left.setup ≡ setup_view next.setup
      → HaveRun stream (record { setup = next.setup; rows = rows; left = left } ∷ []) next
  have_run-one between on start_is setup_is =
      record { in_turn = (run_here on start_is, front_is start_is); as_one = one_run }
    where
      one_run : (before : Option SoFar) → HasCome stream before
          → HasCome next (Some (with_one before part))
      one_run None come = first_part_run between on start_is come
      one_run (Some so_far) come = later_part_run between on start_is setup_is so_far come

-- ---- what is fed

blanks_from : (job : JobView) (source from count : ℕ) → IsSourceOf job source
    → AreFromSources job (map (blank source) (range_with_len from count))
blanks_from job source from zero is = All-nil _
blanks_from job source from (suc count) is =
    All-cons (λ (r : Row). IsSourceOf job r.source) (blank source from)
    (map (blank source) (range_with_len (from + 1) count)) is
    (blanks_from job source (from + 1) count is)

pub sources_fed : (job : JobView) (source count : ℕ) (rows : List Row) → IsSourceOf job source
    → AreFromSources job rows → AreFromSources job (blanks source count ++ rows)
sources_fed job source count rows is are =
    All-append (λ (r : Row). IsSourceOf job r.source) (blanks source count) rows
    (blanks_from job source 0 count is) are
