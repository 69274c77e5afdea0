-- A stream goes on part by part, and so do its files.
use Rattle.std.proofs.Common.{append-nil, ◌≡◌, ◌∙◌, ◌++◌, ℕ, List, [], ◌∷◌, Option, inl}
use Rattle.std.proofs.Common.{append_assoc, inr, refl, sym, subst, ap}
use Rattle.std.proofs.lemmas.Grind.{flat_map-append}
use Rattle.jobs.specs.Job.{job_view}
use Rattle.payments.specs.Files.{Files, with_bytes}
use Rattle.tuple_trace.specs.declared.row.Row.{Row}
use Rattle.flow_model.specs.declared.setup.Setup.{Setup}
use Rattle.stream_step.specs.declared.stream.Stream.{Stream}
use Rattle.stream_run.specs.Growing.{End, Ended, Goes, GoesAndStops, IsBooked, IsOnePart, Names, Save}
use Rattle.stream_run.specs.Growing.{StopsIn}
use Rattle.stream_run.specs.Growing.{Written, all_counted, counts_once_written, part_in, parts_in, refused_in}
use Rattle.stream_run.specs.Growing.{rows_in, told_in, with_all_written, with_ended, with_written}
use Rattle.stream_run.specs.Parts.{HaveRun, KeepsAsked, Part}
use Rattle.stream_run.specs.Standing.{Stands}
use Rattle.stream_run.specs.declared.books.Books.{Books}
use Rattle.stream_run.specs.declared.books.Tally.{Tally}
use Rattle.stream_run.proofs.PartLemmas.{have_run-none, have_run-then}

with_all_written-append : (names : Names) (files : Option Files) (xs ys : List Written)
    → with_all_written names files (xs ++ ys)
    ≡ with_all_written names (with_all_written names files xs) ys
with_all_written-append names files [] ys = refl
with_all_written-append names files (x ∷ xs) ys =
    with_all_written-append names (with_written names files x) xs ys

pub goes-then : (names : Names) (xs ys : List Row) (a b c : Stream) (f g h : Option Files)
    → Goes names xs a f b g → Goes names ys b g c h → Goes names (xs ++ ys) a f c h
goes-then names xs ys a b c f g h one two = record {
  written = one.written ++ two.written;
  rows_are =
      ap rows_in (flat_map-append part_in one.written two.written)
      ∙ (flat_map-append (λ (p : Part). p.rows) (parts_in one.written) (parts_in two.written)
      ∙ (ap (λ r. r ++ rows_in (parts_in two.written)) one.rows_are
      ∙ ap (λ r. xs ++ r) two.rows_are));
  have_run =
      subst (λ parts. HaveRun a parts c) (sym (flat_map-append part_in one.written two.written))
      (have_run-then a b c (parts_in one.written) (parts_in two.written) one.have_run two.have_run);
  files_are =
      two.files_are ∙ (ap (λ files. with_all_written names files two.written) one.files_are ∙ sym
      (with_all_written-append names f one.written two.written));
  job_is = two.job_is ∙ one.job_is;
  splits_are = two.splits_are ∙ one.splits_are;
  exact_is = two.exact_is ∙ one.exact_is;
}

pub goes-same : (names : Names) (a b : Stream) (f g : Option Files) → b.setup ≡ a.setup → b.start
    ≡ a.start → b.exact ≡ a.exact → g ≡ f → Goes names [] a f b g
goes-same names a b f g s t x e = record {
  written = [];
  rows_are = refl;
  have_run = have_run-none a b s t x;
  files_are = e;
  job_is = ap (λ (y : Setup). job_view y.job) s;
  splits_are = ap (λ (y : Setup). y.splits) s;
  exact_is = x;
}

-- what goes on twice has written both in turn, and what goes on without a part nothing
pub goes_both : (names : Names) (xs ys : List Row) (a b c : Stream) (f g h : Option Files)
    → (one : Goes names xs a f b g) → (two : Goes names ys b g c h)
    → (both : Goes names (xs ++ ys) a f c h) × (both.written ≡ one.written ++ two.written)
unfolding goes-then
goes_both names xs ys a b c f g h one two =
    (goes-then names xs ys a b c f g h one two, refl)

pub goes_none : (names : Names) (a b : Stream) (f g : Option Files) → b.setup ≡ a.setup → b.start
    ≡ a.start → b.exact ≡ a.exact → g ≡ f
    → (goes : Goes names [] a f b g) × (goes.written ≡ [])
unfolding goes-same
goes_none names a b f g s t x e = (goes-same names a b f g s t x e, refl)

pub goes-part : (names : Names) (a b : Stream) (f g : Option Files) (ended : Ended)
    → HaveRun a (ended.part ∷ []) b → g ≡ with_ended names f ended → KeepsAsked a b
    → Goes names ended.part.rows a f b g
goes-part names a b f g ended run e kept =
    record {
      written = End ended ∷ [];
      rows_are = append-nil ended.part.rows;
      have_run = run;
      files_are = e;
      job_is = kept.job_is;
      splits_are = kept.splits_are;
      exact_is = kept.exact_is;
    }

pub goes-save : (names : Names) (a b : Stream) (f g : Option Files) (text : List ℕ) → b.setup
    ≡ a.setup → b.start ≡ a.start → b.exact ≡ a.exact → g ≡ with_bytes f names.save text
    → Goes names [] a f b g
goes-save names a b f g text s t x e = record {
  written = Save text ∷ [];
  rows_are = refl;
  have_run = have_run-none a b s t x;
  files_are = e;
  job_is = ap (λ (y : Setup). job_view y.job) s;
  splits_are = ap (λ (y : Setup). y.splits) s;
  exact_is = x;
}

-- ---- the books

pub all_counted-append : (tally : Tally) (xs ys : List Written) → all_counted tally (xs ++ ys)
    ≡ all_counted (all_counted tally xs) ys
all_counted-append tally [] ys = refl
all_counted-append tally (x ∷ xs) ys = all_counted-append (counts_once_written tally x) xs ys

pub booked-none : (a b : Books) → b ≡ a → IsBooked [] a b
booked-none a b e = record {
  tally = ap (λ (x : Books). x.tally) e;
  told = ap (λ (x : Books). x.refused.items) e;
}

pub booked-then : (xs ys : List Written) (a b c : Books) → IsBooked xs a b → IsBooked ys b c
    → IsBooked (xs ++ ys) a c
booked-then xs ys a b c one two = record {
  tally =
      two.tally
      ∙ (ap (λ t. all_counted t ys) one.tally ∙ sym (all_counted-append a.tally xs ys));
  told = ap (λ l. l ++ c.refused.items) (flat_map-append told_in xs ys)
      ∙ (append_assoc (refused_in xs) (refused_in ys) c.refused.items
      ∙ (ap (λ l. refused_in xs ++ l) two.told ∙ one.told));
}

-- what is written and counted, one after the other
pub goes_booked-then : (names : Names) (xs ys : List Row) (a b c : Stream) (f g h : Option Files)
    (r s t : Books) → (one : Goes names xs a f b g) × IsBooked one.written r s
    → (two : Goes names ys b g c h) × IsBooked two.written s t
    → (both : Goes names (xs ++ ys) a f c h) × IsBooked both.written r t
unfolding goes-then
goes_booked-then names xs ys a b c f g h r s t one two = (
  goes-then names xs ys a b c f g h one.0 two.0,
  booked-then one.0.written two.0.written r s t one.1 two.1,
)

pub goes_booked-same : (names : Names) (a : Stream) (f : Option Files) (r : Books)
    → (goes : Goes names [] a f a f) × IsBooked goes.written r r
unfolding goes-same
goes_booked-same names a f r = (goes-same names a a f f refl refl refl refl, booked-none r r refl)

-- a part that was written, and counted
pub goes_booked-part : (names : Names) (a b : Stream) (f g : Option Files) (ended : Ended)
    (r s : Books) → HaveRun a (ended.part ∷ []) b → g ≡ with_ended names f ended → KeepsAsked a b
    → s.tally ≡ counts_once_written r.tally (End ended) → ended.refused ++ s.refused.items ≡ r.refused.items
    → (goes : Goes names ended.part.rows a f b g) × IsOnePart goes.written
    × IsBooked goes.written r s
unfolding goes-part
goes_booked-part names a b f g ended r s run e kept tally told = (
  goes-part names a b f g ended run e kept,
  (ended, refl),
  record {
    tally = tally;
    told = ap (λ l. l ++ s.refused.items) (append-nil ended.refused) ∙ told;
  },
)

-- a savepoint that was written, and counted
pub goes_booked-save : (names : Names) (a b : Stream) (f g : Option Files) (text : List ℕ)
    (r s : Books) → b.setup ≡ a.setup → b.start ≡ a.start → b.exact ≡ a.exact
    → g ≡ with_bytes f names.save text → s.tally ≡ record r.tally { unsaved = 0 }
    → s.refused.items ≡ r.refused.items
    → (goes : Goes names [] a f b g) × IsBooked goes.written r s
unfolding goes-save
goes_booked-save names a b f g text r s setup start exact e tally refused = (
  goes-save names a b f g text setup start exact e,
  record { tally = tally; told = refused },
)

-- ---- where a stream stands and stops

pub stands-then : (behind : Option ℕ) (names : Names) (rows : List Row) (a b : Stream)
    (f g : Option Files) → Stands behind names a f → Goes names rows a f b g
    → Stands behind names b g
stands-then behind names rows a b f g stands goes = record {
  begin = stands.begin;
  before = stands.before;
  begins = stands.begins;
  rows = stands.rows ++ rows;
  goes = goes-then names stands.rows rows stands.begin a b stands.before f g stands.goes goes;
}

pub stops-then : (names : Names) (rows : List Row) (a b : Stream) (f g h : Option Files)
    → Goes names rows a f b g → GoesAndStops names b g h → GoesAndStops names a f h
stops-then names rows a b f g h goes stops = record {
  last = stops.last;
  files = stops.files;
  rows = rows ++ stops.rows;
  goes = goes-then names rows stops.rows a b stops.last f g stops.files goes stops.goes;
  stops = stops.stops;
}

pub stops-between : (names : Names) (a : Stream) (f h : Option Files) → h ≡ f
    → GoesAndStops names a f h
stops-between names a f h e =
    record {
      last = a;
      files = f;
      rows = [];
      goes = goes-same names a a f f refl refl refl refl;
      stops = inl e;
    }

pub stops-within : (names : Names) (a : Stream) (f h : Option Files) → StopsIn names a f h
    → GoesAndStops names a f h
stops-within names a f h stops =
    record {
      last = a;
      files = f;
      rows = [];
      goes = goes-same names a a f f refl refl refl refl;
      stops = inr stops;
    }
