-- The records of parts, put together.
use Rattle.std.proofs.Common.{◌≡◌, ◌∙◌, ◌++◌, ℕ, ℤ, zero, suc, List, [], ◌∷◌, refl, sym, ap, ap₂, arith, length, map}
use Rattle.std.specs.Prelude.{All}
use Rattle.std.specs.FinMap.{entries}
use Rattle.std.specs.List.{range_with_len, zip}
use Rattle.std.proofs.lemmas.List.{append_assoc, append-nil, map-append}
use Rattle.jobs.specs.JobView.{JobView}
use Rattle.jobs.specs.Law.{IsLawful}
use Rattle.jobs.specs.Nodes.{worker_count}
use Rattle.keyed_state.specs.Counts.{Counts}
use Rattle.sink_journal.specs.Audit.{audit_header, entry_fields, feed_fields, refused_fields, state_fields, worker_records}
use Rattle.sink_journal.specs.declared.journal.Entry.{Entry}
use Rattle.savepoint.specs.Parts.{endless, joined_journal, unstopped}
use Rattle.audit_laws.specs.Names.{Named, named_workers}
use Rattle.audit_stream.specs.Together.{by_group, group_count, in_group, last_ends, together}
use Rattle.audit_stream.specs.Told.{HasEach, IsEarlier, IsLast, PartTold, part_records, parts_records, told_after, told_in_all, told_with}
use Rattle.audit_stream.proofs.ClosedLemmas.{last_ends-append, open_ones}
use Rattle.audit_stream.proofs.GroupLemmas.{Section, both_sections, groups_same, in_both, in_two, joined_of, open_both, open_in_group, open_joined, open_sections, open_twice}
use Rattle.audit_stream.proofs.EndLemmas.{last_kept, last_stops, open_entries, open_feeds, open_refused}
use Rattle.audit_stream.proofs.SectionLemmas.{named_long, part_back, part_in, part_joined, part_long, part_sections, sections_of}

-- ---- two parts

abbrev HaveNoCounts : List Counts → Type 0
HaveNoCounts states = All (λ (counts : Counts). entries counts ≡ []) states

two_workers : (node : List ℕ) (place : ℕ) (a b : List Entry) (none counts : Counts) → entries none ≡ []
    → worker_records node place (joined_journal (a, b)) counts ≡ open_ones (worker_records node place a none) ++ worker_records node place b counts
two_workers node place a b none counts e =
    let f : List Entry → Section = map (entry_fields node place) in
    let states : Section = map (state_fields node place) (entries counts) in
    let first : open_ones (worker_records node place a none) ≡ f (endless a) =
    ap (λ (l : List (List ℕ × ℤ)). open_ones (f a ++ map (state_fields node place) l)) e ∙ (ap open_ones (append-nil (f a)) ∙ open_entries node place a) in
    ap (λ (l : Section). l ++ states) (map-append (entry_fields node place) (endless a) b)
    ∙ (append_assoc (f (endless a)) (f b) states ∙ ap (λ (l : Section). l ++ (f b ++ states)) (sym first))

two_sections : (workers : List Named) (a b : List (List Entry)) (none states : List Counts) → length a ≡ length workers → length b ≡ length workers
    → length none ≡ length workers → length states ≡ length workers → HaveNoCounts none
    → sections_of workers (map joined_journal (zip a b)) states ≡ both_sections (map open_ones (sections_of workers a none)) (sections_of workers b states)
two_sections [] a b none states i j k l e = refl
two_sections (x ∷ workers) [] b none states i j k l e = absurd (omega arith)
two_sections (x ∷ workers) (p ∷ a) [] none states i j k l e = absurd (omega arith)
two_sections (x ∷ workers) (p ∷ a) (q ∷ b) [] states i j k l e = absurd (omega arith)
two_sections (x ∷ workers) (p ∷ a) (q ∷ b) (n ∷ none) [] i j k l e = absurd (omega arith)
two_sections (x ∷ workers) (p ∷ a) (q ∷ b) (n ∷ none) (c ∷ states) i j k l e =
    ap₂ (λ (s : Section) (t : List Section). s ∷ t) (two_workers x.node x.place p q n c (e 0 n (omega arith)))
    (two_sections workers a b none states (omega arith) (omega arith) (omega arith) (omega arith) (λ m d lt. e (suc m) d (omega arith)))

two_in_all : (job : JobView) (part later : PartTold) → IsEarlier job part → HasEach job later
    → part_sections job (told_with part later) ≡ both_sections (map open_ones (part_sections job part)) (part_sections job later)
two_in_all job part later (each, none) has =
    let named = named_long job.nodes in
    let refused : map refused_fields (part.refused ++ later.refused) ≡ open_ones (map refused_fields part.refused) ++ map refused_fields later.refused =
    map-append refused_fields part.refused later.refused ∙ ap (λ (l : Section). l ++ map refused_fields later.refused) (sym (open_refused part.refused)) in
    let feeds : map feed_fields (unstopped part.feeds ++ later.feeds) ≡ open_ones (map feed_fields part.feeds) ++ map feed_fields later.feeds =
    map-append feed_fields (unstopped part.feeds) later.feeds ∙ ap (λ (l : Section). l ++ map feed_fields later.feeds) (sym (open_feeds part.feeds)) in
    let workers =
    two_sections (named_workers job.nodes) part.journals later.journals part.states later.states
    (each.0 ∙ sym named) (has.0 ∙ sym named) (each.1 ∙ sym named) (has.1 ∙ sym named) none in
    ap₂ (λ (s : Section) (t : List Section). s ∷ t) refused (ap₂ (λ (s : Section) (t : List Section). s ∷ t) feeds workers)

zip_long : (a b : List (List Entry)) (n : ℕ) → length a ≡ n → length b ≡ n → length (map joined_journal (zip a b)) ≡ n
zip_long [] [] n i j = i
zip_long [] (q ∷ b) n i j = absurd (omega arith)
zip_long (p ∷ a) [] n i j = absurd (omega arith)
zip_long (p ∷ a) (q ∷ b) zero i j = absurd (omega arith)
zip_long (p ∷ a) (q ∷ b) (suc n) i j = ap suc (zip_long a b n (omega arith) (omega arith))

with_each : (job : JobView) (part later : PartTold) → HasEach job part → HasEach job later → HasEach job (told_with part later)
with_each job part later a b = (zip_long part.journals later.journals (worker_count job.nodes) a.0 b.0, b.1)

opened_long : (sections : List Section) → length (map open_ones sections) ≡ length sections
opened_long [] = refl
opened_long (s ∷ sections) = ap suc (opened_long sections)

-- the records of a group, of two parts
two_parts : (job : JobView) → IsLawful job → (part later : PartTold) → IsEarlier job part → HasEach job later → (g : ℕ)
    → in_group job (part_records job (told_with part later)) g ≡ in_group job (open_ones (part_records job part)) g ++ in_group job (part_records job later) g
two_parts job law part later is has g =
    let first : List Section = part_sections job part in
    let second : List Section = part_sections job later in
    let long : length (map open_ones first) ≡ length second = opened_long first ∙ (part_long job part is.0 ∙ sym (part_long job later has)) in
    let f : Section → Section = λ l. in_group job l g in
    ap f (part_joined job (told_with part later) (with_each job part later is.0 has) ∙ ap joined_of (two_in_all job part later is has))
    ∙ (in_two job 0 g (map open_ones first) second (open_sections job 0 first (part_in job law part)) (part_in job law later) long
    ∙ ap₂ (λ (a b : Section). a ++ b) (ap f (sym (ap open_ones (part_joined job part is.0) ∙ open_joined first))) (ap f (sym (part_joined job later has))))

-- ---- many parts

abbrev opened : JobView → ℕ → Section → Section
opened job g records = in_group job (open_ones records) g

opened_both : (job : JobView) (g : ℕ) (a b : Section) → opened job g (a ++ b) ≡ opened job g a ++ opened job g b
opened_both job g a b = ap (λ (l : Section). in_group job l g) (open_both a b) ∙ in_both job g (open_ones a) (open_ones b)

opened_with : (job : JobView) → IsLawful job → (part later : PartTold) → IsEarlier job part → HasEach job later → (g : ℕ)
    → opened job g (part_records job (told_with part later)) ≡ opened job g (part_records job part) ++ opened job g (part_records job later)
opened_with job law part later is has g =
    let a : Section = part_records job part in
    let b : Section = part_records job later in
    let again : open_ones (opened job g a) ≡ opened job g a =
    sym (open_in_group job g (open_ones a)) ∙ ap (λ (l : Section). in_group job l g) (open_twice a) in
    open_in_group job g (part_records job (told_with part later))
    ∙ (ap open_ones (two_parts job law part later is has g)
    ∙ (open_both (opened job g a) (in_group job b g)
    ∙ ap₂ (λ (x y : Section). x ++ y) again (sym (open_in_group job g b))))

with_earlier : (job : JobView) (part later : PartTold) → IsEarlier job part → IsEarlier job later → IsEarlier job (told_with part later)
with_earlier job part later a b = (with_each job part later a.0 b.0, b.1)

first_of_all : {A : Type 0} (P : A → Type 0) (x : A) (xs : List A) → All P (x ∷ xs) → P x
first_of_all P x xs all = all 0 x (omega arith)

rest_of_all : {A : Type 0} (P : A → Type 0) (x : A) (xs : List A) → All P (x ∷ xs) → All P xs
rest_of_all P x xs all = λ k d lt. all (suc k) d (omega arith)

after_earlier : (job : JobView) (part : PartTold) (more : List PartTold) → IsEarlier job part → All (IsEarlier job) more → IsEarlier job (told_after part more)
after_earlier job part [] is all = is
after_earlier job part (later ∷ more) is all =
    after_earlier job (told_with part later) more (with_earlier job part later is (first_of_all (IsEarlier job) later more all)) (rest_of_all (IsEarlier job) later more all)

opened_after : (job : JobView) → IsLawful job → (part : PartTold) (more : List PartTold) → IsEarlier job part → All (IsEarlier job) more → (g : ℕ)
    → opened job g (part_records job (told_after part more)) ≡ opened job g (part_records job part ++ parts_records job more)
opened_after job law part [] is all g = ap (opened job g) (sym (append-nil (part_records job part)))
opened_after job law part (later ∷ more) is all g =
    let next = first_of_all (IsEarlier job) later more all in
    let a : Section = part_records job part in
    let b : Section = part_records job later in
    let rest : Section = parts_records job more in
    opened_after job law (told_with part later) more (with_earlier job part later is next) (rest_of_all (IsEarlier job) later more all) g
    ∙ (opened_both job g (part_records job (told_with part later)) rest
    ∙ (ap (λ (l : Section). l ++ opened job g rest) (opened_with job law part later is next.0 g)
    ∙ (append_assoc (opened job g a) (opened job g b) (opened job g rest)
    ∙ (ap (λ (l : Section). opened job g a ++ l) (sym (opened_both job g b rest))
    ∙ sym (opened_both job g a (b ++ rest))))))

-- the records of a group, of all parts
all_parts : (job : JobView) → IsLawful job → (earlier : List PartTold) (last : PartTold) → All (IsEarlier job) earlier → HasEach job last → (g : ℕ)
    → in_group job (open_ones (parts_records job earlier) ++ part_records job last) g ≡ in_group job (part_records job (told_in_all earlier last)) g
all_parts job law [] last all has g = refl
all_parts job law (part ∷ earlier) last all has g =
    let is = first_of_all (IsEarlier job) part earlier all in
    let more = rest_of_all (IsEarlier job) part earlier all in
    let before = after_earlier job part earlier is more in
    in_both job g (open_ones (parts_records job (part ∷ earlier))) (part_records job last)
    ∙ (ap (λ (l : Section). l ++ in_group job (part_records job last) g) (sym (opened_after job law part earlier is more g))
    ∙ sym (two_parts job law (told_after part earlier) last before has g))

in_all_each : (job : JobView) (earlier : List PartTold) (last : PartTold) → All (IsEarlier job) earlier → HasEach job last → HasEach job (told_in_all earlier last)
in_all_each job [] last all has = has
in_all_each job (part ∷ earlier) last all has =
    let is = first_of_all (IsEarlier job) part earlier all in
    let more = rest_of_all (IsEarlier job) part earlier all in
    with_each job (told_after part earlier) last (after_earlier job part earlier is more).0 has

-- ---- the law

pub put_together_so : (job : JobView) → IsLawful job → (earlier : List PartTold) (last : PartTold) → All (IsEarlier job) earlier → IsLast job last
    → together job (audit_header ∷ (parts_records job earlier ++ part_records job last)) ≡ audit_header ∷ part_records job (told_in_all earlier last)
put_together_so job law earlier last all is =
    let parts : Section = parts_records job earlier in
    let end : Section = part_records job last in
    let kept : last_ends (parts ++ end) ≡ open_ones parts ++ end =
    last_ends-append parts end (last_stops job last is) ∙ ap (λ (l : Section). open_ones parts ++ l) (last_kept job last is) in
    let whole : PartTold = told_in_all earlier last in
    ap (λ (l : Section). audit_header ∷ l)
    (ap (by_group job) kept
    ∙ (groups_same job (open_ones parts ++ end) (part_records job whole) (all_parts job law earlier last all is.0) (range_with_len 0 (group_count job))
    ∙ part_back job law whole (in_all_each job earlier last all is.0)))
