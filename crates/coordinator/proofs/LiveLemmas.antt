-- The rows that the requests of a live feeder wait for.
use Rattle.std.proofs.Common.{◌≡◌, ◌⊎◌, ◌∙◌, ◌+◌, ◌-◌, ◌<◌, ◌≤◌, ℕ, zero, suc, List, [], ◌∷◌, ◌++◌, inl, inr, refl, sym, subst, ap, true, false, arith, length, drop, min, Some, slice_get, append_assoc, Bool, cond, ◌==◌}
use Rattle.std.specs.Prelude.{nat_le, replicate}
use Rattle.std.proofs.lemmas.Option.{same_Some, slice_get_within}
use Rattle.std.proofs.lemmas.List.{length-append}
use Rattle.sink_journal.specs.declared.journal.Feed.{Feed}
use Rattle.sink_journal.specs.declared.journal.Feed.TheVariants.{Fed, Issued, Stopped}
use Rattle.flow_model.specs.Feeding.{feed_after, feed_from, issued_after, issued_at_first, issued_where}
use Rattle.flow_model.proofs.WorkerLemmas.{item_at}
use Rattle.coordinator.specs.Feeding.{AreRising, issue_rows, issued_in}
use Rattle.coordinator.specs.Live.{AreNumbered, fed_in, released_rows}
use Rattle.coordinator.specs.Steps.{IsAhead, IsReached}
use Rattle.coordinator.proofs.Rests.{AreLater, later_rising, rest_feed, rest_issue}

-- ---- the rows of requests that aren't released

pub length_released : (released rows : ℕ) (xs : List ℕ) → length (released_rows released rows xs) ≡ length xs
length_released released rows [] = refl
length_released zero rows (x ∷ xs) = ap suc (length_released zero rows xs)
length_released (suc n) rows (x ∷ xs) = ap suc (length_released n rows xs)

pub all_released : (released rows : ℕ) (xs : List ℕ) → length xs ≤ released → released_rows released rows xs ≡ xs
all_released released rows [] le = refl
all_released zero rows (x ∷ xs) le = absurd (omega (arith, le))
all_released (suc n) rows (x ∷ xs) le = ap (λ l. x ∷ l) (all_released n rows xs (omega (arith, le)))

pub get_released : (released rows : ℕ) (xs : List ℕ) (k a : ℕ) → slice_get xs k ≡ Some a → k < released → slice_get (released_rows released rows xs) k ≡ Some a
get_released released rows [] k a g lt = absurd (cc)
get_released zero rows (x ∷ xs) k a g lt = absurd (omega (arith, lt))
get_released (suc n) rows (x ∷ xs) zero a g lt = g
get_released (suc n) rows (x ∷ xs) (suc k) a g lt = get_released n rows xs k a g (omega (arith, lt))

pub get_unreleased : (released rows : ℕ) (xs : List ℕ) (k a : ℕ) → slice_get xs k ≡ Some a → released ≤ k → slice_get (released_rows released rows xs) k ≡ Some rows
get_unreleased released rows [] k a g le = absurd (cc)
get_unreleased zero rows (x ∷ xs) zero a g le = refl
get_unreleased zero rows (x ∷ xs) (suc k) a g le = get_unreleased zero rows xs k a g (omega arith)
get_unreleased (suc n) rows (x ∷ xs) zero a g le = absurd (omega (arith, le))
get_unreleased (suc n) rows (x ∷ xs) (suc k) a g le = get_unreleased n rows xs k a g (omega (arith, le))

-- what stands at a place
pub at_released : (released rows : ℕ) (xs : List ℕ) (k b : ℕ) → slice_get (released_rows released rows xs) k ≡ Some b
    → (a : ℕ) × (slice_get xs k ≡ Some a) × (((k < released) × (b ≡ a)) ⊎ ((released ≤ k) × (b ≡ rows)))
at_released released rows [] k b g = absurd (cc)
at_released zero rows (x ∷ xs) zero b g = (x, refl, inr (omega arith, sym (same_Some rows b g)))
at_released zero rows (x ∷ xs) (suc k) b g =
    let h = at_released zero rows xs k b g in
    (h.0, h.1, elim h.2 [ inl p ↦ (let lt = p.0 in absurd (omega (arith, lt))) | inr p ↦ inr (omega arith, p.1) ])
at_released (suc n) rows (x ∷ xs) zero b g = (x, refl, inl (omega arith, sym (same_Some x b g)))
at_released (suc n) rows (x ∷ xs) (suc k) b g =
    let h = at_released n rows xs k b g in
    (h.0, h.1, elim h.2 [ inl p ↦ inl ((let lt = p.0 in omega (arith, lt)), p.1) | inr p ↦ inr ((let le = p.0 in omega (arith, le)), p.1) ])

-- a row that is reached is that of a request
pub reached_left : (released rows row k : ℕ) (xs : List ℕ) → IsReached (released_rows released rows xs) rows row k → k < length xs
reached_left released rows row k xs (b, g, le) = let at = at_released released rows xs k b g in slice_get_within xs k at.0 at.1

-- no request is left
pub ahead_past : (released rows row k : ℕ) (xs : List ℕ) → length xs ≤ k → IsAhead (released_rows released rows xs) rows row k
ahead_past released rows row k xs le b g = let lt = slice_get_within (released_rows released rows xs) k b g in let e = length_released released rows xs in absurd (omega (arith, lt, le, e))

-- a request that isn't released waits for the last row
pub unreleased_there : (released rows k : ℕ) (xs : List ℕ) → k < length xs → released ≤ k → slice_get (released_rows released rows xs) k ≡ Some rows
unreleased_there released rows k xs lt le = let at = item_at xs k lt in get_unreleased released rows xs k at.0 at.1 le

-- ---- a feed with one entry more

pub fed_in-append : (xs ys : List Feed) → fed_in (xs ++ ys) ≡ fed_in xs + fed_in ys
fed_in-append [] ys = omega arith
fed_in-append (Fed n ∷ xs) ys = let h = fed_in-append xs ys in omega (arith, h)
fed_in-append (Issued r ∷ xs) ys = fed_in-append xs ys
fed_in-append (Stopped ∷ xs) ys = fed_in-append xs ys

pub issue_rows-append : (row : ℕ) (xs ys : List Feed) → issue_rows row (xs ++ ys) ≡ issue_rows row xs ++ issue_rows (row + fed_in xs) ys
issue_rows-append row [] ys = ap (λ n. issue_rows n ys) (omega arith)
issue_rows-append row (Fed n ∷ xs) ys = issue_rows-append (suc row) xs ys ∙ ap (λ m. issue_rows (suc row) xs ++ issue_rows m ys) (omega arith)
issue_rows-append row (Issued r ∷ xs) ys = ap (λ l. row ∷ l) (issue_rows-append row xs ys)
issue_rows-append row (Stopped ∷ xs) ys = issue_rows-append row xs ys

pub length_issue_rows : (row : ℕ) (xs : List Feed) → length (issue_rows row xs) ≡ issued_in xs
length_issue_rows row [] = refl
length_issue_rows row (Fed n ∷ xs) = length_issue_rows (suc row) xs
length_issue_rows row (Issued r ∷ xs) = ap suc (length_issue_rows row xs)
length_issue_rows row (Stopped ∷ xs) = length_issue_rows row xs

pub numbered_fed : (row issued n : ℕ) (xs : List Feed) → AreNumbered row issued xs → n ≡ suc (row + fed_in xs) → AreNumbered row issued (xs ++ Fed n ∷ [])
numbered_fed row issued n [] h e = ((omega (arith, e)), tt)
numbered_fed row issued n (Fed m ∷ xs) h e = (h.0, numbered_fed (suc row) issued n xs h.1 (omega (arith, e)))
numbered_fed row issued n (Issued r ∷ xs) h e = (h.0, numbered_fed row (suc issued) n xs h.1 e)
numbered_fed row issued n (Stopped ∷ xs) h e = absurd h

pub numbered_issued : (row issued n : ℕ) (xs : List Feed) → AreNumbered row issued xs → n ≡ suc (issued + issued_in xs) → AreNumbered row issued (xs ++ Issued n ∷ [])
numbered_issued row issued n [] h e = ((omega (arith, e)), tt)
numbered_issued row issued n (Fed m ∷ xs) h e = (h.0, numbered_issued (suc row) issued n xs h.1 e)
numbered_issued row issued n (Issued r ∷ xs) h e = (h.0, numbered_issued row (suc issued) n xs h.1 (omega (arith, e)))
numbered_issued row issued n (Stopped ∷ xs) h e = absurd h

-- ---- the rows in order

pub rising_last : (from rows count : ℕ) → from ≤ rows → AreRising from (replicate count rows)
rising_last from rows zero le = tt
rising_last from rows (suc count) le = (le, rising_last rows rows count (omega arith))

pub rising_rest : (from row : ℕ) (xs : List Feed) (rest : List ℕ) → from ≤ row → AreRising (row + fed_in xs) rest → AreRising from (issue_rows row xs ++ rest)
rising_rest from row [] rest le rise = rising_more rest rise
  where
    rising_more : (ys : List ℕ) → AreRising (row + 0) ys → AreRising from ys
    rising_more [] r = tt
    rising_more (y ∷ ys) r = (let a = r.0 in omega (arith, a, le), r.1)
rising_rest from row (Fed n ∷ xs) rest le rise = rising_rest from (suc row) xs rest (omega (arith, le)) (subst (λ m. AreRising m rest) (omega arith) rise)
rising_rest from row (Issued r ∷ xs) rest le rise = (le, rising_rest row row xs rest (omega arith) rise)
rising_rest from row (Stopped ∷ xs) rest le rise = rising_rest from row xs rest le rise

pub rising_waits : (row rows count : ℕ) (xs : List Feed) → row + fed_in xs ≤ rows → AreRising row (issue_rows row xs ++ replicate count rows)
rising_waits row rows count xs within = rising_rest row row xs (replicate count rows) (omega arith) (rising_last (row + fed_in xs) rows count within)

-- ---- the feed of the rows after which its requests were issued

pub get_past : (pre : List ℕ) (k x : ℕ) (ys : List ℕ) → length pre ≡ k → slice_get (pre ++ x ∷ ys) k ≡ Some x
get_past [] zero x ys e = refl
get_past [] (suc k) x ys e = absurd (omega (arith, e))
get_past (p ∷ pre) zero x ys e = absurd (omega (arith, e))
get_past (p ∷ pre) (suc k) x ys e = get_past pre k x ys (omega (arith, e))

drop_past : (pre : List ℕ) (k : ℕ) (ys : List ℕ) → length pre ≡ k → drop k (pre ++ ys) ≡ ys
drop_past [] zero ys e = refl
drop_past [] (suc k) ys e = absurd (omega (arith, e))
drop_past (p ∷ pre) zero ys e = absurd (omega (arith, e))
drop_past (p ∷ pre) (suc k) ys e = drop_past pre k ys (omega (arith, e))

-- The feed of these rows is this feed, followed by the feed from here on.
pub feed_of_rows : (row issued rows : ℕ) (xs : List Feed) (pre rest : List ℕ) → AreNumbered row issued xs → row + fed_in xs ≤ rows → length pre ≡ issued → AreRising (row + fed_in xs) rest
    → feed_from row issued (pre ++ (issue_rows row xs ++ rest)) rows ≡ xs ++ feed_from (row + fed_in xs) (issued + issued_in xs) (pre ++ (issue_rows row xs ++ rest)) rows
feed_of_rows row issued rows [] pre rest h within e rise =
    ap (λ r. feed_from r issued (pre ++ rest) rows) (omega arith) ∙ ap (λ i. feed_from (row + 0) i (pre ++ rest) rows) (omega arith)
feed_of_rows row issued rows (Fed n ∷ xs) pre rest h within e rise =
    let zs : List ℕ = issue_rows (suc row) xs ++ rest in
    let ys : List ℕ = pre ++ zs in
    let rise' : AreRising (suc row + fed_in xs) rest = subst (λ m. AreRising m rest) (omega arith) rise in
    let later : AreLater row rows (drop issued ys) = subst (AreLater row rows) (sym (drop_past pre issued zs e)) (later_rising row rows (suc row) zs (rising_rest (suc row) (suc row) xs rest (omega arith) rise') (omega (arith, within))) in
    rest_feed ys rows row issued (omega (arith, within)) later
    ∙ (ap (λ l. Fed (suc row) ∷ l) (feed_of_rows (suc row) issued rows xs pre rest h.1 (omega (arith, within)) e rise')
    ∙ (ap (λ m. Fed m ∷ (xs ++ feed_from (suc row + fed_in xs) (issued + issued_in xs) ys rows)) (sym h.0)
    ∙ ap (λ r. Fed n ∷ (xs ++ feed_from r (issued + issued_in xs) ys rows)) (omega arith)))
feed_of_rows row issued rows (Issued r ∷ xs) pre rest h within e rise =
    let zs : List ℕ = issue_rows row xs ++ rest in
    let ys : List ℕ = pre ++ row ∷ zs in
    let same : (pre ++ row ∷ []) ++ zs ≡ ys = append_assoc pre (row ∷ []) zs in
    let l : length (pre ++ row ∷ []) ≡ suc issued = (let a = length-append pre (row ∷ []) in omega (arith, a, e)) in
    let rec = feed_of_rows row (suc issued) rows xs (pre ++ row ∷ []) rest h.1 within l rise in
    let more : feed_from row (suc issued) ys rows ≡ xs ++ feed_from (row + fed_in xs) (suc issued + issued_in xs) ys rows =
    subst (λ ws. feed_from row (suc issued) ws rows ≡ xs ++ feed_from (row + fed_in xs) (suc issued + issued_in xs) ws rows) same rec in
    rest_issue ys rows row issued row (get_past pre issued row zs e) (omega arith)
    ∙ (ap (λ l. Issued (suc issued) ∷ l) more
    ∙ (ap (λ m. Issued m ∷ (xs ++ feed_from (row + fed_in xs) (suc issued + issued_in xs) ys rows)) (sym h.0)
    ∙ ap (λ i. Issued r ∷ (xs ++ feed_from (row + fed_in xs) i ys rows)) (omega arith)))
feed_of_rows row issued rows (Stopped ∷ xs) pre rest h within e rise = absurd h

-- ---- how many rows a feed feeds

none_fed : (test : ℕ → Bool) (rows r : ℕ) (xs : List ℕ) → fed_in (issued_where test rows r xs) ≡ 0
none_fed test rows r [] = refl
none_fed test rows r (a ∷ xs) = go (test (min a rows)) (none_fed test rows (r + 1) xs)
  where
    go : (b : Bool) → fed_in (issued_where test rows (r + 1) xs) ≡ 0 → fed_in (cond b (Issued r ∷ issued_where test rows (r + 1) xs) (issued_where test rows (r + 1) xs)) ≡ 0
    go true h = h
    go false h = h

fed_after : (xs : List ℕ) (r row rows left : ℕ) → fed_in (feed_after xs r row rows left) ≡ left
fed_after xs r row rows zero = refl
fed_after xs r row rows (suc left) =
    let a = fed_in-append (issued_after (row + 1) rows r xs) (feed_after xs r (row + 1) rows left) in
    let b = none_fed (λ after. after == row + 1) rows r xs in
    let c = fed_after xs r (row + 1) rows left in
    omega (arith, a, b, c)

pub fed_from : (row issued : ℕ) (xs : List ℕ) (rows : ℕ) → fed_in (feed_from row issued xs rows) ≡ rows - row
fed_from row issued xs rows =
    let a = fed_in-append (issued_at_first row rows (issued + 1) (drop issued xs)) (feed_after (drop issued xs) (issued + 1) row rows (rows - row)) in
    let b = none_fed (λ after. nat_le after row) rows (issued + 1) (drop issued xs) in
    let c = fed_after (drop issued xs) (issued + 1) row rows (rows - row) in
    omega (arith, a, b, c)

-- no more rows are fed than there are
pub fed_within : (issued rows : ℕ) (xs : List ℕ) (feeds : List Feed) (row : ℕ) → row ≡ fed_in feeds → feed_from 0 0 xs rows ≡ feeds ++ feed_from row issued xs rows → row ≤ rows
fed_within issued rows xs feeds row is going =
    let a = fed_from 0 0 xs rows in
    let b = fed_from row issued xs rows in
    let c = fed_in-append feeds (feed_from row issued xs rows) in
    let d = ap fed_in going in
    omega (arith, a, b, c, d, is)

-- ---- places among the rows

-- where the last row stood first, another row stands
pub at_swapped : (xs : List ℕ) (row rows : ℕ) (rest : List ℕ) (place w : ℕ) → slice_get (xs ++ row ∷ rest) place ≡ Some w
    → ((place ≡ length xs) × (w ≡ row)) ⊎ (slice_get (xs ++ rows ∷ rest) place ≡ Some w)
at_swapped [] row rows rest zero w g = inl (refl, sym (same_Some row w g))
at_swapped [] row rows rest (suc place) w g = inr g
at_swapped (x ∷ xs) row rows rest zero w g = inr g
at_swapped (x ∷ xs) row rows rest (suc place) w g = elim (at_swapped xs row rows rest place w g) [ inl p ↦ inl (ap suc p.0, p.1) | inr h ↦ inr h ]

pub length_replicate : (k x : ℕ) → length (replicate k x) ≡ k
length_replicate zero x = refl
length_replicate (suc k) x = ap suc (length_replicate k x)

-- behind the requests that are issued stands the last row
pub at_waiting : (xs : List ℕ) (count rows a : ℕ) → slice_get (xs ++ replicate count rows) (length xs) ≡ Some a → (a ≡ rows) × (0 < count)
at_waiting [] zero rows a g = absurd (cc)
at_waiting [] (suc count) rows a g = (sym (same_Some rows a g), omega arith)
at_waiting (x ∷ xs) count rows a g = at_waiting xs count rows a g

pub at_replicate : (k x place y : ℕ) → slice_get (replicate k x) place ≡ Some y → y ≡ x
at_replicate zero x place y g = absurd (cc)
at_replicate (suc k) x zero y g = sym (same_Some x y g)
at_replicate (suc k) x (suc place) y g = at_replicate k x place y g
