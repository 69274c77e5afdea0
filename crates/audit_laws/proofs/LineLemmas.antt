-- A line is told by its fields.
use Rattle.std.proofs.Common.{◌≡◌, ◌∙◌, ◌<◌, ◌≤◌, ◌^◌, ◌++◌, ℕ, ℤ, List, [], ◌∷◌, refl, sym, ap, ap₂, arith, All, Some, slice_get, codes, decimal, get_or, sum}
use Rattle.std.specs.List.{AllByRecursion}
use Rattle.std.proofs.lemmas.Fmt.{decimal_injective, signed_decimal_injective}
use Rattle.std.proofs.lemmas.List.{append_cancel_left}
use Rattle.std.proofs.lemmas.List.Elements.{recursion_from_All}
use Rattle.jobs.specs.JobView.{JobView}
use Rattle.sink_journal.specs.declared.journal.Feed.TheVariants as feed
use Rattle.flow_model.proofs.WorkerLemmas.{item_at}
use Rattle.audit_laws.specs.declared.audit.AuditEntry.{AuditEntry}
use Rattle.audit_laws.specs.declared.audit.AuditEntry.TheVariants as kept
use Rattle.audit_laws.specs.declared.audit.Line.{Line}
use Rattle.audit_laws.specs.declared.audit.Line.TheVariants as line
use Rattle.audit_laws.specs.Lines.{IsEntryAt, IsLawfulLine, count_fields, fields_by, kept_fields, line_fields}
use Rattle.audit_laws.specs.Names.{Named, named_workers}
use Rattle.audit_laws.proofs.BirthLemmas.{AreSmall, same_births}

-- the field at a place
abbrev pub field : ℕ → List (List ℕ) → List ℕ
field k fields = get_or fields k []

-- a worker's names tell its number
abbrev pub AreTold : JobView → Type 0
AreTold job =
    (w v : ℕ) (x y : Named) → slice_get (named_workers job.nodes) w ≡ Some x → slice_get (named_workers job.nodes) v ≡ Some y → x.node ≡ y.node → decimal x.place ≡ decimal y.place → w ≡ v

-- the first field of a line
abbrev pub entry_name : AuditEntry → List ℕ
entry_name (kept.Met l row birth) = codes "met"
entry_name (kept.Marked l r) = codes "marked"
entry_name (kept.Turned r) = codes "turned"
entry_name (kept.Ended l) = codes "ended"

abbrev pub name_of : Line → List ℕ
name_of (line.Refused noted) = codes "refused"
name_of (line.Feed (feed.Fed row)) = codes "fed"
name_of (line.Feed (feed.Issued request)) = codes "issued"
name_of (line.Feed feed.Stopped) = codes "stopped"
name_of (line.Step w entry) = entry_name entry
name_of (line.State w key count) = codes "state"

small : (ns : List ℕ) → All (λ n. n < 2 ^ 32) ns → AreSmall ns
small ns h = go ns (recursion_from_All (λ n. n < 2 ^ 32) ns h)
  where
    go : (ns : List ℕ) → AllByRecursion (λ n. n < 2 ^ 32) ns → AreSmall ns
    go [] h = tt
    go (n ∷ ns) h = (let lt : n < 2 ^ 32 = h.0 in omega arith, go ns h.1)

wide : (n : ℕ) → n < 2 ^ 32 → n < 2 ^ 64
wide n lt = omega arith

pub entry_named : (worker : Named) (e : AuditEntry) → field 0 (kept_fields worker e) ≡ entry_name e
entry_named worker (kept.Met l row birth) = refl
entry_named worker (kept.Marked l r) = refl
entry_named worker (kept.Turned r) = refl
entry_named worker (kept.Ended l) = refl

pub entry_node : (worker : Named) (e : AuditEntry) → (field 1 (kept_fields worker e) ≡ worker.node) × (field 2 (kept_fields worker e) ≡ decimal worker.place)
entry_node worker (kept.Met l row birth) = (refl, refl)
entry_node worker (kept.Marked l r) = (refl, refl)
entry_node worker (kept.Turned r) = (refl, refl)
entry_node worker (kept.Ended l) = (refl, refl)

same_entry : (job : JobView) (w v : ℕ) (x y : Named) (e f : AuditEntry) → IsEntryAt job w e → IsEntryAt job v f → kept_fields x e ≡ kept_fields y f → entry_name e ≡ entry_name f → e ≡ f
same_entry job w v x y (kept.Met l row birth) (kept.Met k other births) p q h n =
    let lane : l ≡ k = decimal_injective l k (wide l p.0.0) (wide k q.0.0) (ap (field 3) h) in
    let number : row ≡ other = decimal_injective row other p.1 q.1 (ap (field 4) h) in
    let born : birth ≡ births = same_births birth births (small birth p.2) (small births q.2) (ap (field 5) h) in
    λ i. kept.Met (lane i) (number i) (born i)
same_entry job w v x y (kept.Marked l r) (kept.Marked k s) p q h n =
    let lane : l ≡ k = decimal_injective l k (wide l p.0.0) (wide k q.0.0) (ap (field 3) h) in
    let number : r ≡ s = decimal_injective r s p.1 q.1 (ap (field 4) h) in
    λ i. kept.Marked (lane i) (number i)
same_entry job w v x y (kept.Turned r) (kept.Turned s) p q h n = ap kept.Turned (decimal_injective r s p q (ap (field 4) h))
same_entry job w v x y (kept.Ended l) (kept.Ended k) p q h n = ap kept.Ended (decimal_injective l k (wide l p.0) (wide k q.0) (ap (field 3) h))
same_entry job w v x y e f p q h n = absurd (omega (arith, ap sum n))

-- ---- lines

pub line_named : (job : JobView) (l : Line) → IsLawfulLine job l → field 0 (line_fields (named_workers job.nodes) l) ≡ name_of l
line_named job (line.Refused noted) h = refl
line_named job (line.Feed (feed.Fed row)) h = refl
line_named job (line.Feed (feed.Issued request)) h = refl
line_named job (line.Feed feed.Stopped) h = refl
line_named job (line.Step w entry) h =
    let x = item_at (named_workers job.nodes) w h.0 in
    ap (λ o. field 0 (fields_by (λ worker. kept_fields worker entry) o)) x.1 ∙ entry_named x.0 entry
line_named job (line.State w key count) h =
    let x = item_at (named_workers job.nodes) w h.0 in
    ap (λ o. field 0 (fields_by (λ worker. count_fields worker (key, count)) o)) x.1

-- the name of an entry is none of these others
step_apart : (e : AuditEntry) (n : ℕ) → sum (entry_name e) ≡ n → (n ≡ 326 → ⊥) → (n ≡ 628 → ⊥) → (n ≡ 658 → ⊥) → (n ≡ 512 → ⊥) → ⊥
step_apart (kept.Met l row birth) n is a b c d = a (sym is)
step_apart (kept.Marked l r) n is a b c d = b (sym is)
step_apart (kept.Turned r) n is a b c d = c (sym is)
step_apart (kept.Ended l) n is a b c d = d (sym is)

apart : (e : AuditEntry) (n : ℕ) (name : List ℕ) → entry_name e ≡ name → sum name ≡ n → (n ≡ 326 → ⊥) → (n ≡ 628 → ⊥) → (n ≡ 658 → ⊥) → (n ≡ 512 → ⊥) → ⊥
apart e n name is total a b c d = step_apart e n (ap sum is ∙ total) a b c d

small_code : (a b : ℕ) → a ≤ 10 → b ≤ 10 → codes "Q" ++ decimal a ≡ codes "Q" ++ decimal b → a ≡ b
small_code a b p q e =
    let tail : decimal a ≡ decimal b = append_cancel_left (codes "Q") (decimal a) (decimal b) e in
    decimal_injective a b (omega arith) (omega arith) tail

module _ (job : JobView) (told : AreTold job) where
  same_step : (w v : ℕ) (e f : AuditEntry) → IsLawfulLine job (line.Step w e) → IsLawfulLine job (line.Step v f)
      → line_fields (named_workers job.nodes) (line.Step w e) ≡ line_fields (named_workers job.nodes) (line.Step v f) → entry_name e ≡ entry_name f → line.Step w e ≡ line.Step v f
  same_step w v e f p q h n =
      let x = item_at (named_workers job.nodes) w p.0 in
      let y = item_at (named_workers job.nodes) v q.0 in
      let g : kept_fields x.0 e ≡ kept_fields y.0 f =
      sym (ap (fields_by (λ worker. kept_fields worker e)) x.1) ∙ (h ∙ ap (fields_by (λ worker. kept_fields worker f)) y.1) in
      let a = entry_node x.0 e in
      let b = entry_node y.0 f in
      let same : e ≡ f = same_entry job w v x.0 y.0 e f p.1 q.1 g n in
      let number : w ≡ v = told w v x.0 y.0 x.1 y.1 (sym a.0 ∙ (ap (field 1) g ∙ b.0)) (sym a.1 ∙ (ap (field 2) g ∙ b.1)) in
      ap₂ line.Step number same

  same_state : (w v : ℕ) (key other : List ℕ) (count number : ℤ) → IsLawfulLine job (line.State w key count) → IsLawfulLine job (line.State v other number)
      → line_fields (named_workers job.nodes) (line.State w key count) ≡ line_fields (named_workers job.nodes) (line.State v other number) → line.State w key count ≡ line.State v other number
  same_state w v key other count number p q h =
      let x = item_at (named_workers job.nodes) w p.0 in
      let y = item_at (named_workers job.nodes) v q.0 in
      let g : count_fields x.0 (key, count) ≡ count_fields y.0 (other, number) =
      sym (ap (fields_by (λ worker. count_fields worker (key, count))) x.1) ∙ (h ∙ ap (fields_by (λ worker. count_fields worker (other, number))) y.1) in
      let at : w ≡ v = told w v x.0 y.0 x.1 y.1 (ap (field 1) g) (ap (field 2) g) in
      let value : count ≡ number = signed_decimal_injective count number p.1 q.1 (ap (field 4) g) in
      let text : key ≡ other = ap (field 5) g in
      λ i. line.State (at i) (text i) (value i)

  by_name : (a b : Line) → IsLawfulLine job a → IsLawfulLine job b → line_fields (named_workers job.nodes) a ≡ line_fields (named_workers job.nodes) b → name_of a ≡ name_of b → a ≡ b
  by_name (line.Refused noted) (line.Refused other) p q h n =
      let at : noted.place ≡ other.place = decimal_injective noted.place other.place (wide noted.place p.0) (wide other.place q.0) (ap (field 4) h) in
      let is : noted.code ≡ other.code = small_code noted.code other.code p.2 q.2 (ap (field 5) h) in
      λ i. line.Refused (record { place = at i; code = is i })
  by_name (line.Feed (feed.Fed row)) (line.Feed (feed.Fed other)) p q h n = ap (λ r. line.Feed (feed.Fed r)) (decimal_injective row other p q (ap (field 4) h))
  by_name (line.Feed (feed.Issued r)) (line.Feed (feed.Issued other)) p q h n = ap (λ r. line.Feed (feed.Issued r)) (decimal_injective r other p q (ap (field 4) h))
  by_name (line.Feed feed.Stopped) (line.Feed feed.Stopped) p q h n = refl
  by_name (line.Step w e) (line.Step v f) p q h n = same_step w v e f p q h n
  by_name (line.State w key count) (line.State v other number) p q h n = same_state w v key other count number p q h
  by_name (line.Step w e) (line.Refused noted) p q h n = absurd (apart e 750 (codes "refused") n refl (λ h. omega arith) (λ h. omega arith) (λ h. omega arith) (λ h. omega arith))
  by_name (line.Step w e) (line.Feed (feed.Fed row)) p q h n = absurd (apart e 303 (codes "fed") n refl (λ h. omega arith) (λ h. omega arith) (λ h. omega arith) (λ h. omega arith))
  by_name (line.Step w e) (line.Feed (feed.Issued r)) p q h n = absurd (apart e 653 (codes "issued") n refl (λ h. omega arith) (λ h. omega arith) (λ h. omega arith) (λ h. omega arith))
  by_name (line.Step w e) (line.Feed feed.Stopped) p q h n = absurd (apart e 767 (codes "stopped") n refl (λ h. omega arith) (λ h. omega arith) (λ h. omega arith) (λ h. omega arith))
  by_name (line.Step w e) (line.State v key count) p q h n = absurd (apart e 545 (codes "state") n refl (λ h. omega arith) (λ h. omega arith) (λ h. omega arith) (λ h. omega arith))
  by_name (line.Refused noted) (line.Step w e) p q h n = absurd (apart e 750 (codes "refused") (sym n) refl (λ h. omega arith) (λ h. omega arith) (λ h. omega arith) (λ h. omega arith))
  by_name (line.Feed (feed.Fed row)) (line.Step w e) p q h n = absurd (apart e 303 (codes "fed") (sym n) refl (λ h. omega arith) (λ h. omega arith) (λ h. omega arith) (λ h. omega arith))
  by_name (line.Feed (feed.Issued r)) (line.Step w e) p q h n = absurd (apart e 653 (codes "issued") (sym n) refl (λ h. omega arith) (λ h. omega arith) (λ h. omega arith) (λ h. omega arith))
  by_name (line.Feed feed.Stopped) (line.Step w e) p q h n = absurd (apart e 767 (codes "stopped") (sym n) refl (λ h. omega arith) (λ h. omega arith) (λ h. omega arith) (λ h. omega arith))
  by_name (line.State v key count) (line.Step w e) p q h n = absurd (apart e 545 (codes "state") (sym n) refl (λ h. omega arith) (λ h. omega arith) (λ h. omega arith) (λ h. omega arith))
  by_name (line.Refused noted) (line.Feed (feed.Fed row)) p q h n = absurd (omega (arith, ap sum n))
  by_name (line.Feed (feed.Fed row)) (line.Refused noted) p q h n = absurd (omega (arith, ap sum n))
  by_name (line.Refused noted) (line.Feed (feed.Issued r)) p q h n = absurd (omega (arith, ap sum n))
  by_name (line.Feed (feed.Issued r)) (line.Refused noted) p q h n = absurd (omega (arith, ap sum n))
  by_name (line.Refused noted) (line.Feed feed.Stopped) p q h n = absurd (omega (arith, ap sum n))
  by_name (line.Feed feed.Stopped) (line.Refused noted) p q h n = absurd (omega (arith, ap sum n))
  by_name (line.State v key count) (line.Feed (feed.Fed row)) p q h n = absurd (omega (arith, ap sum n))
  by_name (line.Feed (feed.Fed row)) (line.State v key count) p q h n = absurd (omega (arith, ap sum n))
  by_name (line.State v key count) (line.Feed (feed.Issued r)) p q h n = absurd (omega (arith, ap sum n))
  by_name (line.Feed (feed.Issued r)) (line.State v key count) p q h n = absurd (omega (arith, ap sum n))
  by_name (line.State v key count) (line.Feed feed.Stopped) p q h n = absurd (omega (arith, ap sum n))
  by_name (line.Feed feed.Stopped) (line.State v key count) p q h n = absurd (omega (arith, ap sum n))
  by_name a b p q h n = absurd (omega (arith, ap sum n))

  -- two lines with the same fields are the same
  pub same_line : (a b : Line) → IsLawfulLine job a → IsLawfulLine job b → line_fields (named_workers job.nodes) a ≡ line_fields (named_workers job.nodes) b → a ≡ b
  same_line a b p q h = by_name a b p q h (sym (line_named job a p) ∙ (ap (field 0) h ∙ line_named job b q))
