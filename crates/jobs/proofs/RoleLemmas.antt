-- What the rows of all kinds have in common, so that nothing above goes through the kinds.
use Rattle.std.proofs.Common.{◌≡◌, ◌≤◌, Bool, ◌&&◌, true, false, refl, lit≤}
use Rattle.std.specs.Prelude.{nat_le}
use Rattle.std.proofs.lemmas.Bool.{not-true}
use Rattle.jobs.specs.declared.func.Func.{Func}
use Rattle.jobs.specs.declared.kind.Kind.{Kind}
use Rattle.jobs.specs.declared.kind.Kind.TheVariants as kind
use Rattle.jobs.specs.Kinds.{KindView, are_copies, are_free, are_none, are_pieces, are_sinks, are_sources, kind_of, row_at, row_of}
use Rattle.jobs.specs.Nodes.{is_source}
use Rattle.jobs.specs.Ports.{may_enter}

-- the row of a source: one edge leaves it, it makes several of nothing, and requests leave it as it is
pub record IsSourceRow (row : KindView) : Type 0 where
  pub leaves_one : (row.least_outs ≡ 1) × (row.most_outs ≡ 1)
  pub pieces : are_pieces row.shape ≡ false
  pub copies : are_copies row.shape ≡ false
  pub fixed : are_none row.followers ≡ true
  pub free : are_free row.followers ≡ false

-- the row of a kind that requests may change into another: an operator that neither copies nor counts, which one edge may leave
pub record IsFreeRow (row : KindView) : Type 0 where
  pub source : are_sources row.role ≡ false
  pub sink : are_sinks row.role ≡ false
  pub copies : are_copies row.shape ≡ false
  pub counts : row.counts ≡ false
  pub leaves_one : (nat_le row.least_outs 1 && nat_le 1 row.most_outs) ≡ true

-- the row of a kind
pub record IsKindRow (row : KindView) : Type 0 where
  pub few_workers : row.most_workers ≤ 8
  pub few_outs : row.most_outs ≤ 8
  pub of_source : are_sources row.role ≡ true → IsSourceRow row
  pub of_free : are_free row.followers ≡ true → IsFreeRow row

free_row : {row : KindView} → are_sources row.role ≡ false → are_sinks row.role ≡ false → are_copies row.shape ≡ false → row.counts ≡ false
    → (nat_le row.least_outs 1 && nat_le 1 row.most_outs) ≡ true → IsFreeRow row
free_row source sink copies counts one = record { source = source; sink = sink; copies = copies; counts = counts; leaves_one = one }

row_is : (k : Kind) → IsKindRow (row_of k)
row_is kind.Source = record {
  few_workers = lit≤ tt;
  few_outs = lit≤ tt;
  of_source = λ h. record { leaves_one = (refl, refl); pieces = refl; copies = refl; fixed = refl; free = refl };
  of_free = λ h. absurd (cc);
}
row_is kind.Filter = record { few_workers = lit≤ tt; few_outs = lit≤ tt; of_source = λ h. absurd (cc); of_free = λ h. free_row refl refl refl refl refl }
row_is kind.Map = record { few_workers = lit≤ tt; few_outs = lit≤ tt; of_source = λ h. absurd (cc); of_free = λ h. free_row refl refl refl refl refl }
row_is kind.Enrich = record { few_workers = lit≤ tt; few_outs = lit≤ tt; of_source = λ h. absurd (cc); of_free = λ h. free_row refl refl refl refl refl }
row_is kind.Count = record { few_workers = lit≤ tt; few_outs = lit≤ tt; of_source = λ h. absurd (cc); of_free = λ h. absurd (cc) }
row_is kind.Dedupe = record { few_workers = lit≤ tt; few_outs = lit≤ tt; of_source = λ h. absurd (cc); of_free = λ h. absurd (cc) }
row_is kind.Clamp = record { few_workers = lit≤ tt; few_outs = lit≤ tt; of_source = λ h. absurd (cc); of_free = λ h. free_row refl refl refl refl refl }
row_is kind.Split = record { few_workers = lit≤ tt; few_outs = lit≤ tt; of_source = λ h. absurd (cc); of_free = λ h. free_row refl refl refl refl refl }
row_is kind.Replicate = record { few_workers = lit≤ tt; few_outs = lit≤ tt; of_source = λ h. absurd (cc); of_free = λ h. absurd (cc) }
row_is kind.Sink = record { few_workers = lit≤ tt; few_outs = lit≤ tt; of_source = λ h. absurd (cc); of_free = λ h. absurd (cc) }

-- the row of a function's kind
pub kind_row : (f : Func) → IsKindRow (row_at f)
kind_row f = row_is (kind_of f)

-- a source isn't entered, and every other node is
pub source_unentered : (f : Func) (entered : Bool) → is_source f ≡ true → may_enter f entered ≡ true → entered ≡ false
source_unentered f entered source may = not-true entered (rw source at may)

pub other_entered : (f : Func) (entered : Bool) → is_source f ≡ false → may_enter f entered ≡ true → entered ≡ true
other_entered f entered other may = rw other at may
