-- Requests that are appended to others.
use Rattle.std.specs.Prelude.{◌≡◌, ◌++◌, List}
use Rattle.versions.specs.declared.in_order.Judged.{Judged}
use Rattle.versions.specs.declared.in_order.Refused.{Refused}
use Rattle.versions.specs.declared.request.Request.{Request}

-- what the first judging accepts and refuses, the second does too, and then it does others
pub record IsJudgedPrefix (first second : Judged) : Type 0 where
  pub accepted : List Request
  pub refused : List Refused
  pub accepted_is : second.accepted ≡ first.accepted ++ accepted
  pub refused_is : second.refused ≡ first.refused ++ refused
