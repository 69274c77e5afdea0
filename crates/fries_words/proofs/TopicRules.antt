-- The rules of each command read its form, by computing.
use Rattle.std.proofs.Common.{◌≡◌, ◌≢◌, ℕ, List, [], true, refl, codes}
use Rattle.std.specs.Prelude.{unwrap_or, find}
use Rattle.clap.specs.Simple.{Shape, built, help_shape, is_simple, label_of, new_rule}
use Rattle.clap.specs.Walk.{Rule, Text, answers_to, arg_by_index, arg_by_long}
use Rattle.clap.proofs.OnLiterals.{clap_on_literals}
use Rattle.fries_words.specs.Apps.{program_app}
use Rattle.fries_words.specs.Words.{capacity_option, every_option, form_of, from_option}
use Rattle.fries_words.specs.Words.{exact_flag, live_flag, stream_flag}
use Rattle.fries_words.specs.Words.{ordered_flag, progress_flag, resume_flag, save_option}
use Rattle.fries_words.specs.Words.{threads_option}
use Rattle.fries_words.specs.declared.topic.Topic.{Topic}
use Rattle.fries_words.specs.declared.topic.Topic.TheVariants as topic
use Rattle.fries_words.proofs.WalkLemmas.{IsFlag, IsName, IsOption, Reads}

-- the word of a command; the program itself has none
abbrev pub word_of : Topic → Text
word_of topic.Program = []
word_of topic.First = codes "first"
word_of topic.Check = codes "check"
word_of topic.Plan = codes "plan"
word_of topic.Run = codes "run"
word_of topic.Make = codes "make"
word_of topic.Save = codes "save"
word_of topic.Resume = codes "resume"
word_of topic.Live = codes "live"
word_of topic.Verify = codes "verify"
word_of topic.Stream = codes "stream"

-- a command, as it is built
abbrev pub shape_at : Topic → Shape
shape_at about =
    unwrap_or (find (λ s. answers_to (word_of about) (label_of s)) (built program_app).subs)
    help_shape

-- its rules
abbrev pub rules_of : Topic → List Rule
rules_of about = (shape_at about).rules

pub program_is_simple : is_simple program_app ≡ true
unfolding clap_on_literals
program_is_simple = refl

-- ---- the rules read the forms

abbrev rule_at : List Rule → ℕ → Rule
rule_at rules place = unwrap_or (arg_by_index rules place) (new_rule [])

abbrev rule_called : List Rule → Text → Rule
rule_called rules id = unwrap_or (arg_by_long rules id) (new_rule [])

-- a name, an option and a flag of a command, by computing
first_payments : IsName (rules_of topic.First) 1 (codes "payments")
unfolding clap_on_literals
first_payments =
    record {
      rule = rule_at (rules_of topic.First) 1;
      at = refl;
      one = refl;
      single = refl;
      last = refl;
      next = refl;
      by_id = refl;
      use_of = λ value rs. refl;
      passes = λ value rs. refl;
    }

first_alerts : IsName (rules_of topic.First) 2 (codes "alerts")
unfolding clap_on_literals
first_alerts =
    record {
      rule = rule_at (rules_of topic.First) 2;
      at = refl;
      one = refl;
      single = refl;
      last = refl;
      next = refl;
      by_id = refl;
      use_of = λ value rs. refl;
      passes = λ value rs. refl;
    }

first_min : IsName (rules_of topic.First) 3 (codes "min")
unfolding clap_on_literals
first_min =
    record {
      rule = rule_at (rules_of topic.First) 3;
      at = refl;
      one = refl;
      single = refl;
      last = refl;
      next = refl;
      by_id = refl;
      use_of = λ value rs. refl;
      passes = λ value rs. refl;
    }

first_after : IsName (rules_of topic.First) 4 (codes "after")
unfolding clap_on_literals
first_after =
    record {
      rule = rule_at (rules_of topic.First) 4;
      at = refl;
      one = refl;
      single = refl;
      last = refl;
      next = refl;
      by_id = refl;
      use_of = λ value rs. refl;
      passes = λ value rs. refl;
    }

first_min2 : IsName (rules_of topic.First) 5 (codes "min2")
unfolding clap_on_literals
first_min2 =
    record {
      rule = rule_at (rules_of topic.First) 5;
      at = refl;
      one = refl;
      single = refl;
      last = refl;
      next = refl;
      by_id = refl;
      use_of = λ value rs. refl;
      passes = λ value rs. refl;
    }

check_job : IsName (rules_of topic.Check) 1 (codes "job")
unfolding clap_on_literals
check_job =
    record {
      rule = rule_at (rules_of topic.Check) 1;
      at = refl;
      one = refl;
      single = refl;
      last = refl;
      next = refl;
      by_id = refl;
      use_of = λ value rs. refl;
      passes = λ value rs. refl;
    }

plan_job : IsName (rules_of topic.Plan) 1 (codes "job")
unfolding clap_on_literals
plan_job =
    record {
      rule = rule_at (rules_of topic.Plan) 1;
      at = refl;
      one = refl;
      single = refl;
      last = refl;
      next = refl;
      by_id = refl;
      use_of = λ value rs. refl;
      passes = λ value rs. refl;
    }

plan_requests : IsName (rules_of topic.Plan) 2 (codes "requests")
unfolding clap_on_literals
plan_requests =
    record {
      rule = rule_at (rules_of topic.Plan) 2;
      at = refl;
      one = refl;
      single = refl;
      last = refl;
      next = refl;
      by_id = refl;
      use_of = λ value rs. refl;
      passes = λ value rs. refl;
    }

plan_ordered : IsFlag (rules_of topic.Plan) ordered_flag
unfolding clap_on_literals
plan_ordered =
    record {
      rule = rule_called (rules_of topic.Plan) (codes "ordered");
      dashes = refl;
      long = refl;
      by_long = refl;
      takes = refl;
      use_of = λ rs. refl;
      passes = λ rs. refl;
    }

run_job : IsName (rules_of topic.Run) 1 (codes "job")
unfolding clap_on_literals
run_job =
    record {
      rule = rule_at (rules_of topic.Run) 1;
      at = refl;
      one = refl;
      single = refl;
      last = refl;
      next = refl;
      by_id = refl;
      use_of = λ value rs. refl;
      passes = λ value rs. refl;
    }

run_requests : IsName (rules_of topic.Run) 2 (codes "requests")
unfolding clap_on_literals
run_requests =
    record {
      rule = rule_at (rules_of topic.Run) 2;
      at = refl;
      one = refl;
      single = refl;
      last = refl;
      next = refl;
      by_id = refl;
      use_of = λ value rs. refl;
      passes = λ value rs. refl;
    }

run_payments : IsName (rules_of topic.Run) 3 (codes "payments")
unfolding clap_on_literals
run_payments =
    record {
      rule = rule_at (rules_of topic.Run) 3;
      at = refl;
      one = refl;
      single = refl;
      last = refl;
      next = refl;
      by_id = refl;
      use_of = λ value rs. refl;
      passes = λ value rs. refl;
    }

run_alerts : IsName (rules_of topic.Run) 4 (codes "alerts")
unfolding clap_on_literals
run_alerts =
    record {
      rule = rule_at (rules_of topic.Run) 4;
      at = refl;
      one = refl;
      single = refl;
      last = refl;
      next = refl;
      by_id = refl;
      use_of = λ value rs. refl;
      passes = λ value rs. refl;
    }

run_audit : IsName (rules_of topic.Run) 5 (codes "audit")
unfolding clap_on_literals
run_audit =
    record {
      rule = rule_at (rules_of topic.Run) 5;
      at = refl;
      one = refl;
      single = refl;
      last = refl;
      next = refl;
      by_id = refl;
      use_of = λ value rs. refl;
      passes = λ value rs. refl;
    }

run_threads : IsOption (rules_of topic.Run) threads_option
unfolding clap_on_literals
run_threads = record {
  rule = rule_called (rules_of topic.Run) (codes "threads");
  dashes = refl;
  long = refl;
  dashes_joined = λ value. refl;
  joined = λ value. refl;
  by_long = refl;
  takes = refl;
  most = refl;
  called = refl;
  by_id = refl;
  use_of = λ value rs. refl;
  passes = λ value rs. refl;
}

run_capacity : IsOption (rules_of topic.Run) capacity_option
unfolding clap_on_literals
run_capacity = record {
  rule = rule_called (rules_of topic.Run) (codes "capacity");
  dashes = refl;
  long = refl;
  dashes_joined = λ value. refl;
  joined = λ value. refl;
  by_long = refl;
  takes = refl;
  most = refl;
  called = refl;
  by_id = refl;
  use_of = λ value rs. refl;
  passes = λ value rs. refl;
}

run_ordered : IsFlag (rules_of topic.Run) ordered_flag
unfolding clap_on_literals
run_ordered =
    record {
      rule = rule_called (rules_of topic.Run) (codes "ordered");
      dashes = refl;
      long = refl;
      by_long = refl;
      takes = refl;
      use_of = λ rs. refl;
      passes = λ rs. refl;
    }

run_exact : IsFlag (rules_of topic.Run) exact_flag
unfolding clap_on_literals
run_exact =
    record {
      rule = rule_called (rules_of topic.Run) (codes "exact");
      dashes = refl;
      long = refl;
      by_long = refl;
      takes = refl;
      use_of = λ rs. refl;
      passes = λ rs. refl;
    }

make_job : IsName (rules_of topic.Make) 1 (codes "job")
unfolding clap_on_literals
make_job =
    record {
      rule = rule_at (rules_of topic.Make) 1;
      at = refl;
      one = refl;
      single = refl;
      last = refl;
      next = refl;
      by_id = refl;
      use_of = λ value rs. refl;
      passes = λ value rs. refl;
    }

make_seed : IsName (rules_of topic.Make) 2 (codes "seed")
unfolding clap_on_literals
make_seed =
    record {
      rule = rule_at (rules_of topic.Make) 2;
      at = refl;
      one = refl;
      single = refl;
      last = refl;
      next = refl;
      by_id = refl;
      use_of = λ value rs. refl;
      passes = λ value rs. refl;
    }

make_rows : IsName (rules_of topic.Make) 3 (codes "rows")
unfolding clap_on_literals
make_rows =
    record {
      rule = rule_at (rules_of topic.Make) 3;
      at = refl;
      one = refl;
      single = refl;
      last = refl;
      next = refl;
      by_id = refl;
      use_of = λ value rs. refl;
      passes = λ value rs. refl;
    }

make_threads : IsOption (rules_of topic.Make) threads_option
unfolding clap_on_literals
make_threads = record {
  rule = rule_called (rules_of topic.Make) (codes "threads");
  dashes = refl;
  long = refl;
  dashes_joined = λ value. refl;
  joined = λ value. refl;
  by_long = refl;
  takes = refl;
  most = refl;
  called = refl;
  by_id = refl;
  use_of = λ value rs. refl;
  passes = λ value rs. refl;
}

make_ordered : IsFlag (rules_of topic.Make) ordered_flag
unfolding clap_on_literals
make_ordered =
    record {
      rule = rule_called (rules_of topic.Make) (codes "ordered");
      dashes = refl;
      long = refl;
      by_long = refl;
      takes = refl;
      use_of = λ rs. refl;
      passes = λ rs. refl;
    }

save_job : IsName (rules_of topic.Save) 1 (codes "job")
unfolding clap_on_literals
save_job =
    record {
      rule = rule_at (rules_of topic.Save) 1;
      at = refl;
      one = refl;
      single = refl;
      last = refl;
      next = refl;
      by_id = refl;
      use_of = λ value rs. refl;
      passes = λ value rs. refl;
    }

save_requests : IsName (rules_of topic.Save) 2 (codes "requests")
unfolding clap_on_literals
save_requests =
    record {
      rule = rule_at (rules_of topic.Save) 2;
      at = refl;
      one = refl;
      single = refl;
      last = refl;
      next = refl;
      by_id = refl;
      use_of = λ value rs. refl;
      passes = λ value rs. refl;
    }

save_payments : IsName (rules_of topic.Save) 3 (codes "payments")
unfolding clap_on_literals
save_payments =
    record {
      rule = rule_at (rules_of topic.Save) 3;
      at = refl;
      one = refl;
      single = refl;
      last = refl;
      next = refl;
      by_id = refl;
      use_of = λ value rs. refl;
      passes = λ value rs. refl;
    }

save_alerts : IsName (rules_of topic.Save) 4 (codes "alerts")
unfolding clap_on_literals
save_alerts =
    record {
      rule = rule_at (rules_of topic.Save) 4;
      at = refl;
      one = refl;
      single = refl;
      last = refl;
      next = refl;
      by_id = refl;
      use_of = λ value rs. refl;
      passes = λ value rs. refl;
    }

save_audit : IsName (rules_of topic.Save) 5 (codes "audit")
unfolding clap_on_literals
save_audit =
    record {
      rule = rule_at (rules_of topic.Save) 5;
      at = refl;
      one = refl;
      single = refl;
      last = refl;
      next = refl;
      by_id = refl;
      use_of = λ value rs. refl;
      passes = λ value rs. refl;
    }

save_save : IsName (rules_of topic.Save) 6 (codes "save")
unfolding clap_on_literals
save_save =
    record {
      rule = rule_at (rules_of topic.Save) 6;
      at = refl;
      one = refl;
      single = refl;
      last = refl;
      next = refl;
      by_id = refl;
      use_of = λ value rs. refl;
      passes = λ value rs. refl;
    }

save_rows : IsName (rules_of topic.Save) 7 (codes "rows")
unfolding clap_on_literals
save_rows =
    record {
      rule = rule_at (rules_of topic.Save) 7;
      at = refl;
      one = refl;
      single = refl;
      last = refl;
      next = refl;
      by_id = refl;
      use_of = λ value rs. refl;
      passes = λ value rs. refl;
    }

save_threads : IsOption (rules_of topic.Save) threads_option
unfolding clap_on_literals
save_threads = record {
  rule = rule_called (rules_of topic.Save) (codes "threads");
  dashes = refl;
  long = refl;
  dashes_joined = λ value. refl;
  joined = λ value. refl;
  by_long = refl;
  takes = refl;
  most = refl;
  called = refl;
  by_id = refl;
  use_of = λ value rs. refl;
  passes = λ value rs. refl;
}

save_capacity : IsOption (rules_of topic.Save) capacity_option
unfolding clap_on_literals
save_capacity = record {
  rule = rule_called (rules_of topic.Save) (codes "capacity");
  dashes = refl;
  long = refl;
  dashes_joined = λ value. refl;
  joined = λ value. refl;
  by_long = refl;
  takes = refl;
  most = refl;
  called = refl;
  by_id = refl;
  use_of = λ value rs. refl;
  passes = λ value rs. refl;
}

resume_job : IsName (rules_of topic.Resume) 1 (codes "job")
unfolding clap_on_literals
resume_job =
    record {
      rule = rule_at (rules_of topic.Resume) 1;
      at = refl;
      one = refl;
      single = refl;
      last = refl;
      next = refl;
      by_id = refl;
      use_of = λ value rs. refl;
      passes = λ value rs. refl;
    }

resume_requests : IsName (rules_of topic.Resume) 2 (codes "requests")
unfolding clap_on_literals
resume_requests =
    record {
      rule = rule_at (rules_of topic.Resume) 2;
      at = refl;
      one = refl;
      single = refl;
      last = refl;
      next = refl;
      by_id = refl;
      use_of = λ value rs. refl;
      passes = λ value rs. refl;
    }

resume_payments : IsName (rules_of topic.Resume) 3 (codes "payments")
unfolding clap_on_literals
resume_payments =
    record {
      rule = rule_at (rules_of topic.Resume) 3;
      at = refl;
      one = refl;
      single = refl;
      last = refl;
      next = refl;
      by_id = refl;
      use_of = λ value rs. refl;
      passes = λ value rs. refl;
    }

resume_save : IsName (rules_of topic.Resume) 4 (codes "save")
unfolding clap_on_literals
resume_save =
    record {
      rule = rule_at (rules_of topic.Resume) 4;
      at = refl;
      one = refl;
      single = refl;
      last = refl;
      next = refl;
      by_id = refl;
      use_of = λ value rs. refl;
      passes = λ value rs. refl;
    }

resume_alerts : IsName (rules_of topic.Resume) 5 (codes "alerts")
unfolding clap_on_literals
resume_alerts =
    record {
      rule = rule_at (rules_of topic.Resume) 5;
      at = refl;
      one = refl;
      single = refl;
      last = refl;
      next = refl;
      by_id = refl;
      use_of = λ value rs. refl;
      passes = λ value rs. refl;
    }

resume_audit : IsName (rules_of topic.Resume) 6 (codes "audit")
unfolding clap_on_literals
resume_audit =
    record {
      rule = rule_at (rules_of topic.Resume) 6;
      at = refl;
      one = refl;
      single = refl;
      last = refl;
      next = refl;
      by_id = refl;
      use_of = λ value rs. refl;
      passes = λ value rs. refl;
    }

resume_threads : IsOption (rules_of topic.Resume) threads_option
unfolding clap_on_literals
resume_threads = record {
  rule = rule_called (rules_of topic.Resume) (codes "threads");
  dashes = refl;
  long = refl;
  dashes_joined = λ value. refl;
  joined = λ value. refl;
  by_long = refl;
  takes = refl;
  most = refl;
  called = refl;
  by_id = refl;
  use_of = λ value rs. refl;
  passes = λ value rs. refl;
}

resume_capacity : IsOption (rules_of topic.Resume) capacity_option
unfolding clap_on_literals
resume_capacity = record {
  rule = rule_called (rules_of topic.Resume) (codes "capacity");
  dashes = refl;
  long = refl;
  dashes_joined = λ value. refl;
  joined = λ value. refl;
  by_long = refl;
  takes = refl;
  most = refl;
  called = refl;
  by_id = refl;
  use_of = λ value rs. refl;
  passes = λ value rs. refl;
}

live_job : IsName (rules_of topic.Live) 1 (codes "job")
unfolding clap_on_literals
live_job =
    record {
      rule = rule_at (rules_of topic.Live) 1;
      at = refl;
      one = refl;
      single = refl;
      last = refl;
      next = refl;
      by_id = refl;
      use_of = λ value rs. refl;
      passes = λ value rs. refl;
    }

live_requests : IsName (rules_of topic.Live) 2 (codes "requests")
unfolding clap_on_literals
live_requests =
    record {
      rule = rule_at (rules_of topic.Live) 2;
      at = refl;
      one = refl;
      single = refl;
      last = refl;
      next = refl;
      by_id = refl;
      use_of = λ value rs. refl;
      passes = λ value rs. refl;
    }

live_payments : IsName (rules_of topic.Live) 3 (codes "payments")
unfolding clap_on_literals
live_payments =
    record {
      rule = rule_at (rules_of topic.Live) 3;
      at = refl;
      one = refl;
      single = refl;
      last = refl;
      next = refl;
      by_id = refl;
      use_of = λ value rs. refl;
      passes = λ value rs. refl;
    }

live_alerts : IsName (rules_of topic.Live) 4 (codes "alerts")
unfolding clap_on_literals
live_alerts =
    record {
      rule = rule_at (rules_of topic.Live) 4;
      at = refl;
      one = refl;
      single = refl;
      last = refl;
      next = refl;
      by_id = refl;
      use_of = λ value rs. refl;
      passes = λ value rs. refl;
    }

live_audit : IsName (rules_of topic.Live) 5 (codes "audit")
unfolding clap_on_literals
live_audit =
    record {
      rule = rule_at (rules_of topic.Live) 5;
      at = refl;
      one = refl;
      single = refl;
      last = refl;
      next = refl;
      by_id = refl;
      use_of = λ value rs. refl;
      passes = λ value rs. refl;
    }

live_threads : IsOption (rules_of topic.Live) threads_option
unfolding clap_on_literals
live_threads = record {
  rule = rule_called (rules_of topic.Live) (codes "threads");
  dashes = refl;
  long = refl;
  dashes_joined = λ value. refl;
  joined = λ value. refl;
  by_long = refl;
  takes = refl;
  most = refl;
  called = refl;
  by_id = refl;
  use_of = λ value rs. refl;
  passes = λ value rs. refl;
}

live_capacity : IsOption (rules_of topic.Live) capacity_option
unfolding clap_on_literals
live_capacity = record {
  rule = rule_called (rules_of topic.Live) (codes "capacity");
  dashes = refl;
  long = refl;
  dashes_joined = λ value. refl;
  joined = λ value. refl;
  by_long = refl;
  takes = refl;
  most = refl;
  called = refl;
  by_id = refl;
  use_of = λ value rs. refl;
  passes = λ value rs. refl;
}

verify_job : IsName (rules_of topic.Verify) 1 (codes "job")
unfolding clap_on_literals
verify_job =
    record {
      rule = rule_at (rules_of topic.Verify) 1;
      at = refl;
      one = refl;
      single = refl;
      last = refl;
      next = refl;
      by_id = refl;
      use_of = λ value rs. refl;
      passes = λ value rs. refl;
    }

verify_requests : IsName (rules_of topic.Verify) 2 (codes "requests")
unfolding clap_on_literals
verify_requests =
    record {
      rule = rule_at (rules_of topic.Verify) 2;
      at = refl;
      one = refl;
      single = refl;
      last = refl;
      next = refl;
      by_id = refl;
      use_of = λ value rs. refl;
      passes = λ value rs. refl;
    }

verify_payments : IsName (rules_of topic.Verify) 3 (codes "payments")
unfolding clap_on_literals
verify_payments =
    record {
      rule = rule_at (rules_of topic.Verify) 3;
      at = refl;
      one = refl;
      single = refl;
      last = refl;
      next = refl;
      by_id = refl;
      use_of = λ value rs. refl;
      passes = λ value rs. refl;
    }

verify_audit : IsName (rules_of topic.Verify) 4 (codes "audit")
unfolding clap_on_literals
verify_audit =
    record {
      rule = rule_at (rules_of topic.Verify) 4;
      at = refl;
      one = refl;
      single = refl;
      last = refl;
      next = refl;
      by_id = refl;
      use_of = λ value rs. refl;
      passes = λ value rs. refl;
    }

verify_alerts : IsName (rules_of topic.Verify) 5 (codes "alerts")
unfolding clap_on_literals
verify_alerts =
    record {
      rule = rule_at (rules_of topic.Verify) 5;
      at = refl;
      one = refl;
      single = refl;
      last = refl;
      next = refl;
      by_id = refl;
      use_of = λ value rs. refl;
      passes = λ value rs. refl;
    }

verify_ordered : IsFlag (rules_of topic.Verify) ordered_flag
unfolding clap_on_literals
verify_ordered =
    record {
      rule = rule_called (rules_of topic.Verify) (codes "ordered");
      dashes = refl;
      long = refl;
      by_long = refl;
      takes = refl;
      use_of = λ rs. refl;
      passes = λ rs. refl;
    }

verify_save : IsOption (rules_of topic.Verify) save_option
unfolding clap_on_literals
verify_save = record {
  rule = rule_called (rules_of topic.Verify) (codes "save");
  dashes = refl;
  long = refl;
  dashes_joined = λ value. refl;
  joined = λ value. refl;
  by_long = refl;
  takes = refl;
  most = refl;
  called = refl;
  by_id = refl;
  use_of = λ value rs. refl;
  passes = λ value rs. refl;
}

verify_live : IsFlag (rules_of topic.Verify) live_flag
unfolding clap_on_literals
verify_live =
    record {
      rule = rule_called (rules_of topic.Verify) (codes "live");
      dashes = refl;
      long = refl;
      by_long = refl;
      takes = refl;
      use_of = λ rs. refl;
      passes = λ rs. refl;
    }

verify_stream : IsFlag (rules_of topic.Verify) stream_flag
unfolding clap_on_literals
verify_stream =
    record {
      rule = rule_called (rules_of topic.Verify) (codes "stream");
      dashes = refl;
      long = refl;
      by_long = refl;
      takes = refl;
      use_of = λ rs. refl;
      passes = λ rs. refl;
    }

stream_job : IsName (rules_of topic.Stream) 1 (codes "job")
unfolding clap_on_literals
stream_job =
    record {
      rule = rule_at (rules_of topic.Stream) 1;
      at = refl;
      one = refl;
      single = refl;
      last = refl;
      next = refl;
      by_id = refl;
      use_of = λ value rs. refl;
      passes = λ value rs. refl;
    }

stream_requests : IsName (rules_of topic.Stream) 2 (codes "requests")
unfolding clap_on_literals
stream_requests =
    record {
      rule = rule_at (rules_of topic.Stream) 2;
      at = refl;
      one = refl;
      single = refl;
      last = refl;
      next = refl;
      by_id = refl;
      use_of = λ value rs. refl;
      passes = λ value rs. refl;
    }

stream_alerts : IsName (rules_of topic.Stream) 3 (codes "alerts")
unfolding clap_on_literals
stream_alerts =
    record {
      rule = rule_at (rules_of topic.Stream) 3;
      at = refl;
      one = refl;
      single = refl;
      last = refl;
      next = refl;
      by_id = refl;
      use_of = λ value rs. refl;
      passes = λ value rs. refl;
    }

stream_audit : IsName (rules_of topic.Stream) 4 (codes "audit")
unfolding clap_on_literals
stream_audit =
    record {
      rule = rule_at (rules_of topic.Stream) 4;
      at = refl;
      one = refl;
      single = refl;
      last = refl;
      next = refl;
      by_id = refl;
      use_of = λ value rs. refl;
      passes = λ value rs. refl;
    }

stream_threads : IsOption (rules_of topic.Stream) threads_option
unfolding clap_on_literals
stream_threads = record {
  rule = rule_called (rules_of topic.Stream) (codes "threads");
  dashes = refl;
  long = refl;
  dashes_joined = λ value. refl;
  joined = λ value. refl;
  by_long = refl;
  takes = refl;
  most = refl;
  called = refl;
  by_id = refl;
  use_of = λ value rs. refl;
  passes = λ value rs. refl;
}

stream_capacity : IsOption (rules_of topic.Stream) capacity_option
unfolding clap_on_literals
stream_capacity = record {
  rule = rule_called (rules_of topic.Stream) (codes "capacity");
  dashes = refl;
  long = refl;
  dashes_joined = λ value. refl;
  joined = λ value. refl;
  by_long = refl;
  takes = refl;
  most = refl;
  called = refl;
  by_id = refl;
  use_of = λ value rs. refl;
  passes = λ value rs. refl;
}

stream_save : IsOption (rules_of topic.Stream) save_option
unfolding clap_on_literals
stream_save = record {
  rule = rule_called (rules_of topic.Stream) (codes "save");
  dashes = refl;
  long = refl;
  dashes_joined = λ value. refl;
  joined = λ value. refl;
  by_long = refl;
  takes = refl;
  most = refl;
  called = refl;
  by_id = refl;
  use_of = λ value rs. refl;
  passes = λ value rs. refl;
}

stream_every : IsOption (rules_of topic.Stream) every_option
unfolding clap_on_literals
stream_every = record {
  rule = rule_called (rules_of topic.Stream) (codes "every");
  dashes = refl;
  long = refl;
  dashes_joined = λ value. refl;
  joined = λ value. refl;
  by_long = refl;
  takes = refl;
  most = refl;
  called = refl;
  by_id = refl;
  use_of = λ value rs. refl;
  passes = λ value rs. refl;
}

stream_from : IsOption (rules_of topic.Stream) from_option
unfolding clap_on_literals
stream_from = record {
  rule = rule_called (rules_of topic.Stream) (codes "from");
  dashes = refl;
  long = refl;
  dashes_joined = λ value. refl;
  joined = λ value. refl;
  by_long = refl;
  takes = refl;
  most = refl;
  called = refl;
  by_id = refl;
  use_of = λ value rs. refl;
  passes = λ value rs. refl;
}

stream_ordered : IsFlag (rules_of topic.Stream) ordered_flag
unfolding clap_on_literals
stream_ordered =
    record {
      rule = rule_called (rules_of topic.Stream) (codes "ordered");
      dashes = refl;
      long = refl;
      by_long = refl;
      takes = refl;
      use_of = λ rs. refl;
      passes = λ rs. refl;
    }

stream_exact : IsFlag (rules_of topic.Stream) exact_flag
unfolding clap_on_literals
stream_exact =
    record {
      rule = rule_called (rules_of topic.Stream) (codes "exact");
      dashes = refl;
      long = refl;
      by_long = refl;
      takes = refl;
      use_of = λ rs. refl;
      passes = λ rs. refl;
    }

stream_resume : IsFlag (rules_of topic.Stream) resume_flag
unfolding clap_on_literals
stream_resume =
    record {
      rule = rule_called (rules_of topic.Stream) (codes "resume");
      dashes = refl;
      long = refl;
      by_long = refl;
      takes = refl;
      use_of = λ rs. refl;
      passes = λ rs. refl;
    }

stream_progress : IsFlag (rules_of topic.Stream) progress_flag
unfolding clap_on_literals
stream_progress =
    record {
      rule = rule_called (rules_of topic.Stream) (codes "progress");
      dashes = refl;
      long = refl;
      by_long = refl;
      takes = refl;
      use_of = λ rs. refl;
      passes = λ rs. refl;
    }

-- the rules of each command read its form
pub reads : (about : Topic) → about ≢ topic.Program → Reads (rules_of about) (form_of about)
reads topic.Program other = absurd (other refl)
reads topic.First other =
    record {
      names = (first_payments, (first_alerts, (first_min, (first_after, (first_min2, tt)))));
      options = tt;
      flags = tt;
    }
reads topic.Check other = record { names = (check_job, tt); options = tt; flags = tt }
reads topic.Plan other =
    record { names = (plan_job, (plan_requests, tt)); options = tt; flags = (plan_ordered, tt) }
reads topic.Run other =
    record {
      names = (run_job, (run_requests, (run_payments, (run_alerts, (run_audit, tt)))));
      options = (run_threads, (run_capacity, tt));
      flags = (run_ordered, (run_exact, tt));
    }
reads topic.Make other =
    record {
      names = (make_job, (make_seed, (make_rows, tt)));
      options = (make_threads, tt);
      flags = (make_ordered, tt);
    }
reads topic.Save other =
    record {
      names = (
        save_job,
        (
          save_requests,
          (save_payments, (save_alerts, (save_audit, (save_save, (save_rows, tt))))),
        ),
      );
      options = (save_threads, (save_capacity, tt));
      flags = tt;
    }
reads topic.Resume other =
    record {
      names = (
        resume_job,
        (
          resume_requests,
          (resume_payments, (resume_save, (resume_alerts, (resume_audit, tt)))),
        ),
      );
      options = (resume_threads, (resume_capacity, tt));
      flags = tt;
    }
reads topic.Live other =
    record {
      names = (live_job, (live_requests, (live_payments, (live_alerts, (live_audit, tt)))));
      options = (live_threads, (live_capacity, tt));
      flags = tt;
    }
reads topic.Verify other =
    record {
      names = (
        verify_job,
        (
          verify_requests,
          (verify_payments, (verify_audit, (verify_alerts, tt))),
        ),
      );
      options = (verify_save, tt);
      flags = (verify_ordered, (verify_live, (verify_stream, tt)));
    }
reads topic.Stream other =
    record {
      names = (stream_job, (stream_requests, (stream_alerts, (stream_audit, tt))));
      options =
          (stream_threads, (stream_capacity, (stream_save, (stream_every, (stream_from, tt)))));
      flags = (stream_ordered, (stream_exact, (stream_resume, (stream_progress, tt))));
    }
