-- The kinds of functions: a row each, and what is read off it.
use Rattle.std.specs.Prelude.{ℕ, Bool, true, false, List, [], ◌∷◌, Option, Some, None, codes, find}
use Rattle.std.specs.Str.{bytes_eq}
use Rattle.jobs.specs.declared.func.Func.{Func}
use Rattle.jobs.specs.declared.func.Func.TheVariants as func
use Rattle.jobs.specs.declared.kind.Followers.{Followers}
use Rattle.jobs.specs.declared.kind.Followers.TheVariants as followers
use Rattle.jobs.specs.declared.kind.Kind.{Kind}
use Rattle.jobs.specs.declared.kind.Kind.TheVariants as kind
use Rattle.jobs.specs.declared.kind.Role.{Role}
use Rattle.jobs.specs.declared.kind.Role.TheVariants as role
use Rattle.jobs.specs.declared.kind.Shape.{Shape}
use Rattle.jobs.specs.declared.kind.Shape.TheVariants as shape
use Rattle.tuple_trace.specs.declared.limits.TheConstants.{MAX_NODE_WORKERS}

-- what a kind asks of its nodes, and what they do; the fields are those of `KindRow`
pub record KindView : Type 0 where
  pub name : List ℕ
  pub keys : List (List ℕ)
  pub role : Role
  pub shape : Shape
  pub least_outs : ℕ
  pub most_outs : ℕ
  pub most_workers : ℕ
  pub counts : Bool
  pub followers : Followers

-- the row of a kind
abbrev pub row_of : Kind → KindView
row_of kind.Source = record {
  name = codes "source";
  keys = [];
  role = role.Source;
  shape = shape.Nothing;
  least_outs = 1;
  most_outs = 1;
  most_workers = 1;
  counts = false;
  followers = followers.Nothing;
}
row_of kind.Filter = record {
  name = codes "filter";
  keys = codes "when" ∷ [];
  role = role.Operator;
  shape = shape.AtMostOne;
  least_outs = 1;
  most_outs = 2;
  most_workers = MAX_NODE_WORKERS;
  counts = false;
  followers = followers.FreeKinds;
}
row_of kind.Map = record {
  name = codes "map";
  keys = codes "steps" ∷ [];
  role = role.Operator;
  shape = shape.AtMostOne;
  least_outs = 1;
  most_outs = 1;
  most_workers = MAX_NODE_WORKERS;
  counts = false;
  followers = followers.FreeKinds;
}
row_of kind.Enrich = record {
  name = codes "enrich";
  keys = codes "key" ∷ codes "into" ∷ codes "table" ∷ codes "other" ∷ [];
  role = role.Operator;
  shape = shape.AtMostOne;
  least_outs = 1;
  most_outs = 1;
  most_workers = MAX_NODE_WORKERS;
  counts = false;
  followers = followers.FreeKinds;
}
row_of kind.Count = record {
  name = codes "count";
  keys = codes "key" ∷ codes "add" ∷ codes "into" ∷ [];
  role = role.Operator;
  shape = shape.AtMostOne;
  least_outs = 1;
  most_outs = 1;
  most_workers = MAX_NODE_WORKERS;
  counts = true;
  followers = followers.SameKind;
}
row_of kind.Dedupe = record {
  name = codes "dedupe";
  keys = codes "key" ∷ [];
  role = role.Operator;
  shape = shape.AtMostOne;
  least_outs = 1;
  most_outs = 1;
  most_workers = MAX_NODE_WORKERS;
  counts = true;
  followers = followers.SameKind;
}
row_of kind.Clamp = record {
  name = codes "clamp";
  keys = codes "on" ∷ codes "low" ∷ codes "high" ∷ [];
  role = role.Operator;
  shape = shape.AtMostOne;
  least_outs = 1;
  most_outs = 1;
  most_workers = MAX_NODE_WORKERS;
  counts = false;
  followers = followers.FreeKinds;
}
row_of kind.Split = record {
  name = codes "split";
  keys = codes "on" ∷ codes "by" ∷ codes "most" ∷ [];
  role = role.Operator;
  shape = shape.Pieces;
  least_outs = 1;
  most_outs = 1;
  most_workers = MAX_NODE_WORKERS;
  counts = false;
  followers = followers.FreeKinds;
}
row_of kind.Replicate = record {
  name = codes "replicate";
  keys = [];
  role = role.Operator;
  shape = shape.Copies;
  least_outs = 2;
  most_outs = 8;
  most_workers = MAX_NODE_WORKERS;
  counts = false;
  followers = followers.Nothing;
}
row_of kind.Sink = record {
  name = codes "sink";
  keys = codes "columns" ∷ [];
  role = role.Sink;
  shape = shape.Nothing;
  least_outs = 0;
  most_outs = 0;
  most_workers = 1;
  counts = false;
  followers = followers.Nothing;
}

-- the kind of a function
abbrev pub kind_of : Func → Kind
kind_of func.Source = kind.Source
kind_of (func.Filter conds) = kind.Filter
kind_of (func.Map steps) = kind.Map
kind_of (func.Enrich lookup) = kind.Enrich
kind_of (func.Count count) = kind.Count
kind_of (func.Dedupe dedupe) = kind.Dedupe
kind_of (func.Clamp clamp) = kind.Clamp
kind_of (func.Split split) = kind.Split
kind_of func.Replicate = kind.Replicate
kind_of (func.Sink listed) = kind.Sink

-- the two kinds are one
abbrev pub is_kind : Kind → Kind → Bool
is_kind kind.Source kind.Source = true
is_kind kind.Filter kind.Filter = true
is_kind kind.Map kind.Map = true
is_kind kind.Enrich kind.Enrich = true
is_kind kind.Count kind.Count = true
is_kind kind.Dedupe kind.Dedupe = true
is_kind kind.Clamp kind.Clamp = true
is_kind kind.Split kind.Split = true
is_kind kind.Replicate kind.Replicate = true
is_kind kind.Sink kind.Sink = true
is_kind _ _ = false

-- the row of a function's kind
abbrev pub row_at : Func → KindView
row_at func = row_of (kind_of func)

-- the column whose texts are the keys that a function counts by, if it counts
abbrev pub key_of : Func → Option ℕ
key_of (func.Count count) = Some count.key
key_of (func.Dedupe dedupe) = Some dedupe.key
key_of _ = None

-- rows enter at its nodes
abbrev pub are_sources : Role → Bool
are_sources role.Source = true
are_sources role.Operator = false
are_sources role.Sink = false

-- what comes to its nodes is an alert
abbrev pub are_sinks : Role → Bool
are_sinks role.Source = false
are_sinks role.Operator = false
are_sinks role.Sink = true

-- tuples are made of the pieces of one
abbrev pub are_pieces : Shape → Bool
are_pieces shape.Nothing = false
are_pieces shape.AtMostOne = false
are_pieces shape.Pieces = true
are_pieces shape.Copies = false

-- copies leave along all edges
abbrev pub are_copies : Shape → Bool
are_copies shape.Nothing = false
are_copies shape.AtMostOne = false
are_copies shape.Pieces = false
are_copies shape.Copies = true

-- several tuples may be made of one
abbrev pub are_several : Shape → Bool
are_several shape.Nothing = false
are_several shape.AtMostOne = false
are_several shape.Pieces = true
are_several shape.Copies = true

-- no function may follow
abbrev pub are_none : Followers → Bool
are_none followers.Nothing = true
are_none followers.SameKind = false
are_none followers.FreeKinds = false

-- functions of other kinds may follow
abbrev pub are_free : Followers → Bool
are_free followers.Nothing = false
are_free followers.SameKind = false
are_free followers.FreeKinds = true

-- all kinds
abbrev pub all_kinds : List Kind
all_kinds =
    kind.Source ∷ kind.Filter ∷ kind.Map ∷ kind.Enrich
    ∷ kind.Count ∷ kind.Dedupe ∷ kind.Clamp ∷ kind.Split ∷ kind.Replicate ∷ kind.Sink ∷ []

-- the kind has the name
abbrev pub has_name : List ℕ → Kind → Bool
has_name word kind = bytes_eq word (row_of kind).name

-- the kind of a word
abbrev pub kind_named : List ℕ → Option Kind
kind_named word = find (has_name word) all_kinds
