-- What a search sees of a namespace, as it stands or as an opening will leave it.
use Rattle.std.specs.Prelude.{ℕ, List, ◌++◌}
use Rattle.ld_base.specs.declared.linking.Loaded.{Loaded}
use Rattle.scope_rule.specs.declared.namespace.Namespace.{Namespace}
use Rattle.scope_rule.specs.declared.namespace.OpenRec.{OpenRec}
use Rattle.scope_rule.specs.declared.view.View.{View}

-- its objects in load order, the serials of those that are global, and its openings
pub record Seen : Type 0 where
  pub objects : List Loaded
  pub global : List ℕ
  pub opens : List OpenRec

-- a namespace as it stands
abbrev pub seen_in : Namespace → Seen
seen_in ns = record { objects = ns.objects; global = ns.global; opens = ns.opens }

-- what a view lends: the objects that were there, and the new ones behind them
abbrev pub seen : View → Seen
seen v = record { objects = v.objects.now ++ v.added.now; global = v.global.now; opens = v.opens.now }

-- the same with new objects behind its own
abbrev pub with_added : Seen → List Loaded → Seen
with_added s added = record s { objects = s.objects ++ added }
