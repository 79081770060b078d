-- What an opening makes of a namespace (dlopen(3)).
use Rattle.std.specs.Prelude.{ℕ, ◌+◌, Bool, ◌==◌, if◌then◌else◌, List, [], ◌∷◌, ◌++◌, map}
use Rattle.std.specs.List.{list_any}
use Rattle.ld_base.specs.declared.linking.Loaded.{Loaded}
use Rattle.scope_rule.specs.declared.namespace.Namespace.{Namespace}
use Rattle.scope_rule.specs.declared.namespace.OpenRec.{OpenRec}
use Rattle.scope_rule.specs.Breadth.{breadth, extend}
use Rattle.scope_rule.specs.Seen.{Seen, seen_in, with_added}

-- the global list: under RTLD_GLOBAL what the root leads to is put at its end, where it lacks it
abbrev pub global_after : Seen → ℕ → Bool → List ℕ
global_after ns root is_global = if is_global then extend ns.global (breadth ns root) else ns.global

-- an opening of the root counts one more
abbrev pub raised : ℕ → OpenRec → OpenRec
raised root open_of = if open_of.root == root then record open_of { count = open_of.count + 1 } else open_of

-- the openings: the root's counts one more, or there is a new one at the end
abbrev pub opens_after : ℕ → List OpenRec → List OpenRec
opens_after root opens =
    if list_any (λ r. r.root == root) opens then map (raised root) opens
    else opens ++ record { root = root; count = 1 } ∷ []

-- the namespace: its new objects stand at its end
abbrev pub opened : Namespace → List Loaded → ℕ → Bool → Namespace
opened ns added root is_global = record ns {
  objects = ns.objects ++ added;
  global = global_after (with_added (seen_in ns) added) root is_global;
  opens = opens_after root ns.opens;
}
