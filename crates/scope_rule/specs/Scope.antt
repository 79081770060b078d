-- Where the references of an object are searched (gABI, "Shared Object Dependencies" and DT_SYMBOLIC; dlopen(3)).
use Rattle.std.specs.Prelude.{ℕ, not, ◌||◌, if◌then◌else◌, List, [], ◌∷◌, ◌++◌, filter, flat_map}
use Rattle.ld_base.specs.declared.linking.Loaded.{Loaded}
use Rattle.scope_rule.specs.Seen.{Seen}
use Rattle.scope_rule.specs.Loading.{is_dying, is_dying_at}
use Rattle.scope_rule.specs.Breadth.{breadth, has}

-- what an open brings to an object's scope: the libraries of its root, where the object is one of them
abbrev pub opened_with : Seen → Loaded → ℕ → List ℕ
opened_with ns o root = if has (breadth ns root) o.serial then breadth ns root else []

-- every object that a reference of o may be to, those closing too
abbrev pub whole_scope : Seen → Loaded → List ℕ
whole_scope ns o =
    (if o.object.flags.symbolic then o.serial ∷ [] else [])
    ++ (if o.deep then [] else ns.global)
    ++ flat_map (λ r. opened_with ns o r.root) ns.opens
    ++ breadth ns o.serial
    ++ (if o.deep then ns.global else [])
    ++ 0 ∷ []

-- Scope: of these the ones that aren't closing; an object that is closing itself sees those too
unfoldable pub scope : Seen → Loaded → List ℕ
scope ns o = filter (λ s. is_dying o || not (is_dying_at ns s)) (whole_scope ns o)
