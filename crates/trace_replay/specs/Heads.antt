-- What is next of all mapped objects, once every hart has exited.
use Rattle.std.specs.Prelude.{ℕ, Bool, ◌&&◌, nat_le, List, [], ◌∷◌, ◌++◌, length, map, find, reverse, take, Option, Some, None, if◌then◌else◌}
use Rattle.std.specs.List.{flat_map, list_all}
use Rattle.history_event.specs.declared.state.Ending.{Ending}
use Rattle.history_graph.specs.Initialised.{is_one_of}
use Rattle.history_state.specs.Objects.{serial_of}
use Rattle.history_state.specs.Setting.{exited}
use Rattle.ld_base.specs.declared.linking.Loaded.{Loaded}
use Rattle.scope_rule.specs.declared.namespace.Namespace.{Namespace}
use Rattle.trace_replay.specs.Lists.{Lists}

-- as many harts as there are have ended, each by exit
abbrev pub exits_by : ℕ → List Ending → Bool
exits_by harts endings = nat_le harts (length endings) && list_all exited (take harts endings)

-- the mapped objects, and their serials
abbrev pub mapped_in : List Namespace → List Loaded
mapped_in namespaces = flat_map (λ ns. ns.objects) namespaces

abbrev pub serials_in : List Namespace → List ℕ
serials_in namespaces = map serial_of (mapped_in namespaces)

-- the latest that is mapped
abbrev pub head_in : List ℕ → List Namespace → Option ℕ
head_in unfinished namespaces = find (is_one_of (serials_in namespaces)) (reverse unfinished)

-- a list with one element more, where it hasn't it yet
abbrev pub noted : Option ℕ → List ℕ → List ℕ
noted None heads = heads
noted (Some head) heads = if is_one_of heads head then heads else heads ++ head ∷ []

abbrev pub with_head : Lists → Lists
with_head l = if exits_by l.harts l.endings then record l { heads = noted (head_in l.unfinished l.namespaces) l.heads } else l
