-- The objects of the namespace that an opening is made in were read of files.
use Rattle.std.proofs.Common.{◌≡◌, ℕ, Bool, List, [], ◌∷◌, Option, Some, None, Result, Ok, refl, sym, ap, subst, ◌∙◌}
use Rattle.std.specs.Prelude.{find}
use Rattle.std.specs.List.{AllByRecursion, Contains}
use Rattle.elf_object.specs.Verdict.{object_verdict}
use Rattle.ld_base.specs.declared.fault.NotAccepted.{NotAccepted}
use Rattle.ld_base.specs.declared.linking.Loaded.{Loaded}
use Rattle.ld_base.specs.declared.object.Object.{Object}
use Rattle.ld_base.specs.declared.parts.HashTable.{HashTable}
use Rattle.history_state.specs.Laws.{IsIn}
use Rattle.history_state.specs.Objects.{has_id}
use Rattle.history_state.specs.Read.{ObjectsAreRead}
use Rattle.history_state.specs.Setting.{Machine}
use Rattle.history_state.specs.State.{State, empty_namespace}
use Rattle.history_state.specs.Step.{namespace_before}
use Rattle.history_state.specs.Lemmas.Lists.{found_in, here, later}
use Rattle.link_open_plan.specs.Before.{IsObject}
use Rattle.scope_rule.specs.declared.namespace.Namespace.{Namespace}
use Rattle.seg_image.specs.Accepted.{Accepted}
use Rattle.sym_hash.specs.Reached.{IsTableOf}

abbrev or_empty : ℕ → Option Namespace → Namespace
or_empty id f = elim f [ Some n ↦ n | None ↦ empty_namespace id ]

all_in : {X : Type 0} (P : X → Type 0) (xs : List X) → ((x : X) → Contains xs x → P x) → AllByRecursion P xs
all_in P [] every = tt
all_in P (x ∷ xs) every = (every x (here x xs), all_in P xs (λ y inside. every y (later x xs y inside)))

pub are_objects : (m : Machine) (s : State) (id : ℕ) (ns : Namespace) → m.verdict ≡ object_verdict → ns ≡ namespace_before s id → ObjectsAreRead m s
    → ((bytes : List ℕ) (program : Bool) (object : Object) (table : HashTable) → object_verdict bytes program ≡ Ok (object, table) → IsTableOf table object)
    → ((bytes : List ℕ) (program : Bool) (object : Object) (table : HashTable) → object_verdict bytes program ≡ Ok (object, table) → Accepted object)
    → AllByRecursion IsObject ns.objects
are_objects m s id ns verdict is read tables images = subst (λ (n : Namespace). AllByRecursion IsObject n.objects) (sym is) (by (find (has_id id) s.namespaces) refl)
  where
    of_one : (n : Namespace) (o : Loaded) → IsIn s n o → IsObject o
    of_one n o is_in =
        let was = read n o is_in in
        let of : object_verdict was.bytes was.program ≡ Ok (o.object, o.table) =
        ap (λ (v : List ℕ → Bool → Result (Object × HashTable) NotAccepted). v was.bytes was.program) (sym verdict) ∙ was.is in
        record { table = tables was.bytes was.program o.object o.table of; image = images was.bytes was.program o.object o.table of }

    by : (f : Option Namespace) → find (has_id id) s.namespaces ≡ f → AllByRecursion IsObject (or_empty id f).objects
    by None e = tt
    by (Some n) e = all_in IsObject n.objects (λ o inside. of_one n o (record { there = (found_in (has_id id) s.namespaces n e).0; inside = inside }))
