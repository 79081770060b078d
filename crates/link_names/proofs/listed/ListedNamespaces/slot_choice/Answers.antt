use Rattle.std.proofs.Common.{◌≡◌, List, subst, sym, ◌∙◌}
use Rattle.std.specs.Prelude.{IfOk}
use Rattle.history_state.specs.Laws.{AreApart}
use Rattle.history_state.specs.State.{State}
use Rattle.link_names.specs.Kept.{AreKept}
use Rattle.scope_rule.specs.declared.namespace.Namespace.{Namespace}
use Rattle.link_finds.specs.SlotChoosing.Choosing.{AllSound, ChoosesSlot}
use Rattle.link_names.proofs.listed.ListedNamespaces.slot_choice.Goals as goal

pub chosen-requires-clause-sound : goal.chosen-requires-clause-sound
chosen-requires-clause-sound c = subst AllSound (sym (c.as_slice-namespaces.ensures.value ∙ c.self.view_is)) c.requires

pub returns-clause-ok : goal.returns-clause-ok
returns-clause-ok c =
    subst (λ (nss : List Namespace). IfOk c.chosen.result (λ x. (s : State) → s.namespaces ≡ nss → AreApart s → ChoosesSlot s c.args.owner c.args.eights x))
    (c.as_slice-namespaces.ensures.value ∙ c.self.view_is) c.chosen.ensures.ok

pub chosen-requires-clause-kept : goal.chosen-requires-clause-kept
chosen-requires-clause-kept c = subst (λ (nss : List Namespace). AreKept nss c.self.inside.lists) (sym c.as_slice-namespaces.ensures.value) c.self.invariant

pub invariant_of-self : goal.invariant_of-self
invariant_of-self c = subst (λ (nss : List Namespace). AreKept nss c.chosen.new.lists) c.as_slice-namespaces.ensures.value c.chosen.ensures.kept
