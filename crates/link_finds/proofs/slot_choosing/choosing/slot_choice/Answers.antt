use Rattle.std.proofs.Common.{rules, ◌≡◌, ◌*◌, ◌/◌, refl, sym, ap, subst, ◌∙◌}
use Rattle.std.specs.List.{Contains, slice_get}
use Rattle.ld_base.specs.declared.linking.Choice.{Choice}
use Rattle.scope_rule.specs.Loading.{object_of, with_serial}
use Rattle.scope_rule.specs.Relocation.{choice_at}
use Rattle.scope_rule.specs.Seen.{Seen, seen}
use Rattle.scope_rule.specs.declared.namespace.Namespace.{Namespace}
use Rattle.seg_image.specs.Pages.{guest_address}
use Rattle.scope_lists.specs.Lists.{AreListsOf, IsListed}
use Rattle.link_finds.specs.SeenChoices.Seeing.{ShowsObjects, StandsIn}
use Rattle.link_finds.specs.SeenChoices.Lemmas.Stands.{stands}
use Rattle.link_finds.proofs.SlotChoosing.Slots.{IsFound, found, is_lent, its_table, lacks, low, named}
use Rattle.link_finds.proofs.slot_choosing.choosing.slot_choice.Goals as goal

pub unwrap-object-requires : goal.unwrap-object-requires
unwrap-object-requires c = is_lent c.args.namespace.now (seen c.view-view.result) c.args.owner c.object.result c.requires.there c.view-view.ensures c.object.ensures

pub returns-in_default-clause-err : goal.returns-in_default-clause-err
returns-in_default-clause-err c = λ s there.
    lacks s c.args.owner c.args.eights c.args.namespace.now c.unwrap-object.result.now there
    (found c.args.namespace.now (seen c.view-view.result) c.args.owner c.object.result c.unwrap-object.result c.view-view.ensures c.object.ensures c.unwrap-object.ensures) c.in_default.ensures.none

pub lookup_reloc-choice-requires : goal.lookup_reloc-choice-requires
lookup_reloc-choice-requires c =
    let ns : Namespace = c.args.namespace.now in
    let its : IsFound ns c.args.owner c.unwrap-object.result.now = found ns (seen c.view-view.result) c.args.owner c.object.result c.unwrap-object.result c.view-view.ensures c.object.ensures c.unwrap-object.ensures in
    record {
      lists = subst (λ (v : Seen). AreListsOf v c.args.lists.now) (sym c.view-view.ensures) c.requires.lists;
      listed = subst (IsListed c.args.lists.now) (sym its.is) c.requires.listed;
      tables = its_table ns (seen c.view-view.result) c.requires.sound c.view-view.ensures;
      owner_is_there = ap (λ (v : Seen). object_of v c.unwrap-object.result.now.serial) c.view-view.ensures ∙ ap (with_serial ns.objects) its.is ∙ its.one;
      symbol_is_there = named c.unwrap-object.result.now.object (c.args.eights / 8) c.in-Some.reloc.now (c.requires.sound c.unwrap-object.result.now its.inside).names c.in-Some.ensures.found;
    }

pub moved_word-lazy-requires : goal.moved_word-lazy-requires
moved_word-lazy-requires c =
    let its : IsFound c.args.namespace.now c.args.owner c.unwrap-object.result.now =
    found c.args.namespace.now (seen c.view-view.result) c.args.owner c.object.result c.unwrap-object.result c.view-view.ensures c.object.ensures c.unwrap-object.ensures in
    let sound = c.requires.sound c.unwrap-object.result.now its.inside in
    record { accepted = sound.image; low = low c.unwrap-object.result.now.object (c.args.eights / 8) c.in-Some.reloc.now sound.image c.in-Some.ensures.found }

pub address_of-value-requires-clause-stands : goal.address_of-value-requires-clause-stands
address_of-value-requires-clause-stands c =
    let ns : Seen = seen c.view-view.result in
    let its : IsFound c.args.namespace.now c.args.owner c.unwrap-object.result.now =
    found c.args.namespace.now ns c.args.owner c.object.result c.unwrap-object.result c.view-view.ensures c.object.ensures c.unwrap-object.ensures in
    let inside : Contains ns.objects c.unwrap-object.result.now = subst (λ (v : Seen). Contains v.objects c.unwrap-object.result.now) (sym c.view-view.ensures) its.inside in
    subst (λ (choice : Choice). StandsIn ns choice) (sym c.lookup_reloc-choice.ensures) (stands ns c.unwrap-object.result.now c.in-Some.reloc.now inside)

pub leads_to_code-code-requires-clause-accepted : goal.leads_to_code-code-requires-clause-accepted
leads_to_code-code-requires-clause-accepted c = λ o inside. (c.requires.sound o (subst (λ (v : Seen). Contains v.objects o) c.view-view.ensures inside)).image

pub leads_to_code-code-requires-clause-stands : goal.leads_to_code-code-requires-clause-stands
leads_to_code-code-requires-clause-stands c =
    let ns : Seen = seen c.view-view.result in
    let its : IsFound c.args.namespace.now c.args.owner c.unwrap-object.result.now =
    found c.args.namespace.now ns c.args.owner c.object.result c.unwrap-object.result c.view-view.ensures c.object.ensures c.unwrap-object.ensures in
    let inside : Contains ns.objects c.unwrap-object.result.now = subst (λ (v : Seen). Contains v.objects c.unwrap-object.result.now) (sym c.view-view.ensures) its.inside in
    subst (λ (choice : Choice). StandsIn ns choice) (sym c.lookup_reloc-choice.ensures) (stands ns c.unwrap-object.result.now c.in-Some.reloc.now inside)

pub returns-clause-ok : goal.returns-clause-ok
unfolding guest_address
returns-clause-ok c = λ s shows.
    let its : IsFound c.args.namespace.now c.args.owner c.unwrap-object.result.now =
    found c.args.namespace.now (seen c.view-view.result) c.args.owner c.object.result c.unwrap-object.result c.view-view.ensures c.object.ensures c.unwrap-object.ensures in
    let seen_objects : ShowsObjects s (seen c.view-view.result) = subst (λ (v : Seen). ShowsObjects s v) (sym c.view-view.ensures) shows.objects in
    let slot : c.in-Ok.slot ≡ c.args.eights / 8 = search rules in
    record {
      numbered = c.in-Some.ensures.eights ∙ ap (λ n. 8 * n) (sym slot);
      is_slot = record {
        namespace = c.args.namespace.now;
        object = c.unwrap-object.result.now;
        there = shows.there;
        inside = its.inside;
        is = its.is;
        reloc = c.in-Some.reloc.now;
        at = ap (slice_get c.unwrap-object.result.now.object.plt_relocs) slot ∙ c.in-Some.ensures.found;
        chooses = c.lookup_reloc-choice.ensures ∙ ap (λ (v : Seen). choice_at v c.unwrap-object.result.now c.in-Some.reloc.now) c.view-view.ensures;
      };
      place = refl;
      lazy = c.moved_word-lazy.ensures;
      value = c.address_of-value.ensures s seen_objects;
      code = c.leads_to_code-code.ensures s seen_objects;
    }
