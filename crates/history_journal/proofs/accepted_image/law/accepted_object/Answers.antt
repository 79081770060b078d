use Rattle.std.proofs.Common.{◌∙◌, ℕ, Bool, List, false, refl, subst, sym}
use Rattle.std.specs.List.{Contains}
use Rattle.ld_base.specs.declared.object.Object.{Object}
use Rattle.ld_base.specs.declared.object.Reloc.{Reloc}
use Rattle.elf_dynamic.specs.Breaks.{IsArray as IsArrayTag}
use Rattle.elf_object.specs.Spells.{Spells}
use Rattle.history_state.specs.Accepted.{IsAccepted}
use Rattle.history_journal.proofs.AcceptedImage.Fields.{array, no_copies, storage, stored}
use Rattle.history_journal.proofs.AcceptedImage.LazyWords.{are_slots, element_at}
use Rattle.history_journal.proofs.accepted_image.law.accepted_object.Goals as goal

from_spelled : goal.After-one_image → (bytes : List ℕ) (program : Bool) (o : Object) → Spells bytes program o → IsAccepted o
from_spelled c bytes program o s =
    let read = (c.one_verdict.ensures.accepted bytes s.head).1 s.is_head in
    let fit = c.accepted_head.ensures.segments bytes s.head read in
    let accepted = c.one_image.ensures.spelled bytes program o s in
    let slots = are_slots bytes s.head o s.is_head fit s.say.segments (λ k g v is low high. c.pages_hold_segments.ensures.one o k g v accepted is low high) s.parts
    (c.accepted_tables.ensures bytes s.head program s.parts s.are_parts) s.say.plt_relocs in
    let its_array = array bytes s.head o s.is_head fit s.say.segments program s.parts s.are_parts in
    record {
      image = accepted;
      jump = λ r among. (slots r among).0;
      lazy = λ r among. (slots r among).1;
      stored = stored bytes s.head program s.parts s.are_parts o s.say.tls s.versions.versym s.say.symbols;
      storage = λ seg e. storage bytes s.head o s.is_head fit s.say.segments seg (sym s.say.tls ∙ e);
      preinit = λ span e. its_array _ _ IsArrayTag.preinit s.parts.preinit s.are_parts.say.preinit span (sym s.say.preinit ∙ e);
      init = λ span e. its_array _ _ IsArrayTag.init s.parts.init_array s.are_parts.say.init_array span (sym s.say.init_array ∙ e);
      fini = λ span e. its_array _ _ IsArrayTag.fini s.parts.fini_array s.are_parts.say.fini_array span (sym s.say.fini_array ∙ e);
    }

pub returns-clause-spelled : goal.returns-clause-spelled
returns-clause-spelled c = from_spelled c

pub returns-clause-read : goal.returns-clause-read
returns-clause-read c bytes program object table e = from_spelled c bytes program object ((c.one_object.ensures.verdict bytes program object).0 (table, e))

pub returns-clause-machine : goal.returns-clause-machine
returns-clause-machine c m same bytes program object table e = from_spelled c bytes program object ((c.one_object.ensures.verdict bytes program object).0 (table, rw same at e))

pub returns-clause-library : goal.returns-clause-library
returns-clause-library c bytes o table e =
    let s : Spells bytes false o = (c.one_object.ensures.verdict bytes false o).0 (table, e) in
    λ r among. let at = element_at r s.parts.relocs (subst (λ (rs : List Reloc). Contains rs r) s.say.relocs among) in no_copies bytes s.head false s.parts s.are_parts refl at.0 r at.1

pub returns-clause-copied : goal.returns-clause-copied
returns-clause-copied c bytes program o table e =
    let s : Spells bytes program o = (c.one_object.ensures.verdict bytes program o).0 (table, e) in
    let kept = c.accepted_tables.ensures bytes s.head program s.parts s.are_parts in
    λ r among copy. let at = element_at r s.parts.relocs (subst (λ (rs : List Reloc). Contains rs r) s.say.relocs among) in ((kept.relocs at.0 r at.1).copy copy).0
