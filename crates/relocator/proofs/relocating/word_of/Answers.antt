use Rattle.std.proofs.Common.{◌∙◌, ap}
use Rattle.std.specs.Prelude.{unwrap_or}
use Rattle.relocator.specs.Storage.{module_of, offset_of}
use Rattle.relocator.proofs.Types.{gives_64, gives_block_place, gives_module, gives_relative, gives_static_place}
use Rattle.relocator.proofs.relocating.word_of.Goals as goal

pub returns-in-2 : goal.returns-in-2
returns-in-2 c = gives_64 c.args.base c.args.serial c.args.places.now c.args.reloc.now c.args.binding.now c.addend_of-addend.result c.in-2.is c.addend_of-addend.ensures

pub returns-in-3 : goal.returns-in-3
returns-in-3 c = gives_relative c.args.base c.args.serial c.args.places.now c.args.reloc.now c.args.binding.now c.addend_of-addend.result c.in-3.is c.addend_of-addend.ensures

pub returns-in-7 : goal.returns-in-7
returns-in-7 c =
    gives_module c.args.base c.args.serial c.args.places.now c.args.reloc.now c.args.binding.now c.module_of.result c.in-7.is
    (c.module_of.ensures ∙ ap (module_of c.args.places.now) c.storage_object.ensures)

pub returns-in-9 : goal.returns-in-9
returns-in-9 c =
    gives_block_place c.args.base c.args.serial c.args.places.now c.args.reloc.now c.args.binding.now c.storage_value.result c.addend_of-addend.result c.in-9.is
    c.storage_value.ensures c.addend_of-addend.ensures

pub returns-in-11 : goal.returns-in-11
returns-in-11 c =
    gives_static_place c.args.base c.args.serial c.args.places.now c.args.reloc.now c.args.binding.now c.storage_value-in-11.result c.addend_of-addend.result c.unwrap_or-offset.result
    c.in-11.is c.storage_value-in-11.ensures c.addend_of-addend.ensures
    (c.unwrap_or-offset.ensures ∙ ap (λ o. unwrap_or o 0) (c.offset_of.ensures ∙ ap (offset_of c.args.places.now) c.storage_object-in-11.ensures))
