use Rattle.std.proofs.Common.{◌≡◌, Some}
use Rattle.link_open_images.specs.OpeningSteps.Steps.{statics_of}
use Rattle.link_open_images.proofs.OpeningSteps.Placed.{one_place, placed_is}
use Rattle.link_open_images.proofs.opening_steps.modules.add_module.Goals as goal

pub add-requires-clause-align : goal.add-requires-clause-align
add-requires-clause-align c = (c.requires.storage c.in-Some.segment c.in-Some.is).align

pub add-requires-clause-memsz : goal.add-requires-clause-memsz
add-requires-clause-memsz c = (c.requires.storage c.in-Some.segment c.in-Some.is).memory

pub returns-clause-modules : goal.returns-clause-modules
returns-clause-modules c =
    let placed : c.args.object.now.«module» ≡ Some c.in_ok-add.field-0 =
    one_place c.args.startup c.args.modules.now.modules (statics_of c.args.modules.now) c.args.object.now.serial c.in-Some.segment c.args.object.now.object.tls c.args.object.now.«module» c.in_ok-add.field-0
    c.in-Some.is c.requires.have c.in_ok-add.ensures.number c.in_ok-add.ensures.late c.in_ok-add.ensures.static_place in
    placed_is c.args.object.now c.args.modules.now.modules c.add.new.self.modules c.in_ok-add.field-0 placed c.in_ok-add.ensures.modules
