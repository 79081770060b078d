use Rattle.history_journal.specs.Following.{machine_of}
use Rattle.link_startup.proofs.StartParts.Further.{looked_so, makes_none}
use Rattle.link_startup.proofs.StartParts.Opened.{all_static, has_base}
use Rattle.link_startup.proofs.start_parts.harts.look_up.Goals as goal

pub dlsym-requires-clause-caller : goal.dlsym-requires-clause-caller
dlsym-requires-clause-caller c = has_base c.args.state.now.events c.requires.loaded

pub returns-clause-comes : goal.returns-clause-comes
returns-clause-comes c =
    looked_so c.args.state.now c.dlsym.new.state c.args.hart c.args.name.now c.as_bytes.result.now c.dlsym.result
    (all_static c.args.state.now.events c.requires.loaded
    (c.modules_are_tidy.ensures.tidy (machine_of c.args.state.now.harts) c.args.state.now.events c.journal.ensures.lawful))
    c.as_bytes.ensures c.dlsym.ensures.served

pub returns-clause-made : goal.returns-clause-made
returns-clause-made c =
    makes_none c.args.state.now c.dlsym.new.state c.args.hart c.as_bytes.result.now c.dlsym.result
    (all_static c.args.state.now.events c.requires.loaded
    (c.modules_are_tidy.ensures.tidy (machine_of c.args.state.now.harts) c.args.state.now.events c.journal.ensures.lawful))
    c.dlsym.ensures.served
