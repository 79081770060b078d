use Rattle.std.proofs.Common.{List, ℕ, sym, ap, ◌∙◌}
use Rattle.ld_base.specs.declared.fault.DlFault.TheVariants.{NotCode}
use Rattle.link_startup.proofs.StartParts.Further.{is_not_code_there, loaded_then, starts_there}
use Rattle.link_startup.proofs.start_parts.harts.find_start.Goals as goal

pub is_executable-requires : goal.is_executable-requires
is_executable-requires c = record {
  loaded = loaded_then c.args.state.now.events c.args.hart c.args.name.now c.in-Done.address c.look_up.new.state.events
      c.in-Done.ensures.comes c.requires.loaded;
}

pub returns-then-is_executable-clause-found : goal.returns-then-is_executable-clause-found
returns-then-is_executable-clause-found c =
    starts_there c.args.state.now.events c.args.hart c.args.name.now c.in-Done.address c.look_up.new.state.events
    c.in-Done.ensures.comes (sym c.if-is_executable.ensures)

pub returns-in_ok-copy-in-Done-2-clause-lacks : goal.returns-in_ok-copy-in-Done-2-clause-lacks
returns-in_ok-copy-in-Done-2-clause-lacks c =
    is_not_code_there c.args.state.now.events c.args.hart c.args.name.now c.in-Done.address c.look_up.new.state.events
    c.in-Done.ensures.comes c.args.program.now
    (NotCode c.in_ok-copy-in-Done.field-0 c.in_ok-copy-in-Done-2.field-0) (sym c.if-is_executable.ensures)
    (ap (λ (n : List ℕ). NotCode n c.in_ok-copy-in-Done-2.field-0) c.in_ok-copy-in-Done.ensures ∙ ap (NotCode c.args.program.now) c.in_ok-copy-in-Done-2.ensures)
