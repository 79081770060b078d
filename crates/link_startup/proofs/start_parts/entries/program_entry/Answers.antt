use Rattle.std.proofs.Common.{Some, None, ap, ◌∙◌}
use Rattle.scope_rule.specs.Loading.{with_serial}
use Rattle.seg_image.specs.Pages.{guest_address}
use Rattle.link_startup.proofs.StartParts.Seeing.{entry_is}
use Rattle.link_startup.proofs.start_parts.entries.program_entry.Goals as goal

pub returns-in-Some : goal.returns-in-Some
unfolding guest_address
returns-in-Some c = entry_is c.args.state.now.events c.requires.loaded c.startup_objects.result.0.now (Some c.in-Some.program.now) (c.startup_objects.ensures.objects c.requires.loaded) (c.in-Some.ensures ∙ ap (with_serial c.startup_objects.result.0.now) c.new.ensures)

pub returns-in-None : goal.returns-in-None
returns-in-None c = entry_is c.args.state.now.events c.requires.loaded c.startup_objects.result.0.now None (c.startup_objects.ensures.objects c.requires.loaded) (c.in-None.ensures ∙ ap (with_serial c.startup_objects.result.0.now) c.new.ensures)
