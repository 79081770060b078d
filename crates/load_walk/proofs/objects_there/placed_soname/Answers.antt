use Rattle.std.proofs.Common.{◌∙◌, sym}
use Rattle.ld_base.specs.declared.linking.Loaded.{Loaded}
use Rattle.scope_rule.specs.Finding.{is_named}
use Rattle.scope_rule.specs.Lemmas.Placed.{found_by, none_by}
use Rattle.load_walk.proofs.objects_there.placed_soname.Goals as goal

pub returns-in-Some : goal.returns-in-Some
returns-in-Some c =
    c.object_at.ensures ∙ found_by (λ (o : Loaded). is_named c.args.name.now o.object) c.args.objects.now c.in-Some.place (sym (c.in-Some.ensures ∙ c.requires.sonames c.args.name.now))

pub returns-in-None : goal.returns-in-None
returns-in-None c = none_by (λ (o : Loaded). is_named c.args.name.now o.object) c.args.objects.now (sym (c.in-None.ensures ∙ c.requires.sonames c.args.name.now))
