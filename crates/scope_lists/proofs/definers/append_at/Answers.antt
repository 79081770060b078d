use Rattle.std.proofs.Common.{◌≡◌, ap, sym, ◌∙◌}
use Rattle.std.specs.Prelude.{Some, None}
use Rattle.std.specs.Option.{option_copied}
use Rattle.std.proofs.lemmas.Result.{on_ok_weaker}
use Rattle.scope_rule.specs.Seen.{seen}
use Rattle.scope_lists.specs.Definers.{object_in}
use Rattle.scope_lists.proofs.Defining.{below_more, below_none, object_there}
use Rattle.scope_lists.proofs.definers.append_at.Goals as goal

pub returns-in-Some : goal.returns-in-Some
returns-in-Some c =
    let objects = (seen c.args.view.now).objects in
    let there : object_in objects c.args.list.now c.args.place ≡ Some c.in-Some.loaded.now.object =
    object_there objects c.args.list.now c.args.place c.index-list-place.result (Some c.in-Some.loaded.now) c.requires.place c.index-list-place.is (ap option_copied (sym c.in-Some.is) ∙ c.object_of.ensures) in
    on_ok_weaker c.append_object.result (below_more objects c.args.list.now c.args.place c.args.definers.now.items c.append_object.new.definers.items c.in-Some.loaded.now.object there c.requires.definers) c.append_object.ensures

pub returns-in-None : goal.returns-in-None
returns-in-None c =
    let objects = (seen c.args.view.now).objects in
    let there : object_in objects c.args.list.now c.args.place ≡ None =
    object_there objects c.args.list.now c.args.place c.index-list-place.result None c.requires.place c.index-list-place.is (ap option_copied (sym c.in-None.is) ∙ c.object_of.ensures) in
    below_none objects c.args.list.now c.args.place c.args.definers.now.items c.args.definers.now.items there c.requires.definers
