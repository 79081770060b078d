use Rattle.std.proofs.Common.{subst}
use Rattle.scope_rule.specs.Seen.{Seen}
use Rattle.scope_lists.specs.Lists.{AreListsOf}
use Rattle.std.proofs.Common.{subst}
use Rattle.scope_rule.specs.Seen.{Seen}
use Rattle.scope_lists.specs.Lists.{AreListsOf}
use Rattle.link_names.proofs.Standing.{at_index, is_there, one_kept, same_kept}
use Rattle.link_names.proofs.kept.KeptLists.make_lists.Goals as goal

pub returns-in_ok-insert-clause-kept : goal.returns-in_ok-insert-clause-kept
returns-in_ok-insert-clause-kept c =
    one_kept c.args.namespaces.now c.args.self.now (record { by_place = c.insert.new.self }) c.args.place c.index-namespaces-place.result c.in_ok-lists.lists c.requires.kept
    (at_index c.args.namespaces.now c.args.place c.index-namespaces-place.result c.requires.place c.index-namespaces-place.is)
    (subst (λ (s : Seen). AreListsOf s c.in_ok-lists.lists) c.view.ensures c.in_ok-lists.ensures) (λ q. c.in_ok-insert.ensures.updates.0 q)

pub returns-in_ok-insert-clause-there : goal.returns-in_ok-insert-clause-there
returns-in_ok-insert-clause-there c = is_there c.args.place c.in_ok-lists.lists _ _ (c.in_ok-insert.ensures.updates.0 c.args.place)

pub returns-in_err-insert-clause-kept : goal.returns-in_err-insert-clause-kept
returns-in_err-insert-clause-kept c = same_kept c.args.namespaces.now c.args.self.now (record { by_place = c.insert.new.self }) c.in_err-insert.ensures.err c.requires.kept
