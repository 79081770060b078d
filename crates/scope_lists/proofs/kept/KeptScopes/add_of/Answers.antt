use Rattle.std.proofs.Common.{refl}
use Rattle.scope_lists.proofs.Stands.{is_there, keeps_all, one_kept, unchanged_kept}
use Rattle.scope_lists.specs.declared.kept.KeptScopes.{KeptScopes}
use Rattle.scope_lists.proofs.kept.KeptScopes.add_of.Goals as goal

pub returns-clause-scopes : goal.returns-clause-scopes
returns-clause-scopes c =
    let old : KeptScopes = c.args.self.now in
    one_kept c.args.scopes.now.seen old (record old { by_place = c.insert.new.self }) c.args.place c.args.owner.now c.in_ok-scope.scope c.requires.scopes refl refl c.requires.there
    (c.in_ok-scope.ensures old.global.items c.requires.scopes.global) (λ q. c.in_ok-insert.ensures.updates.0 q)

pub returns-clause-all : goal.returns-clause-all
returns-clause-all c = (let old : KeptScopes = c.args.self.now in keeps_all old (record old { by_place = c.insert.new.self }) c.args.place c.in_ok-scope.scope (λ q. c.in_ok-insert.ensures.updates.0 q))

pub returns-clause-there : goal.returns-clause-there
returns-clause-there c = (let old : KeptScopes = c.args.self.now in is_there old (record old { by_place = c.insert.new.self }) c.args.place c.in_ok-scope.scope (λ q. c.in_ok-insert.ensures.updates.0 q))

pub returns-in_err-insert-clause-scopes : goal.returns-in_err-insert-clause-scopes
returns-in_err-insert-clause-scopes c =
    let old : KeptScopes = c.args.self.now in
    unchanged_kept c.args.scopes.now.seen old (record old { by_place = c.insert.new.self }) c.requires.scopes refl refl c.in_err-insert.ensures.err
