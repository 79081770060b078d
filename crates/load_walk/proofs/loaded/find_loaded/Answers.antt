use Rattle.std.proofs.Common.{◌≡◌, Option, Some, None, ℕ, IfSome, refl, sym}
use Rattle.std.proofs.lemmas.Result.{IfErr-at_err, IfOk-at_ok, err_from_is_err_and}
use Rattle.scope_rule.specs.Load.{present, use_of}
use Rattle.scope_rule.specs.Loads.{named_there}
use Rattle.load_walk.specs.Files.{load_unread}
use Rattle.load_walk.proofs.Walkers.{EndsUnread, ends_unread}
use Rattle.load_walk.proofs.loaded.find_loaded.Goals as goal

pub returns-in_err-use_of-in-Some : goal.returns-in_err-use_of-in-Some
returns-in_err-use_of-in-Some c =
    let p = err_from_is_err_and c.from_residual-in_err-use_of-in-Some.result c.from_residual-in_err-use_of-in-Some.ensures.1 in
    let load = load_unread c.args.ask.now c.args.ns.now.objects in
    let there : named_there load ≡ Some c.in-Some.object.now = sym (rw (c.as_slice.ensures, c.in-Some.is) at c.in_ok-object.ensures) in
    let ends = ends_unread load c.in-Some.object.now _ (λ why may. c.finds_loaded.ensures.stops _ _ why (λ path. refl) there may) c.in_err-use_of-in-Some.ensures in
    rw (p.1, p.2) record {
      found = λ root e. absurd cc;
      absent = λ e. absurd cc;
      refused = λ fault e. (IfErr-at_err (EndsUnread load) e ends).0;
      never_missing = λ name e. (IfErr-at_err (EndsUnread load) e ends).1 name refl;
      waits = λ shown e. IfErr-at_err (EndsUnread load) e ends;
    }

pub returns-in_ok-use_of-in-Some-clause-found : goal.returns-in_ok-use_of-in-Some-clause-found
returns-in_ok-use_of-in-Some-clause-found c =
    let there : named_there (load_unread c.args.ask.now c.args.ns.now.objects) ≡ Some c.in-Some.object.now = sym (rw (c.as_slice.ensures, c.in-Some.is) at c.in_ok-object.ensures) in
    let P : Option ℕ → Type 0 = λ o. IfSome o (λ n. use_of c.args.ask.now.hart c.in-Some.object.now ≡ present n) in
    λ root e. c.finds_loaded.ensures.brings _ _ root (λ path. refl) there (IfOk-at_ok P e c.in_ok-use_of-in-Some.ensures)

pub returns-in-None-clause-absent : goal.returns-in-None-clause-absent
returns-in-None-clause-absent c =
    let none : named_there (load_unread c.args.ask.now c.args.ns.now.objects) ≡ None = sym (rw (c.as_slice.ensures, c.in-None.is) at c.in_ok-object.ensures) in
    λ e. (none, c.finds_loaded.ensures.missing _ (λ path. refl) none)
