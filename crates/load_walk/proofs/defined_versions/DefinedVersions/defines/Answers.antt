use Rattle.std.proofs.Common.{List, nat_eq, sym, ◌∙◌}
use Rattle.std.specs.HashMap.{get}
use Rattle.ld_base.specs.declared.linking.Loaded.{Loaded}
use Rattle.load_walk.proofs.Lookups.{known_answers, known_more}
use Rattle.load_walk.proofs.defined_versions.DefinedVersions.defines.Goals as goal

pub returns-in-Some-clause-answer : goal.returns-in-Some-clause-answer
returns-in-Some-clause-answer c =
    let objects : List Loaded = c.self.inside.indexed.now.objects in
    rw (← c.self.view_is) (c.has.ensures ∙ known_answers objects (λ serial. get nat_eq c.self.inside.known serial) c.args.serial c.in-Some.defined.now c.self.invariant (sym c.in-Some.ensures.value) c.args.version.now)

pub invariant_of-self-2 : goal.invariant_of-self-2
invariant_of-self-2 c =
    let objects : List Loaded = c.self.inside.indexed.now.objects in
    known_more objects (λ serial. get nat_eq c.self.inside.known serial) (λ serial. get nat_eq c.insert.new.self serial) c.args.serial c.in_ok-defined.defined c.self.invariant c.in_ok-defined.ensures (λ q. c.in_ok-insert.ensures.updates.0 q)
