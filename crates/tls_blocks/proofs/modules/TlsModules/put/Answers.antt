use Rattle.std.proofs.Common.{◌≡◌, ◌≤◌, ap, sym, subst, ◌∙◌, arith}
use Rattle.tls_blocks.specs.Numbers.{AreNumbered, HasGapAt, with_module}
use Rattle.tls_blocks.proofs.Gaps.{insert_is, numbered_with}
use Rattle.tls_blocks.proofs.modules.TlsModules.put.Goals as goal

pub invariant_of-self-2 : goal.invariant_of-self-2
invariant_of-self-2 c =
    let modules : c.self.inside.modules.items ≡ c.args.self.now.modules = ap (λ v. v.modules) c.self.view_is in
    let gap : HasGapAt c.self.inside.modules.items c.args.gap = subst (λ ms. HasGapAt ms c.args.gap) (sym modules) c.requires.gap in
    let put : c.insert.new.self.items ≡ with_module c.args.«module» c.self.inside.modules.items =
    c.in_ok-insert.ensures.items ∙ insert_is c.self.inside.modules.items c.args.gap c.args.«module» gap c.requires.number in
    let some : 1 ≤ c.args.«module».number = omega (arith, c.requires.number) in
    (subst AreNumbered (sym put) (numbered_with c.self.inside.modules.items c.args.«module» c.self.invariant.0 some), c.self.invariant.1)

pub returns-clause-modules : goal.returns-clause-modules
returns-clause-modules c =
    let modules : c.self.inside.modules.items ≡ c.args.self.now.modules = ap (λ v. v.modules) c.self.view_is in
    let gap : HasGapAt c.self.inside.modules.items c.args.gap = subst (λ ms. HasGapAt ms c.args.gap) (sym modules) c.requires.gap in
    c.in_ok-insert.ensures.items ∙ insert_is c.self.inside.modules.items c.args.gap c.args.«module» gap c.requires.number ∙ ap (with_module c.args.«module») modules
