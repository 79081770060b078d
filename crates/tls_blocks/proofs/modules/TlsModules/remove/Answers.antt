use Rattle.std.proofs.Common.{◌≡◌, not, eqb, rules, ap, sym, subst, ◌∙◌}
use Rattle.std.proofs.lemmas.Fn.{filter_same}
use Rattle.history_event.specs.declared.state.Module.{Module}
use Rattle.tls_blocks.specs.Numbers.{AreNumbered, without_module}
use Rattle.tls_blocks.proofs.Gaps.{numbered_filter}
use Rattle.tls_blocks.proofs.modules.TlsModules.remove.Goals as goal

pub invariant_of-self : goal.invariant_of-self
invariant_of-self c =
    let kept : c.retain.new.self.items ≡ without_module c.args.«module» c.self.inside.modules.items =
    filter_same _ (λ (m : Module). not (eqb m.number c.args.«module»)) _ (λ x b f' k. search rules) _ _ c.retain.ensures.filtered in
    (subst AreNumbered (sym kept) (numbered_filter (λ (m : Module). not (eqb m.number c.args.«module»)) c.self.inside.modules.items c.self.invariant.0), c.self.invariant.1)

pub returns-clause-modules : goal.returns-clause-modules
returns-clause-modules c =
    let kept : c.retain.new.self.items ≡ without_module c.args.«module» c.self.inside.modules.items =
    filter_same _ (λ (m : Module). not (eqb m.number c.args.«module»)) _ (λ x b f' k. search rules) _ _ c.retain.ensures.filtered in
    kept ∙ ap (without_module c.args.«module») (ap (λ v. v.modules) c.self.view_is)
