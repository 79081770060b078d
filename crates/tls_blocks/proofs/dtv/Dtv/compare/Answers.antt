use Rattle.std.proofs.Common.{◌≡◌, rules, of_calls, ap, sym, subst, ◌∙◌, arith}
use Rattle.std.specs.List.{filter}
use Rattle.std.proofs.lemmas.Fn.{filter_same}
use Rattle.tls_blocks.specs.Blocks.{AreApart, is_current}
use Rattle.tls_blocks.proofs.Entries.{apart_filter, compared_else}
use Rattle.tls_blocks.proofs.dtv.Dtv.compare.Goals as goal

pub invariant_of-self : goal.invariant_of-self
invariant_of-self c =
    let kept : c.retain.new.self.items ≡ filter (is_current c.args.modules.now.modules) c.self.inside.entries.items =
    filter_same _ (is_current c.args.modules.now.modules) _ (λ x b f' k. search (rules, of_calls)) _ _ c.retain.ensures.filtered in
    subst AreApart (sym kept) (apart_filter (is_current c.args.modules.now.modules) c.self.inside.entries.items c.self.invariant)

pub returns-then-self-generation-clause-entries : goal.returns-then-self-generation-clause-entries
returns-then-self-generation-clause-entries c =
    let kept : c.retain.new.self.items ≡ filter (is_current c.args.modules.now.modules) c.self.inside.entries.items =
    filter_same _ (is_current c.args.modules.now.modules) _ (λ x b f' k. search (rules, of_calls)) _ _ c.retain.ensures.filtered in
    let entries : c.self.inside.entries.items ≡ c.args.self.now.entries = ap (λ v. v.entries) c.self.view_is in
    let generation : c.self.inside.generation ≡ c.args.self.now.generation = ap (λ v. v.generation) c.self.view_is in
    let other : (c.args.self.now.generation ≡ c.args.modules.now.generation) → ⊥ = λ same. absurd (omega arith) in
    kept ∙ ap (filter (is_current c.args.modules.now.modules)) entries
    ∙ sym (compared_else c.args.modules.now c.args.self.now other)
