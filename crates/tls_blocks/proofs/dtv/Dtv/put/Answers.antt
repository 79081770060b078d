use Rattle.std.proofs.Common.{◌≡◌, ◌-◌, ◌<◌, Bool, not, cond, eqb, List, [], ◌∷◌, ◌++◌, rules, ap, sym, subst, ◌∙◌, arith}
use Rattle.std.specs.List.{filter}
use Rattle.std.specs.Vec.{vec_capacity, vec_len}
use Rattle.std.proofs.lemmas.Fn.{filter_same}
use Rattle.tls_blocks.specs.declared.entry.Entry.{Entry}
use Rattle.tls_blocks.specs.Blocks.{AreApart, with_entry}
use Rattle.tls_blocks.proofs.Entries.{apart_with}
use Rattle.tls_blocks.proofs.dtv.Dtv.put.Goals as goal

pub invariant_of-self : goal.invariant_of-self
invariant_of-self c =
    let other : Entry → Bool = λ x. not (eqb x.number c.args.entry.number) in
    let kept : c.retain.new.self.items ≡ filter other c.self.inside.entries.items =
    filter_same _ other _ (λ x b f' k. search rules) _ _ c.retain.ensures.filtered in
    let spare : vec_capacity c.self.inside.entries - vec_len c.self.inside.entries ≡ c.args.self.now.spare = ap (λ v. v.spare) c.self.view_is in
    let room : vec_len c.retain.new.self < vec_capacity c.retain.new.self = omega (arith, c.requires, c.retain.ensures.bound, c.retain.ensures.capacity) in
    let p : c.push.new.self.items ≡ c.retain.new.self.items ++ c.args.entry ∷ [] = c.push.ensures.items ∙ ap (λ (b : Bool). cond b (c.retain.new.self.items ++ c.args.entry ∷ []) c.retain.new.self.items) (c.push.ensures.succeeds room) in
    subst AreApart (sym (p ∙ ap (λ (es : List Entry). es ++ c.args.entry ∷ []) kept)) (apart_with c.self.inside.entries.items c.args.entry c.self.invariant)

pub returns-clause-entries : goal.returns-clause-entries
returns-clause-entries c =
    let other : Entry → Bool = λ x. not (eqb x.number c.args.entry.number) in
    let kept : c.retain.new.self.items ≡ filter other c.self.inside.entries.items =
    filter_same _ other _ (λ x b f' k. search rules) _ _ c.retain.ensures.filtered in
    let spare : vec_capacity c.self.inside.entries - vec_len c.self.inside.entries ≡ c.args.self.now.spare = ap (λ v. v.spare) c.self.view_is in
    let room : vec_len c.retain.new.self < vec_capacity c.retain.new.self = omega (arith, c.requires, c.retain.ensures.bound, c.retain.ensures.capacity) in
    let p : c.push.new.self.items ≡ c.retain.new.self.items ++ c.args.entry ∷ [] = c.push.ensures.items ∙ ap (λ (b : Bool). cond b (c.retain.new.self.items ++ c.args.entry ∷ []) c.retain.new.self.items) (c.push.ensures.succeeds room) in
    p ∙ ap (λ (es : List Entry). es ++ c.args.entry ∷ []) kept ∙ ap (with_entry c.args.entry) (ap (λ v. v.entries) c.self.view_is)
