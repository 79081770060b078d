use Rattle.std.proofs.Common.{◌≡◌, ◌-◌, ◌<◌, Bool, not, cond, eqb, List, [], ◌∷◌, ◌++◌, rules, ap, ◌∙◌, arith}
use Rattle.std.specs.List.{filter}
use Rattle.std.specs.Vec.{vec_capacity, vec_len}
use Rattle.std.proofs.lemmas.Fn.{filter_same}
use Rattle.tls_blocks.specs.declared.entry.Entry.{Entry}
use Rattle.tls_blocks.specs.Blocks.{block_at}
use Rattle.hart_linker.proofs.Kept.{block_with}
use Rattle.hart_linker.proofs.blocks.HartBlocks.keep.Goals as goal

pub returns-clause-blocks : goal.returns-clause-blocks
returns-clause-blocks c = λ number.
    let entry : Entry = record { number = c.args.module.number; serial = c.args.module.serial; block = c.args.block } in
    let other : Entry → Bool = λ x. not (eqb x.number c.args.module.number) in
    let kept : c.retain.new.self.items ≡ filter other c.self.inside.entries.items =
    filter_same _ other _ (λ x b f' k. search rules) _ _ c.retain.ensures.filtered in
    let spare : vec_capacity c.self.inside.entries - vec_len c.self.inside.entries ≡ c.args.self.now.spare = ap (λ v. v.spare) c.self.view_is in
    let room : vec_len c.retain.new.self < vec_capacity c.retain.new.self = omega (arith, c.requires, c.retain.ensures.bound, c.retain.ensures.capacity) in
    let p : c.push.new.self.items ≡ c.retain.new.self.items ++ entry ∷ [] = c.push.ensures.items ∙ ap (λ (b : Bool). cond b (c.retain.new.self.items ++ entry ∷ []) c.retain.new.self.items) (c.push.ensures.succeeds room) in
    ap (λ (es : List Entry). block_at es number) (p ∙ ap (λ (es : List Entry). es ++ entry ∷ []) (kept ∙ ap (filter other) (ap (λ v. v.entries) c.self.view_is)))
    ∙ block_with c.args.self.now.entries entry number
