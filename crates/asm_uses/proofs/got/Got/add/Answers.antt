use Rattle.std.proofs.Common.{◌≡◌, ℕ, true, false, ◌++◌, ◌+◌, List, [], ◌∷◌, refl, ap, sym, ◌∙◌}
use Rattle.std.specs.List.{list_any}
use Rattle.std.specs.Option.{is_some}
use Rattle.asm_layout.specs.declared.uses.GotUse.{GotUse}
use Rattle.asm_layout.specs.Uses.{same_use}
use Rattle.asm_layout.specs.declared.uses.GotKind.TheVariants as gots
use Rattle.asm_layout.specs.Tables.{got_words}
use Rattle.asm_uses.specs.Got.{Notes}
use Rattle.asm_uses.proofs.Words.{got_known, got_more}
use Rattle.asm_uses.proofs.got.Got.add.Goals as goal

pub returns-then-is_some : goal.returns-then-is_some
returns-then-is_some c = λ uses is.
    let it : GotUse = record { kind = c.args.kind; name = c.args.name.now } in
    let known : list_any (same_use it) uses ≡ true =
    sym (got_known uses it c.args.self.now is) ∙ sym (ap is_some c.word.ensures) ∙ sym c.is_some.ensures ∙ c.if-is_some.true in
    rw known is

pub returns : goal.returns
returns c = λ uses is.
    let it : GotUse = record { kind = c.args.kind; name = c.args.name.now } in
    let new : list_any (same_use it) uses ≡ false =
    sym (got_known uses it c.args.self.now is) ∙ sym (ap is_some c.word.ensures) ∙ sym c.is_some.ensures ∙ c.if-is_some.false in
    let notes : Notes c.args.kind c.args.name.now c.args.self.now c.note.new.self = c.in_ok-note.ensures in
    let pushed : c.push.new.self ≡ c.args.self.now.uses ++ it ∷ [] =
    c.in_ok-push.ensures.ok
    ∙ rw (notes.uses) (ap (λ (name : List ℕ). c.args.self.now.uses ++ (record { kind = c.args.kind; name = name }) ∷ []) c.in_ok-name.ensures) in
    let counted : c.in-Some.words ≡ c.args.self.now.words + got_words c.args.kind =
    c.in-Some.ensures.1 ∙ ap (λ (n : ℕ). c.args.self.now.words + n) c.words_of.ensures in
    rw new (got_more uses it c.args.self.now c.note.new.self _ is notes pushed counted (λ kind. elim kind [ gots.Address ↦ refl | gots.Pair ↦ refl | gots.Offset ↦ refl ]))
