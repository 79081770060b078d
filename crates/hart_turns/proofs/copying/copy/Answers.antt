use Rattle.std.proofs.Common.{ℕ, [], ◌∷◌, Ok, Err, refl, ap, subst, ◌∙◌}
use Rattle.rv_hart.specs.declared.bus.BusFault.{BusFault}
use Rattle.rv_hart.specs.declared.bus.BusFault.TheVariants.{Role as RoleFault, Again as AgainFault}
use Rattle.rv_hart.specs.declared.bus.Item.TheVariants.{Read}
use Rattle.hart_moves.specs.Copying.{doubleword_at}
use Rattle.hart_moves.specs.Harts.{HartState}
use Rattle.hart_moves.specs.Moves.{Unread, spent}
use Rattle.hart_turns.specs.Turns.{TurnsTo}
use Rattle.hart_turns.specs.declared.turned.Turned.TheVariants.{Over, Again}
use Rattle.hart_turns.proofs.Rows.{copies}
use Rattle.hart_turns.proofs.copying.copy.Goals as goal

pub returns-in-Ok-clause-turn : goal.returns-in-Ok-clause-turn
returns-in-Ok-clause-turn g c = λ s copy start bytes is from text.
    copies g.B.Bus.does c.args.bus.now c.read.new.self c.args.hart.now.hart c.spend.new.self.hart Over copy start bytes (Ok c.in-Ok.word) c.args.first from
    c.in-Ok.ensures.did
    (λ w past h. record { is = refl; leaves = c.spend.ensures ∙ ap (λ (b : HartState). spent b) (c.copied.ensures.phase s copy start bytes is) })

pub returns-in-Err-Role-clause-turn : goal.returns-in-Err-Role-clause-turn
returns-in-Err-Role-clause-turn g c = λ s copy start bytes is from text.
    let role = c.in-Err-Role.field-0-0 in
    copies g.B.Bus.does c.args.bus.now c.read.new.self c.args.hart.now.hart c.unread.new.hart.hart c.unread.result copy start bytes (Err (RoleFault role)) c.args.first from
    (subst (λ (fault : BusFault). g.B.Bus.does c.args.bus.now (Read (doubleword_at c.args.first) 8 (Err fault)) c.read.new.self) c.in-Err-Role.field-0-is c.in-Err-Role.ensures.did)
    (λ w past h.
    let items = Read (doubleword_at c.args.first) 8 (Err (RoleFault role)) ∷ [] in
    subst (λ (a : ℕ). TurnsTo (Unread w past h c.args.hart.now.hart items copy a) w past h items c.unread.result c.unread.new.hart.hart) from (c.unread.ensures.turn w past h items copy text))

pub returns-in-Err-Again-clause-turn : goal.returns-in-Err-Again-clause-turn
returns-in-Err-Again-clause-turn g c = λ s copy start bytes is from text.
    let shown = c.in-Err-Again.shown in
    copies g.B.Bus.does c.args.bus.now c.read.new.self c.args.hart.now.hart c.spend-in-Err-Again.new.self.hart (Again shown) copy start bytes (Err (AgainFault shown)) c.args.first from
    (subst (λ (fault : BusFault). g.B.Bus.does c.args.bus.now (Read (doubleword_at c.args.first) 8 (Err fault)) c.read.new.self) c.in-Err-Again.field-0-is c.in-Err-Again.ensures.did)
    (λ w past h. record { is = refl; leaves = c.spend-in-Err-Again.ensures })
