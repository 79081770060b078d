use Rattle.std.proofs.Common.{ℕ, ◌+◌, ◌*◌, [], ◌∷◌, Ok, Err, refl, ap, subst, ◌∙◌}
use Rattle.rv_hart.specs.declared.bus.BusFault.{BusFault}
use Rattle.rv_hart.specs.declared.bus.BusFault.TheVariants.{Role as RoleFault, Again as AgainFault}
use Rattle.rv_hart.specs.declared.bus.Item.TheVariants.{Write}
use Rattle.rv_hart.specs.Registers.{Registers}
use Rattle.history_event.specs.declared.hart_end.HartEnd.{HartEnd}
use Rattle.hart_moves.specs.Harts.{HartState}
use Rattle.hart_moves.specs.Moves.{role_end, spent}
use Rattle.hart_turns.specs.declared.turned.Turned.TheVariants.{Over, Again, Ends}
use Rattle.hart_turns.proofs.Rows.{ends_so, stores}
use Rattle.hart_turns.proofs.storing.store.Goals as goal

pub returns-in-Ok-clause-turn : goal.returns-in-Ok-clause-turn
returns-in-Ok-clause-turn g c = λ text stored more is at.
    stores g.B.Bus.does c.args.bus.now c.write.new.self c.args.hart.now.hart c.spend.new.self.hart Over text stored c.args.word more (Ok c.in-Ok.field-0) c.args.address at
    c.in-Ok.ensures.did
    (λ w past h. record { is = refl; leaves = c.spend.ensures ∙ ap (λ (b : HartState). spent b) (c.stored.ensures.stored text stored c.args.word more is) })

pub returns-in-Err-Role-clause-turn : goal.returns-in-Err-Role-clause-turn
returns-in-Err-Role-clause-turn g c = λ text stored more is at.
    let role = c.in-Err-Role.role in
    stores g.B.Bus.does c.args.bus.now c.write.new.self c.args.hart.now.hart c.end_with.new.hart.hart c.end_with.result text stored c.args.word more (Err (RoleFault role)) c.args.address at
    (subst (λ (fault : BusFault). g.B.Bus.does c.args.bus.now (Write c.args.address 8 c.args.word (Err fault)) c.write.new.self) c.in-Err-Role.field-0-is c.in-Err-Role.ensures.did)
    (λ w past h.
    let items = Write c.args.address 8 c.args.word (Err (RoleFault role)) ∷ [] in
    ends_so w past h c.args.hart.now.hart c.end_with.new.hart.hart items (role_end c.args.hart.now.hart.registers.pc (text + 8 * stored) items role) c.end_with.result
    (c.end_with.ensures.result ∙ ap (λ (e : HartEnd). Ends e)
    (c.role_end.ensures items refl ∙ ap (λ (r : Registers). role_end r.pc c.args.address items role) c.registers.ensures
    ∙ ap (λ (a : ℕ). role_end c.args.hart.now.hart.registers.pc a items role) at)) c.end_with.ensures.hart)

pub returns-in-Err-Again-clause-turn : goal.returns-in-Err-Again-clause-turn
returns-in-Err-Again-clause-turn g c = λ text stored more is at.
    let shown = c.in-Err-Again.shown in
    stores g.B.Bus.does c.args.bus.now c.write.new.self c.args.hart.now.hart c.spend-in-Err-Again.new.self.hart (Again shown) text stored c.args.word more (Err (AgainFault shown)) c.args.address at
    (subst (λ (fault : BusFault). g.B.Bus.does c.args.bus.now (Write c.args.address 8 c.args.word (Err fault)) c.write.new.self) c.in-Err-Again.field-0-is c.in-Err-Again.ensures.did)
    (λ w past h. record { is = refl; leaves = c.spend-in-Err-Again.ensures })
