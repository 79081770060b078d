use Rattle.std.proofs.Common.{◌≡◌, ℕ, List, [], refl, ap, sym, ◌∙◌}
use Rattle.rv_hart.specs.Registers.{registers_of}
use Rattle.hart_moves.specs.Copying.{after_name, before_end}
use Rattle.hart_moves.specs.Due.{name_start, write_count}
use Rattle.hart_moves.specs.Harts.{HartState, Naming, Phase}
use Rattle.hart_moves.specs.Registers.{a0, a1, a2}
use Rattle.hart_seat.specs.HartParts.Views.{naming_of}
use Rattle.hart_seat.specs.Copied.{more_bytes}
use Rattle.hart_seat.specs.Inside.{hart_of}
use Rattle.hart_seat.specs.Phases.{phase_of}
use Rattle.hart_seat.specs.Table.{HartTable}
use Rattle.hart_seat.proofs.Taken.{name_left, name_over, pair_left, taken, text_left, version_left, version_over}
use Rattle.hart_seat.proofs.hart.LinkedHart.take_word.Goals as goal

pub returns-then-take_name : goal.returns-then-take_name
returns-then-take_name c =
    let view : hart_of c.self.inside ≡ c.args.self.now.hart = ap (λ (t : HartTable). t.hart) c.self.view_is in
    let made : phase_of c.take_name.new.bytes c.clear.new.self c.self.inside.message c.after_name-self-inside.result
    ≡ after_name (naming_of c.in-Naming.naming) (before_end (more_bytes 256 c.name_start-start.result c.self.inside.bytes c.args.word)) =
    ap (λ (v : List ℕ). phase_of c.take_name.new.bytes v c.self.inside.message c.after_name-self-inside.result) c.clear.ensures
    ∙ ap (λ (bs : List ℕ). phase_of bs [] c.self.inside.message c.after_name-self-inside.result) (sym c.as_slice.ensures.bytes)
    ∙ c.after_name-self-inside.ensures.phase c.self.inside.message
    ∙ ap (λ (bs : List ℕ). after_name (naming_of c.in-Naming.naming) bs) (c.as_slice.ensures.bytes ∙ c.take_name.ensures.left) in
    taken c.self.inside c.args.self.now.hart c.args.word (phase_of c.take_name.new.bytes c.clear.new.self c.self.inside.message c.after_name-self-inside.result) view
    (name_over c.self.inside c.name_start-start.result c.args.word [] c.in-Naming.naming
    (phase_of c.take_name.new.bytes c.clear.new.self c.self.inside.message c.after_name-self-inside.result) c.in-Naming.is
    (c.name_start-start.ensures ∙ ap (λ (b : HartState). name_start (naming_of c.in-Naming.naming) b.registers) (sym view))
    (sym c.if-take_name.ensures.copied) made)

pub returns-else-take_name : goal.returns-else-take_name
returns-else-take_name c =
    let view : hart_of c.self.inside ≡ c.args.self.now.hart = ap (λ (t : HartTable). t.hart) c.self.view_is in
    taken c.self.inside c.args.self.now.hart c.args.word (phase_of c.take_name.new.bytes c.self.inside.version c.self.inside.message c.self.inside.phase) view
    (name_left c.self.inside c.name_start-start.result c.args.word c.take_name.new.bytes c.in-Naming.naming c.in-Naming.is
    (c.name_start-start.ensures ∙ ap (λ (b : HartState). name_start (naming_of c.in-Naming.naming) b.registers) (sym view))
    (sym c.if-take_name.ensures.copied) (c.take_name.ensures.whole c.if-take_name.false))

pub returns-then-take_name-2 : goal.returns-then-take_name-2
returns-then-take_name-2 c =
    let view : hart_of c.self.inside ≡ c.args.self.now.hart = ap (λ (t : HartTable). t.hart) c.self.view_is in
    taken c.self.inside c.args.self.now.hart c.args.word (Phase.named Naming.dlvsym c.self.inside.bytes c.take_name-in-Versioning.new.bytes) view
    (version_over c.self.inside (a2 (registers_of c.self.inside.registers)) c.args.word c.take_name-in-Versioning.new.bytes c.in-Versioning.is refl
    (sym c.if-take_name-2.ensures.copied) c.take_name-in-Versioning.ensures.left)

pub returns-else-take_name-2 : goal.returns-else-take_name-2
returns-else-take_name-2 c =
    let view : hart_of c.self.inside ≡ c.args.self.now.hart = ap (λ (t : HartTable). t.hart) c.self.view_is in
    taken c.self.inside c.args.self.now.hart c.args.word
    (phase_of c.self.inside.bytes c.take_name-in-Versioning.new.bytes c.self.inside.message c.self.inside.phase) view
    (version_left c.self.inside (a2 (registers_of c.self.inside.registers)) c.args.word c.take_name-in-Versioning.new.bytes c.in-Versioning.is refl
    (sym c.if-take_name-2.ensures.copied) (c.take_name-in-Versioning.ensures.whole c.if-take_name-2.false))

pub returns-in-Pairing : goal.returns-in-Pairing
returns-in-Pairing c =
    let view : hart_of c.self.inside ≡ c.args.self.now.hart = ap (λ (t : HartTable). t.hart) c.self.view_is in
    taken c.self.inside c.args.self.now.hart c.args.word (phase_of c.take_bytes.new.bytes c.self.inside.version c.self.inside.message c.self.inside.phase) view
    (pair_left c.self.inside (a0 (registers_of c.self.inside.registers)) c.args.word c.take_bytes.new.bytes c.in-Pairing.is refl c.take_bytes.ensures)

pub returns-in-Writing : goal.returns-in-Writing
returns-in-Writing c =
    let view : hart_of c.self.inside ≡ c.args.self.now.hart = ap (λ (t : HartTable). t.hart) c.self.view_is in
    taken c.self.inside c.args.self.now.hart c.args.word
    (phase_of c.take_bytes-in-Writing.new.bytes c.self.inside.version c.self.inside.message c.self.inside.phase) view
    (text_left c.self.inside (a1 (registers_of c.self.inside.registers)) c.args.word c.take_bytes-in-Writing.new.bytes c.write_count-count.result c.in-Writing.is refl
    (c.write_count-count.ensures ∙ ap (λ (b : HartState). write_count b.registers) (sym view)) c.take_bytes-in-Writing.ensures)

pub invariant_of-self : goal.invariant_of-self
invariant_of-self c = record {
  fuel = c.self.invariant.fuel;
  turns = c.self.invariant.turns;
  text = c.after_name-self-inside.ensures.inside c.self.inside.message;
  room = c.self.invariant.room;
}
