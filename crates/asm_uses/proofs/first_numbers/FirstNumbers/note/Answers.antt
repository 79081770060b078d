use Rattle.std.proofs.Common.{◌≡◌, true, ◌∙◌, ap, sym}
use Rattle.std.specs.Option.{is_some}
use Rattle.asm_uses.specs.Numbers.{number_of}
use Rattle.asm_uses.specs.Spelled.{spelled_pairs}
use Rattle.asm_uses.proofs.Noted.{looked_up, number_noted, number_kept}
use Rattle.asm_uses.proofs.first_numbers.FirstNumbers.note.Goals as goal

pub returns-in_ok-insert : goal.returns-in_ok-insert
returns-in_ok-insert c = λ other.
    rw (← c.self.view_is)
    (ap (λ numbers. number_of (spelled_pairs numbers) other) c.in_ok-insert.ensures.entries
    ∙ number_noted c.self.inside.numbers.entries c.in_ok-name.name c.args.name.now other c.args.number c.in_ok-name.ensures.items
    (sym c.contains_key.ensures ∙ c.if-not-contains_key.true))

pub returns-else-not-contains_key : goal.returns-else-not-contains_key
returns-else-not-contains_key c = λ other.
    let entries = c.self.inside.numbers.entries in
    let there : is_some (number_of (spelled_pairs entries) c.args.name.now) ≡ true =
    sym (ap is_some (looked_up entries c.args.name.now)) ∙ sym c.contains_key.ensures ∙ c.if-not-contains_key.false in
    rw (← c.self.view_is) (number_kept (spelled_pairs entries) c.args.name.now other c.args.number there)
