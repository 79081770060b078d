use Rattle.std.proofs.Common.{◌≡◌, List, ℕ, Some, sym, ap, subst, ◌∙◌}
use Rattle.rv_hart.specs.Registers.{Registers, registers_of}
use Rattle.history_calls.specs.Call.{dlmopen, dlopen, dlsym, dlvsym}
use Rattle.hart_moves.specs.Due.{Due, Return, back, call_of}
use Rattle.hart_moves.specs.Registers.{a0, a1, a2, ra}
use Rattle.hart_seat.specs.HartParts.Turns.{HasName}
use Rattle.hart_seat.specs.HartParts.Views.{naming_of}
use Rattle.hart_seat.specs.declared.hart_parts.due.Naming.{Naming}
use Rattle.hart_seat.specs.Table.{HartTable}
use Rattle.hart_seat.proofs.Taken.{name_bytes}
use Rattle.hart_seat.proofs.hart.LinkedHart.named_call.Goals as goal

pub returns-in-Dlvsym : goal.returns-in-Dlvsym
unfolding call_of
returns-in-Dlvsym c = λ s name version is.
    let h = c.self.inside in
    let r : Registers = registers_of h.registers in
    let to : Return = back c.args.self.now.hart in
    let both : (h.bytes ≡ name) × (h.version ≡ version) =
    name_bytes h.bytes h.version h.message h.phase (naming_of c.args.naming) name version
    (subst (λ (t : HartTable). HasName t.hart.phase (naming_of c.args.naming) name version) (sym c.self.view_is) is) in
    ap (λ (n : List ℕ). Due.serve (dlvsym s (ra r) (a0 r) n c.as_slice-version.result.now) to) (c.as_slice-name.ensures.bytes ∙ both.0)
    ∙ ap (λ (v : List ℕ). Due.serve (dlvsym s (ra r) (a0 r) name v) to) (c.as_slice-version.ensures.bytes ∙ both.1)
    ∙ ap (λ (t : HartTable). Due.serve (dlvsym s (ra t.hart.registers) (a0 t.hart.registers) name version) to) c.self.view_is
    ∙ ap (λ (n : Naming). Due.serve (call_of s c.args.self.now.hart.registers (naming_of n) name version) to) (sym c.in-Dlvsym.is)

pub returns-in-Dlopen : goal.returns-in-Dlopen
unfolding call_of
returns-in-Dlopen c = λ s name version is.
    let h = c.self.inside in
    let r : Registers = registers_of h.registers in
    let to : Return = back c.args.self.now.hart in
    let both : (h.bytes ≡ name) × (h.version ≡ version) =
    name_bytes h.bytes h.version h.message h.phase (naming_of c.args.naming) name version
    (subst (λ (t : HartTable). HasName t.hart.phase (naming_of c.args.naming) name version) (sym c.self.view_is) is) in
    ap (λ (n : List ℕ). Due.serve (dlopen s (ra r) (Some n) (a1 r)) to) (c.as_slice-name.ensures.bytes ∙ both.0)
    ∙ ap (λ (t : HartTable). Due.serve (dlopen s (ra t.hart.registers) (Some name) (a1 t.hart.registers)) to) c.self.view_is
    ∙ ap (λ (n : Naming). Due.serve (call_of s c.args.self.now.hart.registers (naming_of n) name version) to) (sym c.in-Dlopen.is)

pub returns-in-Dlmopen : goal.returns-in-Dlmopen
unfolding call_of
returns-in-Dlmopen c = λ s name version is.
    let h = c.self.inside in
    let r : Registers = registers_of h.registers in
    let to : Return = back c.args.self.now.hart in
    let both : (h.bytes ≡ name) × (h.version ≡ version) =
    name_bytes h.bytes h.version h.message h.phase (naming_of c.args.naming) name version
    (subst (λ (t : HartTable). HasName t.hart.phase (naming_of c.args.naming) name version) (sym c.self.view_is) is) in
    ap (λ (n : List ℕ). Due.serve (dlmopen (a0 r) (Some n) (a2 r)) to) (c.as_slice-name.ensures.bytes ∙ both.0)
    ∙ ap (λ (t : HartTable). Due.serve (dlmopen (a0 t.hart.registers) (Some name) (a2 t.hart.registers)) to) c.self.view_is
    ∙ ap (λ (n : Naming). Due.serve (call_of s c.args.self.now.hart.registers (naming_of n) name version) to) (sym c.in-Dlmopen.is)

pub returns-in-Dlsym : goal.returns-in-Dlsym
unfolding call_of
returns-in-Dlsym c = λ s name version is.
    let h = c.self.inside in
    let r : Registers = registers_of h.registers in
    let to : Return = back c.args.self.now.hart in
    let both : (h.bytes ≡ name) × (h.version ≡ version) =
    name_bytes h.bytes h.version h.message h.phase (naming_of c.args.naming) name version
    (subst (λ (t : HartTable). HasName t.hart.phase (naming_of c.args.naming) name version) (sym c.self.view_is) is) in
    ap (λ (n : List ℕ). Due.serve (dlsym s (ra r) (a0 r) n) to) (c.as_slice-name.ensures.bytes ∙ both.0)
    ∙ ap (λ (t : HartTable). Due.serve (dlsym s (ra t.hart.registers) (a0 t.hart.registers) name) to) c.self.view_is
    ∙ ap (λ (n : Naming). Due.serve (call_of s c.args.self.now.hart.registers (naming_of n) name version) to) (sym c.in-Dlsym.is)
