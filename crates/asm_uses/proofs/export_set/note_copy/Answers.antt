use Rattle.std.proofs.Common.{◌≡◌, ℕ, List, Some, None, refl}
use Rattle.std.specs.Prelude.{Option}
use Rattle.std.proofs.lemmas.Result.{on_ok_weaker}
use Rattle.asm_statement.specs.declared.directive.Directive.TheVariants as directives
use Rattle.asm_statement.specs.declared.line.Statement.{Statement}
use Rattle.asm_statement.specs.declared.line.Statement.TheVariants as statements
use Rattle.asm_layout.specs.Labels.{copy_name}
use Rattle.asm_layout.specs.Uses.{copies}
use Rattle.asm_layout.specs.Once.{is_it}
use Rattle.asm_uses.proofs.Noted.{none_stays}
use Rattle.asm_uses.proofs.export_set.note_copy.Goals as goal

copied : (name : List ℕ) (statement : Option Statement) → copies name statement ≡ is_it name (copy_name statement)
copied name None = refl
copied name (Some (statements.Instruction instruction)) = refl
copied name (Some (statements.Directive (directives.Copy copy size))) = refl
copied name (Some (statements.Directive _)) = refl

pub returns-in-Some : goal.returns-in-Some
returns-in-Some c =
    on_ok_weaker c.note.result
    (λ noted other. rw (copied other c.args.line.now.statement, ← c.in-Some.ensures) (noted other))
    c.note.ensures

pub returns-in-None : goal.returns-in-None
returns-in-None c = λ other.
    rw (copied other c.args.line.now.statement, ← c.in-None.ensures) (none_stays _)
