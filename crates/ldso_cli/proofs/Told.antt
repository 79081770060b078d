-- What a command comes to whose run was played.
use Rattle.std.proofs.Common.{◌≡◌, inl, inr, ℕ, List, [], ◌++◌, Some, Result, Ok, Err, ap, subst, ◌∙◌, arith}
use Rattle.std.specs.Prelude.{IfOk}
use Rattle.std.specs.declared.alloc.AllocError.{AllocError}
use Rattle.ld_base.specs.declared.linking.File.{File}
use Rattle.library_source.specs.Count.{Rises}
use Rattle.cli_words.specs.declared.command.Turns.{Turns}
use Rattle.lib_gen.specs.Library.{SetState}
use Rattle.lib_gen.specs.Set.{AreSetOf}
use Rattle.history_calls.specs.declared.link_served.startup.Setup.{Setup}
use Rattle.trace_text.specs.RunTexts.Printed.{journal_lines}
use Rattle.world_turns.specs.declared.schedules.schedule.TurnItem.{TurnItem}
use Rattle.ldso_cli.specs.End.{kept_end}
use Rattle.ldso_cli.specs.Generate.{GenComes, set_at, set_cause, set_setup, set_text}
use Rattle.ldso_cli.specs.Outside.{LibraryAt}
use Rattle.ldso_cli.specs.Played.{IsPlayed, last_line, run_cause}
use Rattle.ldso_cli.specs.Turns.{Schedules, TurnsComes}
use Rattle.ldso_cli.specs.declared.answer.Answer.{Answer}
use Rattle.ldso_cli.specs.declared.play.Played.{Played}

pub turns_come : (turns : Turns) (before after : LibraryAt) (items : List TurnItem) (p : Played) (r : Result Answer AllocError) → Schedules turns items → IsPlayed turns.setup items before after p.ended p.left
    → IfOk r (λ a. a.end ≡ kept_end (run_cause p.ended) p.left) → IfOk r (λ a. a.text ≡ journal_lines p.left.journal.events ++ last_line p.ended) → IfOk r (λ a. TurnsComes turns before after a.end a.text)
turns_come turns before after items p (Ok a) says plays end text = record { items = items; says = says; ended = p.ended; left = p.left; plays = plays; end_is = end; text_is = text }
turns_come turns before after items p (Err e) says plays end text = tt

pub gen_comes : (number : ℕ) (files : List File) (misses : ℕ) (p : Played) (r : Result Answer AllocError) → AreSetOf number files → IsPlayed set_setup [] (set_at files 0) (set_at files misses) p.ended p.left
    → IfOk r (λ a. a.end ≡ kept_end (set_cause p.ended) p.left) → IfOk r (λ a. a.text ≡ set_text number p.ended p.left.journal.events) → IfOk r (λ a. GenComes number a.end a.text)
gen_comes number files misses p (Ok a) are plays end text = record { files = files; are = are; misses = misses; ended = p.ended; left = p.left; plays = plays; end_is = end; text_is = text }
gen_comes number files misses p (Err e) are plays end text = tt

-- what was played over the set's own library
pub played_set : (files : List File) (setup : Setup) (items : List TurnItem) (old new : SetState) (p : Played) → setup ≡ set_setup → items ≡ [] → old ≡ record { files = files; misses = 0 } → Some new.files ≡ Some old.files
    → IsPlayed setup items (set_at old.files old.misses) (set_at new.files new.misses) p.ended p.left → IsPlayed set_setup [] (set_at files 0) (set_at files new.misses) p.ended p.left
played_set files setup items old new p setup_is items_are old_is files_are plays =
    let same : new.files ≡ files = (let kept : new.files ≡ old.files = cc in kept ∙ ap (λ (s : SetState). s.files) old_is) in
    subst (λ (s : Setup). IsPlayed s [] (set_at files 0) (set_at files new.misses) p.ended p.left) setup_is
    (subst (λ (it : List TurnItem). IsPlayed setup it (set_at files 0) (set_at files new.misses) p.ended p.left) items_are
    (subst (λ (fs : List File). IsPlayed setup items (set_at files 0) (set_at fs new.misses) p.ended p.left) same
    (subst (λ (s : SetState). IsPlayed setup items (set_at s.files s.misses) (set_at new.files new.misses) p.ended p.left) old_is plays)))

-- a count that stays 0
pub never_rises : Rises 0 0 → ⊥
never_rises (inl more) = omega (arith, more)
never_rises (inr most) = omega (arith, most)
