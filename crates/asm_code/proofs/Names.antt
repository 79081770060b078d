-- Where names are, by what is looked up.
use Rattle.std.proofs.Common.{◌≡◌, ℕ, ◌+◌, ◌*◌, true, false, List, Some, None, refl}
use Rattle.std.specs.Prelude.{Option, option_map, position}
use Rattle.std.specs.Str.{bytes_eq}
use Rattle.asm_statement.specs.declared.line.Line.{Line}
use Rattle.asm_write.specs.declared.part.Part.TheVariants as parts
use Rattle.asm_layout.specs.declared.uses.GotUse.{GotUse}
use Rattle.asm_layout.specs.Labels.{defines, label}
use Rattle.asm_layout.specs.Names.{is_preemptible}
use Rattle.asm_layout.specs.Parts.{start_of}
use Rattle.asm_layout.specs.Uses.{slots, got_uses, same_use}
use Rattle.asm_layout.specs.Words.{address_at, got_plt_address, label_address, slot_address, call_address, words_before, got_address}

pub label_there : (lines : List Line) (name : List ℕ) (line : ℕ) → Some line ≡ position (defines name) lines
    → Some (address_at lines line) ≡ label_address lines name
unfolding label_address label
label_there lines name line e = rw (← e) refl

pub label_missing : (lines : List Line) (name : List ℕ) → None ≡ position (defines name) lines
    → got_plt_address lines name ≡ label_address lines name
unfolding label_address label
label_missing lines name e = rw (← e) refl

pub slot_found : (lines : List Line) (name : List ℕ) (names : List (List ℕ)) (plt : ℕ) → names ≡ slots lines → plt ≡ start_of lines parts.Plt
    → option_map (λ slot. plt + 32 + 16 * slot) (position (bytes_eq name) names) ≡ slot_address lines name
unfolding slot_address
slot_found lines name names plt same start = rw (same, start) refl

pub call_by_slot : (lines : List Line) (name : List ℕ) → is_preemptible lines name ≡ true → slot_address lines name ≡ call_address lines name
unfolding call_address
call_by_slot lines name is = rw is refl

pub call_by_label : (lines : List Line) (name : List ℕ) → is_preemptible lines name ≡ false → label_address lines name ≡ call_address lines name
unfolding call_address
call_by_label lines name is = rw is refl

pub entry_found : (lines : List Line) (it : GotUse) (got : ℕ) → got ≡ start_of lines parts.Got
    → option_map (λ word. got + 8 * word) (option_map (words_before (got_uses lines)) (position (same_use it) (got_uses lines)))
    ≡ got_address lines it
unfolding got_address
entry_found lines it got start = rw start (twice (position (same_use it) (got_uses lines)))
  where
    twice : (o : Option ℕ) → option_map (λ word. start_of lines parts.Got + 8 * word) (option_map (words_before (got_uses lines)) o)
        ≡ option_map (λ place. start_of lines parts.Got + 8 * words_before (got_uses lines) place) o
    twice None = refl
    twice (Some place) = refl
