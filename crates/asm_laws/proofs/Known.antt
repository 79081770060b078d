-- What an instruction of lines without a fault goes to is there.
use Rattle.std.proofs.Common.{◌≡◌, ◌∙◌, ap, ℕ, ℤ, pos, Bool, true, false, not, ◌&&◌, ◌||◌, if◌then◌else◌, List, length, refl, ◌-◌, ◌^◌, neg_ℤ}
use Rattle.std.specs.Prelude.{⊤, Option, Some, None, option_map, nat_lt, position}
use Rattle.std.specs.List.{list_any}
use Rattle.std.specs.Option.{is_some}
use Rattle.std.specs.Str.{bytes_eq}
use Rattle.asm_statement.specs.declared.line.Line.{Line}
use Rattle.asm_layout.specs.declared.place.Place.{Place}
use Rattle.asm_layout.specs.declared.uses.GotUse.{GotUse}
use Rattle.asm_layout.specs.declared.uses.GotKind.{GotKind}
use Rattle.asm_layout.specs.declared.uses.GotKind.TheVariants as gots
use Rattle.asm_layout.specs.Expansions.{Operand, Registers, Immediate, Upper, Word, Label, Code, Entry}
use Rattle.asm_layout.specs.Faults.{is_known, is_usable, number_fits, operand_is_known}
use Rattle.asm_layout.specs.Labels.{is_label, label, defines}
use Rattle.asm_layout.specs.Names.{is_got_plt, is_preemptible, is_library, kind_of, is_exported, is_kept}
use Rattle.asm_layout.specs.Numbers.{is_between, value_of}
use Rattle.asm_layout.specs.Places.{place_at}
use Rattle.asm_layout.specs.Uses.{slots, got_uses, same_use, same_kind}
use Rattle.asm_layout.specs.Words.{label_address, label_or, call_address, slot_address, got_address, operand_value, target}
use Rattle.asm_laws.specs.Lemmas.Given.{same_name}
use Rattle.asm_layout.proofs.Firsts.{any_found}

itself : (kind : GotKind) → same_kind kind kind ≡ true
itself gots.Address = refl
itself gots.Pair = refl
itself gots.Offset = refl

pub same_as_itself : (got : GotUse) → same_use got got ≡ true
same_as_itself got = rw (itself got.kind, same_name got.name) refl

-- Targets

pub mapped : {A B : Type 0} (f : A → B) (o : Option A) → is_some (option_map f o) ≡ is_some o
mapped f None = refl
mapped f (Some x) = refl

label_found : (lines : List Line) (name : List ℕ) → is_some (label lines name) ≡ is_label lines name
unfolding label
label_found lines name = mapped (place_at lines) (position (defines name) lines) ∙ any_found (defines name) lines

known_or : (lines : List Line) (name : List ℕ) (o : Option Place) → is_some o ≡ is_label lines name → is_known lines name ≡ true → is_some (label_or lines name o) ≡ true
known_or lines name (Some place) same known = refl
known_or lines name None same known =
    let slot = is_got_plt name && nat_lt 0 (length (slots lines)) in
    let rest : slot ≡ true = ap (λ b. b || slot) same ∙ known in
    rw rest refl

label_there : (lines : List Line) (name : List ℕ) → is_known lines name ≡ true → is_some (label_address lines name) ≡ true
unfolding label_address
label_there lines name known = known_or lines name (label lines name) (label_found lines name) known

usable_known : (is_there plt slot other : Bool) → ((is_there || (plt && slot)) || not plt) ≡ true → ((not is_there && not plt) || other) ≡ false
    → (is_there || (plt && slot)) ≡ true
usable_known true plt slot other usable own = refl
usable_known false true true other usable own = refl
usable_known false true false other usable own = absurd (cc usable)
usable_known false false slot other usable own = absurd (cc own)

slot_there : (lines : List Line) (name : List ℕ) → list_any (bytes_eq name) (slots lines) ≡ true → is_some (slot_address lines name) ≡ true
unfolding slot_address
slot_there lines name there = mapped _ (position (bytes_eq name) (slots lines)) ∙ any_found (bytes_eq name) (slots lines) ∙ there

code_there : (lines : List Line) (name : List ℕ) → is_usable lines name ≡ true → (is_preemptible lines name ≡ true → list_any (bytes_eq name) (slots lines) ≡ true)
    → is_some (call_address lines name) ≡ true
unfolding call_address is_preemptible
code_there lines name usable slot =
    let P : Bool → Type 0 = λ other. is_preemptible lines name ≡ other → is_some (if other then slot_address lines name else label_address lines name) ≡ true in
    let cases : (other : Bool) → P other = λ other. elim other as P [
      | true ↦ λ is. slot_there lines name (slot is)
      | false ↦ λ is. label_there lines name (usable_known (is_label lines name) (is_got_plt name) (nat_lt 0 (length (slots lines)))
          (is_label lines name && is_library (kind_of lines) && is_exported lines name && not (is_kept lines name)) usable is)
    ] in
    cases (is_preemptible lines name) refl

entry_there : (lines : List Line) (got : GotUse) → list_any (same_use got) (got_uses lines) ≡ true → is_some (got_address lines got) ≡ true
unfolding got_address
entry_there lines got there = mapped _ (position (same_use got) (got_uses lines)) ∙ any_found (same_use got) (got_uses lines) ∙ there

between_some : (least greatest : ℤ) (o : Option ℤ) → is_between least greatest o ≡ true → is_some o ≡ true
between_some least greatest None within = absurd (cc within)
between_some least greatest (Some value) within = refl

-- the code that an operand goes to has a slot where it needs one, and what it takes stands in the table
abbrev pub HasSlot : List Line → Operand → Type 0
HasSlot lines (Code name) = is_preemptible lines name ≡ true → list_any (bytes_eq name) (slots lines) ≡ true
HasSlot lines (Entry kind name) = list_any (same_use (record { kind = kind; name = name })) (got_uses lines) ≡ true
HasSlot lines Registers = ⊤
HasSlot lines (Immediate number) = ⊤
HasSlot lines (Upper number) = ⊤
HasSlot lines (Word number) = ⊤
HasSlot lines (Label name) = ⊤

pub valued : (lines : List Line) (here : ℕ) (operand : Operand) → number_fits operand ≡ true → operand_is_known lines operand ≡ true → HasSlot lines operand
    → is_some (operand_value lines here operand) ≡ true
unfolding operand_value target
valued lines here Registers fits known slot = refl
valued lines here (Immediate number) fits known slot = fits
valued lines here (Upper number) fits known slot = between_some (pos 0) (pos (2 ^ 20 - 1)) (value_of number) fits
valued lines here (Word number) fits known slot = between_some (neg_ℤ (pos (2 ^ 31))) (pos (2 ^ 31 - 1)) (value_of number) fits
valued lines here (Label name) fits known slot = mapped _ (label_address lines name) ∙ label_there lines name known
valued lines here (Code name) fits known slot = mapped _ (call_address lines name) ∙ code_there lines name known slot
valued lines here (Entry kind name) fits known slot = mapped _ (got_address lines (record { kind = kind; name = name })) ∙ entry_there lines (record { kind = kind; name = name }) slot
