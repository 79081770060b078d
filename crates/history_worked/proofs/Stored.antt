-- Where static blocks stand, and what is copied, event by event.
use Rattle.std.proofs.Common.{◌≡◌, ◌≢◌, inl, ℕ, ◌+◌, ◌≤◌, List, [], ◌∷◌, map, Option, Some, None, refl, sym, ap, ◌∙◌, arith}
use Rattle.std.specs.Prelude.{codes, ◌%◌}
use Rattle.ld_base.specs.declared.fault.DlFault.TheVariants.{MissingSymbol}
use Rattle.ld_base.specs.declared.linking.File.{File}
use Rattle.ld_base.specs.declared.linking.Loaded.{Loaded}
use Rattle.ld_base.specs.declared.linking.TlsPlace.{TlsPlace}
use Rattle.history_event.specs.declared.event.Event.TheVariants.{Open}
use Rattle.history_event.specs.declared.event.OpenAnswer.{OpenAnswer}
use Rattle.history_event.specs.declared.event.OpenAnswer.TheVariants.{Absent, Done, Refused}
use Rattle.history_event.specs.declared.state.Module.{Module}
use Rattle.scope_rule.specs.Breadth.{breadth}
use Rattle.scope_rule.specs.Choose.{choose_for, pick_at}
use Rattle.scope_rule.specs.Linker.{linker_symbol}
use Rattle.scope_rule.specs.Load.{find_opened, find_path, finds, step as load_step}
use Rattle.scope_rule.specs.Relocation.{choice_at}
use Rattle.scope_rule.specs.Scope.{scope}
use Rattle.seg_image.specs.Pages.{align_of, guest_address, high_of, low_of, own_address, pages_of, segment_at}
use Rattle.relocator.specs.Relocated.{copied_at, image_byte, image_word, linkers_at, packed_at, rela_at, settled_word, slot_at, with_copies}
use Rattle.seg_image.specs.Words.{byte_of, file_byte, file_word, word_of}
use Rattle.tls_blocks.specs.Numbers.{IsLeastFree}
use Rattle.tls_blocks.specs.Places.{IsOffset}
use Rattle.history_calls.specs.Laws.{OneOpening}
use Rattle.history_calls.specs.Lemmas.Readings.{reading_told, told_reads}
use Rattle.history_state.specs.Addresses.{address}
use Rattle.history_state.specs.After.{after, after_from}
use Rattle.history_state.specs.Allowed.{AllowedIn}
use Rattle.history_event.specs.declared.event.Range.{Range}
use Rattle.history_state.specs.Areas.{AreGiven, free_pages}
use Rattle.history_state.specs.Bound.{linked_with}
use Rattle.history_state.specs.Legal.{Legal}
use Rattle.history_state.specs.Memory.{first_word_at, word_in}
use Rattle.history_state.specs.Opening.{wanted}
use Rattle.history_state.specs.Opening.Refuses.{unrelocated}
use Rattle.history_state.specs.Parts.{file_of, pages_at, placed, stack_at}
use Rattle.history_state.specs.Relocating.{relocation_fault}
use Rattle.history_state.specs.State.{empty_state}
use Rattle.history_state.specs.Step.{loaded}
use Rattle.history_state.specs.Lemmas.InRow.{free_from, given_in_row}
use Rattle.history_state.specs.Lemmas.Lists.{here, none_in, only_in}
use Rattle.history_state.specs.Lemmas.Played.{legal_by, loads}
use Rattle.history_worked.specs.Storing.{asks, at_20, at_32, at_48, copies, copies_nothing, copying, liba, libv, libw, loaded_with, prog, setting}
use Rattle.history_worked.specs.Storing.{started_at, storage_of, v_is_copied, v_is_its_own, v_is_missing}
use Rattle.history_worked.proofs.Opened.{one_way}

-- ---- static blocks

abbrev files : List File
files = map file_of (prog ∷ liba ∷ [])

first_number : IsLeastFree [] 1
first_number = record { positive = omega arith; free = λ taken. none_in taken.0 taken.1; least = λ other some few. absurd (omega (arith, some, few)) }

abbrev first_module : Module
first_module = record { number = 1; serial = 1; offset = Some 0 }

second_number : IsLeastFree (first_module ∷ []) 2
second_number = record {
  positive = omega arith;
  free = λ taken.
      let own : 1 ≡ taken.0.number = ap (λ (m : Module). m.number) (only_in first_module taken.0 taken.1) in
      let two : taken.0.number ≡ 2 = taken.2 in
      omega (arith, own, two);
  least = λ other some few. (first_module, here first_module [], (let is : 1 ≡ other = omega (arith, some, few) in is));
}

first_offset : IsOffset 0 0 (storage_of 20 8) 0
first_offset = record { stands = record { behind = omega arith; aligned = refl }; least = λ other stands. omega arith }

second_offset : IsOffset 0 20 (storage_of 32 16) 32
second_offset = record {
  stands = record { behind = omega arith; aligned = refl };
  least = λ other stands.
      let behind : 20 ≤ other = stands.behind in
      let aligned : (0 + other) % 16 ≡ 0 = stands.aligned in
      omega (arith, behind, aligned);
}

may_start : AllowedIn setting [] empty_state (Open 0 (asks (codes "prog")) (started_at 32))
unfolding relocation_fault loaded load_step finds find_path find_opened pages_of low_of high_of align_of own_address
may_start = record {
  may = λ first. record { by_first = refl; base = refl; named = tt; flags = inl refl };
  asked = record { short = refl; flags = refl; namespace = (refl, refl) };
  name = loads setting files empty_state 0 _ (codes "prog") 0 1 _ _ (1 ∷ 2 ∷ []) 0 (record {
    told = refl;
    reads = refl;
    walked = refl;
    all = refl;
    root_is = refl;
    are = refl;
    versions = refl;
    modules = ((first_number, first_offset), ((second_number, second_offset), tt));
    row = refl;
    stand = (refl, refl, refl, refl, refl, (refl, refl, refl, refl, refl, (refl, refl, refl, refl, refl, (refl, refl, refl, refl, refl, tt))));
    based = (refl, (refl, tt));
    relocated = refl;
  });
}

pub static_legal : Legal setting at_32
static_legal = legal_by setting at_32 (may_start, tt)

abbrev place_offset : Option ℕ → ℕ
place_offset None = 0
place_offset (Some offset) = offset

abbrev module_offset : Option TlsPlace → ℕ
module_offset None = 0
module_offset (Some place) = place_offset place.offset

abbrev second_in : List Loaded → ℕ
second_in [] = 0
second_in (first ∷ []) = 0
second_in (first ∷ (second ∷ rest)) = module_offset second.«module»

abbrev offset_of : OpenAnswer → ℕ
offset_of (Done id root added ranges) = second_in added
offset_of Absent = 0
offset_of (Refused fault) = 0

differ : (a b : ℕ) → a ≡ 32 → b ≢ 32 → a ≡ b → ⊥
differ a b is not same = not (sym same ∙ is)

pub not_unaligned : OneOpening → Legal setting at_20 → ⊥
unfolding Legal after_from
not_unaligned law legal =
    differ 32 20 refl (λ e. omega (arith, e))
    (ap offset_of (one_way law setting [] 0 (asks (codes "prog")) files (started_at 32) (started_at 20) refl may_start (legal 0 (Open 0 (asks
    (codes "prog")) (started_at 20)) refl) refl refl))

pub not_later : OneOpening → Legal setting at_48 → ⊥
unfolding Legal after_from
not_later law legal =
    differ 32 48 refl (λ e. omega (arith, e))
    (ap offset_of (one_way law setting [] 0 (asks (codes "prog")) files (started_at 32) (started_at 48) refl may_start (legal 0 (Open 0 (asks
    (codes "prog")) (started_at 48)) refl) refl refl))

-- ---- a COPY

abbrev copy_files : List File
copy_files = map file_of (copies ∷ copies_nothing ∷ libv ∷ libw ∷ [])

may_copy : AllowedIn copying [] empty_state (Open 0 (asks (codes "prog")) (loaded_with copies libv))
unfolding relocation_fault loaded load_step finds find_path find_opened pages_of low_of high_of align_of own_address choice_at choose_for scope breadth pick_at linker_symbol
may_copy = record {
  may = λ first. record { by_first = refl; base = refl; named = tt; flags = inl refl };
  asked = record { short = refl; flags = refl; namespace = (refl, refl) };
  name = loads copying copy_files empty_state 0 _ (codes "prog") 0 1 _ _ (1 ∷ 2 ∷ []) 0 (record {
    told = refl;
    reads = refl;
    walked = refl;
    all = refl;
    root_is = refl;
    are = refl;
    versions = refl;
    modules = (tt, (tt, tt));
    row = refl;
    stand = (refl, refl, refl, refl, refl, (refl, refl, refl, refl, refl, (refl, refl, refl, refl, refl, tt)));
    based = (refl, (refl, tt));
    relocated = refl;
  });
}

pub copied_legal : Legal copying v_is_copied
copied_legal = legal_by copying v_is_copied (may_copy, tt)

pub copied_word : first_word_at (after v_is_copied) 0x11000 ≡ 42
unfolding first_word_at after_from loaded linked_with word_in low_of high_of pages_of own_address guest_address segment_at file_word file_byte word_of choice_at choose_for scope breadth pick_at linker_symbol address image_word image_byte with_copies copied_at byte_of settled_word linkers_at rela_at slot_at packed_at
copied_word = refl

abbrev v_missing : OpenAnswer
v_missing = Refused (MissingSymbol (Some (codes "none")) (codes "v") None)

abbrev added_none : List Loaded
added_none = placed 0 1 copies_nothing 0x10000 (2 ∷ []) ∷ placed 0 2 libw 0x12000 [] ∷ []

abbrev ranges_none : List Range
ranges_none = pages_at 1 0x10000 2 ∷ pages_at 2 0x12000 2 ∷ stack_at 0 0x14000 ∷ []

given_none : (left : List ℕ) × AreGiven (free_pages []) (wanted copying empty_state added_none) ranges_none left
unfolding pages_of low_of high_of align_of
given_none = given_in_row (free_pages []) 0 (wanted copying empty_state added_none) ranges_none (free_from [] 0 refl) (
  refl,
  refl,
  refl,
  refl,
  refl,
  (refl, refl, refl, refl, refl, (refl, refl, refl, refl, refl, tt)),
)

may_miss : AllowedIn copying [] empty_state (Open 0 (asks (codes "none")) v_missing)
unfolding relocation_fault loaded load_step finds find_path find_opened pages_of low_of high_of align_of own_address choice_at choose_for scope breadth pick_at linker_symbol
may_miss = record {
  may = λ first. record { by_first = refl; base = refl; named = tt; flags = inl refl };
  refuses = unrelocated (codes "none") 0 (MissingSymbol (Some (codes "none")) (codes "v") None) (record {
    named = record { asked = record { short = refl; flags = refl; namespace = (refl, refl) }; named = refl };
    root = 1;
    news = _;
    finds = record {
      reading = reading_told copying copy_files empty_state (asks (codes "none")) (codes "none");
      read = told_reads copying copy_files empty_state (asks (codes "none")) (codes "none") refl;
      walk = _;
      brings = record { steps = 2; are = refl; all = omega arith };
      root_is = refl;
      are = refl;
    };
    versions = refl;
    added = added_none;
    storage = record { same = refl; modules = (tt, (tt, tt)) };
    ranges = ranges_none;
    placed = record { left = given_none.0; given = given_none.1; based = (refl, (refl, tt)) };
    is = refl;
  });
}

pub missing_legal : Legal copying v_is_missing
missing_legal = legal_by copying v_is_missing (may_miss, tt)

refused_not_done : (added : List Loaded) → v_missing ≡ Done 0 1 added (pages_at 1 0x10000 2 ∷ pages_at 2 0x12000 2 ∷ stack_at 0 0x14000 ∷ []) → ⊥
refused_not_done added e = cc

pub not_its_own : OneOpening → Legal copying v_is_its_own → ⊥
unfolding Legal after_from
not_its_own law legal =
    refused_not_done _ (one_way law copying [] 0 (asks (codes "none")) copy_files v_missing (loaded_with copies_nothing libw) refl may_miss
    (legal 0 (Open 0 (asks (codes "none")) (loaded_with copies_nothing libw)) refl) refl refl)
