-- What is chosen, event by event.
use Rattle.std.proofs.Common.{◌≡◌, inl, ℕ, true, false, List, [], ◌∷◌, map, take, Some, None, refl, sym, ◌∙◌}
use Rattle.std.specs.Prelude.{codes}
use Rattle.std.proofs.lemmas.Bool.{true≢false}
use Rattle.ld_base.specs.declared.fault.DlFault.TheVariants.{MissingSymbol}
use Rattle.ld_base.specs.declared.linking.Choice.TheVariants.{Def, WeakZero, Missing}
use Rattle.ld_base.specs.declared.linking.File.{File}
use Rattle.history_event.specs.declared.event.Event.TheVariants.{Grant, Unresolved, Sym}
use Rattle.history_event.specs.declared.event.SymAnswer.TheVariants.{Found}
use Rattle.history_event.specs.declared.event.SymAsk.{SymAsk}
use Rattle.scope_rule.specs.Breadth.{breadth}
use Rattle.scope_rule.specs.Choose.{choose_for, pick_at}
use Rattle.scope_rule.specs.Linker.{linker_symbol}
use Rattle.scope_rule.specs.Load.{find_opened, find_path, finds, step as load_step}
use Rattle.scope_rule.specs.Relocation.{choice_at}
use Rattle.scope_rule.specs.Scope.{scope}
use Rattle.scope_rule.specs.Searching.{in_global}
use Rattle.seg_image.specs.Pages.{align_of, guest_address, high_of, low_of, own_address, pages_of, segment_at}
use Rattle.seg_image.specs.Roles.{role_of}
use Rattle.seg_image.specs.Words.{file_byte, file_word, word_of}
use Rattle.relocator.specs.Relocated.{moved_word}
use Rattle.history_state.specs.State.{State, empty_state}
use Rattle.history_state.specs.Addresses.{address, is_code_of, leads_to_code}
use Rattle.history_state.specs.After.{after_from}
use Rattle.history_state.specs.Allowed.{Allowed, AllowedIn, IsUnresolved, MayGrant}
use Rattle.history_state.specs.Legal.{Legal}
use Rattle.history_state.specs.Lookup.{FindsSymbol, RefusesSymbol, search}
use Rattle.history_state.specs.Lookup.RefusesSymbol.{missing}
use Rattle.history_state.specs.Parts.{file_of}
use Rattle.history_state.specs.Relocating.{relocation_fault}
use Rattle.history_state.specs.Step.{loaded, step}
use Rattle.history_state.specs.Lemmas.History.{legal_push}
use Rattle.history_state.specs.Lemmas.Played.{legal_by, loads, may_grant}
use Rattle.history_worked.specs.Choosing.{calls_its_own, calls_libes, calls_the_programs, calls_the_protected, deep_calls_libes, deep_calls_the_programs}
use Rattle.history_worked.specs.Choosing.{found_without_version, hidden_found, hidden_missing, libd, libe, libs, libv, look_up, opened, opened_deep}
use Rattle.history_worked.specs.Choosing.{opens_libd, prog}
use Rattle.history_worked.specs.Choosing.{protected_calls_the_programs, setting, startup, strong_is_missing, strong_is_zero, symbolic_calls_the_programs}
use Rattle.history_worked.specs.Choosing.{version_found, weak_is_missing, weak_is_zero}
use Rattle.history_worked.proofs.Needed.{is_chosen, is_unresolved, not_of}

abbrev files : List File
files = map file_of (prog ∷ libs ∷ libv ∷ libd ∷ libe ∷ [])

-- ---- startup

abbrev started : State
started = step empty_state startup

may_start : AllowedIn setting [] empty_state startup
unfolding relocation_fault loaded load_step finds find_path find_opened pages_of low_of high_of align_of own_address
may_start = record {
  may = λ first. record { by_first = refl; base = refl; named = tt; flags = inl refl };
  asked = record { short = refl; flags = refl; namespace = (refl, refl) };
  name = loads setting files empty_state 0 _ (codes "prog") 0 1 _ _ (1 ∷ 2 ∷ 3 ∷ []) 0 (record {
    told = refl;
    reads = refl;
    walked = refl;
    all = refl;
    root_is = refl;
    are = refl;
    versions = refl;
    modules = (tt, (tt, (tt, tt)));
    row = refl;
    stand = (refl, refl, refl, refl, refl, (refl, refl, refl, refl, refl, (refl, refl, refl, refl, refl, (refl, refl, refl, refl, refl, tt))));
    based = (refl, (refl, (refl, tt)));
    relocated = refl;
  });
}

started_legal : Legal setting (startup ∷ [])
started_legal = legal_by setting (startup ∷ []) (may_start, tt)

-- ---- DT_SYMBOLIC

grants_own : MayGrant started 1 0 2 0 (Def 2 1) 0x15020
unfolding loaded after_from choice_at choose_for scope breadth pick_at linker_symbol address is_code_of leads_to_code moved_word file_word word_of file_byte segment_at role_of own_address guest_address
grants_own = may_grant started 1 0 2 0 0 1 refl refl refl refl refl refl refl refl refl

pub own_legal : Legal setting calls_its_own
unfolding after_from
own_legal = legal_push setting (startup ∷ []) (Grant 1 0 2 0 (Def 2 1) 0x15020) started_legal grants_own

pub symbolic_not_programs : Legal setting symbolic_calls_the_programs → ⊥
unfolding Legal loaded after_from choice_at choose_for scope breadth pick_at linker_symbol
symbolic_not_programs legal = not_of 2 1 refl refl (at (legal 1 (Grant 1 0 2 0 (Def 1 1) 0x11010) refl))
  where
    at : Allowed setting (take 1 symbolic_calls_the_programs) (Grant 1 0 2 0 (Def 1 1) 0x11010) → MayGrant started 1 0 2 0 (Def 1 1) 0x11010
    at h = h

-- ---- visibility

grants_protected : MayGrant started 1 0 3 0 (Def 3 1) 0x19030
unfolding loaded after_from choice_at choose_for scope breadth pick_at linker_symbol address is_code_of leads_to_code moved_word file_word word_of file_byte segment_at role_of own_address guest_address
grants_protected = may_grant started 1 0 3 0 0 2 refl refl refl refl refl refl refl refl refl

pub protected_legal : Legal setting calls_the_protected
unfolding after_from
protected_legal = legal_push setting (startup ∷ []) (Grant 1 0 3 0 (Def 3 1) 0x19030) started_legal grants_protected

pub protected_not_programs : Legal setting protected_calls_the_programs → ⊥
unfolding Legal loaded after_from choice_at choose_for scope breadth pick_at linker_symbol
protected_not_programs legal = not_of 3 1 refl refl (at (legal 1 (Grant 1 0 3 0 (Def 1 1) 0x11010) refl))
  where
    at : Allowed setting (take 1 protected_calls_the_programs) (Grant 1 0 3 0 (Def 1 1) 0x11010) → MayGrant started 1 0 3 0 (Def 1 1) 0x11010
    at h = h

refuses_g : RefusesSymbol started 0 (look_up (codes "g") None) (MissingSymbol None (codes "g") None)
unfolding loaded after_from search in_global breadth pick_at linker_symbol address guest_address
refuses_g = missing (record { name = refl; version = refl }) refl

pub hidden_legal : Legal setting hidden_missing
unfolding loaded after_from
hidden_legal = legal_push setting (startup ∷ []) _ started_legal (refl, refuses_g)

-- a search that finds nothing answers no definition
none_found : {hart serial index value : ℕ} (s : State) (ask : SymAsk) → search s ask ≡ Some None → FindsSymbol s hart ask serial index value → ⊥
none_found {hart} {serial} {index} s ask none found = let no : Some None ≡ Some (Some (serial, index)) = sym none ∙ found.found in cc

g_is_missing : search started (look_up (codes "g") None) ≡ Some None
unfolding loaded after_from search in_global breadth pick_at linker_symbol address guest_address
g_is_missing = refl

pub hidden_not_found : Legal setting hidden_found → ⊥
unfolding Legal loaded after_from
hidden_not_found legal = none_found started (look_up (codes "g") None) g_is_missing (at (legal 1 (Sym 0 (look_up (codes "g") None) (Found 3 2 0x19040)) refl))
  where
    at : Allowed setting (take 1 hidden_found) (Sym 0 (look_up (codes "g") None) (Found 3 2 0x19040))
        → FindsSymbol started 0 (look_up (codes "g") None) 3 2 0x19040
    at h = h.1

-- ---- versions

finds_h : FindsSymbol started 0 (look_up (codes "h") (Some (codes "V1"))) 3 3 0x19050
unfolding loaded after_from search in_global breadth pick_at linker_symbol address guest_address
finds_h = record { short = record { name = refl; version = refl }; found = refl; is = refl }

pub version_legal : Legal setting version_found
unfolding loaded after_from
version_legal = legal_push setting (startup ∷ []) _ started_legal (refl, finds_h)

h_is_missing : search started (look_up (codes "h") None) ≡ Some None
unfolding loaded after_from search in_global breadth pick_at linker_symbol address guest_address
h_is_missing = refl

pub not_without_version : Legal setting found_without_version → ⊥
unfolding Legal loaded after_from
not_without_version legal =
    none_found started (look_up (codes "h") None) h_is_missing (at (legal 1 (Sym 0 (look_up (codes "h") None) (Found 3 3 0x19050)) refl))
  where
    at : Allowed setting (take 1 found_without_version) (Sym 0 (look_up (codes "h") None) (Found 3 3 0x19050))
        → FindsSymbol started 0 (look_up (codes "h") None) 3 3 0x19050
    at h = h.1

-- ---- weak references

grants_weak : MayGrant started 1 0 1 0 WeakZero 0
unfolding loaded after_from choice_at choose_for scope breadth pick_at linker_symbol address is_code_of leads_to_code moved_word file_word word_of file_byte segment_at role_of own_address guest_address
grants_weak = may_grant started 1 0 1 0 0 0 refl refl refl refl refl refl refl refl refl

pub weak_legal : Legal setting weak_is_zero
unfolding after_from
weak_legal = legal_push setting (startup ∷ []) (Grant 1 0 1 0 WeakZero 0) started_legal grants_weak

weak_not_missing : WeakZero ≡ Missing → ⊥
weak_not_missing e = cc

pub weak_may_be_bound : Legal setting weak_is_missing → ⊥
unfolding Legal loaded after_from choice_at choose_for scope breadth pick_at linker_symbol
weak_may_be_bound legal = weak_not_missing (is_chosen WeakZero refl (at (legal 1 (Unresolved 0 1 0 Missing) refl)).may_not.is_slot)
  where
    at : Allowed setting (take 1 weak_is_missing) (Unresolved 0 1 0 Missing) → IsUnresolved started 0 1 0 Missing
    at h = h

lacks_strong : IsUnresolved started 0 1 1 Missing
unfolding loaded after_from choice_at choose_for scope breadth pick_at linker_symbol address is_code_of leads_to_code moved_word file_word word_of file_byte segment_at role_of own_address guest_address
lacks_strong = is_unresolved started 0 1 1 0 0 refl refl refl refl refl refl refl

pub strong_legal : Legal setting strong_is_missing
unfolding after_from
strong_legal = legal_push setting (startup ∷ []) (Unresolved 0 1 1 Missing) started_legal lacks_strong

pub strong_not_zero : Legal setting strong_is_zero → ⊥
unfolding Legal loaded after_from choice_at choose_for scope breadth pick_at linker_symbol
strong_not_zero legal = weak_not_missing (sym (is_chosen Missing refl (at (legal 1 (Grant 1 0 1 1 WeakZero 0) refl)).may.is_slot))
  where
    at : Allowed setting (take 1 strong_is_zero) (Grant 1 0 1 1 WeakZero 0) → MayGrant started 1 0 1 1 WeakZero 0
    at h = h

-- ---- RTLD_DEEPBIND

abbrev with_plain : State
with_plain = step started (opens_libd false 1)

opens_plain : AllowedIn setting [] started (opens_libd false 1)
unfolding relocation_fault loaded load_step finds find_path find_opened pages_of low_of high_of align_of own_address
opens_plain = record {
  may = λ first. absurd (true≢false (sym first));
  asked = record { short = refl; flags = refl; namespace = (refl, refl) };
  name = loads setting files started 0 _ (codes "libd.so") 0 4 _ _ (4 ∷ 5 ∷ []) 28 (record {
    told = refl;
    reads = refl;
    walked = refl;
    all = refl;
    root_is = refl;
    are = refl;
    versions = refl;
    modules = (tt, (tt, tt));
    row = (refl, (refl, (refl, (refl, refl))));
    stand = (refl, refl, refl, refl, refl, (refl, refl, refl, refl, refl, tt));
    based = (refl, (refl, tt));
    relocated = refl;
  });
}

abbrev with_deep : State
with_deep = step started (opens_libd true 9)

opens_deep : AllowedIn setting [] started (opens_libd true 9)
unfolding relocation_fault loaded load_step finds find_path find_opened pages_of low_of high_of align_of own_address
opens_deep = record {
  may = λ first. absurd (true≢false (sym first));
  asked = record { short = refl; flags = refl; namespace = (refl, refl) };
  name = loads setting files started 0 _ (codes "libd.so") 0 4 _ _ (4 ∷ 5 ∷ []) 28 (record {
    told = refl;
    reads = refl;
    walked = refl;
    all = refl;
    root_is = refl;
    are = refl;
    versions = refl;
    modules = (tt, (tt, tt));
    row = (refl, (refl, (refl, (refl, refl))));
    stand = (refl, refl, refl, refl, refl, (refl, refl, refl, refl, refl, tt));
    based = (refl, (refl, tt));
    relocated = refl;
  });
}

opened_legal : Legal setting opened
unfolding loaded after_from
opened_legal = legal_push setting (startup ∷ []) (opens_libd false 1) started_legal opens_plain

deep_legal : Legal setting opened_deep
unfolding loaded after_from
deep_legal = legal_push setting (startup ∷ []) (opens_libd true 9) started_legal opens_deep

grants_libes : MayGrant with_deep 1 0 4 0 (Def 5 1) 0x31070
unfolding loaded after_from choice_at choose_for scope breadth pick_at linker_symbol address is_code_of leads_to_code moved_word file_word word_of file_byte segment_at role_of own_address guest_address
grants_libes = may_grant with_deep 1 0 4 0 0 3 refl refl refl refl refl refl refl refl refl

pub deep_libes_legal : Legal setting deep_calls_libes
unfolding loaded after_from
deep_libes_legal = legal_push setting opened_deep (Grant 1 0 4 0 (Def 5 1) 0x31070) deep_legal grants_libes

pub deep_not_programs : Legal setting deep_calls_the_programs → ⊥
unfolding Legal loaded after_from choice_at choose_for scope breadth pick_at linker_symbol
deep_not_programs legal = not_of 5 1 refl refl (at (legal 2 (Grant 1 0 4 0 (Def 1 1) 0x11010) refl))
  where
    at : Allowed setting (take 2 deep_calls_the_programs) (Grant 1 0 4 0 (Def 1 1) 0x11010) → MayGrant with_deep 1 0 4 0 (Def 1 1) 0x11010
    at h = h

grants_programs : MayGrant with_plain 1 0 4 0 (Def 1 1) 0x11010
unfolding loaded after_from choice_at choose_for scope breadth pick_at linker_symbol address is_code_of leads_to_code moved_word file_word word_of file_byte segment_at role_of own_address guest_address
grants_programs = may_grant with_plain 1 0 4 0 0 3 refl refl refl refl refl refl refl refl refl

pub programs_legal : Legal setting calls_the_programs
unfolding loaded after_from
programs_legal = legal_push setting opened (Grant 1 0 4 0 (Def 1 1) 0x11010) opened_legal grants_programs

pub plain_not_libes : Legal setting calls_libes → ⊥
unfolding Legal loaded after_from choice_at choose_for scope breadth pick_at linker_symbol
plain_not_libes legal = not_of 1 1 refl refl (at (legal 2 (Grant 1 0 4 0 (Def 5 1) 0x31070) refl))
  where
    at : Allowed setting (take 2 calls_libes) (Grant 1 0 4 0 (Def 5 1) 0x31070) → MayGrant with_plain 1 0 4 0 (Def 5 1) 0x31070
    at h = h
