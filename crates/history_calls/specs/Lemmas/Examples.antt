-- The worked calls.
use Rattle.std.proofs.Common.{◌≡◌, ℕ, false, List, [], ◌∷◌, None, Some, refl, sym, ap, subst, ◌∙◌, arith}
use Rattle.std.specs.List.{Contains}
use Rattle.ld_base.specs.declared.linking.Loaded.{Loaded}
use Rattle.scope_rule.specs.declared.namespace.Namespace.{Namespace}
use Rattle.history_state.specs.Objects.{IsMapped}
use Rattle.history_state.specs.Lemmas.Lists.{here, only_in}
use Rattle.std.specs.Prelude.{codes, map, replicate}
use Rattle.std.proofs.lemmas.Bool.{true≢false}
use Rattle.ld_base.specs.declared.fault.DlFault.TheVariants.{BadFlags, BadHandle, MissingLibrary, NameTooLong}
use Rattle.ld_base.specs.declared.fault.Shown.TheVariants.{Initialising}
use Rattle.ld_base.specs.declared.linking.Choice.TheVariants.{Def}
use Rattle.ld_base.specs.declared.linking.File.{File}
use Rattle.history_event.specs.declared.event.CloseAnswer.TheVariants as closings
use Rattle.history_event.specs.declared.event.Event.TheVariants.{Close, Grant, Open, Sym, Tls, Told, Unmapped}
use Rattle.history_event.specs.declared.event.OpenAnswer.TheVariants as openings
use Rattle.history_event.specs.declared.event.SymAnswer.TheVariants.{Found}
use Rattle.history_event.specs.declared.event.SymAnswer.TheVariants as symbols
use Rattle.history_event.specs.declared.hart_end.HartEnd.TheVariants.{BadModule, NoSlot, Unloaded}
use Rattle.scope_rule.specs.Load.{find_opened, find_path, finds, step as load_step}
use Rattle.history_state.specs.After.{after, after_from}
use Rattle.history_state.specs.Cycle as cycle
use Rattle.history_state.specs.Flags.{are_flags}
use Rattle.history_state.specs.Late as late
use Rattle.history_state.specs.Legal.{Legal}
use Rattle.history_state.specs.Lookup.RefusesSymbol.{bad_handle}
use Rattle.history_state.specs.Namespaces as apart
use Rattle.history_state.specs.Opening.Refuses.{bad_flags, name_too_long, stopped}
use Rattle.history_state.specs.Parts.{file_of}
use Rattle.history_state.specs.Race as race
use Rattle.history_state.specs.Relocating.{relocation_fault}
use Rattle.history_state.specs.Step.{die, initialise, loaded, lower}
use Rattle.history_state.specs.Storage.{tls_block}
use Rattle.history_state.specs.Lemmas.Cycled.{cycle_legal, held_by_grants}
use Rattle.history_state.specs.Lemmas.History.{legal_take}
use Rattle.history_state.specs.Lemmas.Lately.{late_legal}
use Rattle.history_state.specs.Lemmas.Played.{loads}
use Rattle.history_state.specs.Lemmas.Raced.{first_not_granted, race_legal}
use Rattle.history_calls.specs.Answer.{again, closing, granted, loading, refused, returns, told}
use Rattle.history_calls.specs.Call.{asks_fault, closes, locates, looks_up, opens, resolves, unmaps}
use Rattle.history_calls.specs.Ends.EndsAs.{bad_module, no_slot, unloaded}
use Rattle.history_calls.specs.Gives.{FindsFirst, Gives}
use Rattle.history_calls.specs.Gives.EventAnswers.{dies, is_absent, is_found, is_granted, is_not_closed, is_not_found, is_not_opened, is_there, is_told, is_unmapped, stays}
use Rattle.history_calls.specs.Gives.Gives.{by_event, by_first_block, in_block, to_again, to_end}
use Rattle.history_calls.specs.Laws.{RefusesAsk}
use Rattle.history_calls.specs.Laws.RefusesAsk.{flags as by_flags}
use Rattle.history_calls.specs.Waiting.Shows.{by_load}
use Rattle.history_calls.specs.Worked.{AnotherOpens, AnotherWaits, ClosesOne, DiesAlone, FindsGlobal, FindsInBlock, FindsNoHandle, FindsOnClosed, FindsWithoutBlock, GrantsGlobal, GrantsTheFirst}
use Rattle.history_calls.specs.Worked.{ClosesAgain, DiesBoth, EndsUnloaded, EndsWithoutSlot, TellsBadHandle, UnmapsBoth}
use Rattle.history_calls.specs.Worked.{IsAbsent, IsBadModule, IsMissing, ItselfOpens, LocatesInBlock, LocatesInOther, OpensByFlags, RefusesFlags, RefusesName, RefusesShorter}
use Rattle.history_calls.specs.Worked.{fp_on, granted_to, libn_by, libo_by, named, one_closed, opened, started, starting, with_block}
use Rattle.history_calls.specs.Lemmas.Given.{gives_legal}
use Rattle.history_calls.specs.Lemmas.Opened.{OutcomeLaws}
use Rattle.history_calls.specs.Lemmas.Readings.{reading_told, told_reads}
use Rattle.history_calls.specs.Lemmas.Told.{one_opening}
use Rattle.history_calls.specs.Lemmas.InOrder.{ask_first, no_such_module, symbols_in_order, two_events}

-- ---- two libraries that hold each other

pub closes_one : ClosesOne
unfolding Legal
closes_one = by_event (closes 2) (Close 0 2 (closings.Done [])) (returns 0) (stays 2) (cycle_legal 10 (Close 0 2 (closings.Done [])) refl)

pub dies_alone : DiesAlone → ⊥
dies_alone gives = held_by_grants (gives_legal cycle.setting cycle.both_bound 0 (closes 2) _ _ (legal_take cycle.setting cycle.cycle 10 cycle_legal) gives)

pub finds_global : FindsGlobal
unfolding Legal
finds_global = by_event (looks_up (fp_on 0)) (Sym 0 (fp_on 0) (Found 2 2 0x24030)) (returns 0x24030) (is_found (fp_on 0) 2 2 0x24030) (cycle_legal 11 (Sym 0 (fp_on 0) (Found 2 2 0x24030)) refl)

pub finds_no_handle : FindsNoHandle
unfolding Legal
finds_no_handle = by_event (looks_up (fp_on 2)) (Sym 0 (fp_on 2) (symbols.Refused (BadHandle 2))) (refused (BadHandle 2)) (is_not_found (fp_on 2) (BadHandle 2))
    (cycle_legal 12 (Sym 0 (fp_on 2) (symbols.Refused (BadHandle 2))) refl)

-- on its handle nothing is found
pub finds_on_closed : FindsOnClosed
unfolding after_from loaded initialise die lower
finds_on_closed given value gives =
    let same : returns value ≡ refused (BadHandle 2) = symbols_in_order cycle.setting one_closed 0 (fp_on 2) given (returns value) (BadHandle 2)
    (bad_handle (record { name = refl; version = refl }) refl refl) gives refl in
    cc

-- ---- both die

pub dies_both : DiesBoth
unfolding Legal
dies_both = by_event (closes 3) (Close 0 3 (closings.Done (2 ∷ 3 ∷ []))) (closing (2 ∷ 3 ∷ [])) (dies 3 2 (3 ∷ [])) (cycle_legal 13 (Close 0 3 (closings.Done (2 ∷ 3 ∷ []))) refl)

pub unmaps_both : UnmapsBoth
unfolding Legal
unmaps_both = by_event (unmaps (2 ∷ 3 ∷ [])) (Unmapped 0 (2 ∷ 3 ∷ [])) (returns 0) (is_unmapped (2 ∷ 3 ∷ [])) (cycle_legal 16 (Unmapped 0 (2 ∷ 3 ∷ [])) refl)

pub closes_again : ClosesAgain
unfolding Legal
closes_again = by_event (closes 3) (Close 0 3 (closings.Refused (BadHandle 3))) (refused (BadHandle 3)) (is_not_closed 3 (BadHandle 3)) (cycle_legal 17 (Close 0 3 (closings.Refused (BadHandle 3))) refl)

pub tells_bad_handle : TellsBadHandle
unfolding Legal
tells_bad_handle = by_event asks_fault (Told 0 (Some (BadHandle 3))) (told (Some (BadHandle 3))) (is_told (Some (BadHandle 3))) (cycle_legal 18 (Told 0 (Some (BadHandle 3))) refl)

-- ---- slots that aren't there

-- the program is the only object
only_program : (serial : ℕ) → IsMapped (after started) serial → serial ≡ 1
unfolding after_from loaded initialise
only_program serial m =
    let ns = only_in _ m.namespace m.there in
    let o = only_in _ m.object (subst (λ (n : Namespace). Contains n.objects m.object) (sym ns) m.inside) in
    sym m.is ∙ ap (λ (q : Loaded). q.serial) (sym o)

pub ends_unloaded : EndsUnloaded
ends_unloaded = to_end (resolves 99 0) (Unloaded 99) (unloaded 99 0 (λ m. let same : 99 ≡ 1 = only_program 99 m in omega (arith, same)))

pub ends_without_slot : EndsWithoutSlot
unfolding after_from loaded initialise
ends_without_slot = to_end (resolves 1 792) (NoSlot 1 792) (no_slot 1 792 (record {
  mapped = record { namespace = _; object = _; there = here _ []; inside = here _ []; is = refl };
  none = λ slot is. refl;
}))

-- ---- what an opening asks for

judges_flags : (flags : ℕ) → are_flags flags ≡ false → RefusesAsk (after started) (libn_by flags) (BadFlags flags)
unfolding after_from loaded initialise
judges_flags flags bad = by_flags refl bad

pub refuses_flags : (flags : ℕ) → are_flags flags ≡ false → RefusesFlags flags
unfolding after_from loaded initialise
refuses_flags flags bad = by_event (opens (libn_by flags)) (Open 0 (libn_by flags) (openings.Refused (BadFlags flags))) (refused (BadFlags flags)) (is_not_opened (libn_by flags) (BadFlags flags))
    (record { may = λ first. absurd (true≢false (sym first)); refuses = bad_flags refl bad })

pub opens_by_flags : (flags : ℕ) → are_flags flags ≡ false → OpensByFlags flags
opens_by_flags flags bad given root added gives =
    let same : loading root added ≡ refused (BadFlags flags) = ask_first apart.setting started 0 (libn_by flags) given (loading root added) (BadFlags flags) (judges_flags flags bad) gives refl in
    cc

pub is_absent_by : IsAbsent
unfolding after_from loaded initialise find_opened find_path
is_absent_by = by_event (opens (libn_by 5)) (Open 0 (libn_by 5) openings.Absent) (returns 0) (is_absent (libn_by 5)) (record {
  may = λ first. absurd (true≢false (sym first));
  id = 0;
  asked = record { short = refl; flags = refl; namespace = (refl, refl) };
  name = codes "libn.so";
  named = refl;
  nowhere = record { noload = refl; none = refl };
})

abbrev apart_files : List File
apart_files = map file_of (apart.prog ∷ apart.libn ∷ [])

pub is_missing : OutcomeLaws → IsMissing
is_missing laws given name gives =
    let same : refused (MissingLibrary name) ≡ returns 0 =
    (one_opening laws apart.setting started 0 (libn_by 5) apart_files given _ (refused (MissingLibrary name)) (returns 0) refl gives is_absent_by refl refl).1 in
    cc

pub refuses_name : RefusesName
unfolding after_from loaded initialise
refuses_name = by_event (opens (named 256)) (Open 0 (named 256) (openings.Refused NameTooLong)) (refused NameTooLong) (is_not_opened (named 256) NameTooLong)
    (record { may = λ first. absurd (true≢false (sym first)); refuses = name_too_long (replicate 256 97) refl refl refl })

-- the shorter name is looked for, and missing
misses_shorter : Gives apart.setting started 0 (opens (named 255)) (Open 0 (named 255) (openings.Refused (MissingLibrary (replicate 255 97))) ∷ []) (refused (MissingLibrary (replicate 255 97)))
unfolding after_from loaded initialise load_step finds find_path find_opened
misses_shorter = by_event (opens (named 255)) (Open 0 (named 255) (openings.Refused (MissingLibrary (replicate 255 97)))) (refused (MissingLibrary (replicate 255 97)))
    (is_not_opened (named 255) (MissingLibrary (replicate 255 97))) (record {
      may = λ first. absurd (true≢false (sym first));
      refuses = stopped (replicate 255 97) 0 (MissingLibrary (replicate 255 97)) (record {
        named = record { asked = record { short = refl; flags = refl; namespace = (refl, refl) }; named = refl };
        reading = reading_told apart.setting apart_files (after started) (named 255) (replicate 255 97);
        read = told_reads apart.setting apart_files (after started) (named 255) (replicate 255 97) refl;
        loads = λ none. true≢false (sym none.noload);
        stops = record { steps = 1; is = refl };
      });
    })

pub refuses_shorter : OutcomeLaws → RefusesShorter
refuses_shorter laws given gives =
    let same : refused NameTooLong ≡ refused (MissingLibrary (replicate 255 97)) =
    (one_opening laws apart.setting started 0 (named 255) apart_files given _ (refused NameTooLong) (refused (MissingLibrary (replicate 255 97))) refl gives misses_shorter refl refl).1 in
    cc

-- ---- harts beside one another

abbrev race_files : List File
race_files = map file_of (race.prog ∷ race.libo ∷ race.libf ∷ race.libg ∷ [])

pub another_waits : AnotherWaits
unfolding after_from loaded load_step finds find_path find_opened
another_waits = to_again (opens (libo_by 1)) (Initialising 2) (by_load (libo_by 1) (Initialising 2) (record {
  name = codes "libo.so";
  id = 0;
  named = record { asked = record { short = refl; flags = refl; namespace = (refl, refl) }; named = refl };
  reading = reading_told race.setting race_files (after starting) (libo_by 1) (codes "libo.so");
  read = told_reads race.setting race_files (after starting) (libo_by 1) (codes "libo.so") refl;
  stops = record { steps = 1; is = refl };
}))

pub itself_opens : ItselfOpens
unfolding after_from relocation_fault loaded load_step finds find_path find_opened
itself_opens = by_event (opens (libo_by 1)) (Open 0 (libo_by 1) (openings.Done 0 2 [] [])) (returns 2) (is_there (libo_by 1) 0 2 []) (record {
  may = λ first. absurd (true≢false (sym first));
  asked = record { short = refl; flags = refl; namespace = (refl, refl) };
  name = loads race.setting race_files (after starting) 0 (libo_by 1) (codes "libo.so") 0 2 [] [] (2 ∷ []) 43 (record {
    told = refl;
    reads = refl;
    walked = refl;
    all = refl;
    root_is = refl;
    are = refl;
    versions = refl;
    modules = tt;
    row = (refl, (refl, (refl, (refl, (refl, refl)))));
    stand = tt;
    based = tt;
    relocated = refl;
  });
})

pub another_opens : OutcomeLaws → AnotherOpens
another_opens laws given root gives =
    let same : returns root ≡ again (Initialising 2) = (one_opening laws race.setting starting 1 (libo_by 1) race_files given [] (returns root) (again (Initialising 2)) refl gives another_waits refl refl).1 in
    cc

-- ---- the race

pub grants_global : GrantsGlobal
unfolding Legal
grants_global = by_event (resolves 2 0) (Grant 4 1 2 0 (Def 4 1) 0x3c000) (granted (granted_to 1 4 0x3c000)) (is_granted 2 0 0 4 (Def 4 1) 0x3c000 refl) (race_legal 14 (Grant 4 1 2 0 (Def 4 1) 0x3c000) refl)

pub grants_the_first : GrantsTheFirst → ⊥
grants_the_first gives = first_not_granted (gives_legal race.setting race.before 1 (resolves 2 0) _ _ (legal_take race.setting race.race 14 race_legal) gives)

-- ---- thread-local storage

first : FindsFirst late.setting opened 0 (late.v_of 2) (Tls 0 2 0x36000) (Sym 0 (late.v_of 2) (Found 2 1 0x36010)) 0x36010
unfolding Legal after_from loaded initialise
first = record {
  serial = 2;
  index = 1;
  block = 0x36000;
  storage = refl;
  gets = refl;
  finds = refl;
  may_get = late_legal 4 (Tls 0 2 0x36000) refl;
  may_find = late_legal 5 (Sym 0 (late.v_of 2) (Found 2 1 0x36010)) refl;
}

pub finds_in_block : FindsInBlock
finds_in_block = by_first_block (late.v_of 2) (Tls 0 2 0x36000) (Sym 0 (late.v_of 2) (Found 2 1 0x36010)) 0x36010 first

pub finds_without_block : FindsWithoutBlock
finds_without_block value gives = two_events late.setting opened 0 (late.v_of 2) (Tls 0 2 0x36000) (Sym 0 (late.v_of 2) (Found 2 1 0x36010)) (Sym 0 (late.v_of 2) (Found 2 1 value)) 0x36010 value first gives

pub locates_in_block : LocatesInBlock
unfolding after_from loaded initialise tls_block
locates_in_block = in_block 1 0xfffffffffffff810 0x36000 (record { of = record { number = 1; serial = 2; offset = None }; there = refl; is = refl })

pub is_bad_module : IsBadModule
unfolding after_from loaded initialise
is_bad_module = to_end (locates 2 0) (BadModule 2) (bad_module 2 0 refl)

pub locates_in_other : LocatesInOther
unfolding after_from loaded initialise
locates_in_other given value gives = no_such_module late.setting with_block 0 2 0 given value refl gives
