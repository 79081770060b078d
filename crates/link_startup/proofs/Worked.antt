-- The worked starts.
use Rattle.std.proofs.Common.{◌≡◌, ℕ, false, inl, List, [], ◌∷◌, length, map, refl, sym, ap, arith}
use Rattle.std.specs.Prelude.{codes}
use Rattle.std.proofs.lemmas.Bool.{true≢false}
use Rattle.ld_base.specs.declared.fault.DlFault.{DlFault}
use Rattle.ld_base.specs.declared.fault.DlFault.TheVariants.{MissingLibrary}
use Rattle.ld_base.specs.declared.linking.File.{File}
use Rattle.ld_base.specs.declared.linking.Loaded.{Loaded}
use Rattle.history_event.specs.declared.event.Event.{Event}
use Rattle.history_event.specs.declared.handed.HartEntry.{HartEntry}
use Rattle.scope_rule.specs.Breadth.{breadth}
use Rattle.scope_rule.specs.Choose.{pick_at}
use Rattle.scope_rule.specs.Linker.{linker_symbol}
use Rattle.scope_rule.specs.Load.{find_opened, find_path, finds, step as load_step}
use Rattle.scope_rule.specs.Searching.{in_global}
use Rattle.seg_image.specs.Pages.{align_of, guest_address, high_of, low_of, own_address, pages_of, segment_at}
use Rattle.seg_image.specs.Roles.{role_of}
use Rattle.history_state.specs.Addresses.{address}
use Rattle.history_state.specs.Bound.{linked_with}
use Rattle.history_state.specs.After.{after, after_from}
use Rattle.history_state.specs.Allowed.{Allowed}
use Rattle.history_state.specs.Legal.{Legal}
use Rattle.history_state.specs.Lookup.{search}
use Rattle.history_state.specs.Lookup.RefusesSymbol.{missing}
use Rattle.history_state.specs.Memory.{role_at}
use Rattle.history_state.specs.Opening.Refuses.{stopped}
use Rattle.history_state.specs.Parts.{file_of, placed}
use Rattle.history_state.specs.Race as race
use Rattle.history_state.specs.Relocating.{relocation_fault}
use Rattle.history_state.specs.Setting.{Setting}
use Rattle.history_state.specs.State.{empty_state}
use Rattle.history_state.specs.Step.{loaded}
use Rattle.history_state.specs.Storage.{tp_of}
use Rattle.history_state.specs.Lemmas.Played.{loads}
use Rattle.history_state.specs.Lemmas.Raced.{race_legal}
use Rattle.history_calls.specs.Lemmas.Readings.{reading_told, told_reads}
use Rattle.history_calls.specs.Laws.{FailsOneWay, StartsOrFails}
use Rattle.history_calls.specs.declared.link_served.startup.Setup.{Setup}
use Rattle.history_calls.specs.Startup.{FailsToStart, FindsStart, IsSetUp, entries_from, found_at, is_executable}
use Rattle.history_calls.specs.Startup.{opening, program_ask}
use Rattle.history_calls.specs.Startup.FindHarts.{no_more, one_more}
use Rattle.history_calls.specs.Startup.LacksHart.{is_not_code, is_refused}
use Rattle.history_calls.specs.Startup.FailsToStart.{is_not_opened, lacks_hart}
use Rattle.link_startup.specs.Worked.{HasNoProgram, LacksName, LacksNameOfTwo, LooksOn, SharesAStack, StartsInData, StartsTwo, StopsAtData}
use Rattle.link_startup.specs.Worked.{at_data, both_found, data_found, data_setting, h2_missing, h2_refused, holder, lacks_first, one_hart, prog_placed}
use Rattle.link_startup.specs.Worked.{prog_ranges, setup_of, three_harts, three_ranges}

-- ---- two harts

opens : Allowed race.setting [] race.startup
unfolding Legal
opens = race_legal 0 race.startup refl

finds_h1 : FindsStart race.setting (race.startup ∷ []) 1 (codes "h1") 1 3 0x11058
unfolding Legal after_from loaded role_at role_of own_address segment_at linked_with low_of high_of pages_of
finds_h1 = record { may = race_legal 1 (found_at 1 (codes "h1") 1 3 0x11058) refl; code = refl }

pub starts_two : StartsTwo
unfolding after_from loaded guest_address tp_of
starts_two installs functions installed constructed = record {
  set_up = refl;
  root = 1;
  added = prog_placed;
  ranges = prog_ranges;
  opens = opens;
  found = found_at 1 (codes "h1") 1 3 0x11058 ∷ [];
  addresses = 0x11058 ∷ [];
  finds = one_more (race.startup ∷ []) 1 (codes "h1") [] 1 3 0x11058 [] [] finds_h1 (no_more _ 2);
  are = refl;
  installed = installed;
  constructed = constructed;
  entries = refl;
}

-- the sp of the second hart
abbrev second_sp : List HartEntry → ℕ
second_sp [] = 0
second_sp (first ∷ []) = 0
second_sp (first ∷ (second ∷ rest)) = second.sp

another_stack : (addresses : List ℕ) → 0x23fd0 ≡ second_sp (entries_from (after both_found) 0 (0x10000 ∷ addresses)) → ⊥
unfolding after_from loaded guest_address tp_of
another_stack [] is = let none : 0x23fd0 ≡ 0 = is in omega (arith, none)
another_stack (pc ∷ rest) is = let own : 0x23fd0 ≡ 0x33fd0 = is in omega (arith, own)

pub shares_a_stack : SharesAStack → ⊥
unfolding after_from loaded guest_address tp_of
shares_a_stack (installs, (functions, starts)) = another_stack starts.addresses (ap second_sp starts.entries)

-- ---- a program that isn't there

abbrev prog_files : List File
prog_files = map file_of (race.prog ∷ [])

pub has_no_program : HasNoProgram
unfolding after_from load_step finds find_path find_opened
has_no_program = is_not_opened (MissingLibrary (codes "nope")) refl (record {
  may = λ first. record { by_first = refl; base = refl; named = tt; flags = inl refl };
  refuses = stopped (codes "nope") 0 (MissingLibrary (codes "nope")) (record {
    named = record { asked = record { short = refl; flags = refl; namespace = (refl, refl) }; named = refl };
    reading = reading_told one_hart prog_files empty_state (program_ask (setup_of (codes "nope") [])) (codes "nope");
    read = told_reads one_hart prog_files empty_state (program_ask (setup_of (codes "nope") [])) (codes "nope") refl;
    loads = λ none. true≢false (sym none.noload);
    stops = record { steps = 1; is = refl };
  });
})

-- ---- a name that isn't found

abbrev three_opened : Event
three_opened = opening lacks_first 1 prog_placed three_ranges

opens_for_three : Allowed three_harts [] three_opened
unfolding after_from relocation_fault loaded load_step finds find_path find_opened pages_of low_of high_of align_of own_address
opens_for_three = record {
  may = λ first. record { by_first = refl; base = refl; named = tt; flags = inl refl };
  asked = record { short = refl; flags = refl; namespace = (refl, refl) };
  name = loads three_harts prog_files empty_state 0 _ (codes "prog") 0 1 _ _ (1 ∷ []) 0 (record {
    told = refl;
    reads = refl;
    walked = refl;
    all = refl;
    root_is = refl;
    are = refl;
    versions = refl;
    modules = (tt, tt);
    row = refl;
    stand = (refl, refl, refl, refl, refl, (refl, refl, refl, refl, refl, (refl, refl, refl, refl, refl, (refl, refl, refl, refl, refl, tt))));
    based = (refl, tt);
    relocated = refl;
  });
}

refuses_h2 : Allowed three_harts (three_opened ∷ []) h2_refused
unfolding after_from loaded search in_global breadth pick_at linker_symbol
refuses_h2 = (refl, missing (record { name = refl; version = refl }) refl)

pub lacks_name : LacksName
lacks_name = lacks_hart 1 prog_placed three_ranges (h2_refused ∷ []) h2_missing refl opens_for_three
    (is_refused (three_opened ∷ []) 1 (codes "h2") (codes "h1" ∷ []) h2_missing refuses_h2)

two_not_three : IsSetUp race.setting lacks_first → ⊥
two_not_three e =
    let few : 2 ≡ 3 = ap (λ (w : Setting). w.machine.harts) e in
    omega (arith, few)

is_set_up : (w : Setting) (setup : Setup) (fault : DlFault) (events : List Event) → FailsToStart w setup fault events → IsSetUp w setup
is_set_up w setup fault events (is_not_opened _ set may) = set
is_set_up w setup fault events (lacks_hart root added ranges more _ set may lacks) = set

pub not_of_two : LacksNameOfTwo → ⊥
not_of_two fails = two_not_three (is_set_up _ _ _ _ fails)

pub looks_on : FailsOneWay → LooksOn → ⊥
looks_on law fails =
    let same = (law three_harts lacks_first prog_files _ _ h2_missing h2_missing refl lacks_name fails refl refl).1 in
    let short : 2 ≡ 3 = ap length same in
    omega (arith, short)

-- ---- a name that is found, but no code

abbrev data_files : List File
data_files = map file_of (holder ∷ [])

abbrev holder_placed : List Loaded
holder_placed = placed 0 1 holder 0x10000 [] ∷ []

abbrev data_opened : Event
data_opened = opening at_data 1 holder_placed prog_ranges

opens_holder : Allowed data_setting [] data_opened
unfolding after_from relocation_fault loaded load_step finds find_path find_opened pages_of low_of high_of align_of own_address
opens_holder = record {
  may = λ first. record { by_first = refl; base = refl; named = tt; flags = inl refl };
  asked = record { short = refl; flags = refl; namespace = (refl, refl) };
  name = loads data_setting data_files empty_state 0 _ (codes "prog") 0 1 _ _ (1 ∷ []) 0 (record {
    told = refl;
    reads = refl;
    walked = refl;
    all = refl;
    root_is = refl;
    are = refl;
    versions = refl;
    modules = (tt, tt);
    row = refl;
    stand = (refl, refl, refl, refl, refl, (refl, refl, refl, refl, refl, (refl, refl, refl, refl, refl, tt)));
    based = (refl, tt);
    relocated = refl;
  });
}

finds_v : Allowed data_setting (data_opened ∷ []) (found_at 1 (codes "v") 1 1 0x13008)
unfolding after_from loaded search in_global breadth pick_at address guest_address
finds_v = (refl, record { short = record { name = refl; version = refl }; found = refl; is = refl })

is_no_code : is_executable (after (data_opened ∷ [])) 0x13008 ≡ false
unfolding after_from loaded role_at role_of own_address segment_at linked_with low_of high_of pages_of
is_no_code = refl

pub stops_at_data : StopsAtData
stops_at_data = lacks_hart 1 holder_placed prog_ranges (found_at 1 (codes "v") 1 1 0x13008 ∷ []) _ refl opens_holder
    (is_not_code (data_opened ∷ []) 1 (codes "v") [] 1 1 0x13008 finds_v is_no_code)

pub starts_in_data : StartsOrFails → StartsInData → ⊥
starts_in_data law (started, starts) =
    true≢false (sym (law data_setting at_data data_files starts.root starts.added starts.ranges starts.found data_found starts.addresses _ refl
    starts.opens starts.finds stops_at_data))
