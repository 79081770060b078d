-- The first match, event by event.
use Rattle.std.proofs.Common.{take, ◌≤◌, arith, inl, inr, List, [], ◌∷◌, map, refl}
use Rattle.std.specs.Prelude.{codes}
use Rattle.ld_base.specs.declared.linking.Choice.TheVariants.{Def}
use Rattle.ld_base.specs.declared.linking.File.{File}
use Rattle.history_event.specs.declared.event.Event.TheVariants.{Grant, Bound, Init, Fini, Ended}
use Rattle.history_event.specs.declared.hart_end.HartEnd.TheVariants.{Exit}
use Rattle.scope_rule.specs.Breadth.{breadth}
use Rattle.scope_rule.specs.Choose.{choose_for, pick_at}
use Rattle.scope_rule.specs.Linker.{linker_symbol}
use Rattle.scope_rule.specs.Load.{find_opened, find_path, finds, step as load_step}
use Rattle.scope_rule.specs.Relocation.{choice_at}
use Rattle.scope_rule.specs.Scope.{scope}
use Rattle.seg_image.specs.Pages.{align_of, guest_address, high_of, low_of, own_address, pages_of, segment_at}
use Rattle.seg_image.specs.Roles.{role_of}
use Rattle.seg_image.specs.Words.{file_byte, file_word, word_of}
use Rattle.relocator.specs.Relocated.{moved_word}
use Rattle.history_state.specs.State.{State, empty_state}
use Rattle.history_state.specs.Addresses.{address, is_code_of, leads_to_code}
use Rattle.address_space.specs.Pages.{IsFirstFit, without}
use Rattle.history_state.specs.Areas.{free_pages}
use Rattle.history_state.specs.After.{after_from}
use Rattle.history_state.specs.Allowed.{Allowed, AllowedIn, AtTheEnd, MayGrant, MayInitialise}
use Rattle.history_state.specs.Legal.{Legal, Whole}
use Rattle.history_state.specs.Parts.{file_of}
use Rattle.history_state.specs.FirstMatch.{first_match, gap_left, last_match, liba, libb, prog, program_first, setting, startup, startup_with}
use Rattle.history_state.specs.Relocating.{relocation_fault}
use Rattle.history_state.specs.Step.{initialise, loaded, step}
use Rattle.history_state.specs.Lemmas.Played.{another_is_chosen, at_the_end, legal_by, loads, mapped_at, may_bind, may_grant, may_initialise, not_next, whole_by}
use Rattle.history_state.specs.Lemmas.InRow.{fits_next, free_from, left_from}

abbrev files : List File
files = map file_of (prog ∷ liba ∷ libb ∷ [])

-- ---- the states

abbrev started : State
started = step empty_state startup

abbrev liba_ready : State
liba_ready = step started (Init 0 2)

abbrev libb_ready : State
libb_ready = step liba_ready (Init 0 3)

abbrev prog_ready : State
prog_ready = step libb_ready (Init 0 1)

abbrev granted : State
granted = step prog_ready (Grant 1 0 1 0 (Def 2 1) 0x15000)

abbrev bound : State
bound = step granted (Bound 1)

abbrev ended : State
ended = step bound (Ended 0 (Exit 1))

abbrev prog_done : State
prog_done = step ended (Fini 0 1)

abbrev libb_done : State
libb_done = step prog_done (Fini 0 3)

-- ---- the events

may_start : AllowedIn setting [] empty_state startup
unfolding relocation_fault loaded initialise load_step finds find_path find_opened pages_of low_of high_of align_of own_address
may_start = record {
  may = λ first. record { by_first = refl; base = refl; named = tt; flags = inl refl };
  asked = record { short = refl; flags = refl; namespace = (refl, refl) };
  name = loads setting files empty_state 0 _ (codes "prog") 0 1 _ _ (1 ∷ 2 ∷ 3 ∷ []) 0 (record {
    told = refl;
    reads = refl;
    walked = refl;
    all = refl;
    root_is = refl;
    are = refl;
    versions = refl;
    modules = (tt, (tt, (tt, tt)));
    row = refl;
    stand = (refl, refl, refl, refl, refl, (refl, refl, refl, refl, refl, (refl, refl, refl, refl, refl, (refl, refl, refl, refl, refl, tt))));
    based = (refl, (refl, (refl, tt)));
    relocated = refl;
  });
}

inits_liba : AllowedIn setting [] started (Init 0 2)
unfolding loaded
inits_liba = may_initialise started 0 2 0 [] (3 ∷ 1 ∷ []) refl refl refl refl refl

inits_libb : AllowedIn setting [] liba_ready (Init 0 3)
unfolding loaded initialise
inits_libb = may_initialise liba_ready 0 3 0 (2 ∷ []) (1 ∷ []) refl refl refl refl refl

inits_prog : AllowedIn setting [] libb_ready (Init 0 1)
unfolding loaded initialise
inits_prog = may_initialise libb_ready 0 1 0 (2 ∷ 3 ∷ []) [] refl refl refl refl refl

grants_f : AllowedIn setting [] prog_ready (Grant 1 0 1 0 (Def 2 1) 0x15000)
unfolding loaded initialise choice_at choose_for scope breadth pick_at linker_symbol address is_code_of leads_to_code moved_word file_word word_of file_byte segment_at role_of own_address guest_address
grants_f = may_grant prog_ready 1 0 1 0 0 0 refl refl refl refl refl refl refl refl refl

binds_f : AllowedIn setting [] granted (Bound 1)
unfolding loaded initialise
binds_f = may_bind granted 1 0 refl refl refl refl refl

finishes_prog : AtTheEnd setting (take 7 first_match) ended 0 1
unfolding loaded initialise after_from
finishes_prog = at_the_end setting (take 7 first_match) ended 1 refl refl refl (mapped_at ended _ _ 0 0 refl refl) refl refl

finishes_libb : AtTheEnd setting (take 8 first_match) prog_done 0 3
unfolding loaded initialise after_from
finishes_libb = at_the_end setting (take 8 first_match) prog_done 3 refl refl refl (mapped_at prog_done _ _ 0 2 refl refl) refl refl

finishes_liba : AtTheEnd setting (take 9 first_match) libb_done 0 2
unfolding loaded initialise after_from
finishes_liba = at_the_end setting (take 9 first_match) libb_done 2 refl refl refl (mapped_at libb_done _ _ 0 1 refl refl) refl refl

pub first_match_legal : Legal setting first_match
unfolding loaded initialise
first_match_legal = legal_by setting first_match
    (may_start, (inits_liba, (inits_libb, (inits_prog, (grants_f, (binds_f, (inl refl, (inr finishes_prog, (inr finishes_libb, (inr finishes_liba, tt))))))))))

pub first_match_whole : Whole setting first_match
unfolding loaded initialise after_from
first_match_whole = whole_by setting first_match (tt, tt) refl

-- ---- neighbours

pub last_not_chosen : Legal setting last_match → ⊥
unfolding Legal loaded initialise after_from choice_at choose_for scope breadth pick_at
last_not_chosen legal = another_is_chosen 2 1 refl refl (at_grant (legal 4 (Grant 1 0 1 0 (Def 3 1) 0x18000) refl))
  where
    at_grant : Allowed setting (take 4 last_match) (Grant 1 0 1 0 (Def 3 1) 0x18000) → MayGrant prog_ready 1 0 1 0 (Def 3 1) 0x18000
    at_grant h = h

pub program_not_first : Legal setting program_first → ⊥
unfolding Legal loaded after_from
program_not_first legal = not_next started 0 1 refl refl (at_init (legal 1 (Init 0 1) refl))
  where
    at_init : Allowed setting (take 1 program_first) (Init 0 1) → MayInitialise started 0 1
    at_init h = h

-- the pages behind the first library are free
third_page : IsFirstFit (without (without (free_pages []) 0x10000 4) 0x14000 3) 3 4096 0x17000
third_page = fits_next _ 7 3 (left_from _ 4 3 (left_from _ 0 4 (free_from [] 0 refl))) refl (omega arith) (omega arith)

pub no_gap : Legal setting gap_left → ⊥
unfolding Legal after_from pages_of low_of high_of align_of
no_gap legal =
    let low : 0x18000 ≤ 0x17000 = (stands (at_startup (legal 0 (startup_with 0x18000) refl))).least 0x17000 third_page.fits in
    omega (arith, low)
  where
    at_startup : Allowed setting [] (startup_with 0x18000) → AllowedIn setting [] empty_state (startup_with 0x18000)
    at_startup h = h

    stands : AllowedIn setting [] empty_state (startup_with 0x18000) → IsFirstFit (without (without (free_pages []) 0x10000 4) 0x14000 3) 3 4096 0x18000
    stands opens = opens.name.placed.given.1.1.0.stands
