-- The race, event by event.
use Rattle.std.proofs.Common.{take, inl, inr, List, [], ◌∷◌, map, None, refl, sym}
use Rattle.std.specs.Prelude.{codes}
use Rattle.std.proofs.lemmas.Bool.{true≢false}
use Rattle.ld_base.specs.declared.linking.Choice.TheVariants.{Def}
use Rattle.ld_base.specs.declared.linking.File.{File}
use Rattle.history_event.specs.declared.event.CloseAnswer.TheVariants as closes
use Rattle.history_event.specs.declared.event.Event.TheVariants.{Close, Unmapped, Grant, Bound, Lost, Sym, Init, Fini, Ended}
use Rattle.history_event.specs.declared.event.SymAnswer.TheVariants.{Found}
use Rattle.history_event.specs.declared.hart_end.HartEnd.TheVariants.{Exit}
use Rattle.scope_rule.specs.Breadth.{breadth}
use Rattle.scope_rule.specs.Choose.{choose_for, pick_at}
use Rattle.scope_rule.specs.Linker.{linker_symbol}
use Rattle.scope_rule.specs.Load.{find_opened, find_path, finds, step as load_step}
use Rattle.scope_rule.specs.Relocation.{choice_at}
use Rattle.scope_rule.specs.Scope.{scope}
use Rattle.scope_rule.specs.Searching.{in_breadth, in_global}
use Rattle.seg_image.specs.Pages.{align_of, guest_address, high_of, low_of, own_address, pages_of, segment_at}
use Rattle.seg_image.specs.Roles.{role_of}
use Rattle.seg_image.specs.Words.{file_byte, file_word, word_of}
use Rattle.relocator.specs.Relocated.{moved_word}
use Rattle.history_state.specs.State.{State, empty_state}
use Rattle.history_state.specs.Addresses.{address, is_code_of, leads_to_code}
use Rattle.history_state.specs.After.{after, after_from}
use Rattle.history_state.specs.Allowed.{Allowed, AllowedIn, AtTheEnd, ByClosing, Closes, MayGrant}
use Rattle.history_state.specs.Legal.{Legal, Whole}
use Rattle.history_state.specs.Lookup.{search}
use Rattle.history_state.specs.Parts.{file_of}
use Rattle.history_state.specs.Race.{closed_under_grant, granted_the_first, libf, libg, libo, opens_libg, opens_libo, owner_dies, prog, race, setting, startup}
use Rattle.history_state.specs.Relocating.{relocation_fault}
use Rattle.history_state.specs.Step.{die, initialise, loaded, lower, step}
use Rattle.history_state.specs.Links.{edges, roots}
use Rattle.history_state.specs.Lemmas.Played.{another_is_chosen, at_the_end, legal_by, loads, mapped_at, may_bind, may_close, may_finish, may_grant, may_initialise, may_lose, may_unmap, only_bound, only_dying, some_in, whole_by}

abbrev files : List File
files = map file_of (prog ∷ libo ∷ libf ∷ libg ∷ [])

-- ---- the states

abbrev started : State
started = step empty_state startup

abbrev dlopen_granted : State
dlopen_granted = step started (Grant 1 0 1 0 (Def 0 1) 0x80f010)

abbrev dlopen_bound : State
dlopen_bound = step dlopen_granted (Bound 1)

abbrev libo_opened : State
libo_opened = step dlopen_bound opens_libo

abbrev libf_ready : State
libf_ready = step libo_opened (Init 0 3)

abbrev libo_ready : State
libo_ready = step libf_ready (Init 0 2)

abbrev dlsym_granted : State
dlsym_granted = step libo_ready (Grant 2 0 1 1 (Def 0 3) 0x80f030)

abbrev dlsym_bound : State
dlsym_bound = step dlsym_granted (Bound 2)

abbrev prog_ready : State
prog_ready = step dlsym_bound (Init 0 1)

abbrev first_granted : State
first_granted = step prog_ready (Grant 3 0 2 0 (Def 3 1) 0x39000)

abbrev libg_opened : State
libg_opened = step first_granted opens_libg

abbrev libg_ready : State
libg_ready = step libg_opened (Init 1 4)

abbrev second_granted : State
second_granted = step libg_ready (Grant 4 1 2 0 (Def 4 1) 0x3c000)

abbrev first_lost : State
first_lost = step second_granted (Lost 3 0x3c000)

abbrev second_bound : State
second_bound = step first_lost (Bound 4)

abbrev one_ended : State
one_ended = step second_bound (Ended 0 (Exit 7))

abbrev both_ended : State
both_ended = step one_ended (Ended 1 (Exit 7))

abbrev libg_done : State
libg_done = step both_ended (Fini 0 4)

abbrev prog_done : State
prog_done = step libg_done (Fini 0 1)

abbrev libo_done : State
libo_done = step prog_done (Fini 0 2)

-- ---- the events

may_start : AllowedIn setting [] empty_state startup
unfolding relocation_fault loaded load_step finds find_path find_opened pages_of low_of high_of align_of own_address
may_start = record {
  may = λ first. record { by_first = refl; base = refl; named = tt; flags = inl refl };
  asked = record { short = refl; flags = refl; namespace = (refl, refl) };
  name = loads setting files empty_state 0 _ (codes "prog") 0 1 _ _ (1 ∷ []) 0 (record {
    told = refl;
    reads = refl;
    walked = refl;
    all = refl;
    root_is = refl;
    are = refl;
    versions = refl;
    modules = (tt, tt);
    row = refl;
    stand = (refl, refl, refl, refl, refl, (refl, refl, refl, refl, refl, (refl, refl, refl, refl, refl, tt)));
    based = (refl, tt);
    relocated = refl;
  });
}

finds_h1 : AllowedIn setting [] started (Sym 1 (record { ns = 0; handle = 0; name = codes "h1"; version = None }) (Found 1 3 0x11058))
unfolding loaded search in_global breadth pick_at address guest_address
finds_h1 = (refl, record { short = record { name = refl; version = refl }; found = refl; is = refl })

grants_dlopen : AllowedIn setting [] started (Grant 1 0 1 0 (Def 0 1) 0x80f010)
unfolding loaded choice_at choose_for scope breadth pick_at linker_symbol address is_code_of leads_to_code moved_word file_word word_of file_byte segment_at
grants_dlopen = may_grant started 1 0 1 0 0 0 refl refl refl refl refl refl refl refl refl

binds_dlopen : AllowedIn setting [] dlopen_granted (Bound 1)
unfolding loaded
binds_dlopen = may_bind dlopen_granted 1 0 refl refl refl refl refl

may_open_libo : AllowedIn setting [] dlopen_bound opens_libo
unfolding relocation_fault loaded load_step finds find_path find_opened pages_of low_of high_of align_of own_address
may_open_libo = record {
  may = λ first. absurd (true≢false (sym first));
  asked = record { short = refl; flags = refl; namespace = (refl, refl) };
  name = loads setting files dlopen_bound 0 _ (codes "libo.so") 0 2 _ _ (2 ∷ 3 ∷ []) 36 (record {
    told = refl;
    reads = refl;
    walked = refl;
    all = refl;
    root_is = refl;
    are = refl;
    versions = refl;
    modules = (tt, (tt, tt));
    row = (refl, (refl, (refl, refl)));
    stand = (refl, refl, refl, refl, refl, (refl, refl, refl, refl, refl, tt));
    based = (refl, (refl, tt));
    relocated = refl;
  });
}

inits_libf : AllowedIn setting [] libo_opened (Init 0 3)
unfolding loaded
inits_libf = may_initialise libo_opened 0 3 1 (2 ∷ []) [] refl refl refl refl refl

inits_libo : AllowedIn setting [] libf_ready (Init 0 2)
unfolding loaded initialise
inits_libo = may_initialise libf_ready 0 2 1 [] (3 ∷ []) refl refl refl refl refl

grants_dlsym : AllowedIn setting [] libo_ready (Grant 2 0 1 1 (Def 0 3) 0x80f030)
unfolding loaded initialise choice_at choose_for scope breadth pick_at linker_symbol address is_code_of leads_to_code moved_word file_word word_of file_byte segment_at
grants_dlsym = may_grant libo_ready 2 0 1 1 0 0 refl refl refl refl refl refl refl refl refl

binds_dlsym : AllowedIn setting [] dlsym_granted (Bound 2)
unfolding loaded initialise
binds_dlsym = may_bind dlsym_granted 2 1 refl refl refl refl refl

finds_go : AllowedIn setting [] dlsym_bound (Sym 0 (record { ns = 0; handle = 2; name = codes "go"; version = None }) (Found 2 2 0x35030))
unfolding loaded initialise search in_breadth breadth pick_at address guest_address
finds_go = (refl, record { short = record { name = refl; version = refl }; found = refl; is = refl })

inits_prog : AllowedIn setting [] dlsym_bound (Init 0 1)
unfolding loaded initialise
inits_prog = may_initialise dlsym_bound 0 1 0 [] [] refl refl refl refl refl

grants_first : AllowedIn setting [] prog_ready (Grant 3 0 2 0 (Def 3 1) 0x39000)
unfolding loaded initialise choice_at choose_for scope breadth pick_at linker_symbol address is_code_of leads_to_code moved_word file_word word_of file_byte segment_at role_of own_address guest_address
grants_first = may_grant prog_ready 3 0 2 0 0 1 refl refl refl refl refl refl refl refl refl

may_open_libg : AllowedIn setting [] first_granted opens_libg
unfolding relocation_fault loaded initialise load_step finds find_path find_opened pages_of low_of high_of align_of own_address
may_open_libg = record {
  may = λ first. absurd (true≢false (sym first));
  asked = record { short = refl; flags = refl; namespace = (refl, refl) };
  name = loads setting files first_granted 1 _ (codes "libg.so") 0 4 _ _ (4 ∷ []) 43 (record {
    told = refl;
    reads = refl;
    walked = refl;
    all = refl;
    root_is = refl;
    are = refl;
    versions = refl;
    modules = (tt, tt);
    row = (refl, (refl, (refl, (refl, (refl, refl)))));
    stand = (refl, refl, refl, refl, refl, tt);
    based = (refl, tt);
    relocated = refl;
  });
}

inits_libg : AllowedIn setting [] libg_opened (Init 1 4)
unfolding loaded initialise
inits_libg = may_initialise libg_opened 1 4 2 [] [] refl refl refl refl refl

grants_second : AllowedIn setting [] libg_ready (Grant 4 1 2 0 (Def 4 1) 0x3c000)
unfolding loaded initialise choice_at choose_for scope breadth pick_at linker_symbol address is_code_of leads_to_code moved_word file_word word_of file_byte segment_at role_of own_address guest_address
grants_second = may_grant libg_ready 4 1 2 0 0 1 refl refl refl refl refl refl refl refl refl

loses_first : AllowedIn setting [] second_granted (Lost 3 0x3c000)
unfolding loaded initialise
loses_first = may_lose second_granted 3 0x3c000 2 3 refl refl refl refl refl refl refl refl

binds_second : AllowedIn setting [] first_lost (Bound 4)
unfolding loaded initialise
binds_second = may_bind first_lost 4 3 refl refl refl refl refl

finishes_libg : AtTheEnd setting (take 19 race) both_ended 0 4
unfolding loaded initialise after_from
finishes_libg = at_the_end setting (take 19 race) both_ended 4 refl refl refl (mapped_at both_ended _ _ 0 3 refl refl) refl refl

finishes_prog : AtTheEnd setting (take 20 race) libg_done 0 1
unfolding loaded initialise after_from
finishes_prog = at_the_end setting (take 20 race) libg_done 1 refl refl refl (mapped_at libg_done _ _ 0 0 refl refl) refl refl

finishes_libo : AtTheEnd setting (take 21 race) prog_done 0 2
unfolding loaded initialise after_from
finishes_libo = at_the_end setting (take 21 race) prog_done 2 refl refl refl (mapped_at prog_done _ _ 0 1 refl refl) refl refl

finishes_libf : AtTheEnd setting (take 22 race) libo_done 0 3
unfolding loaded initialise after_from
finishes_libf = at_the_end setting (take 22 race) libo_done 3 refl refl refl (mapped_at libo_done _ _ 0 2 refl refl) refl refl

pub race_legal : Legal setting race
unfolding loaded initialise
race_legal = legal_by setting race
    (may_start, (finds_h1, (grants_dlopen, (binds_dlopen, (may_open_libo, (inits_libf, (inits_libo, (grants_dlsym, (binds_dlsym, (finds_go, (inits_prog, (grants_first, (may_open_libg, (inits_libg, (grants_second, (loses_first, (binds_second, (inl refl, (inl refl, (inr finishes_libg, (inr finishes_prog, (inr finishes_libo, (inr finishes_libf, tt)))))))))))))))))))))))

pub race_whole : Whole setting race
unfolding loaded initialise after_from
race_whole = whole_by setting race (tt, (tt, (inr (only_bound (after race) 2 0 0x3c000 3 refl refl refl refl refl), (tt, tt)))) refl

pub first_not_granted : Legal setting granted_the_first → ⊥
unfolding Legal loaded initialise after_from choice_at choose_for scope breadth pick_at
first_not_granted legal = another_is_chosen 4 1 refl refl (at_hart_1 (legal 14 (Grant 4 1 2 0 (Def 3 1) 0x39000) refl))
  where
    at_hart_1 : Allowed setting (take 14 granted_the_first) (Grant 4 1 2 0 (Def 3 1) 0x39000) → MayGrant libg_ready 4 1 2 0 (Def 3 1) 0x39000
    at_hart_1 h = h

-- ---- closed under a grant

abbrev libo_closed : State
libo_closed = step libg_ready (Close 1 2 (closes.Done []))

abbrev first_bound : State
first_bound = step libo_closed (Bound 3)

abbrev libg_closed : State
libg_closed = step first_bound (Close 1 4 (closes.Done (2 ∷ 3 ∷ 4 ∷ [])))

abbrev libg_finished : State
libg_finished = step libg_closed (Fini 1 4)

abbrev libo_finished : State
libo_finished = step libg_finished (Fini 1 2)

abbrev libf_finished : State
libf_finished = step libo_finished (Fini 1 3)

closes_libo : AllowedIn setting [] libg_ready (Close 1 2 (closes.Done []))
unfolding loaded initialise lower edges roots breadth
closes_libo = may_close libg_ready 2 0 1 refl refl refl refl refl refl

binds_first : AllowedIn setting [] libo_closed (Bound 3)
unfolding loaded initialise lower die
binds_first = may_bind libo_closed 3 2 refl refl refl refl refl

closes_libg : AllowedIn setting [] first_bound (Close 1 4 (closes.Done (2 ∷ 3 ∷ 4 ∷ [])))
unfolding loaded initialise lower die edges roots breadth
closes_libg = may_close first_bound 4 0 1 refl refl refl refl refl refl

closing_libg : ByClosing libg_closed 1 4
unfolding loaded initialise lower die
closing_libg = may_finish libg_closed 1 4 0 refl refl refl

closing_libo : ByClosing libg_finished 1 2
unfolding loaded initialise lower die
closing_libo = may_finish libg_finished 1 2 0 refl refl refl

closing_libf : ByClosing libo_finished 1 3
unfolding loaded initialise lower die
closing_libf = may_finish libo_finished 1 3 0 refl refl refl

unmaps : AllowedIn setting [] libf_finished (Unmapped 1 (2 ∷ 3 ∷ 4 ∷ []))
unfolding loaded initialise lower die
unmaps = may_unmap libf_finished 1 0 2 (3 ∷ 4 ∷ []) refl refl refl refl refl

pub closed_legal : Legal setting closed_under_grant
unfolding loaded initialise lower die
closed_legal = legal_by setting closed_under_grant (
  may_start,
  (
    finds_h1,
    (
      grants_dlopen,
      (
        binds_dlopen,
        (
          may_open_libo,
          (
            inits_libf,
            (
              inits_libo,
              (
                grants_dlsym,
                (
                  binds_dlsym,
                  (
                    finds_go,
                    (
                      inits_prog,
                      (
                        grants_first,
                        (
                          may_open_libg,
                          (
                            inits_libg,
                            (closes_libo, (binds_first, (closes_libg, (inl closing_libg, (inl closing_libo, (inl closing_libf, (unmaps, tt))))))),
                          ),
                        ),
                      ),
                    ),
                  ),
                ),
              ),
            ),
          ),
        ),
      ),
    ),
  ),
)

pub owner_stays : Legal setting owner_dies → ⊥
unfolding Legal loaded initialise after_from lower edges roots breadth
owner_stays legal = some_in 2 [] (only_dying libg_ready 2 _ refl refl (at_close (legal 14 (Close 1 2 (closes.Done (2 ∷ []))) refl)))
  where
    at_close : Allowed setting (take 14 owner_dies) (Close 1 2 (closes.Done (2 ∷ []))) → Closes libg_ready 2 (2 ∷ [])
    at_close h = h
