-- The cycle of libraries, event by event.
use Rattle.std.proofs.Common.{take, inl, inr, List, [], ◌∷◌, map, Some, None, refl, sym}
use Rattle.std.specs.Prelude.{codes}
use Rattle.std.proofs.lemmas.Bool.{true≢false}
use Rattle.ld_base.specs.declared.fault.DlFault.TheVariants.{BadHandle}
use Rattle.ld_base.specs.declared.linking.Choice.TheVariants.{Def}
use Rattle.ld_base.specs.declared.linking.File.{File}
use Rattle.history_event.specs.declared.event.CloseAnswer.TheVariants as closes
use Rattle.history_event.specs.declared.event.Event.TheVariants.{Close, Unmapped, Grant, Bound, Sym, Init, Fini, Told, Ended}
use Rattle.history_event.specs.declared.event.SymAnswer.TheVariants as syms
use Rattle.history_event.specs.declared.hart_end.HartEnd.TheVariants.{Exit}
use Rattle.scope_rule.specs.Breadth.{breadth}
use Rattle.scope_rule.specs.Choose.{choose_for, pick_at}
use Rattle.scope_rule.specs.Linker.{linker_symbol}
use Rattle.scope_rule.specs.Load.{find_opened, find_path, finds, step as load_step}
use Rattle.scope_rule.specs.Relocation.{choice_at}
use Rattle.scope_rule.specs.Scope.{scope}
use Rattle.scope_rule.specs.Searching.{in_global}
use Rattle.seg_image.specs.Pages.{align_of, guest_address, high_of, low_of, own_address, pages_of, segment_at}
use Rattle.seg_image.specs.Roles.{role_of}
use Rattle.seg_image.specs.Words.{file_byte, file_word, word_of}
use Rattle.relocator.specs.Relocated.{moved_word}
use Rattle.history_state.specs.State.{State, empty_state}
use Rattle.history_state.specs.Addresses.{address, is_code_of, leads_to_code}
use Rattle.history_state.specs.After.{after_from}
use Rattle.history_state.specs.Allowed.{Allowed, AllowedIn, AtTheEnd, ByClosing, Closes, MayUnmap}
use Rattle.history_state.specs.Legal.{Legal, Whole}
use Rattle.history_state.specs.Lookup.{search}
use Rattle.history_state.specs.Lookup.RefusesSymbol.{bad_handle as of_bad_handle}
use Rattle.history_state.specs.Parts.{file_of}
use Rattle.history_state.specs.Cycle.{cycle, dies_early, libp, libq, never_dies, opens_libp, opens_libq, prog, setting, startup, unmapped_early}
use Rattle.history_state.specs.Relocating.{relocation_fault}
use Rattle.history_state.specs.Step.{die, initialise, loaded, lower, step, unmap}
use Rattle.history_state.specs.Links.{edges, roots}
use Rattle.history_state.specs.Lemmas.Played.{at_the_end, bad_handle, legal_by, loads, mapped_at, may_bind, may_close, may_finish, may_grant, may_initialise, may_unmap, only_dying, some_in, whole_by}

abbrev files : List File
files = map file_of (prog ∷ libp ∷ libq ∷ [])

-- ---- the states

abbrev started : State
started = step empty_state startup

abbrev prog_ready : State
prog_ready = step started (Init 0 1)

abbrev libp_opened : State
libp_opened = step prog_ready opens_libp

abbrev libp_ready : State
libp_ready = step libp_opened (Init 0 2)

abbrev libq_opened : State
libq_opened = step libp_ready opens_libq

abbrev libq_ready : State
libq_ready = step libq_opened (Init 0 3)

abbrev fq_granted : State
fq_granted = step libq_ready (Grant 1 0 2 0 (Def 3 2) 0x28030)

abbrev fq_bound : State
fq_bound = step fq_granted (Bound 1)

abbrev fp_granted : State
fp_granted = step fq_bound (Grant 2 0 3 0 (Def 2 2) 0x24030)

abbrev fp_bound : State
fp_bound = step fp_granted (Bound 2)

abbrev libp_closed : State
libp_closed = step fp_bound (Close 0 2 (closes.Done []))

abbrev refused : State
refused = step libp_closed (Sym 0 (record { ns = 0; handle = 2; name = codes "fp"; version = None }) (syms.Refused (BadHandle 2)))

abbrev both_closed : State
both_closed = step refused (Close 0 3 (closes.Done (2 ∷ 3 ∷ [])))

abbrev libq_done : State
libq_done = step both_closed (Fini 0 3)

abbrev libp_done : State
libp_done = step libq_done (Fini 0 2)

abbrev both_gone : State
both_gone = step libp_done (Unmapped 0 (2 ∷ 3 ∷ []))

abbrev refused_again : State
refused_again = step both_gone (Close 0 3 (closes.Refused (BadHandle 3)))

abbrev told : State
told = step refused_again (Told 0 (Some (BadHandle 3)))

abbrev ended : State
ended = step told (Ended 0 (Exit 0))

-- ---- the events

may_start : AllowedIn setting [] empty_state startup
unfolding relocation_fault loaded initialise load_step finds find_path find_opened pages_of low_of high_of align_of own_address
may_start = record {
  may = λ first. record { by_first = refl; base = refl; named = tt; flags = inl refl };
  asked = record { short = refl; flags = refl; namespace = (refl, refl) };
  name = loads setting files empty_state 0 _ (codes "prog") 0 1 _ _ (1 ∷ []) 0 (record {
    told = refl;
    reads = refl;
    walked = refl;
    all = refl;
    root_is = refl;
    are = refl;
    versions = refl;
    modules = (tt, tt);
    row = refl;
    stand = (refl, refl, refl, refl, refl, (refl, refl, refl, refl, refl, tt));
    based = (refl, tt);
    relocated = refl;
  });
}

inits_prog : AllowedIn setting [] started (Init 0 1)
unfolding loaded
inits_prog = may_initialise started 0 1 0 [] [] refl refl refl refl refl

may_open_libp : AllowedIn setting [] prog_ready opens_libp
unfolding relocation_fault loaded initialise load_step finds find_path find_opened pages_of low_of high_of align_of own_address
may_open_libp = record {
  may = λ first. absurd (true≢false (sym first));
  asked = record { short = refl; flags = refl; namespace = (refl, refl) };
  name = loads setting files prog_ready 0 _ (codes "libp.so") 0 2 _ _ (2 ∷ []) 19 (record {
    told = refl;
    reads = refl;
    walked = refl;
    all = refl;
    root_is = refl;
    are = refl;
    versions = refl;
    modules = (tt, tt);
    row = (refl, (refl, refl));
    stand = (refl, refl, refl, refl, refl, tt);
    based = (refl, tt);
    relocated = refl;
  });
}

inits_libp : AllowedIn setting [] libp_opened (Init 0 2)
unfolding loaded initialise
inits_libp = may_initialise libp_opened 0 2 1 [] [] refl refl refl refl refl

may_open_libq : AllowedIn setting [] libp_ready opens_libq
unfolding relocation_fault loaded initialise load_step finds find_path find_opened pages_of low_of high_of align_of own_address
may_open_libq = record {
  may = λ first. absurd (true≢false (sym first));
  asked = record { short = refl; flags = refl; namespace = (refl, refl) };
  name = loads setting files libp_ready 0 _ (codes "libq.so") 0 3 _ _ (3 ∷ []) 23 (record {
    told = refl;
    reads = refl;
    walked = refl;
    all = refl;
    root_is = refl;
    are = refl;
    versions = refl;
    modules = (tt, tt);
    row = (refl, (refl, (refl, refl)));
    stand = (refl, refl, refl, refl, refl, tt);
    based = (refl, tt);
    relocated = refl;
  });
}

inits_libq : AllowedIn setting [] libq_opened (Init 0 3)
unfolding loaded initialise
inits_libq = may_initialise libq_opened 0 3 2 [] [] refl refl refl refl refl

grants_fq : AllowedIn setting [] libq_ready (Grant 1 0 2 0 (Def 3 2) 0x28030)
unfolding loaded initialise choice_at choose_for scope breadth pick_at linker_symbol address is_code_of leads_to_code moved_word file_word word_of file_byte segment_at role_of own_address guest_address
grants_fq = may_grant libq_ready 1 0 2 0 0 1 refl refl refl refl refl refl refl refl refl

binds_fq : AllowedIn setting [] fq_granted (Bound 1)
unfolding loaded initialise
binds_fq = may_bind fq_granted 1 0 refl refl refl refl refl

grants_fp : AllowedIn setting [] fq_bound (Grant 2 0 3 0 (Def 2 2) 0x24030)
unfolding loaded initialise choice_at choose_for scope breadth pick_at linker_symbol address is_code_of leads_to_code moved_word file_word word_of file_byte segment_at role_of own_address guest_address
grants_fp = may_grant fq_bound 2 0 3 0 0 2 refl refl refl refl refl refl refl refl refl

binds_fp : AllowedIn setting [] fp_granted (Bound 2)
unfolding loaded initialise
binds_fp = may_bind fp_granted 2 1 refl refl refl refl refl

closes_libp : AllowedIn setting [] fp_bound (Close 0 2 (closes.Done []))
unfolding loaded initialise lower edges roots breadth
closes_libp = may_close fp_bound 2 0 1 refl refl refl refl refl refl

finds_fp : AllowedIn setting [] libp_closed (Sym 0 (record { ns = 0; handle = 0; name = codes "fp"; version = None }) (syms.Found 2 2 0x24030))
unfolding loaded initialise lower die search in_global breadth pick_at address guest_address
finds_fp = (refl, record { short = record { name = refl; version = refl }; found = refl; is = refl })

is_closed : AllowedIn setting [] libp_closed (Sym 0 (record { ns = 0; handle = 2; name = codes "fp"; version = None }) (syms.Refused (BadHandle 2)))
unfolding loaded initialise lower die
is_closed = (refl, of_bad_handle (record { name = refl; version = refl }) refl refl)

closes_libq : AllowedIn setting [] refused (Close 0 3 (closes.Done (2 ∷ 3 ∷ [])))
unfolding loaded initialise lower die edges roots breadth
closes_libq = may_close refused 3 0 1 refl refl refl refl refl refl

finishes_libq : ByClosing both_closed 0 3
unfolding loaded initialise lower die
finishes_libq = may_finish both_closed 0 3 0 refl refl refl

finishes_libp : ByClosing libq_done 0 2
unfolding loaded initialise lower die
finishes_libp = may_finish libq_done 0 2 0 refl refl refl

unmaps : AllowedIn setting [] libp_done (Unmapped 0 (2 ∷ 3 ∷ []))
unfolding loaded initialise lower die
unmaps = may_unmap libp_done 0 0 2 (3 ∷ []) refl refl refl refl refl

closes_no_more : AllowedIn setting [] both_gone (Close 0 3 (closes.Refused (BadHandle 3)))
unfolding loaded initialise lower die unmap
closes_no_more = bad_handle both_gone 3 refl

finishes_prog : AtTheEnd setting (take 20 cycle) ended 0 1
unfolding loaded initialise lower die unmap after_from
finishes_prog = at_the_end setting (take 20 cycle) ended 1 refl refl refl (mapped_at ended _ _ 0 0 refl refl) refl refl

pub cycle_legal : Legal setting cycle
unfolding loaded initialise lower die unmap
cycle_legal = legal_by setting cycle
    (may_start, (inits_prog, (may_open_libp, (inits_libp, (may_open_libq, (inits_libq, (grants_fq, (binds_fq, (grants_fp, (binds_fp, (closes_libp, (finds_fp, (is_closed, (closes_libq, (inl finishes_libq, (inl finishes_libp, (unmaps, (closes_no_more, (refl, (inl refl, (inr finishes_prog, tt)))))))))))))))))))))

pub cycle_whole : Whole setting cycle
unfolding loaded initialise lower die unmap after_from
cycle_whole = whole_by setting cycle (tt, (tt, tt)) refl

-- ---- neighbours

pub held_by_grants : Legal setting dies_early → ⊥
unfolding Legal loaded initialise after_from lower edges roots breadth
held_by_grants legal = some_in 2 [] (only_dying fp_bound 2 _ refl refl (at_close (legal 10 (Close 0 2 (closes.Done (2 ∷ []))) refl)))
  where
    at_close : Allowed setting (take 10 dies_early) (Close 0 2 (closes.Done (2 ∷ []))) → Closes fp_bound 2 (2 ∷ [])
    at_close h = h

pub nothing_holds : Legal setting never_dies → ⊥
unfolding Legal loaded initialise after_from lower die edges roots breadth
nothing_holds legal = some_in 2 (3 ∷ []) (sym (only_dying libp_closed 3 _ refl refl (at_close (legal 11 (Close 0 3 (closes.Done [])) refl))))
  where
    at_close : Allowed setting (take 11 never_dies) (Close 0 3 (closes.Done [])) → Closes libp_closed 3 []
    at_close h = h

pub not_finished : Legal setting unmapped_early → ⊥
unfolding Legal loaded initialise after_from lower die
not_finished legal = some_in 3 (2 ∷ []) (at_unmapping (legal 14 (Unmapped 0 (2 ∷ 3 ∷ [])) refl)).done
  where
    at_unmapping : Allowed setting (take 14 unmapped_early) (Unmapped 0 (2 ∷ 3 ∷ [])) → MayUnmap both_closed 0 (2 ∷ 3 ∷ [])
    at_unmapping h = h
