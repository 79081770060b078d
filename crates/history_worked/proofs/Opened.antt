-- What openings and closings come to, event by event.
use Rattle.std.proofs.Common.{◌≡◌, inl, ℕ, false, List, [], ◌∷◌, ◌++◌, map, take, Some, None, refl, sym, ap, subst, arith}
use Rattle.std.specs.Prelude.{codes, IsTrue}
use Rattle.std.proofs.lemmas.Bool.{true≢false}
use Rattle.ld_base.specs.declared.fault.DlFault.TheVariants.{AddressSpaceFull, ClosingHere, MissingVersion}
use Rattle.ld_base.specs.declared.linking.File.{File}
use Rattle.ld_base.specs.declared.linking.Loaded.{Loaded}
use Rattle.history_event.specs.declared.event.CloseAnswer.TheVariants as closes
use Rattle.history_event.specs.declared.event.Event.{Event}
use Rattle.history_event.specs.declared.event.Event.TheVariants.{Open, Close, Unmapped, Init, Fini}
use Rattle.history_event.specs.declared.event.OpenAnswer.{OpenAnswer}
use Rattle.history_event.specs.declared.event.OpenAnswer.TheVariants.{Absent, Done, Refused}
use Rattle.history_event.specs.declared.event.OpenAsk.{OpenAsk}
use Rattle.scope_rule.specs.Breadth.{breadth}
use Rattle.scope_rule.specs.Load.{find_opened, find_path, finds, step as load_step}
use Rattle.seg_image.specs.Pages.{align_of, high_of, low_of, own_address, pages_of}
use Rattle.history_calls.specs.Answer.{Answer, loading, refused, returns}
use Rattle.history_calls.specs.Call.{opens as asks_open}
use Rattle.history_calls.specs.Gives.{Gives}
use Rattle.history_calls.specs.Gives.EventAnswers.{is_absent, is_loaded, is_not_opened, is_there}
use Rattle.history_calls.specs.Gives.Gives.{by_event}
use Rattle.history_calls.specs.Laws.{OneOpening, is_chance}
use Rattle.history_calls.specs.Lemmas.Readings.{reading_told, told_reads}
use Rattle.history_state.specs.State.{State, empty_state}
use Rattle.history_state.specs.After.{after, after_from}
use Rattle.history_state.specs.Allowed.{Allowed, AllowedIn, ByClosing, Closes}
use Rattle.history_state.specs.Asking.{IsFreeNumber}
use Rattle.history_state.specs.Late as late
use Rattle.history_state.specs.Legal.{Legal}
use Rattle.history_state.specs.Links.{edges, roots}
use Rattle.history_state.specs.Namespaces as apart
use Rattle.history_state.specs.Objects.{has_namespace}
use Rattle.history_state.specs.Opening.Refuses.{lacks_version as lacking_version, stopped}
use Rattle.history_state.specs.Parts.{file_of}
use Rattle.history_state.specs.Relocating.{relocation_fault}
use Rattle.history_state.specs.Setting.{Setting}
use Rattle.history_state.specs.Step.{die, initialise, loaded, lower, step, unmap}
use Rattle.history_state.specs.Lemmas.History.{legal_push, legal_take}
use Rattle.history_state.specs.Lemmas.Lately.{late_legal}
use Rattle.history_state.specs.Lemmas.Played.{legal_by, loads, may_close, may_finish, may_initialise, may_unmap, only_dying, some_in}
use Rattle.history_worked.specs.Opening as opening
use Rattle.history_worked.specs.Opening.{alone, closed, closing, closing_opened, closing_refused, found_in_second, in_another, in_new, lacks_room}
use Rattle.history_worked.specs.Opening.{lacks_version, libk, libm, libp}
use Rattle.history_worked.specs.Opening.{named_by_first, new_closed, object_dies, object_stays, opened, opened_again, opened_elsewhere, opening_dies}
use Rattle.history_worked.specs.Opening.{opening_stays, opens, other_dies, setting, startup}

-- ---- one answer

abbrev answer_of : OpenAnswer → Answer
answer_of (Done id root [] ranges) = returns root
answer_of (Done id root (first ∷ rest) ranges) = loading root (first ∷ rest)
answer_of Absent = returns 0
answer_of (Refused fault) = refused fault

gives : (w : Setting) (past : List Event) (h : ℕ) (ask : OpenAsk) (answer : OpenAnswer) → Allowed w past (Open h ask answer)
    → Gives w past h (asks_open ask) (Open h ask answer ∷ []) (answer_of answer)
gives w past h ask (Done id root [] ranges) may = by_event (asks_open ask) _ _ (is_there ask id root ranges) may
gives w past h ask (Done id root (first ∷ rest) ranges) may = by_event (asks_open ask) _ _ (is_loaded ask id root first rest ranges) may
gives w past h ask Absent may = by_event (asks_open ask) _ _ (is_absent ask) may
gives w past h ask (Refused fault) may = by_event (asks_open ask) _ _ (is_not_opened ask fault) may

-- what may come, when another answer may, is that one
pub one_way : OneOpening → (w : Setting) (past : List Event) (h : ℕ) (ask : OpenAsk) (files : List File) (one other : OpenAnswer) → w.files ≡ Some files
    → Allowed w past (Open h ask one) → Allowed w past (Open h ask other) → is_chance (answer_of one) ≡ false → is_chance (answer_of other) ≡ false
    → one ≡ other
one_way law w past h ask files one other told first second ample well =
    let same : Open h ask one ∷ [] ≡ Open h ask other ∷ [] =
    (law w past h ask files _ _ _ _ told (gives w past h ask one first) (gives w past h ask other second) ample well).0 in
    cc

abbrev id_of : OpenAnswer → ℕ
id_of (Done id root added ranges) = id
id_of Absent = 0
id_of (Refused fault) = 0

-- ---- startup

abbrev files : List File
files = map file_of opening.files

abbrev started : State
started = step empty_state startup

may_start : AllowedIn setting [] empty_state startup
unfolding relocation_fault loaded initialise lower die unmap load_step finds find_path find_opened pages_of low_of high_of align_of own_address
may_start = record {
  may = λ first. record { by_first = refl; base = refl; named = tt; flags = inl refl };
  asked = record { short = refl; flags = refl; namespace = (refl, refl) };
  name = loads setting files empty_state 0 _ (codes "prog") 0 1 _ _ (1 ∷ []) 0 (record {
    told = refl;
    reads = refl;
    walked = refl;
    all = refl;
    root_is = refl;
    are = refl;
    versions = refl;
    modules = (tt, tt);
    row = refl;
    stand = (refl, refl, refl, refl, refl, (refl, refl, refl, refl, refl, tt));
    based = (refl, tt);
    relocated = refl;
  });
}

started_legal : Legal setting (startup ∷ [])
started_legal = legal_by setting (startup ∷ []) (may_start, tt)

inits_prog : AllowedIn setting [] started (Init 0 1)
unfolding loaded
inits_prog = may_initialise started 0 1 0 [] [] refl refl refl refl refl

abbrev ready : State
ready = step started (Init 0 1)

-- ---- NODELETE

abbrev libk_opened : State
libk_opened = step ready (opens (codes "libk.so") 1 (alone libk))

may_open_libk : AllowedIn setting [] ready (opens (codes "libk.so") 1 (alone libk))
unfolding relocation_fault loaded initialise lower die unmap load_step finds find_path find_opened pages_of low_of high_of align_of own_address
may_open_libk = record {
  may = λ first. absurd (true≢false (sym first));
  asked = record { short = refl; flags = refl; namespace = (refl, refl) };
  name = loads setting files ready 0 _ (codes "libk.so") 0 2 _ _ (2 ∷ []) 19 (record {
    told = refl;
    reads = refl;
    walked = refl;
    all = refl;
    root_is = refl;
    are = refl;
    versions = refl;
    modules = (tt, tt);
    row = (refl, (refl, refl));
    stand = (refl, refl, refl, refl, refl, tt);
    based = (refl, tt);
    relocated = refl;
  });
}

inits_libk : AllowedIn setting [] libk_opened (Init 0 2)
unfolding loaded initialise
inits_libk = may_initialise libk_opened 0 2 1 [] [] refl refl refl refl refl

libk_legal : Legal setting (opened libk (codes "libk.so") 1)
unfolding loaded initialise
libk_legal = legal_by setting (opened libk (codes "libk.so") 1) (may_start, (inits_prog, (may_open_libk, (inits_libk, tt))))

abbrev libk_ready : State
libk_ready = step libk_opened (Init 0 2)

abbrev libp_kept_opened : State
libp_kept_opened = step ready (opens (codes "libp.so") 0x1001 (alone libp))

may_open_libp_kept : AllowedIn setting [] ready (opens (codes "libp.so") 0x1001 (alone libp))
unfolding relocation_fault loaded initialise lower die unmap load_step finds find_path find_opened pages_of low_of high_of align_of own_address
may_open_libp_kept = record {
  may = λ first. absurd (true≢false (sym first));
  asked = record { short = refl; flags = refl; namespace = (refl, refl) };
  name = loads setting files ready 0 _ (codes "libp.so") 0 2 _ _ (2 ∷ []) 19 (record {
    told = refl;
    reads = refl;
    walked = refl;
    all = refl;
    root_is = refl;
    are = refl;
    versions = refl;
    modules = (tt, tt);
    row = (refl, (refl, refl));
    stand = (refl, refl, refl, refl, refl, tt);
    based = (refl, tt);
    relocated = refl;
  });
}

inits_libp_kept : AllowedIn setting [] libp_kept_opened (Init 0 2)
unfolding loaded initialise
inits_libp_kept = may_initialise libp_kept_opened 0 2 1 [] [] refl refl refl refl refl

libp_kept_legal : Legal setting (opened libp (codes "libp.so") 0x1001)
unfolding loaded initialise
libp_kept_legal = legal_by setting (opened libp (codes "libp.so") 0x1001) (may_start, (inits_prog, (may_open_libp_kept, (inits_libp_kept, tt))))

abbrev libp_kept_ready : State
libp_kept_ready = step libp_kept_opened (Init 0 2)

abbrev libp_opened : State
libp_opened = step ready (opens (codes "libp.so") 1 (alone libp))

may_open_libp : AllowedIn setting [] ready (opens (codes "libp.so") 1 (alone libp))
unfolding relocation_fault loaded initialise lower die unmap load_step finds find_path find_opened pages_of low_of high_of align_of own_address
may_open_libp = record {
  may = λ first. absurd (true≢false (sym first));
  asked = record { short = refl; flags = refl; namespace = (refl, refl) };
  name = loads setting files ready 0 _ (codes "libp.so") 0 2 _ _ (2 ∷ []) 19 (record {
    told = refl;
    reads = refl;
    walked = refl;
    all = refl;
    root_is = refl;
    are = refl;
    versions = refl;
    modules = (tt, tt);
    row = (refl, (refl, refl));
    stand = (refl, refl, refl, refl, refl, tt);
    based = (refl, tt);
    relocated = refl;
  });
}

inits_libp : AllowedIn setting [] libp_opened (Init 0 2)
unfolding loaded initialise
inits_libp = may_initialise libp_opened 0 2 1 [] [] refl refl refl refl refl

libp_legal : Legal setting (opened libp (codes "libp.so") 1)
unfolding loaded initialise
libp_legal = legal_by setting (opened libp (codes "libp.so") 1) (may_start, (inits_prog, (may_open_libp, (inits_libp, tt))))

abbrev libp_ready : State
libp_ready = step libp_opened (Init 0 2)

keeps_libk : Closes libk_ready 2 []
unfolding loaded initialise lower edges roots breadth after_from
keeps_libk = may_close libk_ready 2 0 1 refl refl refl refl refl refl

pub object_stays_legal : Legal setting object_stays
unfolding after_from
object_stays_legal = legal_push setting (opened libk (codes "libk.so") 1) (closed []) libk_legal keeps_libk

pub not_object_dies : Legal setting object_dies → ⊥
unfolding Legal loaded initialise after_from lower edges roots breadth
not_object_dies legal = some_in 2 [] (only_dying libk_ready 2 _ refl refl (at (legal 4 (closed (2 ∷ [])) refl)))
  where
    at : Allowed setting (take 4 object_dies) (closed (2 ∷ [])) → Closes libk_ready 2 (2 ∷ [])
    at h = h

keeps_libp_kept : Closes libp_kept_ready 2 []
unfolding loaded initialise lower edges roots breadth after_from
keeps_libp_kept = may_close libp_kept_ready 2 0 1 refl refl refl refl refl refl

pub opening_stays_legal : Legal setting opening_stays
unfolding after_from
opening_stays_legal = legal_push setting (opened libp (codes "libp.so") 0x1001) (closed []) libp_kept_legal keeps_libp_kept

pub not_opening_dies : Legal setting opening_dies → ⊥
unfolding Legal loaded initialise after_from lower edges roots breadth
not_opening_dies legal = some_in 2 [] (only_dying libp_kept_ready 2 _ refl refl (at (legal 4 (closed (2 ∷ [])) refl)))
  where
    at : Allowed setting (take 4 opening_dies) (closed (2 ∷ [])) → Closes libp_kept_ready 2 (2 ∷ [])
    at h = h

kills_libp : Closes libp_ready 2 (2 ∷ [])
unfolding loaded initialise lower edges roots breadth after_from
kills_libp = may_close libp_ready 2 0 1 refl refl refl refl refl refl

pub other_dies_legal : Legal setting other_dies
unfolding after_from
other_dies_legal = legal_push setting (opened libp (codes "libp.so") 1) (closed (2 ∷ [])) libp_legal kills_libp

-- ---- the second candidate

may_open_libm : AllowedIn setting [] started (opens (codes "libm.so") 1 (alone libm))
unfolding relocation_fault loaded initialise lower die unmap load_step finds find_path find_opened pages_of low_of high_of align_of own_address
may_open_libm = record {
  may = λ first. absurd (true≢false (sym first));
  asked = record { short = refl; flags = refl; namespace = (refl, refl) };
  name = loads setting files started 0 _ (codes "libm.so") 0 2 _ _ (2 ∷ []) 19 (record {
    told = refl;
    reads = refl;
    walked = refl;
    all = refl;
    root_is = refl;
    are = refl;
    versions = refl;
    modules = (tt, tt);
    row = (refl, (refl, refl));
    stand = (refl, refl, refl, refl, refl, tt);
    based = (refl, tt);
    relocated = refl;
  });
}

pub second_legal : Legal setting found_in_second
unfolding after_from
second_legal = legal_push setting (startup ∷ []) (opens (codes "libm.so") 1 (alone libm)) started_legal may_open_libm

abbrev path_in : List Loaded → List ℕ
path_in [] = []
path_in (o ∷ rest) = o.path

abbrev path_of : OpenAnswer → List ℕ
path_of (Done id root added ranges) = path_in added
path_of Absent = []
path_of (Refused fault) = []

abbrev libm_asked : OpenAsk
libm_asked = record { ns = Some 0; name = Some (codes "libm.so"); flags = 1 }

two_paths : codes "more/libm.so" ≡ codes "lib/libm.so" → ⊥
two_paths e = cc

pub not_first_candidate : OneOpening → Legal setting named_by_first → ⊥
unfolding Legal after_from
not_first_candidate law legal =
    two_paths (ap path_of (one_way law setting (startup ∷ []) 0 libm_asked files (alone libm) (alone (record libm {
      path =
          codes "lib/libm.so";
    })) refl may_open_libm (legal 1 (opens (codes "libm.so") 1 (alone (record libm { path = codes "lib/libm.so" }))) refl) refl refl))

-- ---- versions come before room

abbrev libq_asked : OpenAsk
libq_asked = record { ns = Some 0; name = Some (codes "libq.so"); flags = 1 }

refuses_version : AllowedIn setting [] started (Open 0 libq_asked (Refused (MissingVersion (codes "lib/libq.so") (codes "libv.so") (codes "V2"))))
unfolding loaded load_step finds find_path find_opened
refuses_version = record {
  may = λ first. absurd (true≢false (sym first));
  refuses = lacking_version (codes "libq.so") 0 (MissingVersion (codes "lib/libq.so") (codes "libv.so") (codes "V2")) (record {
    named = record { asked = record { short = refl; flags = refl; namespace = (refl, refl) }; named = refl };
    root = 2;
    news = _;
    finds = record {
      reading = reading_told setting files started libq_asked (codes "libq.so");
      read = told_reads setting files started libq_asked (codes "libq.so") refl;
      walk = _;
      brings = record { steps = 2; are = refl; all = omega arith };
      root_is = refl;
      are = refl;
    };
    lacks = refl;
  });
}

pub version_legal : Legal setting lacks_version
unfolding after_from
version_legal = legal_push setting (startup ∷ []) _ started_legal refuses_version

version_not_room : Refused (MissingVersion (codes "lib/libq.so") (codes "libv.so") (codes "V2")) ≡ Refused (AddressSpaceFull 0x900) → ⊥
version_not_room e = cc

pub not_room : OneOpening → Legal setting lacks_room → ⊥
unfolding Legal after_from
not_room law legal =
    version_not_room (one_way law setting (startup ∷ []) 0 libq_asked files _ _ refl refuses_version (legal 1 (opens (codes "libq.so") 1 (Refused
    (AddressSpaceFull 0x900))) refl) refl refl)

-- ---- what closes

abbrev late_files : List File
late_files = map file_of (late.prog ∷ late.libt ∷ [])

abbrev closing_state : State
closing_state = after closing

abbrev libt_asked : OpenAsk
libt_asked = record { ns = Some 0; name = Some (codes "libt.so"); flags = 1 }

refuses_closing : AllowedIn late.setting [] closing_state (Open 0 libt_asked (Refused (ClosingHere (codes "lib/libt.so"))))
unfolding after_from loaded initialise lower die load_step finds find_path find_opened
refuses_closing = record {
  may = λ first. absurd (true≢false (sym first));
  refuses = stopped (codes "libt.so") 0 (ClosingHere (codes "lib/libt.so")) (record {
    named = record { asked = record { short = refl; flags = refl; namespace = (refl, refl) }; named = refl };
    reading = reading_told late.setting late_files closing_state libt_asked (codes "libt.so");
    read = told_reads late.setting late_files closing_state libt_asked (codes "libt.so") refl;
    loads = λ none. true≢false (sym none.noload);
    stops = record { steps = 1; is = refl };
  });
}

closing_legal : Legal late.setting closing
closing_legal = legal_take late.setting late.late 9 late_legal

pub closing_refused_legal : Legal late.setting closing_refused
closing_refused_legal = legal_push late.setting closing _ closing_legal refuses_closing

refused_not_done : Refused (ClosingHere (codes "lib/libt.so")) ≡ Done 0 2 [] [] → ⊥
refused_not_done e = cc

pub not_opened : OneOpening → Legal late.setting closing_opened → ⊥
unfolding Legal after_from
not_opened law legal =
    refused_not_done (one_way law late.setting closing 0 libt_asked late_files _ _ refl refuses_closing (legal 9 (opens (codes "libt.so") 1
    (Done 0 2 [] [])) refl) refl refl)

-- ---- the numbers of namespaces

abbrev apart_files : List File
apart_files = map file_of (apart.prog ∷ apart.libn ∷ [])

one_not_two : (a b : ℕ) → a ≡ 1 → b ≡ 2 → a ≡ b → ⊥
one_not_two a b one two e = omega (arith, one, two, e)

pub not_in_another : OneOpening → Legal apart.setting apart.namespaces → Legal apart.setting in_another → ⊥
unfolding Legal
not_in_another law legal wrong =
    one_not_two 1 2 refl refl (ap id_of (one_way law apart.setting (take 4 apart.namespaces) 0 (apart.libn_in None) apart_files (Done 1 3 _ _)
    (Done 2 3 _ _) refl
    (legal 4 apart.opens_in_new refl) (wrong 4 (in_new 2 3) refl) refl refl))

abbrev new_ready : State
new_ready = after apart.before

abbrev new_dying : State
new_dying = step new_ready (Close 0 3 (closes.Done (3 ∷ [])))

abbrev new_finished : State
new_finished = step new_dying (Fini 0 3)

abbrev new_gone : State
new_gone = step new_finished (Unmapped 0 (3 ∷ []))

closes_new : Closes new_ready 3 (3 ∷ [])
unfolding loaded initialise lower edges roots breadth after_from
closes_new = may_close new_ready 3 1 0 refl refl refl refl refl refl

finishes_new : ByClosing new_dying 0 3
unfolding loaded initialise lower die after_from
finishes_new = may_finish new_dying 0 3 0 refl refl refl

unmaps_new : AllowedIn apart.setting [] new_finished (Unmapped 0 (3 ∷ []))
unfolding loaded initialise lower die after_from
unmaps_new = may_unmap new_finished 0 0 3 [] refl refl refl refl refl

next_number : IsFreeNumber new_gone 1
unfolding loaded initialise lower die unmap after_from
next_number = record {
  free = refl;
  below = omega arith;
  least = λ other lt. let zero_is : 0 ≡ other = omega (arith, lt) in subst (λ (n : ℕ). IsTrue (has_namespace new_gone n)) zero_is refl;
}

may_open_again : AllowedIn apart.setting [] new_gone (in_new 1 4)
unfolding after_from relocation_fault loaded initialise lower die unmap load_step finds find_path find_opened pages_of low_of high_of align_of own_address
may_open_again = record {
  may = λ first. absurd (true≢false (sym first));
  asked = record { short = refl; flags = refl; namespace = next_number };
  name = loads apart.setting apart_files new_gone 0 _ (codes "libn.so") 1 4 _ _ (4 ∷ []) 23 (record {
    told = refl;
    reads = refl;
    walked = refl;
    all = refl;
    root_is = refl;
    are = refl;
    versions = refl;
    modules = (tt, tt);
    row = (refl, (refl, (refl, refl)));
    stand = (refl, refl, refl, refl, refl, tt);
    based = (refl, tt);
    relocated = refl;
  });
}

before_legal : Legal apart.setting apart.namespaces → Legal apart.setting apart.before
before_legal legal = legal_take apart.setting apart.namespaces 6 legal

closed_legal : Legal apart.setting apart.namespaces → Legal apart.setting new_closed
unfolding after_from
closed_legal legal =
    legal_push apart.setting (apart.before ++ Close 0 3 (closes.Done (3 ∷ [])) ∷ Fini 0 3 ∷ []) (Unmapped 0 (3 ∷ []))
    (legal_push apart.setting (apart.before ++ Close 0 3 (closes.Done (3 ∷ [])) ∷ []) (Fini 0 3)
    (legal_push apart.setting apart.before (Close 0 3 (closes.Done (3 ∷ []))) (before_legal legal) closes_new)
    (inl finishes_new))
    unmaps_new

pub again_legal : Legal apart.setting apart.namespaces → Legal apart.setting opened_again
unfolding after_from
again_legal legal = legal_push apart.setting new_closed (in_new 1 4) (closed_legal legal) may_open_again

pub not_elsewhere : OneOpening → Legal apart.setting opened_elsewhere → ⊥
unfolding Legal after_from
not_elsewhere law wrong =
    one_not_two 1 2 refl refl (ap id_of (one_way law apart.setting new_closed 0 (apart.libn_in None) apart_files (Done 1 4 _ _)
    (Done 2 4 _ _) refl may_open_again
    (wrong 9 (in_new 2 4) refl) refl refl))
