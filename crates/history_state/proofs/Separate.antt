-- One library in two namespaces, event by event.
use Rattle.std.proofs.Common.{take, ◌≡◌, ℕ, inl, inr, List, [], ◌∷◌, map, Some, refl, sym, subst, arith}
use Rattle.std.specs.Prelude.{IsTrue, codes}
use Rattle.std.proofs.lemmas.Bool.{true≢false}
use Rattle.ld_base.specs.declared.fault.DlFault.TheVariants.{BadNamespace}
use Rattle.ld_base.specs.declared.linking.File.{File}
use Rattle.history_event.specs.declared.event.Event.TheVariants.{Open, Sym, Init, Fini, Told, Ended}
use Rattle.history_event.specs.declared.event.OpenAnswer.TheVariants as opens
use Rattle.history_event.specs.declared.event.SymAnswer.TheVariants.{Found}
use Rattle.history_event.specs.declared.hart_end.HartEnd.TheVariants.{Exit}
use Rattle.scope_rule.specs.Breadth.{breadth}
use Rattle.scope_rule.specs.Choose.{pick_at}
use Rattle.scope_rule.specs.Load.{find_opened, find_path, finds, step as load_step}
use Rattle.scope_rule.specs.Searching.{in_breadth}
use Rattle.seg_image.specs.Pages.{align_of, guest_address, high_of, low_of, own_address, pages_of}
use Rattle.history_state.specs.State.{State, empty_state}
use Rattle.history_state.specs.Objects.{has_namespace}
use Rattle.history_state.specs.Asking.{IsFreeNumber}
use Rattle.history_state.specs.Addresses.{address}
use Rattle.history_state.specs.After.{after_from}
use Rattle.history_state.specs.Allowed.{Allowed, AllowedIn, AtTheEnd}
use Rattle.history_state.specs.Legal.{Legal, Whole}
use Rattle.history_state.specs.Lookup.{MayAnswer, search}
use Rattle.history_state.specs.Opening.Refuses.{bad_namespace}
use Rattle.history_state.specs.Parts.{file_of}
use Rattle.history_state.specs.Namespaces.{d_of, libn, libn_in, namespaces, opens_in_base, opens_in_new, other_namespace, prog, setting, startup}
use Rattle.history_state.specs.Relocating.{relocation_fault}
use Rattle.history_state.specs.Step.{initialise, loaded, step}
use Rattle.history_state.specs.Lemmas.Played.{another_is_found, at_the_end, legal_by, loads, mapped_at, may_initialise, whole_by}

abbrev files : List File
files = map file_of (prog ∷ libn ∷ [])

-- ---- the states

abbrev started : State
started = step empty_state startup

abbrev prog_ready : State
prog_ready = step started (Init 0 1)

abbrev base_opened : State
base_opened = step prog_ready opens_in_base

abbrev base_ready : State
base_ready = step base_opened (Init 0 2)

abbrev new_opened : State
new_opened = step base_ready opens_in_new

abbrev new_ready : State
new_ready = step new_opened (Init 0 3)

abbrev refused : State
refused = step new_ready (Open 0 (libn_in (Some 0x63)) (opens.Refused (BadNamespace 0x63)))

abbrev told : State
told = step refused (Told 0 (Some (BadNamespace 0x63)))

abbrev ended : State
ended = step told (Ended 0 (Exit 0))

abbrev new_done : State
new_done = step ended (Fini 0 3)

abbrev base_done : State
base_done = step new_done (Fini 0 2)

-- ---- the events

may_start : AllowedIn setting [] empty_state startup
unfolding relocation_fault loaded initialise load_step finds find_path find_opened pages_of low_of high_of align_of own_address
may_start = record {
  may = λ first. record { by_first = refl; base = refl; named = tt; flags = inl refl };
  asked = record { short = refl; flags = refl; namespace = (refl, refl) };
  name = loads setting files empty_state 0 _ (codes "prog") 0 1 _ _ (1 ∷ []) 0 (record {
    told = refl;
    reads = refl;
    walked = refl;
    all = refl;
    root_is = refl;
    are = refl;
    versions = refl;
    modules = (tt, tt);
    row = refl;
    stand = (refl, refl, refl, refl, refl, (refl, refl, refl, refl, refl, tt));
    based = (refl, tt);
    relocated = refl;
  });
}

inits_prog : AllowedIn setting [] started (Init 0 1)
unfolding loaded
inits_prog = may_initialise started 0 1 0 [] [] refl refl refl refl refl

may_open_in_base : AllowedIn setting [] prog_ready opens_in_base
unfolding relocation_fault loaded initialise load_step finds find_path find_opened pages_of low_of high_of align_of own_address
may_open_in_base = record {
  may = λ first. absurd (true≢false (sym first));
  asked = record { short = refl; flags = refl; namespace = (refl, refl) };
  name = loads setting files prog_ready 0 _ (codes "libn.so") 0 2 _ _ (2 ∷ []) 20 (record {
    told = refl;
    reads = refl;
    walked = refl;
    all = refl;
    root_is = refl;
    are = refl;
    versions = refl;
    modules = (tt, tt);
    row = (refl, (refl, refl));
    stand = (refl, refl, refl, refl, refl, tt);
    based = (refl, tt);
    relocated = refl;
  });
}

inits_in_base : AllowedIn setting [] base_opened (Init 0 2)
unfolding loaded initialise
inits_in_base = may_initialise base_opened 0 2 1 [] [] refl refl refl refl refl

-- the base is there, and nothing else
next_number : IsFreeNumber base_ready 1
unfolding loaded initialise
next_number = record {
  free = refl;
  below = omega arith;
  least = λ other lt. let zero_is : 0 ≡ other = omega (arith, lt) in subst (λ (n : ℕ). IsTrue (has_namespace base_ready n)) zero_is refl;
}

may_open_in_new : AllowedIn setting [] base_ready opens_in_new
unfolding relocation_fault loaded initialise load_step finds find_path find_opened pages_of low_of high_of align_of own_address
may_open_in_new = record {
  may = λ first. absurd (true≢false (sym first));
  asked = record { short = refl; flags = refl; namespace = next_number };
  name = loads setting files base_ready 0 _ (codes "libn.so") 1 3 _ _ (3 ∷ []) 23 (record {
    told = refl;
    reads = refl;
    walked = refl;
    all = refl;
    root_is = refl;
    are = refl;
    versions = refl;
    modules = (tt, tt);
    row = (refl, (refl, (refl, refl)));
    stand = (refl, refl, refl, refl, refl, tt);
    based = (refl, tt);
    relocated = refl;
  });
}

inits_in_new : AllowedIn setting [] new_opened (Init 0 3)
unfolding loaded initialise
inits_in_new = may_initialise new_opened 0 3 2 [] [] refl refl refl refl refl

finds_in_base : AllowedIn setting [] new_ready (Sym 0 (d_of 2) (Found 2 1 0x26000))
unfolding loaded initialise search in_breadth breadth pick_at address guest_address
finds_in_base = (refl, record { short = record { name = refl; version = refl }; found = refl; is = refl })

finds_in_new : AllowedIn setting [] new_ready (Sym 0 (d_of 3) (Found 3 1 0x29000))
unfolding loaded initialise search in_breadth breadth pick_at address guest_address
finds_in_new = (refl, record { short = record { name = refl; version = refl }; found = refl; is = refl })

refuses : AllowedIn setting [] new_ready (Open 0 (libn_in (Some 0x63)) (opens.Refused (BadNamespace 0x63)))
unfolding loaded initialise
refuses = record { may = λ first. absurd (true≢false (sym first)); refuses = bad_namespace 0x63 refl refl (refl, refl) }

finishes_in_new : AtTheEnd setting (take 11 namespaces) ended 0 3
unfolding loaded initialise after_from
finishes_in_new = at_the_end setting (take 11 namespaces) ended 3 refl refl refl (mapped_at ended _ _ 1 0 refl refl) refl refl

finishes_in_base : AtTheEnd setting (take 12 namespaces) new_done 0 2
unfolding loaded initialise after_from
finishes_in_base = at_the_end setting (take 12 namespaces) new_done 2 refl refl refl (mapped_at new_done _ _ 0 1 refl refl) refl refl

finishes_prog : AtTheEnd setting (take 13 namespaces) base_done 0 1
unfolding loaded initialise after_from
finishes_prog = at_the_end setting (take 13 namespaces) base_done 1 refl refl refl (mapped_at base_done _ _ 0 0 refl refl) refl refl

pub namespaces_legal : Legal setting namespaces
unfolding loaded initialise
namespaces_legal = legal_by setting namespaces
    (may_start, (inits_prog, (may_open_in_base, (inits_in_base, (may_open_in_new, (inits_in_new, (finds_in_base, (finds_in_new, (refuses, (refl, (inl refl, (inr finishes_in_new, (inr finishes_in_base, (inr finishes_prog, tt))))))))))))))

pub namespaces_whole : Whole setting namespaces
unfolding loaded initialise after_from
namespaces_whole = whole_by setting namespaces tt refl

-- ---- a neighbour

pub not_the_others : Legal setting other_namespace → ⊥
unfolding Legal loaded initialise after_from search in_breadth breadth pick_at
not_the_others legal = another_is_found new_ready (d_of 2) 2 1 refl refl (at_look_up (legal 6 (Sym 0 (d_of 2) (Found 3 1 0x29000)) refl)).1
  where
    at_look_up : Allowed setting (take 6 other_namespace) (Sym 0 (d_of 2) (Found 3 1 0x29000)) → MayAnswer new_ready 0 (d_of 2) (Found 3 1 0x29000)
    at_look_up h = h
