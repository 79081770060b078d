-- A late library with thread-local storage, event by event.
use Rattle.std.proofs.Common.{take, ◌≡◌, ℕ, inl, List, [], ◌∷◌, map, Some, refl, sym, ap, ◌∙◌, arith}
use Rattle.std.specs.Prelude.{◌+◌, ◌%◌, ◌^◌, codes, unwrap_or}
use Rattle.std.proofs.lemmas.Bool.{true≢false}
use Rattle.ld_base.specs.declared.linking.File.{File}
use Rattle.history_event.specs.declared.event.CloseAnswer.TheVariants as closes
use Rattle.history_event.specs.declared.event.Event.TheVariants.{Close, Unmapped, Sym, Tls, Init, Fini}
use Rattle.history_event.specs.declared.event.SymAnswer.TheVariants.{Found}
use Rattle.scope_rule.specs.Breadth.{breadth}
use Rattle.scope_rule.specs.Choose.{pick_at}
use Rattle.scope_rule.specs.Load.{find_opened, find_path, finds, step as load_step}
use Rattle.scope_rule.specs.Searching.{in_breadth}
use Rattle.seg_image.specs.Pages.{align_of, high_of, low_of, own_address, pages_of}
use Rattle.history_state.specs.State.{State, empty_state}
use Rattle.history_state.specs.After.{after_from}
use Rattle.history_state.specs.Allowed.{Allowed, AllowedIn, ByClosing}
use Rattle.history_state.specs.Lookup.{MayAnswer, search}
use Rattle.history_state.specs.Storage.{tls_block, tp_of}
use Rattle.tls_blocks.specs.Numbers.{IsLeastFree}
use Rattle.history_state.specs.Legal.{Legal}
use Rattle.history_state.specs.Parts.{file_of}
use Rattle.history_state.specs.Late.{late, libt, opens_libt, other_block, prog, setting, startup, v_of}
use Rattle.history_state.specs.Relocating.{relocation_fault}
use Rattle.history_state.specs.Step.{die, initialise, loaded, lower, step, unmap}
use Rattle.history_state.specs.Links.{edges, roots}
use Rattle.history_state.specs.Lemmas.Lists.{none_in}
use Rattle.history_state.specs.Lemmas.Played.{legal_by, loads, may_block, may_close, may_finish, may_initialise, may_unmap}

abbrev files : List File
files = map file_of (prog ∷ libt ∷ [])

-- ---- the states

abbrev started : State
started = step empty_state startup

abbrev prog_ready : State
prog_ready = step started (Init 0 1)

abbrev libt_opened : State
libt_opened = step prog_ready (opens_libt 2)

abbrev libt_ready : State
libt_ready = step libt_opened (Init 0 2)

abbrev one_block : State
one_block = step libt_ready (Tls 0 2 0x36000)

abbrev two_blocks : State
two_blocks = step one_block (Tls 1 2 0x37000)

abbrev closed : State
closed = step two_blocks (Close 0 2 (closes.Done (2 ∷ [])))

abbrev finished : State
finished = step closed (Fini 0 2)

abbrev gone : State
gone = step finished (Unmapped 0 (2 ∷ []))

abbrev again_opened : State
again_opened = step gone (opens_libt 3)

abbrev again_ready : State
again_ready = step again_opened (Init 0 3)

abbrev again_block : State
again_block = step again_ready (Tls 0 3 0x36000)

-- ---- the events

may_start : AllowedIn setting [] empty_state startup
unfolding relocation_fault loaded initialise lower die unmap tls_block tp_of load_step finds find_path find_opened pages_of low_of high_of align_of own_address
may_start = record {
  may = λ first. record { by_first = refl; base = refl; named = tt; flags = inl refl };
  asked = record { short = refl; flags = refl; namespace = (refl, refl) };
  name = loads setting files empty_state 0 _ (codes "prog") 0 1 _ _ (1 ∷ []) 0 (record {
    told = refl;
    reads = refl;
    walked = refl;
    all = refl;
    root_is = refl;
    are = refl;
    versions = refl;
    modules = (tt, tt);
    row = refl;
    stand = (refl, refl, refl, refl, refl, (refl, refl, refl, refl, refl, (refl, refl, refl, refl, refl, tt)));
    based = (refl, tt);
    relocated = refl;
  });
}

inits_prog : AllowedIn setting [] started (Init 0 1)
unfolding loaded
inits_prog = may_initialise started 0 1 0 [] [] refl refl refl refl refl

first_number : IsLeastFree [] 1
first_number = record { positive = omega arith; free = λ taken. none_in taken.0 taken.1; least = λ other some few. absurd (omega (arith, some, few)) }

may_open : AllowedIn setting [] prog_ready (opens_libt 2)
unfolding relocation_fault loaded initialise lower die unmap tls_block tp_of load_step finds find_path find_opened pages_of low_of high_of align_of own_address
may_open = record {
  may = λ first. absurd (true≢false (sym first));
  asked = record { short = refl; flags = refl; namespace = (refl, refl) };
  name = loads setting files prog_ready 0 _ (codes "libt.so") 0 2 _ _ (2 ∷ []) 36 (record {
    told = refl;
    reads = refl;
    walked = refl;
    all = refl;
    root_is = refl;
    are = refl;
    versions = refl;
    modules = ((first_number, refl), tt);
    row = (refl, (refl, (refl, refl)));
    stand = (refl, refl, refl, refl, refl, tt);
    based = (refl, tt);
    relocated = refl;
  });
}

inits_libt : AllowedIn setting [] libt_opened (Init 0 2)
unfolding loaded initialise
inits_libt = may_initialise libt_opened 0 2 1 [] [] refl refl refl refl refl

has_block : AllowedIn setting [] libt_ready (Tls 0 2 0x36000)
unfolding loaded initialise tls_block
has_block = may_block libt_ready 0 2 38 (refl, (refl, (refl, (refl, refl)))) refl refl refl refl refl refl refl refl

finds_v : AllowedIn setting [] one_block (Sym 0 (v_of 2) (Found 2 1 0x36010))
unfolding loaded initialise tls_block search in_breadth breadth pick_at
finds_v = (refl, record { short = record { name = refl; version = refl }; found = refl; is = (0x36000, refl, refl) })

has_another : AllowedIn setting [] one_block (Tls 1 2 0x37000)
unfolding loaded initialise tls_block
has_another = may_block one_block 1 2 39 (refl, (refl, (refl, (refl, (refl, refl))))) refl refl refl refl refl refl refl refl

finds_its_v : AllowedIn setting [] two_blocks (Sym 1 (v_of 2) (Found 2 1 0x37010))
unfolding loaded initialise tls_block search in_breadth breadth pick_at
finds_its_v = (refl, record { short = record { name = refl; version = refl }; found = refl; is = (0x37000, refl, refl) })

closes_libt : AllowedIn setting [] two_blocks (Close 0 2 (closes.Done (2 ∷ [])))
unfolding loaded initialise lower edges roots breadth
closes_libt = may_close two_blocks 2 0 1 refl refl refl refl refl refl

finishes_libt : ByClosing closed 0 2
unfolding loaded initialise lower die
finishes_libt = may_finish closed 0 2 0 refl refl refl

unmaps : AllowedIn setting [] finished (Unmapped 0 (2 ∷ []))
unfolding loaded initialise lower die
unmaps = may_unmap finished 0 0 2 [] refl refl refl refl refl

may_open_again : AllowedIn setting [] gone (opens_libt 3)
unfolding relocation_fault loaded initialise lower die unmap tls_block tp_of load_step finds find_path find_opened pages_of low_of high_of align_of own_address
may_open_again = record {
  may = λ first. absurd (true≢false (sym first));
  asked = record { short = refl; flags = refl; namespace = (refl, refl) };
  name = loads setting files gone 0 _ (codes "libt.so") 0 3 _ _ (3 ∷ []) 36 (record {
    told = refl;
    reads = refl;
    walked = refl;
    all = refl;
    root_is = refl;
    are = refl;
    versions = refl;
    modules = ((first_number, refl), tt);
    row = (refl, (refl, (refl, refl)));
    stand = (refl, refl, refl, refl, refl, tt);
    based = (refl, tt);
    relocated = refl;
  });
}

inits_again : AllowedIn setting [] again_opened (Init 0 3)
unfolding loaded initialise lower die unmap
inits_again = may_initialise again_opened 0 3 2 [] [] refl refl refl refl refl

has_block_again : AllowedIn setting [] again_ready (Tls 0 3 0x36000)
unfolding loaded initialise lower die unmap tls_block
has_block_again = may_block again_ready 0 3 38 (refl, (refl, (refl, (refl, refl)))) refl refl refl refl refl refl refl refl

finds_again : AllowedIn setting [] again_block (Sym 0 (v_of 3) (Found 3 1 0x36010))
unfolding loaded initialise lower die unmap tls_block search in_breadth breadth pick_at
finds_again = (refl, record { short = record { name = refl; version = refl }; found = refl; is = (0x36000, refl, refl) })

pub late_legal : Legal setting late
unfolding loaded initialise lower die unmap
late_legal = legal_by setting late
    (may_start, (inits_prog, (may_open, (inits_libt, (has_block, (finds_v, (has_another, (finds_its_v, (closes_libt, (inl finishes_libt, (unmaps, (may_open_again, (inits_again, (has_block_again, (finds_again, (record { some = omega arith; few = omega arith }, tt))))))))))))))))

pub not_the_other_block : Legal setting other_block → ⊥
unfolding Legal loaded initialise after_from tls_block search in_breadth breadth pick_at
not_the_other_block legal =
    let is = (at_look_up (legal 7 (Sym 1 (v_of 2) (Found 2 1 0x36010)) refl)).1.is in
    let block : Some 0x37000 ≡ Some is.0 = is.1 in
    let same : 0x37000 ≡ is.0 = ap (λ x. unwrap_or x 0) block in
    let value : 0x36010 ≡ (is.0 + 0x10) % 2 ^ 64 = is.2 in
    let wrong : 0x36010 ≡ 0x37010 = value ∙ ap (λ (n : ℕ). (n + 0x10) % 2 ^ 64) (sym same) in
    omega (arith, wrong)
  where
    at_look_up : Allowed setting (take 7 other_block) (Sym 1 (v_of 2) (Found 2 1 0x36010)) → MayAnswer two_blocks 1 (v_of 2) (Found 2 1 0x36010)
    at_look_up h = h
