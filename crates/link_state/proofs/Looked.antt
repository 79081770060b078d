-- Look-ups of symbols.
use Rattle.std.proofs.Common.{◌≡◌, ℕ, ◌+◌, ◌%◌, ◌^◌, Bool, List, [], ◌∷◌, ◌++◌, Some, None, refl, sym, ap, subst, ◌∙◌}
use Rattle.std.specs.Prelude.{IsSome}
use Rattle.std.proofs.lemmas.List.{append_assoc}
use Rattle.history_journal.specs.Following.{machine_of}
use Rattle.history_event.specs.declared.event.Event.{Event}
use Rattle.history_event.specs.declared.event.Event.TheVariants.{Sym, Tls}
use Rattle.history_event.specs.declared.event.SymAnswer.TheVariants.{Found}
use Rattle.history_event.specs.declared.event.SymAsk.{SymAsk}
use Rattle.history_state.specs.Accepted.{AcceptsOnly}
use Rattle.history_state.specs.After.{after}
use Rattle.history_state.specs.Lookup.{IsAddressBy, MayAnswer, MayHaveBlock, SymbolsAreStored, no_room, search}
use Rattle.history_state.specs.Legal.{Lawful}
use Rattle.history_state.specs.Setting.{Machine}
use Rattle.history_state.specs.State.{State}
use Rattle.history_state.specs.Step.{add_block}
use Rattle.history_state.specs.Storage.{module_of, tls_block}
use Rattle.history_calls.specs.Gives.{by_event, by_first_block, is_found}
use Rattle.history_calls.specs.Served.{AreBlockInstalls, InstallsNothing, a_block, no_block}
use Rattle.link_open_images.specs.NewBlocks.Laws.{HartsHaveNewBlocks}
use Rattle.link_open_images.specs.declared.new_blocks.placing.BlockFault.{BlockFault}
use Rattle.link_open_images.specs.declared.new_blocks.placing.BlockFault.TheVariants as blocks
use Rattle.link_search.specs.Finding.{IsSymFault}
use Rattle.link_state.specs.Locating.{PlansNone}
use Rattle.link_state.specs.Looking.{FindsVariable, IsLookedUp, sym_fault}
use Rattle.link_state.specs.Table.{LinkTable}
use Rattle.link_state.proofs.Stored.{none_there}

-- ---- what may be answered

pub variable : (s : State) (hart : ℕ) (ask : SymAsk) (serial index offset block value : ℕ) → FindsVariable s ask serial index offset → tls_block s hart serial ≡ Some block
    → value ≡ (block + offset) % 2 ^ 64 → MayAnswer s hart ask (Found serial index value)
variable s hart ask serial index offset block value finds has is = (
  finds.caller,
  record {
    short = finds.short;
    found = finds.found;
    is = subst (λ (b : Bool). IsAddressBy b s hart serial index value) (sym finds.storage) (block, has, is ∙ ap (λ n. (block + n) % 2 ^ 64) finds.is);
  },
)

-- a hart's block changes nothing of what a look-up finds
pub still : (s : State) (hart owner block : ℕ) (ask : SymAsk) (serial index offset : ℕ) → FindsVariable s ask serial index offset → FindsVariable (add_block hart owner block s) ask serial index offset
unfolding search
still s hart owner block ask serial index offset finds = record {
  caller = finds.caller;
  short = finds.short;
  found = finds.found;
  storage = finds.storage;
  is = finds.is;
}

-- so that what it finds may be answered once the hart has its block
pub once_had : HartsHaveNewBlocks → (past mid : List Event) (hart : ℕ) (ask : SymAsk) (serial index offset block value : ℕ) → FindsVariable (after past) ask serial index offset
    → MayHaveBlock (after past) hart serial block → mid ≡ past ++ Tls hart serial block ∷ [] → after mid ≡ add_block hart serial block (after past) → value ≡ (block + offset) % 2 ^ 64
    → MayAnswer (after mid) hart ask (Found serial index value)
once_had had past mid hart ask serial index offset block value finds may are state is =
    variable (after mid) hart ask serial index offset block value
    (subst (λ (s : State). FindsVariable s ask serial index offset) (sym state) (still (after past) hart serial block ask serial index offset finds))
    (ap (λ (es : List Event). tls_block (after es) hart serial) are ∙ had past hart serial block may) is

-- the object of the variable has a module
pub stored : ((m : Machine) (events : List Event) → AcceptsOnly m → Lawful m events → SymbolsAreStored (after events)) → (harts : ℕ) → AcceptsOnly (machine_of harts) → (past : List Event)
    → Lawful (machine_of harts) past → (ask : SymAsk) (serial index offset : ℕ) → FindsVariable (after past) ask serial index offset → IsSome (module_of (after past) serial)
stored law harts only past lawful ask serial index offset finds = (law (machine_of harts) past only lawful ask serial index finds.found finds.storage).has_module

-- ---- what a look-up gives

pub noted : (table new : LinkTable) (hart : ℕ) (ask : SymAsk) (serial index value : ℕ) → MayAnswer (after table.events) hart ask (Found serial index value)
    → new.events ≡ table.events ++ Sym hart ask (Found serial index value) ∷ [] → new.harts ≡ table.harts → InstallsNothing new.made → IsLookedUp table hart ask value new
noted table new hart ask serial index value may events harts nothing = record {
  given = Sym hart ask (Found serial index value) ∷ [];
  gives = λ w same. by_event _ (Sym hart ask (Found serial index value)) _ (is_found ask serial index value) may;
  events = events;
  harts = harts;
  made = no_block hart ask (Found serial index value) new.made nothing;
}

pub found_first : (table new : LinkTable) (hart : ℕ) (ask : SymAsk) (serial index offset block value : ℕ) (mid : List Event) → FindsVariable (after table.events) ask serial index offset
    → MayHaveBlock (after table.events) hart serial block → MayAnswer (after (table.events ++ Tls hart serial block ∷ [])) hart ask (Found serial index value)
    → mid ≡ table.events ++ Tls hart serial block ∷ [] → new.events ≡ mid ++ Sym hart ask (Found serial index value) ∷ [] → after new.events ≡ after mid → new.harts ≡ table.harts
    → AreBlockInstalls (after (table.events ++ Tls hart serial block ∷ [])) hart serial block new.made → IsLookedUp table hart ask value new
found_first table new hart ask serial index offset block value mid finds may then first last same harts made =
    let e : Event = Tls hart serial block in
    let f : Event = Sym hart ask (Found serial index value) in
    record {
      given = e ∷ f ∷ [];
      gives = λ w is. by_first_block ask e f value
          (record { serial = serial; index = index; block = block; storage = finds.storage; gets = refl; finds = refl; may_get = may; may_find = then });
      events = last ∙ ap (λ (es : List Event). es ++ f ∷ []) first ∙ append_assoc table.events (e ∷ []) (f ∷ []);
      harts = harts;
      made = a_block hart serial block (f ∷ []) new.made
          (subst (λ (s : State). AreBlockInstalls s hart serial block new.made) (sym (same ∙ ap after first)) made);
    }

-- no room for the block
pub no_block_there : (s : State) (hart : ℕ) (ask : SymAsk) (serial index offset : ℕ) (e : BlockFault) → FindsVariable s ask serial index offset → IsSome (module_of s serial)
    → tls_block s hart serial ≡ None → PlansNone s serial e → IsSymFault s hart ask (sym_fault e)
no_block_there s hart ask serial index offset (blocks.NoRoom pages) finds some none lacks =
    no_room serial index pages finds.short finds.found finds.storage (none_there s hart serial pages lacks some none)
no_block_there s hart ask serial index offset blocks.Memory finds some none lacks = tt
