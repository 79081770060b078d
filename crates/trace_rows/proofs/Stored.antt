-- Blocks of thread-local storage.
use Rattle.std.proofs.Common.{◌≡◌, ℕ, ◌&&◌, ◌||◌, Bool, true, false, not, eqb, List, [], ◌∷◌, Option, Some, None, cond, refl, sym, ap, subst, ◌∙◌}
use Rattle.std.specs.Bool.{Decides}
use Rattle.std.specs.Prelude.{IsSome}
use Rattle.std.specs.List.{find, list_any}
use Rattle.std.specs.Option.{is_some, option_and_then}
use Rattle.std.proofs.lemmas.Bool.Decides.{Decides-and, Decides-like}
use Rattle.address_space.specs.Pages.{IsFirstFit}
use Rattle.history_event.specs.declared.event.Range.{Range}
use Rattle.history_event.specs.declared.state.Module.{Module}
use Rattle.history_state.specs.Areas.{free_pages}
use Rattle.history_state.specs.Lookup.{MayHaveBlock, WantsBlock}
use Rattle.history_state.specs.Objects.{object_at}
use Rattle.history_state.specs.State.{State}
use Rattle.history_state.specs.Storage.{block_align, block_pages, module_of, tls_block}
use Rattle.ld_base.specs.declared.linking.Loaded.{Loaded}
use Rattle.ld_base.specs.declared.object.TlsSeg.{TlsSeg}
use Rattle.scope_rule.specs.declared.namespace.Namespace.{Namespace}
use Rattle.trace_replay.specs.Lists.{Lists}
use Rattle.trace_replay.specs.Shown.{IsShown}
use Rattle.trace_replay.specs.Steps.{storage_in}
use Rattle.trace_rows.specs.Blocks.{IsPlaced, StandsAt}
use Rattle.trace_rows.proofs.Unmapped.{lacks_so}

-- ---- modules

pub any_is : {X : Type 0} (p : X → Bool) (xs : List X) → list_any p xs ≡ is_some (find p xs)
any_is p [] = refl
any_is {X} p (x ∷ xs) = by (any_is p xs) (p x)
  where
    by : list_any p xs ≡ is_some (find p xs) → (b : Bool) → (b || list_any p xs) ≡ is_some (cond b (Some x) (find p xs))
    by again true = refl
    by again false = again

module_so : (s : State) (l : Lists) (serial : ℕ) → IsShown s l → Decides (list_any (λ (m : Module). eqb m.serial serial) l.modules) (IsSome (module_of s serial))
module_so s l serial x =
    let is : list_any (λ (m : Module). eqb m.serial serial) l.modules ≡ is_some (module_of s serial) =
    any_is (λ (m : Module). eqb m.serial serial) l.modules ∙ ap (λ (ms : List Module). is_some (find (λ (m : Module). eqb m.serial serial) ms)) x.modules in
    ((λ e. sym is ∙ e), (λ e. is ∙ e))

-- ---- new blocks

record IsStored (s : State) (serial : ℕ) (seg : TlsSeg) : Type 0 where
  object : Loaded
  mapped : object_at s serial ≡ Some object
  storage : object.object.tls ≡ Some seg

stored : (s : State) (l : Lists) (serial : ℕ) (seg : TlsSeg) → IsShown s l → storage_in l.namespaces serial ≡ Some seg → IsStored s serial seg
stored s l serial seg x is = by (object_at s serial) refl (ap (λ (nss : List Namespace). storage_in nss serial) (sym x.namespaces) ∙ is)
  where
    by : (found : Option Loaded) → object_at s serial ≡ found → option_and_then (λ (o : Loaded). o.object.tls) found ≡ Some seg → IsStored s serial seg
    by None e f = absurd (let d : None ≡ Some seg = f in cc)
    by (Some o) e f = record { object = o; mapped = e; storage = f }

pub wants : (s : State) (l : Lists) (hart serial : ℕ) (seg : TlsSeg) → IsShown s l → storage_in l.namespaces serial ≡ Some seg → IsSome (module_of s serial) → tls_block s hart serial ≡ None
    → WantsBlock s hart serial seg
wants s l hart serial seg x is module_there none =
    let of : IsStored s serial seg = stored s l serial seg x is in
    record { object = of.object; mapped = of.mapped; storage = of.storage; has_module = module_there; none = none }

pub segment_of : (s : State) (l : Lists) (hart serial : ℕ) (seg : TlsSeg) → IsShown s l → WantsBlock s hart serial seg → storage_in l.namespaces serial ≡ Some seg
segment_of s l hart serial seg x w = ap (λ (nss : List Namespace). storage_in nss serial) x.namespaces ∙ ap (option_and_then (λ (o : Loaded). o.object.tls)) w.mapped ∙ w.storage

pub may_have : (s : State) (l : Lists) (hart serial address : ℕ) (seg : TlsSeg) → IsShown s l → WantsBlock s hart serial seg → StandsAt (free_pages l.ranges) seg address
    → MayHaveBlock s hart serial address
may_have s l hart serial address seg x w stands = record {
  seg = seg;
  wants = w;
  pages = stands.pages;
  first = subst (λ (rs : List Range). IsFirstFit (free_pages rs) (block_pages seg) (block_align seg) stands.pages) x.ranges stands.first;
  is = stands.is;
}

pub gets_so : (s : State) (l : Lists) (hart serial address : ℕ) (block : Option ℕ) (none there stands : Bool) → IsShown s l → block ≡ tls_block s hart serial → is_some block ≡ not none
    → there ≡ list_any (λ (m : Module). eqb m.serial serial) l.modules → Decides stands (IsPlaced l serial address)
    → Decides ((none && there) && stands) (MayHaveBlock s hart serial address)
gets_so s l hart serial address block none there stands x is lacks modules places =
    Decides-like ((none && there) && stands)
    (λ (p : ((block ≡ None) × IsSome (module_of s serial)) × IsPlaced l serial address).
    may_have s l hart serial address p.1.seg x (wants s l hart serial p.1.seg x p.1.of p.0.1 (sym is ∙ p.0.0)) p.1.stands)
    (λ (m : MayHaveBlock s hart serial address). (
      (is ∙ m.wants.none, m.wants.has_module),
      record {
        seg = m.seg;
        of = segment_of s l hart serial m.seg x m.wants;
        stands = record {
          pages = m.pages;
          first = subst (λ (rs : List Range). IsFirstFit (free_pages rs) (block_pages m.seg) (block_align m.seg) m.pages) (sym x.ranges) m.first;
          is = m.is;
        };
      },
    ))
    (Decides-and (none && there) stands
    (Decides-and none there (lacks_so block none lacks) (subst (λ (b : Bool). Decides b (IsSome (module_of s serial))) (sym modules) (module_so s l serial x)))
    places)
