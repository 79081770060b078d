-- How the lists stay those of the state.
use Rattle.std.proofs.Common.{◌≡◌, ℕ, false, eqb, List, [], ◌∷◌, ◌++◌, length, map, None, refl, sym, ap, subst, ◌∙◌, arith}
use Rattle.std.specs.List.{Contains, filter}
use Rattle.ld_base.specs.declared.fault.DlFault.{DlFault}
use Rattle.history_event.specs.declared.event.Ask.{Ask}
use Rattle.history_event.specs.declared.event.Ask.TheVariants as asks
use Rattle.history_event.specs.declared.event.Event.{Event}
use Rattle.history_event.specs.declared.state.Kept.{Kept}
use Rattle.history_graph.specs.declared.graph.Edge.{Edge}
use Rattle.history_journal.specs.LinkHarts.Kept.{KeptTable, is_anothers}
use Rattle.history_state.specs.After.{after, after_from}
use Rattle.history_state.specs.Allowed.{Allowed}
use Rattle.history_state.specs.Setting.{Setting}
use Rattle.history_state.specs.State.{State, empty_namespace}
use Rattle.history_state.specs.Step.{keep, step}
use Rattle.history_state.specs.Lemmas.Lists.{none_in}
use Rattle.history_journal.specs.Following.{MayFollow, machine_of}
use Rattle.link_spaces.specs.PendingClosingsPart.Pending.{PendingClosing, closing_of}
use Rattle.link_holds.specs.Holding.{HoldsAll, Lists}
use Rattle.link_holds.specs.Events.{refusal}

-- nothing was given: for events that may come whatever was
abbrev bare : ℕ → Setting
bare harts = record { machine = machine_of harts; folders = []; preload = []; files = None }

pub follows : (harts : ℕ) (past : List Event) (e : Event) → Allowed (bare harts) past e → MayFollow harts past e
follows harts past e may = record { setting = bare harts; machine = refl; may = may }

-- the lists are those of the state before the first event
pub record AreFirst (l : Lists) : Type 0 where
  pub kept : l.kept.kept ≡ []
  pub grants : l.settling.grants ≡ []
  pub count : l.settling.count ≡ 0
  pub serials : l.unfinished.serials ≡ []
  pub namespaces : l.namespaces ≡ empty_namespace 0 ∷ []
  pub ranges : l.reserved.ranges ≡ []
  pub modules : l.modules.modules ≡ []
  pub size : l.modules.size ≡ 0
  pub tp : l.modules.tp ≡ 0
  pub generation : l.modules.generation ≡ 0
  pub blocks : l.blocks.blocks ≡ []
  pub parts : l.parts.parts ≡ []
  pub edges : l.edges.edges ≡ []
  pub closings : l.closings.closings ≡ []
  pub binds : l.loads.binds ≡ false
  pub next : l.loads.next ≡ 1
  pub startup : l.loads.startup ≡ []
  pub pinned : l.loads.pinned ≡ []

pub holds_first : (events : List Event) (l : Lists) → events ≡ [] → AreFirst l → HoldsAll (after events) l
unfolding after_from
holds_first events l none first =
    subst (λ (es : List Event). HoldsAll (after es) l) (sym none) (record {
      faults = first.kept;
      running = record { opens = first.grants; count = first.count; serials = first.serials; room = omega arith; spaces = first.namespaces };
      memory = record {
        ranges = first.ranges;
        modules = first.modules;
        size = first.size;
        tp = first.tp;
        generation = first.generation;
        blocks = first.blocks;
        parts = first.parts;
      };
      keeping = record {
        every = λ x inside. absurd (none_in x inside);
        only = λ x inside. absurd (none_in x (subst (λ (es : List Edge). Contains es x) first.edges inside));
        room = omega arith;
        closings = ap (map closing_of) first.closings;
        roomy = λ p inside. absurd (none_in p (subst (λ (ps : List PendingClosing). Contains ps p) first.closings inside));
      };
      opening = record {
        binds = first.binds;
        next = first.next;
        few = omega arith;
        startup = first.startup;
        pinned = first.pinned;
        first = ap (λ (ds : List ℕ). eqb (length ds) 0) first.startup;
      };
    })

-- the state is the one after a step
pub holds_after : (s t : State) (l : Lists) → t ≡ s → HoldsAll s l → HoldsAll t l
holds_after s t l state holds = subst (λ (x : State). HoldsAll x l) (sym state) holds

-- what a refusal does, whatever was asked
pub refused_step : (s : State) (hart : ℕ) (ask : Ask) (fault : DlFault) → step s (refusal hart ask fault) ≡ keep hart fault s
refused_step s hart (asks.Open ask) fault = refl
refused_step s hart (asks.Sym ask) fault = refl
refused_step s hart (asks.Close handle) fault = refl

-- a refusal is kept
pub holds_keep : (s : State) (hart : ℕ) (l : Lists) (before : List Kept) (new : KeptTable) (fault copy : DlFault) → HoldsAll s l
    → before ≡ l.kept.kept → copy ≡ fault → new.kept ≡ filter (is_anothers hart) before ++ record { hart = hart; fault = copy } ∷ [] → HoldsAll (keep hart fault s) (record l { kept = new })
holds_keep s hart l before new fault copy holds was copied is = record {
  faults = is ∙ ap (λ (ks : List Kept). filter (is_anothers hart) ks ++ record { hart = hart; fault = copy } ∷ []) (was ∙ holds.faults)
      ∙ ap (λ (f : DlFault). filter (is_anothers hart) s.kept ++ record { hart = hart; fault = f } ∷ []) copied;
  running = holds.running;
  memory = holds.memory;
  keeping = holds.keeping;
  opening = holds.opening;
}
