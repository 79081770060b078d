-- Each hart may be run as startup sets it off.
use Rattle.std.proofs.Common.{◌≡◌, inl, inr, ℕ, zero, suc, ◌≤◌, ◌<◌, false, List, [], ◌∷◌, length, map, Some, None, refl, sym, ap, subst, ◌∙◌, append-nil, arith}
use Rattle.std.specs.List.{Contains, slice_get}
use Rattle.std.proofs.lemmas.List.{take_all}
use Rattle.std.proofs.lemmas.Option.{none-some}
use Rattle.history_event.specs.declared.event.Event.{Event}
use Rattle.history_event.specs.declared.handed.Function.{Function}
use Rattle.history_event.specs.declared.handed.HartEntry.{HartEntry}
use Rattle.history_event.specs.declared.state.Ending.{Ending}
use Rattle.history_calls.specs.declared.link_served.startup.Setup.{Setup}
use Rattle.history_calls.specs.declared.link_served.startup.Started.{Started}
use Rattle.history_calls.specs.Laws.{StartsLegal}
use Rattle.history_calls.specs.Startup.{Starts}
use Rattle.history_state.specs.After.{after}
use Rattle.history_state.specs.Lemmas.Lists.{none_in}
use Rattle.history_state.specs.Setting.{Setting}
use Rattle.hart_moves.specs.Harts.{HartState, Purpose, Resolving}
use Rattle.hart_moves.specs.Moves.{runs, with_first}
use Rattle.hart_moves.specs.Starting.{HartStart, IsStartOf, starting_hart, starting_harts, starting_registers}
use Rattle.hart_moves.specs.TurnEvents.Appends.{has_finals}
use Rattle.hart_fits.specs.Fits.{StartFits}
use Rattle.hart_fits.specs.Owners.{StartHasOwners}
use Rattle.hart_linker.specs.Between.{HasHeard, IsAtRow}
use Rattle.hart_threads.specs.Ends.{IsNewAt}
use Rattle.hart_threads.specs.Run.{IsReady}
use Rattle.hart_threads.specs.Turns.{RunsBy}
use Rattle.hart_trails.specs.Trails.{FollowsBy}
use Rattle.tls_blocks.specs.Blocks.{BlockTable, block_at}
use Rattle.world_threads.specs.Setting.{KeepsNone, told_hart}
use Rattle.world_threads.proofs.Started.{none_ended}

-- ---- a hart that starts

pub record IsNew (b : HartState) : Type 0 where
  pub idle : b.resolving ≡ Resolving.idle
  pub no_finals : has_finals b.frames ≡ false
  pub runs : b.«end» ≡ None

first_is : (fuel : ℕ) (entry : HartEntry) (functions : List Function) → IsNew (runs (Purpose.of_startup (starting_registers entry)) functions [] (starting_hart fuel entry))
first_is fuel entry [] = record { idle = refl; no_finals = refl; runs = refl }
first_is fuel entry (f ∷ rest) = by f.addresses refl
  where
    by : (addresses : List ℕ) → f.addresses ≡ addresses → IsNew (runs (Purpose.of_startup (starting_registers entry)) (f ∷ rest) [] (starting_hart fuel entry))
    by [] are = subst (λ (all : List ℕ). IsNew (with_first (Purpose.of_startup (starting_registers entry)) f.object all rest [] (starting_hart fuel entry))) (sym are) (record { idle = refl; no_finals = refl; runs = refl })
    by (a ∷ more) are = subst (λ (all : List ℕ). IsNew (with_first (Purpose.of_startup (starting_registers entry)) f.object all rest [] (starting_hart fuel entry))) (sym are) (record { idle = refl; no_finals = refl; runs = refl })

others_are : (fuel h : ℕ) (entries : List HartEntry) (b : HartState) → slice_get (map (starting_hart fuel) entries) h ≡ Some b → IsNew b
others_are fuel h [] b at = absurd (none-some b at)
others_are fuel zero (entry ∷ rest) b at = subst IsNew (let same : starting_hart fuel entry ≡ b = cc in same) (record { idle = refl; no_finals = refl; runs = refl })
others_are fuel (suc h) (entry ∷ rest) b at = others_are fuel h rest b at

pub all_are : (fuel h : ℕ) (functions : List Function) (entries : List HartEntry) (b : HartState) → slice_get (starting_harts fuel functions entries) h ≡ Some b → IsNew b
all_are fuel h functions [] b at = absurd (none-some b at)
all_are fuel zero functions (entry ∷ rest) b at =
    subst IsNew (let same : runs (Purpose.of_startup (starting_registers entry)) functions [] (starting_hart fuel entry) ≡ b = cc in same) (first_is fuel entry functions)
all_are fuel (suc h) functions (entry ∷ rest) b at = others_are fuel h rest b at

-- each starts with registers of its own
pub entry_of : (fuel h : ℕ) (functions : List Function) (entries : List HartEntry) (b : HartState) → slice_get (starting_harts fuel functions entries) h ≡ Some b
    → (entry : HartEntry) × (slice_get entries h ≡ Some entry)
entry_of fuel h functions [] b at = absurd (none-some b at)
entry_of fuel zero functions (entry ∷ rest) b at = (entry, refl)
entry_of fuel (suc h) functions (entry ∷ rest) b at = others rest h at
  where
    others : (entries : List HartEntry) (k : ℕ) → slice_get (map (starting_hart fuel) entries) k ≡ Some b → (x : HartEntry) × (slice_get entries k ≡ Some x)
    others [] k got = absurd (none-some b got)
    others (x ∷ more) zero got = (x, refl)
    others (x ∷ more) (suc k) got = others more k got

-- ---- it may be run

module _ (w : Setting) (setup : Setup) (past : List Event) (started : Started) (starts : Starts w setup past started) (legal : StartsLegal) (owners : StartHasOwners) (fits : StartFits)
    (h : ℕ) (b : HartState) (low : h < w.machine.harts) (at : slice_get (starting_harts setup.fuel started.functions started.entries) h ≡ Some b) where
  new : IsNew b
  new = all_are setup.fuel h started.functions started.entries b at

  no_ending : (e : Ending) → Contains (after past).endings e → ⊥
  no_ending e there = none_in e (subst (λ (es : List Ending). Contains es e) (none_ended w setup past started starts) there)

  heard : HasHeard w past (told_hart past h)
  heard = record {
    legal = legal w setup past started starts;
    begins = ([], sym (append-nil past));
    own = owners w setup past started starts;
    entries = λ e there. absurd (none_in e there);
  }

  pub ready : (d : BlockTable) → KeepsNone d → IsReady w past (told_hart past h) b d
  ready d none = record {
    between = record {
      heard = heard;
      fits = λ runs. fits w setup past started h b starts low at;
      row = subst (IsAtRow (told_hart past h)) (sym new.idle) refl;
      blocks = record { same = λ number. ap (λ es. block_at es number) none.entries; latest = λ generation number later. refl };
      early = subst (λ (n : ℕ). n ≤ (after past).generation) (sym none.generation) (omega arith);
      current = λ runs. record {
        current = inr refl;
        are = λ number block e. absurd (none-some block (sym (ap (λ es. block_at es number) none.entries) ∙ e));
      };
      reached = λ runs calm. inl refl;
    };
    calm = λ reason e. refl;
  }

  -- how it starts, and that it has taken no turn yet
  abbrev pub start : HartStart
  start = record { from = length past; registers = starting_registers (entry_of setup.fuel h started.functions started.entries b at).0; hart = b }

  pub start_is : IsStartOf setup.fuel past started h start
  start_is =
      let entry = entry_of setup.fuel h started.functions started.entries b at in
      record { from = refl; entry = entry.0; given = entry.1; registers = refl; hart = at }

  pub new_at : IsNewAt start (told_hart past h)
  new_at = record {
    no_finals = new.no_finals;
    told = λ e there own. absurd (no_ending e (subst (λ (es : List Event). Contains (after es).endings e) (take_all (length past) past (omega arith)) there));
  }

  pub runs_by : RunsBy w (length past) b [] (told_hart past h) b
  runs_by = record {
    turns = [];
    own = [];
    to = length past;
    follows = FollowsBy.no_more (length past) b;
    late = omega arith;
    none = λ k e from to there own. omega (arith, from, to);
    trail = refl;
  }
