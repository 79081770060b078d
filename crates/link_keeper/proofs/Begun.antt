-- The final destructors begin.
use Rattle.std.proofs.Common.{◌≡◌, ℕ, ◌+◌, ◌<◌, ◌≤◌, ◌==◌, cond, eqb, eq-eqb, nat_le, leb-true, Bool, true, false, List, [], ◌∷◌, length, length-append, take, None, Some, IsTrue, refl, sym, ap, subst, ◌∙◌, arith}
use Rattle.std.proofs.lemmas.Bool.{and_from, and_parts, eqb-true, false≢true}
use Rattle.std.proofs.lemmas.List.{take_all}
use Rattle.history_event.specs.declared.event.Event.{Event}
use Rattle.history_event.specs.declared.handed.HartEntry.{HartEntry}
use Rattle.history_event.specs.declared.hart_end.HartEnd.TheVariants.{Exit}
use Rattle.word_rule.specs.declared.view.HartView.{HartView}
use Rattle.word_rule.specs.declared.view.KeeperView.{KeeperView}
use Rattle.word_rule.specs.Views.{IsLane, known_of, last_block, row_of}
use Rattle.history_state.specs.After.{after}
use Rattle.history_state.specs.Laws.{ModulesAreTidy}
use Rattle.history_state.specs.Legal.{Lawful}
use Rattle.history_state.specs.Lemmas.History.{legal_is_lawful}
use Rattle.history_state.specs.Owed.{times_ended}
use Rattle.history_state.specs.Read.{BeginsUntouched}
use Rattle.history_state.specs.Setting.{Machine, Setting, are_finals, have_exited}
use Rattle.tls_blocks.specs.Blocks.{BlockTable, block_at}
use Rattle.tls_blocks.specs.declared.entry.Entry.{Entry as BlockEntry}
use Rattle.hart_moves.specs.Follows.{AreOthers, BeginsFinals, HasNone}
use Rattle.history_state.specs.Memory.{image_of}
use Rattle.history_calls.specs.Functions.{AreAddresses, destructors}
use Rattle.hart_moves.specs.Moves.{all_finis}
use Rattle.hart_moves.specs.Harts.{HartState}
use Rattle.hart_moves.specs.Starting.{finalising_hart, starting_registers}
use Rattle.hart_moves.specs.TurnEvents.Appends.{has_finals}
use Rattle.hart_fits.specs.Finals.{EndsOnce, FinalsBeginFit}
use Rattle.hart_fits.specs.Fits.{HartFits}
use Rattle.hart_fits.specs.Lemmas.Owners.{owners_end}
use Rattle.hart_fits.specs.Over.{RunningIsNotOver}
use Rattle.hart_linker.specs.Between.{BlocksFit, Hears, IsAtRow, IsBetweenTurns}
use Rattle.hart_linker.specs.Finals.{BeginsLast}
use Rattle.hart_linker.specs.declared.finals.Beginning.TheVariants as beginnings
use Rattle.hart_linker.specs.Lemmas.Hearing.{blocks_told, early_on, row_told}
use Rattle.link_keeper.specs.Keeping.{FirstGoesOn, KeepsView}
use Rattle.link_keeper.proofs.Current.{current_of}
use Rattle.link_keeper.proofs.Fitting.{others_behind}
use Rattle.link_keeper.proofs.Lasting.{ends_once, once_on}
use Rattle.world_answers.specs.ReturnsPart.FinalTurns.Begins.{StartsFinals}

-- ---- the blocks of another generation are forgotten

module _ (d e : BlockTable) (h : HartView) (g : ℕ) (entries : e.entries ≡ (cond (d.generation == g) d.entries [])) (generation : e.generation ≡ g) (early : d.generation ≤ g) (fit : BlocksFit d h) where
  pub blocks_begun : BlocksFit e h
  blocks_begun = record { same = λ number. same number (d.generation == g) refl; latest = latest }
    where
      same : (number : ℕ) (b : Bool) → (d.generation == g) ≡ b → block_at e.entries number ≡ last_block e.generation number (known_of h.lane)
      same number true is =
          let kept : e.entries ≡ d.entries = entries ∙ ap (λ (b : Bool). cond b d.entries []) is in
          ap (λ (es : List BlockEntry). block_at es number) kept ∙ fit.same number
          ∙ ap (λ (n : ℕ). last_block n number (known_of h.lane)) (eqb-true d.generation g is ∙ sym generation)
      same number false is =
          let none : e.entries ≡ [] = entries ∙ ap (λ (b : Bool). cond b d.entries []) is in
          let later : d.generation < g = (let apart : d.generation ≡ g → ⊥ = λ one. (let no : true ≡ false = sym (eq-eqb d.generation g one) ∙ is in cc) in less d.generation g early apart) in
          ap (λ (es : List BlockEntry). block_at es number) none ∙ sym (fit.latest g number later) ∙ ap (λ (n : ℕ). last_block n number (known_of h.lane)) (sym generation)
        where
          less : (a b : ℕ) → a ≤ b → (a ≡ b → ⊥) → a < b
          less a b low apart = omega (arith, low, apart)

      latest : (n number : ℕ) → e.generation < n → last_block n number (known_of h.lane) ≡ None
      latest n number later = fit.latest n number (omega (arith, later, generation, early))

-- ---- the first hart

module _ (running : RunningIsNotOver) (w : Setting) (begun : List Event) (k : KeeperView) (before now : HartView) (view : KeepsView w begun k) (hears : Hears w begun before now) (all : now.heard ≡ k.events)
    (first : before.number ≡ 0) (some : 0 < w.machine.harts) (once : times_ended 0 (after before.heard).endings ≤ 1) where
  number : now.number ≡ 0
  number = ap (λ (h : HartView). h.number) hears.told ∙ first

  none : HasNone now.heard 0 (length before.heard) (length now.heard)
  none = subst (λ (n : ℕ). HasNone now.heard n (length before.heard) (length now.heard)) first hears.none

  others : AreOthers 0 hears.longer.0
  others = others_behind 0 before.heard hears.longer.0 (subst (λ (es : List Event). HasNone es 0 (length before.heard) (length es)) hears.longer.1 none)

  once_now : times_ended 0 (after now.heard).endings ≤ 1
  once_now = subst (λ (es : List Event). times_ended 0 (after es).endings ≤ 1) (sym hears.longer.1) (once_on 0 before.heard hears.longer.0 others once)

  pub are_once : IsTrue (have_exited w (after now.heard)) → EndsOnce w now.heard
  are_once = ends_once running w now.heard (legal_is_lawful w now.heard hears.heard.legal) (owners_end w now.heard hears.heard.own) some once_now (subst (FirstGoesOn w) (sym all) view.last)

  module _ (begin_fit : FinalsBeginFit) (entry : HartEntry) (code : ℕ) (b c : HartState) (exited : b.«end» ≡ Some (Exit code)) (over : IsTrue (have_exited w (after now.heard)))
      (starts : StartsFinals (after now.heard) entry code b c) where
    here : take (length now.heard) now.heard ≡ now.heard
    here = take_all (length now.heard) now.heard (omega arith)

    begin : BeginsFinals w now.heard (starting_registers entry) (length before.heard) b (length now.heard) c
    begin =
        let count : length now.heard ≡ length before.heard + length hears.longer.0 = ap length hears.longer.1 ∙ length-append before.heard hears.longer.0 in
        record {
          code = code;
          exited = exited;
          since = omega (arith, count);
          within = omega arith;
          none = none;
          over = subst (λ (es : List Event). IsTrue (have_exited w (after es))) (sym here) over;
          object = starts.object;
          rest = starts.rest;
          next = ap (λ (es : List Event). all_finis (after es)) here ∙ starts.next;
          addresses = starts.addresses;
          are = subst (λ (es : List Event). AreAddresses destructors starts.addresses (image_of (after es) starts.object)) (sym here) starts.are;
          is = starts.begun;
        }

    fits : HartFits w now.heard 0 c
    fits = subst (λ (es : List Event). HartFits w es 0 c) here
        (begin_fit w now.heard (starting_registers entry) (length before.heard) b (length now.heard) c begin (subst (EndsOnce w) (sym here) (are_once over)) some)

    pub begins_so : BeginsLast w (starting_registers entry) before now b c beginnings.Begun
    begins_so = BeginsLast.begins begin hears.told fits

    resolving_same : (addresses : List ℕ) → (finalising_hart (starting_registers entry) code (record { object = starts.object; addresses = addresses }) b).resolving ≡ b.resolving
    resolving_same [] = refl
    resolving_same (a ∷ more) = refl

    runs_finals : (addresses : List ℕ) → has_finals (finalising_hart (starting_registers entry) code (record { object = starts.object; addresses = addresses }) b).frames ≡ true
    runs_finals [] = refl
    runs_finals (a ∷ more) = refl

    pub between_so : ((m : Machine) (journal : List Event) → Lawful m journal → ModulesAreTidy (after journal)) → ((m : Machine) (journal : List Event) → Lawful m journal → BeginsUntouched (after journal))
        → (d e : BlockTable) (g : ℕ) → g ≡ (after k.events).generation → e.entries ≡ (cond (d.generation == g) d.entries []) → e.generation ≡ g → before.lane.calling ≡ false → IsLane before.lane
        → known_of before.lane ≡ (row_of k before.number).issued → IsBetweenTurns w begun before b d → IsBetweenTurns w begun now c e
    between_so tidy begins d e g now_is entries generation calm lane issued at =
        let early : d.generation ≤ (after now.heard).generation = early_on d before.heard hears.longer.0 now.heard hears.longer.1 at.early in
        let same : (after now.heard).generation ≡ g = ap (λ (es : List Event). (after es).generation) all ∙ sym now_is in
        let fit : BlocksFit e now = blocks_begun d e now g entries generation (omega (arith, early, same)) (blocks_told w begun before now d hears at.blocks) in
        record {
          heard = hears.heard;
          fits = λ on. subst (λ (n : ℕ). HartFits w now.heard n c) (sym number) fits;
          row = subst (IsAtRow now) (sym (ap (λ (x : HartState). x.resolving) starts.begun ∙ resolving_same starts.addresses)) (row_told w begun before now hears calm lane b.resolving at.row);
          blocks = fit;
          early = omega (arith, generation, same);
          current = λ on. current_of tidy begins w begun k now e view.kept (let low : now.number ≡ 0 = number in omega (arith, low))
              (ap (λ (h : HartView). known_of h.lane) hears.told ∙ issued ∙ ap (λ (n : ℕ). (row_of k n).issued) (sym (ap (λ (h : HartView). h.number) hears.told)))
              all fit (generation ∙ now_is);
          reached = λ on calm. absurd (false≢true (sym calm ∙ ap (λ (x : HartState). has_finals x.frames) starts.begun ∙ runs_finals starts.addresses));
        }

  -- ---- it ends once more

  pub are_last : IsTrue (have_exited w (after now.heard)) → IsTrue (are_finals w (after now.heard))
  are_last over =
      let few : length (after now.heard).endings ≤ w.machine.harts = are_once over in
      let long : w.machine.harts ≤ length (after now.heard).endings = leb-true w.machine.harts (length (after now.heard).endings) (and_parts (nat_le w.machine.harts (length (after now.heard).endings)) _ over).0 in
      and_from (eqb (length (after now.heard).endings) w.machine.harts) (have_exited w (after now.heard)) (eq-eqb (length (after now.heard).endings) w.machine.harts (omega (arith, few, long))) over
