-- A turn of the world is put together of what its hart did, and what that made of memory.
use Rattle.std.proofs.Common.{◌≡◌, Bool, true, false, cond, List, [], ◌++◌, map, slice_set, refl, sym, ap, subst, ◌∙◌, append-nil}
use Rattle.std.proofs.lemmas.Bool.{true≢false}
use Rattle.history_event.specs.declared.event.Event.{Event}
use Rattle.hart_moves.specs.Harts.{HartState}
use Rattle.hart_moves.specs.Moves.{Did, Moves, events_of, freed, settles}
use Rattle.world_turns.specs.Memory.{Does}
use Rattle.world_turns.specs.World.{World, found_harts, found_journal, settling}
use Rattle.world_answers.specs.GuestsPart.GuestWorlds.Laws.{QuietTurns, ServiceTurns}

-- what a turn finds
journal_found : (old : World) (did : Did) (t : Bool) → settles did ≡ t → found_journal old did ≡ old.journal ++ cond t (settling old.harts) []
journal_found old did t is = ap (λ (b : Bool). old.journal ++ cond b (settling old.harts) []) is

harts_found : (old : World) (did : Did) (t : Bool) → settles did ≡ t → found_harts old did ≡ cond t (map freed old.harts) old.harts
harts_found old did t is = ap (λ (b : Bool). cond b (map freed old.harts) old.harts) is

-- no turn but a service appends anything
quiet_appends : (did : Did) → settles did ≡ false → events_of did ≡ []
quiet_appends (Did.quiet items) is = refl
quiet_appends (Did.serves items appended) is = absurd (true≢false is)
quiet_appends (Did.waits for) is = absurd (true≢false is)
quiet_appends (Did.exchanges o found) is = refl
quiet_appends Did.finishes is = refl

pub quiet_turns : QuietTurns
quiet_turns w h old words b c did quiet there moves does =
    let found : found_journal old did ≡ old.journal = journal_found old did false quiet ∙ append-nil old.journal in
    record {
      before = b;
      left = c;
      did = did;
      there = there;
      moves = subst (λ (past : List Event). Moves w past h b did c) (sym found) moves;
      does = subst (λ (past : List Event). Does past old.words did words) (sym found) does;
      journal = sym (ap (λ (past : List Event). past ++ events_of did) found ∙ ap (λ (es : List Event). old.journal ++ es) (quiet_appends did quiet) ∙ append-nil old.journal);
      harts = ap (λ (harts : List HartState). slice_set harts h c) (sym (harts_found old did false quiet));
    }

pub service_turns : ServiceTurns
service_turns w h old words b c did serves there moves does =
    let found : found_journal old did ≡ old.journal ++ settling old.harts = journal_found old did true serves in
    record {
      before = b;
      left = c;
      did = did;
      there = there;
      moves = subst (λ (past : List Event). Moves w past h b did c) (sym found) moves;
      does = subst (λ (past : List Event). Does past old.words did words) (sym found) does;
      journal = ap (λ (past : List Event). past ++ events_of did) (sym found);
      harts = ap (λ (harts : List HartState). slice_set harts h c) (sym (harts_found old did true serves));
    }
