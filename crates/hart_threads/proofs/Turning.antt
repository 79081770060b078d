-- Turns that need no linker but for their end, as turns behind all events that came before them.
use Rattle.std.proofs.Common.{◌≡◌, ℕ, ◌≤◌, true, false, List, [], ◌∷◌, ◌++◌, length, map, take, refl, ap, subst, ◌∙◌, append_assoc}
use Rattle.history_event.specs.declared.event.Event.{Event}
use Rattle.history_event.specs.declared.event.Event.TheVariants.{Ended}
use Rattle.history_event.specs.declared.hart_end.HartEnd.{HartEnd}
use Rattle.rv_hart.specs.declared.bus.Item.{Item}
use Rattle.rv_hart.specs.Items.{items_left}
use Rattle.word_rule.specs.declared.view.HartView.{HartView}
use Rattle.word_rule.specs.declared.view.TrailItem.{TrailItem}
use Rattle.word_rule.specs.declared.view.TrailItem.TheVariants.{Call, Took}
use Rattle.word_access.specs.Accesses.{in_memory, with_items}
use Rattle.history_state.specs.After.{after}
use Rattle.history_state.specs.Setting.{Setting}
use Rattle.hart_moves.specs.Due.{Due, due}
use Rattle.hart_moves.specs.Follows.{HasNone, TurnsAt}
use Rattle.hart_moves.specs.Harts.{HartState}
use Rattle.hart_moves.specs.Moves.{Did, Moves}
use Rattle.hart_trails.specs.Entries.{entry_behind}
use Rattle.hart_trails.specs.Trails.{Leaves, Reads, is_located}
use Rattle.hart_turns.specs.Turns.{is_own}
use Rattle.hart_linker.specs.Serving.{EndsTurn, ServesTurn}
use Rattle.hart_threads.specs.Turns.{TakesTurn}
use Rattle.hart_threads.proofs.Stepping.{turn_behind, turn_here}

-- ---- a quiet turn

pub quiet_turn : (w : Setting) (before now : HartView) (b c : HartState) (items : List Item) → now ≡ with_items (map Call (items_left in_memory items)) before
    → Moves w before.heard before.number b (Did.quiet items) c → TakesTurn w before now b c (map Call (items_left in_memory items))
quiet_turn w before now b c items view moves =
    turn_here w before now b c (map Call (items_left in_memory items)) (Did.quiet items) (ap (λ (h : HartView). h.number) view) (ap (λ (h : HartView). h.heard) view) refl moves
    (Leaves.calls items)

pub own_is_not_located : (d : Due) → is_own d ≡ true → is_located d ≡ false
own_is_not_located Due.nothing e = refl
own_is_not_located (Due.exchange o) e = refl
own_is_not_located (Due.finish o found) e = refl
own_is_not_located Due.fuel_out e = refl
own_is_not_located Due.instruction e = refl
own_is_not_located (Due.copy copy start bytes) e = refl
own_is_not_located (Due.serve call back) e = absurd (let no : false ≡ true = e in cc)
own_is_not_located (Due.wait for) e = refl
own_is_not_located (Due.store text stored word more) e = refl
own_is_not_located (Due.enter function frames) e = refl
own_is_not_located (Due.complete purpose object rest below) e = refl
own_is_not_located (Due.finalise code object) e = refl

-- calls of the bus, and then the hart's end under the lock, behind whatever came since
pub ending_turn : (w : Setting) (before mid now : HartView) (b spent c : HartState) (reason : HartEnd) (items : List Item) → mid ≡ with_items (map Call (items_left in_memory items)) before
    → (x : EndsTurn w mid now reason spent c) → is_located (due (after x.past) b) ≡ false
    → Moves w x.past before.number b (Did.serves items (Ended before.number reason ∷ [])) c
    → TakesTurn w before now b c (map Call (items_left in_memory items) ++ Took (entry_behind x.past (Ended before.number reason)) ∷ [])
ending_turn w before mid now b spent c reason items view x other moves =
    let number : mid.number ≡ before.number = ap (λ (h : HartView). h.number) view in
    let heard : mid.heard ≡ before.heard = ap (λ (h : HartView). h.heard) view in
    turn_behind w before now b c (map Call (items_left in_memory items) ++ Took (entry_behind x.past (Ended before.number reason)) ∷ []) (Did.serves items (Ended before.number reason ∷ [])) x.past
    (x.same ∙ number)
    (x.since.0, x.since.1 ∙ ap (λ (es : List Event). es ++ x.since.0) heard)
    (subst (λ (p : ℕ × List Event). HasNone x.past p.0 (length p.1) (length x.past)) (λ i. (number i, heard i)) x.none)
    (x.heard ∙ ap (λ (n : ℕ). x.past ++ Ended n reason ∷ []) number)
    moves
    (Leaves.entries items (Ended before.number reason) [] [] (Reads.is_another other))

pub ending_trail : (w : Setting) (before mid now : HartView) (spent c : HartState) (reason : HartEnd) (items : List Item) → mid ≡ with_items (map Call (items_left in_memory items)) before
    → (x : EndsTurn w mid now reason spent c)
    → now.trail ≡ before.trail ++ (map Call (items_left in_memory items) ++ Took (entry_behind x.past (Ended before.number reason)) ∷ [])
ending_trail w before mid now spent c reason items view x =
    x.trail
    ∙ ap (λ (h : HartView). h.trail ++ Took (entry_behind x.past (Ended h.number reason)) ∷ []) view
    ∙ append_assoc before.trail (map Call (items_left in_memory items)) (Took (entry_behind x.past (Ended before.number reason)) ∷ [])

-- ---- a turn under the lock

-- what the hart read for it stands before it
pub served_turn : (w : Setting) (before mid now : HartView) (b c : HartState) (read : List TrailItem) → mid.number ≡ before.number → mid.heard ≡ before.heard
    → (x : ServesTurn w mid now b c) → Reads (after (take x.turn.at now.heard)) b read → TakesTurn w before now b c (read ++ x.items)
served_turn w before mid now b c read number heard x reads = record {
  same = x.same ∙ number;
  longer = (x.longer.0, x.longer.1 ∙ ap (λ (es : List Event). es ++ x.longer.0) heard);
  turn = x.turn;
  since = subst (λ (es : List Event). length es ≤ x.turn.at) heard x.since;
  none = subst (λ (p : ℕ × List Event). HasNone now.heard p.0 (length p.1) x.turn.at) (λ i. (number i, heard i)) x.none;
  turns = subst (λ (n : ℕ). TurnsAt w now.heard n x.turn b c) number x.turns;
  last = x.last;
  leaves = x.leaves read reads;
}
