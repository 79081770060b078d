-- Calls of a bus, one after another, stand at the end of its seat's trail.
use Rattle.std.proofs.Common.{◌≡◌, List, [], ◌∷◌, ◌++◌, map, Option, Some, None, sym, ap, subst, ◌∙◌, append-nil, append_assoc}
use Rattle.std.proofs.lemmas.List.{map-append}
use Rattle.rv_hart.specs.declared.bus.Item.{Item}
use Rattle.rv_hart.specs.Items.{items_left, left_by}
use Rattle.rv_hart.specs.Trail.{Chain}
use Rattle.word_rule.specs.declared.view.HartView.{HartView}
use Rattle.word_rule.specs.declared.view.TrailItem.{TrailItem}
use Rattle.word_rule.specs.declared.view.TrailItem.TheVariants.{Call}
use Rattle.word_access.specs.Accesses.{Calls, in_memory, with_items}
use Rattle.hart_moves.specs.Due.{Due}
use Rattle.hart_moves.specs.Harts.{HartState}
use Rattle.hart_turns.specs.Turns.{TakesOwn}
use Rattle.hart_turns.specs.declared.turned.Turned.{Turned}
use Rattle.hart_threads.specs.Quiet.{TakesQuiet}

with_none : (h : HartView) → h ≡ with_items [] h
with_none h = ap (λ (items : List TrailItem). record h { trail = items }) (sym (append-nil h.trail))

with_both : (xs ys : List TrailItem) (h : HartView) → with_items ys (with_items xs h) ≡ with_items (xs ++ ys) h
with_both xs ys h = ap (λ (items : List TrailItem). record h { trail = items }) (append_assoc h.trail xs ys)

pub chain_trail : {B : Type 0} (view : B → HartView) (does : B → Item → B → Type 0) → ((a : B) (i : Item) (b : B) → does a i b → Calls (view a) i (view b))
    → (bus : B) (items : List Item) (end : B) → Chain does bus items end → view end ≡ with_items (map Call (items_left in_memory items)) (view bus)
chain_trail view does calls bus [] end chain = sym (ap view chain) ∙ with_none (view bus)
chain_trail view does calls bus (item ∷ items) end chain =
    chain_trail view does calls chain.0 items end chain.2
    ∙ ap (λ (h : HartView). with_items (map Call (items_left in_memory items)) h) (calls bus item chain.0 chain.1)
    ∙ with_both (map Call (left_by in_memory item)) (map Call (items_left in_memory items)) (view bus)
    ∙ ap (λ (xs : List TrailItem). with_items xs (view bus)) (sym (map-append Call (left_by in_memory item) (items_left in_memory items)))

pub taken : {B : Type 0} (view : B → HartView) (does : B → Item → B → Type 0) → ((a : B) (i : Item) (b : B) → does a i b → Calls (view a) i (view b))
    → (bus bus' : B) (d : Due) (b c : HartState) (result : Option Turned) → TakesOwn does bus bus' d b c result → TakesQuiet (view bus) (view bus') d b c result
taken view does calls bus bus' d b c (Some result) x = (record { items = x.0.items; trail = chain_trail view does calls bus x.0.items bus' x.0.chain; turn = x.0.turn }, x.1)
taken view does calls bus bus' d b c None x = (x.0, ap view x.1, x.2)

pub taken_at : {B : Type 0} (view : B → HartView) (does : B → Item → B → Type 0) → ((a : B) (i : Item) (b : B) → does a i b → Calls (view a) i (view b))
    → (bus bus' : B) (before now : HartView) (d : Due) (b c : HartState) (result : Option Turned) → view bus ≡ before → view bus' ≡ now → TakesOwn does bus bus' d b c result
    → TakesQuiet before now d b c result
taken_at view does calls bus bus' before now d b c result first last x =
    subst (λ (h : HartView). TakesQuiet h now d b c result) first (subst (λ (h : HartView). TakesQuiet (view bus) h d b c result) last (taken view does calls bus bus' d b c result x))

-- what each call leaves, a turn leaves
chain_leaves : {B N : Type 0} (name : B → N) (does : B → Item → B → Type 0) → ((a : B) (i : Item) (b : B) → does a i b → name b ≡ name a)
    → (bus : B) (items : List Item) (end : B) → Chain does bus items end → name end ≡ name bus
chain_leaves name does leaves bus [] end chain = sym (ap name chain)
chain_leaves name does leaves bus (item ∷ items) end chain = chain_leaves name does leaves chain.0 items end chain.2 ∙ leaves bus item chain.0 chain.1

pub turn_leaves : {B N : Type 0} (name : B → N) (does : B → Item → B → Type 0) → ((a : B) (i : Item) (b : B) → does a i b → name b ≡ name a)
    → (bus bus' : B) (d : Due) (b c : HartState) (result : Option Turned) → TakesOwn does bus bus' d b c result → name bus' ≡ name bus
turn_leaves name does leaves bus bus' d b c (Some result) x = chain_leaves name does leaves bus x.0.items bus' x.0.chain
turn_leaves name does leaves bus bus' d b c None x = ap name x.1
