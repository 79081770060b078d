-- What is told of a turn.
use Rattle.std.proofs.Common.{◌≡◌, ℕ, List, Option, sym, subst}
use Rattle.ld_base.specs.declared.linking.File.{File}
use Rattle.history_event.specs.declared.event.Event.{Event}
use Rattle.history_state.specs.After.{after}
use Rattle.link_state.specs.Table.{LinkTable}
use Rattle.rv_hart.specs.declared.doubleword.Doubleword.{Doubleword}
use Rattle.hart_moves.specs.Due.{due}
use Rattle.hart_seat.specs.Table.{HartTable}
use Rattle.world_answers.specs.ReturnsPart.Settling.{harts_in}
use Rattle.world_answers.specs.GuestsPart.GuestWorlds.Worlds.{world_of}
use Rattle.world_answers.specs.declared.guests.guest_worlds.turn.Turn.{Turn}
use Rattle.world_answers.specs.GuestsPart.Lemmas.Turns.{counts_nothing, opens_nothing, tells_nothing}
use Rattle.world_answers.specs.GuestsPart.Next.{NeverWaits, NextIsNoCall, NextOpens, NextRefusalIsCounted, NextTells}
use Rattle.world_turns.specs.Run.{settled}
use Rattle.world_turns.specs.World.{World}
use Rattle.plain_world.specs.Inside.{table_of}
use Rattle.plain_world.specs.Table.{WorldTable, moved}
use Rattle.plain_world.specs.declared.world.World.TheInside.{Inside}
use Rattle.plain_world.proofs.Parts.{same_world}

-- ---- of one that is no call

pub alone_tells : (count : ℕ) (folders : List (List ℕ)) (files : Option (List File)) (old : World) (events : List Event) (h : ℕ) (came : Turn)
    → NextIsNoCall old h → NeverWaits came → NextTells count folders files old events h came
alone_tells count folders files old events h came no_call never = λ b at w on.
    tells_nothing w (settled old).journal events h (due (after (settled old).journal) b) came (no_call b at) never

pub alone_opens : (count : ℕ) (folders : List (List ℕ)) (files : Option (List File)) (failures failures' : ℕ) (old : World) (events : List Event) (h : ℕ) (came : Turn)
    → NextIsNoCall old h → NextOpens count folders files failures failures' old events h came
alone_opens count folders files failures failures' old events h came no_call = λ b at.
    opens_nothing count folders files failures failures' (settled old).journal events h came (due (after (settled old).journal) b) (no_call b at)

pub alone_counts : (folders : List (List ℕ)) (old : World) (events : List Event) (h failures failures' misses misses' : ℕ) → NextIsNoCall old h
    → NextRefusalIsCounted folders old events h failures failures' misses misses'
alone_counts folders old events h failures failures' misses misses' no_call = λ b at.
    counts_nothing folders (settled old).journal events h (due (after (settled old).journal) b) failures failures' misses misses' (no_call b at)

-- ---- what was found as it had been

pub from_same : (Holds : ℕ → World → Type 0) (old new : LinkTable) (words words' : List Doubleword) (before behind : List HartTable) → new ≡ old → words' ≡ words
    → harts_in behind ≡ harts_in before → Holds new.harts (world_of new words' behind) → Holds old.harts (world_of old words before)
from_same Holds old new words words' before behind state memory harts holds =
    subst (λ (v : World). Holds old.harts v) (same_world old new words words' before behind state memory harts)
    (subst (λ (s : LinkTable). Holds s.harts (world_of new words' behind)) state holds)

-- ---- as contracts see it

pub turn_seen : (Holds : WorldTable → World → Type 0) (run : Inside) (lent : List HartTable) (seen : WorldTable) (new : LinkTable) (left : List Doubleword)
    (behind kept : List HartTable) → lent ≡ run.harts.items → table_of run ≡ seen → kept ≡ behind
    → Holds (moved (table_of run) (world_of run.state run.memory lent)) (world_of new left behind) → Holds seen (world_of new left kept)
turn_seen Holds run lent seen new left behind kept value view stays holds =
    subst (λ (hs : List HartTable). Holds seen (world_of new left hs)) (sym stays)
    (subst (λ (t : WorldTable). Holds t (world_of new left behind)) view
    (subst (λ (hs : List HartTable). Holds (moved (table_of run) (world_of run.state run.memory hs)) (world_of new left behind)) value holds))
