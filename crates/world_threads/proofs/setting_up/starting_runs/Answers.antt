use Rattle.std.proofs.Common.{◌≡◌, ℕ, List, ◌++◌, drop, length, map, take, ap, subst, ◌∙◌, append-nil, arith}
use Rattle.std.specs.List.{Contains}
use Rattle.std.proofs.lemmas.List.{drop_all, take_all}
use Rattle.std.proofs.lemmas.Option.{slice_get-get_or}
use Rattle.world_threads.proofs.setting_up.starting_runs.Goals as goal

-- the elements that a slice of them all wrote back
written : {X : Type 0} (old new : List X) (count : ℕ) → length new ≡ length old → count ≡ length old → take count (new ++ drop (length new) old) ≡ new
written old new count long is =
    ap (λ xs. take count (new ++ xs)) (drop_all (length new) old (omega (arith, long))) ∙ ap (take count) (append-nil new) ∙ take_all count new (omega (arith, long, is))

pub returns-clause-set_off : goal.returns-clause-set_off
returns-clause-set_off g c =
    let value = c.as_mut_slice.ensures.value in
    let whole = written c.in_ok-runs.runs.items c.first_before.new.runs c.in_ok-runs.runs.len (omega (arith, c.first_before.auto.runs, ap length value)) c.in_ok-runs.runs.ok.0 in
    record {
      seats_are = ap (map (λ r. r.seat)) whole ∙ c.first_before.ensures.seats ∙ ap (map (λ r. r.seat)) value ∙ c.in_ok-runs.ensures.seats;
      harts_are = ap (map (λ r. r.hart.hart)) whole
          ∙ c.in_ok-first_before.ensures.harts c.args.fuel c.args.entries.now (slice_get-get_or c.args.entries.now 0 (record { pc = 0; sp = 0; tp = 0; a0 = 0 }) c.requires.some)
          (ap (map (λ r. r.hart.hart)) value ∙ c.in_ok-runs.ensures.harts);
      keep_none = λ b there. c.in_ok-runs.ensures.blocks b
          (subst (λ l. Contains l b) (ap (map (λ r. r.blocks)) whole ∙ c.first_before.ensures.blocks ∙ ap (map (λ r. r.blocks)) value) there);
    }
