use Rattle.ldso_cli.proofs.Told.{gen_comes, played_set}
use Rattle.ldso_cli.proofs.generate.generate.Goals as goal

pub returns : goal.returns
returns c =
    let files = c.in_ok-files.files in
    let played = c.in_ok-played.played in
    let comes =
    gen_comes c.args.number files c.play.new.library.misses played c.told.result c.in_ok-files.ensures
    (played_set files c.in_ok-setup.setup c.new-in_order.result c.new-library.result c.play.new.library played c.in_ok-setup.ensures c.new-in_order.ensures c.new-library.ensures c.in_ok-played.ensures.files c.in_ok-played.ensures.plays)
    c.told.ensures.end c.told.ensures.text in
    record { comes = comes }
