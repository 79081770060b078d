-- An option is the only one of its name.
use Rattle.std.specs.Prelude.{◌≡◌, true, Some}
use Rattle.std.proofs.Common.{refl, sym, ap, ◌∙◌}
use Rattle.std.proofs.lemmas.Slice.Eq.{bytes_eq-Decides}
use Rattle.cli_words.specs.declared.switch.Switch.{Switch}
use Rattle.cli_words.specs.declared.switch.Switch.TheVariants as switches
use Rattle.cli_words.specs.Options.{all_switches, is_switch, name_of, option_in}

named : (c : Switch) → option_in all_switches (name_of c) ≡ Some c
named switches.Lib = refl
named switches.Preload = refl
named switches.Harts = refl
named switches.Fuel = refl
named switches.Now = refl
named switches.Trace = refl

pub one_switch : (c d : Switch) → is_switch c d ≡ true → c ≡ d
one_switch c d same =
    let e : Some c ≡ Some d = sym (named c) ∙ ap (option_in all_switches) ((bytes_eq-Decides (name_of c) (name_of d)).0 same) ∙ named d in
    cc
