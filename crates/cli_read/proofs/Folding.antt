-- Arguments, one by one.
use Rattle.std.proofs.Common.{◌≡◌, ℕ, ◌<◌, ◌+◌, true, List, [], ◌∷◌, ◌++◌, fold, get_or, length, map, take, Bor, refl, sym, ap, ◌∙◌}
use Rattle.std.proofs.lemmas.List.{map_more}
use Rattle.clap.specs.Simple.{App, new_app, new_rule, with_rule}
use Rattle.clap.specs.Walk.{Rule, Text}
use Rattle.cli_read.specs.declared.clap_words.form.Form.{Form}
use Rattle.cli_read.specs.declared.clap_words.form.Form.TheVariants as forms
use Rattle.cli_read.specs.ClapWords.Forms.{app_of, names_of, option_rule, options_of}

fold_end : (app : App) (xs : List Rule) (y : Rule) → fold with_rule app (xs ++ y ∷ []) ≡ with_rule (fold with_rule app xs) y
fold_end app [] y = refl
fold_end app (x ∷ xs) y = fold_end (with_rule app x) xs y

pub grown : {X : Type 0} (g : X → Rule) (app : App) (xs : List X) (k : ℕ) (d : X) (before after : App) → k < length xs → before ≡ fold with_rule app (map g (take k xs))
    → after ≡ with_rule before (g (get_or xs k d)) → after ≡ fold with_rule app (map g (take (k + 1) xs))
grown g app xs k d before after less so_far made =
    made ∙ ap (λ (a : App). with_rule a (g (get_or xs k d))) so_far ∙ sym (fold_end app (map g (take k xs)) (g (get_or xs k d)))
    ∙ sym (ap (fold with_rule app) (map_more g xs k d less))

-- a command without arguments, and without a help flag
abbrev pub without_help : App → App
without_help a = record a { top = record a.top { disable_help_flag = true } }

pub by_name : (names : List (Bor Text)) → map (λ n. new_rule n.now) names ≡ map new_rule (map (λ n. n.now) names)
by_name [] = refl
by_name (n ∷ names) = ap (λ (rs : List Rule). new_rule n.now ∷ rs) (by_name names)

pub whole : (name : Text) (form : Form) → fold with_rule (fold with_rule (without_help (new_app name)) (map option_rule (options_of form))) (map new_rule (names_of form)) ≡ app_of name form
whole name forms.Bind = refl
whole name forms.Turns = refl
whole name forms.Run = refl
whole name forms.Check = refl
whole name forms.Path = refl
whole name forms.Number = refl
