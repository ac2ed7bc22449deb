use Rattle.std.proofs.Common.{◌≡◌, ◌∙◌, ap, ap₂, codes, true}
use Rattle.clap.specs.Simple.{Shape, app_of, app_of_fields, new_app, on_top, with_rule}
use Rattle.cep_words.specs.App.{cep_shape}
use Rattle.cep_words.proofs.app.app.Goals as goal

abbrev nameless : Shape → Shape
nameless s = record s { no_binary_name = true }

abbrev helpless : Shape → Shape
helpless s = record s { disable_help_flag = true }

abbrev versionless : Shape → Shape
versionless s = record s { disable_version_flag = true }

pub returns : goal.returns
returns c =
    let first : app_of c.no_binary_name.result ≡ on_top nameless (new_app (codes "cep")) = ap app_of_fields c.no_binary_name.ensures ∙ ap (on_top nameless) c.new.ensures.app in
    let second : app_of c.disable_help_flag.result ≡ on_top helpless (on_top nameless (new_app (codes "cep"))) = ap app_of_fields c.disable_help_flag.ensures ∙ ap (on_top helpless) first in
    let bare : app_of c.disable_version_flag-bare.result ≡ on_top cep_shape (new_app (codes "cep")) = ap app_of_fields c.disable_version_flag-bare.ensures ∙ ap (on_top versionless) second in
    let lag = c.in_ok-with_lag.ensures.shape c.option_arg.ensures.local ∙ ap₂ with_rule bare c.option_arg.ensures.rule in
    let most = c.in_ok-with_rows.ensures.shape c.option_arg-2.ensures.local ∙ ap₂ with_rule lag c.option_arg-2.ensures.rule in
    let header = c.in_ok-with_header.ensures.shape c.flag_arg.ensures.local ∙ ap₂ with_rule most c.flag_arg.ensures.rule in
    let seed = c.in_ok-with_seed.ensures.shape c.option_arg-3.ensures.local ∙ ap₂ with_rule header c.option_arg-3.ensures.rule in
    let count = c.in_ok-with_count.ensures.shape c.option_arg-4.ensures.local ∙ ap₂ with_rule seed c.option_arg-4.ensures.rule in
    let mode = c.in_ok-with_mode.ensures.shape c.word_arg.ensures.local ∙ ap₂ with_rule count c.word_arg.ensures.rule in
    c.in_ok-with_file.ensures.shape c.word_arg-2.ensures.local ∙ ap₂ with_rule mode c.word_arg-2.ensures.rule
