use Rattle.std.proofs.Common.{◌∙◌, ap, codes, false, Option, None}
use Rattle.std.specs.Option.{option_map_or}
use Rattle.std.specs.Str.{bytes_eq}
use Rattle.clap.specs.Words.{found_of}
use Rattle.clap.specs.Walk.{Text}
use Rattle.clap.proofs.WalkLemmas.{first_value-rows}
use Rattle.cep_words.proofs.said.said_in.Goals as goal

pub returns : goal.returns
returns c =
    let f = found_of c.args.matches.now in
    let lag = c.get_str.ensures ∙ first_value-rows f (codes "lag") in
    let most = c.get_str-2.ensures ∙ first_value-rows f (codes "rows") in
    let seed = c.get_str-3.ensures ∙ first_value-rows f (codes "seed") in
    let count = c.get_str-4.ensures ∙ first_value-rows f (codes "count") in
    let header = c.is_true.ensures ∙ ap (λ (o : Option Text). option_map_or (λ t. bytes_eq t (codes "true")) o false) (c.get_str-5.ensures ∙ first_value-rows f (codes "header")) in
    let mode = c.get_str-6.ensures ∙ first_value-rows f (codes "mode") in
    let file = c.get_str-7.ensures ∙ first_value-rows f (codes "file") in
    λ i. record {
      lag = lag i;
      rows = most i;
      seed = seed i;
      count = count i;
      header = header i;
      mode = mode i;
      file = file i;
      waiting = None;
      is_over = false;
    }
