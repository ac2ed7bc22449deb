-- What a load run counts over its generated lines, how much is held meanwhile, and the summary that it prints (this project's own).
use Rattle.std.specs.Prelude.{ℕ, Bool, true, false, List, [], ◌∷◌, ◌++◌, length, Option}
use Rattle.std.specs.List.{count_by}
use Rattle.std.specs.Option.{option_to_list}
use Rattle.cep_event.specs.declared.record.LineRecord.{LineRecord}
use Rattle.cep_load.specs.Lines.{generated_lines}
use Rattle.cep_load.specs.Summary.{summary_of}
use Rattle.cep_plan.specs.declared.item.Item.{Item}
use Rattle.cep_plan.specs.declared.item.Item.TheVariants.{Match, Timeout}
use Rattle.cep_plan.specs.declared.plan.Plan.{Plan}
use Rattle.cep_plan.specs.EventTime.{all_ticks}
use Rattle.cep_words.specs.declared.options.Options.{Options}
use Rattle.cep_cli.specs.declared.load.Counts.{Counts}
use Rattle.event_pipeline.specs.Told.{kept_items, late_in}
use Rattle.cep_session.specs.Meaning.{whole}
use Rattle.shared_buffer.specs.declared.buffer.Held.{Held}
use Rattle.sharing_laws.specs.Sizes.{greatest_held}
use Rattle.cep_cli.specs.Meaning.{sizes_of_lines}
use Rattle.cep_cli.specs.Records.{records_of}

-- the rows of the late events among records that come after others
abbrev pub late_rows : Option ℕ → List LineRecord → List LineRecord → List ℕ
late_rows lag before [] = []
late_rows lag before (next ∷ later) = option_to_list (late_in lag before next) ++ late_rows lag (before ++ next ∷ []) later

abbrev pub is_match : Item → Bool
is_match (Match list) = true
is_match (Timeout list) = false

abbrev pub is_timeout : Item → Bool
is_timeout (Match list) = false
is_timeout (Timeout list) = true

-- how many late rows there are, and how many matches and timeouts among the items
abbrev pub counts_of : List ℕ → List Item → Counts
counts_of late items = record { late = length late; matches = count_by is_match items; timeouts = count_by is_timeout items }

-- the same for all that a run over these records tells, the end included
abbrev pub whole_counts : Option ℕ → Plan → List LineRecord → Counts
whole_counts lag plan records = counts_of (late_rows lag [] records) (kept_items plan (all_ticks lag records))

-- how much is held after each tick of a run of the plan over the lines that these options ask for, but for that of time End
abbrev pub load_sizes : Options → Plan → List Held
load_sizes options plan = whole (sizes_of_lines false options.lag plan) (generated_lines plan.types options.seed options.count)

abbrev pub summary_with : ℕ → Counts → ℕ → List ℕ
summary_with rows counts greatest = summary_of rows counts.late counts.matches counts.timeouts greatest

-- the summary of a run of the plan over the lines that these options ask for
abbrev pub load_summary : Options → Plan → List ℕ
load_summary options plan =
    let lines = generated_lines plan.types options.seed options.count in
    summary_with options.count (whole_counts options.lag plan (records_of false plan.types lines)) (greatest_held (load_sizes options plan))
