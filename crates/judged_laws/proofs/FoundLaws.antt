-- The place of a match among all ticks, from that among its key's.
use Rattle.std.proofs.Common.{◌≡◌, refl, sym, ◌∙◌, ap, subst, ◌+◌, Bool, cond, true, false, ◌&&◌, List, [], ◌∷◌, ◌++◌, append_assoc}
use Rattle.std.specs.Prelude.{Option}
use Rattle.std.specs.List.{list_any}
use Rattle.cep_event.specs.declared.value.Value.{Value}
use Rattle.cep_plan.specs.declared.plan.Plan.{Plan}
use Rattle.cep_plan.specs.Entry.{Entry}
use Rattle.cep_plan.specs.Partial.{is_match}
use Rattle.cep_plan.specs.Tick.{Tick, events_of}
use Rattle.cep_plan.specs.History.{items_at}
use Rattle.cep_plan.specs.Keys.{is_of_key, ticks_of_key}
use Rattle.recent_laws.specs.Law.{NeverFall}
use Rattle.recent_laws.proofs.KeyLaws.{ticks_of_key-append}
use Rattle.recent_laws.proofs.KeyedLaws.{NeverFall-key}
use Rattle.judged_rows.specs.Place.{is_match_of, tick_after}
use Rattle.judged_laws.specs.Found.{is_given, given_after, FoundAfter}
use Rattle.judged_laws.proofs.GivenLaws.{gives_just}

module _ (plan : Plan) (key : Option Value) (ticks : List Tick) (never : NeverFall [] ticks) (list : List Entry)
    (matched : is_match plan (events_of (ticks_of_key plan key ticks)) list ≡ true) where
  own_tick : (before : List Tick) (tick : Tick) (later : List Tick) → before ++ tick ∷ later ≡ ticks → (b : Bool) → is_of_key plan key tick ≡ b
      → (b && list_any (is_match_of list) (items_at plan (ticks_of_key plan key before) tick))
      ≡ (b && is_given plan (events_of (ticks_of_key plan key ticks)) list (ticks_of_key plan key before) tick)
  own_tick before tick later parts false own = refl
  own_tick before tick later parts true own =
      let split : ticks_of_key plan key ticks ≡ ticks_of_key plan key before ++ tick ∷ ticks_of_key plan key later =
      ap (ticks_of_key plan key) (sym parts) ∙ ticks_of_key-append plan key before (tick ∷ later)
      ∙ ap (λ b. ticks_of_key plan key before ++ cond b (tick ∷ ticks_of_key plan key later) (ticks_of_key plan key later)) own in
      gives_just plan (ticks_of_key plan key before) tick (ticks_of_key plan key later) (subst (NeverFall []) split (NeverFall-key plan key ticks never)) list
      (sym (ap (λ l. is_match plan (events_of l) list) split) ∙ matched)
      ∙ sym (ap (λ l. is_given plan (events_of l) list (ticks_of_key plan key before) tick) split)

  found_from : (before later : List Tick) → before ++ later ≡ ticks
      → tick_after plan key list before later ≡ given_after plan key (events_of (ticks_of_key plan key ticks)) list before later
  found_from before [] parts = refl
  found_from before (tick ∷ later) parts =
      λ i. cond (own_tick before tick later parts (is_of_key plan key tick) refl i) 0
      (found_from (before ++ tick ∷ []) later (append_assoc before (tick ∷ []) later ∙ parts) i + 1)

pub found_after : FoundAfter
found_after plan key ticks never list matched = found_from plan key ticks never list matched [] ticks refl
