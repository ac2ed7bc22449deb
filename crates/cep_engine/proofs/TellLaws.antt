-- The dues of a moment one after another: what was told so far, and what is owed from there on.
use Rattle.std.proofs.Common.{◌≡◌, refl, sym, ◌∙◌, ap, subst, List, [], ◌∷◌, ◌++◌, append_assoc, map}
use Rattle.std.proofs.lemmas.List.{append-nil}
use Rattle.cep_event.specs.declared.event.Event.{Event}
use Rattle.cep_plan.specs.declared.plan.Plan.{Plan}
use Rattle.cep_plan.specs.declared.item.Taken.{Taken}
use Rattle.cep_plan.specs.declared.item.Due.{Due}
use Rattle.cep_plan.specs.Entry.{taken_of}
use Rattle.live_laws.specs.Starts.{Scope, waiting_at, closing_at, without_due}
use Rattle.shared_buffer.specs.Content.{Content as BufferContent}
use Rattle.run_step.specs.Content.{Content}
use Rattle.due_laws.specs.Due.{told_along, scope_after}
use Rattle.cep_engine.specs.Running.{RunsStand}
use Rattle.cep_engine.proofs.LoopLaws.{map-joined}

-- of all dues, these lists were told, and these dues are left
pub record Owes (plan : Plan) (events : List Event) (start : Scope) (all : List Due) (timeouts closed : List (List Taken)) (content : Content)
    (buffer : BufferContent) (dues : List Due) : Type 0 where
  pub scope : Scope
  pub stands : RunsStand plan events scope content buffer
  pub timeouts_are :
      map (taken_of events) (told_along (waiting_at plan events) start all)
      ≡ timeouts ++ map (taken_of events) (told_along (waiting_at plan events) scope dues)
  pub closed_are :
      map (taken_of events) (told_along (closing_at plan events) start all)
      ≡ closed ++ map (taken_of events) (told_along (closing_at plan events) scope dues)
  pub after_is : scope_after start all ≡ scope_after scope dues

module _ (plan : Plan) (events : List Event) (start : Scope) (all : List Due) where
  pub owes_first : (content : Content) (buffer : BufferContent) (timeouts closed : List (List Taken)) → timeouts ≡ [] → closed ≡ []
      → RunsStand plan events start content buffer → Owes plan events start all timeouts closed content buffer all
  owes_first content buffer timeouts closed no_timeout no_closed stands = record {
    scope = start;
    stands = stands;
    timeouts_are = λ i. sym no_timeout i ++ map (taken_of events) (told_along (waiting_at plan events) start all);
    closed_are = λ i. sym no_closed i ++ map (taken_of events) (told_along (closing_at plan events) start all);
    after_is = refl;
  }

  pub owes_next :
      (content new : Content) (buffer new_buffer : BufferContent) (timeouts closed more_timeouts more_closed : List (List Taken)) (due : Due) (dues : List Due)
      → ((scope : Scope) → RunsStand plan events scope content buffer
      → more_timeouts ≡ timeouts ++ map (taken_of events) (waiting_at plan events scope due))
      → ((scope : Scope) → RunsStand plan events scope content buffer → more_closed ≡ closed ++ map (taken_of events) (closing_at plan events scope due))
      → ((scope : Scope) → RunsStand plan events scope content buffer → RunsStand plan events (without_due scope due) new new_buffer)
      → Owes plan events start all timeouts closed content buffer (due ∷ dues) → Owes plan events start all more_timeouts more_closed new new_buffer dues
  owes_next content new buffer new_buffer timeouts closed more_timeouts more_closed due dues tells closes ends owes =
      let scope = owes.scope in
      let told = told_along (waiting_at plan events) (without_due scope due) dues in
      let shut = told_along (closing_at plan events) (without_due scope due) dues in
      record {
        scope = without_due scope due;
        stands = ends scope owes.stands;
        timeouts_are = owes.timeouts_are
            ∙ ap (λ r. timeouts ++ r) (map-joined (taken_of events) (waiting_at plan events scope due) told)
            ∙ sym (append_assoc timeouts (map (taken_of events) (waiting_at plan events scope due)) (map (taken_of events) told))
            ∙ ap (λ ts. ts ++ map (taken_of events) told) (sym (tells scope owes.stands));
        closed_are = owes.closed_are
            ∙ ap (λ r. closed ++ r) (map-joined (taken_of events) (closing_at plan events scope due) shut)
            ∙ sym (append_assoc closed (map (taken_of events) (closing_at plan events scope due)) (map (taken_of events) shut))
            ∙ ap (λ ts. ts ++ map (taken_of events) shut) (sym (closes scope owes.stands));
        after_is = owes.after_is;
      }

  module _ (content : Content) (buffer : BufferContent) (timeouts closed : List (List Taken)) (dues : List Due)
      (owes : Owes plan events start all timeouts closed content buffer dues) (none : dues ≡ []) where
    pub told_timeouts : timeouts ≡ map (taken_of events) (told_along (waiting_at plan events) start all)
    told_timeouts =
        sym (owes.timeouts_are ∙ ap (λ ds. timeouts ++ map (taken_of events) (told_along (waiting_at plan events) owes.scope ds)) none ∙ append-nil timeouts)

    pub told_closed : closed ≡ map (taken_of events) (told_along (closing_at plan events) start all)
    told_closed =
        sym (owes.closed_are ∙ ap (λ ds. closed ++ map (taken_of events) (told_along (closing_at plan events) owes.scope ds)) none ∙ append-nil closed)

    pub stands_after : RunsStand plan events (scope_after start all) content buffer
    stands_after =
        subst (λ (s : Scope). RunsStand plan events s content buffer) (sym (owes.after_is ∙ ap (scope_after owes.scope) none)) owes.stands
