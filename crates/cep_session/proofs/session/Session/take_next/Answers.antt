use Rattle.std.proofs.lemmas.Result.{err_from_is_err_and}
use Rattle.cep_session.specs.Rows.{Stands}
use Rattle.cep_session.proofs.Steps.{has_room, stops_many, stops_no_memory, stops_long, line_stops, line_goes}
use Rattle.cep_session.proofs.session.Session.take_next.Goals as goal

pub returns-else-is_empty-clause-goes : goal.returns-else-is_empty-clause-goes
returns-else-is_empty-clause-goes g c =
    λ m start left base going. stops_many g.H.Handler.stands m start left base _ c.args.self.now going (λ none. cc (c.is_empty.ensures.1 none)) (c.is_full.ensures.0 c.if-is_full.true)

pub returns-in_err-take-in-Ok-Line-clause-goes : goal.returns-in_err-take-in-Ok-Line-clause-goes
returns-in_err-take-in-Ok-Line-clause-goes g c =
    let ready = c.requires.ready.1 in
    let room = has_room _ _ _ _ c.is_full.ensures c.if-is_full.false ready.rows.count ready.progress.few in
    let gives = rw c.in-Ok-Line.field-0-is at c.in-Ok-Line.ensures.ok in
    λ m start left base going.
    let stops = line_stops g.H.Handler.stands m start left base _ c.args.self.now going c.in-Ok-Line.line c.next_line.new.self gives room (λ lines. Stands g.H.Handler.stands m lines c.take.new.self) _ _ (c.in_err-take-in-Ok-Line.ensures.taken m going.handled going.rows) in
    let p = err_from_is_err_and c.from_residual.result c.from_residual.ensures.1 in
    rw (p.1, p.2) stops

pub returns-in_ok-take-in-Ok-Line-clause-goes : goal.returns-in_ok-take-in-Ok-Line-clause-goes
returns-in_ok-take-in-Ok-Line-clause-goes g c =
    let ready = c.requires.ready.1 in
    let room = has_room _ _ _ _ c.is_full.ensures c.if-is_full.false ready.rows.count ready.progress.few in
    let gives = rw c.in-Ok-Line.field-0-is at c.in-Ok-Line.ensures.ok in
    λ m start left base going.
    line_goes g.H.Handler.stands m start left base _ c.args.self.now going c.in-Ok-Line.line c.next_line.new.self gives room _ _ c.take.ensures.allowed (c.in_ok-take-in-Ok-Line.ensures.taken m going.handled going.rows)

pub returns-in-Ok-TooLong-clause-goes : goal.returns-in-Ok-TooLong-clause-goes
returns-in-Ok-TooLong-clause-goes g c =
    let ready = c.requires.ready.1 in
    let room = has_room _ _ _ _ c.is_full.ensures c.if-is_full.false ready.rows.count ready.progress.few in
    let gives = rw c.in-Ok-TooLong.field-0-is at c.in-Ok-TooLong.ensures.ok in
    λ m start left base going.
    rw (c.too_long.ensures m going.handled going.rows) (stops_long g.H.Handler.stands m start left base _ c.args.self.now going room gives.1 gives.2)

pub returns-in-Err-clause-goes : goal.returns-in-Err-clause-goes
returns-in-Err-clause-goes g c = λ m start left base going. stops_no_memory g.H.Handler.stands m start left base _ c.args.self.now going
