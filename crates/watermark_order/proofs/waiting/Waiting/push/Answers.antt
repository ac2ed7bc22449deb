use Rattle.std.proofs.Common.{◌∙◌, sym, ap, ◌<◌, is_ok, rules, to_z-of_z, SFits, w64}
use Rattle.std.specs.BTreeMap.{insert_entry}
use Rattle.std.specs.Map.{values_of}
use Rattle.watermark_order.specs.Held.{is_behind}
use Rattle.watermark_order.proofs.HeldLaws.{key_cmp, upward-behind, upward-pushed, each-held, pushed-behind, pushed-aside, aside-held}
use Rattle.watermark_order.proofs.waiting.Waiting.push.Goals as goal

pub invariant_of-self-then-is_behind : goal.invariant_of-self-then-is_behind
invariant_of-self-then-is_behind c =
    let rows = each-held (λ y. y.row < c.args.event.row) c.self.inside.queue.items (values_of c.self.inside.aside.entries) c.args.self.now c.self.view_is c.requires.rows in
    let fits : SFits w64 c.args.event.ts = search rules in
    record {
      queue_upward =
          upward-pushed (is_ok c.push_back.result) c.self.inside.queue.items c.push_back.new.self.items c.args.event c.push_back.ensures.items
          c.self.invariant.queue_upward
          (upward-behind c.self.inside.queue.items c.args.event c.self.invariant.queue_upward rows.0
          (ap (is_behind c.self.inside.queue.items) (sym (to_z-of_z fits)) ∙ sym c.is_behind.ensures ∙ c.if-is_behind.true));
      aside_upward = c.self.invariant.aside_upward;
      keyed = c.self.invariant.keyed;
    }

pub invariant_of-self-else-is_behind : goal.invariant_of-self-else-is_behind
invariant_of-self-else-is_behind c =
    let rows = each-held (λ y. y.row < c.args.event.row) c.self.inside.queue.items (values_of c.self.inside.aside.entries) c.args.self.now c.self.view_is c.requires.rows in
    let fits : SFits w64 c.args.event.ts = search rules in
    let put = c.in_ok-insert.ensures.entries ∙ ap (λ time. insert_entry key_cmp c.self.inside.aside.entries (time, c.args.event.row) c.args.event) (to_z-of_z fits) in
    let held = aside-held c.self.inside.aside.entries c.insert.new.self.entries c.args.event c.self.invariant.keyed c.self.invariant.aside_upward rows.1 put in
    record { queue_upward = c.self.invariant.queue_upward; aside_upward = held.0; keyed = held.1 }

pub returns-in_ok-push_back-clause-ok : goal.returns-in_ok-push_back-clause-ok
returns-in_ok-push_back-clause-ok c =
    let rows = each-held (λ y. y.row < c.args.event.row) c.self.inside.queue.items (values_of c.self.inside.aside.entries) c.args.self.now c.self.view_is c.requires.rows in
    pushed-behind c.self.inside.queue.items c.push_back.new.self.items (values_of c.self.inside.aside.entries) c.args.self.now c.args.event
    c.self.view_is rows.0 c.in_ok-push_back.ensures.items

pub returns-in_ok-insert-clause-ok : goal.returns-in_ok-insert-clause-ok
returns-in_ok-insert-clause-ok c =
    let rows = each-held (λ y. y.row < c.args.event.row) c.self.inside.queue.items (values_of c.self.inside.aside.entries) c.args.self.now c.self.view_is c.requires.rows in
    let fits : SFits w64 c.args.event.ts = search rules in
    let put = c.in_ok-insert.ensures.entries ∙ ap (λ time. insert_entry key_cmp c.self.inside.aside.entries (time, c.args.event.row) c.args.event) (to_z-of_z fits) in
    pushed-aside c.self.inside.queue.items c.self.inside.aside.entries c.insert.new.self.entries c.args.self.now c.args.event c.self.view_is
    c.self.invariant.keyed rows.0 rows.1 put
