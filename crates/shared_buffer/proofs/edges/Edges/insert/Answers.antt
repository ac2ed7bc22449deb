use Rattle.std.proofs.Common.{rules, ◌≤◌, length, ap, sym, ◌∙◌, subst, arith}
use Rattle.std.specs.List.{insert}
use Rattle.shared_buffer.specs.Edges.{is_above, IsInOrder}
use Rattle.shared_buffer.proofs.ListLaws.{place_bound, insert-place}
use Rattle.shared_buffer.proofs.OrderLaws.{IsInOrder-put}
use Rattle.shared_buffer.proofs.edges.Edges.insert.Goals as goal

pub insert-requires : goal.insert-requires
insert-requires c =
    let within : c.first_above-place.result ≤ length c.self.inside.list.items =
    omega (arith, c.first_above-place.ensures, place_bound (is_above c.args.edge.label) c.self.inside.list.items) in
    search (rules, within)

pub invariant_of-self-2 : goal.invariant_of-self-2
invariant_of-self-2 c =
    subst IsInOrder
    (sym (c.in_ok-insert.ensures.items
    ∙ ap (λ k. insert c.self.inside.list.items k c.args.edge) c.first_above-place.ensures
    ∙ insert-place (is_above c.args.edge.label) c.args.edge c.self.inside.list.items))
    (IsInOrder-put c.args.edge c.self.inside.list.items c.self.invariant (rw (← c.self.view_is) at c.requires))

pub returns-clause-ok : goal.returns-clause-ok
returns-clause-ok c =
    rw (← c.self.view_is)
    (c.in_ok-insert.ensures.items
    ∙ ap (λ k. insert c.self.inside.list.items k c.args.edge) c.first_above-place.ensures
    ∙ insert-place (is_above c.args.edge.label) c.args.edge c.self.inside.list.items)
