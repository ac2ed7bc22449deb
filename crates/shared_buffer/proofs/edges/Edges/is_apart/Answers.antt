use Rattle.std.proofs.Common.{◌∙◌, sym}
use Rattle.shared_buffer.proofs.ConditionLaws.{all-IsApartFrom, IsApartFrom-all}
use Rattle.shared_buffer.proofs.edges.Edges.is_apart.Goals as goal

pub returns : goal.returns
returns c =
    rw (← c.self.view_is) (
      λ all. all-IsApartFrom c.args.label.now c.self.inside.list.items (sym c.are_apart.ensures ∙ all),
      λ apart. c.are_apart.ensures ∙ IsApartFrom-all c.args.label.now c.self.inside.list.items apart,
    )
