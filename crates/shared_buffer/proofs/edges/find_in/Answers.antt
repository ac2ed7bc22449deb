use Rattle.std.proofs.Common.{rules, ◌-◌, ◌<◌, length, sym, ◌∙◌, arith}
use Rattle.shared_buffer.specs.Edges.{is_above}
use Rattle.shared_buffer.proofs.ListLaws.{place_bound}
use Rattle.shared_buffer.proofs.OrderLaws.{found_none, found_leads, found_fails}
use Rattle.shared_buffer.proofs.edges.find_in.Goals as goal

pub returns-then-above-eq0 : goal.returns-then-above-eq0
returns-then-above-eq0 c =
    sym (found_none c.args.version.now c.args.edges.now.items c.requires c.first_above-above.result c.first_above-above.ensures (search rules))

pub index-edge-requires : goal.index-edge-requires
index-edge-requires c =
    let within : c.first_above-above.result - 1 < length c.args.edges.now.items =
    omega (arith, c.first_above-above.ensures, place_bound (is_above c.args.version.now) c.args.edges.now.items) in
    search (rules, within)

pub returns-then-begins : goal.returns-then-begins
returns-then-begins c =
    let within : c.first_above-above.result - 1 < length c.args.edges.now.items =
    omega (arith, c.first_above-above.ensures, place_bound (is_above c.args.version.now) c.args.edges.now.items) in
    sym (found_leads c.args.version.now c.args.edges.now.items c.requires c.first_above-above.result c.first_above-above.ensures
    c.index-edge.result.now c.index-edge.ensures within (sym c.begins.ensures ∙ c.if-begins.true))

pub returns-else-begins : goal.returns-else-begins
returns-else-begins c =
    let within : c.first_above-above.result - 1 < length c.args.edges.now.items =
    omega (arith, c.first_above-above.ensures, place_bound (is_above c.args.version.now) c.args.edges.now.items) in
    sym (found_fails c.args.version.now c.args.edges.now.items c.requires c.first_above-above.result c.first_above-above.ensures
    c.index-edge.result.now c.index-edge.ensures within (sym c.begins.ensures ∙ c.if-begins.false))
