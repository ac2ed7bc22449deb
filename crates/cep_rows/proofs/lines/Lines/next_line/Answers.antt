use Rattle.std.proofs.Common.{◌≤◌, ℕ, List, length, take, drop, refl, ap, subst, arith, length-drop}
use Rattle.cep_rows.specs.Feed.{HasNoFeed}
use Rattle.cep_rows.proofs.Feeds.{no_feed_short, searched_front, from_place}
use Rattle.cep_rows.proofs.lines.Lines.next_line.Goals as goal
use Rattle.cep_rows.proofs.lines.Lines.next_line.Goals.{then-count-gt-LIMIT, else-count-gt-LIMIT}

pub invariant_of-self-in-None : goal.invariant_of-self-in-None
invariant_of-self-in-None c =
    let start = c.self.inside.start in
    let bytes = c.self.inside.bytes.items in
    let same = from_place c.deref.result.now bytes (drop start bytes) start c.deref.ensures.value refl in
    let none : HasNoFeed (take 65537 (drop start bytes)) = subst (λ (left : List ℕ). HasNoFeed (take 65537 left)) same c.in-None.ensures in
    let size = length-drop start bytes in
    let long = ap length same in
    record {
      within = c.self.invariant.within;
      searched = omega arith;
      limit = omega arith;
      none = searched_front (drop start bytes) _ (omega arith) none;
    }

pub returns-after-count-gt-LIMIT-clause-ok : goal.returns-after-count-gt-LIMIT-clause-ok
returns-after-count-gt-LIMIT-clause-ok c =
    let now = c.args.self.now in
    let same = from_place c.deref.result.now c.self.inside.bytes.items now c.self.inside.start c.deref.ensures.value c.self.view_is in
    let none : HasNoFeed (take 65537 now) = subst (λ (left : List ℕ). HasNoFeed (take 65537 left)) same c.in-None.ensures in
    let long = ap length same in
    elim c.if-count-gt-LIMIT.branch [
      | then-count-gt-LIMIT w ↦ rw w.result-is (c.self.view_is, omega arith, none)
      | else-count-gt-LIMIT w ↦
          let short : length now ≤ 65536 = omega arith in
          rw w.result-is (c.self.view_is, no_feed_short now 65537 (omega arith) none, short)
    ]
