-- How bytes that aren't handed out as lines yet are kept.
use Rattle.std.specs.Prelude.{◌-◌, ◌≤◌, length, take, drop}
use Rattle.cep_rows.specs.Feed.{HasNoFeed}
use Rattle.cep_rows.specs.declared.lines.Lines.TheInside.{Inside}

-- The bytes before `start` were handed out. In those behind it, so many have no line feed.
pub record IsKept (lines : Inside) : Type 0 where
  pub within : lines.start ≤ length lines.bytes.items
  pub searched : lines.searched ≤ length lines.bytes.items - lines.start
  pub limit : lines.searched ≤ 65537
  pub none : HasNoFeed (take lines.searched (drop lines.start lines.bytes.items))
