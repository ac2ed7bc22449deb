use Rattle.dewey_version.proofs.Version.compare.Goals as goal

pub returns : goal.returns
returns c = rw (← c.self.view_is, ← c.other.view_is, ← c.as_slice.ensures, ← c.as_slice-2.ensures) c.cmp.ensures
