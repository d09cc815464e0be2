use Rattle.bajofeki_rules.proofs.position.Positions.at.Goals as goal

pub place_from-position-requires : goal.place_from-position-requires
place_from-position-requires c = record {
  from = c.self.invariant.1;
  to = rw (← c.self.view_is) at c.requires.boundary;
  ascending = rw (← c.self.view_is) at c.requires.ascending;
  position = c.self.invariant.2;
}

pub invariant_of-self : goal.invariant_of-self
invariant_of-self c = (c.self.invariant.0, rw (← c.self.view_is) at c.requires.boundary, c.place_from-position.ensures)

pub returns-clause-position : goal.returns-clause-position
returns-clause-position c = rw (← c.self.view_is) c.place_from-position.ensures
