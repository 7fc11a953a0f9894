use Rattle.std.proofs.Common.{subst, sym}
use Rattle.sheet_rules.specs.WellFormed.{IsWellFormed}
use Rattle.sheet_actions.specs.laws.FollowedWellFormed.{followed_well_formed}
use Rattle.sheet_actions.specs.laws.Placed.{placed_from_well_formed}
use Rattle.sheet_actions.proofs.model.Model.edit_lines.Goals as goal

pub followed_book-requires-clause-placed : goal.followed_book-requires-clause-placed
followed_book-requires-clause-placed g c = placed_from_well_formed c.args.self.now.workbook c.args.self.now.rules

pub invariant_of-self : goal.invariant_of-self
invariant_of-self g c = record {
  rules = subst IsWellFormed (sym (c.in_ok-self.ensures {u = _}).book)
      (followed_well_formed g.A.Axis.along g.met.A.Axis.lawful c.args.edit.now.kind c.requires.valid c.args.id c.args.self.now.workbook c.args.self.now.rules c.requires.allowed);
}
