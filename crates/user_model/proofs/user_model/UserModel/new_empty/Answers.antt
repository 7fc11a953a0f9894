use Rattle.std.proofs.Common.{sym, subst}
use Rattle.sheet_rules.specs.WellFormed.{IsWellFormed}
use Rattle.sheet_rules.specs.laws.WellFormedLaws.{well_formed-new}
use Rattle.user_model.proofs.user_model.UserModel.new_empty.Goals as goal

pub open-requires : goal.open-requires
open-requires g c = record { rules = subst IsWellFormed (sym (c.in_ok-workbook.ensures {u = _}).output) (well_formed-new c.args.name.now c.in_ok-locale.locale c.in_ok-zone.zone) }
