use Rattle.std.specs.Str.{chars}
use Rattle.formula_read.proofs.Reading.{formula_is_read, one_tree}
use Rattle.formula_read.proofs.read.text_has_one_tree.Goals as goal

pub returns-clause-one : goal.returns-clause-one
returns-clause-one c profile text a b =
    one_tree profile text a b (c.text_spells_one_list.ensures.one profile.locale profile.language (chars text)) (λ tokens. c.tokens_derive_one_tree.ensures.one profile tokens a b)

pub returns-clause-formula : goal.returns-clause-formula
returns-clause-formula c profile text tree formula = c.tokens_derive_one_tree.ensures.formula profile formula.tokens tree formula.derives

pub returns-clause-read : goal.returns-clause-read
returns-clause-read c profile text =
    formula_is_read profile text (c.text_spells_one_list.ensures.read profile.locale profile.language (chars text)) (c.text_spells_one_list.ensures.spelled profile.locale profile.language (chars text))
    (c.tokens_derive_one_tree.ensures.read profile) (c.tokens_derive_one_tree.ensures.derived profile)
    (λ tree formula. c.tokens_derive_one_tree.ensures.formula profile formula.tokens tree formula.derives)
