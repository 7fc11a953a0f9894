use Rattle.std.proofs.Common.{rules, Some, option_map, ap, sym, ◌∙◌}
use Rattle.std.specs.Str.{chars}
use Rattle.formula_tree.specs.declared.numbers.NumberRule.TheVariants.{Canonical, NotNegative}
use Rattle.formula_read.specs.Lexicon.{IsTokens}
use Rattle.formula_read.proofs.Reading.{nothing_found, only_formula, same_answer, same_found}
use Rattle.formula_read.proofs.Spelled.{spelled_follow}
use Rattle.formula_read.proofs.read.tree_of.Goals as goal

pub returns-in-Some-clause-only : goal.returns-in-Some-clause-only
returns-in-Some-clause-only c =
    only_formula c.args.profile c.args.text.now c.as_slice.result.now c.read_tokens.result
    (λ others spelled. ap Some c.as_slice.ensures.value ∙ ap (option_map (λ found. found.items)) (sym c.in-Some.is) ∙ c.in_ok-tokens.ensures.only others spelled)
    c.read_tokens.ensures.only

pub returns-in-Some-clause-canonical : goal.returns-in-Some-clause-canonical
returns-in-Some-clause-canonical c =
    let spelled : IsTokens c.args.profile.locale c.args.profile.language (chars c.args.text.now) c.as_slice.result.now = search rules in
    c.read_tokens.ensures.numbers Canonical (spelled_follow Canonical c.args.profile.locale c.args.profile.language (chars c.args.text.now) c.as_slice.result.now spelled)

pub returns-in-Some-clause-positive : goal.returns-in-Some-clause-positive
returns-in-Some-clause-positive c =
    let spelled : IsTokens c.args.profile.locale c.args.profile.language (chars c.args.text.now) c.as_slice.result.now = search rules in
    c.read_tokens.ensures.numbers NotNegative (spelled_follow NotNegative c.args.profile.locale c.args.profile.language (chars c.args.text.now) c.as_slice.result.now spelled)

pub returns-in-Some-clause-value : goal.returns-in-Some-clause-value
returns-in-Some-clause-value c =
    let p = c.args.profile in
    let text = c.args.text.now in
    let ts = c.as_slice.result.now in
    let spelled : IsTokens p.locale p.language (chars text) ts = search rules in
    same_found p text ts c.read_tokens.result (c.text_spells_one_list.ensures.spelled p.locale p.language (chars text) ts spelled)
    (same_answer p ts c.read_tokens.result (c.tokens_derive_one_tree.ensures.read p ts) (c.tokens_derive_one_tree.ensures.derived p ts) c.read_tokens.ensures.found c.read_tokens.ensures.only)

pub returns-in-None-clause-value : goal.returns-in-None-clause-value
returns-in-None-clause-value c =
    let p = c.args.profile in
    let text = c.args.text.now in
    nothing_found p text (c.text_spells_one_list.ensures.read p.locale p.language (chars text))
    (λ ts spelled. ap (option_map (λ found. found.items)) (sym c.in-None.is) ∙ c.in_ok-tokens.ensures.only ts spelled)
