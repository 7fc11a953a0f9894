use Rattle.std.specs.Prelude.{◌≡◌, ◌≤◌, true, false}
use Rattle.formula_tree.specs.Depth.{depth_of}
use Rattle.formula_tree.specs.Numbers.{numbers_follow}
use Rattle.formula_tree.specs.ParseError.{is_parse_error}
use Rattle.formula_tree.specs.Placed.{is_placed}
use Rattle.formula_grammar.specs.Grammar.{Derives}
use Rattle.formula_grammar.proofs.Laws.{derived_follows, derived_formula, derived_placed, found_has, only_this}
use Rattle.formula_grammar.proofs.read.read_tokens.Goals as goal

pub returns : goal.returns
returns c =
    let p = c.args.profile in
    let ts = c.args.tokens.now in
    let has = found_has p ts c.tree_of.result c.tree_of.ensures.tree in
    record {
      found = has (Derives p ts) (λ tree d. d);
      only = only_this p ts c.tree_of.result c.tree_of.ensures.tree;
      formula = has (λ tree. is_parse_error tree ≡ false) (derived_formula p ts);
      placed = has (λ tree. is_placed p.place tree ≡ true) (derived_placed p ts);
      shallow = has (λ tree. depth_of tree ≤ 64) (λ tree d. d.shallow);
      numbers = λ rule follow. has (λ tree. numbers_follow rule tree ≡ true) (derived_follows rule p ts follow);
      memory = c.tree_of.ensures.memory;
    }
