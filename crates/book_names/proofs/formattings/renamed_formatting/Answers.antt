use Rattle.book_names.specs.laws.Formattings.{any_trees}
use Rattle.book_names.proofs.formattings.renamed_formatting.Goals as goal

pub change_trees-requires : goal.change_trees-requires
change_trees-requires c = any_trees c.args.formatting.now.rule
