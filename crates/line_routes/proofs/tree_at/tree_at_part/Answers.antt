use Rattle.std.proofs.Common.{◌≡◌, Option, Some, None, ap, sym, ◌∙◌}
use Rattle.std.specs.Prelude.{if◌then◌else◌}
use Rattle.std.proofs.lemmas.Result.{IfOk-weaker}
use Rattle.line_routes.specs.declared.tree_at.TreeAt.{TreeAt}
use Rattle.line_routes.specs.MustKeep.{must_keep_tree}
use Rattle.line_routes.specs.TreeAt.{tree_at_part}
use Rattle.line_routes.specs.RouteModel.{route_model}
use Rattle.line_routes.specs.laws.KeptAloneLaws.{tree_at_part_told}
use Rattle.line_routes.proofs.tree_at.tree_at_part.Goals as goal

pub returns-clause-part : goal.returns-clause-part
returns-clause-part g c =
    let w = route_model c.args.route.now in
    let tree = c.args.tree.now in
    let Kept : Option TreeAt → Type 0 = λ part. part ≡ (if c.must_keep_tree.result then Some tree else None) in
    let IsPart : Option TreeAt → Type 0 = λ part. part ≡ tree_at_part w tree in
    let told : c.must_keep_tree.result ≡ must_keep_tree w tree =
    c.must_keep_tree.ensures ∙ (λ i. must_keep_tree w (record tree { sheet = c.as_str-own.ensures i; edited = c.as_str-edited.ensures i })) in
    let e : (if c.must_keep_tree.result then Some tree else None) ≡ tree_at_part w tree =
    ap (λ b. if b then Some tree else None) told ∙ sym (tree_at_part_told w c.is_route.ensures tree c.requires) in
    IfOk-weaker c.kept_where.result Kept IsPart (λ part is. is ∙ e) c.kept_where.ensures.part
