-- A claim about a tree, from the same about its top layer.
use Rattle.std.specs.Prelude.{◌≡◌, ℕ}
use Rattle.std.proofs.Common.{ap, sym, subst, ◌∙◌}
use Rattle.formula_tree.specs.declared.Node.{Node, map-Node}
use Rattle.formula_tree.specs.declared.Node.TheFolds.{fold-Node, fold-roll-Node}
use Rattle.formula_tree.specs.declared.Node.TheOpen.{Node-F}
use Rattle.formula_tree.specs.declared.Node.TheViews.{roll-Node}
use Rattle.formula_tree.specs.Depth.{depth_of, layer_depth}
use Rattle.formula_grammar.specs.declared.Profile.{Profile}
use Rattle.formula_grammar.specs.Normal.{Seen, normal_seen, normal_layer}
use Rattle.formula_round.specs.Tokens.{Tokened, tokened, token_layer}
use Rattle.formula_round.proofs.Trees.{Claim, seen_of, Holds}

-- what a fold gives a tree with this top layer
pub fold_at : {A : Type 0} (step : Node-F A → A) (layer : Node-F Node) (tree : Node) → roll-Node layer ≡ tree
    → fold-Node A step tree ≡ step (map-Node Node A (fold-Node A step) layer)
fold_at {A} step layer tree is = ap (fold-Node A step) (sym is) ∙ fold-roll-Node A step layer

module _ (p : Profile) (layer : Node-F Node) where
  abbrev pub layer_tokened : Tokened
  layer_tokened = token_layer p (map-Node Node Tokened (tokened p) layer)

  abbrev pub layer_seen : Seen
  layer_seen = normal_layer p.place p.language (map-Node Node Seen (seen_of p) layer)

  abbrev depth : ℕ
  depth = layer_depth (map-Node Node ℕ depth_of layer)

  module _ (tree : Node) (is : roll-Node layer ≡ tree) where
    pub tokened_at : tokened p tree ≡ layer_tokened
    unfolding tokened
    tokened_at = fold_at (token_layer p) layer tree is

    pub seen_at : seen_of p tree ≡ layer_seen
    unfolding normal_seen
    seen_at = fold_at (normal_layer p.place p.language) layer tree is

    depth_at : depth_of tree ≡ depth
    unfolding depth_of
    depth_at = fold_at layer_depth layer tree is

    pub holds_at : Claim p layer_tokened layer_seen depth tree → Holds p tree
    holds_at claim = subst (λ (c : Type 0). c) (sym (λ i. Claim p (tokened_at i) (seen_at i) (depth_at i) tree)) claim
