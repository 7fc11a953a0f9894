-- Contents whose trees are changed: what stays of them, and when they come back.
use Rattle.std.proofs.Common.{◌≡◌, Option, Some, None, refl, ap, sym, subst, ◌∙◌}
use Rattle.std.specs.Prelude.{IfSome, IsTrue}
use Rattle.std.specs.Option.{option_map, option_map_or}
use Rattle.formula_tree.specs.declared.Node.{Node}
use Rattle.formula_tree.specs.Numbers.{has_canonical_numbers}
use Rattle.cell_content.specs.declared.content.Content.{Content}
use Rattle.cell_content.specs.CanonicalContent.{IsCanonicalContent}
use Rattle.cell_content.specs.Lens.{tree_of, with_tree, content_changed}
use Rattle.cell_content.specs.laws.LensLaws.{tree_of-with_tree, tree_of-kept, with_own_tree, with_tree-with_tree, with_tree-kept}

module _ (change : Node → Node) (content : Content) where
  abbrev changed_at : Option Node → Content
  changed_at o = option_map_or (λ tree. with_tree content (change tree)) o content

  -- one without a tree stays
  pub changed_none : tree_of content ≡ None → content_changed change content ≡ content
  changed_none h = ap changed_at h

  -- of another one the tree is changed
  pub changed_some : (tree : Node) → tree_of content ≡ Some tree → content_changed change content ≡ with_tree content (change tree)
  changed_some tree h = ap changed_at h

  -- so one stays whose tree does
  pub unchanged : (tree : Node) → tree_of content ≡ Some tree → change tree ≡ tree → content_changed change content ≡ content
  unchanged tree h stays = changed_some tree h ∙ ap (with_tree content) stays ∙ with_own_tree content tree h

  tree_at : (o : Option Node) → tree_of content ≡ o → tree_of (content_changed change content) ≡ option_map change o
  tree_at None h = ap tree_of (changed_none h) ∙ h
  tree_at (Some tree) h = ap tree_of (changed_some tree h) ∙ tree_of-with_tree content (change tree) ∙ ap (option_map (λ _. change tree)) h

  -- the tree of a changed content is the changed tree
  pub tree_of-changed : tree_of (content_changed change content) ≡ option_map change (tree_of content)
  tree_of-changed = tree_at (tree_of content) refl

  changed_if : (P : Node → Type 0) (o : Option Node) → ((tree : Node) → o ≡ Some tree → P (change tree)) → IfSome (option_map change o) P
  changed_if P None each = tt
  changed_if P (Some tree) each = each tree refl

  -- what holds of the changed tree holds of the tree of the changed content
  pub changed_tree : (P : Node → Type 0) → ((tree : Node) → tree_of content ≡ Some tree → P (change tree)) → IfSome (tree_of (content_changed change content)) P
  changed_tree P each = subst (λ o. IfSome o P) (sym tree_of-changed) (changed_if P (tree_of content) each)

  -- a content whose tree is changed gets it back by putting it in
  pub put_back : (tree : Node) → tree_of content ≡ Some tree → with_tree (content_changed change content) tree ≡ content
  put_back tree h =
      ap (λ c. with_tree c tree) (changed_some tree h) ∙ with_tree-with_tree content (change tree) tree ∙ with_own_tree content tree h

  canonical_at : (o : Option Node) → tree_of content ≡ o → IsCanonicalContent content → IfSome o (λ tree. IsTrue (has_canonical_numbers (change tree))) →
      IsCanonicalContent (content_changed change content)
  canonical_at None h own numbers = subst IsCanonicalContent (sym (changed_none h)) own
  canonical_at (Some tree) h own numbers = subst IsCanonicalContent (sym (changed_some tree h)) (with_tree-kept content (change tree) own numbers)

  -- numbers stay canonical where those of the tree do
  pub changed-kept : ((tree : Node) → IsTrue (has_canonical_numbers tree) → IsTrue (has_canonical_numbers (change tree))) → IsCanonicalContent content →
      IsCanonicalContent (content_changed change content)
  changed-kept stays own = canonical_at (tree_of content) refl own (go (tree_of content) (tree_of-kept content own))
    where
      go : (o : Option Node) → IfSome o (λ tree. IsTrue (has_canonical_numbers tree)) → IfSome o (λ tree. IsTrue (has_canonical_numbers (change tree)))
      go None h = tt
      go (Some tree) h = stays tree h

-- a content comes back where its tree does
pub changed_back : (there back : Node → Node) (content : Content) → ((tree : Node) → tree_of content ≡ Some tree → back (there tree) ≡ tree) →
    content_changed back (content_changed there content) ≡ content
changed_back there back content each = go (tree_of content) refl
  where
    go : (o : Option Node) → tree_of content ≡ o → content_changed back (content_changed there content) ≡ content
    go None h = ap (content_changed back) (changed_none there content h) ∙ changed_none back content h
    go (Some tree) h =
        changed_some back (content_changed there content) (there tree) (tree_of-changed there content ∙ ap (option_map there) h)
        ∙ ap (with_tree (content_changed there content)) (each tree h)
        ∙ put_back there content tree h
