-- `==` of edits and of blocks is equality of their values.
use Rattle.std.proofs.Common.{◌≡◌, true, refl, ap}
use Rattle.std.specs.Bool.{Decides}
use Rattle.std.specs.Cmp.{signed_Decides}
use Rattle.std.proofs.lemmas.Bool.Decides.{Decides-like, Decides-and}
use Rattle.line_edits.specs.declared.edit.Block.{Block}
use Rattle.line_edits.specs.contracts.edit.BlockPartialEq.TheImpl as block
use Rattle.line_edits.specs.declared.edit.EditKind.{EditKind}
use Rattle.line_edits.specs.declared.edit.EditKind.TheVariants.{Insert, Delete, Move}
use Rattle.line_edits.specs.contracts.edit.EditKindPartialEq.TheImpl as edit_kind

pub kind_equals : (a b : EditKind) → Decides (edit_kind.ghosts.eq a b) (a ≡ b)
kind_equals (Insert m n) (Insert p q) =
    Decides-like _ (λ h i. Insert (h.0 i) (h.1 i)) (λ e. (first_of e, count_of e)) (Decides-and _ _ (signed_Decides _ _) (signed_Decides _ _))
  where
    first_of : Insert m n ≡ Insert p q → m ≡ p
    first_of e = cc

    count_of : Insert m n ≡ Insert p q → n ≡ q
    count_of e = cc
kind_equals (Delete m n) (Delete p q) =
    Decides-like _ (λ h i. Delete (h.0 i) (h.1 i)) (λ e. (first_of e, count_of e)) (Decides-and _ _ (signed_Decides _ _) (signed_Decides _ _))
  where
    first_of : Delete m n ≡ Delete p q → m ≡ p
    first_of e = cc

    count_of : Delete m n ≡ Delete p q → n ≡ q
    count_of e = cc
kind_equals (Move m n k) (Move p q l) =
    Decides-like _ (λ h i. Move (h.0 i) (h.1.0 i) (h.1.1 i)) (λ e. (first_of e, (count_of e, delta_of e)))
    (Decides-and _ _ (signed_Decides _ _) (Decides-and _ _ (signed_Decides _ _) (signed_Decides _ _)))
  where
    first_of : Move m n k ≡ Move p q l → m ≡ p
    first_of e = cc

    count_of : Move m n k ≡ Move p q l → n ≡ q
    count_of e = cc

    delta_of : Move m n k ≡ Move p q l → k ≡ l
    delta_of e = cc
kind_equals (Insert _ _) (Delete _ _) = (λ e. cc, λ e. cc)
kind_equals (Insert _ _) (Move _ _ _) = (λ e. cc, λ e. cc)
kind_equals (Delete _ _) (Move _ _ _) = (λ e. cc, λ e. cc)
kind_equals (Move _ _ _) (Insert _ _) = (λ e. cc, λ e. cc)
kind_equals (Move _ _ _) (Delete _ _) = (λ e. cc, λ e. cc)
kind_equals (Delete _ _) (Insert _ _) = (λ e. cc, λ e. cc)

pub block_equals : (a b : Block) → Decides (block.ghosts.eq a b) (a ≡ b)
block_equals a b =
    Decides-like _ (λ p i. record { first = p.0 i; count = p.1 i }) (λ e. (ap (λ x. x.first) e, ap (λ x. x.count) e))
    (Decides-and _ _ (signed_Decides a.first b.first) (signed_Decides a.count b.count))

-- a value is itself
pub own_value : {X : Type 0} (x : X) → Decides true (x ≡ x)
own_value x = (λ _. refl, λ _. refl)
