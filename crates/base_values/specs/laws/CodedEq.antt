-- Laws of the test of equality that every type with a code has.
use Rattle.std.proofs.Common.{◌≡◌, ℕ, Bool, refl, ap, sym}
use Rattle.std.specs.Bool.{Decides}
use Rattle.std.specs.Cmp.{IsEquivalence, IsPartialEquivalence, unsigned_Decides, partial_equiv_from_equiv}
use Rattle.std.specs.Coded.{Coded}
use Rattle.std.proofs.lemmas.Bool.Decides.{Decides-like, Decides-and, same_from_decides}
use base.Stored.{Gv, gnil, gnum, gcons}
use Rattle.base_values.specs.CodedEq.{same_code, same_value}

number : Gv → ℕ
number gnil = 0
number (gnum n) = n
number (gcons a b) = 0

first : Gv → Gv
first gnil = gnil
first (gnum n) = gnil
first (gcons a b) = a

second : Gv → Gv
second gnil = gnil
second (gnum n) = gnil
second (gcons a b) = b

same_code_decides : (g h : Gv) → Decides (same_code g h) (g ≡ h)
unfolding same_code number first second
same_code_decides gnil gnil = (λ _. refl, λ _. refl)
same_code_decides (gnum m) (gnum n) = Decides-like _ (ap gnum) (ap number) (unsigned_Decides m n)
same_code_decides (gcons a b) (gcons c d) =
    Decides-like _ (λ p i. gcons (p.0 i) (p.1 i)) (λ e. (ap first e, ap second e)) (Decides-and _ _ (same_code_decides a c) (same_code_decides b d))
same_code_decides _ _ = (λ e. cc, λ e. cc)

pub same_value_decides : {A : Type 0} (c : Coded A) (a b : A) → Decides (same_value c a b) (a ≡ b)
unfolding same_value
same_value_decides c a b = Decides-like _ (c.inj a b) (ap c.code) (same_code_decides (c.code a) (c.code b))

pub same_value_equiv : {A : Type 0} (c : Coded A) → IsEquivalence (same_value c)
same_value_equiv c = record {
  refl = λ x. (same_value_decides c x x).1 refl;
  symm = λ x y. same_from_decides _ _ (same_value_decides c x y) (Decides-like _ sym sym (same_value_decides c y x));
  congr = λ x y z e. ap (λ v. same_value c v z) ((same_value_decides c x y).0 e);
}

pub same_value_laws : {A : Type 0} (c : Coded A) → IsPartialEquivalence (same_value c)
same_value_laws c = partial_equiv_from_equiv (same_value_equiv c)

-- a test that is exact is this one
pub is_same_value : {A : Type 0} (c : Coded A) (a b : A) (r : Bool) → Decides r (a ≡ b) → r ≡ same_value c a b
is_same_value c a b r h = same_from_decides r (same_value c a b) h (same_value_decides c a b)
