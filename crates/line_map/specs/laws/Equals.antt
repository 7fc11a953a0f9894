-- `==` of what is kept is equality of its values.
use Rattle.std.proofs.Common.{◌≡◌, Bool, refl, ap}
use Rattle.std.specs.Prelude.{◌&&◌}
use Rattle.std.specs.Bool.{Decides}
use Rattle.std.proofs.lemmas.Bool.Decides.{Decides-like, Decides-and}
use Rattle.line_map.specs.declared.contents.Nothing.{Nothing}
use Rattle.line_map.specs.contracts.contents.NothingPartialEq.TheImpl as nothing

pub nothing_equals : (a b : Nothing) → Decides (nothing.ghosts.eq a b) (a ≡ b)
nothing_equals a b = (λ _. refl, λ _. refl)

-- what has two parts is equal where both are
pub both_equal : {K L P : Type 0} {f : L → L → Bool} {g : P → P → Bool} (lost : K → L) (parts : K → P) →
    ((a b : K) → lost a ≡ lost b → parts a ≡ parts b → a ≡ b) →
    ((a b : L) → Decides (f a b) (a ≡ b)) → ((a b : P) → Decides (g a b) (a ≡ b)) →
    (a b : K) → Decides (f (lost a) (lost b) && g (parts a) (parts b)) (a ≡ b)
both_equal lost parts same one other a b =
    Decides-like _ (λ p. same a b p.0 p.1) (λ e. (ap lost e, ap parts e)) (Decides-and _ _ (one (lost a) (lost b)) (other (parts a) (parts b)))
