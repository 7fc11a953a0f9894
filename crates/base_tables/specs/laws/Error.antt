-- Laws of the error values: their numbers, and how they are written.
use Rattle.std.proofs.Common.{subst, refl, ◌∙◌}
use Rattle.std.specs.Prelude.{◌≡◌, ℕ, Option, Some, List}
use Rattle.base_tables.specs.declared.error.Error.{Error}
use Rattle.base_tables.specs.declared.error.Error.TheVariants.{Ref}
use Rattle.base_tables.specs.declared.language.Language.{Language}
use Rattle.base_tables.specs.declared.language.Language.TheVariants.{En, De, Fr, Es}
use Rattle.base_tables.specs.Error.{error_text, error_of_text}

-- each language reads an error's text as the error
pub error_of_text-error_text : (language : Language) (error : Error) → error_of_text language (error_text error) ≡ Some error
error_of_text-error_text En Ref = refl
error_of_text-error_text De Ref = refl
error_of_text-error_text Fr Ref = refl
error_of_text-error_text Es Ref = refl
error_of_text-error_text _ _ = refl

pub read_back : (language : Language) (text : List ℕ) (error : Error) (read : Option Error) → read ≡ error_of_text language text → error_text error ≡ text → read ≡ Some error
read_back language text error read e f = e ∙ subst (λ t. error_of_text language t ≡ Some error) f (error_of_text-error_text language error)
