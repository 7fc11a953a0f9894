-- `==` of progressions and their parts is equality of their values.
use denote.Enum.Bare.{same_true, true_same}
use Rattle.std.proofs.Common.{◌≡◌, ap}
use Rattle.std.specs.Bool.{Decides}
use Rattle.std.specs.Cmp.{signed_Decides}
use Rattle.std.specs.Cmp.Lexicographic.{bytes_decides}
use Rattle.std.proofs.lemmas.Bool.Decides.{Decides-like, Decides-and}
use Rattle.base_tables.specs.laws.LocaleEquals.{locale_equals}
use Rattle.sheet_progress.specs.declared.steps.Steps.{Steps}
use Rattle.sheet_progress.specs.contracts.steps.StepsPartialEq.TheImpl as steps
use Rattle.sheet_progress.specs.declared.case.CaseStyle.{CaseStyle}
use Rattle.sheet_progress.specs.contracts.case.CaseStyle as case_style_type
use Rattle.sheet_progress.specs.contracts.case.CaseStylePartialEq.TheImpl as case_style
use Rattle.sheet_progress.specs.declared.names.NameList.{NameList}
use Rattle.sheet_progress.specs.contracts.names.NameList as name_list_type
use Rattle.sheet_progress.specs.contracts.names.NameListPartialEq.TheImpl as name_list
use Rattle.sheet_progress.specs.declared.progression.NumericProgression.{NumericProgression}
use Rattle.sheet_progress.specs.contracts.progression.NumericProgressionPartialEq.TheImpl as numeric
use Rattle.sheet_progress.specs.declared.progression.SuffixedProgression.{SuffixedProgression}
use Rattle.sheet_progress.specs.contracts.progression.SuffixedProgressionPartialEq.TheImpl as suffixed
use Rattle.sheet_progress.specs.declared.progression.DateProgression.{DateProgression}
use Rattle.sheet_progress.specs.contracts.progression.DateProgressionPartialEq.TheImpl as date
use Rattle.sheet_progress.specs.declared.progression.Progression.{Progression}
use Rattle.sheet_progress.specs.declared.progression.Progression.TheVariants.{Numeric, SuffixedNumber, Date}
use Rattle.sheet_progress.specs.contracts.progression.ProgressionPartialEq.TheImpl as progression

pub steps_equals : (a b : Steps) → Decides (steps.ghosts.eq a b) (a ≡ b)
steps_equals a b =
    Decides-like _ (λ p i. record { last = p.0 i; step = p.1 i }) (λ e. (ap (λ x. x.last) e, ap (λ x. x.step) e))
    (Decides-and _ _ (signed_Decides a.last b.last) (signed_Decides a.step b.step))

pub case_style_equals : (a b : CaseStyle) → Decides (case_style.ghosts.eq a b) (a ≡ b)
case_style_equals a b = (same_true case_style_type.the_type tt a b, true_same case_style_type.the_type a b)

pub name_list_equals : (a b : NameList) → Decides (name_list.ghosts.eq a b) (a ≡ b)
name_list_equals a b = (same_true name_list_type.the_type tt a b, true_same name_list_type.the_type a b)

pub numeric_equals : (a b : NumericProgression) → Decides (numeric.ghosts.eq a b) (a ≡ b)
numeric_equals a b =
    Decides-like _ (λ p i. record { steps = p.0 i; locale = p.1 i }) (λ e. (ap (λ x. x.steps) e, ap (λ x. x.locale) e))
    (Decides-and _ _ (steps_equals _ _) (locale_equals _ _))

pub suffixed_equals : (a b : SuffixedProgression) → Decides (suffixed.ghosts.eq a b) (a ≡ b)
suffixed_equals a b =
    Decides-like _ (λ p i. record { prefix = p.0 i; numbers = p.1 i }) (λ e. (ap (λ x. x.prefix) e, ap (λ x. x.numbers) e))
    (Decides-and _ _ (bytes_decides _ _) (numeric_equals _ _))

pub date_equals : (a b : DateProgression) → Decides (date.ghosts.eq a b) (a ≡ b)
date_equals a b =
    Decides-like _ (λ p i. record { places = p.0 i; list = p.1.0 i; locale = p.1.1.0 i; style = p.1.1.1 i })
    (λ e. (ap (λ x. x.places) e, (ap (λ x. x.list) e, (ap (λ x. x.locale) e, ap (λ x. x.style) e))))
    (Decides-and _ _ (steps_equals _ _) (Decides-and _ _ (name_list_equals _ _) (Decides-and _ _ (locale_equals _ _) (case_style_equals _ _))))

pub progression_equals : (a b : Progression) → Decides (progression.ghosts.eq a b) (a ≡ b)
progression_equals (Numeric a) (Numeric b) = Decides-like _ (ap Numeric) (λ e. cc) (numeric_equals a b)
progression_equals (SuffixedNumber a) (SuffixedNumber b) = Decides-like _ (ap SuffixedNumber) (λ e. cc) (suffixed_equals a b)
progression_equals (Date a) (Date b) = Decides-like _ (ap Date) (λ e. cc) (date_equals a b)
progression_equals _ _ = (λ e. cc, λ e. cc)
