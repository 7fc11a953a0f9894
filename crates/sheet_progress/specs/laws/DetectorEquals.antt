-- `==` of detectors is equality of their values, and for a seed equality of its text.
use Rattle.std.proofs.Common.{◌≡◌, ap}
use Rattle.std.specs.Bool.{Decides}
use Rattle.std.specs.Cmp.Lexicographic.{bytes_decides}
use Rattle.std.proofs.lemmas.Bool.Decides.{Decides-like, Decides-and}
use Rattle.base_tables.specs.laws.LocaleEquals.{locale_equals}
use Rattle.sheet_progress.specs.declared.detect.NumericProgressionDetector.{NumericProgressionDetector}
use Rattle.sheet_progress.specs.contracts.detect.NumericProgressionDetectorPartialEq.TheImpl as numeric
use Rattle.sheet_progress.specs.declared.detect.SuffixedNumberDetector.{SuffixedNumberDetector}
use Rattle.sheet_progress.specs.contracts.detect.SuffixedNumberDetectorPartialEq.TheImpl as suffixed
use Rattle.sheet_progress.specs.Detectors.{TellsSameDetectors}

pub numeric_detector_equals : (a b : NumericProgressionDetector) → Decides (numeric.ghosts.eq a b) (a ≡ b)
numeric_detector_equals a b = Decides-like _ (λ p i. record { locale = p i }) (ap (λ x. x.locale)) (locale_equals a.locale b.locale)

pub suffixed_detector_equals : (a b : SuffixedNumberDetector) → Decides (suffixed.ghosts.eq a b) (a ≡ b)
suffixed_detector_equals a b = Decides-like _ (λ p i. record { locale = p i }) (ap (λ x. x.locale)) (locale_equals a.locale b.locale)

pub date_detector_equals : TellsSameDetectors
date_detector_equals a b = Decides-and _ _ (locale_equals a.locale b.locale) (bytes_decides a.case_seed.now b.case_seed.now)
