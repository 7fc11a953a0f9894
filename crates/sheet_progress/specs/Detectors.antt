-- When `==` says that two detectors are equal.
use Rattle.std.specs.Prelude.{◌≡◌}
use Rattle.std.specs.Bool.{Decides}
use Rattle.sheet_progress.specs.declared.detect.DateProgressionDetector.{DateProgressionDetector}
use Rattle.sheet_progress.specs.contracts.detect.DateProgressionDetectorPartialEq.TheImpl as equality

-- `==` of detectors of names tells whether they have one locale and seeds of one text
abbrev pub TellsSameDetectors : Type 0
TellsSameDetectors = (a b : DateProgressionDetector) → Decides (equality.ghosts.eq a b) ((a.locale ≡ b.locale) × (a.case_seed.now ≡ b.case_seed.now))
