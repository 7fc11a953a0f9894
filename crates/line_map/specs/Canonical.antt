-- Kept rules whose numbers are canonical, and kept rules that are inside the sheet.
use Rattle.std.specs.Prelude.{ℕ, IfSome}
use Rattle.std.specs.Ordering.{nat_cmp}
use Rattle.std.specs.FinMap.{FinMap, get}
use Rattle.format_rules.specs.declared.ConditionalFormatting.{ConditionalFormatting}
use Rattle.format_rules.specs.Canonical.{IsCanonicalFormatting}
use Rattle.format_rules.specs.Fitting.{RuleInside}

abbrev pub AreCanonicalKept : FinMap nat_cmp ConditionalFormatting → Type 0
AreCanonicalKept kept = (place : ℕ) → IfSome (get kept place) IsCanonicalFormatting

abbrev pub KeptInside : FinMap nat_cmp ConditionalFormatting → Type 0
KeptInside kept = (place : ℕ) → IfSome (get kept place) RuleInside
