-- Parts written one after the other.
use Rattle.std.proofs.Common.{◌≡◌, ℕ, ◌+◌, ◌<◌, List, [], ◌∷◌, ◌++◌, length, get_or, take, map, zero, suc, arith, ap, sym, ◌∙◌, append-nil, append_assoc}
use Rattle.std.specs.List.{flat_map}
use Rattle.std.proofs.lemmas.Grind.{flat_map-append}
use Rattle.std.proofs.lemmas.List.{take_more, map-append, length-take, length-map}
use Rattle.std.specs.Prelude.{encode_utf8, nat_lt, true, if◌then◌else◌}
use Rattle.std.proofs.lemmas.Bool.Decides.{nat_tests}
use Rattle.base_tables.specs.declared.Locale.{Locale}
use Rattle.base_tables.specs.Locale.{argument_separator}
use Rattle.formula_tree.specs.declared.Node.{Node}
use Rattle.formula_tree.specs.declared.Node.TheVariants as node
use Rattle.formula_print.specs.laws.PrintEquations.{printed_empty_argument}
use Rattle.formula_print.specs.declared.style.Style.{Style}
use Rattle.formula_print.specs.Print.{Printed, printed, text_of, later_argument, arguments_text}

-- the parts of the first items and of one more
pub parts_more : {A : Type 0} (part : A → List ℕ) (items : List A) (i : ℕ) (d : A) → i < length items
    → flat_map part (take (i + 1) items) ≡ flat_map part (take i items) ++ part (get_or items i d)
parts_more part items i d h =
    ap (flat_map part) (take_more items i d h) ∙ flat_map-append part (take i items) (get_or items i d ∷ [])
    ∙ ap (λ (z : List ℕ). flat_map part (take i items) ++ z) (append-nil (part (get_or items i d)))

-- one argument more behind some: the separator and the argument's text
arguments_push : (style : Style) (q : Printed) (ps : List Printed) (p : Printed)
    → arguments_text style (q ∷ ps ++ p ∷ []) ≡ arguments_text style (q ∷ ps) ++ (encode_utf8 (argument_separator style.locale) ++ p.text)
arguments_push style q ps p =
    ap (λ (z : List ℕ). q.text ++ z) (flat_map-append (later_argument style) ps (p ∷ []) ∙ ap (λ (z : List ℕ). flat_map (later_argument style) ps ++ z) (append-nil (later_argument style p)))
    ∙ sym (append_assoc q.text (flat_map (later_argument style) ps) (later_argument style p))

is_later : (i : ℕ) → 0 < i → nat_lt 0 i ≡ true
is_later i h = grind (arith, nat_tests)

-- what stands before an argument: nothing before the first one, and else the separator
abbrev pub separator_before : Locale → ℕ → List ℕ
separator_before locale at = if nat_lt 0 at then encode_utf8 (argument_separator locale) else []

separator_later : (locale : Locale) (i : ℕ) → 0 < i → separator_before locale i ≡ encode_utf8 (argument_separator locale)
separator_later locale i h = ap (λ b. if b then encode_utf8 (argument_separator locale) else []) (is_later i h)

arguments_turn : (style : Style) (before : List Printed) (p : Printed) (i : ℕ) → length before ≡ i
    → arguments_text style (before ++ p ∷ []) ≡ arguments_text style before ++ (separator_before style.locale i ++ p.text)
arguments_turn style [] p zero none = append-nil p.text
arguments_turn style [] p (suc i) none = absurd (omega arith)
arguments_turn style (q ∷ before) p zero some = absurd (omega arith)
arguments_turn style (q ∷ before) p (suc i) some =
    arguments_push style q before p ∙ ap (λ (z : List ℕ). arguments_text style (q ∷ before) ++ (z ++ p.text)) (sym (separator_later style.locale (suc i) (omega arith)))

-- the texts of the first arguments, and of one more
pub arguments_more : (style : Style) (nodes : List Node) (i : ℕ) (d : Node) → i < length nodes
    → arguments_text style (map (printed style) (take (i + 1) nodes))
    ≡ arguments_text style (map (printed style) (take i nodes)) ++ (separator_before style.locale i ++ text_of style (get_or nodes i d))
arguments_more style nodes i d h =
    ap (λ xs. arguments_text style (map (printed style) xs)) (take_more nodes i d h)
    ∙ ap (arguments_text style) (map-append (printed style) (take i nodes) (get_or nodes i d ∷ []))
    ∙ arguments_turn style (map (printed style) (take i nodes)) (printed style (get_or nodes i d)) i (omega (arith, length-map (take i nodes) (printed style), length-take i nodes))

-- an empty argument adds nothing
pub nothing_added : (style : Style) (s : List ℕ) → s ++ text_of style node.EmptyArgument ≡ s
nothing_added style s = ap (λ p. s ++ p.text) (printed_empty_argument style) ∙ append-nil s

pub ruleset pieces = (append_assoc, append-nil)

pub ruleset arguments = (arguments_more, append_assoc)

pub ruleset joins = (parts_more, append_assoc)
