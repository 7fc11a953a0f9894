use Rattle.std.proofs.Common.{◌≡◌, ℕ, List, ◌++◌, Result, Ok, Err, ap, ◌∙◌, append_assoc}
use Rattle.std.specs.Prelude.{OnOk}
use Rattle.std.specs.List.{flat_map}
use Rattle.script_dump.specs.Dump.{book_line, name_line, theme_lines}
use Rattle.script_dump.proofs.dump.push_head.Goals as goal

if_ok : {T E P Q : Type 0} (r : Result T E) → (P → Q) → OnOk r P → OnOk r Q
if_ok (Ok x) f p = f p
if_ok (Err e) f p = tt

-- three lists, one behind another
behind : (first a b c x y z : List ℕ) → x ≡ first ++ a → y ≡ x ++ b → z ≡ y ++ c → z ≡ first ++ (a ++ (b ++ c))
behind first a b c x y z one two three =
    three ∙ ap (λ l. l ++ c) (two ∙ ap (λ l. l ++ b) one) ∙ append_assoc (first ++ a) b c ∙ append_assoc first a (b ++ c)

pub returns-clause-text : goal.returns-clause-text
returns-clause-text c =
    let book = c.args.workbook.now in
    if_ok c.push_names.result
    (behind c.args.out.now.items (book_line book) (theme_lines book.theme) (flat_map name_line book.names) _ _ _ c.in_ok-push_book_line.ensures
    (c.in_ok-push_theme.ensures ∙ ap (λ theme. c.push_book_line.new.out.items ++ theme_lines theme) c.theme.ensures))
    c.push_names.ensures.text
