-- The refusals of a value at a path, and what it leaves of a font.
use Rattle.std.proofs.Common.{◌≡◌, ◌≢◌, ℕ, ℤ, pos, ◌+ℤ◌, Bool, true, false, cond, ◌&&◌, List, length, Option, Some, None, Result, Ok, Err, refl, sym, subst, ◌∙◌}
use Rattle.std.specs.Prelude.{◌==◌, IsTrue, int_le}
use Rattle.std.specs.Option.{option_and_then, option_map}
use Rattle.base_values.specs.Answers.{and_then, ok_or}
use Rattle.base_values.specs.declared.error.EditError.{EditError}
use Rattle.base_values.specs.declared.error.EditError.TheVariants.{NoMemory, StylePath as NoPath, StyleValue as NoValue}
use Rattle.base_tables.specs.Tables.{entry_named}
use Rattle.base_styles.specs.declared.style.Font.{Font}
use Rattle.base_styles.specs.declared.style.Style.{Style}
use Rattle.style_edits.specs.declared.path.FontPath.{FontPath}
use Rattle.style_edits.specs.declared.path.FontPath.TheVariants.{Bold, Italic, Underline, Strike, Color, Size, SizeDelta}
use Rattle.style_edits.specs.declared.path.StylePath.{StylePath}
use Rattle.style_edits.specs.declared.path.StylePath.TheVariants.{Font as OfFont, Fill, NumberFormat, Alignment as WholeAlignment, AlignmentPart}
use Rattle.style_edits.specs.Paths.{all_paths, path_name}
use Rattle.style_edits.specs.Updates.{alignment_after, alignment_of, font_after, style_after, updated_style}
use Rattle.style_edits.specs.Values.{boolean_of, color_of, font_size, grown_size, size_of, whole_number}

-- ---- refusals

-- a path and a text have one refusal, whatever the style: it is not out of memory, and it is of the text where some style may have it
pub record IsUpdateError (path text : List ℕ) (error : EditError) : Type 0 where
  pub sure : error ≢ NoMemory
  pub value : (style changed : Style) → updated_style style path text ≡ Ok changed → error ≡ NoValue
  pub one : (style : Style) (other : EditError) → updated_style style path text ≡ Err other → error ≡ other

abbrev style_at : Option StylePath → Style → List ℕ → Result Style EditError
style_at found style text = and_then (ok_or NoPath found) (λ path. ok_or NoValue (style_after path style text))

abbrev refusal_at : Option StylePath → EditError
refusal_at None = NoPath
refusal_at (Some path) = NoValue

refused : (found : Option StylePath) (style : Style) (text : List ℕ) (error : EditError) → style_at found style text ≡ Err error → error ≡ refusal_at found
refused None style text error is = let same : ◌≡◌ {A = Result Style EditError} (Err NoPath) (Err error) = is in cc
refused (Some path) style text error is = at_value (style_after path style text) is
  where
    at_value : (o : Option Style) → ok_or NoValue o ≡ Err error → error ≡ NoValue
    at_value None is = let same : ◌≡◌ {A = Result Style EditError} (Err NoValue) (Err error) = is in cc
    at_value (Some changed) is = absurd (let never : ◌≡◌ {A = Result Style EditError} (Ok changed) (Err error) = is in cc)

no_memory : (found : Option StylePath) → refusal_at found ≢ NoMemory
no_memory None is = absurd (let never : NoPath ≡ NoMemory = is in cc)
no_memory (Some path) is = absurd (let never : NoValue ≡ NoMemory = is in cc)

of_value : (found : Option StylePath) (style : Style) (text : List ℕ) (changed : Style) → style_at found style text ≡ Ok changed → refusal_at found ≡ NoValue
of_value None style text changed is = absurd (let never : ◌≡◌ {A = Result Style EditError} (Err NoPath) (Ok changed) = is in cc)
of_value (Some path) style text changed is = refl

pub updated_error : (style : Style) (path text : List ℕ) (error : EditError) → updated_style style path text ≡ Err error → IsUpdateError path text error
updated_error style path text error is =
    let found = entry_named path_name all_paths path in
    let same : error ≡ refusal_at found = refused found style text error is in
    record {
      sure = λ short. no_memory found (sym same ∙ short);
      value = λ other changed done. same ∙ of_value found other text changed done;
      one = λ other refusal no. same ∙ sym (refused found other text refusal no);
    }

-- ---- fonts

-- a size of 1 or more
abbrev pub has_font : Style → Bool
has_font style = int_le (pos 1) style.font.sz

one_value : {A : Type 0} (a b : A) → Some a ≡ Some b → a ≡ b
one_value a b is = cc

-- what holds of each value that a function makes holds of the value there is
mapped : {A B : Type 0} (P : B → Type 0) (f : A → B) (o : Option A) → ((a : A) → o ≡ Some a → P (f a)) → (b : B) → option_map f o ≡ Some b → P b
mapped P f None each b is = absurd (let never : None ≡ Some b = is in cc)
mapped P f (Some a) each b is = subst P (one_value (f a) b is) (each a refl)

is_size : (n size : ℤ) → font_size n ≡ Some size → IsTrue (int_le (pos 1) size)
is_size n size is = go (int_le (pos 1) n) (int_le n (pos 2147483647)) refl is
  where
    go : (a b : Bool) → int_le (pos 1) n ≡ a → cond (a && b) (Some n) None ≡ Some size → IsTrue (int_le (pos 1) size)
    go true true low is = subst (λ m. IsTrue (int_le (pos 1) m)) (one_value n size is) low
    go true false low is = absurd (let never : ◌≡◌ {A = Option ℤ} None (Some size) = is in cc)
    go false b low is = absurd (let never : ◌≡◌ {A = Option ℤ} None (Some size) = is in cc)

size_read : (text : List ℕ) (size : ℤ) → size_of text ≡ Some size → IsTrue (int_le (pos 1) size)
size_read text size is = go (whole_number text) is
  where
    go : (o : Option ℤ) → option_and_then font_size o ≡ Some size → IsTrue (int_le (pos 1) size)
    go None is = absurd (let never : ◌≡◌ {A = Option ℤ} None (Some size) = is in cc)
    go (Some n) is = is_size n size is

size_grown : (before : ℤ) (text : List ℕ) (size : ℤ) → grown_size before text ≡ Some size → IsTrue (int_le (pos 1) size)
size_grown before text size is = go (whole_number text) is
  where
    go : (o : Option ℤ) → option_and_then (λ delta. font_size (before +ℤ delta)) o ≡ Some size → IsTrue (int_le (pos 1) size)
    go None is = absurd (let never : ◌≡◌ {A = Option ℤ} None (Some size) = is in cc)
    go (Some delta) is = is_size (before +ℤ delta) size is

abbrev IsSized : Font → Type 0
IsSized font = IsTrue (int_le (pos 1) font.sz)

font_sized : (path : FontPath) (font : Font) (text : List ℕ) → IsSized font → (changed : Font) → font_after path font text ≡ Some changed → IsSized changed
font_sized Bold font text sized changed is = mapped IsSized (λ b. record font { b = b }) (boolean_of text) (λ b found. sized) changed is
font_sized Italic font text sized changed is = mapped IsSized (λ i. record font { i = i }) (boolean_of text) (λ i found. sized) changed is
font_sized Underline font text sized changed is = mapped IsSized (λ u. record font { u = u }) (boolean_of text) (λ u found. sized) changed is
font_sized Strike font text sized changed is = mapped IsSized (λ strike. record font { strike = strike }) (boolean_of text) (λ strike found. sized) changed is
font_sized Color font text sized changed is = mapped IsSized (λ color. record font { color = color }) (color_of text) (λ color found. sized) changed is
font_sized Size font text sized changed is = mapped IsSized (λ size. record font { sz = size }) (size_of text) (size_read text) changed is
font_sized SizeDelta font text sized changed is =
    mapped IsSized (λ size. record font { sz = size }) (grown_size font.sz text) (size_grown font.sz text) changed is

abbrev HasFont : Style → Type 0
HasFont style = IsTrue (has_font style)

style_sized : (path : StylePath) (style : Style) (text : List ℕ) → HasFont style → (changed : Style) → style_after path style text ≡ Some changed
    → HasFont changed
style_sized (OfFont path) style text sized changed is =
    mapped HasFont (λ font. record style { font = font }) (font_after path style.font text) (font_sized path style.font text sized) changed is
style_sized (Fill path) style text sized changed is = mapped HasFont (λ color. record style { fill = color }) (color_of text) (λ color found. sized) changed is
style_sized NumberFormat style text sized changed is =
    subst HasFont (one_value (record style { num_fmt = text }) changed is) sized
style_sized WholeAlignment style text sized changed is = go (length text == 0) is
  where
    go : (b : Bool) → cond b (Some (record style { alignment = None })) None ≡ Some changed → HasFont changed
    go true is = subst HasFont (one_value (record style { alignment = None }) changed is) sized
    go false is = absurd (let never : ◌≡◌ {A = Option Style} None (Some changed) = is in cc)
style_sized (AlignmentPart path) style text sized changed is =
    mapped HasFont (λ alignment. record style { alignment = Some alignment }) (alignment_after path (alignment_of style) text)
    (λ alignment found. sized) changed is

-- a font keeps a size of 1 or more
pub updated_font : (style : Style) (path text : List ℕ) (changed : Style) → updated_style style path text ≡ Ok changed → HasFont style → HasFont changed
updated_font style path text changed is sized = go (entry_named path_name all_paths path) is
  where
    there : (o : Option Style) → ok_or NoValue o ≡ Ok changed → o ≡ Some changed
    there None is = absurd (let never : ◌≡◌ {A = Result Style EditError} (Err NoValue) (Ok changed) = is in cc)
    there (Some other) is = let same : ◌≡◌ {A = Result Style EditError} (Ok other) (Ok changed) = is in cc

    go : (o : Option StylePath) → style_at o style text ≡ Ok changed → HasFont changed
    go None is = absurd (let never : ◌≡◌ {A = Result Style EditError} (Err NoPath) (Ok changed) = is in cc)
    go (Some found) is = style_sized found style text sized changed (there (style_after found style text) is)
