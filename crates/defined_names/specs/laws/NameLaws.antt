-- The names of a sheet that went come back, and those of a copy go; and the numbers of trees stay canonical.
use Rattle.std.proofs.Common.{◌≡◌, ℕ, ◌+◌, ◌-◌, ◌<◌, ◌==◌, Bool, true, false, cond, not, List, [], ◌∷◌, ◌++◌, length, take, drop, Option, Some, None, refl, ap, sym, subst, ◌∙◌, append_assoc, arith}
use Rattle.std.specs.Prelude.{IfSome, All, ◌&&◌}
use Rattle.std.specs.Cmp.{nat_cmp_total, unsigned_Decides}
use Rattle.std.specs.declared.cmp.Ordering.TheVariants.{Less, Equal, Greater}
use Rattle.std.specs.List.{AllByRecursion, cons_option, enumerate_from, filter, filter_map, insert, list_all}
use Rattle.std.specs.Ordering.{is_lt, nat_cmp}
use Rattle.std.specs.FinMap.{FinMap, entries, get, is_sorted}
use Rattle.std.specs.FinMap.Entries.{below_all}
use Rattle.std.proofs.lemmas.Bool.{lt-ltb}
use Rattle.std.proofs.lemmas.List.{append-nil, length-append}
use Rattle.std.proofs.lemmas.List.Edits.{insert-append_right}
use Rattle.std.proofs.lemmas.List.Elements.{All-append, All-drop, All-filter, All-take, filter-append, All-from_recursion, recursion_from_All}
use Rattle.std.proofs.lemmas.Map.Lookups.{exact_unsigned}
use Rattle.base_maps.specs.laws.Known.{values_known, entries_known, entries_again}
use Rattle.defined_names.specs.declared.defined_name.DefinedName.{DefinedName}
use Rattle.defined_names.specs.Names.{IsCanonicalName, AreCanonicalNames, AreCanonicalPlaced, is_scoped_to, names_left, placed_names, kept_names, names_put, names_restored, name_in, copied_name, names_copied}

-- ---- numbers

pub left_kept : (id : ℕ) (names : List DefinedName) → AreCanonicalNames names → AreCanonicalNames (names_left id names)
left_kept id names kept = All-filter (λ name. not (is_scoped_to id name)) IsCanonicalName names kept

placed_kept : (id at : ℕ) (names : List DefinedName) → AllByRecursion IsCanonicalName names → AllByRecursion (λ (entry : ℕ × DefinedName). IsCanonicalName entry.1) (placed_names id at names)
placed_kept id at [] kept = tt
placed_kept id at (name ∷ names) kept =
    elim (is_scoped_to id name) as (λ b. AllByRecursion (λ (entry : ℕ × DefinedName). IsCanonicalName entry.1) (cond b ((at, name) ∷ placed_names id (at + 1) names) (placed_names id (at + 1) names)))
    [ true ↦ (kept.0, placed_kept id (at + 1) names kept.1) | false ↦ placed_kept id (at + 1) names kept.1 ]

copied_kept : (source id : ℕ) (names : List DefinedName) → AllByRecursion IsCanonicalName names → AllByRecursion IsCanonicalName (filter_map (copied_name source id) names)
copied_kept source id [] kept = tt
copied_kept source id (name ∷ names) kept =
    elim (is_scoped_to source name) as (λ b. AllByRecursion IsCanonicalName (cons_option (cond b (Some (name_in id name)) None) (filter_map (copied_name source id) names)))
    [ true ↦ (kept.0, copied_kept source id names kept.1) | false ↦ copied_kept source id names kept.1 ]

pub all_copied_kept : (source id : ℕ) (names : List DefinedName) → AreCanonicalNames names → AreCanonicalNames (names_copied source id names)
all_copied_kept source id names kept =
    All-append IsCanonicalName names (filter_map (copied_name source id) names) kept
    (All-from_recursion IsCanonicalName (filter_map (copied_name source id) names) (copied_kept source id names (recursion_from_All IsCanonicalName names kept)))

put_kept : (placed : List (ℕ × DefinedName)) (names : List DefinedName) → AllByRecursion (λ (entry : ℕ × DefinedName). IsCanonicalName entry.1) placed → AreCanonicalNames names → AreCanonicalNames (names_put placed names)
put_kept [] names placed_are kept = kept
put_kept (entry ∷ placed) names placed_are kept =
    put_kept placed (insert names entry.0 entry.1) placed_are.1
    (All-append IsCanonicalName (take entry.0 names) (entry.1 ∷ drop entry.0 names) (All-take IsCanonicalName entry.0 names kept)
    (All-from_recursion IsCanonicalName (entry.1 ∷ drop entry.0 names) (placed_are.0, recursion_from_All IsCanonicalName (drop entry.0 names) (All-drop IsCanonicalName entry.0 names kept))))

pub restored_kept : (kept : FinMap nat_cmp DefinedName) (names : List DefinedName) → AreCanonicalPlaced kept → AreCanonicalNames names → AreCanonicalNames (names_restored kept names)
restored_kept kept names placed_are all = put_kept (entries kept) names (entries_known nat_cmp nat_cmp_total exact_unsigned IsCanonicalName kept placed_are) all

-- ---- places

both : (a b : Bool) → a ≡ true → b ≡ true → (a && b) ≡ true
both true b h i = i
both false b h i = absurd (cc)

lower : (m n : ℕ) → m < n → is_lt (nat_cmp m n) ≡ true
lower m n h = ap (λ b. is_lt (cond b Less (cond (m == n) Equal Greater))) (lt-ltb m n h)

-- each of the places is at least the first one
below_placed : (id low at : ℕ) (names : List DefinedName) → low < at → below_all nat_cmp low (placed_names id at names) ≡ true
below_placed id low at [] less = refl
below_placed id low at (name ∷ names) less =
    elim (is_scoped_to id name) as (λ b. below_all nat_cmp low (cond b ((at, name) ∷ placed_names id (at + 1) names) (placed_names id (at + 1) names)) ≡ true) [
      | true ↦ both (is_lt (nat_cmp low at)) (below_all nat_cmp low (placed_names id (at + 1) names)) (lower low at less) (below_placed id low (at + 1) names (omega arith))
      | false ↦ below_placed id low (at + 1) names (omega arith)
    ]

pub placed_rise : (id at : ℕ) (names : List DefinedName) → is_sorted nat_cmp (placed_names id at names) ≡ true
placed_rise id at [] = refl
placed_rise id at (name ∷ names) =
    elim (is_scoped_to id name) as (λ b. is_sorted nat_cmp (cond b ((at, name) ∷ placed_names id (at + 1) names) (placed_names id (at + 1) names)) ≡ true)
    [ true ↦ (λ i. (below_placed id at (at + 1) names (omega arith) i) && (placed_rise id (at + 1) names i)) | false ↦ placed_rise id (at + 1) names ]

-- the kept names of a sheet, in the order of their places
pub kept_listed : (id : ℕ) (names : List DefinedName) → entries (kept_names id names) ≡ placed_names id 0 names
kept_listed id names = entries_again nat_cmp nat_cmp_total exact_unsigned (placed_names id 0 names) (placed_rise id 0 names)

pub kept_are_kept : (id : ℕ) (names : List DefinedName) → AreCanonicalNames names → AreCanonicalPlaced (kept_names id names)
kept_are_kept id names kept =
    values_known IsCanonicalName (kept_names id names)
    (subst (AllByRecursion (λ (entry : ℕ × DefinedName). IsCanonicalName entry.1)) (sym (kept_listed id names)) (placed_kept id 0 names (recursion_from_All IsCanonicalName names kept)))

-- ---- where a sheet goes, and comes back

-- a name put behind the first ones
put_behind : (front rest : List DefinedName) (at : ℕ) (name : DefinedName) → length front ≡ at → insert (front ++ rest) at name ≡ (front ++ name ∷ []) ++ rest
put_behind front rest at name is =
    insert-append_right front rest at at name is (omega arith) ∙ ap (λ n. front ++ insert rest n name) (zero_left at) ∙ sym (append_assoc front (name ∷ []) rest)
  where
    zero_left : (n : ℕ) → n - n ≡ 0
    zero_left n = omega arith

put_back : (id at : ℕ) (front names : List DefinedName) → length front ≡ at → names_put (placed_names id at names) (front ++ names_left id names) ≡ front ++ names
put_back id at front [] is = refl
put_back id at front (name ∷ names) is =
    let longer : length (front ++ name ∷ []) ≡ at + 1 = omega (arith, length-append front (name ∷ [])) in
    let rest : names_put (placed_names id (at + 1) names) ((front ++ name ∷ []) ++ names_left id names) ≡ front ++ name ∷ names =
    put_back id (at + 1) (front ++ name ∷ []) names longer ∙ append_assoc front (name ∷ []) names in
    elim (is_scoped_to id name) as (λ b. names_put (cond b ((at, name) ∷ placed_names id (at + 1) names) (placed_names id (at + 1) names)) (front ++ cond (not b) (name ∷ names_left id names) (names_left id names)) ≡ front ++ name ∷ names) [
      | true ↦ ap (names_put (placed_names id (at + 1) names)) (put_behind front (names_left id names) at name is) ∙ rest
      | false ↦ ap (names_put (placed_names id (at + 1) names)) (sym (append_assoc front (name ∷ []) (names_left id names))) ∙ rest
    ]

-- the names of a sheet that went, put back, are where they were
pub names_come_back : (id : ℕ) (names : List DefinedName) → names_restored (kept_names id names) (names_left id names) ≡ names
names_come_back id names = ap (λ placed. names_put placed (names_left id names)) (kept_listed id names) ∙ put_back id 0 [] names refl

-- ---- where a sheet is copied, and the copy goes

-- where no name is one of a sheet, all are left
pub none_left_out : (id : ℕ) (names : List DefinedName) → list_all (λ (name : DefinedName). not (is_scoped_to id name)) names ≡ true → names_left id names ≡ names
none_left_out id [] none = refl
none_left_out id (name ∷ names) none =
    elim (is_scoped_to id name) as (λ b. (not b && list_all (λ (other : DefinedName). not (is_scoped_to id other)) names) ≡ true → cond (not b) (name ∷ names_left id names) (names_left id names) ≡ name ∷ names)
    [ true ↦ λ h. absurd (let never : false ≡ true = h in cc) | false ↦ λ h. ap (λ ns. name ∷ ns) (none_left_out id names h) ] none

copies_go : (source id : ℕ) (names : List DefinedName) → names_left id (filter_map (copied_name source id) names) ≡ []
copies_go source id [] = refl
copies_go source id (name ∷ names) =
    elim (is_scoped_to source name) as (λ b. names_left id (cons_option (cond b (Some (name_in id name)) None) (filter_map (copied_name source id) names)) ≡ []) [
      | true ↦ ap (λ same. cond (not same) (name_in id name ∷ names_left id (filter_map (copied_name source id) names)) (names_left id (filter_map (copied_name source id) names))) (own id) ∙ copies_go source id names
      | false ↦ copies_go source id names
    ]
  where
    own : (n : ℕ) → (n == n) ≡ true
    own n = (unsigned_Decides n n).1 refl

-- without the names of a copy the names are as before
pub copied_go : (source id : ℕ) (names : List DefinedName) → list_all (λ (name : DefinedName). not (is_scoped_to id name)) names ≡ true → names_left id (names_copied source id names) ≡ names
copied_go source id names none =
    filter-append (λ name. not (is_scoped_to id name)) names (filter_map (copied_name source id) names)
    ∙ (λ i. none_left_out id names none i ++ copies_go source id names i)
    ∙ append-nil names
