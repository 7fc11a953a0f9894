-- How a list of values, seen as `Items`, is taken apart into those values, so that a type may hold lists of itself.
use mathlib.Core.Path.{◌≡◌, refl, sym}
use mathlib.Core.List.{List, []}
use mathlib.Core.Former.{Former, this, list, via, children}
use base.Stored.{code_map}
use denote.RattleType.{RattleType}
use denote.HoleLaws.{Alike}
use denote.HolePlaces.{Recodes, struct_places, laid}
use denote.Hole.Carrier.{listed, list-listed}
use denote.Hole.Fix.{over}
use denote.Param.Weighed.{Weighed, w_list}
use denote.Model.Placed.{view_places}
use Rattle.std.specs.formers.vec.Vec as vector
use Rattle.std.specs.declared.alloc.Global.{Global}
use Rattle.std.specs.contracts.alloc.Global as global
use Rattle.std.specs.contracts.impls.GlobalAllocator.TheImpl.{ghosts}
use Rattle.base_values.specs.declared.items.Items.TheInside.{Inside}
use Rattle.base_values.specs.declared.items.Items.TheView.{view, invariant}
use Rattle.base_values.specs.contracts.items.Items as items
use Rattle.base_values.specs.contracts.items.Items.TheInside as inside

-- as clauses see it, `Items` of a type is the list of that type's values
abbrev pub the_former : Former {0} → Former {0}
the_former item = list item

abbrev pub the_weighed : {item : Former {0}} → Weighed item → Weighed (the_former item)
the_weighed heaviest = w_list heaviest

-- no value is needed for the empty list
abbrev pub the_empty : List ⊥
the_empty = []

abbrev pub the_items : (T : Type 0) → List T → List T
the_items T values = values

pub the_items_listed : (T : Type 0) (values : List T) → listed _ (children (the_former this) T values) ≡ the_items T values
the_items_listed = list-listed

-- the struct as it lies in memory: its one field, the vector
abbrev stored : Former {0}
stored = via (vector.the_former this Global) Inside (λ T it. it.items) (λ T field. record { items = field }) (λ T it. refl) (λ T field. refl)

-- two types for the items, one of which stands where the other stood
module _ (Old New : RattleType) (onto : Old.Denot → New.Denot) where
  abbrev moved : List Old.Denot → List New.Denot
  moved = (the_former this).map Old.Denot New.Denot onto

  stored_places : Alike Old New onto → Alike (inside.the_row Old) (inside.the_row New) (stored.map Old.Denot New.Denot onto)
  stored_places alike = struct_places (inside.the_type Old) (inside.the_type New) (vector.mapped onto, tt) _ (λ it. refl) refl
      (laid _ _ _ (vector.the_places global.the_row ghosts Old New onto alike), tt)

  pub the_places : Alike Old New onto → Alike (items.the_row Old) (items.the_row New) moved
  the_places alike = view_places stored (list this) view (λ T S f it. refl) (λ T it. refl) Old.Denot New.Denot onto
      (items.the_row Old).coded (items.the_row New).coded (invariant Old.Denot) (invariant New.Denot)
      (λ it p q. refl) (λ it p q. refl) (λ it e. tt) (λ it e. tt)
      (over (inside.the_row Old)) (over (inside.the_row New)) (stored_places alike)

  pub the_codes_placed : Recodes Old New onto → Recodes (items.the_row Old) (items.the_row New) moved
  the_codes_placed same_code values = sym (code_map Old.coded.code New.coded.code onto (λ item. sym (same_code item)) values)
