-- How a value in a `Boxed` is got out of it, so that a type may hold boxes of itself.
use mathlib.Core.Path.{refl}
use mathlib.Core.Former.{Former, this, const, pair, via}
use base.Stored.{gnil}
use base.Fml.{ftrue}
use denote.RattleType.{RattleType}
use denote.Memory.{part_of}
use denote.RawPtr.{Ptr}
use denote.Sharing.{nothing}
use denote.HoleLaws.{Alike}
use denote.HolePlaces.{Recodes, struct_places, laid, one_value}
use denote.Hole.Fix.{over}
use denote.Param.Weighed.{Weighed}
use denote.Model.Placed.{view_places}
use Rattle.std.specs.declared.boxed.Box.{Box}
use Rattle.std.specs.contracts.boxed.Box as box
use Rattle.std.specs.declared.alloc.Global.{Global}
use Rattle.std.specs.contracts.alloc.Global as global
use Rattle.std.specs.contracts.impls.GlobalAllocator.TheImpl.{ghosts}
use Rattle.base_values.specs.declared.boxed.Boxed.TheInside.{Inside}
use Rattle.base_values.specs.declared.boxed.Boxed.TheView.{view, invariant}
use Rattle.base_values.specs.contracts.boxed.Boxed as boxed
use Rattle.base_values.specs.contracts.boxed.Boxed.TheInside as inside

-- as clauses see it, a `Boxed` is the value in it
abbrev pub the_former : Former {0} → Former {0}
the_former value = value

abbrev pub the_weighed : {value : Former {0}} → Weighed value → Weighed (the_former value)
the_weighed measure = measure

-- a box that points as this one does, and holds another value
abbrev refilled : {T S : Type 0} → Box T Global → S → Box S Global
refilled b content = record { ptr = b.ptr; alloc = b.alloc; value = content }

-- the struct as it lies in memory: a pointer and an allocator, and the value they lead to
abbrev stored : Former {0}
stored = via (pair (const (Ptr × Global)) this) Inside (λ T it. ((it.inner.ptr, it.inner.alloc), it.inner.value))
    (λ T parts. record { inner = record { ptr = parts.0.0; alloc = parts.0.1; value = parts.1 } }) (λ T it. refl) (λ T parts. refl)

abbrev box_row : RattleType → RattleType
box_row R = box.the_row R global.the_row ghosts

-- two types for the value, one of which stands where the other stood
module _ (Old New : RattleType) (onto : Old.Denot → New.Denot) where
  abbrev changed : Box Old.Denot Global → Box New.Denot Global
  changed b = refilled b (onto b.value)

  module _ (alike : Alike Old New onto) where
    -- along the way from the old type to the new one, the row of a box of this one value
    abbrev between : Old.Denot → 𝕀 → RattleType
    between content i = box_row (one_value Old (alike.mir_same i) (alike.own_same content i) (alike.shr_same content i) gnil)

    abbrev bare : 𝕀 → RattleType
    bare i = box_row (one_value Old (alike.mir_same i) (λ _. ftrue) (λ _ _. nothing) gnil)

    box_places : Alike (box_row Old) (box_row New) changed
    unfolding part_of
    box_places = record {
      mir_same = λ i. (bare i).mir;
      own_same = λ b i. (between b.value i).own_val (refilled b tt);
      shr_same = λ b i. (between b.value i).shr_at (refilled b tt);
    }

  pub the_places : Alike Old New onto → Alike (boxed.the_row Old) (boxed.the_row New) ((the_former this).map Old.Denot New.Denot onto)
  the_places alike = view_places stored this view (λ T S f it. refl) (λ T it. refl) Old.Denot New.Denot onto
      (boxed.the_row Old).coded (boxed.the_row New).coded (invariant Old.Denot) (invariant New.Denot)
      (λ it p q. refl) (λ it p q. refl) (λ it e. tt) (λ it e. tt)
      (over (inside.the_row Old)) (over (inside.the_row New))
      (struct_places (inside.the_type Old) (inside.the_type New) (changed, tt) _ (λ it. refl) refl (laid _ _ _ (box_places alike), tt))

  pub the_codes_placed : Recodes Old New onto → Recodes (boxed.the_row Old) (boxed.the_row New) ((the_former this).map Old.Denot New.Denot onto)
  the_codes_placed same_code = same_code
