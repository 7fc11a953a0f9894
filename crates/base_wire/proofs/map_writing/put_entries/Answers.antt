use Rattle.std.proofs.Common.{rules, ◌≡◌, [], ◌∷◌, refl, sym, subst}
use Rattle.std.specs.List.{AllByRecursion}
use Rattle.base_wire.specs.Encoding.{encode_both}
use Rattle.base_wire.specs.laws.MapFits.{Carried}
use Rattle.base_wire.proofs.Written.{written_on}
use Rattle.base_wire.proofs.map_writing.put_entries.Goals as goal

pub loop-key-init : goal.loop-key-init
loop-key-init g c =
    let all : c.into_iter-key-iterator.result ≡ c.args.entries = search rules in
    (tt, tt, refl, λ fits. subst (AllByRecursion (Carried g.K.Part.Known g.P.Part.Known g.K.Part.Fits g.P.Part.Fits)) all fits)

pub loop-key-preserved : goal.loop-key-preserved
loop-key-preserved g c =
    let entry : g.row.K-Value.Denot × g.row.P-Value.Denot = (c.in-Some.key.now, c.in-Some.value.now) in
    let step : c.loop-key.key-iterator ≡ entry ∷ c.next.new.self = search rules in (
      tt,
      tt,
      written_on (encode_both g.K.Part.encoding g.P.Part.encoding) c.loop-key.out.items c.put_entry.new.out.items _ entry c.next.new.self c.loop-key.key-iterator step c.in_ok-put_entry.ensures.encoded c.loop-key.invariant.2,
      λ rest. c.loop-key.invariant.3 (subst (AllByRecursion (Carried g.K.Part.Known g.P.Part.Known g.K.Part.Fits g.P.Part.Fits)) (sym step) (c.in_ok-put_entry.ensures.fits, rest)),
    )

pub returns-clause-each : goal.returns-clause-each
returns-clause-each g c =
    let none : c.loop-key.key-iterator ≡ [] = search rules in
    c.loop-key.invariant.3 (subst (AllByRecursion (Carried g.K.Part.Known g.P.Part.Known g.K.Part.Fits g.P.Part.Fits)) (sym none) tt)
