use Rattle.std.proofs.Common.{◌-◌, ap, sym, ◌∙◌, arith}
use Rattle.std.specs.FinMap.{is_sorted}
use Rattle.base_wire.specs.laws.Ascending.{rises_more, rise_by_steps, no_rise}
use Rattle.base_wire.proofs.map_reading.ascends.Goals as goal

pub loop-i-preserved : goal.loop-i-preserved
loop-i-preserved g c =
    let i = c.loop-i.i in
    rises_more g.X.Key.Ord.cmp g.met.X.Key.Ord.total c.args.entries.now (i - 1) i c.index-entries-i.result c.index-entries-i-in-loop-i.result (omega (arith, c.loop-i.auto.i)) c.loop-i-test.true
    (rw (sym c.cmp.ensures) (sym c.is_lt.ensures ∙ c.if-not-is_lt.false)) c.loop-i.invariant

pub returns-then-not-is_lt : goal.returns-then-not-is_lt
returns-then-not-is_lt g c =
    let i = c.loop-i.i in
    sym (no_rise g.X.Key.Ord.cmp g.met.X.Key.Ord.total c.args.entries.now (i - 1) i c.index-entries-i.result c.index-entries-i-in-loop-i.result (omega (arith, c.loop-i.auto.i)) c.loop-i-test.true
    (rw (sym c.cmp.ensures) (sym c.is_lt.ensures ∙ c.if-not-is_lt.true))) ∙ ap (λ order. is_sorted order c.args.entries.now) g.met.X.MapKey.ordered

pub returns : goal.returns
returns g c =
    sym (rise_by_steps g.X.Key.Ord.cmp g.met.X.Key.Ord.total c.args.entries.now (λ k j d e next lt. c.loop-i.invariant k j d e next (omega (arith, c.loop-i-test.false))))
    ∙ ap (λ order. is_sorted order c.args.entries.now) g.met.X.MapKey.ordered
