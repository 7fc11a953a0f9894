use Rattle.std.proofs.Common.{◌≡◌, ◌∷◌, ◌++◌, List, rules, sym}
use Rattle.std.proofs.lemmas.List.Elements.{All-head, All-same, All-rest}
use Rattle.base_values.specs.Places.{IsPlace}
use Rattle.base_values.specs.declared.Position.{Position}
use Rattle.sheet_grid.specs.declared.Link.{Link}
use Rattle.script_dump.specs.Dump.{link_line}
use Rattle.script_dump.proofs.Written.{written_more}
use Rattle.script_dump.proofs.lines.push_links.Goals as goal

pub push_link-requires : goal.push_link-requires
push_link-requires c =
    let entry : Position × Link = (c.in-Some.place.now, c.in-Some.link.now) in
    let step : c.loop-place.place-iterator ≡ entry ∷ c.next.new.self = search rules in
    All-head (λ (e : Position × Link). IsPlace e.0) entry c.next.new.self (All-same (λ (e : Position × Link). IsPlace e.0) _ _ (sym step) c.loop-place.invariant.2)

pub loop-place-preserved : goal.loop-place-preserved
loop-place-preserved c =
    let entry : Position × Link = (c.in-Some.place.now, c.in-Some.link.now) in
    let rest : List (Position × Link) = c.next.new.self in
    let step : c.loop-place.place-iterator ≡ entry ∷ rest = search rules in
    let written : c.push_link.new.out.items ≡ c.loop-place.out.items ++ link_line entry = c.in_ok-push_link.ensures in (
      tt,
      tt,
      All-rest (λ (e : Position × Link). IsPlace e.0) entry rest c.loop-place.place-iterator step c.loop-place.invariant.2,
      written_more link_line c.loop-place.out.items c.push_link.new.out.items _ entry rest c.loop-place.place-iterator step written c.loop-place.invariant.3,
    )
