use Rattle.std.proofs.Common.{◌≡◌, ◌++◌, List, ℕ, ap, subst, ◌∙◌}
use Rattle.std.proofs.lemmas.Result.{err_from_is_err_and}
use Rattle.std.specs.Option.{option_map}
use Rattle.std.specs.declared.option.Option.{Option}
use Rattle.std.specs.declared.option.Option.TheVariants.{Some}
use Rattle.script_runs.specs.Script.{after, commands_on, line_reply}
use Rattle.script_runs.specs.Session.{SessionStands, SoundThrough}
use Rattle.script_runs.proofs.Runs.{Reached, reached_end, reached_more}
use Rattle.script_runs.proofs.session.Session.run_lines.Goals as goal

pub lines-preserved : goal.lines-preserved
lines-preserved c = λ first stands fresh.
    let out = c.args.self.now.out.items in
    let script = c.args.script.now in
    let old = c.lines.self in
    let r : Reached out script first old (Some c.in-Some.bytes.now) = subst (λ (o : Option (List ℕ)). Reached out script first old o) (ap (option_map (λ rest. rest.now)) c.in-Some.is) (c.lines.invariant first stands fresh) in
    let line : c.without_return.result.now ≡ _ = c.without_return.ensures in
    let ran = c.in_ok-run_line.ensures r.state r.stands r.fresh in
    reached_more out script first old c.run_line.new.self c.in-Some.bytes.now c.split_first.result.0.now _ r c.split_first.ensures.parts
    (ran.out ∙ ap (λ (l : List ℕ). old.out.items ++ line_reply l r.state) line)
    (subst (λ (l : List ℕ). SessionStands c.run_line.new.self (after (commands_on l) r.state)) line ran.stands)
    (subst (λ (l : List ℕ). SoundThrough (commands_on l) r.state) line ran.sends)

pub returns-in_err-run_line : goal.returns-in_err-run_line
returns-in_err-run_line c = λ first stands fresh.
    let r = c.lines.invariant first stands fresh in
    let ran = c.in_err-run_line.ensures r.state r.stands r.fresh in
    let p = err_from_is_err_and c.from_residual.result c.from_residual.ensures.1 in
    rw (p.1, p.2) (record { out = tt; stands = tt; only = ran.only; sends = tt })

pub returns : goal.returns
returns c = λ first stands fresh.
    reached_end c.args.script.now first c.args.self.now c.lines.self
    (subst (λ (o : Option (List ℕ)). Reached c.args.self.now.out.items c.args.script.now first c.lines.self o) (ap (option_map (λ rest. rest.now)) c.in_default.is) (c.lines.invariant first stands fresh))
