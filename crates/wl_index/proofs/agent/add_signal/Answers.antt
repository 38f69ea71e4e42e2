use Rattle.std.proofs.Common.{◌≡◌, ◌∙◌, sym, ap, nat_cmp, refl, Some}
use Rattle.std.specs.Option.{option_copied_mut}
use Rattle.std.specs.Prelude.{Result, Ok, Err, OnErr}
use Rattle.std.specs.Map.{lookup}
use Rattle.std.specs.BTreeMap.{is_at}
use Rattle.wl_index.specs.declared.agent.Agent.{Agent}
use Rattle.wl_index.proofs.agent.add_signal.Goals.{After-insert}
use Rattle.wl_index.proofs.agent.add_signal.Goals as goal

err_holds : {T E : Type 0} (r : Result T E) (P : Type 0) → P → OnErr r P
err_holds (Ok x) P p = tt
err_holds (Err e) P p = p

there : (c : After-insert) → lookup (is_at (nat_cmp c.args.agent)) c.args.agents.now.entries
    ≡ Some c.unwrap-agent.result.now
there c = sym c.get_mut.ensures.value ∙ ap option_copied_mut c.unwrap-agent.ensures

-- the agent afterwards
abbrev now : After-insert → Agent
now c = record c.unwrap-agent.result.now { signals = c.insert.new.self }

pub returns-in_err-insert-clause-err : goal.returns-in_err-insert-clause-err
returns-in_err-insert-clause-err c =
    let at = (goal.at.returns-in_err-insert-clause-err c).After-insert in
    rw (there at) (err_holds c.from_residual.result _ (
      now at,
      (c.get_mut.follows.holds (now at)).0,
      refl,
      refl,
      refl,
      c.in_err-insert.ensures.err,
    ))

pub returns-clause-ok : goal.returns-clause-ok
returns-clause-ok c =
    let at = (goal.at.returns-clause-ok c).After-insert in
    rw (there at) (now at, (c.get_mut.follows.holds (now at)).0, refl, refl, refl, c.in_ok-insert.ensures.entries)
