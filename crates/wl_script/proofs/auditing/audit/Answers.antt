use Rattle.wl_script.proofs.Audits.{audit_breaks, audit_counts, audit_ends, counts_unread}
use Rattle.wl_script.proofs.auditing.audit.Goals as goal

pub returns-clause-ok : goal.returns-clause-ok
returns-clause-ok g c =
    audit_ends (g.R.Input.rest c.args.reader.now) _ _ _ _ c.deref.result.now c.in_ok-lines.lines c.write_origins.result
    _ _
    c.new-engine.ensures.world c.new-engine.ensures.entries c.in_ok-lines.ensures.ok c.in_ok-lines.ensures.entries
    c.in-Ok-into_cores.ensures.entries c.deref.ensures.value c.write_origins.ensures.ok

pub returns-clause-err : goal.returns-clause-err
returns-clause-err g c =
    audit_breaks (g.R.Input.rest c.args.reader.now) _ _ _ _ c.deref.result.now c.in_ok-lines.lines
    c.write_origins.result
    _ _
    c.new-engine.ensures.world c.new-engine.ensures.entries c.in_ok-lines.ensures.ok c.in_ok-lines.ensures.entries
    c.in-Ok-into_cores.ensures.entries c.deref.ensures.value c.write_origins.ensures.err

pub returns-clause-at_once : goal.returns-clause-at_once
returns-clause-at_once g c =
    audit_counts (g.R.Input.rest c.args.reader.now) _ c.in_ok-lines.lines _ c.write_origins.result _ _ _
    c.in_ok-lines.ensures.ok c.write_origins.ensures.err

pub returns-in_default-clause-at_once : goal.returns-in_default-clause-at_once
returns-in_default-clause-at_once g c = counts_unread (g.R.Input.rest c.args.reader.now)
