use Rattle.std.proofs.Common.{rules, sym, ◌∙◌, refl}
use Rattle.wl_server.proofs.Parts.{ended, used, long_ended}
use Rattle.wl_server.proofs.lines.Lines.take_part.Goals as goal

pub returns-in-Ok-clause-ended : goal.returns-in-Ok-clause-ended
returns-in-Ok-clause-ended g c = λ _. rw c.skip.ensures (ended c.args.self.now.piece c.in-Some.part.now _ _ _ _
    c.in-Some.ensures.some.0 (sym c.rest-rest.ensures ∙ c.in-Some.ensures.some.1) c.in-Ok.ensures.added)

pub returns-in-Err-clause-long : goal.returns-in-Err-clause-long
returns-in-Err-clause-long g c = λ is.
    let found = c.in-Err.ensures.long (search rules) in (
      _,
      long_ended c.args.self.now.piece c.in-Some.part.now _ _ _ _ c.in-Some.ensures.some.0
          (sym c.rest-rest.ensures ∙ c.in-Some.ensures.some.1) found.0,
      found.1,
    )

pub returns-in-Ok-add-clause-open : goal.returns-in-Ok-add-clause-open
returns-in-Ok-add-clause-open g c = λ _. rw (c.skip-in-Ok-add.ensures, c.rest-rest.ensures)
    (used c.args.self.now.piece _ _ _ (rw c.rest-rest.ensures at (c.in-None.ensures.none refl))
    (rw c.rest-rest.ensures at c.in-Ok-add.ensures.added))

pub returns-in-Err-add-clause-long : goal.returns-in-Err-add-clause-long
returns-in-Err-add-clause-long g c = λ is.
    let found = c.in-Err-add.ensures.long (search rules) in (
      _,
      used c.args.self.now.piece _ _ _ (rw c.rest-rest.ensures at (c.in-None.ensures.none refl))
          (rw c.rest-rest.ensures at found.0),
      found.1,
    )
