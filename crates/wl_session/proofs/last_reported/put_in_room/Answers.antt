use Rattle.std.proofs.Common.{◌≡◌, true, is_ok, subst, sym, refl, ◌∙◌}
use Rattle.wl_session.specs.LastReported.{IsByNumber}
use Rattle.wl_session.proofs.Order.{by_number_put}
use Rattle.wl_session.proofs.Edits.{set_is_put, insert_is_put}
use Rattle.wl_session.proofs.last_reported.put_in_room.Goals as goal

pub returns-in-Ok-clause-items : goal.returns-in-Ok-clause-items
returns-in-Ok-clause-items c = set_is_put c.args.list.now.items c.args.observation c.in-Ok.at
    (rw c.as_slice.ensures.value at c.in-Ok.ensures.found)

pub returns-in-Ok-clause-by_number : goal.returns-in-Ok-clause-by_number
returns-in-Ok-clause-by_number c =
    subst IsByNumber (sym (returns-in-Ok-clause-items c)) (by_number_put c.args.list.now.items c.args.observation
    c.requires.by_number)

pub returns-in-Err-clause-items : goal.returns-in-Err-clause-items
returns-in-Err-clause-items c =
    let placed : is_ok c.insert-placed.result ≡ true = c.insert-placed.ensures.succeeds c.requires.room in
    c.insert-placed.ensures.items ∙ rw placed refl
    ∙ insert_is_put c.args.list.now.items c.args.observation c.in-Err.at
    (rw c.as_slice.ensures.value at c.in-Err.ensures.absent)

pub returns-in-Err-clause-by_number : goal.returns-in-Err-clause-by_number
returns-in-Err-clause-by_number c =
    subst IsByNumber (sym (returns-in-Err-clause-items c)) (by_number_put c.args.list.now.items c.args.observation
    c.requires.by_number)
