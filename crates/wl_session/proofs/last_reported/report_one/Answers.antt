use Rattle.std.proofs.Common.{◌≡◌, true, false, not, is_ok, sym, ap, ◌∙◌, refl}
use Rattle.wl_session.specs.LastReported.{is_live}
use Rattle.wl_session.proofs.Edits.{set_is_put, insert_is_put, end_leaves, end_of_another, put_is_live}
use Rattle.wl_session.proofs.Edits.{reported_list_put}
use Rattle.wl_session.proofs.last_reported.report_one.Goals as goal

-- an end leaves
pub returns-then-is_end-clause-items : goal.returns-then-is_end-clause-items
returns-then-is_end-clause-items c =
    let ended : is_live c.args.observation ≡ false = ap not (sym c.is_end.ensures ∙ c.if-is_end.true) in
    c.remove.ensures.items ∙ end_leaves c.args.last_reported.now.items c.args.observation c.in-Ok.at c.requires.list
    ended (rw c.as_slice.ensures.value at c.in-Ok.ensures.found)

pub returns-then-is_end-clause-list : goal.returns-then-is_end-clause-list
returns-then-is_end-clause-list c = reported_list_put c.args.last_reported.now.items _ c.args.observation
    c.requires.list (returns-then-is_end-clause-items c)

-- another phase is put at the number's place
pub returns-else-is_end-clause-items : goal.returns-else-is_end-clause-items
returns-else-is_end-clause-items c =
    let lives : is_live c.args.observation ≡ true = ap not (sym c.is_end.ensures ∙ c.if-is_end.false) in
    set_is_put c.args.last_reported.now.items c.args.observation c.in-Ok.at
    (rw c.as_slice.ensures.value at c.in-Ok.ensures.found)
    ∙ put_is_live c.args.last_reported.now.items c.args.observation c.requires.list lives

pub returns-else-is_end-clause-list : goal.returns-else-is_end-clause-list
returns-else-is_end-clause-list c = reported_list_put c.args.last_reported.now.items _ c.args.observation
    c.requires.list (returns-else-is_end-clause-items c)

-- a request that was not there comes in
pub returns-then-not-is_end-clause-items : goal.returns-then-not-is_end-clause-items
returns-then-not-is_end-clause-items c =
    let lives : is_live c.args.observation ≡ true = cc in
    let placed : is_ok c.insert-placed.result ≡ true = c.insert-placed.ensures.succeeds c.requires.room in
    c.insert-placed.ensures.items ∙ rw placed refl
    ∙ insert_is_put c.args.last_reported.now.items c.args.observation c.in-Err.at
    (rw c.as_slice.ensures.value at c.in-Err.ensures.absent)
    ∙ put_is_live c.args.last_reported.now.items c.args.observation c.requires.list lives

pub returns-then-not-is_end-clause-list : goal.returns-then-not-is_end-clause-list
returns-then-not-is_end-clause-list c = reported_list_put c.args.last_reported.now.items _ c.args.observation
    c.requires.list (returns-then-not-is_end-clause-items c)

-- the end of a request that is not there changes nothing
pub returns-else-not-is_end-clause-items : goal.returns-else-not-is_end-clause-items
returns-else-not-is_end-clause-items c =
    let ended : is_live c.args.observation ≡ false = cc in
    end_of_another c.args.last_reported.now.items c.args.observation c.in-Err.at c.requires.list ended
    (rw c.as_slice.ensures.value at c.in-Err.ensures.absent)
