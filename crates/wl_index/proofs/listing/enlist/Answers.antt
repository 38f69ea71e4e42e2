use Rattle.std.proofs.Common.{nat_lt, ◌∷◌, []}
use Rattle.std.proofs.lemmas.List.Elements.{Contains-append_left, Contains-push}
use Rattle.wl_machine.proofs.Covers.{Contains-filter}
use Rattle.wl_index.proofs.Grouping.{is_lower, trimmed_rises, longer_rises}
use Rattle.wl_index.proofs.listing.enlist.Goals as goal

pub returns-in_err-push-clause-rising : goal.returns-in_err-push-clause-rising
returns-in_err-push-clause-rising c = rw (c.in_err-push.ensures.items, c.trim.ensures)
    (trimmed_rises c.make_room.new.list.items c.args.number c.make_room.ensures.rising)

pub returns-in_err-push-clause-kept : goal.returns-in_err-push-clause-kept
returns-in_err-push-clause-kept c n live has =
    rw (c.in_err-push.ensures.items, c.trim.ensures) (Contains-filter (λ x. nat_lt x c.args.number)
    c.make_room.new.list.items n (is_lower n c.args.number (c.requires.above n live))
    (c.make_room.ensures.kept n live has))

pub returns-clause-rising : goal.returns-clause-rising
returns-clause-rising c = rw (c.in_ok-push.ensures.items, c.trim.ensures)
    (longer_rises c.make_room.new.list.items c.args.number c.make_room.ensures.rising)

pub returns-clause-kept : goal.returns-clause-kept
returns-clause-kept c n live has =
    rw (c.in_ok-push.ensures.items, c.trim.ensures)
    (Contains-append_left _ (c.args.number ∷ []) n (Contains-filter (λ x. nat_lt x c.args.number)
    c.make_room.new.list.items n (is_lower n c.args.number (c.requires.above n live))
    (c.make_room.ensures.kept n live has)))

pub returns-clause-on : goal.returns-clause-on
returns-clause-on c = rw c.in_ok-push.ensures.items (Contains-push _ c.args.number)
