use Rattle.std.proofs.Common.{◌∙◌, ap, sym}
use Rattle.std.specs.Option.{option_copied}
use Rattle.wl_index.specs.inner.Queues.{at_place}
use Rattle.wl_index.proofs.InUse.{no_queue, queue_there}
use Rattle.wl_index.proofs.queues.Queues.get.Goals as goal

pub returns-in_err-place : goal.returns-in_err-place
returns-in_err-place c = ap option_copied c.from_residual.ensures
    ∙ sym (no_queue c.args.name.now c.args.self.now (sym c.place.ensures.place ∙ c.in_err-place.was))

pub returns : goal.returns
returns c =
    let place = c.in_ok-place.field-0 in
    c.get.ensures.value ∙ ap (at_place place) c.self.view_is
    ∙ queue_there c.args.name.now place c.args.self.now c.place.ensures.are.apart
    (sym c.place.ensures.place ∙ c.in_ok-place.was)
