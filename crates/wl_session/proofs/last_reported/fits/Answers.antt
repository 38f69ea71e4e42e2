use Rattle.std.proofs.Common.{◌∙◌, sym}
use Rattle.wl_session.proofs.Fitting.{fits_new, fits_reported}
use Rattle.wl_session.proofs.last_reported.fits.Goals as goal

pub returns-then-is_new : goal.returns-then-is_new
returns-then-is_new c is = fits_new _ _ _ (sym c.is_new.ensures ∙ c.if-is_new.true)

pub returns-in-Ok : goal.returns-in-Ok
returns-in-Ok c is = fits_reported _ _ _ _ (sym c.is_new.ensures ∙ c.if-is_new.false) c.in-Ok.ensures.found
    (c.reaches.ensures is)
