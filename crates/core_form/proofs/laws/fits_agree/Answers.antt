use Rattle.core_form.specs.FitLaws.{fits_agree}
use Rattle.core_form.proofs.laws.fits_agree.Goals as goal

pub returns : goal.returns
returns c = fits_agree
