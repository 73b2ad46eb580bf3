use Rattle.upscmd.proofs.Forms.{each_form}
use Rattle.upscmd.proofs.laws.each_form_asks_for_its_job.Goals as goal

pub returns : goal.returns
returns c = each_form
