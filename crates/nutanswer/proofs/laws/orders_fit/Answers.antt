use Rattle.nutanswer.proofs.OrderFits.{orders_fit}
use Rattle.nutanswer.proofs.laws.orders_fit.Goals as goal

pub returns : goal.returns
returns c = orders_fit
