use Rattle.nutclient.proofs.Warned.{unseen}
use Rattle.nutclient.proofs.laws.no_order_is_given_unseen.Goals as goal

pub returns : goal.returns
returns c = unseen
