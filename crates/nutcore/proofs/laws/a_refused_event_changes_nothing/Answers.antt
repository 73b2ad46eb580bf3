use Rattle.nutcore.proofs.Isolation.{refused_alone}
use Rattle.nutcore.proofs.laws.a_refused_event_changes_nothing.Goals as goal

pub returns : goal.returns
returns c = refused_alone
