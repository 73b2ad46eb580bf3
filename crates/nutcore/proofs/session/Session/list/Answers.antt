use Rattle.std.proofs.Common.{◌++◌, ◌∷◌, [], arith, length-append, take_all}
use Rattle.nutusers.specs.declared.limits.TheConstants.{SESSION_LIMIT}
use Rattle.nutcore.proofs.session.Session.list.Goals as goal

pub returns-then-logins-eq1 : goal.returns-then-logins-eq1
returns-then-logins-eq1 c =
    let more = c.args.clients.now ++ c.copied.result ∷ [] in
    grind (arith, take_all SESSION_LIMIT more, length-append c.args.clients.now (c.copied.result ∷ []))
