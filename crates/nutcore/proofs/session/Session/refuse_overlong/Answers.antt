use Rattle.std.proofs.Common.{◌≡◌, ◌≤◌, ℕ, List, true, ap, arith, length, subst, sym}
use Rattle.nutcommand.specs.declared.err_word.ErrWord.TheVariants.{TooLong}
use Rattle.nutanswer.proofs.PublicLaws.{error_lines_are_whole}
use Rattle.nutlisting.specs.Counted.{IsCounted}
use Rattle.nutlisting.specs.Lines.{IsWholeLine}
use Rattle.nutlisting.specs.Owed.{owed}
use Rattle.nutlisting.specs.declared.outbox.TheConstants.{OWED_LIMIT}
use Rattle.nutlisting.proofs.PublicLaws.{what_is_placed_is_counted}
use Rattle.nutcore.specs.Pump.{holds_overlong}
use Rattle.nutcore.specs.Session.{SessionState}
use Rattle.nutcore.proofs.session.Session.refuse_overlong.Goals as goal

few : (x : SessionState) → holds_overlong x ≡ true → length x.owed ≤ OWED_LIMIT
few x long = grind (arith, long)

pub push-requires-clause-ready : goal.push-requires-clause-ready
push-requires-clause-ready c = subst (λ (b : List ℕ). length b ≤ OWED_LIMIT)
    (sym (ap (λ (x : SessionState). x.owed) c.self.view_is)) (few c.args.self.now c.requires)

pub returns-clause-keeps : goal.returns-clause-keeps
returns-clause-keeps c kept counted =
    let same : owed c.self.inside.outbox ≡ c.args.self.now.owed = ap (λ (x : SessionState). x.owed) c.self.view_is in
    let whole : IsWholeLine c.line.result.now =
    subst IsWholeLine (sym c.line.ensures.line) (error_lines_are_whole TooLong) in
    subst (λ (b : List ℕ). IsCounted kept b c.push.new.renders)
    (sym (ap (λ (x : SessionState). x.owed) c.begin_ending.ensures))
    (what_is_placed_is_counted.line c.args.self.now.owed c.self.inside.outbox c.push.new.self
    c.line.result.now _ _ same (few c.args.self.now c.requires)
    (omega (arith, c.line.ensures.short)) whole c.push.ensures.owed c.push.ensures.counts kept counted)
