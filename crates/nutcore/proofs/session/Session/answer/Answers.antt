use Rattle.std.proofs.Common.{◌≤◌, ◌∙◌, ◌++◌, arith, ℕ, List, [], ap, append-nil}
use Rattle.std.proofs.Common.{length, refl, subst, sym}
use Rattle.std.proofs.lemmas.List.{nil_from_length}
use Rattle.nutanswer.specs.declared.reply.Change.TheVariants.{Nothing}
use Rattle.nutanswer.specs.declared.reply.Reply.TheVariants.{One}
use Rattle.nutlisting.specs.declared.outbox.TheConstants.{OWED_LIMIT}
use Rattle.nutlisting.specs.Items.{client_listing, text_of}
use Rattle.nutlisting.specs.Lines.{IsWholeLine}
use Rattle.nutlisting.specs.Owed.{owed}
use Rattle.nutanswer.proofs.PublicLaws.{error_lines_are_whole}
use Rattle.nutcommand.specs.ErrWord.{error_line}
use Rattle.nutlisting.proofs.PublicLaws.{what_is_placed_is_counted}
use Rattle.nutcore.specs.Promises.{IsShort}
use Rattle.nutcore.specs.Reply.{changed_session}
use Rattle.nutcore.specs.Session.{SessionState}
use Rattle.nutcore.proofs.Common.{eqb-true}
use Rattle.nutcore.proofs.Costs.{whole_of}
use Rattle.nutcore.proofs.Pumping.{few_owed, line_answered, owed_stays}
use Rattle.nutcore.proofs.session.Session.answer.Goals as goal

pub push-requires-clause-ready : goal.push-requires-clause-ready
push-requires-clause-ready c = subst (λ (b : List ℕ). length b ≤ OWED_LIMIT)
    (sym (ap (λ (x : SessionState). x.owed) c.self.view_is)) (few_owed c.args.self.now c.args.end c.requires.going)

pub push-requires-then-not-is_empty-clause-ready : goal.push-requires-then-not-is_empty-clause-ready
push-requires-then-not-is_empty-clause-ready c =
    subst (λ (b : List ℕ). length b ≤ OWED_LIMIT)
    (sym (owed_stays c.in-One.change _ _ _ _ c.self.view_is
    (c.self-in-One.view_is ∙ c.change.ensures.changed))) (few_owed c.args.self.now c.args.end c.requires.going)

pub returns-then-not-is_empty-clause-answered : goal.returns-then-not-is_empty-clause-answered
returns-then-not-is_empty-clause-answered c line next =
    rw c.in-One.is (line_answered c.in-One.change _ _ _ c.self.inside.held c.self.inside.executed
    c.args.end line c.in-One.text.now _ c.self.view_is refl c.requires.going next
    (c.self-in-One.view_is ∙ c.change.ensures.changed) c.push-then-not-is_empty.ensures.owed)

pub returns-then-not-is_empty-clause-keeps : goal.returns-then-not-is_empty-clause-keeps
returns-then-not-is_empty-clause-keeps c =
    let short : IsShort (One c.in-One.text c.in-One.change) = rw c.in-One.is at c.requires.short in
    what_is_placed_is_counted.line c.args.self.now.owed c.self-in-One.inside.outbox
    c.push-then-not-is_empty.new.self c.in-One.text.now _ _
    (owed_stays c.in-One.change _ _ _ _ c.self.view_is (c.self-in-One.view_is ∙ c.change.ensures.changed))
    (few_owed c.args.self.now c.args.end c.requires.going) short.0
    (whole_of c.in-One.text.now short.1 (sym c.is_empty.ensures ∙ c.if-not-is_empty.true))
    c.push-then-not-is_empty.ensures.owed c.push-then-not-is_empty.ensures.counts

pub returns-else-not-is_empty-clause-answered : goal.returns-else-not-is_empty-clause-answered
returns-else-not-is_empty-clause-answered c line next =
    rw (
      c.in-One.is,
      nil_from_length c.in-One.text.now
          (eqb-true _ _ (sym c.is_empty.ensures ∙ c.if-not-is_empty.false)),
    )
    (c.change.ensures.changed ∙ ap (changed_session c.in-One.change)
    (line_answered Nothing _ _ _ c.self.inside.held c.self.inside.executed c.args.end line [] _
    c.self.view_is refl c.requires.going next refl (sym (append-nil _))))

pub returns-in-Refused-clause-answered : goal.returns-in-Refused-clause-answered
returns-in-Refused-clause-answered c line next =
    rw c.in-Refused.is (line_answered Nothing _ _ _ c.self.inside.held c.self.inside.executed
    c.args.end line (error_line c.in-Refused.word) _ c.self.view_is refl c.requires.going next refl
    (c.push.ensures.owed ∙ ap (λ (text : List ℕ). owed c.self.inside.outbox ++ text) c.line.ensures.line))

pub returns-in-Refused-clause-keeps : goal.returns-in-Refused-clause-keeps
returns-in-Refused-clause-keeps c =
    what_is_placed_is_counted.line c.args.self.now.owed c.self.inside.outbox c.push.new.self
    c.line.result.now _ _ (ap (λ (x : SessionState). x.owed) c.self.view_is)
    (few_owed c.args.self.now c.args.end c.requires.going) (omega (arith, c.line.ensures.short))
    (subst IsWholeLine (sym c.line.ensures.line) (error_lines_are_whole c.in-Refused.word))
    c.push.ensures.owed c.push.ensures.counts

pub returns-in-Many-clause-answered : goal.returns-in-Many-clause-answered
returns-in-Many-clause-answered c line next =
    rw c.in-Many.is (line_answered Nothing _ _ _ c.self.inside.held c.self.inside.executed
    c.args.end line (text_of c.in-Many.listing) _ c.self.view_is refl c.requires.going next refl c.accept.ensures.owed)

pub returns-in-Many-clause-keeps : goal.returns-in-Many-clause-keeps
returns-in-Many-clause-keeps c =
    what_is_placed_is_counted.listing c.args.self.now.owed c.self.inside.outbox c.accept.new.self
    c.in-Many.listing _ _ (ap (λ (x : SessionState). x.owed) c.self.view_is) c.accept.ensures.outbox
    (few_owed c.args.self.now c.args.end c.requires.going) c.accept.ensures.owed c.accept.ensures.counts

pub returns-in-Clients-clause-answered : goal.returns-in-Clients-clause-answered
returns-in-Clients-clause-answered c line next =
    rw c.in-Clients.is (line_answered Nothing _ _ _ c.self.inside.held c.self.inside.executed
    c.args.end line (text_of (client_listing c.in-Clients.ups c.args.scratch.now.clients)) _
    c.self.view_is refl c.requires.going next refl c.accept_clients.ensures.owed)

pub returns-in-Clients-clause-keeps : goal.returns-in-Clients-clause-keeps
returns-in-Clients-clause-keeps c =
    what_is_placed_is_counted.listing c.args.self.now.owed c.self.inside.outbox
    c.accept_clients.new.self (client_listing c.in-Clients.ups c.args.scratch.now.clients) _ _
    (ap (λ (x : SessionState). x.owed) c.self.view_is) c.accept_clients.ensures.outbox
    (few_owed c.args.self.now c.args.end c.requires.going) c.accept_clients.ensures.owed c.accept_clients.ensures.counts
