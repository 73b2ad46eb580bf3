use Rattle.std.proofs.Common.{◌≡◌, ◌∙◌, List, [], ℕ, Some, Ok, length, ap, sym, subst, set}
use Rattle.std.specs.Option.{option_map}
use Rattle.nutcommand.specs.Command.{read_command}
use Rattle.nutanswer.specs.declared.reply.Reply.{Reply}
use Rattle.nutanswer.specs.declared.reply.Change.{Change}
use Rattle.nutanswer.specs.declared.reply.Change.TheVariants.{Nothing}
use Rattle.nutcore.proofs.Common.{SessionState, ServerState}
use Rattle.nutcore.specs.Pump.{next_line, next_line_for}
use Rattle.nutcore.specs.History.{owed}
use Rattle.nutcore.specs.Cost.{RunningServer}
use Rattle.nutlisting.specs.Counted.{KeepsCount}
use Rattle.nutcore.specs.Promises.{RepliesOrLacks, OrderFits, change_in, text_with, note_in_reply, with_note}
use Rattle.nutcore.specs.contracts.server.Server.{the_view}
use Rattle.nutcore.proofs.Runs.{state_is}
use Rattle.nutcore.proofs.Serving.{StandsAt, on_err, stands, heard, found_in, next_end_is}
use Rattle.nutcore.proofs.Serving.{next_of_found, change_told, short_told, changes_made, line_is}
use Rattle.nutcore.proofs.Serving.{wants_is, after_empty, empty_line}
use Rattle.nutcore.proofs.KeptSound.{changes_kept, session_kept, answered_kept}
use Rattle.nutcore.proofs.OrderFits.{order_fits}
use Rattle.nutcore.proofs.Costs.{cost_kept}
use Rattle.nutcore.proofs.Notes.{noted_empty, noted_reply}
use Rattle.nutcore.proofs.server.Server.execute.Goals as goal

pub next_line-requires : goal.next_line-requires
next_line-requires c =
    let s : ServerState = c.args.self.now.state in
    let x : SessionState = c.index-session.result.now in
    next_end_is s c.args.c x (found_in (state_is c.self.view_is) c.requires.at c.index-session.ensures) ∙
    c.requires.next

pub returns-in_err-reply-clause-memory : goal.returns-in_err-reply-clause-memory
returns-in_err-reply-clause-memory c =
    let s : ServerState = c.args.self.now.state in
    let line : List ℕ = c.next_line.result.now in
    let at = heard (the_view c.self.inside).state s c.args.c c.args.place c.index-session.result.now
    line _ c.read-read.result _ (state_is c.self.view_is) c.requires.at c.index-session.ensures
    c.next_line.ensures.line c.asker.ensures c.read-read.ensures c.reply_to.ensures in
    on_err c.from_residual.result _ (wants_is s c.args.c line at.next
    (subst (RepliesOrLacks s c.args.c line) c.in_err-reply.was at.told))

pub carry_out-requires-clause-fits : goal.carry_out-requires-clause-fits
carry_out-requires-clause-fits c =
    let s : ServerState = c.args.self.now.state in
    let line : List ℕ = c.next_line.result.now in
    let at = heard (the_view c.self.inside).state s c.args.c c.args.place c.index-session.result.now
    line _ c.read-read.result (Ok c.in_ok-reply.reply) (state_is c.self.view_is) c.requires.at
    c.index-session.ensures c.next_line.ensures.line c.asker.ensures c.read-read.ensures c.in_ok-reply.ensures in
    let change : Change = change_in c.in_ok-reply.reply in
    subst (λ (z : ServerState). OrderFits change z.upses) (sym (state_is c.self.view_is))
    (order_fits s c.args.c (read_command line) change (change_told s c.args.c line c.in_ok-reply.reply at.told))

pub answer-requires-clause-going : goal.answer-requires-clause-going
answer-requires-clause-going c =
    let s : ServerState = c.args.self.now.state in
    next_end_is s c.args.c c.index_mut-session.result.now
    (found_in (state_is c.self.view_is) c.requires.at c.index_mut-session.ensures.value) ∙ c.requires.next

pub invariant_of-self : goal.invariant_of-self
invariant_of-self c =
    let v : ServerState = (the_view c.self.inside).state in
    let x : SessionState = c.index_mut-session.result.now in
    let here : StandsAt v c.args.c c.args.place x = stands (state_is c.self.view_is) c.requires.at
    c.index_mut-session.ensures.value in
    let going : option_map length (next_line x) ≡ Some c.args.end = next_end_is c.args.self.now.state c.args.c x
    (found_in (state_is c.self.view_is) c.requires.at c.index_mut-session.ensures.value) ∙ c.requires.next in
    record {
      sound = session_kept v c.args.c c.args.place x c.answer.new.self here.at here.found c.answer.ensures.id
          (answered_kept Nothing [] x c.answer.new.self c.args.end going c.answer.ensures.answered)
          c.self.invariant.sound;
      room = c.self.invariant.room;
    }

pub returns-then-end-eq0 : goal.returns-then-end-eq0
returns-then-end-eq0 c =
    let s : ServerState = c.args.self.now.state in
    let v : ServerState = (the_view c.self.inside).state in
    let x : SessionState = c.index_mut-session.result.now in
    let here : StandsAt v c.args.c c.args.place x = stands (state_is c.self.view_is) c.requires.at
    c.index_mut-session.ensures.value in
    let found = found_in (state_is c.self.view_is) c.requires.at c.index_mut-session.ensures.value in
    let empty : next_line_for s c.args.c ≡ Some [] = empty_line (next_line_for s c.args.c) c.args.end
    c.requires.next c.if-end-eq0.true in
    let next : next_line x ≡ Some [] = next_of_found s c.args.c x [] found empty in
    let after : ServerState = record v { sessions = set v.sessions c.args.place c.answer.new.self } in
    record {
      ok = after_empty s v c.args.c c.args.place x c.answer.new.self (state_is c.self.view_is) here empty
          (c.answer.ensures.answered [] next);
      err = tt;
      memory = tt;
      noted = ap (λ (r : RunningServer). r.notes) c.self.view_is ∙
          sym (noted_empty s c.args.c x c.args.self.now.notes found empty);
      unnoted = tt;
      keeps = subst (λ (z : RunningServer). KeepsCount (owed c.args.c z.state) z.cost.rendered
          (owed c.args.c after) c.answer.new.scratch.renders) c.self.view_is
          (cost_kept v c.args.c c.args.place x c.answer.new.self _ _ here.at here.found
          c.answer.ensures.id c.answer.ensures.keeps);
    }

pub answer-requires-2-clause-going : goal.answer-requires-2-clause-going
answer-requires-2-clause-going c =
    let s : ServerState = c.args.self.now.state in
    let x : SessionState = c.index_mut-session-2.result.now in
    next_end_is s c.args.c x (found_in (state_is c.self.view_is) c.requires.at c.index_mut-session-2.ensures.value) ∙
    c.requires.next

pub answer-requires-2-clause-short : goal.answer-requires-2-clause-short
answer-requires-2-clause-short c =
    let s : ServerState = c.args.self.now.state in
    let line : List ℕ = c.next_line.result.now in
    let at = heard (the_view c.self.inside).state s c.args.c c.args.place c.index-session.result.now
    line _ c.read-read.result (Ok c.in_ok-reply.reply) (state_is c.self.view_is) c.requires.at
    c.index-session.ensures c.next_line.ensures.line c.asker.ensures c.read-read.ensures c.in_ok-reply.ensures in
    short_told s c.args.c line c.in_ok-reply.reply at.told

pub invariant_of-self-2 : goal.invariant_of-self-2
invariant_of-self-2 c =
    let s : ServerState = c.args.self.now.state in
    let v : ServerState = (the_view c.self.inside).state in
    let x : SessionState = c.index_mut-session-2.result.now in
    let line : List ℕ = c.next_line.result.now in
    let change : Change = change_in c.in_ok-reply.reply in
    let at = heard v s c.args.c c.args.place c.index-session.result.now line _ c.read-read.result
    (Ok c.in_ok-reply.reply) (state_is c.self.view_is) c.requires.at c.index-session.ensures
    c.next_line.ensures.line c.asker.ensures c.read-read.ensures c.in_ok-reply.ensures in
    let fits : OrderFits change v.upses =
    subst (λ (z : ServerState). OrderFits change z.upses) (sym (state_is c.self.view_is))
    (order_fits s c.args.c (read_command line) change (change_told s c.args.c line c.in_ok-reply.reply at.told)) in
    let t : ServerState = record v { upses = c.carry_out.new.upses.items; tracking = c.carry_out.new.tracking } in
    let made = changes_made v s change c.carry_out.new.upses.items c.carry_out.new.tracking
    (state_is c.self.view_is) c.carry_out.ensures.upses c.carry_out.ensures.tracking in
    let here : StandsAt t c.args.c c.args.place x = stands made c.requires.at c.index_mut-session-2.ensures.value in
    let going : option_map length (next_line x) ≡ Some c.args.end = next_end_is s c.args.c x
    (found_in (state_is c.self.view_is) c.requires.at c.index_mut-session-2.ensures.value) ∙ c.requires.next in
    record {
      sound = session_kept t c.args.c c.args.place x c.answer-2.new.self here.at here.found c.answer-2.ensures.id
          (answered_kept change (text_with c.carry_out.new.clients c.in_ok-reply.reply) x
          c.answer-2.new.self c.args.end going c.answer-2.ensures.answered)
          (changes_kept v change c.carry_out.new.upses.items c.carry_out.new.tracking
          c.carry_out.ensures.upses c.carry_out.ensures.tracking fits c.self.invariant.sound);
      room = c.self.invariant.room;
    }

pub returns : goal.returns
returns c =
    let s : ServerState = c.args.self.now.state in
    let v : ServerState = (the_view c.self.inside).state in
    let x : SessionState = c.index_mut-session-2.result.now in
    let line : List ℕ = c.next_line.result.now in
    let reply : Reply = c.in_ok-reply.reply in
    let change : Change = change_in reply in
    let at = heard v s c.args.c c.args.place c.index-session.result.now line _ c.read-read.result
    (Ok reply) (state_is c.self.view_is) c.requires.at c.index-session.ensures
    c.next_line.ensures.line c.asker.ensures c.read-read.ensures c.in_ok-reply.ensures in
    let t : ServerState = record v { upses = c.carry_out.new.upses.items; tracking = c.carry_out.new.tracking } in
    let made = changes_made v s change c.carry_out.new.upses.items c.carry_out.new.tracking
    (state_is c.self.view_is) c.carry_out.ensures.upses c.carry_out.ensures.tracking in
    let here : StandsAt t c.args.c c.args.place x = stands made c.requires.at c.index_mut-session-2.ensures.value in
    let next : next_line x ≡ Some line = next_of_found s c.args.c x line
    (found_in (state_is c.self.view_is) c.requires.at c.index_mut-session-2.ensures.value) at.next in
    let after : ServerState = record t { sessions = set t.sessions c.args.place c.answer-2.new.self } in
    let renders = c.answer-2.new.scratch.renders in
    record {
      ok = line_is s t c.args.c c.args.place line reply c.carry_out.new.clients x c.answer-2.new.self
          at.next at.told c.carry_out.ensures.lists made here (c.answer-2.ensures.answered line next);
      err = tt;
      memory = tt;
      noted = noted_reply s c.args.c line reply c.read-read.result c.index-session.result.now
          c.args.self.now.notes c.note.new.notes at.next
          (found_in (state_is c.self.view_is) c.requires.at c.index-session.ensures) at.told (sym c.read-read.ensures)
          (c.note.ensures ∙ ap (with_note
          (note_in_reply c.index-session.result.now c.read-read.result reply))
          (ap (λ (r : RunningServer). r.notes) c.self.view_is));
      unnoted = tt;
      keeps = subst (λ (z : RunningServer). KeepsCount (owed c.args.c z.state) z.cost.rendered
          (owed c.args.c after) renders) c.self.view_is
          (cost_kept t c.args.c c.args.place x c.answer-2.new.self _ _ here.at here.found
          c.answer-2.ensures.id c.answer-2.ensures.keeps);
    }
