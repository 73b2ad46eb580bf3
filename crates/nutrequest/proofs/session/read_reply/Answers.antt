use Rattle.std.proofs.Common.{◌≡◌, ◌<◌, ◌≤◌, ◌++◌, ◌∷◌, ◌∙◌, Bool}
use Rattle.std.proofs.Common.{true, false, [], Err, if◌then◌else◌, length, refl, sym, ap}
use Rattle.std.proofs.Common.{subst, arith, rules}
use Rattle.std.proofs.lemmas.Result.{err_from_is_err_and}
use Rattle.std.proofs.lemmas.Bool.Decides.{nat_tests}
use Rattle.std.specs.Result.{result_map_both}
use Rattle.nutwords.specs.Scan.{words_of}
use Rattle.nutrequest.specs.Inbox.{unread}
use Rattle.nutrequest.specs.Lines.{lines}
use Rattle.nutrequest.specs.Reply.{Bad, after_expected, after_first, first_of, has_room, items_from, reply, reply_from}
use Rattle.nutrequest.specs.Session.{ReplyGives}
use Rattle.nutrequest.specs.declared.faults.ClientFault.TheVariants.{Memory}
use Rattle.nutrequest.specs.declared.limits.TheConstants.{ITEM_LIMIT}
use Rattle.nutrequest.specs.declared.read.FirstLine.TheVariants.{Expected}
use Rattle.nutrequest.specs.declared.read.LaterLine.TheVariants.{End, Another, Bad as BadLater}
use Rattle.nutio.proofs.PublicLaws.{received_joins}
use Rattle.nutrequest.proofs.Replies.{line_fault, fails_behind, later_line}
use Rattle.nutrequest.proofs.session.read_reply.Goals as goal

-- the first line and what follows it
pub loop-items-init : goal.loop-items-init
loop-items-init g c =
    let request = c.args.request.now in
    let l = c.in_ok-first.ensures in
    let kept = unread c.line.new.self in
    let is : first_of request (words_of c.deref.result.now) ≡ Expected c.in-Expected.value =
    sym c.in_ok-value.ensures ∙ c.in-Expected.is in (
      l.0,
      l.1,
      λ more. ap (reply_from request) (l.3 more)
          ∙ ap (λ line. after_first request (first_of request (words_of line)) (kept ++ more))
          (sym c.deref.ensures.0)
          ∙ ap (λ first. after_first request first (kept ++ more)) is
          ∙ ap (λ q. after_expected q c.in-Expected.value (kept ++ more)) c.in-List.is
          ∙ ap (λ all. items_from c.in-List.query all (lines (kept ++ more))) (sym c.new-items.ensures.items),
    )

pub returns-in_err-line : goal.returns-in_err-line
returns-in_err-line g c =
    let i = c.loop-items.invariant in
    let request = c.args.request.now in
    let query = c.in-List.query in
    let items = c.loop-items.items.items in
    let old = unread c.args.inbox.now in
    let kept = unread c.loop-items.inbox in
    let new = unread c.line-in-loop-items.new.self in
    let fault = c.in_err-line.field-0.0 in
    let p = err_from_is_err_and c.from_residual-in_err-line.result c.from_residual-in_err-line.ensures.1 in
    subst (λ r. ReplyGives g.R.Source.remaining g.R.Source.failures request old c.args.reader.now
    (result_map_both (λ v. v.items) (λ e. e) r) new c.line-in-loop-items.new.reader)
    (sym (p.1 ∙ ap Err p.2))
    (fails_behind g.R.Source.remaining g.R.Source.failures (λ bs. reply request (old ++ bs))
    (λ bs. items_from query items (lines (kept ++ bs))) i.0 c.args.reader.now c.loop-items.reader
    c.line-in-loop-items.new.reader fault i.1 i.2
    (line_fault g.R.Source.remaining g.R.Source.failures (items_from query items) kept new
    c.loop-items.reader c.line-in-loop-items.new.reader
    fault refl refl c.in_err-line.ensures))

pub returns-in_err-later_line : goal.returns-in_err-later_line
returns-in_err-later_line g c =
    let i = c.loop-items.invariant in
    let l = c.in_ok-line.ensures in
    let p = err_from_is_err_and c.from_residual-in_err-later_line.result c.from_residual-in_err-later_line.ensures.1 in
    subst (λ r. ReplyGives g.R.Source.remaining g.R.Source.failures c.args.request.now
    (unread c.args.inbox.now) c.args.reader.now (result_map_both (λ v. v.items) (λ e. e) r)
    (unread c.line-in-loop-items.new.self) c.line-in-loop-items.new.reader)
    (sym (p.1 ∙ ap Err p.2)) (
      i.0 ++ l.0,
      received_joins g.R.Source.remaining g.R.Source.failures c.args.reader.now c.loop-items.reader
          c.line-in-loop-items.new.reader i.0 l.0 i.1 l.1,
    )

pub returns-in-End : goal.returns-in-End
returns-in-End g c =
    let i = c.loop-items.invariant in
    let l = c.in_ok-line.ensures in
    let query = c.in-List.query in
    let items = c.loop-items.items.items in
    let new = unread c.line-in-loop-items.new.self in (
      i.0 ++ l.0,
      received_joins g.R.Source.remaining g.R.Source.failures c.args.reader.now c.loop-items.reader
          c.line-in-loop-items.new.reader i.0 l.0 i.1 l.1,
      later_line query items (λ bs. reply c.args.request.now (unread c.args.inbox.now ++ bs)) i.0
          l.0 (unread c.loop-items.inbox) new
          c.in_ok-line.line.items c.deref-in-loop-items.result.now End i.2 l.3
          c.deref-in-loop-items.ensures.0 (sym c.in_ok-later_line.ensures ∙ c.in-End.is),
    )

pub returns-in-Bad-2 : goal.returns-in-Bad-2
returns-in-Bad-2 g c =
    let i = c.loop-items.invariant in
    let l = c.in_ok-line.ensures in
    let query = c.in-List.query in
    let items = c.loop-items.items.items in
    let new = unread c.line-in-loop-items.new.self in (
      i.0 ++ l.0,
      received_joins g.R.Source.remaining g.R.Source.failures c.args.reader.now c.loop-items.reader
          c.line-in-loop-items.new.reader i.0 l.0 i.1 l.1,
      later_line query items (λ bs. reply c.args.request.now (unread c.args.inbox.now ++ bs)) i.0
          l.0 (unread c.loop-items.inbox) new
          c.in_ok-line.line.items c.deref-in-loop-items.result.now BadLater i.2 l.3
          c.deref-in-loop-items.ensures.0 (sym c.in_ok-later_line.ensures ∙ c.in-Bad-2.is),
    )

pub returns-then-len-ge-ITEM_LIMIT : goal.returns-then-len-ge-ITEM_LIMIT
returns-then-len-ge-ITEM_LIMIT g c =
    let i = c.loop-items.invariant in
    let l = c.in_ok-line.ensures in
    let query = c.in-List.query in
    let items = c.loop-items.items.items in
    let new = unread c.line-in-loop-items.new.self in
    let item = c.in-Another.item in
    let long : ITEM_LIMIT ≤ length items = omega arith in
    let full : has_room items ≡ false = grind (arith, nat_tests, long) in (
      i.0 ++ l.0,
      received_joins g.R.Source.remaining g.R.Source.failures c.args.reader.now c.loop-items.reader
          c.line-in-loop-items.new.reader i.0 l.0 i.1 l.1,
      λ more. later_line query items
          (λ bs. reply c.args.request.now (unread c.args.inbox.now ++ bs)) i.0 l.0 (unread c.loop-items.inbox) new
          c.in_ok-line.line.items c.deref-in-loop-items.result.now (Another item) i.2 l.3
          c.deref-in-loop-items.ensures.0 (sym c.in_ok-later_line.ensures ∙ c.in-Another.is) more
          ∙ ap (λ (b : Bool). if b then items_from query (items ++ item ∷ []) (lines (new ++ more)) else Bad) full,
    )

pub returns-in_err-map_err-in-Another : goal.returns-in_err-map_err-in-Another
returns-in_err-map_err-in-Another g c =
    let i = c.loop-items.invariant in
    let l = c.in_ok-line.ensures in
    let is : c.in_err-map_err-in-Another.field-0.0 ≡ Memory = search rules in
    let p = err_from_is_err_and c.from_residual-in_err-map_err-in-Another.result
    c.from_residual-in_err-map_err-in-Another.ensures.1 in
    subst (λ r. ReplyGives g.R.Source.remaining g.R.Source.failures c.args.request.now
    (unread c.args.inbox.now) c.args.reader.now (result_map_both (λ v. v.items) (λ e. e) r)
    (unread c.line-in-loop-items.new.self) c.line-in-loop-items.new.reader)
    (sym (p.1 ∙ ap Err (p.2 ∙ is))) (
      i.0 ++ l.0,
      received_joins g.R.Source.remaining g.R.Source.failures c.args.reader.now
          c.loop-items.reader c.line-in-loop-items.new.reader i.0 l.0 i.1 l.1,
    )

pub loop-items-preserved : goal.loop-items-preserved
loop-items-preserved g c =
    let i = c.loop-items.invariant in
    let l = c.in_ok-line.ensures in
    let query = c.in-List.query in
    let items = c.loop-items.items.items in
    let new = unread c.line-in-loop-items.new.self in
    let item = c.in-Another.item in
    let short : length items < ITEM_LIMIT = omega arith in
    let room : has_room items ≡ true = grind (arith, nat_tests, short) in
    let pushed : c.push-in-Another.new.self.items ≡ items ++ item ∷ [] = search rules in (
      i.0 ++ l.0,
      received_joins g.R.Source.remaining g.R.Source.failures c.args.reader.now c.loop-items.reader
          c.line-in-loop-items.new.reader i.0 l.0 i.1 l.1,
      λ more. later_line query items
          (λ bs. reply c.args.request.now (unread c.args.inbox.now ++ bs)) i.0 l.0 (unread c.loop-items.inbox) new
          c.in_ok-line.line.items c.deref-in-loop-items.result.now (Another item) i.2 l.3
          c.deref-in-loop-items.ensures.0 (sym c.in_ok-later_line.ensures ∙ c.in-Another.is) more
          ∙ ap (λ (b : Bool). if b then items_from query (items ++ item ∷ []) (lines (new ++ more)) else Bad) room
          ∙ ap (λ all. items_from query all (lines (new ++ more))) (sym pushed),
    )
