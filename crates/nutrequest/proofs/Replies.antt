-- A reply that is read line by line.
use Rattle.std.proofs.Common.{◌≡◌, ℕ, List, [], ◌∷◌, ◌++◌, Option, None, Result}
use Rattle.std.proofs.Common.{Ok, Err, refl, sym, ap, ◌∙◌, append_assoc}
use Rattle.nutwords.specs.Scan.{words_of}
use Rattle.nutrequest.specs.Lines.{lines, FoundLine, Line, TooLong}
use Rattle.nutio.specs.Ends.{Received, Written}
use Rattle.nutrequest.specs.Inbox.{LineGives}
use Rattle.nutrequest.specs.Request.{request_line}
use Rattle.nutrequest.specs.Reply.{Reply, Bad, Unfinished, items_from, later_of, after_later, expected_of}
use Rattle.nutrequest.specs.Session.{Fails, ReplyGives, AskGives}
use Rattle.nutrequest.specs.declared.read.LaterLine.{LaterLine}
use Rattle.nutrequest.specs.declared.item.Item.{Item}
use Rattle.nutrequest.specs.declared.request.Query.{Query}
use Rattle.nutrequest.specs.declared.request.Request.{Request}
use Rattle.nutrequest.specs.declared.request.Request.TheVariants.{List as ListOf, GetVar}
use Rattle.nutrequest.specs.declared.request.Request.TheVariants.{GetNumAttach, TrackedSetVar}
use Rattle.nutrequest.specs.declared.request.Request.TheVariants.{TrackedInstcmd, GetTracking}
use Rattle.nutrequest.specs.declared.faults.ClientFault.{ClientFault}
use Rattle.nutrequest.specs.declared.faults.ClientFault.TheVariants as faults
use Rattle.nutio.proofs.PublicLaws.{received_joins, read_failed_joins}

-- no line came: nothing that is read by lines goes on
pub line_fault : {R : Type 0} (remaining : R → Option (List ℕ)) (failures : R → ℕ)
    (f : List FoundLine → Reply) (kept new : List ℕ) (reader after : R) (fault : ClientFault)
    → f [] ≡ Unfinished → f (TooLong ∷ []) ≡ Bad →
    LineGives remaining failures kept reader (Err fault) new after →
    Fails remaining failures (λ bs r. f (lines (kept ++ bs)) ≡ r) reader fault after
line_fault remaining failures f kept new reader after faults.BadReply still bad h =
    (h.0, h.1, λ more. ap f (h.2 more) ∙ bad)
line_fault remaining failures f kept new reader after faults.EarlyEnd still bad h = (h.0, h.1, h.2, ap f h.3 ∙ still)
line_fault remaining failures f kept new reader after faults.Read still bad h = (h.0, h.1, ap f h.2 ∙ still)
line_fault remaining failures f kept new reader after faults.Connect still bad h = absurd h
line_fault remaining failures f kept new reader after faults.Write still bad h = absurd h
line_fault remaining failures f kept new reader after (faults.ErrWord w) still bad h = absurd h
line_fault remaining failures f kept new reader after faults.BadTarget still bad h = absurd h
line_fault remaining failures f kept new reader after faults.Memory still bad h = absurd h

-- a fault after a front of the bytes is a fault of all
pub fails_behind : {R : Type 0} (remaining : R → Option (List ℕ)) (failures : R → ℕ)
    (F H : List ℕ → Reply) (x : List ℕ) (reader mid after : R) (fault : ClientFault)
    → Received remaining failures reader x mid →
    ((more : List ℕ) → F (x ++ more) ≡ H more) →
    Fails remaining failures (λ bs r. H bs ≡ r) mid fault after →
    Fails remaining failures (λ bs r. F bs ≡ r) reader fault after
fails_behind remaining failures F H x reader mid after (faults.ErrWord w) c h f = (
  x ++ f.0,
  received_joins remaining failures reader mid after x f.0 c f.1,
  λ more. ap F (append_assoc x f.0 more) ∙ h (f.0 ++ more) ∙ f.2 more,
)
fails_behind remaining failures F H x reader mid after faults.BadReply c h f = (
  x ++ f.0,
  received_joins remaining failures reader mid after x f.0 c f.1,
  λ more. ap F (append_assoc x f.0 more) ∙ h (f.0 ++ more) ∙ f.2 more,
)
fails_behind remaining failures F H x reader mid after faults.EarlyEnd c h f =
    (x ++ f.0, received_joins remaining failures reader mid after x f.0 c f.1, f.2, h f.0 ∙ f.3)
fails_behind remaining failures F H x reader mid after faults.Read c h f =
    (x ++ f.0, read_failed_joins remaining failures reader mid after x f.0 c f.1, h f.0 ∙ f.2)
fails_behind remaining failures F H x reader mid after faults.Memory c h f =
    (x ++ f.0, received_joins remaining failures reader mid after x f.0 c f.1)
fails_behind remaining failures F H x reader mid after faults.Connect c h f = absurd f
fails_behind remaining failures F H x reader mid after faults.Write c h f = absurd f
fails_behind remaining failures F H x reader mid after faults.BadTarget c h f = absurd f

-- one line more of the reply
pub behind : (F : List ℕ → Reply) (f : List FoundLine → Reply) (x y kept new line : List ℕ)
    → ((more : List ℕ) → F (x ++ more) ≡ f (lines (kept ++ more)))
    → ((more : List ℕ) → lines (kept ++ (y ++ more)) ≡ Line line (new ++ more) ∷ lines (new ++ more))
    → (more : List ℕ) → F ((x ++ y) ++ more) ≡ f (Line line (new ++ more) ∷ lines (new ++ more))
behind F f x y kept new line h k more = ap F (append_assoc x y more) ∙ h (y ++ more) ∙ ap f (k more)

-- one later line more of a listing
pub later_line : (query : Query) (items : List Item) (F : List ℕ → Reply)
    (x y kept new line words_line : List ℕ) (later : LaterLine)
    → ((more : List ℕ) → F (x ++ more) ≡ items_from query items (lines (kept ++ more)))
    → ((more : List ℕ) → lines (kept ++ (y ++ more)) ≡ Line line (new ++ more) ∷ lines (new ++ more))
    → words_line ≡ line → later_of query (words_of words_line) ≡ later
    → (more : List ℕ) → F ((x ++ y) ++ more) ≡
    after_later later items (new ++ more) (λ all. items_from query all (lines (new ++ more)))
later_line query items F x y kept new line words_line later h k e is more =
    behind F (items_from query items) x y kept new line h k more
    ∙ ap (λ l. after_later (later_of query (words_of l)) items (new ++ more)
    (λ all. items_from query all (lines (new ++ more)))) (sym e)
    ∙ ap (λ l. after_later l items (new ++ more) (λ all. items_from query all (lines (new ++ more)))) is

-- the answer is the reply's, where the request was sent
pub asked_of_reply : {R W : Type 0} (remaining : R → Option (List ℕ)) (failures : R → ℕ)
    (contents : W → Option (List ℕ)) (write_failures : W → ℕ) (request : Request)
    (old new : List ℕ) (reader after : R) (writer sent : W) (result : Result (List Item) ClientFault)
    → Written contents write_failures writer (request_line request) sent →
    ReplyGives remaining failures request old reader result new after
    → AskGives remaining failures contents write_failures request old reader writer result new after sent
asked_of_reply remaining failures contents write_failures request old new reader after writer sent
    (Ok items) t r = (t, r)
asked_of_reply remaining failures contents write_failures request old new reader after writer sent
    (Err faults.Write) t r = absurd r
asked_of_reply remaining failures contents write_failures request old new reader after writer sent
    (Err (faults.ErrWord w)) t r = (t, r)
asked_of_reply remaining failures contents write_failures request old new reader after writer sent
    (Err faults.BadReply) t r = (t, r)
asked_of_reply remaining failures contents write_failures request old new reader after writer sent
    (Err faults.EarlyEnd) t r = (t, r)
asked_of_reply remaining failures contents write_failures request old new reader after writer sent
    (Err faults.Read) t r = (t, r)
asked_of_reply remaining failures contents write_failures request old new reader after writer sent
    (Err faults.Connect) t r = absurd r
asked_of_reply remaining failures contents write_failures request old new reader after writer sent
    (Err faults.BadTarget) t r = absurd r
asked_of_reply remaining failures contents write_failures request old new reader after writer sent
    (Err faults.Memory) t r = (t, r)

-- no request is granted by a line without words
pub unexpected : (request : Request) → expected_of request [] ≡ None
unexpected (ListOf query) = refl
unexpected (GetVar ups name) = refl
unexpected (GetNumAttach ups) = refl
unexpected (TrackedSetVar ups name value) = refl
unexpected (TrackedInstcmd ups name value) = refl
unexpected (GetTracking id) = refl
unexpected _ = refl
