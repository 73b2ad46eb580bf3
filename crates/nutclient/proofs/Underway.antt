-- Requests of which some are answered.
use Rattle.std.proofs.Common.{◌≡◌, ℕ, List, [], ◌∷◌, ◌++◌, Option, Ok, Err, refl}
use Rattle.std.proofs.Common.{sym, ap, subst, ◌∙◌, append_assoc, append-nil, drop, suc}
use Rattle.std.proofs.Common.{length, get_or, add-one, ◌+◌, ◌<◌}
use Rattle.std.proofs.Math.Seq.{drop-cons}
use Rattle.nutio.specs.Ends.{Received, Written, IsBeginning}
use Rattle.nutrequest.specs.Request.{request_line}
use Rattle.nutrequest.specs.Reply.{Reply, Refused, Bad, Unfinished, reply}
use Rattle.nutrequest.specs.Session.{AskGives}
use Rattle.nutrequest.specs.declared.item.Item.{Item}
use Rattle.nutrequest.specs.declared.request.Request.{Request}
use Rattle.nutrequest.specs.declared.faults.ClientFault.{ClientFault}
use Rattle.nutrequest.specs.declared.faults.ClientFault.TheVariants as faults
use Rattle.nutclient.specs.Requests.{lines_behind, sent_lines, reply_behind, last_reply_after, last_reply, RequestsGive}
use Rattle.nutio.proofs.PublicLaws.{nothing_is_received, received_joins, read_failed_joins}
use Rattle.nutio.proofs.PublicLaws.{nothing_is_written, written_joins, write_failed_joins}

-- what is left begins with the next request
pub next_left : (all : List Request) (n : ℕ) (request : Request) → n < length all
    → request ≡ get_or all n request → drop n all ≡ request ∷ drop (n + 1) all
next_left all n request within is =
    drop-cons all n request within ∙ ap (λ x. x ∷ drop (suc n) all) (sym is)
    ∙ ap (λ k. request ∷ drop k all) (sym (add-one n))

module _ {R W : Type 0} (rem : R → Option (List ℕ)) (rf : R → ℕ)
    (con : W → Option (List ℕ)) (wf : W → ℕ)
    (all : List Request) (old : List ℕ) (reader : R) (writer : W) where
  -- Of all requests these are left: what came and what was written so far are the replies and the
  -- lines up to there, and these items came last.
  pub record IsUnderWay (items : List Item) (left : List Request) (kept : List ℕ) (after : R)
      (sent : W) : Type 0 where
    pub came : List ℕ
    pub text : List ℕ
    pub read : Received rem rf reader came after
    pub written : Written con wf writer text sent
    pub lines : (more : List ℕ) → sent_lines all (old ++ (came ++ more)) ≡ text ++ sent_lines left (kept ++ more)
    pub replies : (more : List ℕ)
        → last_reply all (old ++ (came ++ more)) ≡ last_reply_after items left (kept ++ more)

  pub starts : IsUnderWay [] all old reader writer
  starts = record {
    came = [];
    text = [];
    read = nothing_is_received rem rf reader;
    written = nothing_is_written con wf writer;
    lines = λ more. refl;
    replies = λ more. refl;
  }

  -- all are granted
  pub ends_well : (items : List Item) (kept : List ℕ) (after : R) (sent : W)
      → IsUnderWay items [] kept after sent →
      RequestsGive rem rf con wf all old reader writer (Ok items) kept after sent
  ends_well items kept after sent i =
      (i.came, i.text, i.read, i.written, (λ more. i.lines more ∙ append-nil i.text), i.replies)

module _ {R W : Type 0} (rem : R → Option (List ℕ)) (rf : R → ℕ)
    (con : W → Option (List ℕ)) (wf : W → ℕ)
    (all : List Request) (old : List ℕ) (reader : R) (writer : W) (items : List Item) (request : Request)
    (left : List Request) (kept : List ℕ) (mid : R) (middle : W)
    (i : IsUnderWay rem rf con wf all old reader writer items (request ∷ left) kept mid middle) where
  -- what all requests make of the reply to the next one
  lines_after : (bs : List ℕ) (r : Reply) → reply request (kept ++ bs) ≡ r
      → sent_lines all (old ++ (i.came ++ bs))
      ≡ (i.text ++ request_line request) ++ lines_behind r (λ rest. sent_lines left rest)
  lines_after bs r e =
      i.lines bs ∙ ap (λ q. i.text ++ (request_line request ++ lines_behind q (λ rest. sent_lines left rest))) e
      ∙ sym (append_assoc i.text (request_line request) (lines_behind r (λ rest. sent_lines left rest)))

  replies_after : (bs : List ℕ) (r : Reply) → reply request (kept ++ bs) ≡ r
      → last_reply all (old ++ (i.came ++ bs)) ≡ reply_behind r (λ later rest. last_reply_after later left rest)
  replies_after bs r e = i.replies bs ∙ ap (λ q. reply_behind q (λ later rest. last_reply_after later left rest)) e

  -- one request more is granted
  pub goes_further : (new : List ℕ) (after : R) (sent : W) (next : List Item)
      → AskGives rem rf con wf request kept mid middle (Ok next) new after sent →
      IsUnderWay rem rf con wf all old reader writer next left new after sent
  goes_further new after sent next a = let o = a.1 in record {
    came = i.came ++ o.0;
    text = i.text ++ request_line request;
    read = received_joins rem rf reader mid after i.came o.0 i.read o.1;
    written = written_joins con wf writer middle sent i.text (request_line request) i.written a.0;
    lines = λ more. ap (λ bs. sent_lines all (old ++ bs)) (append_assoc i.came o.0 more)
        ∙ lines_after (o.0 ++ more) _ (o.2 more);
    replies = λ more. ap (λ bs. last_reply all (old ++ bs)) (append_assoc i.came o.0 more)
        ∙ replies_after (o.0 ++ more) _ (o.2 more);
  }

  -- the next request's line and those before are a beginning of all
  begins : (bs : List ℕ) → IsBeginning (i.text ++ request_line request) (sent_lines all (old ++ (i.came ++ bs)))
  begins bs = (lines_behind (reply request (kept ++ bs)) (λ rest. sent_lines left rest), lines_after bs _ refl)

  -- the lines and the reply, where the reply to the next isn't whole
  abbrev Reads : List ℕ → Reply → Type 0
  Reads bs r = (sent_lines all (old ++ bs) ≡ i.text ++ request_line request) × (last_reply all (old ++ bs) ≡ r)

  read_so : (bs : List ℕ) (r : Reply) → reply request (kept ++ bs) ≡ r →
      lines_behind r (λ rest. sent_lines left rest) ≡ []
      → reply_behind r (λ later rest. last_reply_after later left rest) ≡ r → Reads (i.came ++ bs) r
  read_so bs r e none same = (
    lines_after bs r e ∙ ap (λ t. (i.text ++ request_line request) ++ t) none ∙
        append-nil (i.text ++ request_line request),
    replies_after bs r e ∙ same,
  )

  read_more : (came more : List ℕ) (r : Reply) → reply request (kept ++ (came ++ more)) ≡ r
      → lines_behind r (λ rest. sent_lines left rest) ≡ []
      → reply_behind r (λ later rest. last_reply_after later left rest) ≡ r → Reads ((i.came ++ came) ++ more) r
  read_more came more r e none same =
      subst (λ bs. Reads bs r) (sym (append_assoc i.came came more)) (read_so (came ++ more) r e none same)

  -- the next request isn't granted
  pub ends_early : (new : List ℕ) (after : R) (sent : W) (fault : ClientFault)
      → AskGives rem rf con wf request kept mid middle (Err fault) new after sent
      → RequestsGive rem rf con wf all old reader writer (Err fault) new after sent
  ends_early new after sent faults.Write a = (
    i.came,
    i.text ++ request_line request,
    subst (λ r. Received rem rf reader i.came r) (sym a.1) i.read,
    write_failed_joins con wf writer middle sent i.text (request_line request) i.written a.0,
    begins,
  )
  ends_early new after sent (faults.ErrWord w) a = let f = a.1 in (
    i.text ++ request_line request,
    written_joins con wf writer middle sent i.text (request_line request) i.written a.0,
    (
      i.came ++ f.0,
      received_joins rem rf reader mid after i.came f.0 i.read f.1,
      λ more. read_more f.0 more (Refused w) (f.2 more) refl refl,
    ),
  )
  ends_early new after sent faults.BadReply a = let f = a.1 in (
    i.text ++ request_line request,
    written_joins con wf writer middle sent i.text (request_line request) i.written a.0,
    (
      i.came ++ f.0,
      received_joins rem rf reader mid after i.came f.0 i.read f.1,
      λ more. read_more f.0 more Bad (f.2 more) refl refl,
    ),
  )
  ends_early new after sent faults.EarlyEnd a = let f = a.1 in (
    i.text ++ request_line request,
    written_joins con wf writer middle sent i.text (request_line request) i.written a.0,
    (
      i.came ++ f.0,
      received_joins rem rf reader mid after i.came f.0 i.read f.1,
      f.2,
      read_so f.0 Unfinished f.3 refl refl,
    ),
  )
  ends_early new after sent faults.Read a = let f = a.1 in (
    i.text ++ request_line request,
    written_joins con wf writer middle sent i.text (request_line request) i.written a.0,
    (
      i.came ++ f.0,
      read_failed_joins rem rf reader mid after i.came f.0 i.read f.1,
      read_so f.0 Unfinished f.2 refl refl,
    ),
  )
  ends_early new after sent faults.Memory a = let f = a.1 in (
    i.came ++ f.0,
    i.text ++ request_line request,
    received_joins rem rf reader mid after i.came f.0 i.read f.1,
    written_joins con wf writer middle sent i.text (request_line request) i.written a.0,
    λ more. subst (λ bs. IsBeginning (i.text ++ request_line request) (sent_lines all (old ++ bs)))
        (sym (append_assoc i.came f.0 more)) (begins (f.0 ++ more)),
  )
  ends_early new after sent faults.Connect a = absurd a.1
  ends_early new after sent faults.BadTarget a = absurd a.1
