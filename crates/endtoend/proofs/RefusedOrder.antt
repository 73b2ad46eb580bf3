-- Where an order ends with the server's error word, no line of the client gave a driver anything.
use Rattle.std.proofs.Common.{◌≡◌, ◌∙◌, inl, inr, ℕ, Bool, List, [], ◌∷◌, ◌++◌, append_assoc}
use Rattle.std.proofs.Common.{Option, refl, sym, ap, subst}
use Rattle.std.specs.Prelude.{All}
use Rattle.std.proofs.lemmas.List.{append_cancel_left}
use Rattle.std.proofs.lemmas.List.Elements.{All-head, All-tail}
use Rattle.nutwords.specs.SplitLine.{with_lf}
use Rattle.nutusers.specs.declared.rights.Right.{Right}
use Rattle.nutusers.specs.declared.ups_list.UpsId.{UpsId}
use Rattle.nutcore.specs.DriverOrders.{given_by_line}
use Rattle.nutcore.specs.History.{Execution, of_line, of_notice, texts_of, lines_of}
use Rattle.nutcore.specs.Reply.{reply}
use Rattle.nutcore.specs.Server.{ServerState}
use Rattle.nutrequest.specs.Reply.{Reply, Whole, Refused, Bad, Unfinished, reply as client_reply}
use Rattle.nutrequest.specs.declared.faults.ClientFault.TheVariants.{ErrWord as ServerRefused}
use Rattle.nutrequest.specs.declared.item.Item.{Item}
use Rattle.nutrequest.specs.declared.request.Request.{Request}
use Rattle.nutclient.specs.Printed.{Faults, printed, printed_of}
use Rattle.nutclient.specs.Requests.{lines_behind, sent_lines, reply_behind, last_reply_after}
use Rattle.nutclient.specs.declared.form.Form.TheVariants as forms
use Rattle.endtoend.specs.OneOrder.{given_by_lines}
use Rattle.endtoend.specs.Served.{IsLineOf}
use Rattle.endtoend.proofs.Aligned.{AreServed, served, no_more}
use Rattle.endtoend.proofs.LastNotice.{NoticeIsLast, a_line}
use Rattle.endtoend.proofs.OrderJobs.{IsOrderOf}
use Rattle.endtoend.proofs.OrderRows.{IsLogin}
use Rattle.endtoend.proofs.Refused.{refused_read, granted_read}
use Rattle.endtoend.proofs.Stable.{reply_stays}

pub no_requests : (front : List Request) (order : Request) → [] ≡ front ++ order ∷ [] → ⊥
no_requests [] order e = cc e
no_requests (first ∷ front) order e = cc e

none_behind : (s : ServerState) (c : ℕ) (xs : List Execution) → NoticeIsLast (of_notice s c ∷ xs) → xs ≡ []
none_behind s c [] n = refl
none_behind s c (y ∷ ys) n = elim n [ ]

line_behind : (s : ServerState) (c : ℕ) (line : List ℕ) (xs : List Execution) →
    NoticeIsLast (of_line s c line ∷ xs)
    → NoticeIsLast xs
line_behind s c line xs (a_line _ _ _ n) = n

no_lines : (xs : List Execution) (rest : List ℕ) → lines_of xs ++ rest ≡ [] →
    (u : UpsId) → given_by_lines u xs ≡ []
no_lines [] rest e u = refl
no_lines (of_line s c line ∷ xs) rest e u = absurd (no_more line (lines_of xs) rest e)
no_lines (of_notice s c ∷ xs) rest e u = no_lines xs rest e u

module _ (track : Bool) (ups user password : List ℕ) (right : Right) (bytes : Option ℕ → List ℕ)
    (order : Request) (is : IsOrderOf track ups right bytes order) (word : List ℕ) where
  abbrev pub Refuses : List Request → List Execution → List ℕ → Type 0
  Refuses all xs came =
      (rest more : List ℕ) → lines_of xs ++ rest ≡ sent_lines all came → came ++ more ≡ texts_of xs
      → printed all forms.Value came ≡ Faults (ServerRefused word) → (u : UpsId) → given_by_lines u xs ≡ []

  -- the order's own line
  at_order : (s : ServerState) (c : ℕ) (line : List ℕ) (xs : List Execution) (came : List ℕ)
      → IsLineOf order line
      → Refuses (order ∷ []) (of_line s c line ∷ xs) came
  at_order s c line xs came asks rest more same begins h u = by_reply (client_reply order came) refl behind h
    where
      behind : lines_of xs ++ rest ≡ lines_behind (client_reply order came) (λ rest. sent_lines [] rest)
      behind = append_cancel_left (with_lf line) _ _
          (sym (append_assoc (with_lf line) (lines_of xs) rest) ∙ same
          ∙ ap (λ t. t ++ lines_behind (client_reply order came) (λ rest. sent_lines [] rest)) (sym asks))

      own : (w : List ℕ) → client_reply order came ≡ Refused w → given_by_line u (of_line s c line) ≡ []
      own w e = elim (is.row s c line asks) [
        | inl (quiet, err) ↦ quiet u
        | inr o ↦ absurd (is.unrefused o.id (reply s c line) (texts_of xs) w o.answered
            (ap (client_reply order) (sym begins) ∙ reply_stays order is.one came more (Refused w) tt e))
      ]

      by_reply : (r : Reply) → client_reply order came ≡ r
          → lines_of xs ++ rest ≡ lines_behind r (λ rest. sent_lines [] rest)
          → printed_of forms.Value (reply_behind r (λ items rest. last_reply_after items [] rest))
          ≡ Faults (ServerRefused word) → given_by_lines u (of_line s c line ∷ xs) ≡ []
      by_reply (Refused w) e none_left k =
          ap (λ t. t ++ given_by_lines u xs) (own w e) ∙ no_lines xs rest none_left u
      by_reply (Whole items left) e none_left k = cc k
      by_reply Bad e none_left k = cc k
      by_reply Unfinished e none_left k = cc k

  -- a line before it
  at_login : (first : Request) → IsLogin user password first → (all : List Request) → (all ≡ [] → ⊥)
      → (s : ServerState) (c : ℕ) (line : List ℕ) (xs : List Execution) (came : List ℕ) → IsLineOf first line
      → ((left : List ℕ) → Refuses all xs left) → Refuses (first ∷ all) (of_line s c line ∷ xs) came
  at_login first login all some s c line xs came asks later rest more same begins h u =
      ap (λ t. t ++ given_by_lines u xs) (login.quiet s c line asks u)
      ∙ by_reply (client_reply first came) refl behind h
    where
      behind : lines_of xs ++ rest ≡ lines_behind (client_reply first came) (λ rest. sent_lines all rest)
      behind = append_cancel_left (with_lf line) _ _
          (sym (append_assoc (with_lf line) (lines_of xs) rest) ∙ same
          ∙ ap (λ t. t ++ lines_behind (client_reply first came) (λ rest. sent_lines all rest)) (sym asks))

      printed_behind : (rs : List Request) (items : List Item) (left : List ℕ) → (rs ≡ [] → ⊥)
          → printed_of forms.Value (last_reply_after items rs left) ≡ Faults (ServerRefused word)
          → printed rs forms.Value left ≡ Faults (ServerRefused word)
      printed_behind [] items left some k = absurd (some refl)
      printed_behind (next ∷ rs) items left some k = k

      texts_left : (items : List Item) (left : List ℕ) → client_reply first came ≡ Whole items left
          → left ++ more ≡ texts_of xs
      texts_left items left e =
          let stays : client_reply first (reply s c line ++ texts_of xs) ≡ Whole items (left ++ more) =
          ap (client_reply first) (sym begins) ∙ reply_stays first login.one came more (Whole items left) tt e in
          elim (login.either s c line asks) [
            | inl (err, refused) ↦ cc (sym (ap (λ t. client_reply first (t ++ texts_of xs)) refused
                ∙ refused_read first err (texts_of xs)) ∙ stays)
            | inr granted ↦ cc (sym stays ∙ ap (λ t. client_reply first (t ++ texts_of xs)) granted
                ∙ granted_read first (texts_of xs) login.by_ok)
          ]

      by_reply : (r : Reply) → client_reply first came ≡ r
          → lines_of xs ++ rest ≡ lines_behind r (λ rest. sent_lines all rest)
          → printed_of forms.Value (reply_behind r (λ items rest. last_reply_after items all rest))
          ≡ Faults (ServerRefused word) → given_by_lines u xs ≡ []
      by_reply (Refused w) e lines_left k = no_lines xs rest lines_left u
      by_reply (Whole items left) e lines_left k =
          later left rest more lines_left (texts_left items left e) (printed_behind all items left some k) u
      by_reply Bad e lines_left k = cc k
      by_reply Unfinished e lines_left k = cc k

  pub refused_quiet : (front : List Request) → All (IsLogin user password) front → (all : List Request)
      → all ≡ front ++ order ∷ [] → (xs : List Execution) → AreServed all xs →
      NoticeIsLast xs → (came : List ℕ)
      → Refuses all xs came
  refused_quiet front logins all same [] some notice came =
      λ rest more lines begins h u. refl
  refused_quiet front logins all same (of_notice s c ∷ xs) some notice came =
      λ rest more lines begins h u. ap (given_by_lines u) (none_behind s c xs notice)
  refused_quiet [] logins (request ∷ all) same (of_line s c line ∷ xs) (served _ _ asks some) notice came =
      let first : request ≡ order = cc same in
      let none_left : all ≡ [] = cc same in
      subst (λ rs. Refuses rs (of_line s c line ∷ xs) came)
      (sym (ap (λ r. r ∷ all) first ∙ ap (λ rs. order ∷ rs) none_left))
      (at_order s c line xs came (subst (λ r. IsLineOf r line) first asks))
  refused_quiet (login ∷ front) logins (request ∷ all) same (of_line s c line ∷ xs) (served _ _ asks some)
      notice came =
      let first : request ≡ login = cc same in
      let rest_is : all ≡ front ++ order ∷ [] = cc same in
      subst (λ r. Refuses (r ∷ all) (of_line s c line ∷ xs) came) (sym first)
      (at_login login (All-head (IsLogin user password) login front logins) all
      (λ e. no_requests front order (sym e ∙ rest_is)) s c line xs came (subst (λ r. IsLineOf r line) first asks)
      (refused_quiet front (All-tail (IsLogin user password) login front logins) all rest_is xs some
      (line_behind s c line xs notice)))
  refused_quiet front logins [] same (of_line s c line ∷ xs) some notice came = elim some [ ]
