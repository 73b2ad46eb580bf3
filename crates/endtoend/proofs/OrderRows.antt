-- What the server answers to the lines of an order's requests, and what that gives to drivers.
use Rattle.std.proofs.Common.{◌≡◌, ◌∙◌, ◌⊎◌, inl, inr, ℕ, true, false, cond}
use Rattle.std.proofs.Common.{eqb, List, [], ◌∷◌, ◌++◌}
use Rattle.std.proofs.Common.{append-nil, Option, Some, None, Result, Ok, Err, refl, sym, ap, subst}
use Rattle.std.specs.Prelude.{is_some}
use Rattle.nutwords.specs.Frame.{line_of}
use Rattle.nuttracking.specs.Id.{id_text}
use Rattle.nutusers.specs.declared.rights.Right.{Right}
use Rattle.nutusers.specs.declared.rights.Right.TheVariants as rights
use Rattle.nutusers.specs.declared.ups_list.UpsId.{UpsId}
use Rattle.nutcommand.specs.Command.{read_command}
use Rattle.nutcommand.specs.ErrWord.{error_line}
use Rattle.nutcommand.specs.declared.command.Command.{Command}
use Rattle.nutcommand.specs.declared.command.Command.TheVariants as commands
use Rattle.nutcommand.specs.declared.err_word.ErrWord.{ErrWord}
use Rattle.nutanswer.specs.Answer.{Answer, one_line, answer_to, text_of_answer, change_of_answer, ok}
use Rattle.nutanswer.specs.Checks.{◌>>◌, KnownUps, ups_named, already_set_username, already_set_password}
use Rattle.nutanswer.specs.Orders.{right_to, set_line, instcmd_line, ok_words, order as order_to}
use Rattle.nutanswer.specs.Rows.{ComesOf, HasRight, IsIdOfOrder, value_given}
use Rattle.nutanswer.specs.View.{Seen, AskerSeen}
use Rattle.nutanswer.specs.declared.reply.Change.TheVariants as changes
use Rattle.nutanswer.proofs.PublicLaws.{each_change_comes_of_its_command, each_order_answered_ok_is_given}
use Rattle.nutcore.specs.DriverOrders.{order as given_order, given_by_change, given_by_line}
use Rattle.nutcore.specs.History.{of_line}
use Rattle.nutcore.specs.Reply.{seen, asker, reply, text_to, change_by}
use Rattle.nutcore.specs.Server.{ServerState}
use Rattle.nutrequest.specs.Reply.{Reply, Whole, reply as client_reply}
use Rattle.nutrequest.specs.declared.request.Request.{Request}
use Rattle.nutrequest.specs.declared.request.Request.TheVariants as requests
use Rattle.nutclient.specs.Printed.{Prints, printed, printed_of}
use Rattle.nutclient.specs.Requests.{reply_behind}
use Rattle.nutclient.specs.declared.form.Form.TheVariants as forms
use Rattle.nutclient.specs.declared.limits.TheConstants.{USER_LIMIT, PASSWORD_LIMIT}
use Rattle.endtoend.specs.OneOrder.{granted_text}
use Rattle.endtoend.specs.Refused.{is_granted_by_ok}
use Rattle.endtoend.specs.Served.{IsLineOf, IsReadAsAsked, command_asked}
use Rattle.endtoend.proofs.Aligned.{IsQuiet}
use Rattle.endtoend.proofs.Ids.{WantsId, unwanted_id, missing_id, wanted_id}
use Rattle.endtoend.proofs.Ordered.{set_either, command_either, IsEither}
use Rattle.endtoend.proofs.Refused.{granted_read}
use Rattle.endtoend.proofs.Requests.{IsWord, username_read, password_read, set_tracking_read}
use Rattle.endtoend.proofs.Stable.{HasOneLine}

-- an answer of ERR or the bare OK, which gives no driver anything
abbrev IsErrOrOk : List ℕ → Type 0
IsErrOrOk text = ((word : ErrWord) × (text ≡ error_line word)) ⊎ (text ≡ line_of ok)

abbrev IsLoginRow : Result Answer ErrWord → Type 0
IsLoginRow r = IsErrOrOk (text_of_answer r) × ((u : UpsId) → given_by_change u (change_of_answer r) ≡ [])

behind_check : (r : Result (Unit {0}) ErrWord) (next : Result Answer ErrWord) →
    IsLoginRow next → IsLoginRow (r >> next)
behind_check (Err word) next h = (inl (word, refl), λ u. refl)
behind_check (Ok none) next h = h

-- a request before the order, of this user and password
pub record IsLogin (user password : List ℕ) (request : Request) : Type 0 where
  pub reads : IsReadAsAsked request
  pub one : HasOneLine request
  pub by_ok : is_granted_by_ok request ≡ true
  pub quiet : IsQuiet request
  pub either : (s : ServerState) (c : ℕ) (line : List ℕ) → IsLineOf request line → IsErrOrOk (reply s c line)
  pub username : (name : List ℕ) → command_asked request ≡ commands.Username (Some name) → name ≡ user
  pub password_is : (word : List ℕ) → command_asked request ≡ commands.Password (Some word) → word ≡ password

module _ (request : Request) (reads : IsReadAsAsked request)
    (row : (s : Seen) (a : AskerSeen) → IsLoginRow (answer_to s a (command_asked request))) where
  row_quiet : IsQuiet request
  row_quiet s c line asks u =
      ap (λ r. given_by_change u (change_by s c r)) (reads line asks) ∙ (row (seen s) (asker c s)).1 u

  row_either : (s : ServerState) (c : ℕ) (line : List ℕ) → IsLineOf request line → IsErrOrOk (reply s c line)
  row_either s c line asks = subst IsErrOrOk (sym (ap (text_to s c) (reads line asks))) (row (seen s) (asker c s)).0

pub login_username : (user password : List ℕ) → IsWord USER_LIMIT user →
    IsLogin user password (requests.Username user)
login_username user password h =
    let row = λ (s : Seen) (a : AskerSeen). behind_check (already_set_username a)
    (Ok (one_line ok (changes.Username user))) (inr refl, λ u. refl) in
    record {
      reads = username_read user h;
      one = λ value rest. refl;
      by_ok = refl;
      quiet = row_quiet (requests.Username user) (username_read user h) row;
      either = row_either (requests.Username user) (username_read user h) row;
      username = λ name e. cc e;
      password_is = λ word e. cc e;
    }

pub login_password : (user password : List ℕ) → IsWord PASSWORD_LIMIT password
    → IsLogin user password (requests.Password password)
login_password user password h =
    let row = λ (s : Seen) (a : AskerSeen). behind_check (already_set_password a)
    (Ok (one_line ok (changes.Password password))) (inr refl, λ u. refl) in
    record {
      reads = password_read password h;
      one = λ value rest. refl;
      by_ok = refl;
      quiet = row_quiet (requests.Password password) (password_read password h) row;
      either = row_either (requests.Password password) (password_read password h) row;
      username = λ name e. cc e;
      password_is = λ word e. cc e;
    }

pub login_tracking : (user password : List ℕ) → IsLogin user password requests.SetTracking
login_tracking user password =
    let row : (s : Seen) (a : AskerSeen) → IsLoginRow (answer_to s a (commands.SetTracking true)) =
    λ s a. (inr refl, λ u. refl) in
    record {
      reads = set_tracking_read;
      one = λ value rest. refl;
      by_ok = refl;
      quiet = row_quiet requests.SetTracking set_tracking_read row;
      either = row_either requests.SetTracking set_tracking_read row;
      username = λ name e. cc e;
      password_is = λ word e. cc e;
    }

-- the line gives the driver of this UPS the order, by right, and is answered so
pub record IsAnOrder (s : ServerState) (c : ℕ) (line ups : List ℕ) (right : Right)
    (bytes : Option ℕ → List ℕ) : Type 0 where
  pub known : KnownUps
  pub id : Option ℕ
  pub named : ups_named (seen s) (Some ups) ≡ Some known
  pub id_is : IsIdOfOrder (seen s) (asker c s) id
  pub answered : reply s c line ≡ line_of (ok_words id)
  pub change_is : change_by s c (read_command line) ≡ order_to known.id (bytes id) id
  pub has : HasRight (seen s) (asker c s) right

-- or it is refused
abbrev pub IsOrderRow : ServerState → ℕ → List ℕ → List ℕ → Right → (Option ℕ → List ℕ) → Type 0
IsOrderRow s c line ups right bytes =
    ((u : UpsId) → given_by_line u (of_line s c line) ≡ []) ×
    ((word : ErrWord) × (reply s c line ≡ error_line word))
    ⊎ IsAnOrder s c line ups right bytes

module _ (s : ServerState) (c : ℕ) (line ups : List ℕ) (command : Command) (right : Right)
    (bytes : Option ℕ → List ℕ) (read : read_command line ≡ Ok (Some command)) where
  answer : Result Answer ErrWord
  answer = answer_to (seen s) (asker c s) command

  row_of : IsEither (seen s) (asker c s) (Some ups) answer
      → ((known : KnownUps) (id : Option ℕ) → ups_named (seen s) (Some ups) ≡ Some known
      → IsIdOfOrder (seen s) (asker c s) id → text_of_answer answer ≡ line_of (ok_words id)
      → change_of_answer answer ≡ order_to known.id (bytes id) id)
      → ((known : KnownUps) (id : Option ℕ) →
      ComesOf (seen s) (asker c s) command (order_to known.id (bytes id) id)
      → HasRight (seen s) (asker c s) right)
      → IsOrderRow s c line ups right bytes
  unfolding answer
  row_of (inl (word, e)) gives comes = inl (
    λ u. ap (given_by_change u) (ap (change_by s c) read ∙ ap change_of_answer e),
    (word, ap (text_to s c) read ∙ ap text_of_answer e),
  )
  row_of (inr (known, id, named, is, e)) gives comes =
      let change = gives known id named is e in
      inr (record {
        known = known;
        id = id;
        named = named;
        id_is = is;
        answered = ap (text_to s c) read ∙ e;
        change_is = ap (change_by s c) read ∙ change;
        has = comes known id (subst (ComesOf (seen s) (asker c s) command) change
            (each_change_comes_of_its_command (seen s) (asker c s) command));
      })

-- what a driver is given by it
pub order_given : (u v : UpsId) (bytes : List ℕ) (id : Option ℕ) → given_by_change u (order_to v bytes id) ≡
    cond (eqb v.place u.place) (given_order bytes ∷ []) []
order_given u v bytes None = refl
order_given u v bytes (Some id) = refl

-- SET VAR
set_has : (s : Seen) (a : AskerSeen) (ups : Option (List ℕ)) (name value : List ℕ) (u : UpsId)
    (line : List ℕ) (id : Option ℕ)
    → ComesOf s a (commands.SetVar ups (Some name) (Some value)) (order_to u line id) → HasRight s a rights.Set
set_has s a ups name value u line None (inl set) = set.by_right.has
set_has s a ups name value u line None (inr other) = cc other.by_right.is
set_has s a ups name value u line (Some id) (inl set) = set.by_right.has
set_has s a ups name value u line (Some id) (inr other) = cc other.by_right.is

pub set_row : (s : ServerState) (c : ℕ) (line ups name value : List ℕ)
    → read_command line ≡ Ok (Some (commands.SetVar (Some ups) (Some name) (Some value)))
    → IsOrderRow s c line ups rights.Set (set_line name value)
unfolding answer
set_row s c line ups name value read =
    row_of s c line ups (commands.SetVar (Some ups) (Some name) (Some value)) rights.Set (set_line name value) read
    (set_either (seen s) (asker c s) (Some ups) (Some name) (Some value)) gives
    (λ known id. set_has (seen s) (asker c s) (Some ups) name value known.id (set_line name value id) id)
  where
    gives : (known : KnownUps) (id : Option ℕ) → ups_named (seen s) (Some ups) ≡ Some known
        → IsIdOfOrder (seen s) (asker c s) id
        → text_of_answer (answer_to (seen s) (asker c s) (commands.SetVar (Some ups) (Some name) (Some value)))
        ≡ line_of (ok_words id)
        → change_of_answer (answer_to (seen s) (asker c s) (commands.SetVar (Some ups) (Some name) (Some value)))
        ≡ order_to known.id (set_line name value id) id
    gives known None named is e =
        each_order_answered_ok_is_given.set (seen s) (asker c s) (Some ups) name value known named e
    gives known (Some id) named is e =
        each_order_answered_ok_is_given.tracked_set (seen s) (asker c s) (Some ups) name value known id named is.1 e

-- INSTCMD
command_has : (s : Seen) (a : AskerSeen) (ups : Option (List ℕ)) (name : List ℕ) (value : Option (List ℕ))
    (u : UpsId) (line : List ℕ) (id : Option ℕ)
    → ComesOf s a (commands.InstCmd ups (Some name) (value_given value)) (order_to u line id)
    → HasRight s a (right_to name)
command_has s a ups name value u line None (inl other) = cc other.by_right.is
command_has s a ups name value u line None (inr order) =
    let same : order.name ≡ name = cc order.by_right.is in
    subst (λ n. HasRight s a (right_to n)) same order.by_right.has
command_has s a ups name value u line (Some id) (inl other) = cc other.by_right.is
command_has s a ups name value u line (Some id) (inr order) =
    let same : order.name ≡ name = cc order.by_right.is in
    subst (λ n. HasRight s a (right_to n)) same order.by_right.has

pub command_row : (s : ServerState) (c : ℕ) (line ups name : List ℕ) (value : Option (List ℕ))
    → read_command line ≡ Ok (Some (commands.InstCmd (Some ups) (Some name) (value_given value)))
    → IsOrderRow s c line ups (right_to name) (instcmd_line name value)
unfolding answer
command_row s c line ups name value read =
    row_of s c line ups (commands.InstCmd (Some ups) (Some name) (value_given value)) (right_to name)
    (instcmd_line name value) read
    (command_either (seen s) (asker c s) (Some ups) (Some name) (value_given value)) gives
    (λ known id. command_has (seen s) (asker c s) (Some ups) name value known.id (instcmd_line name value id) id)
  where
    gives : (known : KnownUps) (id : Option ℕ) → ups_named (seen s) (Some ups) ≡ Some known
        → IsIdOfOrder (seen s) (asker c s) id
        → text_of_answer (answer_to (seen s) (asker c s)
        (commands.InstCmd (Some ups) (Some name) (value_given value))) ≡ line_of (ok_words id)
        → change_of_answer (answer_to (seen s) (asker c s)
        (commands.InstCmd (Some ups) (Some name) (value_given value)))
        ≡ order_to known.id (instcmd_line name value id) id
    gives known None named is e =
        each_order_answered_ok_is_given.command (seen s) (asker c s) (Some ups) name value known named e
    gives known (Some id) named is e =
        each_order_answered_ok_is_given.tracked_command (seen s) (asker c s) (Some ups) name value known id named is.1 e

-- what is printed of an order that was given, tracked or not
prints_same : (a b : List ℕ) → Prints a ≡ Prints b → a ≡ b
prints_same a b e = cc e

module _ (request : Request) (more text bytes : List ℕ) where
  -- what is printed of a reply
  pub printed_by : (said : List ℕ) (r : Reply) → bytes ≡ said → client_reply request (said ++ more) ≡ r →
      printed (request ∷ []) forms.Value (bytes ++ more) ≡
      printed_of forms.Value (reply_behind r (λ items rest. Whole items rest))
  printed_by said r e f = ap (λ t. printed (request ∷ []) forms.Value (t ++ more)) e ∙
      ap (λ (r : Reply). printed_of forms.Value (reply_behind r (λ items rest. Whole items rest))) f

  pub printed_untracked : is_granted_by_ok request ≡ true → (id : Option ℕ) → bytes ≡ line_of (ok_words id)
      → printed (request ∷ []) forms.Value (bytes ++ more) ≡ Prints text
      → (is_some id ≡ false) × (text ≡ granted_text id)
  printed_untracked by_ok None e h =
      (refl, prints_same text (line_of ok) (sym h ∙ printed_by _ _ e (granted_read request more by_ok)))
  printed_untracked by_ok (Some id) e h = absurd (cc (sym h ∙ printed_by _ _ e (unwanted_id request id more by_ok)))

  pub printed_tracked : WantsId request → (id : Option ℕ) → bytes ≡ line_of (ok_words id)
      → printed (request ∷ []) forms.Value (bytes ++ more) ≡ Prints text
      → (is_some id ≡ true) × (text ≡ granted_text id)
  printed_tracked wants None e h = absurd (cc (sym h ∙ printed_by _ _ e (missing_id request wants more)))
  printed_tracked wants (Some id) e h = elim (wanted_id request wants more id) [
    | inl bad ↦ absurd (cc (sym h ∙ printed_by _ _ e bad))
    | inr whole ↦ (
      refl,
      prints_same text (line_of (id_text id ∷ []))
          (sym h ∙ printed_by _ _ e whole ∙ ap Prints (append-nil (id_text id ++ 10 ∷ []))),
    )
  ]
