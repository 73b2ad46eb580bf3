-- An order whose id a client printed was given with that id.
use Rattle.std.proofs.Common.{◌≡◌, ◌∙◌, inl, inr, ℕ, true, true≢false, List, [], ◌∷◌, ◌++◌}
use Rattle.std.proofs.Common.{Option, Some, None, refl, sym, ap}
use Rattle.std.specs.Prelude.{is_some}
use Rattle.std.specs.Option.{option_map_or}
use Rattle.nutwords.specs.Frame.{line_of}
use Rattle.nutusers.specs.declared.rights.Right.{Right}
use Rattle.nutusers.specs.declared.rights.Right.TheVariants as rights
use Rattle.nutcommand.specs.Command.{read_command}
use Rattle.nutanswer.specs.Orders.{ok_words, right_to, set_line, instcmd_line, order as order_to}
use Rattle.nutanswer.specs.Rows.{IsIdOfOrder}
use Rattle.nutanswer.specs.declared.reply.Change.{Change}
use Rattle.nutcore.specs.DriverOrders.{given_by_change}
use Rattle.nutcore.specs.Reply.{seen, asker, reply, change_by, changed, changed_session}
use Rattle.nutcore.specs.Reply.{changed_upses, changed_tracking}
use Rattle.nutcore.specs.Server.{ServerState, session, with_session, with_session_changed}
use Rattle.nutcore.specs.Session.{SessionState}
use Rattle.nutrequest.specs.declared.request.Request.{Request}
use Rattle.nutrequest.specs.declared.request.Request.TheVariants as requests
use Rattle.nutclient.specs.Printed.{Prints, printed}
use Rattle.nutclient.specs.declared.form.Form.TheVariants as forms
use Rattle.endtoend.specs.OneOrder.{granted_text}
use Rattle.endtoend.specs.Tracked.{IsOrderedWithId, ATrackedOrderThatIsPrintedIsGiven}
use Rattle.endtoend.proofs.Ids.{WantsId}
use Rattle.endtoend.proofs.OrderRows.{IsOrderRow, set_row, command_row, order_given, printed_by, printed_tracked}
use Rattle.endtoend.proofs.Refused.{refused_read}

-- what a change does to the kept orders, whether or not its session is there
tracking_kept : (f : SessionState → SessionState) (c : ℕ) (s : ServerState) →
    (with_session_changed f c s).tracking ≡ s.tracking
unfolding with_session_changed
tracking_kept f c s = by_session (session c s)
  where
    by_session : (o : Option SessionState) → (option_map_or (λ x. with_session s (f x)) o s).tracking ≡ s.tracking
    by_session None = refl
    by_session (Some x) = refl

tracking_changed : (change : Change) (c : ℕ) (s : ServerState) →
    (changed change c s).tracking ≡ changed_tracking change s.tracking
tracking_changed change c s = tracking_kept (changed_session change) c
    (record s { upses = changed_upses change s.upses; tracking = changed_tracking change s.tracking })

module _ (s : ServerState) (c : ℕ) (line ups : List ℕ) (right : Right) (bytes : Option ℕ → List ℕ)
    (request : Request) (wants : WantsId request) (more text : List ℕ) where
  tracked_order : IsOrderRow s c line ups right bytes
      → printed (request ∷ []) forms.Value (reply s c line ++ more) ≡ Prints text
      → IsOrderedWithId s c line ups (λ id. bytes (Some id)) text
  tracked_order (inl (quiet, (word, e))) h =
      absurd (cc (sym (printed_by request more text (reply s c line) _ _ e (refused_read request word more)) ∙ h))
  tracked_order (inr o) h =
      by o.id o.id_is o.answered o.change_is
      (printed_tracked request more text (reply s c line) wants o.id o.answered h)
    where
      by : (id : Option ℕ) → IsIdOfOrder (seen s) (asker c s) id → reply s c line ≡ line_of (ok_words id)
          → change_by s c (read_command line) ≡ order_to o.known.id (bytes id) id
          → (is_some id ≡ true) × (text ≡ granted_text id)
          → IsOrderedWithId s c line ups (λ id. bytes (Some id)) text
      by None is answered change granted = absurd (true≢false (sym granted.0))
      by (Some id) is answered change granted = record {
        known = o.known;
        id = id;
        named = o.named;
        first = is.1;
        answered = answered;
        given = λ u. ap (given_by_change u) change ∙ order_given u o.known.id (bytes (Some id)) (Some id);
        kept = tracking_changed (change_by s c (read_command line)) c s ∙
            ap (λ (x : Change). changed_tracking x s.tracking) change;
        text_is = granted.1;
      }

pub tracked_orders_given : ATrackedOrderThatIsPrintedIsGiven
tracked_orders_given = record {
  set = λ s c line ups name value more text asked e h.
      tracked_order s c line ups rights.Set (set_line name value) (requests.TrackedSetVar ups name value)
      (record { expected = λ words. refl; whole = λ value rest. refl }) more text
      (set_row s c line ups name value (asked line e)) h;
  command = λ s c line ups name value more text asked e h.
      tracked_order s c line ups (right_to name) (instcmd_line name value)
      (requests.TrackedInstcmd ups name value)
      (record { expected = λ words. refl; whole = λ value rest. refl }) more text
      (command_row s c line ups name value (asked line e)) h;
}
