-- Tracked orders from the screen to the driver, and what `upsc --tracked` prints.
use Rattle.std.specs.Prelude.{◌≡◌, ◌<◌, ◌==◌, ℕ, List, [], ◌∷◌, ◌++◌, length, Option, Some, None}
use Rattle.std.specs.Prelude.{if◌then◌else◌}
use Rattle.nutwords.specs.Frame.{line_of}
use Rattle.nuttracking.specs.declared.limits.TheConstants.{ORDER_LIMIT}
use Rattle.nuttracking.specs.Acts.{given, first_report}
use Rattle.nuttracking.specs.Id.{id_text, read_id}
use Rattle.nuttracking.specs.Sound.{HaveLawfulNumbers}
use Rattle.nuttracking.specs.Tracking.{next_id, with_order, progress_of}
use Rattle.nuttracking.specs.declared.order.Progress.{Progress}
use Rattle.nutusers.specs.declared.ups_list.UpsId.{UpsId}
use Rattle.nutlisting.specs.Lines.{progress_words}
use Rattle.nutanswer.specs.Checks.{KnownUps, ups_named}
use Rattle.nutcommand.specs.ErrWord.{spelling_of}
use Rattle.nutanswer.specs.Orders.{set_line, instcmd_line, ok_words}
use Rattle.nutcommand.specs.declared.err_word.ErrWord.TheVariants.{InvalidArgument}
use Rattle.nutcore.specs.declared.event.Event.{Event}
use Rattle.nutcore.specs.declared.event.Outcome.{Outcome}
use Rattle.nutcore.specs.DriverOrders.{order, given_by_line}
use Rattle.nutcore.specs.History.{of_line}
use Rattle.nutcore.specs.Reply.{seen, reply, after_change}
use Rattle.nutcore.specs.Run.{Run}
use Rattle.nutcore.specs.Server.{ServerState}
use Rattle.nutcore.specs.Sound.{IsSound}
use Rattle.nutcore.specs.TrackedRuns.{acts}
use Rattle.nutrequest.specs.declared.faults.ClientFault.TheVariants.{ErrWord as ServerRefused}
use Rattle.nutrequest.specs.declared.request.Request.TheVariants as requests
use Rattle.nutclient.specs.Printed.{Prints, Faults, printed}
use Rattle.nutclient.specs.declared.form.Form.TheVariants as forms
use Rattle.endtoend.specs.Served.{IsLineOf, IsReadAsAsked}

-- The line was answered by OK and the first available id. It gives the driver of this UPS the order
-- with that id, once, and no other driver anything. The order is kept, pending, with that id. What
-- was printed is the id.
pub record IsOrderedWithId (s : ServerState) (c : ℕ) (line ups : List ℕ) (bytes : ℕ → List ℕ)
    (text : List ℕ) : Type 0 where
  pub known : KnownUps
  pub id : ℕ
  pub named : ups_named (seen s) (Some ups) ≡ Some known
  pub first : next_id s.tracking ≡ Some id
  pub answered : reply s c line ≡ line_of (ok_words (Some id))
  pub given : (u : UpsId) → given_by_line u (of_line s c line)
      ≡ (if known.id.place == u.place then order (bytes id) ∷ [] else [])
  pub kept : (after_change s c line).tracking ≡ with_order known.id.place s.tracking
  pub text_is : text ≡ line_of (id_text id ∷ [])

-- Whatever comes after the server's answer to the order of `upsrw --track -s` or
-- `upscmd --track`: where a text is printed, the order was given with an id.
pub record ATrackedOrderThatIsPrintedIsGiven : Type 0 where
  pub set : (s : ServerState) (c : ℕ) (line ups name value more text : List ℕ)
      → IsReadAsAsked (requests.TrackedSetVar ups name value) →
      IsLineOf (requests.TrackedSetVar ups name value) line
      → printed (requests.TrackedSetVar ups name value ∷ []) forms.Value (reply s c line ++ more)
      ≡ Prints text
      → IsOrderedWithId s c line ups (λ id. set_line name value (Some id)) text
  pub command : (s : ServerState) (c : ℕ) (line ups name : List ℕ) (value : Option (List ℕ))
      (more text : List ℕ)
      → IsReadAsAsked (requests.TrackedInstcmd ups name value)
      → IsLineOf (requests.TrackedInstcmd ups name value) line
      → printed (requests.TrackedInstcmd ups name value ∷ []) forms.Value (reply s c line ++ more)
      ≡ Prints text
      → IsOrderedWithId s c line ups (λ id. instcmd_line name value (Some id)) text

-- `upsc --tracked text`, of a text that is an id. known: how far the order of this id has come is
-- printed, where the order is kept, and the numbers of the kept orders are lawful, as those of
-- every server that events made are. unknown: where no kept order has the id, nothing is printed,
-- and the job ends with INVALID-ARGUMENT.
pub record UpscPrintsHowFarAnOrderHasCome : Type 0 where
  pub known : (s : ServerState) (client id : ℕ) (text line : List ℕ) (progress : Progress)
      (more : List ℕ) → read_id text ≡ Some id → HaveLawfulNumbers s.tracking.orders
      → progress_of id s.tracking ≡ Some progress → IsLineOf (requests.GetTracking id) line
      → printed (requests.GetTracking id ∷ []) forms.Value (reply s client line ++ more)
      ≡ Prints (line_of (progress_words progress))
  pub unknown : (s : ServerState) (client id : ℕ) (text line more : List ℕ)
      → read_id text ≡ Some id
      → progress_of id s.tracking ≡ None → IsLineOf (requests.GetTracking id) line
      → printed (requests.GetTracking id ∷ []) forms.Value (reply s client line ++ more)
      ≡ Faults (ServerRefused (spelling_of InvalidArgument))

-- What is printed of an order that was given with an id. On every server to which a run leads from
-- the ids and orders that its line left, that is PENDING up to the first report on the id by the
-- driver of its UPS, and from then on what that said, unless 256 orders were given meanwhile.
abbrev pub UpscPrintsWhatItsDriverReported : Type 0
UpscPrintsWhatItsDriverReported =
    (s left new : ServerState) (c : ℕ) (line ups text : List ℕ) (bytes : ℕ → List ℕ)
    (events : List Event) (outcomes : List Outcome) (client : ℕ) (asks more : List ℕ) → IsSound s
    → (o : IsOrderedWithId s c line ups bytes text) → IsSound left
    → left.tracking ≡ (after_change s c line).tracking → Run left events outcomes new
    → length (given left.tracking (acts left events outcomes)) < ORDER_LIMIT
    → IsLineOf (requests.GetTracking o.id) asks
    → printed (requests.GetTracking o.id ∷ []) forms.Value (reply new client asks ++ more)
    ≡ Prints (line_of (progress_words
    (first_report o.known.id.place o.id (acts left events outcomes))))
